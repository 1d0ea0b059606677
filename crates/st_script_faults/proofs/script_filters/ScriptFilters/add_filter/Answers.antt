use Rattle.std.proofs.Common.{◌-◌, ◌∙◌, List, ap, arith}
use Rattle.st_filter.specs.Policies.{add_filter}
use Rattle.st_filter.specs.declared.set.BinaryPolicy.{BinaryPolicy}
use Rattle.st_script_faults.proofs.LastPolicy.{last_changed}
use Rattle.st_script_faults.specs.Faults.{ScriptFiltersValue}
use Rattle.st_script_faults.proofs.script_filters.ScriptFilters.add_filter.Goals as goal

pub returns-in_ok-push : goal.returns-in_ok-push
returns-in_ok-push c =
    ap (λ (blocks : List BinaryPolicy). record { replies = c.self.inside.replies; blocks = blocks })
    (last_changed c.self.inside.blocks.items (c.len-len.result - 1) c.index_mut.result.now c.push.new.self c.args.filter (omega arith) c.index_mut.ensures.value c.in_ok-push.ensures.ok) ∙
    ap (λ (held : ScriptFiltersValue). record { replies = held.replies; blocks = add_filter held.blocks c.args.filter }) c.self.view_is
