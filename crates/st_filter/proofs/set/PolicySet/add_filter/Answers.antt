use Rattle.std.proofs.Common.{◌+◌, ◌-◌, ap, sym, ◌∙◌, arith}
use Rattle.st_filter.specs.Policies.{add_filter, filters_in}
use Rattle.st_filter.proofs.Entries.{kept_set, kept_same, kept_counted, on_err}
use Rattle.st_filter.proofs.set.PolicySet.add_filter.Goals as goal

pub invariant_of-self : goal.invariant_of-self
invariant_of-self c =
    let same = kept_same c.self.inside.policies.entries (c.len-len.result - 1) c.index_mut-filters.result.now c.push.new.self c.index_mut-filters.ensures.value c.in_err-push.ensures.err in
    (c.self.invariant.0, c.self.invariant.1 ∙ ap filters_in (sym same), c.self.invariant.2)

pub returns-in_err-push-clause-err : goal.returns-in_err-push-clause-err
returns-in_err-push-clause-err c =
    let same = kept_same c.self.inside.policies.entries (c.len-len.result - 1) c.index_mut-filters.result.now c.push.new.self c.index_mut-filters.ensures.value c.in_err-push.ensures.err in
    on_err c.from_residual.result (same ∙ c.self.view_is)

pub invariant_of-self-then-len-gt0 : goal.invariant_of-self-then-len-gt0
invariant_of-self-then-len-gt0 c =
    let set = kept_set c.self.inside.policies.entries (c.len-len.result - 1) c.index_mut-filters.result.now c.push.new.self c.args.filter (omega arith) c.index_mut-filters.ensures.value c.in_ok-push.ensures.ok in
    let more = kept_counted c.self.inside.policies.entries (c.len-len.result - 1) c.args.filter (omega arith) in
    (c.self.invariant.0, ap (λ n. n + 1) c.self.invariant.1 ∙ sym more ∙ ap filters_in (sym set), omega (arith, c.requires, c.self.invariant.1, ap filters_in c.self.view_is))

pub returns-in_ok-push-clause-ok : goal.returns-in_ok-push-clause-ok
returns-in_ok-push-clause-ok c =
    kept_set c.self.inside.policies.entries (c.len-len.result - 1) c.index_mut-filters.result.now c.push.new.self c.args.filter (omega arith) c.index_mut-filters.ensures.value c.in_ok-push.ensures.ok
    ∙ ap (λ ps. add_filter ps c.args.filter) c.self.view_is
