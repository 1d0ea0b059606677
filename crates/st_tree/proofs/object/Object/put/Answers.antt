use Rattle.std.proofs.Common.{◌∙◌, ap, List, ℕ}
use Rattle.std.specs.BTreeMap.{insert_entry}
use Rattle.std.specs.Cmp.Lexicographic.{slice_cmp}
use Rattle.std.specs.Ordering.{nat_cmp}
use Rattle.st_tree.proofs.Entries.{sorted-put}
use Rattle.st_tree.specs.Objects.{sorted_entries}
use Rattle.st_tree.proofs.object.Object.put.Goals as goal

pub returns-in_ok-insert-clause-ok : goal.returns-in_ok-insert-clause-ok
returns-in_ok-insert-clause-ok c =
    rw c.in-Dir.is
    (sorted-put c.in_ok-part.part.items c.args.obj c.in-Dir.entries.entries c.insert.new.self.entries c.in_ok-insert.ensures.updates.1 c.in_ok-insert.ensures.updates.3
    ∙ ap (λ (part : List ℕ). insert_entry (slice_cmp nat_cmp) (sorted_entries c.in-Dir.entries.entries) part c.args.obj) c.in_ok-part.ensures.items)
