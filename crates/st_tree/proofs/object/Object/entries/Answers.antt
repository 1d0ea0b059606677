use Rattle.std.proofs.Common.{◌∙◌, sym}
use Rattle.st_tree.proofs.Entries.{length-sorted_entries}
use Rattle.st_tree.proofs.object.Object.entries.Goals as goal

pub returns-in-Dir : goal.returns-in-Dir
returns-in-Dir c = rw c.in-Dir.is (c.len.ensures.len ∙ sym (length-sorted_entries c.in-Dir.entries.entries c.len.ensures.unique))
