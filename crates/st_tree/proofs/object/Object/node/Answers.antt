use Rattle.std.proofs.Common.{◌∙◌, sym}
use Rattle.st_tree.proofs.Entries.{length-sorted_entries}
use Rattle.st_tree.proofs.object.Object.node.Goals as goal
use Rattle.st_tree.proofs.object.Object.node.Goals.{in-Dir, in-File, in-Link}

pub returns-clause-size : goal.returns-clause-size
returns-clause-size c = elim c.match-self.branch [
  | in-Dir w ↦ rw (w.kind-is, w.in-Dir.is) (w.len.ensures.len ∙ sym (length-sorted_entries w.in-Dir.entries.entries w.len.ensures.unique))
  | in-File w ↦ rw (w.kind-is, w.in-File.is) (w.len-in-File.ensures ∙ w.in-File.content.ok.0)
  | in-Link w ↦ rw (w.kind-is, w.in-Link.is) (w.len-in-Link.ensures ∙ w.in-Link.target.ok.0)
]
