use Rattle.st_tree.proofs.Entries.{sorted-taken}
use Rattle.st_tree.proofs.object.Object.take.Goals as goal

pub returns-in-Dir-clause-entries : goal.returns-in-Dir-clause-entries
returns-in-Dir-clause-entries c = rw c.in-Dir.is (sorted-taken c.args.part.now c.in-Dir.entries.entries c.swap_remove.new.self.entries c.swap_remove.ensures.updates.1 c.swap_remove.ensures.updates.3)
