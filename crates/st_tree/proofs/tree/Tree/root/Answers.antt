use Rattle.st_tree.proofs.Trees.{root_directory, root_is, within_made}
use Rattle.st_tree.proofs.tree.Tree.root.Goals as goal

pub returns-clause-made : goal.returns-clause-made
returns-clause-made c = within_made c.self.inside.objects.items c.args.self.now 1 c.self.view_is (root_is c.self.inside.objects.items c.self.invariant)

pub returns-clause-directory : goal.returns-clause-directory
returns-clause-directory c = root_directory c.self.inside.objects.items c.self.invariant c.args.self.now c.self.view_is
