use Rattle.std.proofs.Common.{arith}
use Rattle.st_tree.proofs.Trees.{count_made}
use Rattle.st_tree.proofs.tree.Tree.made.Goals as goal

pub returns-clause-count : goal.returns-clause-count
returns-clause-count c = rw (← c.self.view_is) (omega (arith, c.len.ensures, count_made c.self.inside.objects.items))

pub returns-clause-few : goal.returns-clause-few
returns-clause-few c = omega (arith, c.len.ensures, c.self.invariant.few)
