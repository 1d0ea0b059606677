use Rattle.std.proofs.Common.{◌≡◌, IfOk, arith, drop, subst, sym, take}
use Rattle.st_model.specs.Tree as tree
use Rattle.st_tree.specs.Objects.{IsNumber}
use Rattle.st_tree.proofs.Trees.{made_within, node_at_number}
use Rattle.st_tree.proofs.tree.Tree.read.Goals as goal

pub index-requires : goal.index-requires
index-requires c =
    let is : IsNumber c.self.inside.objects.items c.args.obj = made_within _ _ c.args.obj c.self.view_is c.requires.0 in
    omega (arith, is.0, is.1)

pub returns-clause-bytes : goal.returns-clause-bytes
returns-clause-bytes c =
    let is : IsNumber c.self.inside.objects.items c.args.obj = made_within _ _ c.args.obj c.self.view_is c.requires.0 in
    rw (← c.self.view_is)
    (subst (λ (node : tree.Node). IfOk c.read.result (λ text. text ≡ take c.args.count (drop c.args.at node.content)))
    (sym (node_at_number c.self.inside.objects.items c.args.obj c.index.result.now is c.index.ensures)) c.read.ensures.bytes)
