use Rattle.std.proofs.Common.{sym, ◌∙◌, ap, arith}
use Rattle.st_model.specs.Tree as tree
use Rattle.st_tree.specs.Objects.{IsNumber}
use Rattle.st_tree.proofs.Trees.{made_within, node_at_number}
use Rattle.st_tree.proofs.tree.Tree.content.Goals as goal

pub index-requires : goal.index-requires
index-requires c =
    let is : IsNumber c.self.inside.objects.items c.args.obj = made_within _ _ c.args.obj c.self.view_is c.requires in
    omega (arith, is.0, is.1)

pub returns : goal.returns
returns c =
    let is : IsNumber c.self.inside.objects.items c.args.obj = made_within _ _ c.args.obj c.self.view_is c.requires in
    rw (← c.self.view_is) (c.content.ensures ∙ ap (λ (n : tree.Node). n.content) (sym (node_at_number c.self.inside.objects.items c.args.obj c.index.result.now is c.index.ensures)))
