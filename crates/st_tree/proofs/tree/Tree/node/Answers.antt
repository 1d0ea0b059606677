use Rattle.std.proofs.Common.{sym, ◌∙◌, ap, arith}
use Rattle.st_model.specs.Tree as tree
use Rattle.st_model.specs.Tree.{is_directory}
use Rattle.st_tree.specs.Objects.{IsNumber}
use Rattle.st_tree.proofs.Trees.{made_within, node_at_number, plain_bare, size_at_number}
use Rattle.st_tree.proofs.tree.Tree.node.Goals as goal

pub index-requires : goal.index-requires
index-requires c =
    let is : IsNumber c.self.inside.objects.items c.args.obj = made_within _ _ c.args.obj c.self.view_is c.requires in
    omega (arith, is.0, is.1)

pub returns-clause-kind : goal.returns-clause-kind
returns-clause-kind c =
    let is : IsNumber c.self.inside.objects.items c.args.obj = made_within _ _ c.args.obj c.self.view_is c.requires in
    rw (← c.self.view_is) (c.node.ensures.kind ∙ ap (λ (n : tree.Node). n.kind) (sym (node_at_number c.self.inside.objects.items c.args.obj c.index.result.now is c.index.ensures)))

pub returns-clause-uid : goal.returns-clause-uid
returns-clause-uid c =
    let is : IsNumber c.self.inside.objects.items c.args.obj = made_within _ _ c.args.obj c.self.view_is c.requires in
    rw (← c.self.view_is) (c.node.ensures.uid ∙ ap (λ (n : tree.Node). n.uid) (sym (node_at_number c.self.inside.objects.items c.args.obj c.index.result.now is c.index.ensures)))

pub returns-clause-gid : goal.returns-clause-gid
returns-clause-gid c =
    let is : IsNumber c.self.inside.objects.items c.args.obj = made_within _ _ c.args.obj c.self.view_is c.requires in
    rw (← c.self.view_is) (c.node.ensures.gid ∙ ap (λ (n : tree.Node). n.gid) (sym (node_at_number c.self.inside.objects.items c.args.obj c.index.result.now is c.index.ensures)))

pub returns-clause-mode : goal.returns-clause-mode
returns-clause-mode c =
    let is : IsNumber c.self.inside.objects.items c.args.obj = made_within _ _ c.args.obj c.self.view_is c.requires in
    rw (← c.self.view_is) (c.node.ensures.mode ∙ ap (λ (n : tree.Node). n.mode) (sym (node_at_number c.self.inside.objects.items c.args.obj c.index.result.now is c.index.ensures)))

pub returns-clause-size : goal.returns-clause-size
returns-clause-size c =
    let is : IsNumber c.self.inside.objects.items c.args.obj = made_within _ _ c.args.obj c.self.view_is c.requires in
    rw (← c.self.view_is) (c.node.ensures.size ∙ sym (size_at_number c.self.inside.objects.items c.args.obj c.index.result.now c.self.invariant is c.index.ensures))

pub returns-clause-plain : goal.returns-clause-plain
returns-clause-plain c = λ plain.
    let is : IsNumber c.self.inside.objects.items c.args.obj = made_within _ _ c.args.obj c.self.view_is c.requires in
    plain_bare c.self.inside.objects.items c.self.invariant c.args.self.now c.self.view_is c.args.obj c.index.result.now is c.index.ensures (ap is_directory (sym c.node.ensures.kind) ∙ plain)
