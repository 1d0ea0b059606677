use Rattle.std.proofs.Common.{◌∙◌, ap, arith, refl, sym}
use Rattle.std.proofs.lemmas.Result.{err_from_is_err_and}
use Rattle.st_model.specs.Tree.{Node, bytes_after_cut}
use Rattle.st_tree.specs.Objects.{IsNumber}
use Rattle.st_tree.proofs.Kept.{kinds_kept, kinds_same}
use Rattle.st_tree.proofs.Trees.{made_within}
use Rattle.st_tree.proofs.Updates.{content_set, node_before, updated_same}
use Rattle.st_tree.proofs.tree.Tree.cut.Goals as goal

pub index_mut-requires : goal.index_mut-requires
index_mut-requires c =
    let is : IsNumber c.self.inside.objects.items c.args.obj = made_within _ _ c.args.obj c.self.view_is c.requires.0 in
    omega (arith, is.0, is.1)

pub cut-requires : goal.cut-requires
cut-requires c = ap (λ (node : Node). node.kind) (sym (node_before c.self.inside.objects.items c.self.invariant c.args.self.now c.self.view_is c.args.obj c.index_mut.result.now c.index_mut.ensures.value c.requires.0)) ∙ c.requires.1

pub invariant_of-self : goal.invariant_of-self
invariant_of-self c = (updated_same c.self.inside.objects.items c.self.invariant c.args.self.now c.self.view_is c.args.obj c.index_mut.result.now c.cut.new.self c.index_mut.ensures.value c.cut.ensures.entries c.in_err-cut.ensures.err).whole

pub returns-in_err-cut-clause-err : goal.returns-in_err-cut-clause-err
returns-in_err-cut-clause-err c =
    let p = err_from_is_err_and c.from_residual.result c.from_residual.ensures.1 in
    rw p.1 (updated_same c.self.inside.objects.items c.self.invariant c.args.self.now c.self.view_is c.args.obj c.index_mut.result.now c.cut.new.self c.index_mut.ensures.value c.cut.ensures.entries c.in_err-cut.ensures.err).view

pub invariant_of-self-2 : goal.invariant_of-self-2
invariant_of-self-2 c = (content_set c.self.inside.objects.items c.self.invariant c.args.self.now c.self.view_is c.args.obj c.index_mut.result.now c.index_mut.ensures.value c.requires.0 c.cut.new.self (λ content. bytes_after_cut content c.args.len) c.in_ok-cut.ensures.ok c.cut.ensures.entries).whole

pub returns-clause-ok : goal.returns-clause-ok
returns-clause-ok c = (content_set c.self.inside.objects.items c.self.invariant c.args.self.now c.self.view_is c.args.obj c.index_mut.result.now c.index_mut.ensures.value c.requires.0 c.cut.new.self (λ content. bytes_after_cut content c.args.len) c.in_ok-cut.ensures.ok c.cut.ensures.entries).view

pub returns-in_err-cut-clause-kinds : goal.returns-in_err-cut-clause-kinds
returns-in_err-cut-clause-kinds c = kinds_same _ _ (updated_same c.self.inside.objects.items c.self.invariant c.args.self.now c.self.view_is c.args.obj c.index_mut.result.now c.cut.new.self c.index_mut.ensures.value c.cut.ensures.entries c.in_err-cut.ensures.err).view

pub returns-clause-kinds : goal.returns-clause-kinds
returns-clause-kinds c = kinds_kept _ _ c.args.obj _ c.requires.0 refl (returns-clause-ok c)
