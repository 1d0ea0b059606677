use Rattle.std.proofs.Common.{◌∙◌, ap, arith, refl, sym}
use Rattle.std.proofs.lemmas.Result.{err_from_is_err_and}
use Rattle.st_model.specs.Tree.{Node, bytes_after_write}
use Rattle.st_tree.specs.Objects.{IsNumber}
use Rattle.st_tree.proofs.Kept.{kinds_kept, kinds_same}
use Rattle.st_tree.proofs.Trees.{made_within}
use Rattle.st_tree.proofs.Updates.{content_set, node_before, updated_same}
use Rattle.st_tree.proofs.tree.Tree.write.Goals as goal

pub index_mut-requires : goal.index_mut-requires
index_mut-requires c =
    let is : IsNumber c.self.inside.objects.items c.args.obj = made_within _ _ c.args.obj c.self.view_is c.requires.0 in
    omega (arith, is.0, is.1)

pub write-requires-clause-file : goal.write-requires-clause-file
write-requires-clause-file c = ap (λ (node : Node). node.kind) (sym (node_before c.self.inside.objects.items c.self.invariant c.args.self.now c.self.view_is c.args.obj c.index_mut.result.now c.index_mut.ensures.value c.requires.0)) ∙ c.requires.1

pub invariant_of-self : goal.invariant_of-self
invariant_of-self c = (updated_same c.self.inside.objects.items c.self.invariant c.args.self.now c.self.view_is c.args.obj c.index_mut.result.now c.write.new.self c.index_mut.ensures.value c.write.ensures.entries c.in_err-write.ensures.err).whole

pub returns-in_err-write-clause-err : goal.returns-in_err-write-clause-err
returns-in_err-write-clause-err c =
    let p = err_from_is_err_and c.from_residual.result c.from_residual.ensures.1 in
    rw p.1 (updated_same c.self.inside.objects.items c.self.invariant c.args.self.now c.self.view_is c.args.obj c.index_mut.result.now c.write.new.self c.index_mut.ensures.value c.write.ensures.entries c.in_err-write.ensures.err).view

pub invariant_of-self-2 : goal.invariant_of-self-2
invariant_of-self-2 c = (content_set c.self.inside.objects.items c.self.invariant c.args.self.now c.self.view_is c.args.obj c.index_mut.result.now c.index_mut.ensures.value c.requires.0 c.write.new.self (λ content. bytes_after_write content c.args.at c.args.bytes.now) c.in_ok-write.ensures.ok c.write.ensures.entries).whole

pub returns-clause-ok : goal.returns-clause-ok
returns-clause-ok c = (content_set c.self.inside.objects.items c.self.invariant c.args.self.now c.self.view_is c.args.obj c.index_mut.result.now c.index_mut.ensures.value c.requires.0 c.write.new.self (λ content. bytes_after_write content c.args.at c.args.bytes.now) c.in_ok-write.ensures.ok c.write.ensures.entries).view

pub returns-in_err-write-clause-kinds : goal.returns-in_err-write-clause-kinds
returns-in_err-write-clause-kinds c = kinds_same _ _ (updated_same c.self.inside.objects.items c.self.invariant c.args.self.now c.self.view_is c.args.obj c.index_mut.result.now c.write.new.self c.index_mut.ensures.value c.write.ensures.entries c.in_err-write.ensures.err).view

pub returns-clause-kinds : goal.returns-clause-kinds
returns-clause-kinds c = kinds_kept _ _ c.args.obj _ c.requires.0 refl (returns-clause-ok c)
