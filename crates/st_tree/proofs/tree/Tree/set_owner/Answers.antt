use Rattle.std.proofs.Common.{arith, refl}
use Rattle.st_tree.specs.Objects.{IsNumber}
use Rattle.st_tree.proofs.Kept.{kinds_kept}
use Rattle.st_tree.proofs.Trees.{made_within}
use Rattle.st_tree.proofs.Updates.{owner_set}
use Rattle.st_tree.proofs.tree.Tree.set_owner.Goals as goal

pub index_mut-object-requires : goal.index_mut-object-requires
index_mut-object-requires c =
    let is : IsNumber c.self.inside.objects.items c.args.obj = made_within _ _ c.args.obj c.self.view_is c.requires in
    omega (arith, is.0, is.1)

pub invariant_of-self : goal.invariant_of-self
invariant_of-self c = (owner_set c.self.inside.objects.items c.self.invariant c.args.self.now c.self.view_is c.args.obj c.index_mut-object.result.now c.index_mut-object.ensures.value c.requires c.args.uid c.args.gid).whole

pub returns-clause-owner : goal.returns-clause-owner
returns-clause-owner c = (owner_set c.self.inside.objects.items c.self.invariant c.args.self.now c.self.view_is c.args.obj c.index_mut-object.result.now c.index_mut-object.ensures.value c.requires c.args.uid c.args.gid).view

pub returns-clause-kinds : goal.returns-clause-kinds
returns-clause-kinds c = kinds_kept _ _ c.args.obj _ c.requires refl (returns-clause-owner c)
