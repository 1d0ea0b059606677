use Rattle.std.proofs.Common.{◌∙◌, ◌++◌, ◌∷◌, [], ap, append_assoc, sym}
use Rattle.st_names.specs.Name.{Components}
use Rattle.st_model.specs.Tree.{object_of}
use Rattle.st_tree.proofs.Trees.{child_led, child_made, lost_below, made_within}
use Rattle.st_tree.proofs.tree.Tree.child.Goals as goal

pub entry-requires : goal.entry-requires
entry-requires c = rw c.deref.ensures.value (made_within _ _ c.args.obj c.self.view_is c.requires)

pub returns-clause-object : goal.returns-clause-object
returns-clause-object c = λ name found.
    rw c.deref.ensures.value at c.entry.ensures
    ∙ child_led c.self.inside.objects.items c.self.invariant c.args.self.now c.self.view_is name c.args.obj c.args.part.now found

pub returns-clause-made : goal.returns-clause-made
returns-clause-made c =
    let held = rw c.deref.ensures.value at c.entry.ensures in
    child_made c.self.inside.objects.items c.self.invariant c.args.self.now c.self.view_is c.args.obj c.args.part.now c.entry.result held

pub returns-clause-below : goal.returns-clause-below
returns-clause-below c = λ none name rest found.
    ap (λ (n : Components). object_of c.args.self.now n) (sym (append_assoc name (c.args.part.now ∷ []) rest))
    ∙ lost_below c.self.inside.objects.items c.self.invariant c.args.self.now c.self.view_is (name ++ c.args.part.now ∷ []) rest
    (sym (returns-clause-object c name found) ∙ none)
