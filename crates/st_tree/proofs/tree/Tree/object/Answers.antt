use Rattle.std.proofs.Common.{sym, ◌∙◌, ap}
use Rattle.std.specs.Result.{result_ok}
use Rattle.st_tree.proofs.Trees.{object_found, none_lost, some_made}
use Rattle.st_tree.proofs.tree.Tree.object.Goals as goal

pub returns-clause-object : goal.returns-clause-object
returns-clause-object c =
    let found = rw c.deref.ensures.value at c.find.ensures.reached in
    rw (← c.self.view_is) (c.ok.ensures.value ∙ ap result_ok found ∙ sym (object_found c.self.inside.objects.items c.self.invariant c.args.name.now))

pub returns-clause-none : goal.returns-clause-none
returns-clause-none c = none_lost c.self.inside.objects.items c.self.invariant c.args.self.now c.args.name.now c.ok.result c.self.view_is (returns-clause-object c)

pub returns-clause-made : goal.returns-clause-made
returns-clause-made c =
    let inside = rw c.deref.ensures.value at c.find.ensures.number in
    rw c.ok.ensures.value (some_made c.self.inside.objects.items c.args.self.now c.find.result c.self.view_is inside)
