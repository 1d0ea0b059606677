use Rattle.std.proofs.Common.{sym, ap, Err, ◌∙◌}
use Rattle.st_tree.proofs.Trees.{look_found, look_gap, seen_reached}
use Rattle.st_tree.proofs.tree.Tree.look.Goals as goal

pub returns-in-Ok : goal.returns-in-Ok
returns-in-Ok c =
    let found = rw c.deref.ensures.value at c.in-Ok.ensures.reached in
    let number = rw c.deref.ensures.value at c.in-Ok.ensures.number in
    rw (← c.self.view_is) (c.seen.ensures ∙ sym (look_found c.self.inside.objects.items c.self.invariant c.args.name.now c.in-Ok.obj c.index.result.now found number c.index.ensures))

pub returns-in-Err-Missing : goal.returns-in-Err-Missing
returns-in-Err-Missing c =
    let lost = rw c.deref.ensures.value at c.in-Err-Missing.ensures.reached in
    rw (← c.self.view_is) (ap (λ gap. seen_reached c.self.inside.objects.items (Err gap)) (sym c.in-Err-Missing.field-0-is) ∙ sym (look_gap c.self.inside.objects.items c.self.invariant c.args.name.now _ lost))

pub returns-in-Err-NotDir : goal.returns-in-Err-NotDir
returns-in-Err-NotDir c =
    let lost = rw c.deref.ensures.value at c.in-Err-NotDir.ensures.reached in
    rw (← c.self.view_is) (ap (λ gap. seen_reached c.self.inside.objects.items (Err gap)) (sym c.in-Err-NotDir.field-0-is) ∙ sym (look_gap c.self.inside.objects.items c.self.invariant c.args.name.now _ lost))
