use Rattle.std.proofs.Common.{◌∙◌, is_some, not, ap, sym}
use Rattle.st_names.specs.Seen.{seen_text}
use Rattle.st_lookaside.specs.Need.{is_finished}
use Rattle.st_lookaside.specs.Part.{with_lookup}
use Rattle.st_lookaside.specs.Slot.{next_need, slot_progress, Slot}
use Rattle.st_lookaside.specs.declared.need.Need.{Need}
use Rattle.st_lookaside.proofs.Progress.{all_finished, next_at, open_at}
use Rattle.st_lookaside.proofs.Sealed.{still_unsealed, unsealed}
use Rattle.st_lookaside.proofs.Turns.{few_args, here_changed, here_look, here_same, in_order, look_is_due, next_again, on_err_by, slot_kept, turn}
use Rattle.st_lookaside.proofs.slot.Slot.take_look.Goals as goal

pub unreachable-requires : goal.unreachable-requires
unreachable-requires c = (all_finished c.self.inside.head c.self.inside.parts.items c.deref.result.now (is_some c.self.inside.sealed) c.args.self.now c.self.invariant.slot c.self.view_is c.deref.ensures.value c.in_default.ensures).no_look c.requires

pub take_look-requires-clause-need : goal.take_look-requires-clause-need
take_look-requires-clause-need c =
    let at = open_at c.self.inside.head c.self.inside.parts.items c.deref.result.now c.in-Some.j c.index_mut-part.result.now c.self.invariant.slot c.deref.ensures.value c.in-Some.ensures c.index_mut-part.ensures.value in
    here_look c.self.inside.head c.self.inside.parts.items (is_some c.self.inside.sealed) c.args.self.now c.in-Some.j c.index_mut-part.result.now c.self.invariant.slot c.self.view_is at c.requires

pub invariant_of-self : goal.invariant_of-self
invariant_of-self c =
    let at = open_at c.self.inside.head c.self.inside.parts.items c.deref.result.now c.in-Some.j c.index_mut-part.result.now c.self.invariant.slot c.deref.ensures.value c.in-Some.ensures c.index_mut-part.ensures.value in
    still_unsealed c.self.inside.head c.self.inside.parts.items _ c.args.self.now c.self.inside.sealed c.self.invariant c.self.view_is (look_is_due _ c.requires)
    (slot_kept c.self.inside.head c.self.inside.parts.items c.in-Some.j c.index_mut-part.result.now c.take_look.new.self c.self.invariant.slot
    (turn c.self.inside.head c.self.inside.parts.items (is_some c.self.inside.sealed) c.args.self.now c.in-Some.j c.index_mut-part.result.now c.self.invariant.slot c.self.view_is at) c.index_mut-part.ensures.value c.take_look.ensures.part c.take_look.ensures.spec)

pub invariant_of-self-2 : goal.invariant_of-self-2
invariant_of-self-2 c =
    let at = open_at c.self.inside.head c.self.inside.parts.items c.deref.result.now c.in-Some.j c.index_mut-part.result.now c.self.invariant.slot c.deref.ensures.value c.in-Some.ensures c.index_mut-part.ensures.value in
    still_unsealed c.self.inside.head c.self.inside.parts.items _ c.args.self.now c.self.inside.sealed c.self.invariant c.self.view_is (look_is_due _ c.requires)
    (slot_kept c.self.inside.head c.self.inside.parts.items c.in-Some.j c.index_mut-part.result.now c.take_look.new.self c.self.invariant.slot
    (turn c.self.inside.head c.self.inside.parts.items (is_some c.self.inside.sealed) c.args.self.now c.in-Some.j c.index_mut-part.result.now c.self.invariant.slot c.self.view_is at) c.index_mut-part.ensures.value c.take_look.ensures.part c.take_look.ensures.spec)

pub invariant_of-self-in-Look : goal.invariant_of-self-in-Look
invariant_of-self-in-Look c =
    let at = open_at c.self.inside.head c.self.inside.parts.items c.deref.result.now c.in-Some.j c.index_mut-part.result.now c.self.invariant.slot c.deref.ensures.value c.in-Some.ensures c.index_mut-part.ensures.value in
    still_unsealed c.self.inside.head c.self.inside.parts.items _ c.args.self.now c.self.inside.sealed c.self.invariant c.self.view_is (look_is_due _ c.requires)
    (slot_kept c.self.inside.head c.self.inside.parts.items c.in-Some.j c.index_mut-part.result.now c.take_look.new.self c.self.invariant.slot
    (turn c.self.inside.head c.self.inside.parts.items (is_some c.self.inside.sealed) c.args.self.now c.in-Some.j c.index_mut-part.result.now c.self.invariant.slot c.self.view_is at) c.index_mut-part.ensures.value c.take_look.ensures.part c.take_look.ensures.spec)

pub returns-clause-slot : goal.returns-clause-slot
returns-clause-slot c =
    let at = open_at c.self.inside.head c.self.inside.parts.items c.deref.result.now c.in-Some.j c.index_mut-part.result.now c.self.invariant.slot c.deref.ensures.value c.in-Some.ensures c.index_mut-part.ensures.value in
    here_changed c.self.inside.head c.self.inside.parts.items (is_some c.self.inside.sealed) c.args.self.now c.in-Some.j c.index_mut-part.result.now c.self.invariant.slot c.self.view_is at (λ filled. with_lookup filled (seen_text c.args.seen)) c.take_look.new.self (look_is_due _ c.requires) c.in_ok-take_look.ensures.ok

pub returns-clause-order : goal.returns-clause-order
returns-clause-order c =
    let at = open_at c.self.inside.head c.self.inside.parts.items c.deref.result.now c.in-Some.j c.index_mut-part.result.now c.self.invariant.slot c.deref.ensures.value c.in-Some.ensures c.index_mut-part.ensures.value in
    in_order c.self.inside.head c.self.inside.parts.items (is_some c.self.inside.sealed) c.args.self.now c.in-Some.j c.index_mut-part.result.now c.self.invariant.slot c.self.view_is at (look_is_due _ c.requires) (unsealed c.self.inside.head c.self.inside.parts.items c.args.self.now c.self.inside.sealed c.self.invariant c.self.view_is (look_is_due _ c.requires))

pub returns-clause-next : goal.returns-clause-next
returns-clause-next c = c.next.ensures.value ∙ ap (λ (s : Slot). next_need (slot_progress s)) (returns-clause-slot c)

-- if one more look is needed

pub overflow_cast-result : goal.overflow_cast-result
overflow_cast-result c =
    let at = open_at c.self.inside.head c.self.inside.parts.items c.deref.result.now c.in-Some.j c.index_mut-part.result.now c.self.invariant.slot c.deref.ensures.value c.in-Some.ensures c.index_mut-part.ensures.value in
    few_args c.self.inside.head c.self.inside.parts.items (is_some c.self.inside.sealed) c.args.self.now c.in-Some.j c.index_mut-part.result.now c.self.invariant.slot c.self.view_is at

pub returns-in-Look-clause-slot : goal.returns-in-Look-clause-slot
returns-in-Look-clause-slot c =
    let at = open_at c.self.inside.head c.self.inside.parts.items c.deref.result.now c.in-Some.j c.index_mut-part.result.now c.self.invariant.slot c.deref.ensures.value c.in-Some.ensures c.index_mut-part.ensures.value in
    here_changed c.self.inside.head c.self.inside.parts.items (is_some c.self.inside.sealed) c.args.self.now c.in-Some.j c.index_mut-part.result.now c.self.invariant.slot c.self.view_is at (λ filled. with_lookup filled (seen_text c.args.seen)) c.take_look.new.self (look_is_due _ c.requires) c.in_ok-take_look.ensures.ok

pub returns-in-Look-clause-next : goal.returns-in-Look-clause-next
returns-in-Look-clause-next c =
    let at = open_at c.self.inside.head c.self.inside.parts.items c.deref.result.now c.in-Some.j c.index_mut-part.result.now c.self.invariant.slot c.deref.ensures.value c.in-Some.ensures c.index_mut-part.ensures.value in
    ap (next_at c.in-Some.j) (sym c.in-Look.is)
    ∙ next_again c.self.inside.head c.self.inside.parts.items (is_some c.self.inside.sealed) c.args.self.now _ c.in-Some.j c.index_mut-part.result.now c.take_look.new.self c.self.invariant.slot c.self.view_is at
    c.take_look.ensures.part c.take_look.ensures.spec (ap (λ (n : Need). not (is_finished n)) c.in-Look.is) (returns-in-Look-clause-slot c)

pub returns-in-Look-clause-order : goal.returns-in-Look-clause-order
returns-in-Look-clause-order c =
    let at = open_at c.self.inside.head c.self.inside.parts.items c.deref.result.now c.in-Some.j c.index_mut-part.result.now c.self.invariant.slot c.deref.ensures.value c.in-Some.ensures c.index_mut-part.ensures.value in
    in_order c.self.inside.head c.self.inside.parts.items (is_some c.self.inside.sealed) c.args.self.now c.in-Some.j c.index_mut-part.result.now c.self.invariant.slot c.self.view_is at (look_is_due _ c.requires) (unsealed c.self.inside.head c.self.inside.parts.items c.args.self.now c.self.inside.sealed c.self.invariant c.self.view_is (look_is_due _ c.requires))

-- out of memory

pub returns-in_err-take_look-clause-err : goal.returns-in_err-take_look-clause-err
returns-in_err-take_look-clause-err c =
    let at = open_at c.self.inside.head c.self.inside.parts.items c.deref.result.now c.in-Some.j c.index_mut-part.result.now c.self.invariant.slot c.deref.ensures.value c.in-Some.ensures c.index_mut-part.ensures.value in
    on_err_by c.from_residual.result _ (here_same c.self.inside.head c.self.inside.parts.items (is_some c.self.inside.sealed) c.args.self.now c.in-Some.j c.index_mut-part.result.now c.self.invariant.slot c.self.view_is at c.take_look.new.self c.in_err-take_look.ensures.err)

pub returns-in_err-take_look-clause-order : goal.returns-in_err-take_look-clause-order
returns-in_err-take_look-clause-order c =
    let at = open_at c.self.inside.head c.self.inside.parts.items c.deref.result.now c.in-Some.j c.index_mut-part.result.now c.self.invariant.slot c.deref.ensures.value c.in-Some.ensures c.index_mut-part.ensures.value in
    in_order c.self.inside.head c.self.inside.parts.items (is_some c.self.inside.sealed) c.args.self.now c.in-Some.j c.index_mut-part.result.now c.self.invariant.slot c.self.view_is at (look_is_due _ c.requires) (unsealed c.self.inside.head c.self.inside.parts.items c.args.self.now c.self.inside.sealed c.self.invariant c.self.view_is (look_is_due _ c.requires))
