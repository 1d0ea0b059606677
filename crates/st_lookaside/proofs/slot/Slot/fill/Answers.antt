use Rattle.std.proofs.Common.{◌∙◌, is_some, not, ap, sym}
use Rattle.st_lookaside.specs.Need.{is_finished}
use Rattle.st_lookaside.specs.Part.{with_word}
use Rattle.st_lookaside.specs.Slot.{next_need, slot_progress, Slot}
use Rattle.st_lookaside.specs.declared.need.Need.{Need}
use Rattle.st_lookaside.proofs.Progress.{all_finished, next_at, open_at}
use Rattle.st_lookaside.proofs.Sealed.{still_unsealed, unsealed}
use Rattle.st_lookaside.proofs.Turns.{few_args, here_changed, here_word, in_order, next_again, slot_kept, turn, word_is_due}
use Rattle.st_lookaside.proofs.slot.Slot.fill.Goals as goal

pub unreachable-requires : goal.unreachable-requires
unreachable-requires c = (all_finished c.self.inside.head c.self.inside.parts.items c.deref.result.now (is_some c.self.inside.sealed) c.args.self.now c.self.invariant.slot c.self.view_is c.deref.ensures.value c.in_default.ensures).no_word c.requires

pub fill-requires-clause-need : goal.fill-requires-clause-need
fill-requires-clause-need c = here_word c.self.inside.head c.self.inside.parts.items (is_some c.self.inside.sealed) c.args.self.now c.in-Some.j c.index_mut-part.result.now c.self.invariant.slot c.self.view_is (open_at c.self.inside.head c.self.inside.parts.items c.deref.result.now c.in-Some.j c.index_mut-part.result.now c.self.invariant.slot c.deref.ensures.value c.in-Some.ensures c.index_mut-part.ensures.value) c.requires

pub invariant_of-self : goal.invariant_of-self
invariant_of-self c =
    let at = open_at c.self.inside.head c.self.inside.parts.items c.deref.result.now c.in-Some.j c.index_mut-part.result.now c.self.invariant.slot c.deref.ensures.value c.in-Some.ensures c.index_mut-part.ensures.value in
    still_unsealed c.self.inside.head c.self.inside.parts.items _ c.args.self.now c.self.inside.sealed c.self.invariant c.self.view_is (word_is_due _ c.requires)
    (slot_kept c.self.inside.head c.self.inside.parts.items c.in-Some.j c.index_mut-part.result.now c.fill.new.self c.self.invariant.slot
    (turn c.self.inside.head c.self.inside.parts.items (is_some c.self.inside.sealed) c.args.self.now c.in-Some.j c.index_mut-part.result.now c.self.invariant.slot c.self.view_is at) c.index_mut-part.ensures.value c.fill.ensures.part c.fill.ensures.spec)

pub returns-clause-slot : goal.returns-clause-slot
returns-clause-slot c =
    let at = open_at c.self.inside.head c.self.inside.parts.items c.deref.result.now c.in-Some.j c.index_mut-part.result.now c.self.invariant.slot c.deref.ensures.value c.in-Some.ensures c.index_mut-part.ensures.value in
    here_changed c.self.inside.head c.self.inside.parts.items (is_some c.self.inside.sealed) c.args.self.now c.in-Some.j c.index_mut-part.result.now c.self.invariant.slot c.self.view_is at (λ filled. with_word filled c.args.word) c.fill.new.self (word_is_due _ c.requires) c.fill.ensures.filled

pub returns-clause-order : goal.returns-clause-order
returns-clause-order c =
    let at = open_at c.self.inside.head c.self.inside.parts.items c.deref.result.now c.in-Some.j c.index_mut-part.result.now c.self.invariant.slot c.deref.ensures.value c.in-Some.ensures c.index_mut-part.ensures.value in
    in_order c.self.inside.head c.self.inside.parts.items (is_some c.self.inside.sealed) c.args.self.now c.in-Some.j c.index_mut-part.result.now c.self.invariant.slot c.self.view_is at (word_is_due _ c.requires) (unsealed c.self.inside.head c.self.inside.parts.items c.args.self.now c.self.inside.sealed c.self.invariant c.self.view_is (word_is_due _ c.requires))

pub returns-clause-next : goal.returns-clause-next
returns-clause-next c = c.next.ensures.value ∙ ap (λ (s : Slot). next_need (slot_progress s)) (returns-clause-slot c)

-- if one more word is needed

pub overflow_cast-result : goal.overflow_cast-result
overflow_cast-result c =
    let at = open_at c.self.inside.head c.self.inside.parts.items c.deref.result.now c.in-Some.j c.index_mut-part.result.now c.self.invariant.slot c.deref.ensures.value c.in-Some.ensures c.index_mut-part.ensures.value in
    few_args c.self.inside.head c.self.inside.parts.items (is_some c.self.inside.sealed) c.args.self.now c.in-Some.j c.index_mut-part.result.now c.self.invariant.slot c.self.view_is at

pub returns-in-Word-clause-slot : goal.returns-in-Word-clause-slot
returns-in-Word-clause-slot c =
    let at = open_at c.self.inside.head c.self.inside.parts.items c.deref.result.now c.in-Some.j c.index_mut-part.result.now c.self.invariant.slot c.deref.ensures.value c.in-Some.ensures c.index_mut-part.ensures.value in
    here_changed c.self.inside.head c.self.inside.parts.items (is_some c.self.inside.sealed) c.args.self.now c.in-Some.j c.index_mut-part.result.now c.self.invariant.slot c.self.view_is at (λ filled. with_word filled c.args.word) c.fill.new.self (word_is_due _ c.requires) c.fill.ensures.filled

pub returns-in-Word-clause-next : goal.returns-in-Word-clause-next
returns-in-Word-clause-next c =
    let at = open_at c.self.inside.head c.self.inside.parts.items c.deref.result.now c.in-Some.j c.index_mut-part.result.now c.self.invariant.slot c.deref.ensures.value c.in-Some.ensures c.index_mut-part.ensures.value in
    ap (next_at c.in-Some.j) (sym c.in-Word.is)
    ∙ next_again c.self.inside.head c.self.inside.parts.items (is_some c.self.inside.sealed) c.args.self.now _ c.in-Some.j c.index_mut-part.result.now c.fill.new.self c.self.invariant.slot c.self.view_is at
    c.fill.ensures.part c.fill.ensures.spec (ap (λ (n : Need). not (is_finished n)) c.in-Word.is) (returns-in-Word-clause-slot c)

pub returns-in-Word-clause-order : goal.returns-in-Word-clause-order
returns-in-Word-clause-order c =
    let at = open_at c.self.inside.head c.self.inside.parts.items c.deref.result.now c.in-Some.j c.index_mut-part.result.now c.self.invariant.slot c.deref.ensures.value c.in-Some.ensures c.index_mut-part.ensures.value in
    in_order c.self.inside.head c.self.inside.parts.items (is_some c.self.inside.sealed) c.args.self.now c.in-Some.j c.index_mut-part.result.now c.self.invariant.slot c.self.view_is at (word_is_due _ c.requires) (unsealed c.self.inside.head c.self.inside.parts.items c.args.self.now c.self.inside.sealed c.self.invariant c.self.view_is (word_is_due _ c.requires))

pub invariant_of-self-2 : goal.invariant_of-self-2
invariant_of-self-2 c =
    let at = open_at c.self.inside.head c.self.inside.parts.items c.deref.result.now c.in-Some.j c.index_mut-part.result.now c.self.invariant.slot c.deref.ensures.value c.in-Some.ensures c.index_mut-part.ensures.value in
    still_unsealed c.self.inside.head c.self.inside.parts.items _ c.args.self.now c.self.inside.sealed c.self.invariant c.self.view_is (word_is_due _ c.requires)
    (slot_kept c.self.inside.head c.self.inside.parts.items c.in-Some.j c.index_mut-part.result.now c.fill.new.self c.self.invariant.slot
    (turn c.self.inside.head c.self.inside.parts.items (is_some c.self.inside.sealed) c.args.self.now c.in-Some.j c.index_mut-part.result.now c.self.invariant.slot c.self.view_is at) c.index_mut-part.ensures.value c.fill.ensures.part c.fill.ensures.spec)
