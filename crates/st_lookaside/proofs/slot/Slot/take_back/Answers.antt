use Rattle.std.proofs.Common.{◌∙◌, List, false, is_some, refl, subst}
use Rattle.st_lookaside.specs.Part.{Filled, with_lookup, with_word}
use Rattle.st_lookaside.specs.Slot.{part_at, part_next, slot_progress, AreNotBegun, IsLastBegun}
use Rattle.st_lookaside.specs.declared.part.Part.{Part}
use Rattle.st_lookaside.proofs.Turns.{look_is_due, slot_kept, view_with, word_is_due}
use Rattle.st_lookaside.proofs.Undone.{changed_begun, changed_last, some_look, some_word, turn_of_last, undone, unsealed_now}
use Rattle.st_lookaside.proofs.slot.Slot.take_back.Goals as goal

pub invariant_of-self : goal.invariant_of-self
invariant_of-self c = record {
  slot = slot_kept c.self.inside.head c.self.inside.parts.items c.in-Some.j c.index_mut-part.result.now c.take_back.new.self c.self.invariant.slot
      (turn_of_last c.self.inside.head c.self.inside.parts.items c.in-Some.j c.self.invariant.slot (subst (λ (l : List Part). IsLastBegun l c.in-Some.j) c.deref.ensures.value c.in-Some.ensures.some))
      c.index_mut-part.ensures.value c.take_back.ensures.part c.take_back.ensures.spec;
  sealed = tt;
}

pub returns-in-Some-clause-word : goal.returns-in-Some-clause-word
returns-in-Some-clause-word c = λ before word order next is.
    let head = c.self.inside.head in
    let parts : List Part = c.self.inside.parts.items in
    let part : Part = c.index_mut-part.result.now in
    let filled : Filled = part_at before.parts (part_next (slot_progress before)) in
    let due = word_is_due _ next in
    let view = unsealed_now head parts (is_some c.self.inside.sealed) c.args.self.now before (with_word filled word) c.self.invariant.slot c.self.view_is order due (some_word filled word) is in
    let last = changed_last head parts false c.args.self.now before (with_word filled word) c.self.invariant.slot view order due (some_word filled word) is c.in-Some.j part (subst (λ (l : List Part). IsLastBegun l c.in-Some.j) c.deref.ensures.value c.in-Some.ensures.some) c.index_mut-part.ensures.value in
    view_with head parts false c.args.self.now c.in-Some.j c.take_back.new.self filled view (c.take_back.ensures.word filled word (order.unseen next) last.1)
    ∙ undone head parts false c.args.self.now before (with_word filled word) c.self.invariant.slot view order due (some_word filled word) is c.in-Some.j last.0

pub returns-in_default-clause-word : goal.returns-in_default-clause-word
returns-in_default-clause-word c = λ before word order next is.
    let filled : Filled = part_at before.parts (part_next (slot_progress before)) in
    absurd (changed_begun c.self.inside.head c.self.inside.parts.items (is_some c.self.inside.sealed) c.args.self.now before (with_word filled word) c.self.invariant.slot c.self.view_is order (word_is_due _ next) (some_word filled word) is
    (subst (λ (l : List Part). AreNotBegun l 0) c.deref.ensures.value (c.in_default.ensures.none refl)))

pub returns-in-Some-clause-look : goal.returns-in-Some-clause-look
returns-in-Some-clause-look c = λ before seen order next is.
    let head = c.self.inside.head in
    let parts : List Part = c.self.inside.parts.items in
    let part : Part = c.index_mut-part.result.now in
    let filled : Filled = part_at before.parts (part_next (slot_progress before)) in
    let due = look_is_due _ next in
    let view = unsealed_now head parts (is_some c.self.inside.sealed) c.args.self.now before (with_lookup filled seen) c.self.invariant.slot c.self.view_is order due (some_look filled seen) is in
    let last = changed_last head parts false c.args.self.now before (with_lookup filled seen) c.self.invariant.slot view order due (some_look filled seen) is c.in-Some.j part (subst (λ (l : List Part). IsLastBegun l c.in-Some.j) c.deref.ensures.value c.in-Some.ensures.some) c.index_mut-part.ensures.value in
    view_with head parts false c.args.self.now c.in-Some.j c.take_back.new.self filled view (c.take_back.ensures.seen filled seen last.1)
    ∙ undone head parts false c.args.self.now before (with_lookup filled seen) c.self.invariant.slot view order due (some_look filled seen) is c.in-Some.j last.0

pub returns-in_default-clause-look : goal.returns-in_default-clause-look
returns-in_default-clause-look c = λ before seen order next is.
    let filled : Filled = part_at before.parts (part_next (slot_progress before)) in
    absurd (changed_begun c.self.inside.head c.self.inside.parts.items (is_some c.self.inside.sealed) c.args.self.now before (with_lookup filled seen) c.self.invariant.slot c.self.view_is order (look_is_due _ next) (some_look filled seen) is
    (subst (λ (l : List Part). AreNotBegun l 0) c.deref.ensures.value (c.in_default.ensures.none refl)))
