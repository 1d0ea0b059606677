use Rattle.std.proofs.Common.{◌≡◌, ◌∙◌, ℕ, Some, None, ap, refl, sym, subst, ◌≤◌}
use Rattle.st_lookaside.specs.Slot.{new_slot}
use Rattle.st_lookaside.specs.Slots.{slot_at, ChangesSlot}
use Rattle.st_workers.specs.Refinement.{RepresentsMessages, SameWorkersState}
use Rattle.st_workers.specs.UnderWay.{UnderWay}
use Rattle.st_workers.proofs.Posts.{posted_kept, posted_whole, posted_stays, posted_numbers}
use Rattle.st_workers.proofs.Numbered.{same_numbered}
use Rattle.st_workers.proofs.Same.{next_free, none_then, stands_by, whole_by}
use Rattle.st_workers.specs.Numbers.{AreFew, CarriesNumbers}
use Rattle.st_messages.specs.Messages.{HasNoDrawing, count_in_use, most_in_use, next_seq}
use Rattle.st_law.specs.Numbers.{drawn_as, largest_number}
use Rattle.st_workers.proofs.Few.{few_in_use}
use Rattle.st_workers.proofs.workers.Workers.post.Goals as goal

abbrev old : goal.In-Ok → UnderWay
old c = record { calls = c.self.inside.messages; slots = c.self.inside.slots; turns = c.self.inside.turns.items }

abbrev new : goal.In-Ok → UnderWay
new c = record { calls = c.post.new.self; slots = c.reserve.new.self; turns = c.self.inside.turns.items }

none : (c : goal.In-Ok) → HasNoDrawing (old c).calls c.args.tid
none c = subst (λ (k : UnderWay). HasNoDrawing k.calls c.args.tid) (sym c.self.view_is) c.requires.thread

pub post-requires-clause-few : goal.post-requires-clause-few
post-requires-clause-few c =
    let kept : UnderWay = record { calls = c.self.inside.messages; slots = c.self.inside.slots; turns = c.self.inside.turns.items } in
    few_in_use kept c.self.invariant.1 c.self.invariant.0.count (subst (λ (k : UnderWay). AreFew k.calls) (sym c.self.view_is) c.requires.few)

few : (c : goal.In-Ok) → count_in_use (old c).calls ≤ most_in_use
few c = few_in_use (old c) c.self.invariant.1 c.self.invariant.0.count (subst (λ (k : UnderWay). AreFew k.calls) (sym c.self.view_is) c.requires.few)

slots : (c : goal.In-Ok) → ChangesSlot (old c).slots (old c).calls.next (Some (new_slot c.args.head)) (new c).slots
slots c = subst (λ (n : ℕ). ChangesSlot (old c).slots n (Some (new_slot c.args.head)) (new c).slots) (c.requires.drawing ∙ sym (ap (λ (k : UnderWay). k.calls.next) c.self.view_is)) c.in_ok-reserve.ensures.ok

number : (c : goal.In-Ok) → c.args.head.seq ≡ next_seq (old c).calls
number c = c.requires.seq ∙ sym (ap (λ (k : UnderWay). next_seq k.calls) c.self.view_is)

pub invariant_of-self-in-Ok : goal.invariant_of-self-in-Ok
invariant_of-self-in-Ok c = (
  posted_whole (old c) (new c) c.args.tid c.args.head c.in-Ok.ensures.ok c.in-Ok.ensures.thread c.in-Ok.ensures.states (slots c) refl (number c) (none c) (few c) c.self.invariant.0,
  posted_stays (old c) (new c) c.args.tid c.args.head c.in-Ok.ensures.ok c.in-Ok.ensures.thread c.in-Ok.ensures.states (slots c) refl (number c) (none c) (few c) c.self.invariant.1,
)

pub returns-in-Ok-clause-numbers : goal.returns-in-Ok-clause-numbers
returns-in-Ok-clause-numbers c =
    subst (λ (k : UnderWay). CarriesNumbers (drawn_as largest_number k.calls.next) k.calls (new c).calls) c.self.view_is
    (posted_numbers (old c) (new c) c.args.tid c.args.head c.in-Ok.ensures.ok c.in-Ok.ensures.thread c.in-Ok.ensures.states (slots c) refl (number c) (none c) (few c) c.self.invariant.1)

pub returns-in-Ok-clause-kept : goal.returns-in-Ok-clause-kept
returns-in-Ok-clause-kept c = λ i st alive later call regs kept head_is lives.
    posted_kept (old c) (new c) c.args.tid c.args.head c.in-Ok.ensures.ok c.in-Ok.ensures.thread c.in-Ok.ensures.states (slots c) refl (number c) (none c) (few c) i st alive later call regs
    (subst (λ (k : UnderWay). RepresentsMessages i st alive k) (sym c.self.view_is) kept) head_is lives

pub invariant_of-self-in-Err : goal.invariant_of-self-in-Err
invariant_of-self-in-Err c =
    let old : UnderWay = record { calls = c.self.inside.messages; slots = c.self.inside.slots; turns = c.self.inside.turns.items } in
    let new : UnderWay = record { calls = c.post.new.self; slots = c.drop_of.new.self; turns = c.self.inside.turns.items } in
    let drawing : c.args.head.drawing ≡ old.calls.next = c.requires.drawing ∙ sym (ap (λ (k : UnderWay). k.calls.next) c.self.view_is) in
    let free : slot_at old.slots c.args.head.drawing ≡ None = ap (slot_at old.slots) drawing ∙ next_free old c.self.invariant.0 in
    let slots = none_then old.slots c.reserve.new.self new.slots c.args.head.drawing (new_slot c.args.head) free c.in_ok-reserve.ensures.ok c.drop_of.ensures in
    (whole_by old new c.in-Err.ensures.err slots refl c.self.invariant.0, same_numbered old new c.in-Err.ensures.err slots refl c.self.invariant.1)

pub returns-in-Err-clause-err : goal.returns-in-Err-clause-err
returns-in-Err-clause-err c =
    let old : UnderWay = record { calls = c.self.inside.messages; slots = c.self.inside.slots; turns = c.self.inside.turns.items } in
    let new : UnderWay = record { calls = c.post.new.self; slots = c.drop_of.new.self; turns = c.self.inside.turns.items } in
    let drawing : c.args.head.drawing ≡ old.calls.next = c.requires.drawing ∙ sym (ap (λ (k : UnderWay). k.calls.next) c.self.view_is) in
    let free : slot_at old.slots c.args.head.drawing ≡ None = ap (slot_at old.slots) drawing ∙ next_free old c.self.invariant.0 in
    let stands : SameWorkersState old new = stands_by old new c.in-Err.ensures.err (none_then old.slots c.reserve.new.self new.slots c.args.head.drawing (new_slot c.args.head) free c.in_ok-reserve.ensures.ok c.drop_of.ensures) refl in
    subst (λ (k : UnderWay). SameWorkersState k new) c.self.view_is stands
