-- The messages and workers represent the same state as before if nothing changes.
use Rattle.std.proofs.Common.{◌≡◌, ℕ, ◌==◌, Bool, true, false, cond, List, length, Some, None, refl, ap, sym, ◌∙◌, arith}
use Rattle.std.proofs.lemmas.Bool.{eqb-true}
use Rattle.st_base.specs.Numbered.{item_at_number}
use Rattle.st_lookaside.specs.Slot.{Slot}
use Rattle.st_lookaside.specs.Slots.{slot_at, ChangesSlot}
use Rattle.st_messages.specs.Messages.{HeldCalls, message_state, thread_of_drawing}
use Rattle.st_workers.specs.Filling.{AreSame}
use Rattle.st_workers.specs.Refinement.{AreValidWorkers, SameWorkersState}
use Rattle.st_workers.specs.UnderWay.{UnderWay, found_in}
use Rattle.st_workers.specs.declared.turn.Turn.{Turn}
use Rattle.st_workers.proofs.Changed.{unchanged, IsSame}
use Rattle.st_workers.proofs.Filled.{last_change}
use Rattle.st_workers.proofs.Numbered.{same_numbered}

module _ (old new : UnderWay) (calls : new.calls ≡ old.calls) (slots : AreSame old.slots new.slots) (turns_same : new.turns ≡ old.turns) where
  is_same : IsSame (found_in old) (found_in new)
  is_same = record {
    next = ap (λ (c : HeldCalls). c.next) calls;
    state = λ q. ap (λ (c : HeldCalls). message_state c q) calls;
    thread = λ q. ap (λ (c : HeldCalls). thread_of_drawing c q) calls;
    slot = slots;
    turn = λ w. ap (λ (ts : List Turn). item_at_number ts w) turns_same;
  }

  pub stands_by : SameWorkersState old new
  stands_by i messages turns alive posted is = record {
    workers = ap (λ (c : HeldCalls). c.workers) calls ∙ is.workers;
    numbered = same_numbered old new calls slots turns_same is.numbered;
    agrees = unchanged messages turns alive posted (found_in old) (found_in new) is_same is.agrees;
    verdicts = λ q v s answered copies. is.verdicts q v s (sym (ap (λ (c : HeldCalls). message_state c q) calls) ∙ answered) copies;
  }

  pub whole_by : AreValidWorkers old → AreValidWorkers new
  whole_by whole = record {
    count = ap (λ (ts : List Turn). length ts) turns_same ∙ whole.count ∙ sym (ap (λ (c : HeldCalls). c.workers) calls);
    messages = whole.messages;
    turns = whole.turns;
    alive = whole.alive;
    posted = whole.posted;
    agrees = unchanged whole.messages whole.turns whole.alive whole.posted (found_in old) (found_in new) is_same whole.agrees;
  }

-- ---- a slot that was begun has ended again

next_free-by : (kept : UnderWay) (whole : AreValidWorkers kept) (b : Bool) → whole.alive kept.calls.next ≡ b → slot_at kept.slots kept.calls.next ≡ None
next_free-by kept whole true is = absurd (let given = whole.agrees.given kept.calls.next is in let next = whole.agrees.next in omega (arith, given.1, next))
next_free-by kept whole false is = (whole.agrees.dead kept.calls.next is).slot

-- the next number has no slot
pub next_free : (kept : UnderWay) → AreValidWorkers kept → slot_at kept.slots kept.calls.next ≡ None
next_free kept whole = next_free-by kept whole (whole.alive kept.calls.next) refl

none_still : (old : List Slot) (drawing other : ℕ) (b : Bool) → (other == drawing) ≡ b → slot_at old drawing ≡ None → cond b None (slot_at old other) ≡ slot_at old other
none_still old drawing other true is free = sym (ap (slot_at old) (eqb-true other drawing is) ∙ free)
none_still old drawing other false is free = refl

pub none_then : (old mid new : List Slot) (drawing : ℕ) (slot : Slot) → slot_at old drawing ≡ None → ChangesSlot old drawing (Some slot) mid → ChangesSlot mid drawing None new → AreSame old new
none_then old mid new drawing slot free first second other =
    let both : ChangesSlot old drawing None new = last_change old mid new drawing (Some slot) None first second in
    both other ∙ none_still old drawing other (other == drawing) refl free
