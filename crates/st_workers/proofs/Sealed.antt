-- The sealed copies of an answered message are those of the law's machine.
use Rattle.std.proofs.Common.{◌≡◌, ◌∙◌, ℕ, true, IfSome, IsSome, is_some, Option, Some, None, refl, ap, sym, subst}
use Rattle.std.proofs.lemmas.Option.{same_Some}
use Rattle.st_calls.specs.declared.judged.Snapshot.{Snapshot}
use Rattle.st_calls.specs.declared.judged.Verdict.{Verdict}
use Rattle.st_effects.specs.Progress.{Ready as Whole}
use Rattle.st_lookaside.specs.Slot.{slot_progress, snapshot_with, Slot}
use Rattle.st_lookaside.specs.Slots.{slot_at}
use Rattle.st_messages.specs.declared.message.MsgState.{MsgState}
use Rattle.st_messages.specs.declared.message.MsgState.TheVariants.{Waiting, Claimed, Answered, Faulted}
use Rattle.st_messages.specs.Messages.{message_state}
use Rattle.st_law.specs.State.{is_live, snapshot_in, State}
use Rattle.st_law.specs.declared.input.Input.{Input}
use Rattle.st_workers.specs.Refinement.{drawn_copies, HasAnswer, RepresentsMessages, IsLive, IsSlotOf, IsState, AreValidWorkers}
use Rattle.st_workers.specs.UnderWay.{found_in, UnderWay}
use Rattle.st_workers.proofs.Claims.{live_by_state}
use Rattle.st_workers.proofs.Copies.{same_snapshot}
use Rattle.st_workers.proofs.Filled.{known, tells}
use Rattle.st_workers.proofs.Tasks.{state_slot}

answered_state : (o : Option MsgState) → HasAnswer o → (v : Verdict) × (o ≡ Some (Answered v))
answered_state (Some (Answered v)) is = (v, refl)
answered_state (Some Waiting) is = absurd is
answered_state (Some (Claimed w)) is = absurd is
answered_state (Some (Faulted errno)) is = absurd is
answered_state None is = absurd is

-- the slot of an answered message is sealed
module _ (kept : UnderWay) (drawing : ℕ) (whole : AreValidWorkers kept) (answered : HasAnswer (message_state kept.calls drawing)) where
  its_answer : (v : Verdict) × (message_state kept.calls drawing ≡ Some (Answered v))
  its_answer = answered_state (message_state kept.calls drawing) answered

  lives : whole.alive drawing ≡ true
  lives = live_by_state whole.messages whole.turns whole.alive whole.posted (found_in kept) whole.agrees drawing (Answered its_answer.0) its_answer.1 (whole.alive drawing) refl

  was : IsLive whole.turns drawing (whole.messages drawing) (found_in kept)
  was = whole.agrees.live drawing lives

  come : IsState whole.turns drawing (whole.messages drawing) (Answered its_answer.0)
  come = subst (IsState whole.turns drawing (whole.messages drawing)) (same_Some was.state (Answered its_answer.0) (sym was.state_is ∙ its_answer.1)) was.is_state

  pub answered_slot : IsSome (slot_at kept.slots drawing)
  answered_slot = ap is_some was.slot_is

  pub answered_sealed : IfSome (slot_at kept.slots drawing) (λ slot. slot.is_sealed ≡ true)
  answered_sealed = tells (slot_at kept.slots drawing) (λ slot. slot.is_sealed ≡ true) was.slot was.slot_is (was.is_sealed come.0.claimed come.1)

module _ (kept : UnderWay) (drawing : ℕ) (s : Snapshot) (args : IfSome (slot_at kept.slots drawing) (λ slot. slot_progress slot ≡ Whole s.parts)) (head : IfSome (slot_at kept.slots drawing) (λ slot. s ≡ snapshot_with slot.head s.parts)) where
  sealed_by : (slot : Slot) → slot_at kept.slots drawing ≡ Some slot → (i : Input) (st : State) → RepresentsMessages i st (is_live st) kept → is_live st drawing ≡ true → snapshot_in st drawing ≡ Some (drawn_copies drawing s)
  sealed_by slot there i st is live =
      let was : IsLive st.turns drawing (st.messages drawing) (found_in kept) = is.agrees.live drawing live in
      let same : was.slot ≡ slot = same_Some was.slot slot (sym was.slot_is ∙ there) in
      let ready : slot_progress slot ≡ Whole s.parts = known (slot_at kept.slots drawing) (λ x. slot_progress x ≡ Whole s.parts) slot there args in
      let sealed : s ≡ snapshot_with slot.head s.parts = known (slot_at kept.slots drawing) (λ x. s ≡ snapshot_with x.head s.parts) slot there head in
      same_snapshot (st.messages drawing) was.tid slot (subst (IsSlotOf (st.messages drawing) was.tid) same was.is_slot) drawing s.parts ready ∙ ap (λ (u : Snapshot). Some (drawn_copies drawing u)) (sym sealed)

  pub sealed_is : AreValidWorkers kept → HasAnswer (message_state kept.calls drawing) → (i : Input) (st : State) → RepresentsMessages i st (is_live st) kept → snapshot_in st drawing ≡ Some (drawn_copies drawing s)
  sealed_is whole answered i st is =
      let answer = answered_state (message_state kept.calls drawing) answered in
      let slot = state_slot kept whole drawing (Answered answer.0) answer.1 in
      sealed_by slot.0 slot.1 i st is (live_by_state st.messages st.turns (is_live st) st.posted (found_in kept) is.agrees drawing (Answered answer.0) answer.1 (is_live st drawing) refl)
