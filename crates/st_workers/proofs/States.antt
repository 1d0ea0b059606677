-- How far a number has come, by what is kept and in the law's machine.
use Rattle.std.proofs.Common.{◌≡◌, ◌∙◌, ℕ, Bool, true, false, Option, Some, None, refl, ap, sym, subst}
use Rattle.std.proofs.lemmas.Bool.{true≢false}
use Rattle.std.proofs.lemmas.Option.{none-some}
use Rattle.std.specs.Option.{option_map}
use Rattle.std.specs.Prelude.{is_some}
use Rattle.st_calls.specs.declared.judged.Snapshot.{Snapshot}
use Rattle.st_effects.specs.Progress.{Look, Progress, Stuck, Word}
use Rattle.st_effects.specs.Progress.{Ready as Whole}
use Rattle.st_messages.specs.declared.message.MsgState.{MsgState}
use Rattle.st_messages.specs.declared.message.MsgState.TheVariants.{Waiting, Claimed, Answered, Faulted}
use Rattle.st_messages.specs.Messages.{message_state, thread_of_drawing}
use Rattle.st_law.specs.declared.input.Input.{Input}
use Rattle.st_law.specs.Messages.{Head}
use Rattle.st_law.specs.State.{is_live, is_ready, progress_in, snapshot_of_progress, snapshot_with, State}
use Rattle.st_workers.specs.Refinement.{head_of, IsMessageStateOf, IsHeldBy, RepresentsMessages, IsLive, IsState}
use Rattle.st_workers.specs.UnderWay.{found_in, UnderWay}

ready_copies : (q : ℕ) (o : Option Head) (p : Progress) (head : Head) → o ≡ Some head → is_ready p ≡ true → (s : Snapshot) × (snapshot_of_progress q o p ≡ Some s)
ready_copies q None p head is ready = absurd (none-some head is)
ready_copies q (Some h) (Whole args) head is ready = (snapshot_with q h args, refl)
ready_copies q (Some h) (Word part place) head is ready = absurd (true≢false (sym ready))
ready_copies q (Some h) (Look part name) head is ready = absurd (true≢false (sym ready))
ready_copies q (Some h) (Stuck errno) head is ready = absurd (true≢false (sym ready))

module _ (i : Input) (st : State) (kept : UnderWay) (is : RepresentsMessages i st (is_live st) kept) (q : ℕ) where
  come_live : is_live st q ≡ true → (state : MsgState) → message_state kept.calls q ≡ Some state → IsState st.turns q (st.messages q) state → IsLive st.turns q (st.messages q) (found_in kept) → IsMessageStateOf i st q (Some state)
  come_live live Waiting found come was = (live, come)
  come_live live (Claimed w) found come was = (live, come.0)
  come_live live (Answered v) found come was =
      let copies = ready_copies q (st.messages q).head (progress_in st q) (head_of was.tid was.slot.head) was.is_slot.head come.1 in
      (live, come.0, copies.0, copies.1, is.verdicts q v copies.0 found copies.1)
  come_live live (Faulted errno) found come was = (live, come)

  come_by : (b : Bool) → is_live st q ≡ b → IsMessageStateOf i st q (message_state kept.calls q)
  come_by true live =
      let was : IsLive st.turns q (st.messages q) (found_in kept) = is.agrees.live q live in
      subst (IsMessageStateOf i st q) (sym was.state_is) (come_live live was.state was.state_is was.is_state was)
  come_by false live = subst (IsMessageStateOf i st q) (sym (is.agrees.dead q live).state) live

  -- the state that is kept of a number is how far it has come in the law's machine
  pub has_come_to : IsMessageStateOf i st q (message_state kept.calls q)
  has_come_to = come_by (is_live st q) refl

  -- the thread that is kept of a number is that of the law's machine
  held_by : (b : Bool) → is_live st q ≡ b → (t : ℕ) → thread_of_drawing kept.calls q ≡ Some t → IsHeldBy st q t
  held_by true live t found =
      let was : IsLive st.turns q (st.messages q) (found_in kept) = is.agrees.live q live in
      ap (option_map (λ (head : Head). head.tid)) was.is_slot.head ∙ sym was.thread_is ∙ found
  held_by false live t found = absurd (none-some t (sym (is.agrees.dead q live).thread ∙ found))

  live_by : (b : Bool) → is_live st q ≡ b → is_some (thread_of_drawing kept.calls q) ≡ b
  live_by true live = ap (λ (o : Option ℕ). is_some o) (is.agrees.live q live).thread_is
  live_by false live = ap (λ (o : Option ℕ). is_some o) (is.agrees.dead q live).thread

  -- a thread is kept of a number exactly if the number is live
  pub is_live_by_thread : is_some (thread_of_drawing kept.calls q) ≡ is_live st q
  is_live_by_thread = live_by (is_live st q) refl

  pub is_held_by : (t : ℕ) → thread_of_drawing kept.calls q ≡ Some t → IsHeldBy st q t
  is_held_by = held_by (is_live st q) refl
