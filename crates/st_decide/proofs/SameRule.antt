-- Which threads hold calls of one policy and rule, in the machine that runs and in the law's machine.
use Rattle.std.proofs.Common.{◌≡◌, ◌∙◌, ℕ, Bool, true, false, cond, ◌||◌, [], ◌∷◌, Option, Some, None, refl, ap, sym, subst}
use Rattle.std.proofs.lemmas.Bool.{true≢false}
use Rattle.std.proofs.lemmas.Option.{none-some}
use Rattle.std.specs.List.{list_any}
use Rattle.std.specs.Option.{option_map}
use Rattle.std.specs.Prelude.{is_some, IfSome}
use Rattle.st_base.specs.Numbered.{item_at_number}
use Rattle.st_effects.specs.System.{HeldCall}
use Rattle.st_lookaside.specs.Slot.{Slot}
use Rattle.st_lookaside.specs.Slots.{slot_at}
use Rattle.st_lookaside.specs.declared.head.Head as kept
use Rattle.st_messages.specs.Messages as calls
use Rattle.st_messages.specs.declared.message.Message as message
use Rattle.st_trace.specs.declared.entry.Way.{Way}
use Rattle.st_trace.specs.declared.entry.Way.TheVariants.{Fast, Barred, Held, Untraced}
use Rattle.st_law.specs.State.{State, held_by_pending, held_by_way, is_live}
use Rattle.st_law.specs.Threads.{PendingCall}
use Rattle.st_law.proofs.HeldCalls.{IsHolder}
use Rattle.st_reached.specs.Reached.{HasLiveNumber}
use Rattle.st_reached.specs.Waiting.{are_alike, holds_alike}
use Rattle.st_reached.proofs.Reached.{held_live}
use Rattle.st_workers.specs.Refinement.{IsLive, head_of}
use Rattle.st_workers.specs.UnderWay.{found_in}
use Rattle.st_workers.proofs.Ended.{lives_as}
use Rattle.st_threads.specs.Ending.{HasDrawing}
use Rattle.st_decide.specs.Holding.{is_same_rule, is_held_alike, held_head, message_held, message_of, held_drawing}
use Rattle.st_decide.specs.Machine.{Refines, Running}
use Rattle.st_threads.specs.Thread.{ThreadRow, drawing_held}
use Rattle.st_decide.proofs.HeldCalls.{are_held}
use Rattle.st_decide.proofs.Reached.{reached_of}

-- ---- the number of a held call is live

module _ (m : Running) (st : State) (is : Refines m st) where
  -- a live number has a message
  live_message : (q : ℕ) → is_live st q ≡ true → (head : kept.Head) × (tid : ℕ) × (held_head m q ≡ Some head) × ((st.messages q).head ≡ Some (head_of tid head))
  live_message q live =
      let x : IsLive st.turns q (st.messages q) (found_in m.workers) = is.workers.agrees.live q live in
      (x.slot.head, x.tid, ap (option_map (λ (slot : Slot). slot.head)) x.slot_is, x.is_slot.head)

  found_message : (q : ℕ) → is_live st q ≡ true → (head : kept.Head) → IfSome (slot_at m.workers.slots q) (λ slot. head ≡ slot.head) → held_head m q ≡ Some head
  found_message q live head found =
      let x : IsLive st.turns q (st.messages q) (found_in m.workers) = is.workers.agrees.live q live in
      let same : head ≡ x.slot.head = subst (λ (o : Option Slot). IfSome o (λ slot. head ≡ slot.head)) x.slot_is found in
      ap (option_map (λ (slot : Slot). slot.head)) x.slot_is ∙ ap Some (sym same)

  -- a number that has a thread among the held calls is live
  pub threaded_lives : (q t : ℕ) → calls.thread_of_drawing m.workers.calls q ≡ Some t → calls.is_live_drawing m.workers.calls q ≡ true
  threaded_lives q t there = by (calls.message_of_drawing m.workers.calls q) there where
    by : (o : Option message.Message) → option_map (λ (it : message.Message). it.tid) o ≡ Some t → is_some o ≡ true
    by None e = absurd (none-some t e)
    by (Some it) e = refl

  pub threaded_message : (q t : ℕ) → calls.thread_of_drawing m.workers.calls q ≡ Some t → (head : kept.Head) → IfSome (slot_at m.workers.slots q) (λ slot. head ≡ slot.head) → held_head m q ≡ Some head
  threaded_message q t there = found_message q (sym (lives_as m.input st (is_live st) m.workers q is.workers) ∙ threaded_lives q t there)

  -- a number without a thread has no message
  pub threadless_message : (q : ℕ) → calls.thread_of_drawing m.workers.calls q ≡ None → held_head m q ≡ None
  threadless_message q none = by (is_live st q) refl where
    by : (b : Bool) → is_live st q ≡ b → held_head m q ≡ None
    by true live = absurd (none-some (is.workers.agrees.live q live).tid (sym none ∙ (is.workers.agrees.live q live).thread_is))
    by false dead = ap (option_map (λ (slot : Slot). slot.head)) (is.workers.agrees.dead q dead).slot

  pub held_lives : (t : ℕ) (row : ThreadRow) (q : ℕ) → item_at_number m.threads t ≡ Some row → drawing_held row ≡ Some q → calls.is_live_drawing m.workers.calls q ≡ true
  held_lives t row q row_is held = lives_as m.input st (is_live st) m.workers q is.workers ∙ ((are_held m st is).lives t row q row_is held).lives

  -- ---- a thread that holds a call

  numbered : (o : Option ThreadRow) (q : ℕ) → HasDrawing o q → held_drawing o ≡ Some q
  numbered None q has = absurd has
  numbered (Some row) q has = has

  number_is : (t : ℕ) → IsHolder st t → held_drawing (item_at_number m.threads t) ≡ Some (st.threads t).number
  number_is t x =
      let live : HasLiveNumber st t = (held_live m.input st (reached_of m.input st is.reached)).held t x.entered x.first x.pending x.way x.undying in
      numbered (item_at_number m.threads t) (st.threads t).number
      (subst (λ (n : ℕ). HasDrawing (item_at_number m.threads n) (st.threads t).number) live.own ((are_held m st is).own (st.threads t).number live.head live.live live.posted))

  holder_live : (t : ℕ) → IsHolder st t → is_live st (st.threads t).number ≡ true
  holder_live t x = ((held_live m.input st (reached_of m.input st is.reached)).held t x.entered x.first x.pending x.way x.undying).live

  -- ---- the message of the question

  head_by : (q : ℕ) (b : Bool) → is_live st q ≡ b → (head : kept.Head) → held_head m q ≡ Some head → (tid : ℕ) × ((st.messages q).head ≡ Some (head_of tid head))
  head_by q true live head there =
      let x = live_message q live in
      (x.1, x.3 ∙ ap (λ (o : Option kept.Head). option_map (head_of x.1) o) (sym x.2 ∙ there))
  head_by q false dead head there = absurd (none-some head (sym (ap (option_map (λ (slot : Slot). slot.head)) (is.workers.agrees.dead q dead).slot) ∙ there))

  holder_alike : (q t : ℕ) → IsHolder st t → are_alike (st.messages q).head (st.messages (st.threads t).number).head ≡ true → (o : Option kept.Head) → held_head m q ≡ o → is_held_alike m o t ≡ true
  holder_alike q t x alike None there = refl
  holder_alike q t x alike (Some head) there =
      let of : (tid : ℕ) × ((st.messages q).head ≡ Some (head_of tid head)) = head_by q (is_live st q) refl head there in
      let mine = live_message (st.threads t).number (holder_live t x) in
      ap (λ (o : Option ℕ). is_same_rule head (message_of m o)) (number_is t x) ∙ ap (is_same_rule head) mine.2 ∙ sym (λ k. are_alike (of.1 k) (mine.3 k)) ∙ alike

  -- ---- by the call of the thread

  alike_by_way : (q t : ℕ) (entered : PendingCall) → (st.threads t).pending ≡ Some entered → (way : Way) → entered.way ≡ way → (b : Bool) → (st.threads t).dying ≡ b
      → list_any (λ (held : HeldCall). are_alike (st.messages q).head (st.messages held.number).head) (held_by_way st t way) ≡ true → is_held_alike m (held_head m q) t ≡ true
  alike_by_way q t entered pending Fast way b dying holds = absurd (true≢false (sym holds))
  alike_by_way q t entered pending (Barred n) way b dying holds = absurd (true≢false (sym holds))
  alike_by_way q t entered pending Untraced way b dying holds = absurd (true≢false (sym holds))
  alike_by_way q t entered pending (Held first) way true dying holds = absurd (true≢false (sym holds ∙ ap (λ (b : Bool). list_any (λ (held : HeldCall). are_alike (st.messages q).head (st.messages held.number).head) (cond b [] (record { tid = t; pid = (st.threads t).owner; number = (st.threads t).number } ∷ []))) dying))
  alike_by_way q t entered pending (Held first) way false undying holds =
      let x : IsHolder st t = record { entered = entered; pending = pending; first = first; way = way; undying = undying } in
      holder_alike q t x (or_none (are_alike (st.messages q).head (st.messages (st.threads t).number).head)
      (sym (ap (λ (b : Bool). list_any (λ (held : HeldCall). are_alike (st.messages q).head (st.messages held.number).head) (cond b [] (record { tid = t; pid = (st.threads t).owner; number = (st.threads t).number } ∷ []))) undying) ∙ holds))
      (held_head m q) refl where
        or_none : (b : Bool) → (b || false) ≡ true → b ≡ true
        or_none true e = refl
        or_none false e = e

  alike_by : (q t : ℕ) (o : Option PendingCall) → (st.threads t).pending ≡ o → list_any (λ (held : HeldCall). are_alike (st.messages q).head (st.messages held.number).head) (held_by_pending st t o) ≡ true → is_held_alike m (held_head m q) t ≡ true
  alike_by q t None pending holds = absurd (true≢false (sym holds))
  alike_by q t (Some entered) pending holds = alike_by_way q t entered pending entered.way refl (st.threads t).dying refl holds

  -- a thread that holds a call of the policy and rule of a number in the law's machine does so in the machine that runs
  pub held_alike : (q t : ℕ) → holds_alike st q t ≡ true → is_held_alike m (held_head m q) t ≡ true
  held_alike q t holds = alike_by q t (st.threads t).pending refl holds

  -- the message of a thread's held call is found
  pub message_there : (t : ℕ) (row : ThreadRow) (q : ℕ) → item_at_number m.threads t ≡ Some row → drawing_held row ≡ Some q → (head : kept.Head) → IfSome (slot_at m.workers.slots q) (λ slot. head ≡ slot.head) → message_held m t ≡ Some head
  message_there t row q row_is held head found =
      ap (λ (o : Option ThreadRow). message_of m (held_drawing o)) row_is ∙ ap (message_of m) held ∙ found_message q ((are_held m st is).lives t row q row_is held).lives head found
