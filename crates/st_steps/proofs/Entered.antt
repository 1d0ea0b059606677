-- The step that enters a call, composed of how each part changes by its entry.
use Rattle.std.proofs.Common.{◌≡◌, ◌≢◌, ◌-◌, ◌∙◌, ℕ, suc, ◌==◌, Bool, true, false, cond, drop, set, List, Some, refl, ap, sym, subst, true≢false}
use Rattle.std.proofs.lemmas.Bool.{eq-eqb, ne_eqb}
use Rattle.std.proofs.lemmas.List.{length-set}
use Rattle.std.proofs.lemmas.Option.{none-some, same_Some}
use Rattle.st_base.specs.Numbered.{item_at_number}
use Rattle.st_calls.specs.declared.call.SysCall.{SysCall}
use Rattle.st_calls.specs.declared.rule.FastAnswer.{FastAnswer}
use Rattle.st_lookaside.specs.declared.head.Head as kept
use Rattle.st_messages.specs.Messages.{HasNoDrawing}
use Rattle.st_trace.specs.declared.entry.Choice.TheVariants as choice
use Rattle.st_trace.specs.declared.entry.Entry.TheVariants.{Entered}
use Rattle.st_trace.specs.declared.entry.Way.{Way}
use Rattle.st_trace.specs.declared.entry.Way.TheVariants.{Fast, Barred, Held, Untraced}
use Rattle.st_trace.specs.declared.start.Instr.{Instr}
use Rattle.st_law.specs.declared.input.Input.{Input}
use Rattle.st_law.specs.Lawful.{IsEntered}
use Rattle.st_law.specs.Machine.{entry_of, state_after, thread_after}
use Rattle.st_law.specs.Messages.{new_head}
use Rattle.st_law.specs.State.{State, answer_in, is_live, process_in}
use Rattle.st_law.specs.Threads.{PendingCall, child_of_next}
use Rattle.st_reached.proofs.LifeByEntry.{held_life}
use Rattle.st_reached.proofs.Owning.{none_pending}
use Rattle.st_reached.proofs.Reached.{lawful_entry}
use Rattle.st_law.specs.Numbers.{drawn_as, largest_number}
use Rattle.st_workers.specs.Numbers.{CarriesEntry, CarriesNumbers, HasNumbers}
use Rattle.st_workers.specs.Refinement.{head_of, ChangesLife, RepresentsMessages, RepresentsMessagesAfter}
use Rattle.st_workers.specs.UnderWay.{UnderWay}
use Rattle.st_workers.proofs.Threads.{others_have_no_drawing}
use Rattle.st_decide.specs.Entering.{IsKeptAnswer, IsUnposted, IsWayOf}
use Rattle.st_decide.specs.Machine.{Refines, IsNextStep, IsDrawnStep, Running}
use Rattle.st_threads.specs.Thread.{ThreadRow, IsRow, drawing_held, row_entered}
use Rattle.st_decide.specs.declared.step.NewCall.{NewCall}
use Rattle.st_decide.specs.declared.step.Step.TheVariants as steps
use Rattle.st_steps.proofs.After.{AreRows, HasComeAsFar, following, rows_changed, with_parts}
use Rattle.st_decide.proofs.NextSteps.{row_of}
use Rattle.st_decide.proofs.Reached.{reached_of}
use Rattle.st_threads.proofs.Rows.{either_none, holds}
use Rattle.st_steps.proofs.Served.{same_system}

module _ (m : Running) (t : ℕ) (new : NewCall) (next : IsNextStep m t (steps.Enter new)) (way : Way) (goes : IsWayOf m t new way) (st : State) (is : Refines m st) where
  -- the entry is that of the law's machine
  pub entered_entry_is : entry_of m.input st (choice.Thread t) ≡ Some (Entered t new.call new.regs way)
  entered_entry_is = next st is ∙ ap (λ (w : Way). Some (Entered t new.call new.regs w)) (goes st is)

  entered_law : IsEntered m.input st t new.call new.regs way
  entered_law = lawful_entry m.input st (reached_of m.input st is.reached) (choice.Thread t) (Entered t new.call new.regs way) entered_entry_is

  others : (number : ℕ → ℕ) → ((u : ℕ) → u ≢ t → (thread_after m.input st (Entered t new.call new.regs way) u).number ≡ (st.threads u).number) → (u : ℕ) → u ≢ t → HasComeAsFar (st.threads u) (thread_after m.input st (Entered t new.call new.regs way) u)
  others number same u ne =
      let apart : (t == u) ≡ false = ne_eqb t u (λ e. ne (sym e)) in
      record {
        left = ap (λ (b : Bool). cond b (drop 1 (st.threads u).left) (st.threads u).left) apart;
        pending = ap (λ (b : Bool). cond b (Some (record { call = new.call; regs = new.regs; way = way; child = child_of_next (st.threads u).left })) (st.threads u).pending) apart;
        answer = ap (λ (b : Bool). cond b (answer_in m.input st (process_in st u) new.call new.regs) (st.threads u).answer) apart;
        number = same u ne;
        dying = refl;
        ended = refl;
      }

  -- the answer that a barred call keeps
  abbrev Keeps : FastAnswer → Type 0
  Keeps answer = (n : ℕ) → way ≡ Barred n → answer_in m.input st (process_in st t) new.call new.regs ≡ answer

  own : (row : ThreadRow) → IsRow row (st.threads t) → (answer : FastAnswer) → Keeps answer → ((q : ℕ) → drawing_held (row_entered row new.call new.regs way answer) ≡ Some q → (thread_after m.input st (Entered t new.call new.regs way) t).number ≡ q) → IsRow (row_entered row new.call new.regs way answer) (thread_after m.input st (Entered t new.call new.regs way) t)
  own row its answer keeps number =
      let here : (t == t) ≡ true = eq-eqb t t refl in
      record {
        left = ap (λ (b : Bool). cond b (drop 1 (st.threads t).left) (st.threads t).left) here ∙ ap (drop 1) its.left;
        pending = ap (λ (b : Bool). cond b (Some (record { call = new.call; regs = new.regs; way = way; child = child_of_next (st.threads t).left })) (st.threads t).pending) here
            ∙ ap (λ (left : List Instr). Some (record { call = new.call; regs = new.regs; way = way; child = child_of_next left })) its.left;
        answer = λ entered n e w. ap (λ (b : Bool). cond b (answer_in m.input st (process_in st t) new.call new.regs) (st.threads t).answer) here
            ∙ keeps n (ap (λ (x : PendingCall). x.way) (same_Some (record { call = new.call; regs = new.regs; way = way; child = child_of_next row.left }) entered e) ∙ w);
        number = number;
        dying = its.dying;
        ended = its.ended;
      }

  rows : (row : ThreadRow) → item_at_number m.threads t ≡ Some row → (answer : FastAnswer) → Keeps answer → ((u : ℕ) → u ≢ t → (thread_after m.input st (Entered t new.call new.regs way) u).number ≡ (st.threads u).number) → ((q : ℕ) → drawing_held (row_entered row new.call new.regs way answer) ≡ Some q → (thread_after m.input st (Entered t new.call new.regs way) t).number ≡ q)
      → AreRows (set m.threads (t - 1) (row_entered row new.call new.regs way answer)) (thread_after m.input st (Entered t new.call new.regs way))
  rows row row_is answer keeps same number =
      rows_changed m.threads st.threads (thread_after m.input st (Entered t new.call new.regs way)) t row (row_entered row new.call new.regs way answer) row_is (others (λ u. u) same) (own row (row_of m st is t row row_is) answer keeps number) is.threads

-- a call that isn't held
module _ (m : Running) (t : ℕ) (new : NewCall) (next : IsNextStep m t (steps.Enter new)) (row : ThreadRow) (row_is : item_at_number m.threads t ≡ Some row) where
  pub unheld_step : (way : Way) → IsWayOf m t new way → (answer : FastAnswer) → IsKeptAnswer m t new way answer → IsUnposted way → IsDrawnStep m (choice.Thread t) (Entered t new.call new.regs way) (with_parts m m.system m.workers (set m.threads (t - 1) (row_entered row new.call new.regs way answer)))
  unheld_step Fast goes answer keeps unposted st is =
      let e = Entered t new.call new.regs Fast in
      let entry = entered_entry_is m t new next Fast goes st is in (
        entry,
        following m st is (choice.Thread t) e entry refl refl (λ b. refl) refl m.system m.workers (set m.threads (t - 1) (row_entered row new.call new.regs Fast answer))
            (same_system m.input st (state_after m.input st e) m.system refl refl refl refl refl refl (λ u. refl) (λ u. refl) is.system) is.workers
            (rows m t new next Fast goes st is row row_is answer (λ n e. keeps n e st is) (λ u ne. refl) (λ q e. absurd (none-some q (sym (either_none row.dying) ∙ e)))) (length-set m.threads (t - 1) _),
        (λ ready are numbers has. (numbers.in_use, has)),
      )
  unheld_step (Barred n) goes answer keeps unposted st is =
      let e = Entered t new.call new.regs (Barred n) in
      let entry = entered_entry_is m t new next (Barred n) goes st is in (
        entry,
        following m st is (choice.Thread t) e entry refl refl (λ b. refl) refl m.system m.workers (set m.threads (t - 1) (row_entered row new.call new.regs (Barred n) answer))
            (same_system m.input st (state_after m.input st e) m.system refl refl refl refl refl refl (λ u. refl) (λ u. refl) is.system) is.workers
            (rows m t new next (Barred n) goes st is row row_is answer (λ k e. keeps k e st is) (λ u ne. refl) (λ q e. absurd (none-some q (sym (either_none row.dying) ∙ e)))) (length-set m.threads (t - 1) _),
        (λ ready are numbers has. (numbers.in_use, has)),
      )
  unheld_step Untraced goes answer keeps unposted st is =
      let e = Entered t new.call new.regs Untraced in
      let entry = entered_entry_is m t new next Untraced goes st is in (
        entry,
        following m st is (choice.Thread t) e entry refl refl (λ b. refl) refl m.system m.workers (set m.threads (t - 1) (row_entered row new.call new.regs Untraced answer))
            (same_system m.input st (state_after m.input st e) m.system refl refl refl refl refl refl (λ u. refl) (λ u. refl) is.system) is.workers
            (rows m t new next Untraced goes st is row row_is answer (λ n e. keeps n e st is) (λ u ne. refl) (λ q e. absurd (none-some q (sym (either_none row.dying) ∙ e)))) (length-set m.threads (t - 1) _),
        (λ ready are numbers has. (numbers.in_use, has)),
      )
  unheld_step (Held q) goes answer keeps unposted st is = absurd unposted

  -- no live number is of a thread that enters a call
  pub no_number : (way : Way) → IsWayOf m t new way → (st : State) → Refines m st → HasNoDrawing m.workers.calls t
  no_number way goes st is =
      let law = entered_law m t new next way goes st is in
      let owned = (reached_of m.input st is.reached).owned in
      others_have_no_drawing m.input st.messages st.turns (is_live st) st.posted m.workers t is.workers (λ q head alive posted same. true≢false (sym alive ∙ none_pending st owned t law.idle q head posted same))

  -- the number of the next drawing is drawn
  carries_drawn : (q : ℕ) → q ≡ m.workers.calls.next → (workers : UnderWay) → CarriesNumbers (drawn_as largest_number m.workers.calls.next) m.workers.calls workers.calls → CarriesEntry (Entered t new.call new.regs (Held q)) m.workers workers
  carries_drawn q is workers carries = λ ready are numbers has. ((drawn_as largest_number q numbers).in_use, subst (λ (n : ℕ). HasNumbers (drawn_as largest_number n numbers) workers.calls) (sym is) (carries numbers has))

  -- a call that is held under the next number
  pub held_step : (q : ℕ) → IsWayOf m t new (Held q) → (answer : FastAnswer) → (workers : UnderWay) (head : kept.Head) → ((st : State) → Refines m st → head_of t head ≡ new_head m.input t (st.threads t).owner (st.processes (st.threads t).owner) (st.versions (st.processes (st.threads t).owner).policy) new.call new.regs)
      → ((i : Input) (st : State) (alive later : ℕ → Bool) (ready : SysCall) (registers : List ℕ) → RepresentsMessages i st alive m.workers → head_of t head ≡ new_head i t (st.threads t).owner (st.processes (st.threads t).owner) (st.versions (st.processes (st.threads t).owner).policy) ready registers
      → ChangesLife alive (suc st.posted) true later → RepresentsMessagesAfter i st (Entered t ready registers (Held (suc st.posted))) later workers)
      → CarriesNumbers (drawn_as largest_number m.workers.calls.next) m.workers.calls workers.calls
      → IsDrawnStep m (choice.Thread t) (Entered t new.call new.regs (Held q)) (with_parts m m.system workers (set m.threads (t - 1) (row_entered row new.call new.regs (Held q) answer)))
  held_step q goes answer workers head is_head posts carries st is =
      let e = Entered t new.call new.regs (Held q) in
      let entry = entered_entry_is m t new next (Held q) goes st is in
      let law = entered_law m t new next (Held q) goes st is in
      let drawn : q ≡ suc st.posted = law.way_is.1 in
      let later = is_live (state_after m.input st e) in
      let life : ChangesLife (is_live st) (suc st.posted) true later = subst (λ (n : ℕ). ChangesLife (is_live st) n true later) drawn (λ other. held_life m.input st (reached_of m.input st is.reached) t q new.call new.regs law other) in
      let after = posts m.input st (is_live st) later new.call new.regs is.workers (is_head st is) life in (
        entry,
        following m st is (choice.Thread t) e entry refl refl (λ b. refl) refl m.system workers (set m.threads (t - 1) (row_entered row new.call new.regs (Held q) answer))
            (same_system m.input st (state_after m.input st e) m.system refl refl refl refl refl refl (λ u. refl) (λ u. refl) is.system)
            (subst (λ (n : ℕ). RepresentsMessagesAfter m.input st (Entered t new.call new.regs (Held n)) later workers) (sym drawn) after)
            (rows m t new next (Held q) goes st is row row_is answer (λ n e. cc) (λ u ne. ap (λ (b : Bool). cond b q (st.threads u).number) (ne_eqb t u (λ e. ne (sym e)))) (λ p e. ap (λ (b : Bool). cond b q (st.threads t).number) (eq-eqb t t refl) ∙ (holds (row_entered row new.call new.regs (Held q) answer) p e).number)) (length-set m.threads (t - 1) _),
        carries_drawn q (drawn ∙ sym is.workers.agrees.next) workers carries,
      )

-- the number that a call is held under is the next one
pub next_number : (m : Running) (t : ℕ) (new : NewCall) → IsNextStep m t (steps.Enter new) → (q : ℕ) → IsWayOf m t new (Held q) → (st : State) → Refines m st → q ≡ m.workers.calls.next
next_number m t new next q goes st is = (entered_law m t new next (Held q) goes st is).way_is.1 ∙ sym is.workers.agrees.next
