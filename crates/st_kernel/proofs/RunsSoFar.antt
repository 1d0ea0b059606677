-- The invariant of a run is preserved by one more choice.
use native.Mathlib.Omega.{arith}
use Rattle.std.proofs.Common.{inl, inr, length, ◌≡◌, ◌≤◌, ◌<◌, ◌∙◌, ℕ, suc, ◌+◌, Bool, true, false, ◌∷◌, ◌++◌, List, [], Option, Some, None, get_or, set, refl, reverse, ap, sym, subst, true≢false}
use Rattle.std.proofs.lemmas.Bool.{cases_eq}
use Rattle.std.specs.Prelude.{is_some}
use Rattle.std.proofs.lemmas.List.{get_or-set_other, length-append, length-set, reverse-append, reverse-reverse}
use Rattle.std.proofs.lemmas.Grind.{reverse_onto}
use Rattle.st_trace.specs.declared.entry.Choice.{Choice}
use Rattle.st_trace.specs.declared.entry.Entry.{Entry}
use Rattle.st_law.proofs.Ties.{state-is}
use Rattle.st_law.proofs.Laws.{run_lawful}
use Rattle.st_law.specs.History.{looking_back}
use Rattle.st_law.specs.Inputs.{IsStartable}
use Rattle.st_law.specs.Machine.{entry_of, history, history_with, run, state_after, state_at, state_of_run, thread_entry}
use Rattle.st_law.specs.Numbers.{Numbers, in_use_now, is_in_use, is_kept, largest_number, drawn, numbered_back, numbered_entry, numbers_after, numbers_at}
use Rattle.st_law.specs.State.{State, is_live, thread_count}
use Rattle.st_law.specs.Threads.{History}
use Rattle.st_law.specs.declared.input.Input.{Input}
use Rattle.st_reached.specs.Waiting.{wakes}
use Rattle.st_reached.proofs.NumbersBack.{roomy, trace_back}
use Rattle.st_reached.proofs.Reached.{Reached, reached_run}
use Rattle.st_reached.proofs.StillKept.{none_more}
use Rattle.st_report.specs.ScheduleText.{repeats_of, repeats_with, spelled_choices}
use Rattle.st_report.specs.declared.schedule.Repeat.{Repeat}
use Rattle.st_report.proofs.Repeats.{one_more_choice, spelled_again}
use Rattle.st_workers.specs.Numbers.{HasNumbers, IsNumbered}
use Rattle.st_workers.specs.Refinement.{RepresentsMessages}
use Rattle.st_messages.specs.Messages.{seq_of}
use Rattle.st_workers.proofs.InUse.{in_use_is, ready_is, rebased}
use Rattle.st_decide.specs.Machine.{Refines, IsDrawnStep, Running}
use Rattle.st_waking.specs.Waking.{is_asleep, is_woken}
use Rattle.st_waking.specs.declared.waking.Woken.{Woken}
use Rattle.st_waking.proofs.Unwoken.{not_woken, wakes_after}
use Rattle.st_kernel.specs.Kernel.{numbered_next, numbers_now, trace_of, IsRunSoFar}

-- the trace of a run is that of its history
numbered_run : (i : Input) (choices : List Choice) → trace_of (record { input = i; choices = choices }) ≡ reverse (numbered_back largest_number i (history i (reverse choices)))
numbered_run i choices = ap (λ (h : History). reverse (numbered_back largest_number i h)) (reverse-reverse (history i (reverse choices)))

-- the drawings of a run come back from its trace
pub trace_drawn : (i : Input) → IsStartable i → (choices : List Choice) → drawn (trace_of (record { input = i; choices = choices })) ≡ run i choices
trace_drawn i startable choices = trace_back largest_number i startable (roomy i startable) (run i choices) (run_lawful i startable choices)

module _ (i : Input) (choices : List Choice) (c : Choice) (e : Entry) (adds : entry_of i (state_of_run i choices) c ≡ Some e) where
  abbrev before : History
  before = history i (reverse choices)

  -- the history has the new entry in front
  one_more : history i (reverse (choices ++ c ∷ [])) ≡ e ∷ before
  one_more = ap (history i) (reverse-append choices (c ∷ [])) ∙ ap (history_with before) adds

  -- the run has the new entry at its end
  pub run_more : run i (choices ++ c ∷ []) ≡ run i choices ++ e ∷ []
  run_more = ap reverse one_more ∙ reverse_onto before e []

  -- the trace has the new entry, with the numbers of its drawings, at its end
  pub trace_more : trace_of (record { input = i; choices = choices ++ c ∷ [] }) ≡ trace_of (record { input = i; choices = choices }) ++ numbered_next (record { input = i; choices = choices }) e ∷ []
  trace_more =
      numbered_run i (choices ++ c ∷ []) ∙ ap (λ (h : History). reverse (numbered_back largest_number i h)) one_more
      ∙ reverse_onto (numbered_back largest_number i before) (numbered_next (record { input = i; choices = choices }) e) []
      ∙ ap (λ (trace : List Entry). trace ++ numbered_next (record { input = i; choices = choices }) e ∷ []) (sym (numbered_run i choices))

  -- the new state is the state after the new entry
  pub state_more : state_of_run i (choices ++ c ∷ []) ≡ state_after i (state_of_run i choices) e
  state_more = ap (state_at i) one_more

  -- the law's numbers are those after the new entry
  pub numbers_more : numbers_now i (choices ++ c ∷ []) ≡ in_use_now i (state_after i (state_of_run i choices) e) (numbers_after largest_number (is_kept i (state_of_run i choices)) (numbers_now i choices) e)
  numbers_more =
      (λ k. in_use_now i (state_more k) (numbers_at largest_number i (one_more k)))
      ∙ (λ k. in_use_now i (state_after i (state_of_run i choices) e) (numbers_after largest_number (is_kept i (sym (state-is i before) k)) (in_use_now i (sym (state-is i before) k) (numbers_at largest_number i before)) e))

-- the state after the run is that of its entries
pub state_later : (i : Input) (choices : List Choice) → state_of_run i choices ≡ looking_back i (reverse (run i choices))
state_later i choices =
    let h : History = history i (reverse choices) in
    state-is i h ∙ ap (looking_back i) (sym (reverse-reverse h))

-- a drawing in use has its number
pub number_has : (m : Running) (kept : List Repeat) (first : ℕ) (asleep : List Bool) → IsRunSoFar m kept first asleep → (q : ℕ) → is_in_use m.input (state_of_run m.input (spelled_choices kept)) q ≡ true
    → seq_of m.workers.calls q ≡ Some ((numbers_now m.input (spelled_choices kept)).number_of q)
number_has m kept first asleep so_far q used = by (seq_of m.workers.calls q) refl (in_use_is m.input (state_of_run m.input (spelled_choices kept)) m.workers so_far.machine.workers q ∙ used) where
  by : (o : Option ℕ) → seq_of m.workers.calls q ≡ o → is_some o ≡ true → o ≡ Some ((numbers_now m.input (spelled_choices kept)).number_of q)
  by None there some = absurd (true≢false (sym some))
  by (Some n) there some = ap Some (sym (so_far.numbers.seqs q n there))

-- the entry that the machine gives is the next one, with the numbers of its drawings
pub given_is : (m : Running) (kept : List Repeat) (first : ℕ) (asleep : List Bool) → IsRunSoFar m kept first asleep → (e given : Entry) → IsNumbered e given m.workers → given ≡ numbered_next (record { input = m.input; choices = spelled_choices kept }) e
given_is m kept first asleep so_far e given is =
    let i = m.input in
    let st = state_of_run i (spelled_choices kept) in
    let h : History = history i (reverse (spelled_choices kept)) in
    is (is_kept i st) (ready_is i st (is_live st) m.workers so_far.machine.workers) (numbers_now i (spelled_choices kept)) so_far.numbers
    ∙ (λ k. numbered_entry (numbers_after largest_number (is_kept i (state-is i h k)) (in_use_now i (state-is i h k) (numbers_at largest_number i h)) e).number_of e)

-- ---- the cursor and the marks

-- the cursor, and the threads that are marked as asleep, after an entry that may wake some threads
pub record HasWoken (m : Running) (woken : Woken) (first : ℕ) (asleep : List Bool) (first_then : ℕ) (asleep_then : List Bool) : Type 0 where
  pub from : 1 ≤ first_then
  pub to : first_then ≤ first
  pub before : (t : ℕ) → 1 ≤ t → t < first_then → is_woken m woken t ≡ false
  pub count : length asleep_then ≡ length asleep
  pub marked : (place : ℕ) → is_asleep asleep_then place ≡ true → is_asleep asleep place ≡ true
  pub unwoken : (place : ℕ) → is_asleep asleep_then place ≡ true → is_woken m woken (suc place) ≡ false

-- the entry wakes no other threads, according to the machine after it
abbrev pub WakesNoOther : Running → Entry → Woken → Type 0
WakesNoOther m e woken = (st : State) → Refines m st → (t : ℕ) → wakes st e t ≡ true → is_woken m woken t ≡ true

module _ (m new : Running) (kept : List Repeat) (first : ℕ) (asleep : List Bool) (so_far : IsRunSoFar m kept first asleep) (c : Choice) (e : Entry)
    (adds : entry_of m.input (state_of_run m.input (spelled_choices kept)) c ≡ Some e) (is : Refines new (state_after m.input (state_of_run m.input (spelled_choices kept)) e)) (woken : Woken) (only : WakesNoOther new e woken) where
  abbrev st : State
  st = state_of_run m.input (spelled_choices kept)

  reached : Reached m.input st
  reached = reached_run m.input so_far.machine.reached.startable (spelled_choices kept)

  -- a thread that couldn't move and isn't woken still can't move
  still_then : (t : ℕ) → 1 ≤ t → thread_entry m.input st t ≡ None → is_woken new woken t ≡ false → thread_entry m.input (state_after m.input st e) t ≡ None
  still_then t some none unwoken =
      none_more m.input st reached t some none c e adds
      (sym (wakes_after m.input st e t) ∙ not_woken (wakes (state_after m.input st e) e t) (is_woken new woken t) (only (state_after m.input st e) is t) unwoken)

-- ---- the choices that are kept

-- one more choice is appended to the choices that are kept
pub spelled_more : (kept : List Repeat) (c : Choice) → kept ≡ repeats_of (spelled_choices kept) → spelled_choices (repeats_with kept c) ≡ spelled_choices kept ++ c ∷ []
spelled_more kept c joined =
    let choices = spelled_choices kept in
    ap (λ (rs : List Repeat). spelled_choices (repeats_with rs c)) joined ∙ ap spelled_choices (one_more_choice choices c) ∙ spelled_again (choices ++ c ∷ [])

joined_more : (kept : List Repeat) (c : Choice) → kept ≡ repeats_of (spelled_choices kept) → repeats_with kept c ≡ repeats_of (spelled_choices (repeats_with kept c))
joined_more kept c joined =
    ap (λ (rs : List Repeat). repeats_with rs c) joined ∙ one_more_choice (spelled_choices kept) c ∙ ap repeats_of (sym (spelled_more kept c joined))

-- ---- one choice after the other

-- the machine that runs has made one more choice
pub course_on : (m new : Running) (kept : List Repeat) (first : ℕ) (asleep : List Bool) (c : Choice) (e : Entry) (woken : Woken) (first_then : ℕ) (asleep_then : List Bool) →
    IsRunSoFar m kept first asleep → new.input ≡ m.input → IsDrawnStep m c e new → WakesNoOther new e woken → HasWoken new woken first asleep first_then asleep_then →
    IsRunSoFar new (repeats_with kept c) first_then asleep_then
course_on m new kept first asleep c e woken first_then asleep_then so_far same step only has =
    let choices = spelled_choices kept in
    let st = state_of_run m.input choices in
    let made = step st so_far.machine in
    let still = still_then m new kept first asleep so_far c e made.0 made.1 woken only in
    let later : State = state_after m.input st e in
    let drawn : Numbers = numbers_after largest_number (is_kept m.input st) (numbers_now m.input choices) e in
    let carried = made.2 (is_kept m.input st) (ready_is m.input st (is_live st) m.workers so_far.machine.workers) (numbers_now m.input choices) so_far.numbers in
    let served : RepresentsMessages m.input later (is_live later) new.workers = subst (λ (i : Input). RepresentsMessages i later (is_live later) new.workers) same made.1.workers in
    let based : HasNumbers (in_use_now m.input later drawn) new.workers.calls = rebased m.input later new.workers served drawn carried.0 carried.1 in
    let from = has.from in
    let to = has.to in
    let top = so_far.to in
    let all : spelled_choices (repeats_with kept c) ≡ choices ++ c ∷ [] = spelled_more kept c so_far.joined in
    let state_is : state_of_run new.input (spelled_choices (repeats_with kept c)) ≡ state_after m.input st e = (λ k. state_of_run (same k) (all k)) ∙ state_more m.input choices c e made.0 in
    let entry_is : (t : ℕ) → thread_entry m.input (state_after m.input st e) t ≡ None → thread_entry new.input (state_of_run new.input (spelled_choices (repeats_with kept c))) t ≡ None =
    λ t none. (λ k. thread_entry (same k) (state_is k) t) ∙ none in
    record {
      machine = subst (Refines new) (sym state_is) made.1;
      joined = joined_more kept c so_far.joined;
      enabled = (λ k. length (run (same k) (all k))) ∙ ap length (run_more m.input choices c e made.0) ∙ length-append (run m.input choices) (e ∷ []) ∙ ap (λ (k : ℕ). k + 1) so_far.enabled ∙ sym (length-append choices (c ∷ [])) ∙ sym (ap length all);
      still = λ t some before. entry_is t (still t some (so_far.still t some (omega (arith, before, to))) (has.before t some before));
      from = from;
      to = subst (λ (i : Input). first_then ≤ suc (thread_count i)) (sym same) (omega (arith, to, top));
      marked = λ place is. entry_is (suc place) (still (suc place) (omega arith) (so_far.marked place (has.marked place is)) (has.unwoken place is));
      count = has.count ∙ so_far.count ∙ ap thread_count (sym same);
      numbers = subst (λ (numbers : Numbers). HasNumbers numbers new.workers.calls) (sym ((λ k. numbers_now (same k) (all k)) ∙ numbers_more m.input choices c e made.0)) based;
    }

-- the machine that runs represents the same state as before
pub course_same : (m new : Running) (kept : List Repeat) (first : ℕ) (asleep : List Bool) → IsRunSoFar m kept first asleep → new.input ≡ m.input → Refines new (state_of_run m.input (spelled_choices kept)) → new.workers.calls ≡ m.workers.calls →
    IsRunSoFar new kept first asleep
course_same m new kept first asleep so_far same is calls =
    let choices = spelled_choices kept in
    record {
      machine = subst (λ (i : Input). Refines new (state_of_run i choices)) (sym same) is;
      joined = so_far.joined;
      enabled = ap (λ (i : Input). length (run i choices)) same ∙ so_far.enabled;
      still = λ t some before. ap (λ (i : Input). thread_entry i (state_of_run i choices) t) same ∙ so_far.still t some before;
      from = so_far.from;
      to = subst (λ (i : Input). first ≤ suc (thread_count i)) (sym same) so_far.to;
      marked = λ place is. ap (λ (i : Input). thread_entry i (state_of_run i choices) (suc place)) same ∙ so_far.marked place is;
      count = so_far.count ∙ ap thread_count (sym same);
      numbers = subst (λ (i : Input). HasNumbers (numbers_now i choices) new.workers.calls) (sym same) (subst (HasNumbers (numbers_now m.input choices)) (sym calls) so_far.numbers);
    }

-- ---- the threads before a thread

-- the cursor moves to a later thread
pub course_from : (m : Running) (kept : List Repeat) (first then : ℕ) (asleep : List Bool) → IsRunSoFar m kept first asleep → 1 ≤ then → then ≤ thread_count m.input
    → ((t : ℕ) → 1 ≤ t → t < then → thread_entry m.input (state_of_run m.input (spelled_choices kept)) t ≡ None) → IsRunSoFar m kept then asleep
course_from m kept first then asleep so_far from to still = record {
  machine = so_far.machine;
  joined = so_far.joined;
  enabled = so_far.enabled;
  still = still;
  from = from;
  to = omega (arith, to);
  marked = so_far.marked;
  count = so_far.count;
  numbers = so_far.numbers;
}

-- a thread that can't move is marked as asleep
pub course_marked : (m : Running) (kept : List Repeat) (first place : ℕ) (asleep marks : List Bool) → IsRunSoFar m kept first asleep → marks ≡ set asleep place true
    → thread_entry m.input (state_of_run m.input (spelled_choices kept)) (suc place) ≡ None → IsRunSoFar m kept first marks
course_marked m kept first place asleep marks so_far is none = record {
  machine = so_far.machine;
  joined = so_far.joined;
  enabled = so_far.enabled;
  still = so_far.still;
  from = so_far.from;
  to = so_far.to;
  marked = λ other marked. elim (cases_eq other place) [
    | inl same ↦ ap (λ (k : ℕ). thread_entry m.input (state_of_run m.input (spelled_choices kept)) (suc k)) same ∙ none
    | inr ne ↦ so_far.marked other (sym (get_or-set_other asleep place other true false ne) ∙ ap (λ (l : List Bool). get_or l other false) (sym is) ∙ marked)
  ];
  count = ap length is ∙ length-set asleep place true ∙ so_far.count;
  numbers = so_far.numbers;
}
