-- What a worker is at, by its turn, and what it answers once it is ready.
use Rattle.std.proofs.Common.{◌≡◌, ◌≤◌, ◌∙◌, ◌||◌, ℕ, Bool, true, false, cond, List, Option, Some, None, refl, ap, sym, subst, true≢false}
use Rattle.std.proofs.lemmas.Option.{none-some}
use Rattle.std.specs.Option.{option_map}
use Rattle.std.specs.Prelude.{is_some}
use Rattle.st_calls.specs.declared.judged.Snapshot.{Snapshot}
use Rattle.st_calls.specs.declared.judged.Verdict.{Verdict}
use Rattle.st_effects.specs.Progress.{Progress, Word, Look, Stuck, Ready as Whole}
use Rattle.st_filter.specs.Judged.{verdict_under}
use Rattle.st_filter.specs.Policies.{filters_in_force}
use Rattle.st_messages.specs.Messages.{seq_of, HasWorker}
use Rattle.st_reached.proofs.InUse.{used_served}
use Rattle.st_report.specs.ScheduleText.{spelled_choices}
use Rattle.st_report.specs.declared.schedule.Repeat.{Repeat}
use Rattle.st_trace.specs.declared.entry.Choice.TheVariants.{Worker}
use Rattle.st_trace.specs.declared.entry.Entry.TheVariants.{Answered}
use Rattle.st_law.specs.declared.input.Input.{Input}
use Rattle.st_law.specs.Machine.{answer_entry, turn_entry, worker_entry, working_entry, IsEnabled}
use Rattle.st_law.specs.Meaning.{IsWorker}
use Rattle.st_law.specs.Messages.{Head}
use Rattle.st_law.specs.State.{State, is_live, is_ready, progress_in, seq_at_work, snapshot_in, snapshot_of_progress, worker_at}
use Rattle.st_law.proofs.Asked.{workers}
use Rattle.st_law.proofs.Turns.{at_live}
use Rattle.st_workers.proofs.Copies.{same_verdict}
use Rattle.st_workers.proofs.InUse.{in_use_is}
use Rattle.st_workers.specs.Refinement.{IsTurn, RepresentsMessages, at_work, drawn_copies}
use Rattle.st_workers.specs.Tasks.{task_of_turn, IsTask}
use Rattle.st_workers.specs.UnderWay.{UnderWay, turn_of_worker}
use Rattle.st_workers.specs.declared.task.Task.TheVariants.{Answer}
use Rattle.st_workers.specs.declared.turn.Turn.{Turn}
use Rattle.st_workers.specs.declared.turn.Turn.TheVariants.{Idle, Working, Ready}
use Rattle.st_decide.specs.Machine.{HasTask, Running}
use Rattle.st_kernel.specs.Kernel.{RunSoFar, IsRunSoFar, copies_at, kept_copies, number_now, numbered_copies, state_in}

number_same : (st : State) (o : Option ℕ) → seq_at_work st o ≡ at_work st.messages (is_live st) o
number_same st None = refl
number_same st (Some q) = refl

or_right : (a b : Bool) → b ≡ true → (a || b) ≡ true
or_right true b e = refl
or_right false b e = e

-- an incomplete message has no copies
pub no_copies : (q : ℕ) (o : Option Head) (p : Progress) → is_ready p ≡ false → snapshot_of_progress q o p ≡ None
no_copies q o (Whole args) e = absurd (true≢false e)
no_copies q (Some head) (Word part place) e = refl
no_copies q (Some head) (Look part name) e = refl
no_copies q (Some head) (Stuck errno) e = refl
no_copies q None (Word part place) e = refl
no_copies q None (Look part name) e = refl
no_copies q None (Stuck errno) e = refl

-- a message with copies is complete
complete : (q : ℕ) (o : Option Head) (p : Progress) (s : Snapshot) → snapshot_of_progress q o p ≡ Some s → is_ready p ≡ true
complete q o (Whole args) s e = refl
complete q o (Word part place) s e = absurd (none-some s (sym (no_copies q o (Word part place) refl) ∙ e))
complete q o (Look part name) s e = absurd (none-some s (sym (no_copies q o (Look part name) refl) ∙ e))
complete q o (Stuck errno) s e = absurd (none-some s (sym (no_copies q o (Stuck errno) refl) ∙ e))

-- ---- by the turn of the machine that runs

module _ (i : Input) (st : State) (kept : UnderWay) (w : ℕ) (is : RepresentsMessages i st (is_live st) kept) where
  module _ (turn_is : turn_of_worker kept w ≡ Some Idle) where
    pub idle_at : worker_at st w ≡ None
    idle_at = number_same st (st.turns w) ∙ is.agrees.workers w Idle turn_is

    pub idle_keeps : copies_at st (worker_at st w) ≡ None
    idle_keeps = ap (copies_at st) idle_at

  module _ (q : ℕ) (turn_is : turn_of_worker kept w ≡ Some (Working q)) where
    its_turn : IsTurn st.messages (is_live st) (st.turns w) (Working q)
    its_turn = is.agrees.workers w (Working q) turn_is

    pub working_at : worker_at st w ≡ Some q
    working_at = at_live st w q its_turn.0 its_turn.1

    pub working_keeps : copies_at st (worker_at st w) ≡ None
    working_keeps = ap (copies_at st) working_at ∙ no_copies q (st.messages q).head (progress_in st q) its_turn.2

  module _ (q : ℕ) (s : Snapshot) (turn_is : turn_of_worker kept w ≡ Some (Ready q s)) where
    turn_ready : IsTurn st.messages (is_live st) (st.turns w) (Ready q s)
    turn_ready = is.agrees.workers w (Ready q s) turn_is

    pub ready_at : worker_at st w ≡ Some q
    ready_at =
        let whole : is_ready (progress_in st q) ≡ true = complete q (st.messages q).head (progress_in st q) (drawn_copies q s) turn_ready.1 in
        ap (seq_at_work st) turn_ready.0 ∙ ap (λ (b : Bool). cond b (Some q) None) (or_right (is_live st q) (is_ready (progress_in st q)) whole)

    pub ready_keeps : copies_at st (worker_at st w) ≡ Some (drawn_copies q s)
    ready_keeps = ap (copies_at st) ready_at ∙ turn_ready.1

-- ---- by what the law keeps

module _ (i : Input) (st : State) (w : ℕ) (there : IsWorker i w) (s : Snapshot) where
  answer_by : (q : ℕ) (p : Progress) → is_ready p ≡ true → snapshot_of_progress q (st.messages q).head p ≡ Some s → working_entry i st w q p ≡ answer_entry i st w q (Some s)
  answer_by q (Whole args) whole e = ap (answer_entry i st w q) e
  answer_by q (Word part place) whole e = absurd (true≢false (sym whole))
  answer_by q (Look part name) whole e = absurd (true≢false (sym whole))
  answer_by q (Stuck errno) whole e = absurd (true≢false (sym whole))

  -- a ready worker is at a number, and answers it with the verdict of the filters on its copies
  abbrev pub Answers : Type 0
  Answers = (q : ℕ) × (worker_at st w ≡ Some q) × (snapshot_in st q ≡ Some s) × (worker_entry i st w ≡ Some (Answered w s (verdict_under i.policies s) (is_live st q)))

  by_number : (o : Option ℕ) → worker_at st w ≡ o → copies_at st o ≡ Some s → Answers
  by_number None at e = absurd (none-some s e)
  by_number (Some q) at e = (
    q,
    at,
    e,
    ap (λ (b : Bool). cond b (turn_entry i st w (worker_at st w)) None) ((workers i w).1 there) ∙ ap (turn_entry i st w) at
        ∙ answer_by q (progress_in st q) (complete q (st.messages q).head (progress_in st q) s e) e,
  )

  pub ready_answers : copies_at st (worker_at st w) ≡ Some s → Answers
  ready_answers = by_number (worker_at st w) refl

-- ---- the task of a ready worker

module _ (kept : UnderWay) (w q : ℕ) (s : Snapshot) (there : HasWorker kept.calls w) (turn_is : turn_of_worker kept w ≡ Some (Ready q s)) where
  is_to_answer : (i : Input) (st : State) → RepresentsMessages i st (is_live st) kept → IsTask i st kept w Answer
  unfolding by_number
  is_to_answer i st is =
      let worker : IsWorker i w = (there.0, subst (λ (n : ℕ). w ≤ n) is.workers there.1) in
      let own = by_number i st w worker (drawn_copies q s) (Some q) (ready_at i st kept w is q s turn_is) (turn_ready i st kept w is q s turn_is).1 in
      (q, s, turn_is, own.3 ∙ ap (λ (v : Verdict). Some (Answered w (drawn_copies q s) v (is_live st q))) (same_verdict q s 1 (filters_in_force i.policies s.policy s.version s.rule)))

-- a ready worker has to answer
pub answer_task : (m : Running) (w q : ℕ) (s : Snapshot) → HasWorker m.workers.calls w → turn_of_worker m.workers w ≡ Some (Ready q s) → HasTask m w Answer
answer_task m w q s there turn_is = record {
  here = ap (task_of_turn m.workers) turn_is;
  there = tt;
  law = is_to_answer m.workers w q s there turn_is;
}

-- ---- in a run so far

-- the number of a turn, and its copies
abbrev pub number_of : Turn → Option ℕ
number_of Idle = None
number_of (Working q) = Some q
number_of (Ready q s) = Some q

abbrev pub copies_of : Turn → Option Snapshot
copies_of Idle = None
copies_of (Working q) = None
copies_of (Ready q s) = Some s

-- the same copies with their drawing
abbrev drawn_of_turn : Turn → Option Snapshot
drawn_of_turn Idle = None
drawn_of_turn (Working q) = None
drawn_of_turn (Ready q s) = Some (drawn_copies q s)

-- a turn has the drawing that the worker is at, and the copies that it is ready with
abbrev IsTurnOf : State → ℕ → Turn → Type 0
IsTurnOf st w turn = (worker_at st w ≡ number_of turn) × (copies_at st (worker_at st w) ≡ drawn_of_turn turn)

-- the same in a run, with the number of the copies
abbrev pub IsTurnIn : RunSoFar → ℕ → Turn → Type 0
IsTurnIn now w turn = (worker_at (state_in now) w ≡ number_of turn) × (kept_copies now w ≡ copies_of turn)

by_turn : (i : Input) (st : State) (kept : UnderWay) (w : ℕ) → RepresentsMessages i st (is_live st) kept → (turn : Turn) → turn_of_worker kept w ≡ Some turn → IsTurnOf st w turn
by_turn i st kept w is Idle turn_is = (idle_at i st kept w is turn_is, idle_keeps i st kept w is turn_is)
by_turn i st kept w is (Working q) turn_is = (working_at i st kept w is q turn_is, working_keeps i st kept w is q turn_is)
by_turn i st kept w is (Ready q s) turn_is = (ready_at i st kept w is q s turn_is, ready_keeps i st kept w is q s turn_is)

module _ (m : Running) (made : List Repeat) (first : ℕ) (asleep : List Bool) (so_far : IsRunSoFar m made first asleep) (now : RunSoFar) (view_is : record { input = m.input; choices = spelled_choices made } ≡ now) (w : ℕ) where
  abbrev here : RunSoFar
  here = record { input = m.input; choices = spelled_choices made }

  -- the copies of a turn have the number of their drawing
  numbered_turn : (turn : Turn) → turn_of_worker m.workers w ≡ Some turn → option_map (numbered_copies here) (drawn_of_turn turn) ≡ copies_of turn
  numbered_turn Idle turn_is = refl
  numbered_turn (Working q) turn_is = refl
  numbered_turn (Ready q s) turn_is = ap (λ (n : ℕ). Some (record s { seq = n })) (so_far.numbers.seqs q s.seq (so_far.machine.workers.numbered.seqs.copies w q s turn_is))

  pub at_turn : (turn : Turn) → turn_of_worker m.workers w ≡ Some turn → IsTurnIn now w turn
  at_turn turn turn_is =
      let own = by_turn m.input (state_in here) m.workers w so_far.machine.workers turn turn_is in
      subst (λ (k : RunSoFar). IsTurnIn k w turn) view_is (own.0, ap (option_map (numbered_copies here)) own.1 ∙ numbered_turn turn turn_is)

  -- the number of a turn's drawing
  pub turn_number : (turn : Turn) → turn_of_worker m.workers w ≡ Some turn → (q n : ℕ) → number_of turn ≡ Some q → seq_of m.workers.calls q ≡ Some n → Some n ≡ option_map (number_now now) (worker_at (state_in now) w)
  turn_number turn turn_is q n its is =
      subst (λ (k : RunSoFar). Some n ≡ option_map (number_now k) (worker_at (state_in k) w)) view_is
      (ap Some (sym (so_far.numbers.seqs q n is)) ∙ sym (ap (option_map (number_now here)) ((by_turn m.input (state_in here) m.workers w so_far.machine.workers turn turn_is).0 ∙ its)))

  -- the drawing of a turn is in use
  pub turn_in_use : IsWorker now.input w → (turn : Turn) → turn_of_worker m.workers w ≡ Some turn → (q : ℕ) → number_of turn ≡ Some q → is_some (seq_of m.workers.calls q) ≡ true
  turn_in_use there turn turn_is q its =
      in_use_is m.input (state_in here) m.workers so_far.machine.workers q
      ∙ used_served m.input (state_in here) q (record {
        number = w;
        worker = (workers m.input w).1 (subst (λ (k : RunSoFar). IsWorker k.input w) (sym view_is) there);
        at = (by_turn m.input (state_in here) m.workers w so_far.machine.workers turn turn_is).0 ∙ its;
      })

  -- a worker of the input is one of the machine's
  pub worker_here : IsWorker now.input w → HasWorker m.workers.calls w
  worker_here there =
      let same : now.input.options.workers ≡ m.workers.calls.workers = ap (λ (k : RunSoFar). k.input.options.workers) (sym view_is) ∙ sym so_far.machine.workers.workers in
      (there.0, subst (λ (n : ℕ). w ≤ n) same there.1)

-- copies with a number are those of a drawing
drawn_kept : (now : RunSoFar) (o : Option Snapshot) (s : Snapshot) → option_map (numbered_copies now) o ≡ Some s → (drawn : Snapshot) × (o ≡ Some drawn)
drawn_kept now None s e = absurd (none-some s e)
drawn_kept now (Some drawn) s e = (drawn, refl)

-- a ready worker is enabled
pub ready_enabled : (now : RunSoFar) (w : ℕ) → IsWorker now.input w → (s : Snapshot) → kept_copies now w ≡ Some s → IsEnabled now.input (state_in now) (Worker w)
ready_enabled now w there s kept =
    let drawn = drawn_kept now (copies_at (state_in now) (worker_at (state_in now) w)) s kept in
    let own = ready_answers now.input (state_in now) w there drawn.0 drawn.1 in
    (Answered w drawn.0 (verdict_under now.input.policies drawn.0) (is_live (state_in now) own.0), own.3)
