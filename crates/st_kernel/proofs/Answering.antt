-- What the answer of a ready worker adds, and that one ready worker less is left.
use native.Mathlib.Omega.{arith}
use Rattle.std.proofs.Common.{◌≡◌, ◌≢◌, ◌≤◌, ◌<◌, ◌+◌, ◌∙◌, ◌||◌, ◌++◌, ◌∷◌, ℕ, zero, suc, Bool, true, false, cond, inl, inr, List, [], Option, Some, None, refl, ap, sym, subst}
use Rattle.std.proofs.lemmas.Bool.{cases_eq, eq-eqb, ne_eqb}
use Rattle.std.proofs.lemmas.Option.{none-some, same_Some}
use Rattle.std.specs.Option.{option_map}
use Rattle.std.specs.Prelude.{is_some}
use Rattle.st_calls.specs.declared.judged.Snapshot.{Snapshot}
use Rattle.st_calls.specs.declared.judged.Verdict.{Verdict}
use Rattle.st_filter.specs.Judged.{JudgedCall, verdict_under}
use Rattle.st_report.specs.ScheduleText.{repeats_with, spelled_choices}
use Rattle.st_report.specs.declared.schedule.Repeat.{Repeat}
use Rattle.st_trace.specs.declared.entry.Choice.TheVariants.{Worker}
use Rattle.st_trace.specs.declared.entry.Entry.{Entry}
use Rattle.st_trace.specs.declared.entry.Entry.TheVariants.{Answered}
use Rattle.st_law.specs.declared.input.Input.{Input}
use Rattle.st_law.specs.Machine.{entry_of, state_after, state_of_run, IsEnabled}
use Rattle.st_effects.specs.Progress.{Progress, Word, Look, Stuck, Ready as Whole}
use Rattle.st_law.specs.Meaning.{IsWorker}
use Rattle.st_law.specs.Messages.{Head}
use Rattle.st_law.specs.State.{State, is_live, is_ready, progress_in, seq_at_work, snapshot_in, snapshot_of_progress, worker_at}
use Rattle.st_filter.specs.Policies.{filters_in_force}
use Rattle.st_workers.specs.Refinement.{drawn_copies}
use Rattle.st_workers.specs.UnderWay.{turn_of_worker}
use Rattle.st_workers.specs.declared.turn.Turn.{Turn}
use Rattle.st_workers.specs.declared.turn.Turn.TheVariants.{Idle, Working, Ready}
use Rattle.st_workers.proofs.Copies.{same_verdict}
use Rattle.st_decide.specs.Machine.{IsStep, Running}
use Rattle.st_kernel.specs.Kernel.{RunSoFar, HasRoom, IsRunSoFar, copies_at, entry_now, kept_copies, number_now, numbered_next, ready_workers, state_in, with_choice}
use Rattle.st_kernel.proofs.RunsSoFar.{given_is, spelled_more, state_more}
use Rattle.st_kernel.proofs.Working.{at_turn, copies_of, no_copies, ready_answers, ready_at, ready_keeps}

-- ---- the count of ready workers, if one is ready no more

module _ (st new : State) (w : ℕ) (from : 1 ≤ w) (others : (v : ℕ) → v ≢ w → copies_at new (worker_at new v) ≡ copies_at st (worker_at st v))
    (none : copies_at new (worker_at new w) ≡ None) (s : Snapshot) (was : copies_at st (worker_at st w) ≡ Some s) where
  abbrev counted : Option Snapshot → ℕ → ℕ
  counted o k = cond (is_some o) (suc k) k

  same_below : (n : ℕ) → n < w → ready_workers new n ≡ ready_workers st n
  same_below zero below = refl
  same_below (suc n) below =
      let apart : suc n ≢ w = λ e. omega (arith, below, e) in
      λ k. counted (others (suc n) apart k) (same_below n (omega (arith, below)) k)

  one_more_counted : (o : Option Snapshot) (k : ℕ) → counted o (suc k) ≡ suc (counted o k)
  one_more_counted None k = refl
  one_more_counted (Some copies) k = refl

  pub one_less : (n : ℕ) → w ≤ n → ready_workers st n ≡ suc (ready_workers new n)
  one_less zero below = absurd (omega (arith, below, from))
  one_less (suc n) below = elim (cases_eq (suc n) w) [
    | inl same ↦
        ap (λ (o : Option Snapshot). counted o (ready_workers st n)) (ap (λ (v : ℕ). copies_at st (worker_at st v)) same ∙ was)
        ∙ ap suc (sym (same_below n (omega (arith, same))) ∙ sym (ap (λ (o : Option Snapshot). counted o (ready_workers new n)) (ap (λ (v : ℕ). copies_at new (worker_at new v)) same ∙ none)))
    | inr apart ↦
        (λ k. counted (sym (others (suc n) apart) k) (one_less n (omega (arith, below, apart)) k))
        ∙ one_more_counted (copies_at new (worker_at new (suc n))) (ready_workers new n)
  ]

-- ---- the state after an answer

-- the copies of the number that a worker has claimed
abbrev claimed_copies : State → Option ℕ → Option Snapshot
claimed_copies st None = None
claimed_copies st (Some q) = snapshot_in st q

or_not : (a b : Bool) → (a || b) ≡ false → b ≡ false
or_not true b e = cc
or_not false b e = e

-- a number that is claimed, but that its worker is no longer at, has no copies
at_claimed : (st : State) (o : Option ℕ) → copies_at st (seq_at_work st o) ≡ claimed_copies st o
at_claimed st None = refl
at_claimed st (Some q) = by (is_live st q || is_ready (progress_in st q)) refl where
  by : (b : Bool) → (is_live st q || is_ready (progress_in st q)) ≡ b → copies_at st (cond b (Some q) None) ≡ snapshot_in st q
  by true e = refl
  by false e = sym (no_copies q (st.messages q).head (progress_in st q) (or_not (is_live st q) (is_ready (progress_in st q)) e))

module _ (i : Input) (st : State) (w : ℕ) (s : Snapshot) (verdict : Verdict) (applied : Bool) where
  abbrev pub after : State
  after = state_after i st (Answered w s verdict applied)

  same_claimed : (o : Option ℕ) → claimed_copies after o ≡ claimed_copies st o
  same_claimed None = refl
  same_claimed (Some q) = refl

  pub answered_others : (v : ℕ) → v ≢ w → copies_at after (worker_at after v) ≡ copies_at st (worker_at st v)
  answered_others v apart =
      at_claimed after (after.turns v)
      ∙ ap (λ (b : Bool). claimed_copies after (cond b None (st.turns v))) (ne_eqb w v (λ e. apart (sym e)))
      ∙ same_claimed (st.turns v) ∙ sym (at_claimed st (st.turns v))

  pub answered_none : copies_at after (worker_at after w) ≡ None
  answered_none = ap (λ (b : Bool). copies_at after (seq_at_work after (cond b None (st.turns w)))) (eq-eqb w w refl)

-- ---- a ready worker answers

-- a worker is ready in a run so far
pub record IsReadyIn (m : Running) (made : List Repeat) (first : ℕ) (asleep : List Bool) (w q : ℕ) (s : Snapshot) : Type 0 where
  pub so_far : IsRunSoFar m made first asleep
  pub there : IsWorker m.input w
  pub turn_is : turn_of_worker m.workers w ≡ Some (Ready q s)

-- what is so of a run before and after an answer with a judged call, and of the entry that it adds
pub record HasAnswered (old : RunSoFar) (w : ℕ) (judged : JudgedCall) (added : Option Entry) (new : RunSoFar) : Type 0 where
  pub ok : new ≡ with_choice old (Worker w)
  pub enabled : IsEnabled old.input (state_in old) (Worker w)
  pub entry : added ≡ entry_now old (Worker w)
  pub kept : kept_copies old w ≡ Some judged.snapshot
  pub answered : (q : ℕ) × (worker_at (state_in old) w ≡ Some q) × (added ≡ Some (Answered w judged.snapshot judged.verdict (is_live (state_in old) q)))

-- the copies of a drawing have that drawing
own_number : (q : ℕ) (o : Option Head) (p : Progress) (s : Snapshot) → snapshot_of_progress q o p ≡ Some s → s.seq ≡ q
own_number q None p s e = cc
own_number q (Some head) (Word part place) s e = cc
own_number q (Some head) (Look part name) s e = cc
own_number q (Some head) (Stuck errno) s e = cc
own_number q (Some head) (Whole args) s e = sym (ap (λ (u : Snapshot). u.seq) (same_Some _ s e))

drawing_is : (st : State) (q : ℕ) (s : Snapshot) → snapshot_in st q ≡ Some s → s.seq ≡ q
drawing_is st q s e = own_number q (st.messages q).head _ s e

module _ (m : Running) (made : List Repeat) (first : ℕ) (asleep : List Bool) (w q : ℕ) (s : Snapshot) (ready : IsReadyIn m made first asleep w q s) where
  abbrev pub here : RunSoFar
  here = record { input = m.input; choices = spelled_choices made }

  abbrev st : State
  st = state_in here

  -- the entry that its answer adds, by the drawing
  abbrev its_drawn : Entry
  its_drawn = Answered w (drawn_copies q s) (verdict_under m.input.policies s) (is_live st q)

  -- the same with the number of the drawing
  abbrev pub its_answer : Entry
  its_answer = Answered w s (verdict_under m.input.policies s) (is_live st q)

  abbrev new : State
  new = state_after m.input st its_drawn

  drawn_kept : copies_at st (worker_at st w) ≡ Some (drawn_copies q s)
  drawn_kept = ready_keeps m.input st m.workers w ready.so_far.machine.workers q s ready.turn_is

  pub its_copies : kept_copies here w ≡ Some s
  its_copies = (at_turn m made first asleep ready.so_far here refl w (Ready q s) ready.turn_is).1

  its_number : number_now here q ≡ s.seq
  its_number = ready.so_far.numbers.seqs q s.seq (ready.so_far.machine.workers.numbered.seqs.copies w q s ready.turn_is)

  answer_numbered : numbered_next here its_drawn ≡ its_answer
  answer_numbered = ap (λ (n : ℕ). Answered w (record s { seq = n }) (verdict_under m.input.policies s) (is_live st q)) its_number

  pub adds_answer : entry_of m.input st (Worker w) ≡ Some its_drawn
  adds_answer =
      let own = ready_answers m.input st w ready.there (drawn_copies q s) drawn_kept in
      own.3 ∙ ap (λ (n : ℕ). Some (Answered w (drawn_copies q s) (verdict_under m.input.policies (drawn_copies q s)) (is_live st n))) (sym (drawing_is st own.0 (drawn_copies q s) own.2))
      ∙ ap (λ (v : Verdict). Some (Answered w (drawn_copies q s) v (is_live st q))) (same_verdict q s 1 (filters_in_force m.input.policies s.policy s.version s.rule))

  pub one_ready_less : ready_workers st m.input.options.workers ≡ suc (ready_workers new m.input.options.workers)
  one_ready_less =
      let v = verdict_under m.input.policies s in
      let applied = is_live st q in
      one_less st new w ready.there.0 (answered_others m.input st w (drawn_copies q s) v applied) (answered_none m.input st w (drawn_copies q s) v applied) (drawn_copies q s) drawn_kept m.input.options.workers ready.there.1

  -- there is room for its choice
  pub has_room : (count capacity : ℕ) → HasRoom here count capacity → count < capacity
  has_room count capacity room = let less = one_ready_less in omega (arith, less, room)

  -- and then still for the answers of the other workers
  pub room_left : (then : RunSoFar) (count count_then capacity capacity_then : ℕ) → then.input ≡ m.input → state_in then ≡ new → count_then ≤ count + 1 → capacity_then ≡ capacity → HasRoom here count capacity → HasRoom then count_then capacity_then
  room_left then count count_then capacity capacity_then same state_is more kept room =
      let less = one_ready_less in
      let now : ready_workers (state_in then) then.input.options.workers ≡ ready_workers new m.input.options.workers = λ k. ready_workers (state_is k) (same k).options.workers in
      omega (arith, less, now, more, kept, room)

  -- the entry that a step of the machine gives is this one
  pub its_entry : (given : Entry) (then : Running) → IsStep m (Worker w) (Some given) then → given ≡ its_answer
  its_entry given then step =
      given_is m made first asleep ready.so_far step.0 given step.2
      ∙ ap (numbered_next here) (same_Some step.0 its_drawn (sym (step.1 st ready.so_far.machine).0 ∙ adds_answer))
      ∙ answer_numbered

  pub adds_one : (then : Running) → IsStep m (Worker w) None then → ⊥
  adds_one then step = none-some its_drawn (sym (step st ready.so_far.machine).0 ∙ adds_answer)

  module _ (input : Input) (same : input ≡ m.input) (made_then : List Repeat) (noted : made_then ≡ repeats_with made (Worker w)) where
    abbrev pub there_then : RunSoFar
    there_then = record { input = input; choices = spelled_choices made_then }

    spelled : spelled_choices made_then ≡ spelled_choices made ++ Worker w ∷ []
    spelled = ap spelled_choices noted ∙ spelled_more made (Worker w) ready.so_far.joined

    pub one_choice_more : there_then ≡ with_choice here (Worker w)
    one_choice_more = λ k. record { input = same k; choices = spelled k }

    pub room_then : (count count_then capacity capacity_then : ℕ) → count_then ≤ count + 1 → capacity_then ≡ capacity → HasRoom here count capacity → HasRoom there_then count_then capacity_then
    room_then count count_then capacity capacity_then more kept room =
        room_left there_then count count_then capacity capacity_then same ((λ k. state_of_run (same k) (spelled k)) ∙ state_more m.input (spelled_choices made) (Worker w) its_drawn adds_answer) more kept room

    -- what an answer with a judged call is
    pub has_answered : (old : RunSoFar) → here ≡ old → (judged : JudgedCall) → s ≡ judged.snapshot → judged.verdict ≡ verdict_under m.input.policies judged.snapshot → (e : Entry) → e ≡ its_answer → (added : Option Entry) → added ≡ Some e → HasAnswered old w judged added there_then
    has_answered old view judged same_s verdict_is e e_is added added_is = subst (λ (k : RunSoFar). HasAnswered k w judged added there_then) view (record {
      ok = one_choice_more;
      enabled = (its_drawn, adds_answer);
      entry = added_is ∙ ap Some e_is ∙ sym (ap (option_map (numbered_next here)) adds_answer ∙ ap (λ (next : Entry). Some next) answer_numbered);
      kept = its_copies ∙ ap Some same_s;
      answered = (
        q,
        ready_at m.input st m.workers w ready.so_far.machine.workers q s ready.turn_is,
        added_is ∙ ap Some e_is ∙ (λ k. Some (Answered w (same_s k) (verdict_under m.input.policies (same_s k)) (is_live st q))) ∙ ap (λ (v : Verdict). Some (Answered w judged.snapshot v (is_live st q))) (sym verdict_is),
      );
    })

-- a worker is ready with one snapshot
pub one_snapshot : (o : Option Turn) (p q : ℕ) (one two : Snapshot) → o ≡ Some (Ready p one) → o ≡ Some (Ready q two) → one ≡ two
one_snapshot o p q one two first second = same_Some one two (ap copies_of (same_Some (Ready p one) (Ready q two) (sym first ∙ second)))

-- a turn that isn't ready has no copies
pub not_ready : (turn : Turn) → ((q : ℕ) (s : Snapshot) → turn ≡ Ready q s → ⊥) → copies_of turn ≡ None
not_ready Idle other = refl
not_ready (Working q) other = refl
not_ready (Ready q s) other = absurd (other q s refl)

-- ---- the worker that answers

module _ (m : Running) (made : List Repeat) (first : ℕ) (asleep : List Bool) (so_far : IsRunSoFar m made first asleep) (now : RunSoFar) (view : record { input = m.input; choices = spelled_choices made } ≡ now) (w : ℕ) (there : IsWorker now.input w)
    (seen : Running) (same : seen ≡ m) (turn : Turn) (turn_is : turn_of_worker seen.workers w ≡ Some turn) where
  turn_here : turn_of_worker m.workers w ≡ Some turn
  turn_here = subst (λ (k : Running). turn_of_worker k.workers w ≡ Some turn) same turn_is

  -- the turn that was read is ready
  pub is_ready_in : (q : ℕ) (s : Snapshot) → turn ≡ Ready q s → IsReadyIn m made first asleep w q s
  is_ready_in q s is = record {
    so_far = so_far;
    there = subst (λ (k : RunSoFar). IsWorker k.input w) (sym view) there;
    turn_is = turn_here ∙ ap Some is;
  }

  -- it isn't ready
  pub keeps_none : ((q : ℕ) (s : Snapshot) → turn ≡ Ready q s → ⊥) → kept_copies now w ≡ None
  keeps_none other = (at_turn m made first asleep so_far now view w turn turn_here).1 ∙ not_ready turn other
