-- What a worker does next is what it does next in the law's machine.
use Rattle.std.proofs.Common.{◌≡◌, ◌≢◌, ◌≤◌, ℕ, ◌&&◌, ◌||◌, not, nat_lt, nat_le, Bool, true, false, cond, Option, Some, None, IfSome, IsSome, inl, inr, refl, ap, sym, ◌∙◌, subst, arith}
use Rattle.std.specs.Prelude.{option_map}
use Rattle.std.proofs.lemmas.Bool.{cases_lt, le-leb, lt-ltb, true≢false}
use Rattle.std.proofs.lemmas.Option.{none-some, same_Some}
use Rattle.st_base.specs.declared.errno.Errno.{Errno}
use Rattle.st_names.specs.Name.{Components}
use Rattle.st_calls.specs.declared.judged.Snapshot.{Snapshot}
use Rattle.st_calls.specs.declared.judged.Verdict.{Verdict}
use Rattle.st_effects.specs.Progress.{Progress, Word, Look, Stuck, Ready as Whole}
use Rattle.st_filter.specs.Judged.{verdict_under}
use Rattle.st_filter.specs.Policies.{filters_in_force}
use Rattle.st_lookaside.specs.Slot.{Slot, slot_progress, IsLookNext}
use Rattle.st_lookaside.specs.Slots.{slot_at}
use Rattle.st_messages.specs.declared.message.MsgState.{MsgState}
use Rattle.st_messages.specs.declared.message.MsgState.TheVariants.{Waiting, Claimed, Answered, Faulted}
use Rattle.st_messages.specs.Messages.{first_waiting, message_state, IsLeastWaiting}
use Rattle.st_trace.specs.declared.entry.Entry.TheVariants as entry
use Rattle.st_law.specs.declared.input.Input.{Input}
use Rattle.st_law.specs.Machine.{answer_entry, claimed_entry, least_waiting, turn_entry, worker_entry, working_entry}
use Rattle.st_law.specs.Messages.{Head}
use Rattle.st_law.specs.State.{Message, State, is_live, is_ready, is_waiting, is_worker, progress_in, seq_at_work, snapshot_of_progress, worker_at}
use Rattle.st_law.proofs.Least.{least}
use Rattle.st_workers.specs.Refinement.{at_work, drawn_copies, AgreesWithMachine, HasMessageFlags, RepresentsMessages, IsLive, IsState, IsTurn, AreValidWorkers}
use Rattle.st_workers.specs.Tasks.{idle_task, task_at, task_of, task_of_slot, task_of_turn, IsBusy, IsCopy, IsFault, IsLook, IsOfProcess, IsTask}
use Rattle.st_workers.specs.UnderWay.{UnderWay, found_in, turn_of_worker}
use Rattle.st_workers.specs.declared.task.Task.TheVariants as task
use Rattle.st_workers.specs.declared.turn.Turn.{Turn}
use Rattle.st_workers.specs.declared.turn.Turn.TheVariants.{Idle, Working, Ready}
use Rattle.st_workers.proofs.Claims.{live_by_state}
use Rattle.st_workers.proofs.Copies.{same_progress, same_verdict}

-- ---- what a task says of the worker

idle_claims : (o : Option ℕ) → idle_task o ≡ task.Claim → IsSome o
idle_claims None e = cc
idle_claims (Some drawing) e = refl

slot_claims : (drawing : ℕ) (o : Option Slot) → task_of_slot drawing o ≡ task.Claim → ⊥
slot_claims drawing None e = cc
slot_claims drawing (Some slot) e = by (slot_progress slot) e where
  by : (p : Progress) → task_at drawing slot.head.pid p ≡ task.Claim → ⊥
  by (Word part place) e = cc
  by (Look part name) e = cc
  by (Stuck errno) e = cc
  by (Whole args) e = cc

-- a worker whose task is to claim is idle, and a number is waiting
pub claims_idle : (kept : UnderWay) (o : Option Turn) → task_of_turn kept o ≡ task.Claim → (o ≡ Some Idle) × IsSome (first_waiting kept.calls)
claims_idle kept None e = cc
claims_idle kept (Some Idle) e = (refl, idle_claims (first_waiting kept.calls) e)
claims_idle kept (Some (Working drawing)) e = absurd (slot_claims drawing (slot_at kept.slots drawing) e)
claims_idle kept (Some (Ready q s)) e = cc

idle_idles : (o : Option ℕ) → IsBusy (idle_task o) → ⊥
idle_idles None x = x
idle_idles (Some drawing) x = x

-- a worker that is busy is at some number
pub busy_works : (kept : UnderWay) (o : Option Turn) → IsBusy (task_of_turn kept o) → (drawing : ℕ) × (o ≡ Some (Working drawing))
busy_works kept None x = absurd x
busy_works kept (Some Idle) x = absurd (idle_idles (first_waiting kept.calls) x)
busy_works kept (Some (Working drawing)) x = (drawing, refl)
busy_works kept (Some (Ready q s)) x = absurd x

idle_rests : (o : Option ℕ) → idle_task o ≡ task.Answer → ⊥
idle_rests None e = cc
idle_rests (Some drawing) e = cc

ready_task : (drawing pid : ℕ) (p : Progress) → task_at drawing pid p ≡ task.Answer → is_ready p ≡ true
ready_task drawing pid (Word part place) e = cc
ready_task drawing pid (Look part name) e = cc
ready_task drawing pid (Stuck errno) e = cc
ready_task drawing pid (Whole args) e = refl

module _ (kept : UnderWay) (whole : AreValidWorkers kept) (w : ℕ) where
  not_working : (drawing : ℕ) → turn_of_worker kept w ≡ Some (Working drawing) → task_of_slot drawing (slot_at kept.slots drawing) ≡ task.Answer → ⊥
  not_working drawing working e =
      let at : IsTurn whole.messages whole.alive (whole.turns w) (Working drawing) = whole.agrees.workers w (Working drawing) working in
      let live : IsLive whole.turns drawing (whole.messages drawing) (found_in kept) = whole.agrees.live drawing at.1 in
      let same = same_progress (whole.messages drawing) live.tid live.slot live.is_slot in
      true≢false (sym (ready_task drawing live.slot.head.pid (slot_progress live.slot) (sym (ap (task_of_slot drawing) live.slot_is) ∙ e)) ∙ sym (ap is_ready same) ∙ at.2)

  answers_by : (o : Option Turn) → turn_of_worker kept w ≡ o → task_of_turn kept o ≡ task.Answer → (q : ℕ) × (s : Snapshot) × (turn_of_worker kept w ≡ Some (Ready q s))
  answers_by None o_is e = cc
  answers_by (Some Idle) o_is e = absurd (idle_rests (first_waiting kept.calls) e)
  answers_by (Some (Working drawing)) o_is e = absurd (not_working drawing o_is e)
  answers_by (Some (Ready q s)) o_is e = (q, s, o_is)

  -- a worker whose task is to answer is ready
  pub answers_ready : task_of kept w ≡ task.Answer → (q : ℕ) × (s : Snapshot) × (turn_of_worker kept w ≡ Some (Ready q s))
  answers_ready e = answers_by (turn_of_worker kept w) refl e

-- ---- the entry of the law's machine

and_true : (a b : Bool) → a ≡ true → b ≡ true → (a && b) ≡ true
and_true a b a_is b_is = ap (λ (x : Bool). x && b) a_is ∙ b_is

-- a worker whose turn is kept is one of the input's
pub worker_there : (i : Input) (st : State) (alive : ℕ → Bool) (kept : UnderWay) (w : ℕ) → 1 ≤ w → w ≤ kept.calls.workers → RepresentsMessages i st alive kept → is_worker i w ≡ true
worker_there i st alive kept w from to is = and_true (nat_lt 0 w) (nat_le w i.options.workers) (lt-ltb 0 w from) (le-leb w i.options.workers (subst (λ (n : ℕ). w ≤ n) is.workers to))

work_same : (st : State) (o : Option ℕ) → seq_at_work st o ≡ at_work st.messages (is_live st) o
work_same st None = refl
work_same st (Some q) = refl

entry_by : (i : Input) (st : State) (w : ℕ) (o : Option ℕ) → is_worker i w ≡ true → worker_at st w ≡ o → worker_entry i st w ≡ turn_entry i st w o
entry_by i st w o there at = ap (λ (b : Bool). cond b (turn_entry i st w (worker_at st w)) None) there ∙ ap (turn_entry i st w) at

-- a message with sealed copies is complete
pub sealed_ready : (q : ℕ) (o : Option Head) (p : Progress) (s : Snapshot) → snapshot_of_progress q o p ≡ Some s → is_ready p ≡ true
sealed_ready q (Some head) (Whole args) s e = refl
sealed_ready q (Some head) (Word part place) s e = absurd (none-some s e)
sealed_ready q (Some head) (Look part name) s e = absurd (none-some s e)
sealed_ready q (Some head) (Stuck errno) s e = absurd (none-some s e)
sealed_ready q None p s e = absurd (none-some s e)

-- ---- an idle worker

waits_state : (turns : ℕ → Option ℕ) (q : ℕ) (m : Message) (state : MsgState) → IsState turns q m state → m.claimed ≡ false → state ≡ Waiting
waits_state turns q m Waiting is e = refl
waits_state turns q m (Claimed w) is e = absurd (true≢false (sym is.0.claimed ∙ e))
waits_state turns q m (Answered v) is e = absurd (true≢false (sym is.0.claimed ∙ e))
waits_state turns q m (Faulted errno) is e = absurd (true≢false (sym is.claimed ∙ e))

and_not_parts : (a b : Bool) → (a && not b) ≡ true → (a ≡ true) × (b ≡ false)
and_not_parts true true e = cc
and_not_parts true false e = (refl, refl)
and_not_parts false b e = cc

module _ (st : State) (kept : UnderWay) (agrees : AgreesWithMachine st.messages st.turns (is_live st) st.posted (found_in kept)) where
  -- a number that is waiting in the law's machine is waiting here
  waits_here : (q : ℕ) → is_waiting st q ≡ true → message_state kept.calls q ≡ Some Waiting
  waits_here q is =
      let parts = and_not_parts (is_live st q) (st.messages q).claimed is in
      let live : IsLive st.turns q (st.messages q) (found_in kept) = agrees.live q parts.0 in
      live.state_is ∙ ap Some (waits_state st.turns q (st.messages q) live.state live.is_state parts.1)

  -- a number that is waiting here is waiting in the law's machine
  waits_there : (q : ℕ) → message_state kept.calls q ≡ Some Waiting → (is_waiting st q ≡ true) × (1 ≤ q) × (q ≤ st.posted)
  waits_there q is =
      let alive : is_live st q ≡ true = live_by_state st.messages st.turns (is_live st) st.posted (found_in kept) agrees q Waiting is (is_live st q) refl in
      let live : IsLive st.turns q (st.messages q) (found_in kept) = agrees.live q alive in
      let come : HasMessageFlags (st.messages q) false None false = subst (IsState st.turns q (st.messages q)) (same_Some live.state Waiting (sym live.state_is ∙ is)) live.is_state in
      let given = agrees.given q alive in
      (and_true (is_live st q) (not (st.messages q).claimed) alive (ap not come.claimed), given.0, given.1)

  -- the number that is claimed is that of the law's machine
  pub least_is : (p : ℕ) → IsLeastWaiting kept.calls p → least_waiting st ≡ Some p
  least_is p is = least (λ o. o ≡ Some p) (is_waiting st) 1 st.posted
      (λ q x. ap Some (elim (cases_lt p q) [
        | inl lt ↦ absurd (true≢false (sym (waits_there p is.waiting).0 ∙ x.least p (waits_there p is.waiting).1 lt))
        | inr ge ↦ let le = is.least q (waits_here q x.holds) in omega (arith, ge, le)
      ]))
      (λ none. let there = waits_there p is.waiting in absurd (true≢false (sym there.0 ∙ none p there.1 (let inside = there.2 in omega (arith, inside)))))

  pub least_none : ((q : ℕ) → message_state kept.calls q ≢ Some Waiting) → least_waiting st ≡ None
  least_none none = least (λ o. o ≡ None) (is_waiting st) 1 st.posted (λ q x. absurd (none q (waits_here q x.holds))) (λ all. refl)

module _ (i : Input) (st : State) (kept : UnderWay) (w : ℕ) (is : RepresentsMessages i st (is_live st) kept) (there : is_worker i w ≡ true) where
  module _ (idle : turn_of_worker kept w ≡ Some Idle) where
    idle_at : worker_at st w ≡ None
    idle_at = work_same st (st.turns w) ∙ is.agrees.workers w Idle idle

    pub claim_entry : (p : ℕ) → IsLeastWaiting kept.calls p → worker_entry i st w ≡ Some (entry.Claimed w p)
    claim_entry p least_p = entry_by i st w None there idle_at ∙ ap (claimed_entry w) (least_is st kept is.agrees p least_p)

    pub rest_entry : ((q : ℕ) → message_state kept.calls q ≢ Some Waiting) → worker_entry i st w ≡ None
    rest_entry none = entry_by i st w None there idle_at ∙ ap (claimed_entry w) (least_none st kept is.agrees none)

  -- ---- a worker at a number

  working_task : (q pid : ℕ) (p : Progress) → worker_at st w ≡ Some q → progress_in st q ≡ p → is_ready p ≡ false → IsOfProcess st q pid → IsTask i st kept w (task_at q pid p)
  working_task q pid (Word part place) at p_is unready of_process = (entry_by i st w (Some q) there at ∙ ap (working_entry i st w q) p_is, of_process)
  working_task q pid (Look part name) at p_is unready of_process = (name, entry_by i st w (Some q) there at ∙ ap (working_entry i st w q) p_is)
  working_task q pid (Stuck errno) at p_is unready of_process = entry_by i st w (Some q) there at ∙ ap (working_entry i st w q) p_is
  working_task q pid (Whole args) at p_is unready of_process = absurd (true≢false unready)

  at_live : (o : Option ℕ) (q : ℕ) → o ≡ Some q → is_live st q ≡ true → seq_at_work st o ≡ Some q
  at_live o q is live = ap (seq_at_work st) is ∙ ap (λ (b : Bool). cond (b || is_ready (progress_in st q)) (Some q) None) live

  pub working_is : (q : ℕ) (slot : Slot) → turn_of_worker kept w ≡ Some (Working q) → slot_at kept.slots q ≡ Some slot → IsTask i st kept w (task_at q slot.head.pid (slot_progress slot))
  working_is q slot working slot_is =
      let turn : IsTurn st.messages (is_live st) (st.turns w) (Working q) = is.agrees.workers w (Working q) working in
      let live : IsLive st.turns q (st.messages q) (found_in kept) = is.agrees.live q turn.1 in
      let its : live.slot ≡ slot = same_Some live.slot slot (sym live.slot_is ∙ slot_is) in
      let same : progress_in st q ≡ slot_progress slot = same_progress (st.messages q) live.tid live.slot live.is_slot ∙ ap slot_progress its in
      let of_process : IsOfProcess st q slot.head.pid = ap (option_map (λ (head : Head). head.pid)) live.is_slot.head ∙ ap (λ (s : Slot). Some s.head.pid) its in
      working_task q slot.head.pid (slot_progress slot) (at_live (st.turns w) q turn.0 turn.1) same (ap is_ready (sym same) ∙ turn.2) of_process

  -- the entry of the law's machine at a number, by the progress of its message
  pub working_entry_is : (q : ℕ) (slot : Slot) (p : Progress) → turn_of_worker kept w ≡ Some (Working q) → slot_at kept.slots q ≡ Some slot → slot_progress slot ≡ p → worker_entry i st w ≡ working_entry i st w q p
  working_entry_is q slot p working slot_is p_is =
      let turn : IsTurn st.messages (is_live st) (st.turns w) (Working q) = is.agrees.workers w (Working q) working in
      let live : IsLive st.turns q (st.messages q) (found_in kept) = is.agrees.live q turn.1 in
      let same : progress_in st q ≡ slot_progress slot = same_progress (st.messages q) live.tid live.slot live.is_slot ∙ ap slot_progress (same_Some live.slot slot (sym live.slot_is ∙ slot_is)) in
      entry_by i st w (Some q) there (at_live (st.turns w) q turn.0 turn.1) ∙ ap (working_entry i st w q) (same ∙ p_is)

  -- ---- a worker that is ready

  or_right : (a b : Bool) → b ≡ true → (a || b) ≡ true
  or_right true b e = refl
  or_right false b e = e

  answer_by : (q : ℕ) (p : Progress) (s : Snapshot) → progress_in st q ≡ p → is_ready p ≡ true → snapshot_of_progress q (st.messages q).head p ≡ Some s → working_entry i st w q p ≡ answer_entry i st w q (Some s)
  answer_by q (Whole args) s p_is ready e = ap (answer_entry i st w q) e
  answer_by q (Word part place) s p_is ready e = absurd (true≢false (sym ready))
  answer_by q (Look part name) s p_is ready e = absurd (true≢false (sym ready))
  answer_by q (Stuck errno) s p_is ready e = absurd (true≢false (sym ready))

  pub ready_is : (q : ℕ) (s : Snapshot) → turn_of_worker kept w ≡ Some (Ready q s) → worker_entry i st w ≡ Some (entry.Answered w (drawn_copies q s) (verdict_under i.policies s) (is_live st q))
  ready_is q s ready =
      let turn : IsTurn st.messages (is_live st) (st.turns w) (Ready q s) = is.agrees.workers w (Ready q s) ready in
      let whole : is_ready (progress_in st q) ≡ true = sealed_ready q (st.messages q).head (progress_in st q) (drawn_copies q s) turn.1 in
      let at : worker_at st w ≡ Some q = ap (seq_at_work st) turn.0 ∙ ap (λ (b : Bool). cond b (Some q) None) (or_right (is_live st q) (is_ready (progress_in st q)) whole) in
      entry_by i st w (Some q) there at ∙ answer_by q (progress_in st q) (drawn_copies q s) refl whole turn.1
      ∙ ap (λ (v : Verdict). Some (entry.Answered w (drawn_copies q s) v (is_live st q))) (same_verdict q s 1 (filters_in_force i.policies s.policy s.version s.rule))

-- ---- preconditions of the code

-- a number with a state has a slot
pub state_slot : (kept : UnderWay) → AreValidWorkers kept → (q : ℕ) (state : MsgState) → message_state kept.calls q ≡ Some state → (slot : Slot) × (slot_at kept.slots q ≡ Some slot)
state_slot kept whole q state is =
    let alive = live_by_state whole.messages whole.turns whole.alive whole.posted (found_in kept) whole.agrees q state is (whole.alive q) refl in
    let live : IsLive whole.turns q (whole.messages q) (found_in kept) = whole.agrees.live q alive in
    (live.slot, live.slot_is)

-- the number that a worker is at has a slot
pub working_slot : (kept : UnderWay) → AreValidWorkers kept → (w q : ℕ) → turn_of_worker kept w ≡ Some (Working q) → (slot : Slot) × (slot_at kept.slots q ≡ Some slot)
working_slot kept whole w q working =
    let live : IsLive whole.turns q (whole.messages q) (found_in kept) = whole.agrees.live q (whole.agrees.workers w (Working q) working).1 in
    (live.slot, live.slot_is)

-- ---- preconditions by the task

word_by : (drawing pid : ℕ) (p : Progress) → IsCopy (task_at drawing pid p) → (part : ℕ) × (place : ℕ) × (p ≡ Word part place)
word_by drawing pid (Word part place) is = (part, place, refl)
word_by drawing pid (Look part name) is = absurd is
word_by drawing pid (Stuck errno) is = absurd is
word_by drawing pid (Whole args) is = absurd is

look_by : (drawing pid : ℕ) (p : Progress) → IsLook (task_at drawing pid p) → (part : ℕ) × (name : Components) × (p ≡ Look part name)
look_by drawing pid (Word part place) is = absurd is
look_by drawing pid (Look part name) is = (part, name, refl)
look_by drawing pid (Stuck errno) is = absurd is
look_by drawing pid (Whole args) is = absurd is

fault_by : (drawing pid : ℕ) (p : Progress) → IsFault (task_at drawing pid p) → (errno : Errno) × (p ≡ Stuck errno)
fault_by drawing pid (Word part place) is = absurd is
fault_by drawing pid (Look part name) is = absurd is
fault_by drawing pid (Stuck errno) is = (errno, refl)
fault_by drawing pid (Whole args) is = absurd is

copy_parts : (drawing pid : ℕ) (p : Progress) (q its part place : ℕ) → task_at drawing pid p ≡ task.Copy q its part place → (drawing ≡ q) × (p ≡ Word part place)
copy_parts drawing pid (Word a b) q its part place e = (cc, cc)
copy_parts drawing pid (Look a b) q its part place e = cc
copy_parts drawing pid (Stuck errno) q its part place e = cc
copy_parts drawing pid (Whole args) q its part place e = cc

look_parts : (drawing pid : ℕ) (p : Progress) (q part : ℕ) → task_at drawing pid p ≡ task.Look q part → (drawing ≡ q) × (name : Components) × (p ≡ Look part name)
look_parts drawing pid (Word a b) q part e = cc
look_parts drawing pid (Look a b) q part e = (cc, b, cc)
look_parts drawing pid (Stuck errno) q part e = cc
look_parts drawing pid (Whole args) q part e = cc

fault_parts : (drawing pid : ℕ) (p : Progress) (q : ℕ) (errno : Errno) → task_at drawing pid p ≡ task.Fault q errno → (drawing ≡ q) × (p ≡ Stuck errno)
fault_parts drawing pid (Word a b) q errno e = cc
fault_parts drawing pid (Look a b) q errno e = cc
fault_parts drawing pid (Stuck x) q errno e = (cc, cc)
fault_parts drawing pid (Whole args) q errno e = cc

module _ (kept : UnderWay) (w drawing : ℕ) (slot : Slot) (working : turn_of_worker kept w ≡ Some (Working drawing)) (there : slot_at kept.slots drawing ≡ Some slot) where
  -- the task of a worker at a number is what the slot of the number needs next
  pub task_is : task_of kept w ≡ task_at drawing slot.head.pid (slot_progress slot)
  task_is = ap (task_of_turn kept) working ∙ ap (task_of_slot drawing) there

  pub word_asked : IsCopy (task_of kept w) → (part : ℕ) × (place : ℕ) × (slot_progress slot ≡ Word part place)
  word_asked is = word_by drawing slot.head.pid (slot_progress slot) (subst IsCopy task_is is)

  pub look_asked : IsLook (task_of kept w) → (part : ℕ) × (name : Components) × (slot_progress slot ≡ Look part name)
  look_asked is = look_by drawing slot.head.pid (slot_progress slot) (subst IsLook task_is is)

  pub fault_asked : IsFault (task_of kept w) → (errno : Errno) × (slot_progress slot ≡ Stuck errno)
  fault_asked is = fault_by drawing slot.head.pid (slot_progress slot) (subst IsFault task_is is)

  pub copy_is : (q pid part place : ℕ) → task_of kept w ≡ task.Copy q pid part place → (drawing ≡ q) × (slot_progress slot ≡ Word part place)
  copy_is q pid part place e = copy_parts drawing slot.head.pid (slot_progress slot) q pid part place (sym task_is ∙ e)

  pub look_is : (q part : ℕ) → task_of kept w ≡ task.Look q part → (drawing ≡ q) × (name : Components) × (slot_progress slot ≡ Look part name)
  look_is q part e = look_parts drawing slot.head.pid (slot_progress slot) q part (sym task_is ∙ e)

  pub fault_is : (q : ℕ) (errno : Errno) → task_of kept w ≡ task.Fault q errno → (drawing ≡ q) × (slot_progress slot ≡ Stuck errno)
  fault_is q errno e = fault_parts drawing slot.head.pid (slot_progress slot) q errno (sym task_is ∙ e)

-- the slot of a number whose next task is a look
pub look_slot : (kept : UnderWay) (w drawing : ℕ) → AreValidWorkers kept → turn_of_worker kept w ≡ Some (Working drawing) → IsLook (task_of kept w) → IsSome (slot_at kept.slots drawing) × IfSome (slot_at kept.slots drawing) (λ slot. IsLookNext (slot_progress slot))
look_slot kept w drawing whole working is =
    let slot = working_slot kept whole w drawing working in
    let asked = look_asked kept w drawing slot.0 working slot.1 is in
    (subst IsSome (sym slot.1) refl, subst (λ (o : Option Slot). IfSome o (λ s. IsLookNext (slot_progress s))) (sym slot.1) (subst IsLookNext (sym asked.2) tt))
