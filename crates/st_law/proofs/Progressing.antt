-- As long as some started thread hasn't ended, some choice is enabled.
use native.Mathlib.Omega.{arith}
use Rattle.std.proofs.Common.{◌≡◌, ◌≢◌, ◌≤◌, ℕ, ◌+◌, Bool, true, false, cond, not, ◌&&◌, ◌||◌, List, [], ◌∷◌, reverse, Option, Some, None, refl, sym, ap, subst, ◌∙◌}
use Rattle.std.specs.Prelude.{is_some, nat_lt, nat_le}
use Rattle.std.proofs.lemmas.Bool.{ne_eqb, le-leb, and_parts, and_from}
use Rattle.st_base.specs.declared.errno.Errno.{Errno}
use Rattle.st_calls.specs.declared.argument.ArgSpec.{ArgSpec}
use Rattle.st_calls.specs.declared.argument.ArgText.{ArgText}
use Rattle.st_calls.specs.declared.argument.PartKind.{PartKind}
use Rattle.st_calls.specs.declared.argument.PartKind.TheVariants as kind
use Rattle.st_calls.specs.declared.call.SysCall.{SysCall}
use Rattle.st_calls.specs.declared.judged.Snapshot.{Snapshot}
use Rattle.st_calls.specs.declared.judged.Verdict.{Verdict}
use Rattle.st_calls.specs.declared.judged.Verdict.TheVariants.{Permit, Refuse, Unmatched}
use Rattle.st_model.specs.Spelling.{Spelled, Text, Fault, More}
use Rattle.st_model.specs.Walk.{WalkState, Name, Next, needs_lookup, resolve}
use Rattle.st_model.specs.Walk as walk
use Rattle.st_model.proofs.Endings.{resolve_ends}
use Rattle.st_calls.specs.Argument.{args_of}
use Rattle.st_calls.specs.Call.{follows, rule_of}
use Rattle.std.specs.Prelude.{slice_index_or}
use Rattle.st_effects.specs.Progress.{Progress, Word, Look, Stuck, Ready, ArgRequest, with_arg, name_arg, text_arg, progress_of_walk}
use Rattle.st_trace.specs.declared.entry.Choice.{Choice}
use Rattle.st_trace.specs.declared.entry.Choice.TheVariants as choice
use Rattle.st_trace.specs.declared.entry.Entry.{Entry}
use Rattle.st_trace.specs.declared.entry.Entry.TheVariants.{Ended, Denied}
use Rattle.st_trace.specs.declared.entry.Cause.TheVariants.{NoFilter}
use Rattle.st_base.specs.declared.errno.Errno.TheVariants.{EPERM}
use Rattle.st_trace.specs.declared.entry.Way.{Way}
use Rattle.st_trace.specs.declared.entry.Way.TheVariants.{Fast, Barred, Held, Untraced}
use Rattle.st_trace.specs.declared.start.Instr.{Instr}
use Rattle.st_trace.specs.declared.start.Instr.TheVariants.{Store, Call, Fork, Reload}
use Rattle.st_law.specs.declared.input.Input.{Input}
use Rattle.st_law.specs.declared.input.Mode.{Mode}
use Rattle.st_law.specs.declared.input.Mode.TheVariants.{Enforce, Learn, AskText}
use Rattle.st_law.specs.Arguments.{Surroundings, spelled_in, part_of_text, part_of_spelling, parts_from, arguments_in}
use Rattle.st_law.specs.Lawful.{IsRunning}
use Rattle.st_law.specs.Machine.{next_instruction_entry, unheld_entry, barred_entry, decided_entry, answered_entry, held_entry, pending_entry, running_entry, claimed_entry, least_waiting, answer_entry, working_entry, turn_entry, reply_entry, question_entry, asked_entry, operator_entry, least_question, entry_of, history, state_of_run, IsEnabled}
use Rattle.st_law.specs.Messages.{Head}
use Rattle.st_law.specs.Sessions.{least_from}
use Rattle.st_law.specs.State.{State, process_in, is_live, is_waiting, progress_in, snapshot_of_progress, snapshot_in, is_worker, worker_at, arguments_now, decision_in, is_question, is_open_question, is_undecided, operator_decides, next_reply}
use Rattle.st_law.specs.Threads.{PendingCall, owner_at, has_ended_at}
use Rattle.st_law.proofs.Invariant.{IsFine, Fine, IfPending}
use Rattle.st_law.proofs.Least.{least}
use Rattle.st_law.proofs.ThreadSteps.{live_of_open}
use Rattle.st_law.proofs.Turns.{turn_of, at_live, live_low, unlike}
use Rattle.st_law.proofs.Laws.{lawful_history}
use Rattle.st_law.proofs.Ties.{state-is}
use Rattle.st_law.proofs.Whole.{Whole, live_number, whole_of}
use Rattle.st_law.specs.History.{looking_back}
use Rattle.st_law.specs.Inputs.{IsStartable}
use Rattle.st_law.proofs.Words.{asks_word, ends_in}

-- the option has an entry
abbrev pub Is : Option Entry → Type 0
Is o = (e : Entry) × (o ≡ Some e)

-- ---- arguments in one step: complete or a fault

-- all arguments are complete, or there is a fault
abbrev Ends : Progress → Type 0
Ends (Word part place) = ⊥
Ends (Look part name) = ⊥
Ends (Stuck errno) = Unit {0}
Ends (Ready args) = Unit {0}

with_ends : (arg : ArgText) (pr : Progress) → Ends pr → Ends (with_arg arg pr)
with_ends arg (Word part place) x = x
with_ends arg (Look part name) x = x
with_ends arg (Stuck errno) x = tt
with_ends arg (Ready args) x = tt

walk_ends : (j : ℕ) (spec : ArgSpec) (w : WalkState) (rest : Progress) → needs_lookup w ≡ false → Ends rest → Ends (progress_of_walk j spec w rest)
walk_ends j spec (walk.Name name) rest e x = with_ends (name_arg spec name) rest x
walk_ends j spec (walk.Next name) rest e x = cc
walk_ends j spec (walk.Fault errno) rest e x = tt

text_ends : (k : PartKind) (j : ℕ) (spec : ArgSpec) (asked : ArgRequest) (around : Surroundings) (text : List ℕ) (rest : Progress) → Ends rest → Ends (part_of_text k j spec asked around.tree text rest)
text_ends kind.Name j spec asked around text rest x =
    walk_ends j spec (resolve around.tree asked.cwd text (follows asked.call asked.regs spec.register)) rest (resolve_ends around.tree asked.cwd text (follows asked.call asked.regs spec.register)) x
text_ends kind.Plain j spec asked around text rest x = with_ends (text_arg spec text) rest x
text_ends kind.Addr j spec asked around text rest x = with_ends (text_arg spec text) rest x
text_ends kind.Argv j spec asked around text rest x = with_ends (text_arg spec text) rest x
text_ends kind.Decimal j spec asked around text rest x = with_ends (text_arg spec text) rest x
text_ends kind.Octal j spec asked around text rest x = with_ends (text_arg spec text) rest x
text_ends kind.Domain j spec asked around text rest x = with_ends (text_arg spec text) rest x
text_ends kind.SockType j spec asked around text rest x = with_ends (text_arg spec text) rest x

spelling_ends : (j : ℕ) (spec : ArgSpec) (asked : ArgRequest) (around : Surroundings) (s : Spelled) (rest : Progress) → asks_word s ≡ false → Ends rest → Ends (part_of_spelling j spec asked around.tree s rest)
spelling_ends j spec asked around (More place) rest e x = cc
spelling_ends j spec asked around (Fault errno) rest e x = tt
spelling_ends j spec asked around (Text text) rest e x = text_ends spec.kind j spec asked around text rest x

parts_end : (j : ℕ) (specs : List ArgSpec) (asked : ArgRequest) (around : Surroundings) → Ends (parts_from j specs asked around)
parts_end j [] asked around = tt
parts_end j (spec ∷ specs) asked around =
    spelling_ends j spec asked around (spelled_in around.bytes spec.kind (slice_index_or asked.regs spec.register 0)) (parts_from (j + 1) specs asked around)
    (ends_in around.bytes spec.kind (slice_index_or asked.regs spec.register 0)) (parts_end (j + 1) specs asked around)

-- the arguments of a call that is made in one step are complete or have a fault
pub arguments_end : (asked : ArgRequest) (around : Surroundings) → Ends (arguments_in asked around)
arguments_end asked around = parts_end 0 (args_of asked.rule) asked around

module _ (i : Input) (st : State) (whole : Whole i st) (some_worker : 1 ≤ i.options.workers) where
  -- some choice is enabled
  abbrev pub Enabled : Type 0
  Enabled = (c : Choice) × Is (entry_of i st c)

  -- ---- threads that go on

  next_is : (t : ℕ) (left : List Instr) → Is (next_instruction_entry i st t left)
  next_is t [] = (_, refl)
  next_is t (Store place word ∷ later) = (_, refl)
  next_is t (Call call regs ∷ later) = (_, refl)
  next_is t (Fork child ∷ later) = (_, refl)
  next_is t (Reload n ∷ later) = (_, refl)

  unheld_is : (t : ℕ) (call : SysCall) (regs : List ℕ) (pr : Progress) → Ends pr → Is (unheld_entry i st t call regs (process_in st t).ids pr)
  unheld_is t call regs (Word part place) x = absurd x
  unheld_is t call regs (Look part name) x = absurd x
  unheld_is t call regs (Stuck errno) x = (_, refl)
  unheld_is t call regs (Ready args) x = (_, refl)

  unheld_now : (t : ℕ) (call : SysCall) (regs : List ℕ) → Is (unheld_entry i st t call regs (process_in st t).ids (arguments_now i st t call regs))
  unheld_now t call regs = unheld_is t call regs (arguments_now i st t call regs)
      (arguments_end (record { rule = rule_of call regs i.options.aliasing; call = call; regs = regs; cwd = (process_in st t).cwd }) (record { bytes = st.memory (process_in st t).space; tree = st.tree }))

  -- ---- workers

  working_is : (w q : ℕ) (head : Head) → (st.messages q).head ≡ Some head → (pr : Progress) → Is (working_entry i st w q pr)
  working_is w q head e (Word part place) = (_, refl)
  working_is w q head e (Look part name) = (_, refl)
  working_is w q head e (Stuck errno) = (_, refl)
  working_is w q head e (Ready args) = (_, ap (λ o. answer_entry i st w q (snapshot_of_progress q o (Ready args))) e)

  turn_is : (w : ℕ) → is_worker i w ≡ true → Is (turn_entry i st w (worker_at st w)) → Enabled
  turn_is w worker x = (choice.Worker w, (x.0, ap (λ b. cond b (turn_entry i st w (worker_at st w)) None) worker ∙ x.1))

  at_number : (w q : ℕ) → st.turns w ≡ Some q → worker_at st w ≡ Some q → Enabled
  at_number w q turn at =
      let head : (h : Head) × ((st.messages q).head ≡ Some h) = whole.posted.claimed q (whole.turns.claimed w q turn) in
      let x : Is (working_entry i st w q (progress_in st q)) = working_is w q head.0 head.1 (progress_in st q) in
      turn_is w (whole.turns.worker w q turn) (x.0, ap (turn_entry i st w) at ∙ x.1)

  -- the search for the least number with a property finds one
  abbrev Found : (ℕ → Bool) → Option ℕ → Type 0
  Found is o = (m : ℕ) × (o ≡ Some m) × (is m ≡ true)

  found : (is : ℕ → Bool) (q : ℕ) → is q ≡ true → 1 ≤ q → q ≤ st.posted → Found is (least_from is 1 st.posted)
  found is q e low high = least (Found is) is 1 st.posted (λ m x. (m, refl, x.holds)) (λ none. absurd (unlike (is q) e (none q low (omega (arith, high)))))

  first_worker : is_worker i 1 ≡ true
  first_worker = and_from (nat_lt 0 1) (nat_le 1 i.options.workers) refl (le-leb 1 i.options.workers some_worker)

  waiting_enabled : (q : ℕ) → is_waiting st q ≡ true → is_live st q ≡ true → Enabled
  waiting_enabled q waits live = by (worker_at st 1) refl where
    by : (o : Option ℕ) → worker_at st 1 ≡ o → Enabled
    by None at = let x : Found (is_waiting st) (least_waiting st) = found (is_waiting st) q waits (live_number st whole.posted q live) (live_low i st whole.calls q live) in
        turn_is 1 first_worker (_, ap (turn_entry i st 1) at ∙ ap (claimed_entry 1) x.1)
    by (Some p) at = at_number 1 p (turn_of st (st.turns 1) p at) at

  -- a live number that was neither answered nor faulted is some worker's, or waits
  unanswered_enabled : (q : ℕ) → is_live st q ≡ true → (st.messages q).answered ≡ false → (st.messages q).fault ≡ None → (b : Bool) → (st.messages q).claimed ≡ b → Enabled
  unanswered_enabled q live unanswered unfaulted true e =
      let x : (w : ℕ) × (st.turns w ≡ Some q) = whole.turns.served q e live unanswered unfaulted in at_number x.0 q x.1 (at_live st x.0 q x.1 live)
  unanswered_enabled q live unanswered unfaulted false e = waiting_enabled q (and_from (is_live st q) (not (st.messages q).claimed) live (ap not e)) live

  -- ---- the operator

  reply_is : (q : ℕ) (s : Snapshot) (o : Option ℕ) → is_some o ≡ true → Is (reply_entry i st q s o)
  reply_is q s None e = cc
  reply_is q s (Some reply) e = (_, refl)

  question_is : (q : ℕ) (s : Snapshot) (mode : Mode) → operator_decides i st s mode ≡ true → Is (question_entry i st q s mode)
  question_is q s Enforce e = cc
  question_is q s Learn e = (_, refl)
  question_is q s AskText e = reply_is q s (next_reply i st s.policy s.rule) e

  asked_is : (q : ℕ) (o : Option Snapshot) → is_open_question i st o ≡ true → Is (asked_entry i st q o)
  asked_is q None e = cc
  asked_is q (Some s) e = question_is q s i.options.mode (and_parts (is_undecided (decision_in i st s)) (operator_decides i st s i.options.mode) e).1

  operator_enabled : (q : ℕ) → is_question i st q ≡ true → 1 ≤ q → q ≤ st.posted → Enabled
  operator_enabled q e low high =
      let x : Found (is_question i st) (least_question i st) = found (is_question i st) q e low high in
      let y : Is (asked_entry i st x.0 (snapshot_in st x.0)) = asked_is x.0 (snapshot_in st x.0) ((and_parts (is_live st x.0 && (st.messages x.0).answered) (is_open_question i st (snapshot_in st x.0)) x.2).1) in
      (choice.Operator, (y.0, ap (operator_entry i st) x.1 ∙ y.1))

  -- ---- held calls

  module _ (t : ℕ) (running : IsRunning st t) where
    thread_is : Is (running_entry i st t (st.threads t).pending) → Enabled
    thread_is x = (choice.Thread t, (x.0, (λ k. cond (ne_eqb (st.threads t).owner 0 running.started k || running.unended k) None (cond (running.undying k) (Some (Ended t)) (running_entry i st t (st.threads t).pending))) ∙ x.1))

    held_is : Is (held_entry i st t (st.threads t).number (st.messages (st.threads t).number).fault) → (entered : PendingCall) → (st.threads t).pending ≡ Some entered → (first : ℕ) → entered.way ≡ Held first → Enabled
    held_is x entered e first way = thread_is (x.0, ap (running_entry i st t) e ∙ ap (pending_entry i st t entered.call entered.regs) way ∙ x.1)

    unsettled : (q : ℕ) (s : Snapshot) (b : Bool) → is_question i st q ≡ b → is_live st q ≡ true → (Is (decided_entry i st t q s Unmatched) → Enabled) → Enabled
    unsettled q s true e live go = operator_enabled q e (live_number st whole.posted q live) (live_low i st whole.calls q live)
    unsettled q s false e live go = go (_, ap (λ b. cond b None (Some (Denied t (Some q) EPERM NoFilter))) e)

    decided_enabled : (q : ℕ) (s : Snapshot) (v : Verdict) → is_live st q ≡ true → (Is (decided_entry i st t q s v) → Enabled) → Enabled
    decided_enabled q s (Permit n ids) live go = go (_, refl)
    decided_enabled q s (Refuse n errno) live go = go (_, refl)
    decided_enabled q s Unmatched live go = unsettled q s (is_question i st q) refl live go

    answered_enabled : (q : ℕ) → is_live st q ≡ true → (st.messages q).fault ≡ None → (b : Bool) → (st.messages q).answered ≡ b → (Is (held_entry i st t q (st.messages q).fault) → Enabled) → Enabled
    answered_enabled q live unfaulted true e go =
        let x : (s : Snapshot) × (snapshot_in st q ≡ Some s) = whole.turns.ready q e in
        decided_enabled q x.0 (decision_in i st x.0) live (λ y. go (y.0, ap (held_entry i st t q) unfaulted ∙ ap (λ b. cond b (answered_entry i st t q (snapshot_in st q)) None) e ∙ ap (answered_entry i st t q) x.1 ∙ y.1))
    answered_enabled q live unfaulted false e go = unanswered_enabled q live e unfaulted (st.messages q).claimed refl

    fault_enabled : (q : ℕ) → is_live st q ≡ true → (o : Option Errno) → (st.messages q).fault ≡ o → (Is (held_entry i st t q (st.messages q).fault) → Enabled) → Enabled
    fault_enabled q live (Some errno) e go = go (_, ap (held_entry i st t q) e)
    fault_enabled q live None e go = answered_enabled q live e (st.messages q).answered refl go

    way_enabled : (entered : PendingCall) → (st.threads t).pending ≡ Some entered → (way : Way) → entered.way ≡ way → IsFine st t entered.call entered.regs way → Enabled
    way_enabled entered e Fast way fine = let x = unheld_now t entered.call entered.regs in thread_is (x.0, ap (running_entry i st t) e ∙ ap (pending_entry i st t entered.call entered.regs) way ∙ x.1)
    way_enabled entered e Untraced way fine = let x = unheld_now t entered.call entered.regs in thread_is (x.0, ap (running_entry i st t) e ∙ ap (pending_entry i st t entered.call entered.regs) way ∙ x.1)
    way_enabled entered e (Barred n) way fine =
        thread_is (_, ap (running_entry i st t) e ∙ ap (pending_entry i st t entered.call entered.regs) way ∙ ap (barred_entry t n) fine.refused)
    way_enabled entered e (Held first) way fine =
        fault_enabled (st.threads t).number (live_of_open i st t running entered.call entered.regs fine) (st.messages (st.threads t).number).fault refl (λ x. held_is x entered e first way)

    pending_enabled : (o : Option PendingCall) → (st.threads t).pending ≡ o → Enabled
    pending_enabled None e = let x = next_is t (st.threads t).left in thread_is (x.0, ap (running_entry i st t) e ∙ x.1)
    pending_enabled (Some entered) e =
        let fine : Fine st t entered = subst (IfPending (Fine st t)) e (whole.calls.fine t) in way_enabled entered e entered.way refl (fine.fine running.undying)

  -- some choice is enabled while a thread that has started hasn't ended
  pub some_enabled : (t : ℕ) → (st.threads t).owner ≢ 0 → (st.threads t).ended ≡ false → Enabled
  some_enabled t started unended = by (st.threads t).dying refl where
    by : (b : Bool) → (st.threads t).dying ≡ b → Enabled
    by true e = (choice.Thread t, (_, (λ k. cond (ne_eqb (st.threads t).owner 0 started k || unended k) None (cond (e k) (Some (Ended t)) (running_entry i st t (st.threads t).pending)))))
    by false e = pending_enabled t (record { started = started; unended = unended; undying = e }) (st.threads t).pending refl

-- ---- every run

-- while a thread that has started hasn't ended, some choice is enabled
pub never_stuck : (i : Input) → IsStartable i → (choices : List Choice) (t : ℕ) → owner_at i (history i (reverse choices)) t ≢ 0 → has_ended_at (history i (reverse choices)) t ≡ false → (c : Choice) × IsEnabled i (state_of_run i choices) c
never_stuck i startable choices t started unended =
    subst (λ st. (c : Choice) × IsEnabled i st c) (sym (state-is i (history i (reverse choices))))
    (some_enabled i (looking_back i (history i (reverse choices))) (whole_of i startable (history i (reverse choices)) (lawful_history i startable (reverse choices))) startable.some_worker t started unended)
