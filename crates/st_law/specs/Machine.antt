-- The machine: a state and a choice give at most one entry, and a state and an entry give the next state.
use Rattle.std.specs.Prelude.{◌≡◌, ℕ, suc, Bool, false, ◌||◌, ◌==◌, if◌then◌else◌, List, [], ◌∷◌, reverse, Option, Some, None}
use Rattle.st_base.specs.declared.errno.Errno.{Errno}
use Rattle.st_base.specs.declared.errno.Errno.TheVariants.{EPERM, ELOOP}
use Rattle.st_base.specs.declared.ids.Ids.{Ids}
use Rattle.st_calls.specs.declared.argument.ArgText.{ArgText}
use Rattle.st_calls.specs.declared.call.SysCall.{SysCall}
use Rattle.st_calls.specs.declared.call.SysCall.TheVariants as calls
use Rattle.st_calls.specs.declared.judged.Snapshot.{Snapshot}
use Rattle.st_calls.specs.declared.judged.Verdict.{Verdict}
use Rattle.st_calls.specs.declared.judged.Verdict.TheVariants.{Permit, Refuse, Unmatched}
use Rattle.st_calls.specs.declared.rule.FastAnswer.{FastAnswer}
use Rattle.st_calls.specs.declared.rule.FastAnswer.TheVariants as answer
use Rattle.st_filter.specs.Judged.{verdict_under}
use Rattle.st_model.specs.Tree.{look}
use Rattle.st_names.specs.Name.{Components}
use Rattle.st_effects.specs.Changes.{owner_after, dying_after, tree_after, process_after, next_process_after, next_space_after}
use Rattle.st_effects.specs.Effect.{effect}
use Rattle.st_effects.specs.Progress.{Progress, Word, Look, Stuck, Ready}
use Rattle.st_effects.specs.System.{Outcome}
use Rattle.st_trace.specs.Instructions.{no_registers}
use Rattle.st_trace.specs.declared.entry.CallResult.TheVariants.{Failed}
use Rattle.st_trace.specs.declared.entry.Cause.TheVariants.{Filter, NoFilter, Fault, Link}
use Rattle.st_trace.specs.declared.entry.Choice.{Choice}
use Rattle.st_trace.specs.declared.entry.Choice.TheVariants as choice
use Rattle.st_trace.specs.declared.entry.Entry.{Entry}
use Rattle.st_trace.specs.declared.entry.Entry.TheVariants.{Stored, Entered, Claimed, Copied, Looked, Faulted, Answered, Used, Denied, Ended, Learned, Replied, Reloaded}
use Rattle.st_trace.specs.declared.entry.Way.{Way}
use Rattle.st_trace.specs.declared.entry.Way.TheVariants.{Fast, Barred, Held, Untraced}
use Rattle.st_trace.specs.declared.start.Instr.{Instr}
use Rattle.st_trace.specs.declared.start.Instr.TheVariants.{Store, Call, Fork, Reload}
use Rattle.st_law.specs.declared.input.Input.{Input}
use Rattle.st_law.specs.declared.input.Mode.{Mode}
use Rattle.st_law.specs.declared.input.Mode.TheVariants.{Enforce, Learn, AskText}
use Rattle.st_law.specs.Messages.{head_after, posted_after, claimed_after, words_after, lookups_after, fault_after, answered_after, closed_after, turn_after}
use Rattle.st_law.specs.Processes.{first_process, first_tree, first_descriptors, process_count, memory_after_entry}
use Rattle.st_law.specs.Sessions.{session_after, replied_after, least_from}
use Rattle.st_law.specs.State.{ThreadState, Message, State, process_in, is_live, progress_in, snapshot_in, snapshot_of_message, snapshot_of_progress, is_worker, worker_at, is_waiting, decision_in, answer_in, filter_count, next_reply, is_question, system_of, request_of, arguments_now, link_now, may_reload, reload_changes, word_for, table_after}
use Rattle.st_law.specs.Threads.{History, PendingCall, changes_of, thread_of, first_owner, body_of, pending_after, left_after, answer_after, ended_after, number_after}
use Rattle.st_law.specs.Versions.{changed_after, version_after}

-- ---- the state

-- a thread before the first entry
abbrev pub first_thread : Input → ℕ → ThreadState
first_thread i t = record { owner = first_owner i t; left = body_of i t; pending = None; answer = answer.Ask; number = 0; dying = false; ended = false }

-- a message that wasn't posted
abbrev pub no_message : Message
no_message = record { head = None; claimed = false; words = λ j. []; lookups = λ j. []; fault = None; answered = false; closed = false }

-- the state before the first entry
abbrev pub first_state : Input → State
first_state i = record {
  threads = first_thread i;
  processes = first_process i;
  next_process = suc (process_count i);
  next_space = suc (process_count i);
  memory = λ s b. 0;
  tree = first_tree i;
  messages = λ q. no_message;
  posted = 0;
  turns = λ w. None;
  session = [];
  versions = λ binary. 0;
  changed = [];
  replied = λ n. false;
  descriptors = first_descriptors i;
}

-- a thread after an entry
abbrev pub thread_after : Input → State → Entry → ℕ → ThreadState
thread_after i st e t = record {
  owner = owner_after t (st.threads t).owner (changes_of e);
  left = left_after e t (st.threads t).left;
  pending = pending_after e t (st.threads t).left (st.threads t).pending;
  answer = answer_after (answer_in i st (process_in st t)) e t (st.threads t).answer;
  number = number_after e t (st.threads t).number;
  dying = dying_after t (st.threads t).owner (thread_of e) (st.threads (thread_of e)).owner (st.threads t).dying (changes_of e);
  ended = ended_after e t (st.threads t).ended;
}

-- the message of a number after an entry
abbrev pub message_after : Input → State → Entry → ℕ → Message
message_after i st e q = record {
  head = head_after i (λ binary. version_after i e binary (st.versions binary)) st.processes (st.threads (thread_of e)).owner (λ p. (st.messages p).head) e q;
  claimed = claimed_after e q (st.messages q).claimed;
  words = λ j. words_after e q j ((st.messages q).words j);
  lookups = λ j. lookups_after e q j ((st.messages q).lookups j);
  fault = fault_after e q (st.messages q).fault;
  answered = answered_after e q (st.messages q).answered;
  closed = closed_after e q (st.messages q).closed;
}

-- the state after an entry
abbrev pub state_after : Input → State → Entry → State
state_after i st e = record {
  threads = thread_after i st e;
  processes = λ p. process_after st.processes (st.threads (thread_of e)).owner p (changes_of e);
  next_process = next_process_after st.next_process (changes_of e);
  next_space = next_space_after st.next_space (changes_of e);
  memory = memory_after_entry (process_in st (thread_of e)).space st.memory e;
  tree = tree_after st.tree (changes_of e);
  messages = message_after i st e;
  posted = posted_after e st.posted;
  turns = λ w. turn_after e w (st.turns w);
  session = session_after i.replies (λ q. snapshot_of_message q (st.messages q)) e st.session;
  versions = λ binary. version_after i e binary (st.versions binary);
  changed = changed_after i (λ q. snapshot_of_message q (st.messages q)) e st.changed;
  replied = λ n. replied_after e n (st.replied n);
  descriptors = table_after i st e;
}

-- the state after these entries
abbrev pub state_at : Input → History → State
state_at i [] = first_state i
state_at i (e ∷ h) = state_after i (state_at i h) e

-- ---- the step of a thread

-- the way of a call of a traced process, by the kernel's own answer; a call that the filters have to judge is held under the next number
abbrev pub way_of_answer : ℕ → FastAnswer → Way
way_of_answer next answer.Permit = Fast
way_of_answer next (answer.Refuse errno) = Barred 1
way_of_answer next answer.Ask = Held next

-- a thread enters a call
abbrev pub entered_entry : Input → State → ℕ → SysCall → List ℕ → Option Entry
entered_entry i st t call regs =
    Some (Entered t call regs (if (process_in st t).traced then way_of_answer (suc st.posted) (answer_in i st (process_in st t) call regs) else Untraced))

-- a thread reloads the policy of a binary, or is refused
abbrev pub reloaded_entry : Input → State → ℕ → ℕ → Bool → Entry
reloaded_entry i st t n done = Reloaded t n done (reload_changes i st n done)

-- a thread without a pending call goes on to its next instruction, or ends after the last
abbrev pub next_instruction_entry : Input → State → ℕ → List Instr → Option Entry
next_instruction_entry i st t [] = Some (Ended t)
next_instruction_entry i st t (Store place word ∷ later) = Some (Stored t place word)
next_instruction_entry i st t (Call call regs ∷ later) = entered_entry i st t call regs
next_instruction_entry i st t (Fork child ∷ later) = entered_entry i st t calls.Fork no_registers
next_instruction_entry i st t (Reload n ∷ later) = Some (reloaded_entry i st t n (may_reload (process_in st t)))

-- a call is made, with this outcome
abbrev pub used_entry : ℕ → Option ℕ → SysCall → List ℕ → List ArgText → Ids → Outcome → Entry
used_entry t seq call regs args ids outcome = Used t seq call regs args ids outcome.result outcome.changes

-- a call that isn't held fails before its effect
abbrev pub failed_entry : ℕ → SysCall → List ℕ → Ids → Errno → Entry
failed_entry t call regs ids errno = Used t None call regs [] ids (Failed errno) []

-- a call that isn't held takes effect with these arguments, unless a link is in its way
abbrev pub unlinked_entry : Input → State → ℕ → SysCall → List ℕ → Ids → List ArgText → Option Components → Entry
unlinked_entry i st t call regs ids args (Some name) = failed_entry t call regs ids ELOOP
unlinked_entry i st t call regs ids args None = used_entry t None call regs args ids (effect (system_of i st) call (request_of i st t regs args ids))

-- a call that isn't held copies, looks and takes effect in one step, under the process's own ids
abbrev pub unheld_entry : Input → State → ℕ → SysCall → List ℕ → Ids → Progress → Option Entry
unheld_entry i st t call regs ids (Word part place) = None
unheld_entry i st t call regs ids (Look part name) = None
unheld_entry i st t call regs ids (Stuck errno) = Some (failed_entry t call regs ids errno)
unheld_entry i st t call regs ids (Ready args) = Some (unlinked_entry i st t call regs ids args (link_now i st call regs args))

-- a barred call is denied with the error of the filter that barred it
abbrev pub barred_entry : ℕ → ℕ → FastAnswer → Option Entry
barred_entry t n answer.Permit = None
barred_entry t n (answer.Refuse errno) = Some (Denied t None errno (Filter n))
barred_entry t n answer.Ask = None

-- a permitted held call is made with its copies under these ids, unless a link is in its way
abbrev pub permitted_entry : Input → State → ℕ → ℕ → Snapshot → Ids → Option Components → Entry
permitted_entry i st t q s ids (Some name) = Denied t (Some q) ELOOP (Link name)
permitted_entry i st t q s ids None = used_entry t (Some q) s.call s.regs s.parts ids (effect (system_of i st) s.call (request_of i st t s.regs s.parts ids))

-- an answered held call goes on as its filters decide; a question waits for the operator
abbrev pub decided_entry : Input → State → ℕ → ℕ → Snapshot → Verdict → Option Entry
decided_entry i st t q s (Permit n ids) = Some (permitted_entry i st t q s ids (link_now i st s.call s.regs s.parts))
decided_entry i st t q s (Refuse n errno) = Some (Denied t (Some q) errno (Filter n))
decided_entry i st t q s Unmatched = if is_question i st q then None else Some (Denied t (Some q) EPERM NoFilter)

-- the same by the copies, which are complete once it is answered
abbrev pub answered_entry : Input → State → ℕ → ℕ → Option Snapshot → Option Entry
answered_entry i st t q None = None
answered_entry i st t q (Some s) = decided_entry i st t q s (decision_in i st s)

-- a held call waits until it is faulted or answered
abbrev pub held_entry : Input → State → ℕ → ℕ → Option Errno → Option Entry
held_entry i st t q (Some errno) = Some (Denied t (Some q) errno Fault)
held_entry i st t q None = if (st.messages q).answered then answered_entry i st t q (snapshot_in st q) else None

-- an entered call is made, is denied, or waits
abbrev pub pending_entry : Input → State → ℕ → SysCall → List ℕ → Way → Option Entry
pending_entry i st t call regs Fast = unheld_entry i st t call regs (process_in st t).ids (arguments_now i st t call regs)
pending_entry i st t call regs Untraced = unheld_entry i st t call regs (process_in st t).ids (arguments_now i st t call regs)
pending_entry i st t call regs (Barred n) = barred_entry t n (st.threads t).answer
pending_entry i st t call regs (Held first) = held_entry i st t (st.threads t).number (st.messages (st.threads t).number).fault

-- a thread goes on, by its pending call
abbrev pub running_entry : Input → State → ℕ → Option PendingCall → Option Entry
running_entry i st t None = next_instruction_entry i st t (st.threads t).left
running_entry i st t (Some entered) = pending_entry i st t entered.call entered.regs entered.way

-- the step of a thread: none if it hasn't started, has ended, or waits; a dying thread only ends
abbrev pub thread_entry : Input → State → ℕ → Option Entry
thread_entry i st t =
    if (st.threads t).owner == 0 || (st.threads t).ended then None
    else if (st.threads t).dying then Some (Ended t)
    else running_entry i st t (st.threads t).pending

-- ---- the step of a worker

-- the least waiting number
abbrev pub least_waiting : State → Option ℕ
least_waiting st = least_from (is_waiting st) 1 st.posted

-- a worker claims this number, if there is one
abbrev pub claimed_entry : ℕ → Option ℕ → Option Entry
claimed_entry w None = None
claimed_entry w (Some q) = Some (Claimed w q)

-- a worker answers with the verdict on these copies of the filters in force at their version, if they are complete
abbrev pub answer_entry : Input → State → ℕ → ℕ → Option Snapshot → Option Entry
answer_entry i st w q None = None
answer_entry i st w q (Some s) = Some (Answered w s (verdict_under i.policies s) (is_live st q))

-- a worker copies the next word, looks up the next name, finds a fault, or answers
abbrev pub working_entry : Input → State → ℕ → ℕ → Progress → Option Entry
working_entry i st w q (Word part place) = Some (Copied q part place (word_for st q place))
working_entry i st w q (Look part name) = Some (Looked q part name (look st.tree name))
working_entry i st w q (Stuck errno) = Some (Faulted q errno)
working_entry i st w q (Ready args) = answer_entry i st w q (snapshot_of_progress q (st.messages q).head (Ready args))

-- the step of a worker, by the number that it is at: an idle worker claims the least waiting number
abbrev pub turn_entry : Input → State → ℕ → Option ℕ → Option Entry
turn_entry i st w None = claimed_entry w (least_waiting st)
turn_entry i st w (Some q) = working_entry i st w q (progress_in st q)

-- the step of a worker
abbrev pub worker_entry : Input → State → ℕ → Option Entry
worker_entry i st w = if is_worker i w then turn_entry i st w (worker_at st w) else None

-- ---- the step of the operator

-- the least question
abbrev pub least_question : Input → State → Option ℕ
least_question i st = least_from (is_question i st) 1 st.posted

-- the operator gives a reply, if one is left
abbrev pub reply_entry : Input → State → ℕ → Snapshot → Option ℕ → Option Entry
reply_entry i st q s None = None
reply_entry i st q s (Some reply) = Some (Replied q reply (suc (filter_count i st s)))

-- the operator answers a question, by the mode
abbrev pub question_entry : Input → State → ℕ → Snapshot → Mode → Option Entry
question_entry i st q s Enforce = None
question_entry i st q s Learn = Some (Learned q (suc (filter_count i st s)))
question_entry i st q s AskText = reply_entry i st q s (next_reply i st s.policy s.rule)

-- the same by the question's copies
abbrev pub asked_entry : Input → State → ℕ → Option Snapshot → Option Entry
asked_entry i st q None = None
asked_entry i st q (Some s) = question_entry i st q s i.options.mode

-- the operator answers the least question, if there is one
abbrev pub operator_entry : Input → State → Option ℕ → Option Entry
operator_entry i st None = None
operator_entry i st (Some q) = asked_entry i st q (snapshot_in st q)

-- ---- runs

-- the entry that a choice adds; none if it isn't enabled
abbrev pub entry_of : Input → State → Choice → Option Entry
entry_of i st (choice.Thread t) = thread_entry i st t
entry_of i st (choice.Worker w) = worker_entry i st w
entry_of i st choice.Operator = operator_entry i st (least_question i st)

-- the history with one more entry, if there is one
abbrev pub history_with : History → Option Entry → History
history_with h None = h
history_with h (Some e) = e ∷ h

-- the entries that choices add, both newest first; a choice that isn't enabled adds none
abbrev pub history : Input → List Choice → History
history i [] = []
history i (c ∷ cs) = history_with (history i cs) (entry_of i (state_at i (history i cs)) c)

-- the trace of a list of choices, both oldest first
abbrev pub run : Input → List Choice → List Entry
run i choices = reverse (history i (reverse choices))

-- the state after a list of choices
abbrev pub state_of_run : Input → List Choice → State
state_of_run i choices = state_at i (history i (reverse choices))

-- a choice adds an entry in this state
abbrev pub IsEnabled : Input → State → Choice → Type 0
IsEnabled i st c = (e : Entry) × (entry_of i st c ≡ Some e)

-- no choice adds an entry in this state
abbrev pub IsSettled : Input → State → Type 0
IsSettled i st = (c : Choice) → entry_of i st c ≡ None
