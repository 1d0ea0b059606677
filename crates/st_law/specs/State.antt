-- The state that the machine keeps of a run, and the queries on it. The law uses the same record, computed from the history.
use Rattle.std.specs.Prelude.{ℕ, zero, suc, Bool, true, false, ◌&&◌, ◌||◌, ◌==◌, not, nat_lt, nat_le, if◌then◌else◌, List, [], ◌∷◌, ◌++◌, length, Option, Some, None, is_some}
use Rattle.st_base.specs.Numbered.{item_at_number}
use Rattle.st_base.specs.declared.errno.Errno.{Errno}
use Rattle.st_base.specs.declared.ids.Ids.{Ids}
use Rattle.st_calls.specs.Call.{rule_of}
use Rattle.st_calls.specs.declared.argument.ArgText.{ArgText}
use Rattle.st_calls.specs.declared.call.SysCall.{SysCall}
use Rattle.st_calls.specs.declared.judged.Snapshot.{Snapshot}
use Rattle.st_calls.specs.declared.judged.Verdict.{Verdict}
use Rattle.st_calls.specs.declared.judged.Verdict.TheVariants.{Permit, Refuse, Unmatched}
use Rattle.st_calls.specs.declared.rule.FastAnswer.{FastAnswer}
use Rattle.st_calls.specs.declared.rule.Rule.{Rule}
use Rattle.st_filter.specs.Fast.{fast}
use Rattle.st_filter.specs.Formula.{FilterValue}
use Rattle.st_filter.specs.Policies.{filters_in_force, is_block_of}
use Rattle.st_model.specs.DescriptorCalls.{table_after_close_all}
use Rattle.st_model.specs.Descriptors.{Table}
use Rattle.st_model.specs.Memory.{word_of}
use Rattle.st_model.specs.Process.{Process}
use Rattle.st_model.specs.Tree.{Tree}
use Rattle.st_names.specs.Name.{Components}
use Rattle.st_names.specs.declared.seen.SeenText.{SeenText}
use Rattle.st_effects.specs.Effect.{effect}
use Rattle.st_effects.specs.Processes.{renewals_by}
use Rattle.st_effects.specs.Progress.{Progress, Word, Look, Stuck, Ready, ArgRequest, progress}
use Rattle.st_effects.specs.System.{System, Request, HeldCall}
use Rattle.st_trace.specs.declared.entry.CallResult.TheVariants.{Value}
use Rattle.st_trace.specs.declared.entry.Change.{Change}
use Rattle.st_trace.specs.declared.entry.Entry.{Entry}
use Rattle.st_trace.specs.declared.entry.Entry.TheVariants.{Used, Ended}
use Rattle.st_trace.specs.declared.start.Instr.{Instr}
use Rattle.st_trace.specs.declared.entry.Way.{Way}
use Rattle.st_trace.specs.declared.entry.Way.TheVariants.{Held}
use Rattle.st_law.specs.declared.input.Input.{Input}
use Rattle.st_law.specs.declared.input.Mode.{Mode}
use Rattle.st_law.specs.declared.input.Mode.TheVariants.{Enforce, Learn, AskText}
use Rattle.st_law.specs.Arguments.{arguments_in, link_met}
use Rattle.st_law.specs.Messages.{Head}
use Rattle.st_law.specs.Sessions.{SessionFilter, session_filters, decision, is_reply_for, least_from}
use Rattle.st_law.specs.Threads.{PendingCall}

-- a thread
pub record ThreadState : Type 0 where
  -- its process, 0 before it starts
  pub owner : ℕ
  -- the instructions that it has left
  pub left : List Instr
  pub pending : Option PendingCall
  -- the kernel's own answer to the call that it entered last, as it was then
  pub answer : FastAnswer
  -- the number of its held call
  pub number : ℕ
  pub dying : Bool
  pub ended : Bool

-- the message of a number; it is never removed
pub record Message : Type 0 where
  pub head : Option Head
  pub claimed : Bool
  pub words : ℕ → List ℕ
  pub lookups : ℕ → List SeenText
  pub fault : Option Errno
  pub answered : Bool
  pub closed : Bool

-- the whole state of a run
pub record State : Type 0 where
  pub threads : ℕ → ThreadState
  pub processes : ℕ → Process
  -- the numbers that the next process and the next space have
  pub next_process : ℕ
  pub next_space : ℕ
  -- byte b of space s
  pub memory : ℕ → ℕ → ℕ
  pub tree : Tree
  pub messages : ℕ → Message
  -- how many numbers were posted: 1, 2, 3 and so on
  pub posted : ℕ
  -- the number that each worker has claimed and neither answered nor found faulty
  pub turns : ℕ → Option ℕ
  pub session : List SessionFilter
  -- the version of each binary's policy that is in force
  pub versions : List ℕ → ℕ
  -- the binaries that have filters of the session or a reload that is done, in the order of the first entry that gave them one
  pub changed : List (List ℕ)
  -- which of the script's replies were given
  pub replied : ℕ → Bool
  pub descriptors : Table

-- ---- threads and processes

-- how many threads the script has
abbrev pub thread_count : Input → ℕ
thread_count i = length i.start.threads

-- whether some thread of the script satisfies a predicate
abbrev pub is_some_thread : Input → (ℕ → Bool) → Bool
is_some_thread i is = is_some (least_from is 1 (thread_count i))

-- whether a thread is one of this process
abbrev pub is_thread_of : State → ℕ → ℕ → Bool
is_thread_of st p t = (st.threads t).owner == p

-- whether a thread is one of this process and hasn't ended
abbrev pub is_running_in : State → ℕ → ℕ → Bool
is_running_in st p t = (st.threads t).owner == p && not (st.threads t).ended

-- whether a process exists and hasn't ended: it never had a thread, or has one that hasn't ended
abbrev pub is_live_process : Input → State → ℕ → Bool
is_live_process i st p =
    nat_lt 0 p && nat_lt p st.next_process && (not (is_some_thread i (is_thread_of st p)) || is_some_thread i (is_running_in st p))

-- whether every other thread of its process has ended
abbrev pub is_last_thread : Input → State → ℕ → Bool
is_last_thread i st t = not (is_some_thread i (λ u. is_running_in st (st.threads t).owner u && not (u == t)))

-- the process of a thread
abbrev pub process_in : State → ℕ → Process
process_in st t = st.processes (st.threads t).owner

-- ---- messages

-- a number is live if it was posted, its message isn't closed, and its thread isn't dying
abbrev pub is_live_by : Option Head → Bool → (ℕ → Bool) → Bool
is_live_by None closed dying = false
is_live_by (Some head) closed dying = not closed && not (dying head.tid)

-- whether a number is live
abbrev pub is_live : State → ℕ → Bool
is_live st q = is_live_by (st.messages q).head (st.messages q).closed (λ t. (st.threads t).dying)

-- the request by which the arguments of a held call are copied and looked up
abbrev pub request_of_head : Head → ArgRequest
request_of_head head = record { rule = head.rule; call = head.call; regs = head.regs; cwd = head.cwd }

-- the progress of a message's arguments, by its head, the words copied and the lookups' answers
abbrev pub progress_of_head : Option Head → (ℕ → List ℕ) → (ℕ → List SeenText) → Progress
progress_of_head None words lookups = Ready []
progress_of_head (Some head) words lookups = progress (request_of_head head) words lookups

-- the progress of a message's arguments
abbrev pub progress_of_message : Message → Progress
progress_of_message message = progress_of_head message.head message.words message.lookups

-- the progress of a number's arguments
abbrev pub progress_in : State → ℕ → Progress
progress_in st q = progress_of_message (st.messages q)

-- the snapshot of a held call with all its arguments
abbrev pub snapshot_with : ℕ → Head → List ArgText → Snapshot
snapshot_with q head args = record {
  seq = q;
  pid = head.pid;
  ids = head.ids;
  policy = head.policy;
  version = head.version;
  rule = head.rule;
  call = head.call;
  regs = head.regs;
  parts = args;
}

-- the copies of a number, by its head and the progress of its arguments; none before all are complete
abbrev pub snapshot_of_progress : ℕ → Option Head → Progress → Option Snapshot
snapshot_of_progress q (Some head) (Ready args) = Some (snapshot_with q head args)
snapshot_of_progress q _ _ = None

-- the copies of a number, by its message
abbrev pub snapshot_of_message : ℕ → Message → Option Snapshot
snapshot_of_message q message = snapshot_of_progress q message.head (progress_of_message message)

-- the copies of a number, none before all are complete
abbrev pub snapshot_in : State → ℕ → Option Snapshot
snapshot_in st q = snapshot_of_message q (st.messages q)

-- whether all arguments are complete
abbrev pub is_ready : Progress → Bool
is_ready (Word part place) = false
is_ready (Look part name) = false
is_ready (Stuck errno) = false
is_ready (Ready args) = true

-- whether there is a worker of this number
abbrev pub is_worker : Input → ℕ → Bool
is_worker i w = nat_lt 0 w && nat_le w i.options.workers

-- the number that a worker is at, by its turn: it has to be live, or all its arguments complete
abbrev pub seq_at_work : State → Option ℕ → Option ℕ
seq_at_work st None = None
seq_at_work st (Some q) = if is_live st q || is_ready (progress_in st q) then Some q else None

-- the number that a worker is at, none if it is idle
abbrev pub worker_at : State → ℕ → Option ℕ
worker_at st w = seq_at_work st (st.turns w)

-- whether a worker may claim a number
abbrev pub is_waiting : State → ℕ → Bool
is_waiting st q = is_live st q && not (st.messages q).claimed

-- ---- filters

-- the filters that are in force for a policy and a rule in a state, without the session's
abbrev pub read_at : Input → State → List ℕ → Rule → List FilterValue
read_at i st policy rule = filters_in_force i.policies policy (st.versions policy) rule

-- the decision of the filters in force on these copies, otherwise of the session's
abbrev pub decision_in : Input → State → Snapshot → Verdict
decision_in i st s = decision (read_at i st s.policy s.rule) (session_filters st.session s.policy s.rule) s

-- the kernel's own answer for a rule under a policy, by the versions of policies and the session's filters
abbrev pub answer_under : Input → (List ℕ → ℕ) → List SessionFilter → List ℕ → Rule → FastAnswer
answer_under i versions session policy rule = fast (filters_in_force i.policies policy (versions policy) rule ++ session_filters session policy rule)

-- the kernel's own answer for a rule under a policy
abbrev pub answer_for : Input → State → List ℕ → Rule → FastAnswer
answer_for i st policy rule = answer_under i st.versions st.session policy rule

-- the kernel's own answer for a call of a process
abbrev pub answer_in : Input → State → Process → SysCall → List ℕ → FastAnswer
answer_in i st process call regs = answer_for i st process.policy (rule_of call regs i.options.aliasing)

-- how many filters the policy and the rule of these copies have, in force and of the session
abbrev pub filter_count : Input → State → Snapshot → ℕ
filter_count i st s = length (read_at i st s.policy s.rule ++ session_filters st.session s.policy s.rule)

-- ---- questions

-- whether a reply is for a policy and a rule and wasn't given yet
abbrev pub is_reply_left : Input → State → List ℕ → Rule → ℕ → Bool
is_reply_left i st policy rule n = is_reply_for policy rule (item_at_number i.replies n) && not (st.replied n)

-- the next reply for a policy and a rule, if one is left
abbrev pub next_reply : Input → State → List ℕ → Rule → Option ℕ
next_reply i st policy rule = least_from (is_reply_left i st policy rule) 1 (length i.replies)

-- whether the operator answers for a call that no filter decides
abbrev pub operator_decides : Input → State → Snapshot → Mode → Bool
operator_decides i st s Enforce = false
operator_decides i st s Learn = true
operator_decides i st s AskText = is_some (next_reply i st s.policy s.rule)

-- whether a verdict decides nothing
abbrev pub is_undecided : Verdict → Bool
is_undecided (Permit n ids) = false
is_undecided (Refuse n errno) = false
is_undecided Unmatched = true

-- whether the operator has to answer for a call with these copies
abbrev pub is_open_question : Input → State → Option Snapshot → Bool
is_open_question i st None = false
is_open_question i st (Some s) = is_undecided (decision_in i st s) && operator_decides i st s i.options.mode

-- whether a number is a question: it is live and answered, no filter decides, and the operator answers
abbrev pub is_question : Input → State → ℕ → Bool
is_question i st q = is_live st q && (st.messages q).answered && is_open_question i st (snapshot_in st q)

-- ---- the modelled system, as a call sees it

-- the held call of a thread, by its way; none if the thread is dying, whose number isn't live any more
abbrev pub held_by_way : State → ℕ → Way → List HeldCall
held_by_way st t (Held first) =
    if (st.threads t).dying then [] else record { tid = t; pid = (st.threads t).owner; number = (st.threads t).number } ∷ []
held_by_way st t _ = []

-- the held call of a thread, by its pending call
abbrev pub held_by_pending : State → ℕ → Option PendingCall → List HeldCall
held_by_pending st t None = []
held_by_pending st t (Some entered) = held_by_way st t entered.way

-- the held calls of `count` threads from t on, in order
abbrev pub held_from : State → ℕ → ℕ → List HeldCall
held_from st t zero = []
held_from st t (suc count) = held_by_pending st t (st.threads t).pending ++ held_from st (suc t) count

-- ---- reloads

-- whether a process may reload a policy: it is untraced, and its effective user is 0
abbrev pub may_reload : Process → Bool
may_reload process = not process.traced && process.ids.euid == 0

-- whether a head is under the policy of the binary that the script's policy with this number is for
abbrev pub is_head_under : Input → ℕ → Option Head → Bool
is_head_under i n None = false
is_head_under i n (Some head) = is_block_of i.policies n head.policy

-- whether the message of a held call is under the policy of the binary that the script's policy with this number is for
abbrev pub is_held_under : Input → State → ℕ → HeldCall → Bool
is_held_under i st n held = is_head_under i n (st.messages held.number).head

-- the changes of a reload, by whether it is done: each live message under the policy is renewed, in the order of the threads
abbrev pub reload_changes : Input → State → ℕ → Bool → List Change
reload_changes i st n done = if done then renewals_by (is_held_under i st n) (suc st.posted) (held_from st 1 (thread_count i)) else []

-- ---- calls

-- the modelled system that a call sees
abbrev pub system_of : Input → State → System
system_of i st = record {
  tree = st.tree;
  memory = st.memory;
  descriptors = st.descriptors;
  processes = st.processes;
  is_live = is_live_process i st;
  next_process = st.next_process;
  next_space = st.next_space;
  next_number = suc st.posted;
  held = held_from st 1 (thread_count i);
}

-- the thread that a pending call starts, 0 if it starts none
abbrev pub child_of_pending : Option PendingCall → ℕ
child_of_pending None = 0
child_of_pending (Some entered) = entered.child

-- a call of a thread as a request, with its registers, arguments and the ids that it is made under
abbrev pub request_of : Input → State → ℕ → List ℕ → List ArgText → Ids → Request
request_of i st t regs args ids = record {
  tid = t;
  pid = (st.threads t).owner;
  ids = ids;
  regs = regs;
  args = args;
  child = child_of_pending (st.threads t).pending;
  inherit = i.options.inherit;
}

-- the arguments of a call that its thread makes in one step, or their first fault
abbrev pub arguments_now : Input → State → ℕ → SysCall → List ℕ → Progress
arguments_now i st t call regs =
    arguments_in (record { rule = rule_of call regs i.options.aliasing; call = call; regs = regs; cwd = (process_in st t).cwd })
    (record { bytes = st.memory (process_in st t).space; tree = st.tree })

-- the first link in the way of a call with these arguments
abbrev pub link_now : Input → State → SysCall → List ℕ → List ArgText → Option Components
link_now i st call regs args = link_met st.tree (rule_of call regs i.options.aliasing) call regs args

-- ---- memory and descriptors

-- the number of the space of a message's process
abbrev pub space_of_head : State → Option Head → ℕ
space_of_head st None = 0
space_of_head st (Some head) = (st.processes head.pid).space

-- the word at a word index of the memory of a number's process
abbrev pub word_for : State → ℕ → ℕ → ℕ
word_for st q place = word_of (st.memory (space_of_head st (st.messages q).head)) place

-- the descriptors after an entry: a successful call may change them, and those of a process are closed when its last thread ends
abbrev pub table_after : Input → State → Entry → Table
table_after i st (Used t seq call regs args ids (Value n) changes) = (effect (system_of i st) call (request_of i st t regs args ids)).descriptors
table_after i st (Ended t) = if is_last_thread i st t then table_after_close_all st.descriptors (st.threads t).owner else st.descriptors
table_after i st _ = st.descriptors
