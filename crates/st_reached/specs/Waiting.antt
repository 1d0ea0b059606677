-- Which threads and workers add no entry, and which threads an entry may wake: the others needn't be tried again after it.
use Rattle.std.specs.Prelude.{◌≡◌, ℕ, Bool, true, false, ◌&&◌, ◌==◌, Option, Some, None}
use Rattle.std.specs.List.{list_any}
use Rattle.std.specs.Str.{bytes_eq}
use Rattle.st_calls.specs.Rules.{same_rule}
use Rattle.st_trace.specs.declared.entry.Change.{Change}
use Rattle.st_trace.specs.declared.entry.Change.TheVariants.{Forked, Execed, Dying}
use Rattle.st_trace.specs.declared.entry.Entry.{Entry}
use Rattle.st_trace.specs.declared.entry.Entry.TheVariants.{Faulted, Answered, Used, Learned, Replied}
use Rattle.st_trace.specs.declared.entry.Way.TheVariants.{Held}
use Rattle.st_law.specs.declared.input.Input.{Input}
use Rattle.st_law.specs.Machine.{least_waiting}
use Rattle.st_law.specs.Messages.{Head}
use Rattle.st_law.specs.State.{State, held_by_pending, is_question, is_worker, worker_at}
use Rattle.st_law.specs.Threads.{PendingCall}

-- ---- threads

-- a thread that isn't dying holds a call, and its message was neither faulted nor answered
pub record IsAwaiting (st : State) (t : ℕ) : Type 0 where
  pub undying : (st.threads t).dying ≡ false
  pub entered : PendingCall
  pub pending : (st.threads t).pending ≡ Some entered
  pub first : ℕ
  pub way : entered.way ≡ Held first
  pub unfaulted : (st.messages (st.threads t).number).fault ≡ None
  pub unanswered : (st.messages (st.threads t).number).answered ≡ false

-- a thread that isn't dying holds a call that was answered, and that is a question for the operator
pub record WaitsForOperator (i : Input) (st : State) (t : ℕ) : Type 0 where
  pub undying : (st.threads t).dying ≡ false
  pub entered : PendingCall
  pub pending : (st.threads t).pending ≡ Some entered
  pub first : ℕ
  pub way : entered.way ≡ Held first
  pub unfaulted : (st.messages (st.threads t).number).fault ≡ None
  pub question : is_question i st (st.threads t).number ≡ true

-- a thread is still: it hasn't started, it has ended, it waits for its held call's message to be faulted or answered, or for the operator
pub data IsStill (i : Input) (st : State) (t : ℕ) : Type 0 where
  unstarted : (st.threads t).owner ≡ 0 → IsStill i st t
  ended : (st.threads t).ended ≡ true → IsStill i st t
  awaiting : IsAwaiting st t → IsStill i st t
  asking : WaitsForOperator i st t → IsStill i st t

-- ---- which threads an entry wakes

-- a change after which any threads may go on: one starts, a process is killed, or a process executes another binary
abbrev pub wakes_all : Change → Bool
wakes_all (Forked pid space tid) = true
wakes_all (Execed binary space) = true
wakes_all (Dying pid) = true
wakes_all _ = false

-- whether a head is that of thread t
abbrev pub is_head_by : ℕ → Option Head → Bool
is_head_by t None = false
is_head_by t (Some head) = head.tid == t

-- whether the message of a number is that of thread t
abbrev pub is_message_by : State → ℕ → ℕ → Bool
is_message_by st t q = is_head_by t (st.messages q).head

-- whether two messages have the same policy and the same rule
abbrev pub are_alike : Option Head → Option Head → Bool
are_alike (Some head) (Some other) = bytes_eq head.policy other.policy && same_rule head.rule other.rule
are_alike _ _ = false

-- whether thread t holds a call with the policy and the rule of the message of a number
abbrev pub holds_alike : State → ℕ → ℕ → Bool
holds_alike st q t = list_any (λ held. are_alike (st.messages q).head (st.messages held.number).head) (held_by_pending st t (st.threads t).pending)

-- whether an entry wakes the still thread t, another's: a fault and an applied answer wake the thread of their number; a call wakes every
-- thread if one of its changes does; an answer of the operator wakes the threads that hold calls with the policy and the rule of the
-- question
abbrev pub wakes : State → Entry → ℕ → Bool
wakes st (Used u seq call regs args ids result changes) t = list_any wakes_all changes
wakes st (Faulted q errno) t = is_message_by st t q
wakes st (Answered w snapshot verdict applied) t = applied && is_message_by st t snapshot.seq
wakes st (Learned q n) t = holds_alike st q t
wakes st (Replied q reply n) t = holds_alike st q t
wakes st _ t = false

-- ---- workers

-- a worker is still: no worker has this number, or it is idle and no number waits
pub data IsStillWorker (i : Input) (st : State) (w : ℕ) : Type 0 where
  no_worker : is_worker i w ≡ false → IsStillWorker i st w
  idle : worker_at st w ≡ None → least_waiting st ≡ None → IsStillWorker i st w
