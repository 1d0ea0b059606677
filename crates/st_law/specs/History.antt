-- The state of a run as a function of its history, each part computed by looking back on its own.
use Rattle.std.specs.Prelude.{ℕ, Bool, false, List, [], ◌∷◌}
use Rattle.st_calls.specs.Call.{rule_of}
use Rattle.st_calls.specs.declared.rule.FastAnswer.{FastAnswer}
use Rattle.st_calls.specs.declared.rule.FastAnswer.TheVariants.{Ask}
use Rattle.st_model.specs.Descriptors.{Table}
use Rattle.st_law.specs.declared.input.Input.{Input}
use Rattle.st_law.specs.Messages.{head_at, posted_at, is_claimed_at, words_at, lookups_at, fault_at, is_answered_at, is_closed_at, turn_at}
use Rattle.st_law.specs.Processes.{first_descriptors, process_at, next_process_at, next_space_at, byte_at, tree_at}
use Rattle.st_law.specs.Sessions.{SessionFilter, session_after, replied_after}
use Rattle.st_law.specs.State.{ThreadState, Message, State, snapshot_of_message, answer_under, table_after}
use Rattle.st_law.specs.Threads.{History, answer_after, owner_at, left_at, pending_at, number_at, is_dying_at, has_ended_at}
use Rattle.st_law.specs.Versions.{changed_after, version_at}

-- the message of a number after a history
abbrev pub message_at : Input → History → ℕ → Message
message_at i h q = record {
  head = head_at i h q;
  claimed = is_claimed_at h q;
  words = words_at h q;
  lookups = lookups_at h q;
  fault = fault_at h q;
  answered = is_answered_at h q;
  closed = is_closed_at h q;
}

-- the filters of the session
abbrev pub session_at : Input → History → List SessionFilter
session_at i [] = []
session_at i (e ∷ h) = session_after i.replies (λ q. snapshot_of_message q (message_at i h q)) e (session_at i h)

-- the binaries whose policies the run has changed
abbrev pub changed_at : Input → History → List (List ℕ)
changed_at i [] = []
changed_at i (e ∷ h) = changed_after i (λ q. snapshot_of_message q (message_at i h q)) e (changed_at i h)

-- the kernel's own answer to the call that a thread entered last, as it was then
abbrev pub answer_kept_at : Input → History → ℕ → FastAnswer
answer_kept_at i [] t = Ask
answer_kept_at i (e ∷ h) t =
    answer_after (λ call regs. answer_under i (version_at i h) (session_at i h) (process_at i h (owner_at i h t)).policy (rule_of call regs i.options.aliasing)) e t (answer_kept_at i h t)

-- the state of a thread after a history
abbrev pub thread_at : Input → History → ℕ → ThreadState
thread_at i h t = record {
  owner = owner_at i h t;
  left = left_at i h t;
  pending = pending_at i h t;
  answer = answer_kept_at i h t;
  number = number_at h t;
  dying = is_dying_at i h t;
  ended = has_ended_at h t;
}

-- whether a reply was given
abbrev pub is_replied_at : History → ℕ → Bool
is_replied_at [] n = false
is_replied_at (e ∷ h) n = replied_after e n (is_replied_at h n)

-- the state after a history, with these descriptors
abbrev pub looking_back_with : Input → History → Table → State
looking_back_with i h descriptors = record {
  threads = thread_at i h;
  processes = process_at i h;
  next_process = next_process_at i h;
  next_space = next_space_at i h;
  memory = byte_at i h;
  tree = tree_at i h;
  messages = message_at i h;
  posted = posted_at h;
  turns = turn_at h;
  session = session_at i h;
  versions = version_at i h;
  changed = changed_at i h;
  replied = is_replied_at h;
  descriptors = descriptors;
}

-- the descriptors of every process
abbrev pub descriptors_at : Input → History → Table
descriptors_at i [] = first_descriptors i
descriptors_at i (e ∷ h) = table_after i (looking_back_with i h (descriptors_at i h)) e

-- the state after a history
abbrev pub looking_back : Input → History → State
looking_back i h = looking_back_with i h (descriptors_at i h)
