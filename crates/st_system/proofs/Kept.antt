-- After a store, the system represents the state of the law's machine.
use Rattle.std.proofs.Common.{◌≡◌, ◌≢◌, ◌∙◌, ℕ, true, false, not, Option, Some, None, refl, ap, sym}
use Rattle.std.specs.Option.{option_map}
use Rattle.std.specs.Prelude.{Result, Ok, Err, IsErr, OnOk}
use Rattle.st_memory.specs.Memory.{Memories, byte_in, is_space_live, KeepsSpaces}
use Rattle.st_model.specs.Memory.{memory_after_store, word_of}
use Rattle.st_model.specs.Process.{Process}
use Rattle.st_model.specs.Processes.{StartedThread, has_not_ended, process_at, thread_at}
use Rattle.st_trace.specs.declared.entry.Entry.TheVariants.{Stored}
use Rattle.st_law.specs.declared.input.Input.{Input}
use Rattle.st_law.specs.Machine.{state_after}
use Rattle.st_law.specs.State.{State, ThreadState}
use Rattle.st_system.specs.System.{IsSystem, IsThreadState, Parts, is_given_up}
use Rattle.st_system.proofs.Memory.{agree_stored, live_kept, same_given_up}

-- the process of a thread, by whether it has started
abbrev pub owner_in : Option StartedThread → ℕ
owner_in None = 0
owner_in (Some thread) = thread.pid

pub owner_is : (o : Option StartedThread) (row : ThreadState) → IsThreadState o row → row.owner ≡ owner_in o
owner_is None row x = x.0
owner_is (Some thread) row x = x.0

-- the process of a thread that is found
pub pid_owner : (o : Option StartedThread) (p : ℕ) → Some p ≡ option_map (λ (thread : StartedThread). thread.pid) o → p ≡ owner_in o
pid_owner None p is = absurd cc
pid_owner (Some thread) p is = cc

-- a thread by another row with the same owner
pub with_owner : (o : Option StartedThread) (row other : ThreadState) → IsThreadState o row → other.owner ≡ row.owner → other.ended ≡ row.ended → IsThreadState o other
with_owner None row other x owner ended = (owner ∙ x.0, ended ∙ x.1)
with_owner (Some thread) row other x owner ended = (owner ∙ x.0, ended ∙ x.1)

-- the system represents the state after a store
pub stored : (i : Input) (st : State) (parts : Parts) → IsSystem i st parts → (t place word space : ℕ) (new : Memories) → space ≡ (process_at parts.processes (owner_in (thread_at parts.processes t))).space
    → is_space_live parts.memories space ≡ true → ((s b : ℕ) → byte_in new s b ≡ memory_after_store (byte_in parts.memories) space place word s b) → KeepsSpaces parts.memories new
    → IsSystem i (state_after i st (Stored t place word)) (record { tree = parts.tree; descriptors = parts.descriptors; processes = parts.processes; memories = new })
stored i st parts x t place word space new space_is live bytes keeps = record {
  tree = x.tree;
  descriptors = x.descriptors;
  processes = x.processes;
  next_process = x.next_process;
  memory = λ s b there. ap (λ own. memory_after_store st.memory own place word s b) own
      ∙ agree_stored space (λ s. is_given_up parts.memories s ≡ false) (live_kept parts.memories space live) place word st.memory (byte_in parts.memories) (λ s is n. x.memory s n is) s (same_given_up parts.memories new keeps s ∙ there) b
      ∙ sym (bytes s b);
  next_space = x.next_space ∙ sym keeps.0;
  threads = λ u. with_owner (thread_at parts.processes u) (st.threads u) ((state_after i st (Stored t place word)).threads u) (x.threads u) refl refl;
  among = x.among;
} where
  own : (st.processes (st.threads t).owner).space ≡ space
  own = ap (λ p. (st.processes p).space) (owner_is (thread_at parts.processes t) (st.threads t) (x.threads t)) ∙ ap (λ process. process.space) (x.processes (owner_in (thread_at parts.processes t))) ∙ sym space_is

-- a word of a process's memory
pub word_is : (i : Input) (st : State) (parts : Parts) → IsSystem i st parts → (pid place : ℕ) → is_space_live parts.memories (process_at parts.processes pid).space ≡ true
    → (word : ℕ) → word ≡ word_of (byte_in parts.memories (process_at parts.processes pid).space) place → word ≡ word_of (st.memory (st.processes pid).space) place
word_is i st parts x pid place live word is =
    is ∙ (λ k. word_of (λ b. sym (x.memory (process_at parts.processes pid).space b (live_kept parts.memories (process_at parts.processes pid).space live)) k) place)
    ∙ sym (ap (λ (process : Process). word_of (st.memory process.space) place) (x.processes pid))

-- a thread that has started and hasn't ended, by its row
pub started_runs : (o : Option StartedThread) (row : ThreadState) → IsThreadState o row → row.owner ≢ 0 → row.ended ≡ false → has_not_ended o ≡ true
started_runs None row x started running = absurd (started x.0)
started_runs (Some thread) row x started running = ap not (sym x.1 ∙ running)
