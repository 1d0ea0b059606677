-- The system that a call finds in the state of the law's machine is that of the parts.
use Rattle.std.proofs.Common.{◌≡◌, ◌≢◌, ◌≤◌, ◌∙◌, ℕ, suc, zero, Bool, true, not, ◌&&◌, ◌||◌, ◌==◌, [], Option, Some, None, refl, ap, sym}
use Rattle.std.proofs.lemmas.Bool.{true≢false, ne_eqb}
use Rattle.std.specs.List.{list_any}
use Rattle.std.specs.Map.{values_of}
use Rattle.std.specs.Prelude.{is_some, nat_lt}
use Rattle.st_request.specs.Outcome.{assembled_system}
use Rattle.st_memory.specs.Memory.{byte_in}
use Rattle.st_model.specs.Processes as model
use Rattle.st_model.specs.Processes.{Processes, StartedThread, next_pid, thread_at}
use Rattle.st_procs.specs.Laws.{AreOrdered}
use Rattle.st_law.specs.declared.input.Input.{Input}
use Rattle.st_law.specs.Sessions.{least_from}
use Rattle.st_law.specs.State.{State, ThreadState, is_live_process, is_thread_of, is_running_in, thread_count}
use Rattle.st_system.specs.Steps.{unheld_system}
use Rattle.st_system.specs.System.{IsAmong, IsSystem, IsThreadState, Parts}
use Rattle.st_system.proofs.Living.{passes, some_is}

owner_agrees : (p : ℕ) → 0 ≢ p → (o : Option StartedThread) (row : ThreadState) → IsThreadState o row → (row.owner == p) ≡ passes (model.is_thread_of p) o
owner_agrees p ne None row x = ap (λ n. n == p) x.0 ∙ ne_eqb 0 p ne
owner_agrees p ne (Some thread) row x = ap (λ n. n == p) x.0

running_agrees : (p : ℕ) → 0 ≢ p → (o : Option StartedThread) (row : ThreadState) → IsThreadState o row → (row.owner == p && not row.ended) ≡ passes (model.is_running_in p) o
running_agrees p ne None row x = ap (λ b. b && not row.ended) (ap (λ n. n == p) x.0 ∙ ne_eqb 0 p ne)
running_agrees p ne (Some thread) row x = λ k. (x.0 k == p) && not (x.1 k)

among : (is : StartedThread → Bool) (count t : ℕ) (o : Option StartedThread) → IsAmong count t o → passes is o ≡ true → (1 ≤ t) × (t ≤ count)
among is count t None x holds = absurd (true≢false (sym holds))
among is count t (Some thread) x holds = x

module _ (i : Input) (st : State) (parts : Parts) (x : IsSystem i st parts) (ordered : AreOrdered parts.processes) where
  some_thread : (p : ℕ) → 0 ≢ p → is_some (least_from (is_thread_of st p) 1 (thread_count i)) ≡ list_any (model.is_thread_of p) (values_of parts.processes.threads)
  some_thread p ne = some_is parts.processes.threads (thread_count i) (model.is_thread_of p) (is_thread_of st p) ordered
      (λ t. owner_agrees p ne (thread_at parts.processes t) (st.threads t) (x.threads t))
      (λ t holds. among (model.is_thread_of p) (thread_count i) t (thread_at parts.processes t) (x.among t) (sym (owner_agrees p ne (thread_at parts.processes t) (st.threads t) (x.threads t)) ∙ holds))

  some_running : (p : ℕ) → 0 ≢ p → is_some (least_from (is_running_in st p) 1 (thread_count i)) ≡ list_any (model.is_running_in p) (values_of parts.processes.threads)
  some_running p ne = some_is parts.processes.threads (thread_count i) (model.is_running_in p) (is_running_in st p) ordered
      (λ t. running_agrees p ne (thread_at parts.processes t) (st.threads t) (x.threads t))
      (λ t holds. among (model.is_running_in p) (thread_count i) t (thread_at parts.processes t) (x.among t) (sym (running_agrees p ne (thread_at parts.processes t) (st.threads t) (x.threads t)) ∙ holds))

  -- whether a process is live
  pub live_is : (p : ℕ) → is_live_process i st p ≡ model.is_process_live parts.processes p
  live_is zero = refl
  live_is (suc q) = let differ : 0 ≢ suc q = λ e. cc in
      λ k. (nat_lt 0 (suc q) && nat_lt (suc q) (x.next_process k)) && (not (some_thread (suc q) differ k) || some_running (suc q) differ k)

  -- the system that a call finds, without the held calls, except for memories that were given up
  pub system_is : assembled_system (unheld_system i st) parts.tree parts.descriptors parts.processes parts.memories ≡ record (unheld_system i st) { memory = byte_in parts.memories }
  system_is = λ k. record {
    tree = sym x.tree k;
    memory = byte_in parts.memories;
    descriptors = sym x.descriptors k;
    processes = λ p. sym (x.processes p) k;
    is_live = λ p. sym (live_is p) k;
    next_process = sym x.next_process k;
    next_space = sym x.next_space k;
    next_number = suc st.posted;
    held = [];
  }
