-- The parts after a call, and the state of the law's machine after its entry.
use Rattle.std.proofs.Common.{◌≡◌, ◌∙◌, ℕ, true, false, List, [], Option, refl, ap, sym}
use Rattle.std.specs.List.{fold}
use Rattle.st_calls.specs.declared.call.SysCall.{SysCall}
use Rattle.st_calls.specs.declared.call.SysCall.TheVariants.{SetUid, SetEuid, SetGid, SetEgid}
use Rattle.st_memory.specs.Memory.{byte_in, is_space_live, next_space}
use Rattle.st_model.specs.Process.{Process}
use Rattle.st_model.specs.Processes as model
use Rattle.st_model.specs.Processes.{next_pid, process_at, thread_at}
use Rattle.st_procs.specs.Laws.{AreOrdered}
use Rattle.st_effects.specs.Changes.{memory_after, memory_after_change, next_process_after, next_process_after_change, next_space_after, next_space_after_change, owner_after, owner_after_change, process_after, process_after_change, tree_after, tree_after_change}
use Rattle.st_effects.specs.Effect.{effect}
use Rattle.st_effects.specs.System.{Request, System}
use Rattle.st_trace.specs.declared.entry.CallResult.{CallResult}
use Rattle.st_trace.specs.declared.entry.CallResult.TheVariants.{Value, Failed}
use Rattle.st_trace.specs.declared.entry.Change.{Change}
use Rattle.st_trace.specs.declared.entry.Change.TheVariants.{Renewed}
use Rattle.st_trace.specs.declared.entry.Entry.{Entry}
use Rattle.st_trace.specs.declared.entry.Entry.TheVariants.{Used}
use Rattle.st_request.specs.Outcome.{outcome_of, assembled_system}
use Rattle.st_request.specs.declared.outcome.Outcome.{Outcome}
use Rattle.st_law.specs.declared.input.Input.{Input}
use Rattle.st_law.specs.Machine.{state_after}
use Rattle.st_law.specs.State as law
use Rattle.st_law.specs.State.{State, ThreadState, request_of, thread_count, table_after}
use Rattle.st_system.specs.Steps.{HasChild, IsMade, IsRequest, unheld_system, with_renewals}
use Rattle.st_system.specs.System.{IsAmong, IsSystem, IsThreadState, Parts, is_given_up}
use Rattle.st_system.proofs.Alike.{HasSameHeld, alike}
use Rattle.st_system.proofs.Failures.{failure_keeps}
use Rattle.st_system.proofs.Memory.{agree, live_kept}
use Rattle.st_system.proofs.Renewing.{fold_with, renews_after}
use Rattle.st_system.proofs.Same.{system_is}

-- a system of these parts in which no call is held
abbrev pub bare_system : Parts → System
bare_system parts = record {
  tree = parts.tree;
  memory = byte_in parts.memories;
  descriptors = parts.descriptors;
  processes = process_at parts.processes;
  is_live = model.is_process_live parts.processes;
  next_process = next_pid parts.processes;
  next_space = next_space parts.memories;
  next_number = 0;
  held = [];
}

-- a call had its outcome over these parts if no call is held, and its changes led to the new parts
pub record IsLeft (call : SysCall) (request : Request) (given : Outcome) (parts new : Parts) : Type 0 where
  pub outcome : (system : System) → system.held ≡ [] → outcome_of given new.descriptors ≡ effect (assembled_system system parts.tree parts.descriptors parts.processes parts.memories) call request
  pub tree : new.tree ≡ tree_after parts.tree given.changes
  pub processes : (p : ℕ) → process_at new.processes p ≡ process_after (process_at parts.processes) request.pid p given.changes
  pub next_process : next_pid new.processes ≡ next_process_after (next_pid parts.processes) given.changes
  pub next_space : next_space new.memories ≡ next_space_after (next_space parts.memories) given.changes
  pub memory : (s b : ℕ) → is_given_up new.memories s ≡ false → byte_in new.memories s b ≡ memory_after (process_at parts.processes request.pid).space (byte_in parts.memories) given.changes s b
  pub kept : (s : ℕ) → is_given_up new.memories s ≡ false → is_given_up parts.memories s ≡ false
  pub threads : (t : ℕ) (row other : ThreadState) → IsThreadState (thread_at parts.processes t) row → other.owner ≡ owner_after t row.owner given.changes → other.ended ≡ row.ended → IsThreadState (thread_at new.processes t) other
  pub among : (i : Input) → HasChild i call request → (t : ℕ) → IsAmong (thread_count i) t (thread_at parts.processes t) → IsAmong (thread_count i) t (thread_at new.processes t)

none_held : (call : SysCall) → HasSameHeld call [] []
none_held SetUid = refl
none_held SetEuid = refl
none_held SetGid = refl
none_held SetEgid = refl
none_held call = tt

module _ (call : SysCall) (request : Request) (given : Outcome) (parts new : Parts) (ordered : AreOrdered parts.processes) (live : is_space_live parts.memories (process_at parts.processes request.pid).space ≡ true)
    (left : IsLeft call request given parts new) (i : Input) (st : State) (x : IsSystem i st parts) (is : IsRequest i st request) (child : HasChild i call request) where
  -- the number of the caller's memory, by the parts and by the state
  abbrev own : ℕ
  own = (process_at parts.processes request.pid).space

  own_is : (st.processes request.pid).space ≡ own
  own_is = ap (λ (process : Process). process.space) (x.processes request.pid)

  here : is_given_up parts.memories own ≡ false
  here = live_kept parts.memories own live

  row : (b : ℕ) → st.memory (st.processes request.pid).space b ≡ byte_in parts.memories (st.processes request.pid).space b
  row b = x.memory (st.processes request.pid).space b (ap (is_given_up parts.memories) own_is ∙ here)

  whole : outcome_of given new.descriptors ≡ effect (unheld_system i st) call request
  whole = left.outcome (unheld_system i st) refl ∙ ap (λ (system : System). effect system call request) (system_is i st parts x ordered)
      ∙ sym (alike (unheld_system i st) (byte_in parts.memories) [] request row call (none_held call))

  owner : (st.threads request.tid).owner ≡ request.pid
  owner = sym (ap (λ (r : Request). r.pid) is)

  -- the changes in the entry
  abbrev full : List Change
  full = with_renewals i st call request given.result given.changes

  abbrev used : Option ℕ → Entry
  used seq = Used request.tid seq call request.regs request.args request.ids given.result full

  as_changed : {A : Type 0} (f : A → Change → A) → ((a : A) (old new : ℕ) → f a (Renewed old new) ≡ a) → (a : A) → fold f a full ≡ fold f a given.changes
  as_changed f same a = fold_with i st request f same call a given.result given.changes

  -- the descriptors after the entry, by the result
  table : (result : CallResult) → given.result ≡ result → (seq : Option ℕ) → table_after i st (Used request.tid seq call request.regs request.args request.ids result full) ≡ new.descriptors
  table (Value n) e seq = ap (λ (r : Request). (effect (law.system_of i st) call r).descriptors) (sym is) ∙ (renews_after i st request call).descriptors ∙ sym (ap (λ o. o.descriptors) whole)
  table (Failed errno) e seq = sym (failure_keeps (unheld_system i st) request call errno (sym (ap (λ o. o.result) whole) ∙ e)) ∙ sym (ap (λ o. o.descriptors) whole)

  bytes : (s b : ℕ) → is_given_up new.memories s ≡ false → memory_after (st.processes (st.threads request.tid).owner).space st.memory full s b ≡ byte_in new.memories s b
  bytes s b there =
      ap (λ (m : ℕ → ℕ → ℕ). m s b) (as_changed (memory_after_change (st.processes (st.threads request.tid).owner).space) (λ m old new. refl) st.memory)
      ∙ ap (λ space. memory_after space st.memory given.changes s b) (ap (λ p. (st.processes p).space) owner ∙ own_is)
      ∙ agree own (λ s. is_given_up parts.memories s ≡ false) here given.changes st.memory (byte_in parts.memories) (λ s is n. x.memory s n is) s (left.kept s there) b
      ∙ sym (left.memory s b there)

  pub made : (seq : Option ℕ) → IsMade i st seq call request given new
  made seq = record {
    result = ap (λ o. o.result) whole ∙ sym (renews_after i st request call).result;
    changes = (λ k. with_renewals i st call request (whole k).result (whole k).changes) ∙ sym (renews_after i st request call).changes;
    system = record {
      tree = as_changed tree_after_change (λ tree old new. refl) st.tree ∙ ap (λ tree. tree_after tree given.changes) x.tree ∙ sym left.tree;
      descriptors = table given.result refl seq;
      processes = λ p. as_changed (process_after_change st.processes (st.threads request.tid).owner p) (λ process old new. refl) (st.processes p)
          ∙ (λ k. process_after (λ q. x.processes q k) (owner k) p given.changes) ∙ sym (left.processes p);
      next_process = as_changed next_process_after_change (λ n old new. refl) st.next_process ∙ ap (λ n. next_process_after n given.changes) x.next_process ∙ sym left.next_process;
      memory = bytes;
      next_space = as_changed next_space_after_change (λ n old new. refl) st.next_space ∙ ap (λ n. next_space_after n given.changes) x.next_space ∙ sym left.next_space;
      threads = λ t. left.threads t (st.threads t) ((state_after i st (used seq)).threads t) (x.threads t) (as_changed (owner_after_change t) (λ n old new. refl) (st.threads t).owner) refl;
      among = λ t. left.among i child t (x.among t);
    };
  }
