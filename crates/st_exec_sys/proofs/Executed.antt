-- The system after a call on processes, ids and sockets, by the part that the call changes.
use Rattle.std.proofs.Common.{◌≡◌, ◌<◌, ◌∙◌, ap, refl, subst, sym, true, true≢false, ℕ, List, [], Result, Ok, Err, IfOk, OnErr}
use Rattle.st_calls.specs.declared.call.SysCall.{SysCall}
use Rattle.st_calls.specs.declared.call.SysCall.TheVariants.{SetUid, SetEuid, SetGid, SetEgid}
use Rattle.st_calls.specs.Call.{sets_ids}
use Rattle.st_effects.specs.Processes.{set_ids_outcome}
use Rattle.st_fds.specs.Table.{KeepsTables}
use Rattle.st_memory.specs.Memory.{Memories, is_space_live}
use Rattle.st_model.specs.Descriptors.{Table}
use Rattle.st_model.specs.Process.{Process}
use Rattle.st_model.specs.Processes.{Processes, process_at}
use Rattle.st_model.specs.Tree.{Tree}
use Rattle.st_effects.specs.Effect.{effect}
use Rattle.st_effects.specs.System.{System, Request}
use Rattle.st_trace.specs.declared.entry.Change.{Change}
use Rattle.st_request.specs.Ready.{IsReady, AreValidOpenFiles}
use Rattle.st_request.specs.Outcome.{outcome_of, with_descriptors, with_memories, with_processes}
use Rattle.st_request.specs.declared.outcome.Outcome.{Outcome}
use Rattle.st_exec_sys.specs.Changes.{AreEndings, AreSetIdsOnly, AreProcessesAndThreadsAfter}
use Rattle.st_exec_sys.specs.Execution.{IsProcessCallExecuted}
use Rattle.st_exec_sys.proofs.Left.{endings_leave, ids_leave, memories_stay, processes_stay, space_left, tables_stay}

module _ (request : Request) (table : Table) (processes : Processes) (memories : Memories) where
  -- a system with these parts
  abbrev pub with_parts : System → System
  with_parts system = with_descriptors (with_processes (with_memories system memories) processes) table

  -- a call that leaves processes and memories as they are, by how it changes descriptors
  pub ended : (call : SysCall) (given : Outcome) (left : Table) → ((system : System) → system.held ≡ [] → outcome_of given left ≡ effect (with_parts system) call request)
      → AreEndings given.changes → KeepsTables table left → IsProcessCallExecuted call request given table processes memories left processes memories
  ended call given left is quiet keeps = record {
    outcome = is;
    tables = tables_stay given.changes table left (endings_leave given.changes quiet) keeps;
    processes = processes_stay given.changes processes request.pid quiet;
    memories = memories_stay given.changes memories (process_at processes request.pid).space (endings_leave given.changes quiet);
  }

  no_endings : (changes : List Change) → changes ≡ [] → AreEndings changes
  no_endings changes none = subst AreEndings (sym none) tt

  -- a call that reports something
  pub known : (call : SysCall) (given : Outcome) → ((system : System) → outcome_of given system.descriptors ≡ effect system call request) → given.changes ≡ []
      → IsProcessCallExecuted call request given table processes memories table processes memories
  known call given is none = ended call given table (λ system held. is (with_parts system)) (no_endings given.changes none) (λ p. refl)

  -- a call that ends threads, or asks whether it could
  pub ended_if_ok : {E : Type 0} (call same : SysCall) (result : Result Outcome E) → call ≡ same
      → IfOk result (λ given. (system : System) → outcome_of given system.descriptors ≡ effect (with_processes system processes) same request) → IfOk result (λ given. AreEndings given.changes)
      → IfOk result (λ given. IsProcessCallExecuted call request given table processes memories table processes memories)
  ended_if_ok call same (Ok given) named is quiet =
      subst (λ (c : SysCall). IsProcessCallExecuted c request given table processes memories table processes memories) (sym named)
      (ended same given table (λ system held. is (with_descriptors (with_memories system memories) table)) quiet (λ p. refl))
  ended_if_ok call same (Err error) named is quiet = tt

  -- a call that changes only descriptors
  pub moved : (call same : SysCall) (given : Outcome) (left : Table) → call ≡ same
      → ((system : System) → outcome_of given left ≡ effect (with_descriptors system table) same request) → given.changes ≡ [] → KeepsTables table left
      → IsProcessCallExecuted call request given table processes memories left processes memories
  moved call same given left named is none keeps =
      subst (λ (c : SysCall). IsProcessCallExecuted c request given table processes memories left processes memories) (sym named)
      (ended same given left (λ system held. is (with_processes (with_memories system memories) processes)) (no_endings given.changes none) keeps)

  pub moved_if_ok : {E : Type 0} (call same : SysCall) (result : Result Outcome E) (left : Table) → call ≡ same
      → IfOk result (λ given. (system : System) → outcome_of given left ≡ effect (with_descriptors system table) same request) → IfOk result (λ given. given.changes ≡ []) → KeepsTables table left
      → IfOk result (λ given. IsProcessCallExecuted call request given table processes memories left processes memories)
  moved_if_ok call same (Ok given) left named is none keeps = moved call same given left named is none keeps
  moved_if_ok call same (Err error) left named is none keeps = tt

  -- each of the calls that set ids has one outcome
  pub ids_outcome : {E : Type 0} (call : SysCall) (result : Result Outcome E) → sets_ids call ≡ true
      → IfOk result (λ given. (system : System) → system.held ≡ [] → outcome_of given system.descriptors ≡ set_ids_outcome call system request)
      → IfOk result (λ given. (system : System) → system.held ≡ [] → outcome_of given system.descriptors ≡ effect system call request)
  ids_outcome SetUid result sets is = is
  ids_outcome SetEuid result sets is = is
  ids_outcome SetGid result sets is = is
  ids_outcome SetEgid result sets is = is
  ids_outcome call result sets is = absurd (true≢false (sym sets))

  -- a call that sets ids
  pub ids_set : {E : Type 0} (call : SysCall) (result : Result Outcome E) (new : Processes)
      → IfOk result (λ given. (system : System) → system.held ≡ [] → outcome_of given system.descriptors ≡ effect system call request)
      → IfOk result (λ given. AreProcessesAndThreadsAfter processes request.pid given.changes new) → IfOk result (λ given. AreSetIdsOnly given.changes)
      → IfOk result (λ given. IsProcessCallExecuted call request given table processes memories table new memories)
  ids_set call (Ok given) new is after own = record {
    outcome = λ system held. is (with_parts system) held;
    tables = tables_stay given.changes table table (ids_leave given.changes own) (λ p. refl);
    processes = after;
    memories = memories_stay given.changes memories (process_at processes request.pid).space (ids_leave given.changes own);
  }
  ids_set call (Err error) new is after own = tt

  -- ---- calls can still be made for each process

  -- with other descriptors in the same tables
  pub ready_with_table : (left : Table) → KeepsTables table left → ((tree : Tree) → AreValidOpenFiles tree table → AreValidOpenFiles tree left) → (tree : Tree) (pid : ℕ) → IsReady tree table processes memories pid → IsReady tree left processes memories pid
  ready_with_table left keeps real tree pid ready = record {
    table = keeps pid ∙ ready.table;
    process = ready.process;
    space = ready.space;
    real = real tree ready.real;
  }

  -- with other ids
  pub ready_with_ids : {E : Type 0} (result : Result Outcome E) (new : Processes) → IfOk result (λ given. AreProcessesAndThreadsAfter processes request.pid given.changes new) → IfOk result (λ given. AreSetIdsOnly given.changes)
      → OnErr result (new ≡ processes) → (tree : Tree) (pid : ℕ) → IsReady tree table processes memories pid → IsReady tree table new memories pid
  ready_with_ids (Ok given) new after own err tree pid ready =
      let space : (process_at new pid).space ≡ (process_at processes pid).space =
      ap (λ (p : Process). p.space) (after.processes pid) ∙ space_left (process_at processes) request.pid pid given.changes own in record {
        table = ready.table;
        process = (ready.process.0, subst (λ (n : ℕ). pid < n) (sym (after.next ∙ (ids_leave given.changes own).next _)) ready.process.1);
        space = ap (λ (s : ℕ). is_space_live memories s) space ∙ ready.space;
        real = ready.real;
      }
  ready_with_ids (Err error) new after own err tree pid ready = subst (λ (p : Processes). IsReady tree table p memories pid) (sym err) ready
