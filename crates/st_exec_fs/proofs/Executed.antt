-- The system after a call on names and files, by the part that the call changes.
use Rattle.std.proofs.Common.{◌≡◌, ◌<◌, ◌∙◌, ap, refl, subst, sym, ℕ, List, [], Result, Ok, Err, IfOk, OnErr}
use Rattle.st_calls.specs.declared.call.SysCall.{SysCall}
use Rattle.st_calls.specs.declared.call.SysCall.TheVariants.{Open, Read, Write, Access, Chdir}
use Rattle.st_fds.specs.Table.{KeepsTables}
use Rattle.st_memory.specs.Memory.{Memories, byte_in, is_space_live, next_space, KeepsSpaces}
use Rattle.st_model.specs.Descriptors.{Table}
use Rattle.st_model.specs.Process.{Process}
use Rattle.st_model.specs.Processes as model
use Rattle.st_model.specs.Processes.{Processes, next_pid, process_at}
use Rattle.st_model.specs.Tree.{Tree}
use Rattle.st_effects.specs.Changes.{memory_after, process_after, tree_after}
use Rattle.st_effects.specs.Effect.{effect}
use Rattle.st_effects.specs.System as effects
use Rattle.st_effects.specs.System.{System, Request}
use Rattle.st_trace.specs.declared.entry.Change.{Change}
use Rattle.st_exec_fs.specs.Execution.{IsFileCallExecuted, IsLookingCall, IsOnDescriptors, IsOnNames}
use Rattle.st_request.specs.Ready.{IsReady, AreValidOpenFiles}
use Rattle.st_request.specs.Outcome.{outcome_of, assembled_system, with_descriptors, with_processes, with_tree}
use Rattle.st_request.specs.Processes.{AreProcessesAfter}
use Rattle.st_request.specs.declared.outcome.Outcome.{Outcome}
use Rattle.st_exec_fs.proofs.Changed.{access_changes, chdir_changes, descriptors_change, looks_change, memory_left, memory_left_by_moves, names_change, none_left, open_changes, processes_left, processes_left_by_puts, read_changes, space_left, tree_left_by_moves, tree_left_by_puts, write_changes, Each, IsNone, IsOfDirectory, IsOfMemory, IsOfTree, Makes}
use Rattle.st_request.proofs.Stay.{stay_real}

module _ (request : Request) (tree : Tree) (table : Table) (processes : Processes) (memories : Memories) where
  -- the system with these parts and without held calls
  abbrev parts : System
  parts = record {
    tree = tree;
    memory = byte_in memories;
    descriptors = table;
    processes = process_at processes;
    is_live = model.is_process_live processes;
    next_process = next_pid processes;
    next_space = next_space memories;
    next_number = 0;
    held = [];
  }

  -- the changes of a call are those of its outcome
  changed : (P : Change → Type 0) (call : SysCall) (given : Outcome) (left : Table) → outcome_of given left ≡ effect parts call request → Makes P (effect parts call request) → Each P given.changes
  changed P call given left is makes = let same : given.changes ≡ (effect parts call request).changes = ap (λ (o : effects.Outcome). o.changes) is in subst (Each P) (sym same) makes.changes

  -- a call that changes only the tree and descriptors
  of_tree : (call : SysCall) (given : Outcome) (new : Tree) (left : Table) → ((system : System) → outcome_of given left ≡ effect (assembled_system system tree table processes memories) call request)
      → new ≡ tree_after tree given.changes → Makes IsOfTree (effect parts call request) → IsFileCallExecuted call request given tree table processes memories new left processes memories
  of_tree call given new left is tree_is makes =
      let all : Each IsOfTree given.changes = changed IsOfTree call given left (is parts) makes in record {
        outcome = is;
        tree = tree_is;
        processes = record { processes = λ p. sym (processes_left (process_at processes) request.pid p given.changes all); threads = refl; next = refl };
        memory = λ s b. ap (λ (m : ℕ → ℕ → ℕ). m s b) (sym (memory_left (process_at processes request.pid).space (byte_in memories) given.changes all));
      }

  -- a call that changes only memory and descriptors
  of_memory : (call : SysCall) (given : Outcome) (left : Table) (new : Memories) → ((system : System) → outcome_of given left ≡ effect (assembled_system system tree table processes memories) call request)
      → ((s b : ℕ) → byte_in new s b ≡ memory_after (process_at processes request.pid).space (byte_in memories) given.changes s b)
      → Makes IsOfMemory (effect parts call request) → IsFileCallExecuted call request given tree table processes memories tree left processes new
  of_memory call given left new is memory_is makes =
      let all : Each IsOfMemory given.changes = changed IsOfMemory call given left (is parts) makes in record {
        outcome = is;
        tree = sym (tree_left_by_puts tree given.changes all);
        processes = record { processes = λ p. sym (processes_left_by_puts (process_at processes) request.pid p given.changes all); threads = refl; next = refl };
        memory = memory_is;
      }

  -- ---- the calls, each by the result of its own function

  pub names_executed : {E : Type 0} (call : SysCall) (result : Result Outcome E) (new : Tree) → IsOnNames call
      → IfOk result (λ given. (system : System) → outcome_of given system.descriptors ≡ effect (with_tree system tree) call request) → IfOk result (λ given. new ≡ tree_after tree given.changes)
      → IfOk result (λ given. IsFileCallExecuted call request given tree table processes memories new table processes memories)
  names_executed call (Ok given) new on is tree_is = of_tree call given new table (λ system. is (assembled_system system tree table processes memories)) tree_is (names_change parts request call on)
  names_executed call (Err error) new on is tree_is = tt

  pub open_executed : {E : Type 0} (call : SysCall) (result : Result Outcome E) (new : Tree) (left : Table) → call ≡ Open
      → IfOk result (λ given. (system : System) → outcome_of given left ≡ effect (with_descriptors (with_tree system tree) table) Open request) → IfOk result (λ given. new ≡ tree_after tree given.changes)
      → IfOk result (λ given. IsFileCallExecuted call request given tree table processes memories new left processes memories)
  open_executed call (Ok given) new left named is tree_is =
      let done = of_tree Open given new left (λ system. is (assembled_system system tree table processes memories)) tree_is (open_changes parts request) in
      subst (λ (c : SysCall). IsFileCallExecuted c request given tree table processes memories new left processes memories) (sym named) done
  open_executed call (Err error) new left named is tree_is = tt

  pub write_executed : {E : Type 0} (call : SysCall) (result : Result Outcome E) (new : Tree) (left : Table) → call ≡ Write
      → IfOk result (λ given. (system : System) → outcome_of given left ≡ effect (assembled_system system tree table processes memories) Write request) → IfOk result (λ given. new ≡ tree_after tree given.changes)
      → IfOk result (λ given. IsFileCallExecuted call request given tree table processes memories new left processes memories)
  write_executed call (Ok given) new left named is tree_is =
      let done = of_tree Write given new left is tree_is (write_changes parts request) in
      subst (λ (c : SysCall). IsFileCallExecuted c request given tree table processes memories new left processes memories) (sym named) done
  write_executed call (Err error) new left named is tree_is = tt

  pub read_executed : {E : Type 0} (call : SysCall) (result : Result Outcome E) (left : Table) (new : Memories) → call ≡ Read
      → IfOk result (λ given. (system : System) → outcome_of given left ≡ effect (assembled_system system tree table processes memories) Read request)
      → IfOk result (λ given. (s b : ℕ) → byte_in new s b ≡ memory_after (process_at processes request.pid).space (byte_in memories) given.changes s b)
      → IfOk result (λ given. IsFileCallExecuted call request given tree table processes memories tree left processes new)
  read_executed call (Ok given) left new named is memory_is =
      let done = of_memory Read given left new is memory_is (read_changes parts request) in
      subst (λ (c : SysCall). IsFileCallExecuted c request given tree table processes memories tree left processes new) (sym named) done
  read_executed call (Err error) left new named is memory_is = tt

  pub look_executed : {E : Type 0} (call : SysCall) (result : Result Outcome E) (new : Memories) → IsLookingCall call
      → IfOk result (λ given. (system : System) → outcome_of given system.descriptors ≡ effect (with_tree (with_processes system processes) tree) call request)
      → IfOk result (λ given. (s b : ℕ) → byte_in new s b ≡ memory_after (process_at processes request.pid).space (byte_in memories) given.changes s b)
      → IfOk result (λ given. IsFileCallExecuted call request given tree table processes memories tree table processes new)
  look_executed call (Ok given) new look is memory_is = of_memory call given table new (λ system. is (assembled_system system tree table processes memories)) memory_is (looks_change parts request call look)
  look_executed call (Err error) new look is memory_is = tt

  pub descriptors_executed : (call : SysCall) (given : Outcome) (left : Table) → IsOnDescriptors call
      → ((system : System) → outcome_of given left ≡ effect (with_descriptors (with_tree system tree) table) call request) → IsFileCallExecuted call request given tree table processes memories tree left processes memories
  descriptors_executed call given left on is =
      let none : given.changes ≡ [] = none_left given.changes (changed IsNone call given left (is parts) (descriptors_change parts request call on)) in record {
        outcome = λ system. is (assembled_system system tree table processes memories);
        tree = ap (λ (changes : List Change). tree_after tree changes) (sym none);
        processes = record { processes = λ p. ap (λ (changes : List Change). process_after (process_at processes) request.pid p changes) (sym none); threads = refl; next = refl };
        memory = λ s b. ap (λ (changes : List Change). memory_after (process_at processes request.pid).space (byte_in memories) changes s b) (sym none);
      }

  pub chdir_executed : {E : Type 0} (call : SysCall) (result : Result Outcome E) (new : Processes) → call ≡ Chdir
      → IfOk result (λ given. (system : System) → outcome_of given system.descriptors ≡ effect (with_tree system tree) Chdir request)
      → IfOk result (λ given. AreProcessesAfter processes request.pid given.changes new)
      → IfOk result (λ given. IsFileCallExecuted call request given tree table processes memories tree table new memories)
  chdir_executed call (Ok given) new named is after =
      let all : Each IsOfDirectory given.changes = changed IsOfDirectory Chdir given table (is parts) (chdir_changes parts request) in
      let done : IsFileCallExecuted Chdir request given tree table processes memories tree table new memories = record {
        outcome = λ system. is (assembled_system system tree table processes memories);
        tree = sym (tree_left_by_moves tree given.changes all);
        processes = after;
        memory = λ s b. ap (λ (m : ℕ → ℕ → ℕ). m s b) (sym (memory_left_by_moves (process_at processes request.pid).space (byte_in memories) given.changes all));
      } in
      subst (λ (c : SysCall). IsFileCallExecuted c request given tree table processes memories tree table new memories) (sym named) done
  chdir_executed call (Err error) new named is after = tt

  -- ---- calls can still be made for the process

  module _ (ready : IsReady tree table processes memories request.pid) where
    -- if open files are real and the same tables and spaces exist
    pub still_ready : (new_tree : Tree) (left : Table) (new : Memories) → KeepsTables table left → KeepsSpaces memories new → AreValidOpenFiles new_tree left → IsReady new_tree left processes new request.pid
    still_ready new_tree left new tables spaces real = record {
      table = tables request.pid ∙ ready.table;
      process = ready.process;
      space = spaces.1 (process_at processes request.pid).space ∙ ready.space;
      real = real;
    }

    -- after a change of the tree
    pub ready_with_tree : {E : Type 0} (result : Result Outcome E) (new : Tree) → IfOk result (λ given. new ≡ tree_after tree given.changes) → OnErr result (new ≡ tree) → IsReady new table processes memories request.pid
    ready_with_tree (Ok given) new is err = still_ready new table memories (λ pid. refl) (refl, λ s. refl) (subst (λ (t : Tree). AreValidOpenFiles t table) (sym is) (stay_real tree table given.changes ready.real))
    ready_with_tree (Err error) new is err = subst (λ (t : Tree). IsReady t table processes memories request.pid) (sym err) ready

    -- after a change of the process's directory
    pub ready_with_processes : {E : Type 0} (result : Result Outcome E) (new : Processes)
        → IfOk result (λ given. (system : System) → outcome_of given system.descriptors ≡ effect (with_tree system tree) Chdir request)
        → IfOk result (λ given. AreProcessesAfter processes request.pid given.changes new) → OnErr result (new ≡ processes) → IsReady tree table new memories request.pid
    ready_with_processes (Ok given) new is after err =
        let all : Each IsOfDirectory given.changes = changed IsOfDirectory Chdir given table (is parts) (chdir_changes parts request) in
        let space : (process_at new request.pid).space ≡ (process_at processes request.pid).space =
        ap (λ (p : Process). p.space) (after.processes request.pid) ∙ space_left (process_at processes) request.pid request.pid given.changes all in record {
          table = ready.table;
          process = (ready.process.0, subst (λ (n : ℕ). request.pid < n) (sym after.next) ready.process.1);
          space = ap (λ (s : ℕ). is_space_live memories s) space ∙ ready.space;
          real = ready.real;
        }
    ready_with_processes (Err error) new is after err = subst (λ (p : Processes). IsReady tree table p memories request.pid) (sym err) ready

-- ---- of the looks only access(2) changes nothing, and it needs no process

no_table : Table
no_table = record { processes = []; files = [] }

pub access_leaves : {E : Type 0} (request : Request) (tree : Tree) (processes : Processes) (memories : Memories) (result : Result Outcome E)
    → IfOk result (λ given. (system : System) → outcome_of given system.descriptors ≡ effect (with_tree system tree) Access request)
    → IfOk result (λ given. (s b : ℕ) → byte_in memories s b ≡ memory_after (process_at processes request.pid).space (byte_in memories) given.changes s b)
access_leaves request tree processes memories (Ok given) is = λ s b.
    let found : System = parts request tree no_table processes memories in
    let none : given.changes ≡ [] = none_left given.changes (changed request tree no_table processes memories IsNone Access given no_table (is found) (access_changes found request)) in
    ap (λ (changes : List Change). memory_after (process_at processes request.pid).space (byte_in memories) changes s b) (sym none)
access_leaves request tree processes memories (Err error) is = tt

pub access_looks : {E : Type 0} (request : Request) (tree : Tree) (processes : Processes) (call : SysCall) (result : Result Outcome E) → call ≡ Access
    → IfOk result (λ given. (system : System) → outcome_of given system.descriptors ≡ effect (with_tree system tree) Access request)
    → IfOk result (λ given. (system : System) → outcome_of given system.descriptors ≡ effect (with_tree (with_processes system processes) tree) call request)
access_looks request tree processes call (Ok given) named is = λ system.
    subst (λ (c : SysCall). outcome_of given system.descriptors ≡ effect (with_tree (with_processes system processes) tree) c request) (sym named) (is (with_processes system processes))
access_looks request tree processes call (Err error) named is = tt
