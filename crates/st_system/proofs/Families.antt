-- Calls of each kind as they are made over the parts, unless memory runs out.
use native.Mathlib.Omega.{arith}
use Rattle.std.proofs.Common.{◌≡◌, ◌≢◌, ℕ, true, Option, None, Some, refl, subst, sym}
use Rattle.std.proofs.lemmas.Bool.{false_from_ne_true}
use Rattle.std.specs.Option.{option_map, unwrap_or}
use Rattle.std.specs.Prelude.{Result, Ok, Err, IfOk, OnErr, OnOk}
use Rattle.st_calls.specs.declared.call.SysCall.{SysCall}
use Rattle.st_calls.specs.declared.call.SysCall.TheVariants.{Chdir, Execve, Fork, Exit, Kill, GetPid, GetUid, GetEuid, SetUid, SetEuid, SetGid, SetEgid, Socket, Bind, Connect}
use Rattle.st_memory.specs.Memory.{Memories, byte_in, is_space_live}
use Rattle.st_model.specs.Descriptors.{Table, has_table}
use Rattle.st_model.specs.Processes.{Processes, StartedThread, IsPid, next_pid, pid_of, process_at, thread_at}
use Rattle.st_model.specs.Tree.{Tree}
use Rattle.st_procs.specs.Laws.{AreOrdered}
use Rattle.st_effects.specs.Changes.{memory_after}
use Rattle.st_effects.specs.Processes.{execve_outcome}
use Rattle.st_effects.specs.System.{Request, System, arg_name_at}
use Rattle.st_exec_objects.specs.Execution.{AreSpacesAfter}
use Rattle.st_exec_sys.specs.Execution.{CanMakeCall, CanCall, IsProcessCallExecuted}
use Rattle.st_request.specs.Outcome.{outcome_of, with_memories, with_tree}
use Rattle.st_request.specs.Processes.{AreProcessesAfter}
use Rattle.st_request.specs.Ready.{IsReady}
use Rattle.st_request.specs.declared.outcome.Outcome.{Outcome}
use Rattle.st_system.specs.Steps.{CanMake, IsCallMade, IsOnProcesses}
use Rattle.st_system.specs.System.{HasOwner, IsValidSystem, Parts}
use Rattle.st_system.proofs.After.{made}
use Rattle.st_system.proofs.Executing.{left_binary, whole_binary}
use Rattle.st_system.proofs.OnProcesses.{left_processes, whole_processes}
use Rattle.st_system.proofs.Short.{IsShort}

-- the name of a directory isn't too long
pub move_of : (call : SysCall) (parts : Parts) (request : Request) → CanMake call parts request → call ≡ Chdir → IsShort (arg_name_at request 0)
move_of call parts request can is = subst (λ (c : SysCall). CanMake c parts request) is can

-- ---- a binary

pub whole_binary_if : {E : Type 0} (result : Result Outcome E) (parts : Parts) → IsValidSystem parts → (request : Request) → IsPid parts.processes request.pid → (processes : Processes) (memories : Memories)
    → IfOk result (λ given. (system : System) → outcome_of given system.descriptors ≡ execve_outcome (with_tree (with_memories system parts.memories) parts.tree) request)
    → IfOk result (λ given. AreProcessesAfter parts.processes request.pid given.changes processes)
    → IfOk result (λ given. AreSpacesAfter (process_at parts.processes request.pid).space parts.memories given.changes memories)
    → IfOk result (λ given. (s b : ℕ) → s ≢ (process_at parts.processes request.pid).space → byte_in memories s b ≡ memory_after (process_at parts.processes request.pid).space (byte_in parts.memories) given.changes s b)
    → is_space_live memories (process_at processes request.pid).space ≡ true
    → ((s : ℕ) → s ≢ (process_at parts.processes request.pid).space → is_space_live parts.memories s ≡ true → is_space_live memories s ≡ true)
    → OnErr result ((processes ≡ parts.processes) × (memories ≡ parts.memories)) → IsValidSystem (record { tree = parts.tree; descriptors = parts.descriptors; processes = processes; memories = memories })
whole_binary_if (Ok given) parts x request there processes memories outcome after spaces bytes ready lives err = whole_binary parts x request there given processes memories outcome after spaces bytes ready lives
whole_binary_if (Err error) parts x request there processes memories outcome after spaces bytes ready lives err =
    subst IsValidSystem (λ k. record { tree = parts.tree; descriptors = parts.descriptors; processes = sym err.0 k; memories = sym err.1 k }) x

pub made_binary_if : {E : Type 0} (result : Result Outcome E) (parts : Parts) → IsValidSystem parts → (request : Request) → IsPid parts.processes request.pid → (processes : Processes) (memories : Memories)
    → IfOk result (λ given. (system : System) → outcome_of given system.descriptors ≡ execve_outcome (with_tree (with_memories system parts.memories) parts.tree) request)
    → IfOk result (λ given. AreProcessesAfter parts.processes request.pid given.changes processes)
    → IfOk result (λ given. AreSpacesAfter (process_at parts.processes request.pid).space parts.memories given.changes memories)
    → IfOk result (λ given. (s b : ℕ) → s ≢ (process_at parts.processes request.pid).space → byte_in memories s b ≡ memory_after (process_at parts.processes request.pid).space (byte_in parts.memories) given.changes s b)
    → is_space_live memories (process_at processes request.pid).space ≡ true
    → ((s : ℕ) → s ≢ (process_at parts.processes request.pid).space → is_space_live parts.memories s ≡ true → is_space_live memories s ≡ true)
    → IfOk result (λ given. IsCallMade Execve request given parts (record { tree = parts.tree; descriptors = parts.descriptors; processes = processes; memories = memories }))
made_binary_if (Ok given) parts x request there processes memories outcome after spaces bytes ready lives = λ i st y is child seq.
    made Execve request given parts _ x.ordered (x.ready request.pid there).space (left_binary parts x request there given processes memories outcome after spaces bytes ready lives) i st y is child seq
made_binary_if (Err error) parts x request there processes memories outcome after spaces bytes ready lives = tt

-- ---- calls on processes

-- the precondition of a call on processes
pub can_call : (parts : Parts) → IsValidSystem parts → (pid : ℕ) → IsPid parts.processes pid → CanCall parts.descriptors parts.processes parts.memories pid
can_call parts x pid there = let r = x.ready pid there in record { table = r.table; process = there; space = r.space }

-- a thread without a process hasn't started
unstarted : (processes : Processes) (o : Option StartedThread) → HasOwner processes o → unwrap_or (option_map (λ (thread : StartedThread). thread.pid) o) 0 ≡ 0 → option_map (λ (thread : StartedThread). thread.pid) o ≡ None
unstarted processes None owner none = refl
unstarted processes (Some thread) owner none = let low = owner.0 in absurd (omega (arith, low, none))

pub allows : (parts : Parts) → IsValidSystem parts → (request : Request) (call : SysCall) → IsOnProcesses call → CanMake call parts request → CanMakeCall call parts.descriptors parts.processes parts.memories request
allows parts x request Fork on can = record {
  thread = unstarted parts.processes (thread_at parts.processes request.child) (x.owners request.child) can.thread;
  table = false_from_ne_true (has_table parts.descriptors (next_pid parts.processes)) (λ has. let low = (x.tables (next_pid parts.processes) has).1 in omega (arith, low));
  pids = can.pids;
  spaces = can.spaces;
}
allows parts x request Exit on can = tt
allows parts x request Kill on can = tt
allows parts x request GetPid on can = tt
allows parts x request GetUid on can = tt
allows parts x request GetEuid on can = tt
allows parts x request SetUid on can = can
allows parts x request SetEuid on can = can
allows parts x request SetGid on can = can
allows parts x request SetEgid on can = can
allows parts x request Socket on can = tt
allows parts x request Bind on can = can
allows parts x request Connect on can = can
allows parts x request call on can = absurd on

-- the child's thread hasn't started
unstarted_of : (call : SysCall) (parts : Parts) → IsValidSystem parts → (request : Request) → CanMake call parts request → call ≡ Fork → pid_of parts.processes request.child ≡ None
unstarted_of call parts x request can is = unstarted parts.processes (thread_at parts.processes request.child) (x.owners request.child) (subst (λ (c : SysCall). CanMake c parts request) is can).thread

pub whole_processes_if : {E : Type 0} (result : Result Outcome E) (parts : Parts) → IsValidSystem parts → (request : Request) → IsPid parts.processes request.pid → (table : Table) (processes : Processes) (memories : Memories) (call : SysCall)
    → IsOnProcesses call → CanMake call parts request → IfOk result (λ given. IsProcessCallExecuted call request given parts.descriptors parts.processes parts.memories table processes memories)
    → (AreOrdered parts.processes → AreOrdered processes)
    → ((tree : Tree) (pid : ℕ) → IsReady tree parts.descriptors parts.processes parts.memories pid → IsReady tree table processes memories pid)
    → (call ≡ Fork → OnOk result ((tree : Tree) → IsReady tree parts.descriptors parts.processes parts.memories request.pid → IsReady tree table processes memories (next_pid parts.processes)))
    → OnErr result ((table ≡ parts.descriptors) × ((processes ≡ parts.processes) × (memories ≡ parts.memories)))
    → IsValidSystem (record { tree = parts.tree; descriptors = table; processes = processes; memories = memories })
whole_processes_if (Ok given) parts x request there table processes memories call on can done ordered ready child err =
    whole_processes parts x request there given table processes memories call on done ordered ready child (unstarted_of call parts x request can)
whole_processes_if (Err error) parts x request there table processes memories call on can done ordered ready child err =
    subst IsValidSystem (λ k. record { tree = parts.tree; descriptors = sym err.0 k; processes = sym err.1.0 k; memories = sym err.1.1 k }) x

pub made_processes_if : {E : Type 0} (result : Result Outcome E) (parts : Parts) → IsValidSystem parts → (request : Request) → IsPid parts.processes request.pid → (table : Table) (processes : Processes) (memories : Memories) (call : SysCall)
    → IsOnProcesses call → CanMake call parts request → IfOk result (λ given. IsProcessCallExecuted call request given parts.descriptors parts.processes parts.memories table processes memories)
    → (AreOrdered parts.processes → AreOrdered processes)
    → ((tree : Tree) (pid : ℕ) → IsReady tree parts.descriptors parts.processes parts.memories pid → IsReady tree table processes memories pid)
    → (call ≡ Fork → OnOk result ((tree : Tree) → IsReady tree parts.descriptors parts.processes parts.memories request.pid → IsReady tree table processes memories (next_pid parts.processes)))
    → IfOk result (λ given. IsCallMade call request given parts (record { tree = parts.tree; descriptors = table; processes = processes; memories = memories }))
made_processes_if (Ok given) parts x request there table processes memories call on can done ordered ready child = λ i st y is starts seq.
    made call request given parts _ x.ordered (x.ready request.pid there).space
    (left_processes parts x request there given table processes memories call on done ordered ready child (unstarted_of call parts x request can)) i st y is starts seq
made_processes_if (Err error) parts x request there table processes memories call on can done ordered ready child = tt
