-- The calls on processes, ids and sockets: what each needs, and the system after a call.
use Rattle.std.specs.Prelude.{◌≡◌, ℕ, suc, ◌^◌, ◌-◌, ◌<◌, ◌==◌, if◌then◌else◌, true, false, [], None}
use Rattle.st_calls.specs.declared.call.SysCall.{SysCall}
use Rattle.st_calls.specs.declared.call.SysCall.TheVariants.{Fork, Exit, Kill, GetPid, GetUid, GetEuid, SetUid, SetEuid, SetGid, SetEgid, Socket, Bind, Connect}
use Rattle.st_memory.specs.Memory.{Memories, byte_in, is_space_live, next_space, ChangesLive}
use Rattle.st_model.specs.Descriptors.{Table, has_table}
use Rattle.st_model.specs.Processes.{Processes, IsPid, next_pid, pid_of, process_at}
use Rattle.st_effects.specs.Effect.{effect}
use Rattle.st_effects.specs.System as effects
use Rattle.st_request.specs.Outcome.{outcome_of, with_descriptors, with_memories, with_processes}
use Rattle.st_request.specs.declared.outcome.Outcome.{Outcome}
use Rattle.st_exec_sys.specs.Changes.{has_table_after, AreMemoriesAfter, AreProcessesAndThreadsAfter}
use Rattle.st_exec_sys.specs.Sockets.{HasPort}

-- a process has descriptors and a memory
pub record CanCall (descriptors : Table) (processes : Processes) (memories : Memories) (pid : ℕ) : Type 0 where
  pub table : has_table descriptors pid ≡ true
  pub process : IsPid processes pid
  pub space : is_space_live memories (process_at processes pid).space ≡ true

-- the thread of the child hasn't started, the next process has no descriptors, and numbers are left for processes and spaces
pub record CanFork (descriptors : Table) (processes : Processes) (memories : Memories) (request : effects.Request) : Type 0 where
  pub thread : pid_of processes request.child ≡ None
  pub table : has_table descriptors (next_pid processes) ≡ false
  pub pids : next_pid processes < 2 ^ 32 - 1
  pub spaces : next_space memories < 2 ^ 32

-- a call is made under the ids of its process
abbrev pub HasOwnIds : Processes → effects.Request → Type 0
HasOwnIds processes request = request.ids ≡ (process_at processes request.pid).ids

-- the call is one of these, and has what else it needs
abbrev pub CanMakeCall : SysCall → Table → Processes → Memories → effects.Request → Type 0
CanMakeCall Fork descriptors processes memories request = CanFork descriptors processes memories request
CanMakeCall Exit descriptors processes memories request = Unit {0}
CanMakeCall Kill descriptors processes memories request = Unit {0}
CanMakeCall GetPid descriptors processes memories request = Unit {0}
CanMakeCall GetUid descriptors processes memories request = Unit {0}
CanMakeCall GetEuid descriptors processes memories request = Unit {0}
CanMakeCall SetUid descriptors processes memories request = HasOwnIds processes request
CanMakeCall SetEuid descriptors processes memories request = HasOwnIds processes request
CanMakeCall SetGid descriptors processes memories request = HasOwnIds processes request
CanMakeCall SetEgid descriptors processes memories request = HasOwnIds processes request
CanMakeCall Socket descriptors processes memories request = Unit {0}
CanMakeCall Bind descriptors processes memories request = HasPort request
CanMakeCall Connect descriptors processes memories request = HasPort request
CanMakeCall _ descriptors processes memories request = ⊥

-- a call that reports who the process is
abbrev pub IsIdentityCall : SysCall → Type 0
IsIdentityCall GetPid = Unit {0}
IsIdentityCall GetUid = Unit {0}
IsIdentityCall GetEuid = Unit {0}
IsIdentityCall _ = ⊥

-- one more space exists, with the bytes of this space
pub record IsSpaceCopied (old : Memories) (from : ℕ) (new : Memories) : Type 0 where
  pub next : next_space new ≡ suc (next_space old)
  pub live : ChangesLive old (next_space old) true new
  pub bytes : (s b : ℕ) → byte_in new s b ≡ (if s == next_space old then byte_in old from b else byte_in old s b)

-- a call had its outcome over these parts of a system without held calls, and left the parts as its changes say
pub record IsProcessCallExecuted (call : SysCall) (request : effects.Request) (given : Outcome) (old_descriptors : Table) (old_processes : Processes) (old_memories : Memories) (new_descriptors : Table) (new_processes : Processes) (new_memories : Memories) : Type 0 where
  pub outcome : (system : effects.System) → system.held ≡ [] → outcome_of given new_descriptors ≡ effect (with_descriptors (with_processes (with_memories system old_memories) old_processes) old_descriptors) call request
  pub tables : (p : ℕ) → has_table new_descriptors p ≡ has_table_after p (has_table old_descriptors p) given.changes
  pub processes : AreProcessesAndThreadsAfter old_processes request.pid given.changes new_processes
  pub memories : AreMemoriesAfter old_memories (process_at old_processes request.pid).space given.changes new_memories
