-- How steps change the system, compared with how their entries change the state of the law's machine.
use Rattle.std.specs.Prelude.{◌≡◌, ◌<◌, ◌^◌, ◌-◌, ℕ, suc, if◌then◌else◌, List, [], ◌++◌, Option}
use Rattle.st_calls.specs.Call.{sets_ids}
use Rattle.st_calls.specs.declared.call.SysCall.{SysCall}
use Rattle.st_calls.specs.declared.call.SysCall.TheVariants.{Fork, Execve, Exit, Kill, GetPid, GetUid, GetEuid, SetUid, SetEuid, SetGid, SetEgid, Socket, Bind, Connect}
use Rattle.st_memory.specs.Memory.{next_space}
use Rattle.st_model.specs.Processes.{next_pid, owner_of}
use Rattle.st_effects.specs.Effect.{effect}
use Rattle.st_effects.specs.Processes.{renewals}
use Rattle.st_effects.specs.System as effects
use Rattle.st_effects.specs.System.{Request}
use Rattle.st_trace.specs.declared.entry.CallResult.{CallResult}
use Rattle.st_trace.specs.declared.entry.CallResult.TheVariants.{Value, Failed}
use Rattle.st_trace.specs.declared.entry.Change.{Change}
use Rattle.st_trace.specs.declared.entry.Entry.TheVariants.{Used}
use Rattle.st_request.specs.declared.outcome.Outcome.{Outcome}
use Rattle.st_exec_sys.specs.Execution.{HasOwnIds}
use Rattle.st_law.specs.declared.input.Input.{Input}
use Rattle.st_law.specs.Inputs.{IsThread}
use Rattle.st_law.specs.Machine.{state_after}
use Rattle.st_law.specs.State.{State, held_from, request_of, system_of, thread_count}
use Rattle.st_system.specs.Fit.{AreFit}
use Rattle.st_system.specs.System.{IsSystem, Parts}

-- ---- preconditions of a call

-- a request is that of its thread, by the state
abbrev pub IsRequest : Input → State → Request → Type 0
IsRequest i st request = request ≡ request_of i st request.tid request.regs request.args request.ids

-- the thread that a fork starts is one of the script's
abbrev pub HasChild : Input → SysCall → Request → Type 0
HasChild i Fork request = IsThread i request.child
HasChild i _ request = Unit {0}

-- the thread of the child has no process yet, and numbers are left for its process and its memory
pub record HasRoomForChild (parts : Parts) (request : Request) : Type 0 where
  pub thread : owner_of parts.processes request.child ≡ 0
  pub pids : next_pid parts.processes < 2 ^ 32 - 1
  pub spaces : next_space parts.memories < 2 ^ 32

-- the precondition of each call: numbers are left, the ids are the process's own, or the arguments are fit
abbrev pub CanMake : SysCall → Parts → Request → Type 0
CanMake Fork parts request = HasRoomForChild parts request
CanMake Execve parts request = next_space parts.memories < 2 ^ 32
CanMake SetUid parts request = HasOwnIds parts.processes request
CanMake SetEuid parts request = HasOwnIds parts.processes request
CanMake SetGid parts request = HasOwnIds parts.processes request
CanMake SetEgid parts request = HasOwnIds parts.processes request
CanMake call parts request = AreFit call request.args

-- a call on processes, ids and sockets
abbrev pub IsOnProcesses : SysCall → Type 0
IsOnProcesses Fork = Unit {0}
IsOnProcesses Exit = Unit {0}
IsOnProcesses Kill = Unit {0}
IsOnProcesses GetPid = Unit {0}
IsOnProcesses GetUid = Unit {0}
IsOnProcesses GetEuid = Unit {0}
IsOnProcesses SetUid = Unit {0}
IsOnProcesses SetEuid = Unit {0}
IsOnProcesses SetGid = Unit {0}
IsOnProcesses SetEgid = Unit {0}
IsOnProcesses Socket = Unit {0}
IsOnProcesses Bind = Unit {0}
IsOnProcesses Connect = Unit {0}
IsOnProcesses _ = ⊥

-- ---- after a call

-- the system that a call finds, without the held calls
abbrev pub unheld_system : Input → State → effects.System
unheld_system i st = record (system_of i st) { held = [] }

-- the renewals of the process's held calls, if it has set its ids
abbrev pub renewals_of : Input → State → Request → CallResult → List Change
renewals_of i st request (Value n) = renewals request.pid request.tid (suc st.posted) (held_from st 1 (thread_count i))
renewals_of i st request (Failed errno) = []

-- the changes of a call in its entry: the renewals are appended to those of a call that sets ids
abbrev pub with_renewals : Input → State → SysCall → Request → CallResult → List Change → List Change
with_renewals i st call request result changes = if sets_ids call then changes ++ renewals_of i st request result else changes

-- the effect of a call over the system is its effect without the held calls, with their renewals appended to the changes
pub record AppendsRenewals (i : Input) (st : State) (call : SysCall) (request : Request) : Type 0 where
  pub result : (effect (system_of i st) call request).result ≡ (effect (unheld_system i st) call request).result
  pub changes : (effect (system_of i st) call request).changes
      ≡ with_renewals i st call request (effect (unheld_system i st) call request).result (effect (unheld_system i st) call request).changes
  pub descriptors : (effect (system_of i st) call request).descriptors ≡ (effect (unheld_system i st) call request).descriptors

-- a call has the result and, except for renewals, the changes of its effect, and the parts represent the state after the entry by which it
-- is made
pub record IsMade (i : Input) (st : State) (seq : Option ℕ) (call : SysCall) (request : Request) (outcome : Outcome) (parts : Parts) : Type 0 where
  pub result : outcome.result ≡ (effect (system_of i st) call request).result
  pub changes : with_renewals i st call request outcome.result outcome.changes ≡ (effect (system_of i st) call request).changes
  pub system : IsSystem i (state_after i st (Used request.tid seq call request.regs request.args request.ids outcome.result (with_renewals i st call request outcome.result outcome.changes))) parts

-- a call was made over the old parts and led to the new parts, whatever the state is that the old parts represent
abbrev pub IsCallMade : SysCall → Request → Outcome → Parts → Parts → Type 0
IsCallMade call request outcome old new =
    (i : Input) (st : State) → IsSystem i st old → IsRequest i st request → HasChild i call request → (seq : Option ℕ) → IsMade i st seq call request outcome new
