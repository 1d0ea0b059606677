-- What has to hold of an input for a run to start: the laws hold of such inputs.
use Rattle.std.specs.Prelude.{◌≡◌, ◌≢◌, ◌≤◌, ◌<◌, ◌^◌, ℕ, List, length, take, slice_get, Option, Some, None}
use Rattle.std.specs.List.{All, fold}
use Rattle.st_calls.specs.declared.call.SysCall.TheVariants as calls
use Rattle.st_filter.specs.declared.filter.Action.TheVariants as action
use Rattle.st_names.specs.Name.{printed_name}
use Rattle.st_names.specs.declared.limits.TheConstants.{LONGEST_NAME}
use Rattle.st_model.specs.Adding.{add_refused}
use Rattle.st_model.specs.Tree.{root_only}
use Rattle.st_model.specs.declared.limits.TheConstants.{LONGEST_TEXT}
use Rattle.st_model.specs.declared.object.NewKind.{NewKind}
use Rattle.st_model.specs.declared.object.NewKind.TheVariants as kind
use Rattle.st_trace.specs.declared.start.Instr.{Instr}
use Rattle.st_trace.specs.declared.start.Instr.TheVariants.{Store, Call, Fork, Reload}
use Rattle.st_trace.specs.declared.start.TreeRow.{TreeRow}
use Rattle.st_law.specs.declared.input.Input.{Input}
use Rattle.st_law.specs.declared.input.Mode.TheVariants.{Learn}
use Rattle.st_law.specs.Processes.{process_count, tree_with_row}
use Rattle.st_law.specs.State.{thread_count}
use Rattle.st_law.specs.Threads.{first_owner}

-- a thread starts in one of this many processes, or by a fork
abbrev pub HasProcess : ℕ → Option ℕ → Type 0
HasProcess count None = Unit {0}
HasProcess count (Some p) = (1 ≤ p) × (p ≤ count)

-- a number is that of a thread of the script
abbrev pub IsThread : Input → ℕ → Type 0
IsThread i t = (1 ≤ t) × (t ≤ thread_count i)

-- a number is that of a policy of the script
abbrev pub IsBlock : Input → ℕ → Type 0
IsBlock i n = (1 ≤ n) × (n ≤ length i.policies.blocks)

-- an instruction that forks names the thread that it starts, and no call instruction is a fork; a reload names a policy of the script, and
-- there is none in a run that learns
abbrev pub IsInstruction : Input → Instr → Type 0
IsInstruction i (Store place word) = Unit {0}
IsInstruction i (Call call regs) = call ≢ calls.Fork
IsInstruction i (Fork child) = IsThread i child
IsInstruction i (Reload n) = IsBlock i n × (i.options.mode ≢ Learn)

-- a new object is no link, or a link whose target isn't too long
abbrev pub HasShortTarget : NewKind → Type 0
HasShortTarget kind.Dir = Unit {0}
HasShortTarget (kind.File content) = Unit {0}
HasShortTarget (kind.Link target) = length target ≤ LONGEST_TEXT

-- an input that a run can start with
pub record IsStartable (i : Input) : Type 0 where
  pub some_worker : 1 ≤ i.options.workers
  pub few_workers : i.options.workers ≤ 8
  pub few_threads : thread_count i ≤ 64
  pub processes : All (λ row. HasProcess (process_count i) row.process) i.start.threads
  pub bodies : All (λ row. All (IsInstruction i) row.body) i.start.threads
  pub replies : All (λ reply. reply.filter.action ≢ action.Ask) i.replies
  pub targets : All (λ row. HasShortTarget row.new.kind) i.start.tree

-- ---- the system that a run starts with

-- each row can be put into the tree of the rows before it, and isn't refused
abbrev pub CanStand : List TreeRow → Type 0
CanStand rows = (k : ℕ) (row : TreeRow) → slice_get rows k ≡ Some row → add_refused (fold tree_with_row root_only (take k rows)) row.name ≡ None

-- an input whose system can be built: nothing refuses its rows, and they have the numbers that they need
pub record CanStart (i : Input) : Type 0 where
  pub tree : CanStand i.start.tree
  pub few_processes : process_count i < 2 ^ 31
  pub few_threads : thread_count i < 2 ^ 31
  pub owners : (t : ℕ) → first_owner i t ≤ process_count i
  pub short : All (λ row. length (printed_name row.cwd) ≤ LONGEST_NAME) i.start.processes
