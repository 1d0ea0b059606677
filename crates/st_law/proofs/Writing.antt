-- Short notations for inputs and traces, so that a computed run reads like its script and its trace.
use Prim.Native.String.{String}
use Rattle.std.proofs.Common.{ℕ, zero, suc, ◌+◌, Bool, true, false, List, [], ◌∷◌, ◌++◌, Option, Some, None, codes}
use Rattle.std.specs.Prelude.{◌/◌, take, drop, length, replicate}
use Rattle.std.specs.Int.{w64, from_le_bytes}
use Rattle.st_base.specs.declared.errno.Errno.{Errno}
use Rattle.st_base.specs.declared.ids.Ids.{Ids}
use Rattle.st_calls.specs.declared.argument.ArgText.{ArgText}
use Rattle.st_calls.specs.declared.argument.Label.{Label}
use Rattle.st_calls.specs.declared.call.SysCall.{SysCall}
use Rattle.st_calls.specs.declared.judged.Snapshot.{Snapshot}
use Rattle.st_calls.specs.declared.rule.Rule.{Rule}
use Rattle.st_filter.specs.Formula.{Formula, True, Test, FilterValue}
use Rattle.st_filter.specs.declared.filter.Action.{Action}
use Rattle.st_filter.specs.declared.filter.Action.TheVariants as action
use Rattle.st_filter.specs.declared.filter.FilterName.TheVariants as filter_name
use Rattle.st_filter.specs.declared.filter.Op.{Op}
use Rattle.st_filter.specs.declared.filter.Predicate.{Predicate}
use Rattle.st_filter.specs.declared.set.BinaryPolicy.{BinaryPolicy}
use Rattle.st_filter.specs.declared.set.Reply.{Reply}
use Rattle.st_model.specs.declared.object.NewKind.{NewKind}
use Rattle.st_model.specs.declared.object.NewKind.TheVariants as kind
use Rattle.st_names.specs.Name.{Components, components_of}
use Rattle.st_trace.specs.declared.entry.Choice.{Choice}
use Rattle.st_trace.specs.declared.entry.Choice.TheVariants as choice
use Rattle.st_trace.specs.declared.entry.Entry.{Entry}
use Rattle.st_trace.specs.declared.start.Instr.{Instr}
use Rattle.st_trace.specs.declared.start.Instr.TheVariants.{Store, Call}
use Rattle.st_trace.specs.declared.start.ProcessRow.{ProcessRow}
use Rattle.st_trace.specs.declared.start.ThreadRow.{ThreadRow}
use Rattle.st_trace.specs.declared.start.TreeRow.{TreeRow}
use Rattle.st_law.specs.declared.input.Input.{Input}
use Rattle.st_law.specs.declared.input.Mode.{Mode}
use Rattle.st_law.specs.declared.input.Options.{Options}
use Rattle.st_law.specs.declared.input.ScheduleLine.{ScheduleLine}
use Rattle.st_law.specs.declared.input.What.TheVariants.{Choose, Rest}
use Rattle.st_law.specs.Machine.{run}
use Rattle.st_law.specs.Schedules.{ScheduleOutcome, Choices, BadLine, played}

-- ---- scripts

abbrev pub name : String → Components
name text = components_of (codes text)

abbrev pub object : String → NewKind → ℕ → ℕ → ℕ → TreeRow
object text kind uid gid mode = record { name = name text; new = record { kind = kind; uid = uid; gid = gid; mode = mode } }

-- a directory, a file and a link: name, owner, group, mode in decimal, and content or target
abbrev pub dir : String → ℕ → ℕ → ℕ → TreeRow
dir text uid gid mode = object text kind.Dir uid gid mode

abbrev pub file : String → ℕ → ℕ → ℕ → List ℕ → TreeRow
file text uid gid mode content = object text (kind.File content) uid gid mode

abbrev pub link : String → ℕ → ℕ → String → TreeRow
link text uid gid target = object text (kind.Link (codes target)) uid gid 511

abbrev pub process : Bool → String → ℕ → ℕ → String → ProcessRow
process traced binary uid gid cwd = record { traced = traced; binary = codes binary; uid = uid; gid = gid; cwd = name cwd }

abbrev pub traced : String → ℕ → ℕ → String → ProcessRow
traced = process true

abbrev pub untraced : String → ℕ → ℕ → String → ProcessRow
untraced = process false

-- a thread that starts in a process, and one that a fork starts
abbrev pub thread_in : ℕ → List Instr → ThreadRow
thread_in p body = record { process = Some p; body = body }

abbrev pub forked_thread : List Instr → ThreadRow
forked_thread body = record { process = None; body = body }

-- the stores of `count` words of these bytes, from a word index on
abbrev pub stores_of : ℕ → ℕ → List ℕ → List Instr
stores_of zero place bytes = []
stores_of (suc count) place bytes = Store place (from_le_bytes w64 (take 8 (bytes ++ replicate 8 0))) ∷ stores_of count (suc place) (drop 8 bytes)

-- the stores of a text and a zero byte, from byte `at` on
abbrev pub put_bytes : ℕ → List ℕ → List Instr
put_bytes at bytes = stores_of (length bytes / 8 + 1) (at / 8) bytes

abbrev pub put : ℕ → String → List Instr
put at text = put_bytes at (codes text)

-- six registers that begin with these three
abbrev pub regs : ℕ → ℕ → ℕ → List ℕ
regs a b c = a ∷ b ∷ c ∷ 0 ∷ 0 ∷ 0 ∷ []

abbrev pub call : SysCall → ℕ → ℕ → ℕ → Instr
call made a b c = Call made (regs a b c)

-- ---- policies

abbrev pub policy : String → List FilterValue → BinaryPolicy
policy binary filters = record { binary = codes binary; filters = filters }

-- a filter of a rule, with its expression and action
abbrev pub when : Rule → Formula → Action → FilterValue
when rule formula action =
    record { name = filter_name.Rule rule; formula = formula; action = action; grant = None; log = false; predicate = None }

abbrev pub permits : Rule → FilterValue
permits rule = when rule True action.Permit

abbrev pub denies : Rule → Errno → FilterValue
denies rule errno = when rule True (action.Deny errno)

abbrev pub logged : FilterValue → FilterValue
logged f = record f { log = true }

abbrev pub only_if : Predicate → FilterValue → FilterValue
only_if predicate f = record f { predicate = Some predicate }

abbrev pub granting : Option ℕ → Option ℕ → FilterValue → FilterValue
granting user group f = record f { grant = Some (record { user = user; group = group }) }

-- a test of an argument
abbrev pub test : String → Op → String → Formula
test label op text = Test (codes label) 0 op (codes text)

abbrev pub reply : String → FilterValue → Reply
reply binary filter = record { binary = codes binary; filter = filter }

-- ---- options

-- a mode with one worker, aliasing, and no other option
abbrev pub plainly : Mode → Options
plainly mode = record { mode = mode; inherit = false; aliasing = true; ids = None; workers = 1 }

abbrev pub input : Options → List BinaryPolicy → List TreeRow → List ProcessRow → List ThreadRow → List Reply → Input
input options policies tree processes threads replies = record {
  policies = record { read = policies; blocks = [] };
  start = record { users = []; groups = []; tree = tree; processes = processes; threads = threads };
  replies = replies;
  options = options;
}

-- the same with policies of the script
abbrev pub with_blocks : List BinaryPolicy → Input → Input
with_blocks blocks i = record i { policies = record { read = i.policies.read; blocks = blocks } }

-- ---- schedules

abbrev pub line : Choice → ℕ → ScheduleLine
line c count = record { what = Choose c; count = count; line = 0 }

abbrev pub thread : ℕ → ℕ → ScheduleLine
thread t count = line (choice.Thread t) count

abbrev pub worker : ℕ → ℕ → ScheduleLine
worker w count = line (choice.Worker w) count

abbrev pub operator : ℕ → ScheduleLine
operator count = line choice.Operator count

abbrev pub rest : ScheduleLine
rest = record { what = Rest; count = 1; line = 0 }

-- the trace of a schedule's outcome, none if a choice isn't enabled
abbrev pub trace_of_outcome : Input → ScheduleOutcome → Option (List Entry)
trace_of_outcome i (Choices choices) = Some (run i choices)
trace_of_outcome i (BadLine bad) = None

abbrev pub trace : Input → List ScheduleLine → Option (List Entry)
trace i lines = trace_of_outcome i (played i (record { lines = lines; bad = None }))

-- ---- traces

abbrev pub ids : ℕ → ℕ → ℕ → ℕ → Ids
ids ruid euid rgid egid = record { ruid = ruid; euid = euid; rgid = rgid; egid = egid }

abbrev pub arg : Label → ℕ → String → ArgText
arg label index text = record { label = label; index = index; text = codes text }

abbrev pub copies : ℕ → ℕ → Ids → String → Rule → SysCall → List ℕ → List ArgText → Snapshot
copies seq pid ids policy rule call regs parts =
    record { seq = seq; pid = pid; ids = ids; policy = codes policy; version = 0; rule = rule; call = call; regs = regs; parts = parts }

-- the same copies at a version of their policy
abbrev pub at_version : ℕ → Snapshot → Snapshot
at_version version s = record s { version = version }
