-- The stores of a script's bodies are in memory.
use Rattle.std.proofs.Common.{ℕ, zero, suc, ◌+◌, ◌*◌, ◌^◌, ◌-◌, ◌<◌, ◌≤◌, Bool, true, false, if◌then◌else◌, List, [], ◌∷◌, ◌++◌, length, map, Option, Some, None, arith}
use Rattle.std.proofs.Math.Nat.{min-le_left}
use Rattle.std.proofs.lemmas.List.Elements.{All-append, All-from_recursion}
use Rattle.std.specs.List.{All, AllByRecursion, range_with_len}
use Rattle.std.specs.Prelude.{IfSome}
use Rattle.st_model.specs.declared.limits.TheConstants.{SPACE_BYTES, SPACE_WORDS}
use Rattle.st_reached.specs.Scripts.{IsInMemory}
use Rattle.st_script_faults.specs.Faults.{ends_body}
use Rattle.st_script_names.specs.Names.{Name, store_count}
use Rattle.st_statements.specs.Lines.{saturated}
use Rattle.st_statements.specs.declared.statement.ScriptLine.{ScriptLine}
use Rattle.st_statements.specs.declared.statement.Statement.{Statement}
use Rattle.st_statements.specs.declared.statement.Statement.TheVariants as says
use Rattle.st_trace.specs.declared.start.Instr.{Instr}
use Rattle.st_trace.specs.declared.start.ThreadRow.{ThreadRow}
use Rattle.st_script.specs.Reading.{BodyNames, body_in, instructions_said, store_of, stores, thread_said, threads_in}
use Rattle.st_script.proofs.Counted.{threads_with}
use Rattle.st_script.proofs.Said.{AreSaid, IsSaid}

-- each store of a text that fits into memory, with its zero byte, is in memory
store_within : (first k : ℕ) (bytes : List ℕ) → 8 * first + length bytes < SPACE_BYTES → k < store_count bytes → saturated (first + k) < SPACE_WORDS
store_within first k bytes within few = let most = min-le_left (first + k) (2 ^ 32 - 1) in omega (arith, within, few, most)

stores_from : (first : ℕ) (bytes : List ℕ) → 8 * first + length bytes < SPACE_BYTES → (from count : ℕ) → from + count ≤ store_count bytes → AllByRecursion IsInMemory (map (store_of first bytes) (range_with_len from count))
stores_from first bytes within from zero few = tt
stores_from first bytes within from (suc count) few = (store_within first from bytes within (omega (arith, few)), stores_from first bytes within (from + 1) count (omega (arith, few)))

stores_within : (first : ℕ) (bytes : List ℕ) → 8 * first + length bytes < SPACE_BYTES → AllByRecursion IsInMemory (stores first bytes)
stores_within first bytes within = stores_from first bytes within 0 (store_count bytes) (omega arith)

said_within : (threads : BodyNames) (o : Option Statement) → IfSome o IsSaid → AllByRecursion IsInMemory (instructions_said threads o)
said_within threads None said = tt
said_within threads (Some (says.Store place word)) said = (said, tt)
said_within threads (Some (says.Put place bytes)) said = stores_within place bytes said
said_within threads (Some (says.Call call regs)) said = (tt, tt)
said_within threads (Some (says.Fork name)) said = (tt, tt)
said_within threads (Some (says.Reload name)) said = (tt, tt)
said_within threads (Some s) said = tt

body_by : (b : Bool) (here below : List Instr) → All IsInMemory here → All IsInMemory below → All IsInMemory (if b then [] else here ++ below)
body_by true here below first rest = All-from_recursion IsInMemory [] tt
body_by false here below first rest = All-append IsInMemory here below first rest

body_within : (threads : BodyNames) (lines : List ScriptLine) → AreSaid lines → All IsInMemory (body_in threads lines)
body_within threads [] said = All-from_recursion IsInMemory [] tt
body_within threads (line ∷ lines) said =
    body_by (ends_body line) (instructions_said threads line.says) (body_in threads lines) (All-from_recursion IsInMemory (instructions_said threads line.says) (said_within threads line.says said.0)) (body_within threads lines said.1)

abbrev StoresWithin : ThreadRow → Type 0
StoresWithin row = All IsInMemory row.body

threads_by : (ps : List Name) (ts : BodyNames) (lines : List ScriptLine) (o : Option (Option Name)) → All IsInMemory (body_in ts lines) → AllByRecursion StoresWithin (threads_in ps ts lines) → AllByRecursion StoresWithin (threads_with ps ts lines o)
threads_by ps ts lines None body rest = rest
threads_by ps ts lines (Some process) body rest = (body, rest)

-- the stores of a script's threads are in memory
pub stores_in_memory : (ps : List Name) (ts : BodyNames) (lines : List ScriptLine) → AreSaid lines → AllByRecursion StoresWithin (threads_in ps ts lines)
stores_in_memory ps ts [] said = tt
stores_in_memory ps ts (line ∷ lines) said = threads_by ps ts lines (thread_said line.says) (body_within ts lines said.1) (stores_in_memory ps ts lines said.1)
