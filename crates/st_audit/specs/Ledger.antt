-- What is kept of a run to print its audit.
use Rattle.std.specs.Prelude.{◌≡◌, ℕ, ◌==◌, if◌then◌else◌, List, Option, Some, None}
use Rattle.std.specs.BTreeMap.{BTreeMap, get}
use Rattle.std.specs.Ordering.{nat_cmp}
use Rattle.st_emulation.specs.declared.emulation.Emulation.{Emulation}
use Rattle.st_filter.specs.Policies.{PoliciesValue}
use Rattle.st_trace.specs.declared.entry.Entry.{Entry}
use Rattle.st_trace.specs.declared.entry.Entry.TheVariants.{Entered, Used, Denied}
use Rattle.st_law.specs.declared.input.Input.{Input}
use Rattle.st_law.specs.Processes.{first_process}
use Rattle.st_law.specs.Sessions.{SessionFilter}
use Rattle.st_law.specs.Threads.{History, first_owner, owner_at}
use Rattle.st_audit.specs.declared.entered.EnteredCall.{EnteredCall}
use Rattle.st_audit.specs.declared.ledger.Ledger.{Ledger}
use Rattle.st_audit.specs.AuditText.{line_by}
use Rattle.st_audit.specs.Rows.{Row, entered_at, row_at, printed_row}
use Rattle.st_audit.specs.FromHistory.{Answer, applied_answer, decided_from_history}

-- what a map has for a number, otherwise what was there at first
abbrev pub found_or : {X : Type 0} → X → Option X → X
found_or first None = first
found_or first (Some found) = found

-- ---- the processes of threads

-- the process of a thread; the map has the threads that were forked
abbrev pub owner_in : Input → BTreeMap ℕ ℕ → ℕ → ℕ
owner_in i owners t = found_or (first_owner i t) (get nat_cmp owners t)

-- ---- the rows of processes

-- the row of a process; the map has the rows that were changed
abbrev pub row_in : Input → BTreeMap ℕ Row → ℕ → Row
row_in i rows p = found_or (printed_row (first_process i p)) (get nat_cmp rows p)

-- ---- the calls that threads have entered

-- the call that a thread has entered, after an entry
abbrev pub entered_after : Entry → ℕ → Option EnteredCall → Option EnteredCall
entered_after (Entered u call regs way) t before = if u == t then Some (record { call = call; regs = regs }) else before
entered_after (Used u seq call regs args ids result changes) t before = if u == t then None else before
entered_after (Denied u seq errno cause) t before = if u == t then None else before
entered_after _ t before = before

-- what the map has for a thread
abbrev pub entered_in : BTreeMap ℕ EnteredCall → ℕ → Option EnteredCall
entered_in entered t = get nat_cmp entered t

-- ---- answers

-- what the map has for a number
abbrev pub recorded_answer : BTreeMap ℕ Answer → ℕ → Option Answer
recorded_answer answers n = get nat_cmp answers n

-- ---- all of it

-- the ledger of a history of numbers has what looking back says of threads and processes, and what the entries record of held calls
pub record IsLedger (i : Input) (ledger : Ledger) (h : History) : Type 0 where
  pub owners : (t : ℕ) → owner_in i ledger.owners t ≡ owner_at i h t
  pub rows : (p : ℕ) → row_in i ledger.rows p ≡ row_at i h p
  pub entered : (t : ℕ) → entered_in ledger.entered t ≡ entered_at i h t
  pub answers : (n : ℕ) → recorded_answer ledger.answers n ≡ applied_answer h n

-- what an entry prints, by the policies of a run, by a session and by a ledger
abbrev pub kept_line : Input → PoliciesValue → List SessionFilter → Ledger → Entry → Emulation → List ℕ
kept_line i policies session ledger e emulation =
    line_by i (owner_in i ledger.owners) (row_in i ledger.rows) (entered_in ledger.entered)
    (λ n. decided_from_history policies session (recorded_answer ledger.answers n)) e emulation
