-- What an audit needs of a process, and of the calls that threads have entered, after an entry.
use Rattle.std.proofs.Common.{◌≡◌, ℕ, Bool, true, false, cond, ◌==◌, List, [], ◌∷◌, Option, None, option_map, refl, ap, ◌∙◌}
use Rattle.std.proofs.lemmas.Bool.{or_parts}
use Rattle.std.specs.List.{fold, list_any}
use Rattle.st_effects.specs.Changes.{process_after, process_after_change}
use Rattle.st_model.specs.Process.{Process}
use Rattle.st_trace.specs.declared.entry.Change.{Change}
use Rattle.st_trace.specs.declared.entry.Change.TheVariants.{Made, Linked, Removed, Renamed, Written, Cut, Moded, Owned, Put, Forked, Execed, SetIds, Cwd, Dying, Renewed, Policy}
use Rattle.st_trace.specs.declared.entry.Entry.{Entry}
use Rattle.st_trace.specs.declared.entry.Entry.TheVariants.{Stored, Entered, Claimed, Copied, Looked, Faulted, Answered, Used, Denied, Ended, Replied, Learned, Reloaded}
use Rattle.st_trace.specs.declared.start.Instr.{Instr}
use Rattle.st_law.specs.Threads.{PendingCall, pending_after}
use Rattle.st_audit.specs.Ledger.{entered_after}
use Rattle.st_audit.specs.Rows.{Row, changes_row, entered_call, row_after, row_after_change, printed_row}

-- ---- rows

either_row : (b : Bool) (p q : Process) → printed_row (cond b p q) ≡ cond b (printed_row p) (printed_row q)
either_row true p q = refl
either_row false p q = refl

same_row : (b : Bool) (p q : Process) → printed_row p ≡ printed_row q → printed_row (cond b p q) ≡ printed_row q
same_row true p q e = e
same_row false p q e = refl

module _ (processes : ℕ → Process) (m p : ℕ) where
  row_changed : (before : Process) (c : Change) → printed_row (process_after_change processes m p before c) ≡ row_after_change (printed_row (processes m)) m p (printed_row before) c
  row_changed before (Forked pid space tid) = either_row (pid == p) (record (processes m) { space = space }) before
  row_changed before (Execed binary space) = same_row (m == p) (record before { space = space }) before refl
  row_changed before (SetIds ids) = same_row (m == p) (record before { ids = ids }) before refl
  row_changed before (Cwd name) = same_row (m == p) (record before { cwd = name }) before refl
  row_changed before (Policy binary) = either_row (m == p) (record before { policy = binary }) before
  row_changed before (Made name obj kind uid gid mode) = refl
  row_changed before (Linked name obj) = refl
  row_changed before (Removed name) = refl
  row_changed before (Renamed old new) = refl
  row_changed before (Written obj at bytes) = refl
  row_changed before (Cut obj len) = refl
  row_changed before (Moded obj mode) = refl
  row_changed before (Owned obj uid gid) = refl
  row_changed before (Put space at bytes) = refl
  row_changed before (Dying pid) = refl
  row_changed before (Renewed old new) = refl

  rows_changed : (before : Process) (changes : List Change) → printed_row (fold (process_after_change processes m p) before changes) ≡ row_after (printed_row (processes m)) m p (printed_row before) changes
  rows_changed before [] = refl
  rows_changed before (c ∷ changes) =
      rows_changed (process_after_change processes m p before c) changes ∙ ap (λ row. row_after (printed_row (processes m)) m p row changes) (row_changed before c)

pub row_of_changed : (processes : ℕ → Process) (m p : ℕ) (changes : List Change) → printed_row (process_after processes m p changes) ≡ row_after (printed_row (processes m)) m p (printed_row (processes p)) changes
row_of_changed processes m p changes = rows_changed processes m p (processes p) changes

-- changes that give no process another row leave each row as it is
row_left : (parent : Row) (m p : ℕ) (before : Row) (c : Change) → changes_row c ≡ false → row_after_change parent m p before c ≡ before
row_left parent m p before (Forked pid space tid) none = cc
row_left parent m p before (Policy binary) none = cc
row_left parent m p before (Execed binary space) none = refl
row_left parent m p before (SetIds ids) none = refl
row_left parent m p before (Cwd name) none = refl
row_left parent m p before (Made name obj kind uid gid mode) none = refl
row_left parent m p before (Linked name obj) none = refl
row_left parent m p before (Removed name) none = refl
row_left parent m p before (Renamed old new) none = refl
row_left parent m p before (Written obj at bytes) none = refl
row_left parent m p before (Cut obj len) none = refl
row_left parent m p before (Moded obj mode) none = refl
row_left parent m p before (Owned obj uid gid) none = refl
row_left parent m p before (Put space at bytes) none = refl
row_left parent m p before (Dying pid) none = refl
row_left parent m p before (Renewed old new) none = refl

pub rows_left : (parent : Row) (m p : ℕ) (before : Row) (changes : List Change) → list_any changes_row changes ≡ false → row_after parent m p before changes ≡ before
rows_left parent m p before [] none = refl
rows_left parent m p before (c ∷ changes) none =
    let both = or_parts (changes_row c) (list_any changes_row changes) none in
    ap (λ row. row_after parent m p row changes) (row_left parent m p before c both.0) ∙ rows_left parent m p before changes both.1

-- ---- calls that were entered

either_call : (b : Bool) (o q : Option PendingCall) → option_map entered_call (cond b o q) ≡ cond b (option_map entered_call o) (option_map entered_call q)
either_call true o q = refl
either_call false o q = refl

pub entered_changed : (e : Entry) (t : ℕ) (left : List Instr) (before : Option PendingCall) → option_map entered_call (pending_after e t left before) ≡ entered_after e t (option_map entered_call before)
entered_changed (Entered u call regs way) t left before = either_call (u == t) _ before
entered_changed (Used u seq call regs args ids result changes) t left before = either_call (u == t) None before
entered_changed (Denied u seq errno cause) t left before = either_call (u == t) None before
entered_changed (Stored u place word) t left before = refl
entered_changed (Claimed w q) t left before = refl
entered_changed (Copied q part place word) t left before = refl
entered_changed (Looked q part name seen) t left before = refl
entered_changed (Faulted q errno) t left before = refl
entered_changed (Answered w s v applied) t left before = refl
entered_changed (Ended u) t left before = refl
entered_changed (Replied q reply n) t left before = refl
entered_changed (Learned q n) t left before = refl
entered_changed (Reloaded u policy done changes) t left before = refl
