-- The directories of processes have names that aren't too long, also after the changes of a call.
use Rattle.std.proofs.Common.{ℕ, Bool, true, false, cond, ◌==◌, List, [], ◌∷◌}
use Rattle.std.specs.List.{fold}
pub use Rattle.st_names.specs.Name.{IsShort}
use Rattle.st_model.specs.Process.{Process}
use Rattle.st_effects.specs.Changes.{process_after, process_after_change}
use Rattle.st_trace.specs.declared.entry.Change.{Change}
use Rattle.st_trace.specs.declared.entry.Change.TheVariants.{Made, Linked, Removed, Renamed, Written, Cut, Moded, Owned, Put, Forked, Execed, SetIds, Cwd, Dying, Renewed, Policy}
use Rattle.st_exec_fs.proofs.Changed.{Each}

-- a directory that a change gives a process has such a name
abbrev pub IsShortMove : Change → Type 0
IsShortMove (Cwd name) = IsShort name
IsShortMove _ = Unit {0}

module _ (processes : ℕ → Process) (short : (p : ℕ) → IsShort (processes p).cwd) (m p : ℕ) where
  -- a process is unchanged, or has another row
  one_of_two : (b : Bool) (row before : Process) → IsShort row.cwd → IsShort before.cwd → IsShort (cond b row before).cwd
  one_of_two true row before x y = x
  one_of_two false row before x y = y

  short_step : (before : Process) (c : Change) → IsShort before.cwd → IsShortMove c → IsShort (process_after_change processes m p before c).cwd
  short_step before (Made name obj kind uid gid mode) x y = x
  short_step before (Linked name obj) x y = x
  short_step before (Removed name) x y = x
  short_step before (Renamed old new) x y = x
  short_step before (Written obj at bytes) x y = x
  short_step before (Cut obj len) x y = x
  short_step before (Moded obj mode) x y = x
  short_step before (Owned obj uid gid) x y = x
  short_step before (Put space at bytes) x y = x
  short_step before (Forked pid space tid) x y = one_of_two (pid == p) (record (processes m) { space = space }) before (short m) x
  short_step before (Execed binary space) x y = one_of_two (m == p) (record before { space = space }) before x x
  short_step before (SetIds ids) x y = one_of_two (m == p) (record before { ids = ids }) before x x
  short_step before (Cwd name) x y = one_of_two (m == p) (record before { cwd = name }) before y x
  short_step before (Dying pid) x y = x
  short_step before (Renewed old new) x y = x
  short_step before (Policy binary) x y = one_of_two (m == p) (record before { policy = binary }) before x x

  short_from : (before : Process) (changes : List Change) → IsShort before.cwd → Each IsShortMove changes → IsShort (fold (process_after_change processes m p) before changes).cwd
  short_from before [] x each = x
  short_from before (c ∷ changes) x each = short_from (process_after_change processes m p before c) changes (short_step before c x each.0) each.1

  pub short_after : (changes : List Change) → Each IsShortMove changes → IsShort (process_after processes m p changes).cwd
  short_after changes each = short_from (processes p) changes (short p) each
