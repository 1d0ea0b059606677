-- The invariant of tables of descriptors, and how calls change which tables and descriptors exist.
use Rattle.std.specs.Prelude.{◌≡◌, ℕ, ◌<◌, length, All, Bool, true, if◌then◌else◌, ◌==◌, List, Option, Some, None, is_some}
use Rattle.std.specs.Map.{values_of}
use Rattle.std.specs.List.Sorted.{IsStrictlySortedBy}
use Rattle.std.specs.Map.{keys_of}
use Rattle.std.specs.Ordering.{nat_cmp}
use Rattle.st_model.specs.DescriptorCalls.{table_after_open}
use Rattle.st_model.specs.Descriptors.{Table, has_table, file_at, least_free}
use Rattle.st_model.specs.declared.open_file.OpenFile.{OpenFile}
use Rattle.st_model.specs.declared.open_file.TheConstants.{DESCRIPTORS}

-- a place is free, or has the number of one of `count` open files
abbrev pub IsDescriptorPlace : ℕ → Option ℕ → Type 0
IsDescriptorPlace count None = Unit {0}
IsDescriptorPlace count (Some number) = number < count

-- a process has 64 places, each of them free or with the number of an open file
abbrev pub ArePlaces : ℕ → List (Option ℕ) → Type 0
ArePlaces count places = (length places ≡ DESCRIPTORS) × All (IsDescriptorPlace count) places

-- the places of each process are such
abbrev pub IsValidTable : List (ℕ × List (Option ℕ)) → ℕ → Type 0
IsValidTable processes count = All (ArePlaces count) (values_of processes)

-- the same processes have a table before and after
abbrev pub KeepsTables : Table → Table → Type 0
KeepsTables old new = (pid : ℕ) → has_table new pid ≡ has_table old pid

-- this process has a table exactly if `has` says so, and every other process has one exactly if it did before
abbrev pub ChangesTable : Table → ℕ → Bool → Table → Type 0
ChangesTable old pid has new = (other : ℕ) → has_table new other ≡ (if other == pid then has else has_table old other)

-- each descriptor below this one is open
abbrev pub AreOpenBelow : Table → ℕ → ℕ → Type 0
AreOpenBelow t pid fd = (other : ℕ) → other < fd → is_some (file_at t pid other) ≡ true

-- the descriptor is the least that isn't open, and is below the limit of a process
pub record IsLeastFree (t : Table) (pid fd : ℕ) : Type 0 where
  pub within : fd < DESCRIPTORS
  pub free : file_at t pid fd ≡ None
  pub least : AreOpenBelow t pid fd

-- a process was given this descriptor for a new open file, and nothing was changed since
pub record WasOpened (before : Table) (pid fd : ℕ) (after : Table) : Type 0 where
  pub has : has_table before pid ≡ true
  pub whole : IsValidTable before.processes (length before.files)
  pub ordered : IsStrictlySortedBy nat_cmp (keys_of before.processes)
  pub descriptor : least_free before pid ≡ Some fd
  pub file : OpenFile
  pub is : after ≡ table_after_open before pid file
