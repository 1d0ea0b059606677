-- What the laws of descriptors say: which of them share an open file and its offset.
use Rattle.std.specs.Prelude.{◌≡◌, ◌≢◌, ℕ, true, length, Some}
use Rattle.std.specs.declared.result.Result.TheVariants.{Ok}
use Rattle.st_model.specs.declared.open_file.OpenFile.{OpenFile}
use Rattle.st_model.specs.Descriptors.{Table, has_table, file_at, file_number_at}
use Rattle.st_fds.specs.Table.{IsValidTable}
use Rattle.st_model.specs.DescriptorCalls.{table_after_copy, table_after_dup, table_after_seek}
use Rattle.st_fds.specs.Calls.{dup_result}

-- a descriptor and its duplicate refer to the same open file
abbrev pub DuplicatesShare : Type 0
DuplicatesShare = (t : Table) (pid fd least : ℕ) → IsValidTable t.processes (length t.files) → has_table t pid ≡ true → dup_result t pid fd ≡ Ok least →
    file_number_at (table_after_dup t pid fd) pid least ≡ file_number_at (table_after_dup t pid fd) pid fd

-- each descriptor of a child refers to the same open file as its parent's
abbrev pub ChildrenShare : Type 0
ChildrenShare = (t : Table) (from to fd : ℕ) → file_number_at (table_after_copy t from to) to fd ≡ file_number_at t from fd

-- an offset changes for each descriptor, of any process, that refers to the same open file
abbrev pub OffsetsAreShared : Type 0
OffsetsAreShared = (t : Table) (pid fd offset other_pid other number : ℕ) (file : OpenFile) → file_number_at t pid fd ≡ Some number → file_number_at t other_pid other ≡ Some number → file_at t pid fd ≡ Some file →
    file_at (table_after_seek t pid fd offset) other_pid other ≡ Some (record file { offset = offset })

-- an offset doesn't change for a descriptor that refers to no file or to another one
abbrev pub OthersStay : Type 0
OthersStay = (t : Table) (pid fd offset other_pid other : ℕ) → file_number_at t other_pid other ≢ file_number_at t pid fd → file_at (table_after_seek t pid fd offset) other_pid other ≡ file_at t other_pid other
