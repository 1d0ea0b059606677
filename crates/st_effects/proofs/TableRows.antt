-- The descriptors of a process at its start and at its end.
use Rattle.std.proofs.Common.{◌≡◌, true, false, [], ◌∷◌, ◌++◌, Some, None, refl, replicate}
use Rattle.st_model.specs.Descriptors.{Table}
use Rattle.st_model.specs.DescriptorCalls.{table_after_start, table_after_copy, table_after_entry_removed, table_after_close_all}
use Rattle.st_model.specs.declared.open_file.FileKind.TheVariants as file
use Rattle.st_effects.proofs.World.{descriptors}
use Rattle.st_effects.proofs.Outcomes.{file_for, table_with}

abbrev no_table : Table
no_table = record { processes = []; files = [] }

-- a process starts with three descriptors for the console, each with an open file of its own, for reading and writing from offset 0 on
first_process : table_after_start no_table 1 ≡ record {
  processes = (1, Some 0 ∷ Some 1 ∷ Some 2 ∷ replicate 61 None) ∷ [];
  files = replicate 3 (file_for true true false 0 file.Console);
}
first_process = refl

-- the open files of a later process come after all others
later_process : table_after_start descriptors 4 ≡ record {
  processes = descriptors.processes ++ (4, Some 10 ∷ Some 11 ∷ Some 12 ∷ replicate 61 None) ∷ [];
  files = descriptors.files ++ replicate 3 (file_for true true false 0 file.Console);
}
later_process = refl

-- a process that ends has no open descriptor; its open files stay for the processes that share them
process_that_ends : table_after_close_all descriptors 1 ≡ table_with (replicate 64 None) descriptors.files
process_that_ends = refl

-- a fork that is undone leaves the table as it was before
fork_that_is_taken_back : table_after_entry_removed (table_after_copy descriptors 1 5) 5 ≡ descriptors
fork_that_is_taken_back = refl
