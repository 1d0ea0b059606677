-- Parts of which a call's outcome over the world is written: its result, its changes, and the descriptors after it.
use Rattle.std.proofs.Common.{ℕ, Bool, true, false, List, [], ◌∷◌, ◌++◌, map, Option, Some, None, replicate}
use Rattle.std.specs.Prelude.{take, drop, suc}
use Rattle.st_model.specs.Descriptors.{Table}
use Rattle.st_base.specs.declared.errno.Errno.{Errno}
use Rattle.st_base.specs.declared.ids.Ids.{Ids}
use Rattle.st_model.specs.declared.open_file.FileKind.{FileKind}
use Rattle.st_model.specs.declared.open_file.FileKind.TheVariants as file
use Rattle.st_model.specs.declared.open_file.OpenFile.{OpenFile}
use Rattle.st_calls.specs.declared.call.SysCall.{SysCall}
use Rattle.st_effects.specs.Changes.{tree_after}
use Rattle.st_effects.specs.System.{System, Outcome}
use Rattle.st_trace.specs.declared.entry.CallResult.{CallResult}
use Rattle.st_trace.specs.declared.entry.CallResult.TheVariants.{Value, Failed}
use Rattle.st_trace.specs.declared.entry.Change.{Change}
use Rattle.st_effects.proofs.World.{descriptors, user, made}

-- an open file: whether it is open for reading, for writing, and for appending, its offset, and its kind
abbrev pub file_for : Bool → Bool → Bool → ℕ → FileKind → OpenFile
file_for read write append offset kind = record { kind = kind; read = read; write = write; append = append; offset = offset }

-- a new socket
abbrev pub new_socket : OpenFile
new_socket = file_for true true false 0 (file.Socket None false)

-- the descriptors of process 1 in the world, with one of them referring to another open file, or free
abbrev pub led_to : ℕ → Option ℕ → List (Option ℕ)
led_to fd number = take fd places ++ number ∷ drop (suc fd) places where
  places : List (Option ℕ)
  places = Some 0 ∷ Some 1 ∷ Some 2 ∷ Some 3 ∷ Some 4 ∷ Some 5 ∷ Some 6 ∷ Some 7 ∷ None ∷ Some 8 ∷ Some 1 ∷ replicate 53 None

-- the open files of the world, with one replaced
abbrev pub with_changed : ℕ → OpenFile → List OpenFile
with_changed number file = take number descriptors.files ++ file ∷ drop (suc number) descriptors.files

-- the open files of the world and one more, with number 10
abbrev pub with_new : OpenFile → List OpenFile
with_new file = descriptors.files ++ file ∷ []

-- the world's table with these descriptors of process 1, and with these open files
abbrev pub table_with : List (Option ℕ) → List OpenFile → Table
table_with first files = record { processes = (1, first) ∷ drop 1 descriptors.processes; files = files }

-- the world's table with these open files
abbrev pub table_of : List OpenFile → Table
table_of files = record { processes = descriptors.processes; files = files }

-- the outcome of a call that returns a number, with these changes and this table
abbrev pub done : ℕ → List Change → Table → Outcome
done number changes table = record { result = Value number; changes = changes; descriptors = table }

-- the outcome of a call that returns a number, with these changes and the world's descriptors
abbrev pub gave : ℕ → List Change → Outcome
gave number changes = done number changes descriptors

-- the outcome of a call that failed, which changes nothing
abbrev pub failed : Errno → Outcome
failed errno = record { result = Failed errno; changes = []; descriptors = descriptors }

-- the system after a call
abbrev pub after : System → Outcome → System
after system outcome = record system { tree = tree_after system.tree outcome.changes; descriptors = outcome.descriptors }

-- the system after some calls of process 1, made by the user one after the other, in order
abbrev pub after_calls : System → List (SysCall × List (List ℕ) × List ℕ) → System
after_calls system [] = system
after_calls system (call ∷ calls) = after_calls (after system (made system 1 user call.0 call.1 call.2)) calls

-- the result of each of some calls of a process under these ids over a system
abbrev pub results_in : System → ℕ → Ids → SysCall → List (List (List ℕ) × List ℕ) → List CallResult
results_in system pid ids call tries = map (λ each. (made system pid ids call each.0 each.1).result) tries
