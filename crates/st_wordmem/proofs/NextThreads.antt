-- Which thread of a process is given a seat next, computed.
use Rattle.std.proofs.Common.{◌≡◌, ℕ, [], ◌∷◌, Some, None, refl}
use Rattle.st_trace.specs.declared.start.Start.{Start}
use Rattle.st_trace.specs.declared.start.ThreadRow.{ThreadRow}
use Rattle.st_wordmem.specs.Rule.{next_thread}

abbrev row_in : ℕ → ThreadRow
row_in pid = record { process = Some pid; body = [] }

-- threads 1 and 3 start in process 1, thread 2 in process 2, and thread 4 by a fork
abbrev four_threads : Start
four_threads = record { users = []; groups = []; tree = []; processes = []; threads = row_in 1 ∷ row_in 2 ∷ row_in 1 ∷ record { process = None; body = [] } ∷ [] }

of_process_1 : (next_thread four_threads 1 0 ≡ 1) × (next_thread four_threads 1 1 ≡ 3) × (next_thread four_threads 1 3 ≡ 5)
of_process_1 = (refl, refl, refl)

of_process_2 : (next_thread four_threads 2 0 ≡ 2) × (next_thread four_threads 2 2 ≡ 5)
of_process_2 = (refl, refl)

of_no_process : next_thread four_threads 3 0 ≡ 5
of_no_process = refl
