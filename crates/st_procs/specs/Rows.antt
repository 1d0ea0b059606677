-- Rows as they are stored: each process with the counts of its threads.
use Rattle.std.specs.Prelude.{◌≡◌, ℕ, ◌-◌, ◌^◌, ◌<◌, List, length, map}
use Rattle.std.specs.List.{All, count_by}
use Rattle.std.specs.List.Sorted.{IsStrictlySortedBy}
use Rattle.std.specs.Map.{keys_of, values_of}
use Rattle.std.specs.Ordering.{nat_cmp}
use Rattle.st_model.specs.Process.{Process}
use Rattle.st_model.specs.Processes.{StartedThread, is_thread_of, is_running_in}
use Rattle.st_base.specs.Numbered.{item_at_number_or}
use Rattle.st_procs.specs.declared.rows.ThreadCounts.{ThreadCounts}
use Rattle.st_procs.specs.declared.rows.ProcRow.{ProcRow}
use Rattle.st_procs.specs.declared.rows.Row.{Row}

-- the process of a row
abbrev pub process_of : ProcRow → Process
process_of row = record { traced = row.traced; policy = row.binary; ids = row.ids; cwd = row.cwd; space = row.space }

-- the processes of rows, in order
abbrev pub processes_of : List Row → List Process
processes_of rows = map (λ row. process_of row.process) rows

-- the counts of threads of rows, in order
abbrev pub counts_of : List Row → List ThreadCounts
counts_of rows = map (λ row. row.threads) rows

-- the counts of a process that never had a thread
abbrev pub no_threads : ThreadCounts
no_threads = record { begun = 0; running = 0 }

-- how many threads of a process have started, and how many of them haven't ended
abbrev pub thread_counts : List (ℕ × StartedThread) → ℕ → ThreadCounts
thread_counts threads pid = record { begun = count_by (is_thread_of pid) (values_of threads); running = count_by (is_running_in pid) (values_of threads) }

-- each number has the counts of its threads, so a number without a process has no threads
pub record AreCounted (counts : List ThreadCounts) (threads : List (ℕ × StartedThread)) : Type 0 where
  pub counted : (pid : ℕ) → item_at_number_or no_threads counts pid ≡ thread_counts threads pid
  pub ordered : IsStrictlySortedBy nat_cmp (keys_of threads)
  pub tids : All (λ tid. tid < 2 ^ 32) (keys_of threads)
  pub few : length counts < 2 ^ 32 - 1
