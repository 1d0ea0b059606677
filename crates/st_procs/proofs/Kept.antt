-- What a written row changes, and what it keeps.
use Rattle.std.proofs.Common.{◌≡◌, ℕ, ◌-◌, ◌<◌, ◌≤◌, Bool, true, false, List, ◌++◌, length, Option, Some, None, get_or, set, take, drop, refl, ap, sym, ◌∙◌}
use Rattle.std.proofs.Math.Seq.{map-set_same, take-append_seam}
use Rattle.std.proofs.lemmas.List.{length-map}
use Rattle.std.specs.BTreeMap.{is_at}
use Rattle.std.specs.Map.{lookup}
use Rattle.std.specs.Option.{option_map}
use Rattle.std.specs.Ordering.{nat_cmp}
use Rattle.st_model.specs.Process.{Process}
use Rattle.st_model.specs.Processes.{Processes, StartedThread, no_process, pid_of, policy_after_exec, thread_at}
use Rattle.st_base.specs.Numbered.{item_at_number_or, with_item_at_number}
use Rattle.st_procs.specs.Rows.{counts_of, process_of, processes_of}
use Rattle.st_procs.specs.declared.rows.Row.{Row}
use Rattle.st_procs.proofs.Numbered.{at_number-map, put_number-map}

module _ (rows : List Row) (pid : ℕ) (d new : Row) where
  -- a row is overwritten, and its process is a change of the one before
  pub changed : (change : Process → Process) → 0 < pid → pid ≤ length rows → process_of new.process ≡ change (process_of (get_or rows (pid - 1) d).process) →
      processes_of (set rows (pid - 1) new) ≡ with_item_at_number (processes_of rows) pid (change (item_at_number_or no_process (processes_of rows) pid))
  changed change from to is =
      put_number-map (λ (row : Row). process_of row.process) rows new pid from ∙
      ap (with_item_at_number (processes_of rows) pid) (is ∙ ap change (at_number-map (λ (row : Row). process_of row.process) rows no_process d pid from to))

  pub same_counts : new.threads ≡ (get_or rows (pid - 1) d).threads → counts_of (set rows (pid - 1) new) ≡ counts_of rows
  same_counts is = map-set_same (λ (row : Row). row.threads) rows (pid - 1) new d is

  pub same_processes : process_of new.process ≡ process_of (get_or rows (pid - 1) d).process → processes_of (set rows (pid - 1) new) ≡ processes_of rows
  same_processes is = map-set_same (λ (row : Row). process_of row.process) rows (pid - 1) new d is

-- the policy that applies after execve(2)
pub policy-taken : (inherit : Bool) (before binary : List ℕ) → inherit ≡ false → binary ≡ policy_after_exec inherit before binary
policy-taken inherit before binary is = rw is refl

pub policy-kept : (inherit : Bool) (before binary : List ℕ) → inherit ≡ true → before ≡ policy_after_exec inherit before binary
policy-kept inherit before binary is = rw is refl

-- there are as many processes as counts
pub as_many : (rows : List Row) (threads : List (ℕ × StartedThread)) (processes : Processes) → record { rows = processes_of rows; threads = threads } ≡ processes → length (counts_of rows) ≡ length processes.rows
as_many rows threads processes is =
    length-map rows (λ (row : Row). row.threads) ∙ sym (length-map rows (λ (row : Row). process_of row.process)) ∙ ap (λ (p : Processes). length p.rows) is

-- a slice of all rows, written back, replaces them all
pub written_back : (rows new : List Row) (len : ℕ) → len ≡ length rows → length new ≡ length rows → take len (new ++ drop (length new) rows) ≡ new
written_back rows new len is same = rw (is, ← same) (take-append_seam new (drop (length new) rows))

-- a thread that hasn't started
unmapped : {X Y : Type 0} (f : X → Y) (o : Option X) → option_map f o ≡ None → o ≡ None
unmapped f None is = refl
unmapped f (Some x) is = cc

pub not_started : (rows : List Row) (threads : List (ℕ × StartedThread)) (processes : Processes) (tid : ℕ) → record { rows = processes_of rows; threads = threads } ≡ processes → pid_of processes tid ≡ None → lookup (is_at (nat_cmp tid)) threads ≡ None
not_started rows threads processes tid is none = ap (λ (p : Processes). thread_at p tid) is ∙ unmapped (λ (thread : StartedThread). thread.pid) (thread_at processes tid) none
