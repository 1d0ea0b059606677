-- Threads stay in the order of their numbers when one starts by a fork.
use Rattle.std.proofs.Common.{◌≡◌, ℕ, false, subst, sym}
use Rattle.std.proofs.lemmas.Cmp.{nat_cmp_total}
use Rattle.std.specs.Ordering.{nat_cmp}
use Rattle.st_model.specs.Processes.{Processes, next_pid, processes_after_fork}
use Rattle.st_model.proofs.Ordered.{sorted-insert_entry}
use Rattle.st_procs.specs.Laws.{AreOrdered}

pub ordered_fork : (old new : Processes) (pid tid space : ℕ) → new ≡ processes_after_fork old pid tid space → AreOrdered old → AreOrdered new
ordered_fork old new pid tid space is ordered =
    subst AreOrdered (sym is) (sorted-insert_entry nat_cmp nat_cmp_total old.threads tid (record { pid = next_pid old; ended = false }) ordered)
