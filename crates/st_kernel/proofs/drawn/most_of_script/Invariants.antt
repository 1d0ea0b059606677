use Rattle.std.proofs.Common.{◌≡◌, ◌+◌, ◌*◌, ◌≤◌, length, sum_by, count_by, take}
use Rattle.st_trace.specs.declared.start.ThreadRow.{ThreadRow}
use Rattle.st_law.specs.Schedules.{is_renewing_instruction}
use Rattle.st_kernel.proofs.drawn.most_of_script.Given as goal

abbrev pub invariant-loop-row : goal.invariant-loop-row
invariant-loop-row l =
    (l.most
    ≡ sum_by (λ (row : ThreadRow). length row.body) (take l.row-index l.threads)
    + 64 * sum_by (λ (row : ThreadRow). count_by is_renewing_instruction row.body) (take l.row-index l.threads))
    × (l.most ≤ 65 * sum_by (λ (row : ThreadRow). length row.body) (take l.row-index l.threads))
