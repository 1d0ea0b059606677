use Rattle.std.proofs.Common.{◌≡◌, ◌+◌, ◌*◌, ◌≤◌, ◌∙◌, List, length, sum_by, count_by, ap, subst, sym}
use Rattle.st_trace.specs.declared.start.ThreadRow.{ThreadRow}
use Rattle.st_law.specs.declared.input.Input.{Input}
use Rattle.st_law.specs.Schedules.{is_renewing_instruction}
use Rattle.st_reached.specs.Reached.{most_numbers}
use Rattle.st_kernel.specs.Kernel.{RunSoFar}
use Rattle.st_kernel.proofs.kernel.Kernel.most_messages.Goals.{After-as_slice}
use Rattle.st_kernel.proofs.kernel.Kernel.most_messages.Goals as goal

rows_are : (c : After-as_slice) → c.as_slice.result.now ≡ c.self.inside.machine.input.start.threads
rows_are c = c.as_slice.ensures ∙ ap (λ (i : Input). i.start.threads) c.input.ensures

pub most_of_script-requires : goal.most_of_script-requires
most_of_script-requires c =
    subst (λ (rows : List ThreadRow). sum_by (λ (row : ThreadRow). length row.body) rows ≤ 4096) (sym (rows_are c)) c.self.invariant.0.machine.bounded.few_instructions

pub returns : goal.returns
returns c =
    c.most_of_script.ensures
    ∙ ap (λ (rows : List ThreadRow). sum_by (λ (row : ThreadRow). length row.body) rows + 64 * sum_by (λ (row : ThreadRow). count_by is_renewing_instruction row.body) rows) (rows_are c.before)
    ∙ ap (λ (so_far : RunSoFar). most_numbers so_far.input) c.self.view_is
