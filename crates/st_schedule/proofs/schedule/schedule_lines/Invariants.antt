use Rattle.std.proofs.Common.{◌≡◌, length}
use Rattle.st_lex.specs.Rows.{rows}
use Rattle.st_schedule.specs.Schedule.{schedule_lines}
use Rattle.st_schedule.proofs.Scheduled.{following}
use Rattle.st_schedule.proofs.schedule.schedule_lines.Given as goal

-- the lines so far, followed by what the rest of the rows gives, are what all rows give
abbrev pub invariant-loop-row : goal.invariant-loop-row
invariant-loop-row l = following l.lines (schedule_lines l.text l.bad (rows l.rest)) ≡ schedule_lines l.text l.bad (rows l.tokens)

abbrev pub decreases-loop-row : goal.decreases-loop-row
decreases-loop-row l = length l.rest
