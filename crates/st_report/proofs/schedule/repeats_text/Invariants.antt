use Rattle.std.proofs.Common.{◌≡◌, take}
use Rattle.st_report.specs.ScheduleText.{repeats_text}
use Rattle.st_report.proofs.schedule.repeats_text.Given as goal

-- the text is that of the lines so far
abbrev pub invariant-loop-each : goal.invariant-loop-each
invariant-loop-each l = l.text ≡ repeats_text (take l.each-index l.repeats)
