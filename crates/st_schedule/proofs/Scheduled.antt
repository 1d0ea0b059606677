-- A schedule that is read line by line.
use Rattle.std.proofs.Common.{List, ◌++◌}
use Rattle.st_law.specs.declared.input.ReadSchedule.{ReadSchedule}
use Rattle.st_law.specs.declared.input.ScheduleLine.{ScheduleLine}

-- lines, followed by a schedule
abbrev pub following : List ScheduleLine → ReadSchedule → ReadSchedule
following lines schedule = record { lines = lines ++ schedule.lines; bad = schedule.bad }
