-- The choices that a schedule asks for.
use Rattle.std.specs.Prelude.{ℕ, ◌^◌, ◌<◌, List, [], ◌++◌, ◌∷◌, replicate, Option, Some, None, option_map, All}
use Rattle.st_law.specs.declared.input.ReadSchedule.{ReadSchedule}
use Rattle.st_law.specs.declared.input.ScheduleLine.{ScheduleLine}
use Rattle.st_law.specs.declared.input.What.{What}
use Rattle.st_law.specs.declared.input.What.TheVariants.{Choose, Rest}
use Rattle.st_trace.specs.declared.entry.Choice.{Choice}
use Rattle.st_trace.specs.declared.entry.Choice.TheVariants.{Thread, Worker, Operator}

-- the number of the thread or the worker has 32 bits
abbrev pub HasSmallNumber : Choice → Type 0
HasSmallNumber (Thread t) = t < 2 ^ 32
HasSmallNumber (Worker w) = w < 2 ^ 32
HasSmallNumber Operator = Unit {0}

-- the numbers of all these threads and workers have 32 bits
abbrev pub HaveSmallNumbers : List Choice → Type 0
HaveSmallNumbers choices = All HasSmallNumber choices

-- a choice this many times, before those that are asked for later; nothing if the rest is asked for, which names no choice
abbrev pub asked_before : What → ℕ → Option (List Choice) → Option (List Choice)
asked_before (Choose choice) count later = option_map (λ choices. replicate count choice ++ choices) later
asked_before Rest count later = None

-- the choices that lines ask for, in order; nothing if a line asks for the rest
abbrev pub asked_by : List ScheduleLine → Option (List Choice)
asked_by [] = Some []
asked_by (each ∷ lines) = asked_before each.what each.count (asked_by lines)

-- these choices, unless there is a bad line
abbrev pub unless_bad : Option ℕ → Option (List Choice) → Option (List Choice)
unless_bad None choices = choices
unless_bad (Some line) choices = None

-- the choices that a schedule asks for, in order, if it has no bad line and each line names its choice
abbrev pub choices_asked : ReadSchedule → Option (List Choice)
choices_asked schedule = unless_bad schedule.bad (asked_by schedule.lines)

-- ---- schedules written out

-- the line with this number, which asks for this so often
abbrev pub asked_line : What → ℕ → ℕ → ScheduleLine
asked_line what count line = record { what = what; count = count; line = line }

-- the schedule of these lines, without a bad line
abbrev pub schedule_of : List ScheduleLine → ReadSchedule
schedule_of lines = record { lines = lines; bad = None }

-- the schedule without lines, whose bad line is this
abbrev pub bad_at : ℕ → ReadSchedule
bad_at line = record { lines = []; bad = Some line }
