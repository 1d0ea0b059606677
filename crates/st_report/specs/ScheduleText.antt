-- What is printed of a schedule: a line for each choice that is made several times in a row.
use Rattle.std.specs.Prelude.{◌≡◌, ℕ, suc, ◌≤◌, ◌==◌, ◌&&◌, nat_lt, if◌then◌else◌, Bool, true, false, List, [], ◌∷◌, ◌++◌, codes, replicate, None}
use Rattle.std.specs.List.{flat_map}
use Rattle.st_trace.specs.declared.entry.Choice.{Choice}
use Rattle.st_trace.specs.declared.entry.Choice.TheVariants.{Thread, Worker, Operator}
use Rattle.st_law.specs.declared.input.ReadSchedule.{ReadSchedule}
use Rattle.st_law.specs.declared.input.ScheduleLine.{ScheduleLine}
use Rattle.st_law.specs.declared.input.TheConstants.{MOST_TIMES}
use Rattle.st_law.specs.declared.input.What.TheVariants.{Choose}
use Rattle.st_report.specs.declared.schedule.Repeat.{Repeat}
use Rattle.st_report.specs.Fields.{number_fields}

-- a choice, this many times in a row
abbrev pub repeat_of : Choice → ℕ → Repeat
repeat_of choice times = record { choice = choice; times = times }

-- whether two choices are the same
abbrev pub is_same_choice : Choice → Choice → Bool
is_same_choice (Thread t) (Thread u) = t == u
is_same_choice (Worker v) (Worker w) = v == w
is_same_choice Operator Operator = true
is_same_choice _ _ = false

-- whether a choice joins the last line, which has the same choice and isn't full
abbrev pub joins : Repeat → Choice → Bool
joins last choice = nat_lt last.times MOST_TIMES && is_same_choice last.choice choice

-- the lines of a choice that was made this many times already, followed by these choices: equal neighbours are joined, as many as
-- one line may have
abbrev pub repeats_after : Choice → ℕ → List Choice → List Repeat
repeats_after choice times [] = repeat_of choice times ∷ []
repeats_after choice times (next ∷ choices) =
    if joins (repeat_of choice times) next then repeats_after choice (suc times) choices
    else repeat_of choice times ∷ repeats_after next 1 choices

-- the lines of choices, with equal neighbours joined
abbrev pub repeats_of : List Choice → List Repeat
repeats_of [] = []
repeats_of (choice ∷ choices) = repeats_after choice 1 choices

-- who moves
abbrev pub choice_text : Choice → List ℕ
choice_text (Thread t) = codes "thread" ++ number_fields (t ∷ [])
choice_text (Worker w) = codes "worker" ++ number_fields (w ∷ [])
choice_text Operator = codes "operator"

-- how often, which is omitted for once
abbrev pub times_field : ℕ → List ℕ
times_field times = if times == 1 then [] else number_fields (times ∷ [])

-- a line
abbrev pub repeat_line : Repeat → List ℕ
repeat_line each = choice_text each.choice ++ times_field each.times ++ codes "\n"

-- the text of lines
abbrev pub repeats_text : List Repeat → List ℕ
repeats_text repeats = flat_map repeat_line repeats

-- the text of a schedule
abbrev pub schedule_text : List Choice → List ℕ
schedule_text choices = repeats_text (repeats_of choices)

-- ---- one more choice

-- the lines after one more choice, from the last line
abbrev pub joined_with : Repeat → Choice → List Repeat
joined_with last choice = if joins last choice then repeat_of last.choice (suc last.times) ∷ [] else last ∷ repeat_of choice 1 ∷ []

-- the lines after one more choice
abbrev pub repeats_with : List Repeat → Choice → List Repeat
repeats_with [] choice = repeat_of choice 1 ∷ []
repeats_with (last ∷ []) choice = joined_with last choice
repeats_with (each ∷ next ∷ repeats) choice = each ∷ repeats_with (next ∷ repeats) choice

-- ---- what such lines spell

-- the choices that lines spell, in order
abbrev pub spelled_choices : List Repeat → List Choice
spelled_choices repeats = flat_map (λ each. replicate each.times each.choice) repeats

-- each line has its choice at least once and at most `MOST_TIMES` times, and unless it is full, the line after it has another
-- choice
abbrev pub AreJoined : List Repeat → Type 0
AreJoined [] = Unit {0}
AreJoined (each ∷ []) = (1 ≤ each.times) × (each.times ≤ MOST_TIMES)
AreJoined (each ∷ next ∷ repeats) =
    (1 ≤ each.times) × (each.times ≤ MOST_TIMES) × (each.choice ≡ next.choice → each.times ≡ MOST_TIMES) × AreJoined (next ∷ repeats)

-- these lines as those of a schedule that was read, numbered from this line on
abbrev pub schedule_lines_from : ℕ → List Repeat → List ScheduleLine
schedule_lines_from line [] = []
schedule_lines_from line (each ∷ repeats) = record { what = Choose each.choice; count = each.times; line = line } ∷ schedule_lines_from (suc line) repeats

-- the printed lines of choices, as a schedule that was read
abbrev pub printed_schedule : List Choice → ReadSchedule
printed_schedule choices = record { lines = schedule_lines_from 1 (repeats_of choices); bad = None }
