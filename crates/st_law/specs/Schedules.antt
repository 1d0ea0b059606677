-- The choices that a schedule gives, and the bounds of steps.
use Rattle.std.specs.Prelude.{ℕ, zero, suc, ◌+◌, ◌*◌, Bool, true, false, List, [], ◌∷◌, ◌++◌, length, sum_by, count_by, Option, Some, None}
use Rattle.st_calls.specs.Call.{sets_ids}
use Rattle.st_trace.specs.declared.entry.Choice.{Choice}
use Rattle.st_trace.specs.declared.entry.Choice.TheVariants as choice
use Rattle.st_trace.specs.declared.entry.Entry.{Entry}
use Rattle.st_trace.specs.declared.entry.Entry.TheVariants.{Claimed, Copied, Looked, Faulted, Answered, Learned}
use Rattle.st_model.specs.Tree.{is_number}
use Rattle.st_trace.specs.declared.start.Instr.{Instr}
use Rattle.st_trace.specs.declared.start.Instr.TheVariants.{Store, Call, Fork, Reload}
use Rattle.st_law.specs.declared.input.Input.{Input}
use Rattle.st_law.specs.declared.input.ReadSchedule.{ReadSchedule}
use Rattle.st_law.specs.declared.input.ScheduleLine.{ScheduleLine}
use Rattle.st_law.specs.declared.input.What.{What}
use Rattle.st_law.specs.declared.input.What.TheVariants.{Choose, Rest}
use Rattle.st_law.specs.Machine.{first_state, state_after, entry_of}
use Rattle.st_law.specs.State.{State, thread_count}

-- ---- the first choice that is enabled

-- a choice with the entry that it adds
pub record EnabledChoice : Type 0 where
  pub choice : Choice
  pub entry : Entry

-- this choice if it adds an entry, otherwise the other
abbrev pub choice_or : Choice → Option Entry → Option EnabledChoice → Option EnabledChoice
choice_or c None other = other
choice_or c (Some e) other = Some (record { choice = c; entry = e })

-- the first enabled choice among `count` choices from number n on, otherwise the other
abbrev pub first_enabled_of : (ℕ → Choice) → Input → State → ℕ → ℕ → Option EnabledChoice → Option EnabledChoice
first_enabled_of of i st n zero other = other
first_enabled_of of i st n (suc count) other = choice_or (of n) (entry_of i st (of n)) (first_enabled_of of i st (suc n) count other)

-- the first choice that is enabled: threads by number, then workers by number, then the operator
abbrev pub first_enabled : Input → State → Option EnabledChoice
first_enabled i st =
    first_enabled_of choice.Thread i st 1 (thread_count i)
    (first_enabled_of choice.Worker i st 1 i.options.workers
    (choice_or choice.Operator (entry_of i st choice.Operator) None))

-- ---- `rest`

-- whether an instruction renews messages: a call that sets ids, or a reload
abbrev pub is_renewing_instruction : Instr → Bool
is_renewing_instruction (Store place word) = false
is_renewing_instruction (Call call regs) = sets_ids call
is_renewing_instruction (Fork child) = false
is_renewing_instruction (Reload n) = true

-- how many instructions a script has, and how many of them are calls that set ids or reloads
abbrev pub instruction_count : Input → ℕ
instruction_count i = sum_by (λ row. length row.body) i.start.threads

abbrev pub renewing_count : Input → ℕ
renewing_count i = sum_by (λ row. count_by is_renewing_instruction row.body) i.start.threads

-- the bound of steps: no run has more
abbrev pub most_steps : Input → ℕ
most_steps i = 10000 * (instruction_count i + 64 * renewing_count i + 1) + length i.replies

-- choices, and the state after them
pub record Played : Type 0 where
  pub choices : List Choice
  pub state : State

-- how to go on if a choice is found, and the end if none is
abbrev pub rest_on : Played → (EnabledChoice → Played) → Option EnabledChoice → Played
rest_on over further None = over
rest_on over further (Some found) = further found

-- the first enabled choice again and again, until none is enabled or `count` choices were made
abbrev pub rest_from : ℕ → Input → State → List Choice → Played
rest_from zero i st made = record { choices = made; state = st }
rest_from (suc count) i st made =
    rest_on (record { choices = made; state = st }) (λ found. rest_from count i (state_after i st found.entry) (made ++ found.choice ∷ [])) (first_enabled i st)

-- ---- the lines of a schedule

-- the outcome of a schedule: its choices, or the first line that doesn't match the grammar or whose choice isn't enabled
pub data ScheduleOutcome : Type 0 where
  Choices : List Choice → ScheduleOutcome
  BadLine : ℕ → ScheduleOutcome

-- how to go on if a choice adds an entry; nothing if it adds none
abbrev pub further_on : (Entry → Option Played) → Option Entry → Option Played
further_on further None = None
further_on further (Some e) = further e

-- a choice `count` times; nothing if it isn't enabled at one of them
abbrev pub repeated : ℕ → Choice → Input → Played → Option Played
repeated zero c i before = Some before
repeated (suc count) c i before =
    further_on (λ e. repeated count c i (record { choices = before.choices ++ c ∷ []; state = state_after i before.state e })) (entry_of i before.state c)

-- a line's choice `count` times, or `rest` once: a second time adds nothing
abbrev pub line_played : What → ℕ → Input → Played → Option Played
line_played (Choose c) count i before = repeated count c i before
line_played Rest count i before = Some (rest_from (most_steps i) i before.state before.choices)

-- the outcome after the last line, by the bad line of the file if it has one
abbrev pub ending_of : Option ℕ → Played → ScheduleOutcome
ending_of None played = Choices played.choices
ending_of (Some line) played = BadLine line

-- the schedule goes on after this line, or the line is bad
abbrev pub line_on : ℕ → (Played → ScheduleOutcome) → Option Played → ScheduleOutcome
line_on line further None = BadLine line
line_on line further (Some after) = further after

-- the outcome of the remaining lines, one after the other
abbrev pub lines_played : List ScheduleLine → Option ℕ → Input → Played → ScheduleOutcome
lines_played [] bad i before = ending_of bad before
lines_played (each ∷ lines) bad i before = line_on each.line (λ after. lines_played lines bad i after) (line_played each.what each.count i before)

-- the outcome of a schedule
abbrev pub played : Input → ReadSchedule → ScheduleOutcome
played i schedule = lines_played schedule.lines schedule.bad i (record { choices = []; state = first_state i })

-- ---- the steps of one number

-- the number that an entry is a step for: an entry of a worker, or the one by which the number's filter is learnt
abbrev pub served_number : Entry → Option ℕ
served_number (Claimed w q) = Some q
served_number (Copied q part place word) = Some q
served_number (Looked q part name seen) = Some q
served_number (Faulted q errno) = Some q
served_number (Answered w s v applied) = Some s.seq
served_number (Learned q n) = Some q
served_number _ = None

-- how many of these entries are steps for a number
abbrev pub steps_for : ℕ → List Entry → ℕ
steps_for q entries = count_by (λ e. is_number q (served_number e)) entries
