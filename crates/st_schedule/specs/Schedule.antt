-- Schedules: each line names a thread, a worker, the operator or the rest, and how often it is chosen.
use Rattle.std.specs.Prelude.{ℕ, ◌&&◌, if◌then◌else◌, nat_le, List, [], ◌∷◌, codes, Option, Some, None, option_map, option_and_then}
use Rattle.st_law.specs.declared.input.ReadSchedule.{ReadSchedule}
use Rattle.st_law.specs.declared.input.ScheduleLine.{ScheduleLine}
use Rattle.st_law.specs.declared.input.TheConstants.{MOST_TIMES}
use Rattle.st_law.specs.declared.input.What.{What}
use Rattle.st_law.specs.declared.input.What.TheVariants.{Choose, Rest}
use Rattle.st_lex.specs.declared.token.Token.{Token}
use Rattle.st_lex.specs.Rows.{rows}
use Rattle.st_lex.specs.Text.{is_keyword}
use Rattle.st_lex.specs.Tokens.{lexed_text}
use Rattle.st_trace.specs.declared.entry.Choice.TheVariants.{Thread, Worker, Operator}
use Rattle.st_statements.specs.Lines.{saturated, tokens_before_fault_line, line_of_fault, line_of_row}
use Rattle.st_statements.specs.Values.{number_token}

-- a number that says how often: 1 to 1,000,000
abbrev pub times : ℕ → Option ℕ
times n = if nat_le 1 n && nat_le n MOST_TIMES then Some n else None

-- [COUNT]: once, if there is none
abbrev pub schedule_count : List ℕ → List Token → Option ℕ
schedule_count text [] = Some 1
schedule_count text (count ∷ []) = option_and_then times (number_token text count)
schedule_count text _ = None

-- a line that chooses this, as often as the tokens after it say
abbrev pub asked : List ℕ → ℕ → What → List Token → Option ScheduleLine
asked text line what count = option_map (λ n. record { what = what; count = n; line = line }) (schedule_count text count)

-- N [COUNT] of a thread; a number of more than 32 bits is no thread's
abbrev pub thread_line : List ℕ → ℕ → List Token → Option ScheduleLine
thread_line text line [] = None
thread_line text line (number ∷ count) =
    option_and_then (λ n. asked text line (Choose (Thread (saturated n))) count) (number_token text number)

-- N [COUNT] of a worker
abbrev pub worker_line : List ℕ → ℕ → List Token → Option ScheduleLine
worker_line text line [] = None
worker_line text line (number ∷ count) =
    option_and_then (λ n. asked text line (Choose (Worker (saturated n))) count) (number_token text number)

-- nothing may follow `rest`
abbrev pub rest_line : ℕ → List Token → Option ScheduleLine
rest_line line [] = Some (record { what = Rest; count = 1; line = line })
rest_line line _ = None

-- thread N [COUNT], worker N [COUNT], operator [COUNT], or rest
abbrev pub schedule_line : List ℕ → List Token → Option ScheduleLine
schedule_line text [] = None
schedule_line text (keyword ∷ more) =
    if is_keyword text (codes "thread") keyword then thread_line text keyword.line more
    else if is_keyword text (codes "worker") keyword then worker_line text keyword.line more
    else if is_keyword text (codes "operator") keyword then asked text keyword.line (Choose Operator) more
    else if is_keyword text (codes "rest") keyword then rest_line keyword.line more
    else None

-- a schedule with a line added before it, or an empty schedule that ends at a bad line
abbrev pub with_line : ℕ → Option ScheduleLine → ReadSchedule → ReadSchedule
with_line here (Some line) schedule = record { lines = line ∷ schedule.lines; bad = schedule.bad }
with_line here None schedule = record { lines = []; bad = Some here }

-- the lines of rows up to the first row that isn't in the grammar; if all rows are in it, the bad line is the given one, if any
abbrev pub schedule_lines : List ℕ → Option ℕ → List (List Token) → ReadSchedule
schedule_lines text bad [] = record { lines = []; bad = bad }
schedule_lines text bad (row ∷ rows) = with_line (line_of_row row) (schedule_line text row) (schedule_lines text bad rows)

-- the schedule that a text spells; a line with a lexical fault isn't in the grammar
abbrev pub schedule_in : List ℕ → ReadSchedule
schedule_in text = schedule_lines text (line_of_fault text (lexed_text text).fault) (rows (tokens_before_fault_line (lexed_text text)))
