-- What `run` and its files mean: its script and its policies are read as those of `step`, but no schedule is, since threads make the choices.
use Rattle.std.specs.Prelude.{◌≡◌, ℕ, List, [], ◌∷◌, take, None, Result, Ok, Err}
use Rattle.st_law.specs.declared.input.Input.{Input}
use Rattle.st_law.specs.declared.input.ReadSchedule.{ReadSchedule}
use Rattle.st_command.specs.Words.{Word}
use Rattle.st_command.specs.Command.{RunWords, StepWords}
use Rattle.st_reading.specs.Ends.{AreAskedTo, RefusesFiles}
use Rattle.st_reading.specs.Meaning.{Contents, InputWords, Meaning, MeansInput, Runs}
use Rattle.st_reading.specs.declared.refusal.Refusal.{Refusal}
use Rattle.st_reading.specs.declared.refusal.Which.{Which}
use Rattle.st_reading.specs.declared.refusal.Which.TheVariants as which

-- a schedule without lines
abbrev pub no_lines : ReadSchedule
no_lines = record { lines = []; bad = None }

-- a run of this input, by no line of a schedule
abbrev pub starts : Input → Meaning
starts input = Runs input no_lines

abbrev pub run_input : RunWords → InputWords
run_input run = record { policies = run.policies; script = run.script; options = run.options; emulation = run.emulation }

-- what `run` means over files of which this much is known
abbrev pub MeansRun : Contents → RunWords → Meaning → Type 0
MeansRun contents run outcome = MeansInput contents (run_input run) (λ input. outcome ≡ starts input) outcome

-- the names that `run` asks for, in order, up to this file; it has no file after its policies, so that all names are asked for up to there
abbrev pub run_names_to : RunWords → Which → List Word
run_names_to run which.Script = run.script ∷ []
run_names_to run (which.Policy n) = run.script ∷ take n run.policies
run_names_to run which.Schedule = run.script ∷ run.policies
run_names_to run which.Trace = run.script ∷ run.policies

-- all names of `run`, in order
abbrev pub run_names : RunWords → List Word
run_names run = run_names_to run which.Schedule

-- how the reading of `run` ends: with the input that it means, and all its names asked for, or with a refusal
abbrev pub EndsReadingRun : Contents → RunWords → ℕ → ℕ → List Word → List Word → Result Input Refusal → Type 0
EndsReadingRun contents run faults faults_after old new (Ok input) = MeansRun contents run (starts input) × AreAskedTo (run_names_to run) which.Schedule old new
EndsReadingRun contents run faults faults_after old new (Err refusal) = RefusesFiles contents (MeansRun contents run) (run_names_to run) faults faults_after old new refusal

-- `step` with the same options and script, what it prints included, and with a schedule of this name
abbrev pub with_schedule_of : RunWords → Word → StepWords
with_schedule_of run name = record { policies = run.policies; script = run.script; schedule = name; options = run.options; print = run.print; emulation = run.emulation }
