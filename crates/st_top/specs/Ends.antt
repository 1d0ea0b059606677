-- How a call of the program ends, compared with what its words and files mean.
use Rattle.std.specs.Prelude.{◌≡◌, ◌⊎◌, ℕ, List, [], Option, Some, None, Result, Ok, Err}
use Rattle.st_outside.specs.Count.{HasRisen}
use Rattle.st_outside.specs.Files.{Absent, FileBytes, FileView, Unknown}
use Rattle.st_outside.specs.Sink.{Appends, AppendsPrefix}
use Rattle.st_trace.specs.declared.entry.Choice.{Choice}
use Rattle.st_law.specs.declared.input.Input.{Input}
use Rattle.st_law.specs.declared.input.ReadSchedule.{ReadSchedule}
use Rattle.st_law.specs.Lawful.{Lawful}
use Rattle.st_law.specs.Machine.{run}
use Rattle.st_law.specs.Numbers.{IsLawfulByNumber, numbered}
use Rattle.st_law.specs.Schedules.{Choices, BadLine, played}
use Rattle.st_command.specs.Reading.{command_in}
use Rattle.st_command.specs.Words.{Word}
use Rattle.st_command.specs.Command.{StepWords, ReplayWords}
use Rattle.st_command.specs.declared.command.Command.{Command}
use Rattle.st_command.specs.declared.command.Command.TheVariants as command
use Rattle.st_command.specs.declared.given.Print.{Print}
use Rattle.st_emulation.specs.declared.emulation.Emulation.{Emulation}
use Rattle.st_reading.specs.Ends.{AskedTo}
use Rattle.st_reading.specs.Ends as reading
use Rattle.st_reading.specs.Meaning.{Contents, Meaning, Refuses, Runs, Replays, Prints, Means, names_of, last_file}
use Rattle.st_reading.specs.declared.refusal.Refusal.TheVariants as refusal
use Rattle.st_reading.specs.declared.refusal.Which.{Which}
use Rattle.st_reading.specs.declared.refusal.Which.TheVariants as which
use Rattle.st_written.specs.Written.{IsText}
use Rattle.st_trace_replay.specs.Replayed.{BreaksAt, IsLawfulText}
use Rattle.st_top.specs.Outcome as outcome
use Rattle.st_top.specs.Outcome.{CommandOutcome, lawful_text, printed}
use Rattle.st_top.specs.declared.status.Status.{Status}
use Rattle.st_top.specs.declared.status.Status.TheVariants.{Done, Missing, Usage, Policy, Script, ReadFault, WriteFault, NoMemory, Schedule, TooLong, Illegal}

-- ---- what is written

-- a text is what `step` and its files ask to be printed of the run that they mean, and the run is lawful, by the numbers of its messages too
pub record IsOfRun (contents : Contents) (step : StepWords) (text : List ℕ) : Type 0 where
  pub input : Input
  pub schedule : ReadSchedule
  pub choices : List Choice
  pub meant : Means contents (command.Step step) (Runs input schedule)
  pub played_to : played input schedule ≡ Choices choices
  pub lawful : Lawful input (run input choices)
  pub by_number : IsLawfulByNumber input (numbered input (run input choices))
  pub text_is : text ≡ printed step.print input choices step.emulation

-- a text is what `replay` and its files ask to be written: the trace that they mean is lawful, and the text says so
pub record IsOfReplay (contents : Contents) (replay : ReplayWords) (text : List ℕ) : Type 0 where
  pub input : Input
  pub trace : List ℕ
  pub meant : Means contents (command.Replay replay) (Replays input trace)
  pub lawful : IsLawfulText input trace
  pub text_is : text ≡ lawful_text

-- a text is what a command and its files ask to be written
abbrev pub IsMeant : Contents → Command → List ℕ → Type 0
IsMeant contents (command.Step step) text = IsOfRun contents step text
IsMeant contents (command.Replay replay) text = IsOfReplay contents replay text
IsMeant contents (command.Check check) text = Means contents (command.Check check) (Prints text)

-- ---- what is refused

-- a line of the schedule is bad: the schedule of the run that is meant can be played only up to it
pub record HasBadLine (contents : Contents) (c : Command) (line : ℕ) : Type 0 where
  pub input : Input
  pub schedule : ReadSchedule
  pub meant : Means contents c (Runs input schedule)
  pub bad : played input schedule ≡ BadLine line

-- a line of the trace is illegal: the replay that is meant is lawful only up to it
pub record HasIllegalLine (contents : Contents) (c : Command) (line : ℕ) : Type 0 where
  pub input : Input
  pub trace : List ℕ
  pub meant : Means contents c (Replays input trace)
  pub breaks : BreaksAt input trace line

-- a command and its files mean the replay of a trace
pub record MeansReplay (contents : Contents) (c : Command) : Type 0 where
  pub input : Input
  pub trace : List ℕ
  pub meant : Means contents c (Replays input trace)

-- a command and its files mean a run
pub record MeansRun (contents : Contents) (c : Command) : Type 0 where
  pub input : Input
  pub schedule : ReadSchedule
  pub meant : Means contents c (Runs input schedule)

-- memory ran out while the command was read, or for the run or the replay that it and its files mean, after all its files were asked for
abbrev pub RunsOutOfMemory : Contents → Command → List Word → List Word → Type 0
RunsOutOfMemory contents c old new = reading.ReadingIsOutOfMemory contents c old new ⊎ ((MeansRun contents c ⊎ MeansReplay contents c) × AskedTo c (last_file c) old new)

-- before anything is written: the status is what the command means, and the names up to the file of the status were asked for; or a file
-- that was reached couldn't be read and the count of faults rose; or memory ran out
abbrev pub RefusesCommand : Contents → Command → ℕ → ℕ → List Word → List Word → Status → Type 0
RefusesCommand contents c faults faults_after old new (Missing w) = Means contents c (Refuses (refusal.Missing w)) × AskedTo c w old new
RefusesCommand contents c faults faults_after old new (TooLong w) = Means contents c (Refuses (refusal.TooLong w)) × AskedTo c w old new
RefusesCommand contents c faults faults_after old new (Script fault) = Means contents c (Refuses (refusal.Script fault)) × AskedTo c which.Script old new
RefusesCommand contents c faults faults_after old new (Policy n fault) = Means contents c (Refuses (refusal.Policy n fault)) × AskedTo c (which.Policy n) old new
RefusesCommand contents c faults faults_after old new (Schedule line) = HasBadLine contents c line × AskedTo c which.Schedule old new
RefusesCommand contents c faults faults_after old new (Illegal line) = HasIllegalLine contents c line × AskedTo c which.Trace old new
RefusesCommand contents c faults faults_after old new ReadFault = HasRisen faults faults_after × ((w : Which) × reading.StopsAt contents c old new w)
RefusesCommand contents c faults faults_after old new NoMemory = RunsOutOfMemory contents c old new
RefusesCommand contents c faults faults_after old new Usage = ⊥
RefusesCommand contents c faults faults_after old new Done = ⊥
RefusesCommand contents c faults faults_after old new WriteFault = ⊥

-- what is prepared before anything is written: the text that is meant, with all names asked for, or the status of a refusal
abbrev pub Prepares : Contents → Command → ℕ → ℕ → List Word → List Word → Result (List ℕ) Status → Type 0
Prepares contents c faults faults_after old new (Ok text) = IsMeant contents c text × AskedTo c (last_file c) old new
Prepares contents c faults faults_after old new (Err status) = RefusesCommand contents c faults faults_after old new status

-- ---- how a command ends

-- the text that is meant was written, all of it or, if writing failed, a front of it; or a status refuses and nothing was written
abbrev pub EndsCommand : Contents → Command → ℕ → ℕ → List Word → List Word → ℕ → ℕ → Option (List ℕ) → Option (List ℕ) → Status → Type 0
EndsCommand contents c faults faults_after asked asked_after sink sink_after old new Done =
    ((text : List ℕ) × IsMeant contents c text × Appends old new text) × AskedTo c (last_file c) asked asked_after
EndsCommand contents c faults faults_after asked asked_after sink sink_after old new WriteFault =
    HasRisen sink sink_after × ((text : List ℕ) × IsMeant contents c text × AppendsPrefix old new text) × AskedTo c (last_file c) asked asked_after
EndsCommand contents c faults faults_after asked asked_after sink sink_after old new status = RefusesCommand contents c faults faults_after asked asked_after status × (new ≡ old)

-- ---- runs

-- what is printed under an emulation of the run by a schedule, or why there is no run
abbrev pub RunShown : Print → Input → ReadSchedule → Emulation → Result (List ℕ) Status → Type 0
RunShown print i schedule emulation (Ok text) = (choices : List Choice) × (played i schedule ≡ Choices choices) × (text ≡ printed print i choices emulation)
RunShown print i schedule emulation (Err (Schedule line)) = played i schedule ≡ BadLine line
RunShown print i schedule emulation (Err NoMemory) = Unit {0}
RunShown print i schedule emulation (Err _) = ⊥

-- what is written of a trace, or the first line that isn't lawful
abbrev pub ReplayShown : Input → List ℕ → Result (List ℕ) Status → Type 0
ReplayShown i trace (Ok text) = IsLawfulText i trace × (text ≡ lawful_text)
ReplayShown i trace (Err (Illegal line)) = BreaksAt i trace line
ReplayShown i trace (Err NoMemory) = Unit {0}
ReplayShown i trace (Err _) = ⊥

-- ---- by the words

-- words spell a command that with its files has this meaning, and its names up to this file were asked for
pub record WordsMeanUpTo (words : List Word) (contents : Contents) (m : Meaning) (w : Which) (old new : List Word) : Type 0 where
  pub served : Command
  pub spelled : command_in words ≡ Some served
  pub meant : Means contents served m
  pub asked : AskedTo served w old new

-- a text is what words and files ask to be written
pub record IsMeantBy (words : List Word) (contents : Contents) (text : List ℕ) : Type 0 where
  pub served : Command
  pub spelled : command_in words ≡ Some served
  pub meant : IsMeant contents served text

-- memory ran out before any file was asked for, or for a command
abbrev pub WantsMemoryFor : Contents → Option Command → List Word → List Word → Type 0
WantsMemoryFor contents None old new = new ≡ old
WantsMemoryFor contents (Some c) old new = RunsOutOfMemory contents c old new

-- the names that a command asks for, if it asks for any
abbrev pub names_asked : Option Command → List Word
names_asked None = []
names_asked (Some c) = names_of c

-- a file is known to be of bytes, or there is none
abbrev pub IsOfBytes : FileView → Type 0
IsOfBytes Unknown = ⊥
IsOfBytes Absent = Unit {0}
IsOfBytes (FileBytes bytes) = IsText bytes

-- and so is the trace that a command replays, if it replays any
abbrev pub IsTraceOfBytes : Contents → Option Command → Type 0
IsTraceOfBytes contents (Some (command.Replay replay)) = IsOfBytes (contents replay.trace)
IsTraceOfBytes contents _ = Unit {0}

-- the status is that of the outcome, and the outcome's text was written; a stop is left open
abbrev pub EndsAs : CommandOutcome → Option (List ℕ) → Option (List ℕ) → Status → Type 0
EndsAs (outcome.Stops w) old new status = Unit {0}
EndsAs (outcome.Refuses refused) old new status = status ≡ refused
EndsAs (outcome.Writes text) old new status = (status ≡ Done) × Appends old new text
