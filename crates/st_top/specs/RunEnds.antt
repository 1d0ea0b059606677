-- How a call of `run` ends, compared with what its words and files mean. Its threads make the choices of its run.
use Rattle.std.specs.Prelude.{◌≡◌, ◌≢◌, ◌⊎◌, ℕ, true, List, [], length, reverse, Option, Some, None, Result, Ok, Err}
use Rattle.st_outside.specs.Count.{HasRisen}
use Rattle.st_outside.specs.Sink.{Appends, AppendsPrefix}
use Rattle.st_trace.specs.declared.entry.Choice.{Choice}
use Rattle.st_law.specs.declared.input.Input.{Input}
use Rattle.st_law.specs.Lawful.{Lawful}
use Rattle.st_law.specs.Machine.{IsSettled, history, run, state_of_run}
use Rattle.st_law.specs.Numbers.{IsLawfulByNumber, numbered}
use Rattle.st_law.specs.Threads.{has_ended_at, owner_at}
use Rattle.st_command.specs.Command.{RunWords}
use Rattle.st_command.specs.Reading.{run_of_words}
use Rattle.st_command.specs.Words.{Word}
use Rattle.st_command.specs.declared.given.Print.{Print}
use Rattle.st_emulation.specs.declared.emulation.Emulation.{Emulation}
use Rattle.st_reading.specs.Ends.{AreAskedTo, CanStopAt, HasNoMemory}
use Rattle.st_reading.specs.Meaning as meaning
use Rattle.st_reading.specs.Meaning.{Contents, Meaning}
use Rattle.st_reading.specs.RunMeaning.{MeansRun, run_names, run_names_to, starts}
use Rattle.st_reading.specs.declared.refusal.Refusal.TheVariants as refusal
use Rattle.st_reading.specs.declared.refusal.Which.{Which}
use Rattle.st_reading.specs.declared.refusal.Which.TheVariants as which
use Rattle.st_top.specs.Outcome.{CommandOutcome, Refuses, Stops, Writes, printed, status_of}
use Rattle.st_top.specs.declared.ended.Ended.{Ended}
use Rattle.st_top.specs.declared.status.Status.{Status}
use Rattle.st_top.specs.declared.status.Status.TheVariants.{Done, Missing, Usage, Policy, Script, ReadFault, WriteFault, NoMemory, Schedule, TooLong, Illegal}

-- ---- whole runs

-- each thread that has started has ended after these choices
abbrev pub HaveAllEnded : Input → List Choice → Type 0
HaveAllEnded i choices = (t : ℕ) → owner_at i (history i (reverse choices)) t ≢ 0 → has_ended_at (history i (reverse choices)) t ≡ true

-- choices make a whole run: each was enabled when it was made, the run is lawful, by the numbers of its messages too, no choice is enabled
-- after it, and each thread that has started has ended
pub record IsWholeRun (i : Input) (choices : List Choice) : Type 0 where
  pub enabled : length (run i choices) ≡ length choices
  pub lawful : Lawful i (run i choices)
  pub by_number : IsLawfulByNumber i (numbered i (run i choices))
  pub settled : IsSettled i (state_of_run i choices)
  pub ended : HaveAllEnded i choices

-- what is printed under an emulation of a run by threads, with the choices that they made; without them, memory ran out
abbrev pub ThreadsShow : Print → Input → Emulation → Result (List ℕ × List Choice) Status → Type 0
ThreadsShow print i emulation (Ok made) = IsWholeRun i made.1 × (made.0 ≡ printed print i made.1 emulation)
ThreadsShow print i emulation (Err status) = status ≡ NoMemory

-- ---- what is written

-- a text is what `run` and its files ask to be printed of a run that its threads make by these choices
pub record IsOfThreads (contents : Contents) (threaded : RunWords) (choices : List Choice) (text : List ℕ) : Type 0 where
  pub input : Input
  pub meant : MeansRun contents threaded (starts input)
  pub whole : IsWholeRun input choices
  pub text_is : text ≡ printed threaded.print input choices threaded.emulation

-- ---- what is refused

-- `run` and its files mean a run
pub record MeansStart (contents : Contents) (threaded : RunWords) : Type 0 where
  pub input : Input
  pub meant : MeansRun contents threaded (starts input)

-- memory ran out while `run` was read, or for the run that it and its files mean, after all its files were asked for
abbrev pub ThreadsAreOutOfMemory : Contents → RunWords → List Word → List Word → Type 0
ThreadsAreOutOfMemory contents threaded old new =
    HasNoMemory contents (MeansRun contents threaded) (run_names_to threaded) old new ⊎ (MeansStart contents threaded × AreAskedTo (run_names_to threaded) which.Schedule old new)

-- before anything is written: the status is what `run` means, and the names up to the file of the status were asked for; or a file that was
-- reached couldn't be read and the count of faults rose; or memory ran out
abbrev pub RefusesRun : Contents → RunWords → ℕ → ℕ → List Word → List Word → Status → Type 0
RefusesRun contents threaded faults faults_after old new (Missing w) = MeansRun contents threaded (meaning.Refuses (refusal.Missing w)) × AreAskedTo (run_names_to threaded) w old new
RefusesRun contents threaded faults faults_after old new (TooLong w) = MeansRun contents threaded (meaning.Refuses (refusal.TooLong w)) × AreAskedTo (run_names_to threaded) w old new
RefusesRun contents threaded faults faults_after old new (Script fault) = MeansRun contents threaded (meaning.Refuses (refusal.Script fault)) × AreAskedTo (run_names_to threaded) which.Script old new
RefusesRun contents threaded faults faults_after old new (Policy n fault) = MeansRun contents threaded (meaning.Refuses (refusal.Policy n fault)) × AreAskedTo (run_names_to threaded) (which.Policy n) old new
RefusesRun contents threaded faults faults_after old new ReadFault = HasRisen faults faults_after × ((w : Which) × CanStopAt (MeansRun contents threaded) (run_names_to threaded) old new w)
RefusesRun contents threaded faults faults_after old new NoMemory = ThreadsAreOutOfMemory contents threaded old new
RefusesRun contents threaded faults faults_after old new (Schedule line) = ⊥
RefusesRun contents threaded faults faults_after old new (Illegal line) = ⊥
RefusesRun contents threaded faults faults_after old new Usage = ⊥
RefusesRun contents threaded faults faults_after old new Done = ⊥
RefusesRun contents threaded faults faults_after old new WriteFault = ⊥

-- what is prepared before anything is written: the text that is meant with the choices of its run, and all names asked for, or the status of
-- a refusal
abbrev pub PreparesRun : Contents → RunWords → ℕ → ℕ → List Word → List Word → Result (List ℕ × List Choice) Status → Type 0
PreparesRun contents threaded faults faults_after old new (Ok made) = IsOfThreads contents threaded made.1 made.0 × AreAskedTo (run_names_to threaded) which.Schedule old new
PreparesRun contents threaded faults faults_after old new (Err status) = RefusesRun contents threaded faults faults_after old new status

-- ---- how it ends

-- what was prepared is written: its text, all of it, or a front of it if writing failed; or nothing, if a status refuses. The choices are
-- those of the run if the whole text was written, otherwise there are none
abbrev pub WritesMade : Result (List ℕ × List Choice) Status → ℕ → ℕ → Option (List ℕ) → Option (List ℕ) → Ended → Type 0
WritesMade (Ok made) sink sink_after old new ended =
    ((ended.status ≡ Done) × (ended.schedule ≡ made.1) × Appends old new made.0) ⊎
    ((ended.status ≡ WriteFault) × (ended.schedule ≡ []) × HasRisen sink sink_after × AppendsPrefix old new made.0)
WritesMade (Err status) sink sink_after old new ended = (ended.status ≡ status) × (ended.schedule ≡ []) × (new ≡ old)

-- the text that is meant was written, and the choices of its run are returned; or a front of it was written, as writing failed; or a status
-- refuses and nothing was written. Unless the whole text was written, no choice is returned
abbrev pub EndsRun : Contents → RunWords → ℕ → ℕ → List Word → List Word → ℕ → ℕ → Option (List ℕ) → Option (List ℕ) → List Choice → Status → Type 0
EndsRun contents threaded faults faults_after asked asked_after sink sink_after old new choices Done =
    ((text : List ℕ) × IsOfThreads contents threaded choices text × Appends old new text) × AreAskedTo (run_names_to threaded) which.Schedule asked asked_after
EndsRun contents threaded faults faults_after asked asked_after sink sink_after old new choices WriteFault =
    (HasRisen sink sink_after × ((made : List Choice) × (text : List ℕ) × IsOfThreads contents threaded made text × AppendsPrefix old new text) × AreAskedTo (run_names_to threaded) which.Schedule asked asked_after) × (choices ≡ [])
EndsRun contents threaded faults faults_after asked asked_after sink sink_after old new choices status =
    (RefusesRun contents threaded faults faults_after asked asked_after status × (new ≡ old)) × (choices ≡ [])

-- ---- by the words

-- words spell a `run` that with its files has this meaning, and its names up to this file were asked for
pub record RunMeansUpTo (words : List Word) (contents : Contents) (m : Meaning) (w : Which) (old new : List Word) : Type 0 where
  pub threaded : RunWords
  pub spelled : run_of_words words ≡ Some threaded
  pub meant : MeansRun contents threaded m
  pub asked : AreAskedTo (run_names_to threaded) w old new

-- a text is what words and files ask to be written of a run that threads make
pub record IsMeantOfThreads (words : List Word) (contents : Contents) (text : List ℕ) : Type 0 where
  pub threaded : RunWords
  pub spelled : run_of_words words ≡ Some threaded
  pub choices : List Choice
  pub meant : IsOfThreads contents threaded choices text

-- memory ran out before any file was asked for, or for a `run`
abbrev pub RunWantsMemory : Contents → Option RunWords → List Word → List Word → Type 0
RunWantsMemory contents None old new = new ≡ old
RunWantsMemory contents (Some threaded) old new = ThreadsAreOutOfMemory contents threaded old new

-- the names that `run` asks for, if there is one
abbrev pub run_names_asked : Option RunWords → List Word
run_names_asked None = []
run_names_asked (Some threaded) = run_names threaded

-- the outcome of `run` by these choices, by what it and its files mean
abbrev pub run_outcome : Print → List Choice → Meaning → Emulation → CommandOutcome
run_outcome print choices (meaning.Stops w) emulation = Stops w
run_outcome print choices (meaning.Refuses refusal) emulation = Refuses (status_of refusal)
run_outcome print choices (meaning.Runs i schedule) emulation = Writes (printed print i choices emulation)
run_outcome print choices (meaning.Replays i trace) emulation = Writes (printed print i choices emulation)
run_outcome print choices (meaning.Prints text) emulation = Writes text

-- the outcome of words of `run` whose threads made these choices: wrong usage if they spell no `run`
abbrev pub RunHasOutcome : Contents → Option RunWords → List Choice → CommandOutcome → Type 0
RunHasOutcome contents None choices outcome = outcome ≡ Refuses Usage
RunHasOutcome contents (Some threaded) choices outcome = (m : Meaning) × MeansRun contents threaded m × (outcome ≡ run_outcome threaded.print choices m threaded.emulation)
