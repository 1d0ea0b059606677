-- How the reading of a command ends, compared with what the command and its files mean.
use Rattle.std.specs.Prelude.{◌≡◌, ◌⊎◌, ℕ, List, [], ◌∷◌, ◌++◌, Result, Ok, Err}
use Rattle.st_outside.specs.Count.{HasRisen}
use Rattle.st_outside.specs.Files.{CanFit}
use Rattle.st_command.specs.Words.{Word}
use Rattle.st_command.specs.declared.command.Command.{Command}
use Rattle.st_reading.specs.Meaning.{Contents, Meaning, Stops, Refuses, Runs, Replays, Prints, Means, names_to, last_file}
use Rattle.st_reading.specs.declared.reading.Reading.{Reading}
use Rattle.st_reading.specs.declared.reading.Reading.TheVariants as reading
use Rattle.st_reading.specs.declared.refusal.Refusal.{Refusal}
use Rattle.st_reading.specs.declared.refusal.Refusal.TheVariants.{Missing, TooLong, Script, Policy, ReadFault, NoMemory}
use Rattle.st_reading.specs.declared.refusal.Which.{Which}
use Rattle.st_reading.specs.declared.refusal.Which.TheVariants as which

-- the names up to this file were asked for, in order, and no others
abbrev pub AreAskedTo : (Which → List Word) → Which → List Word → List Word → Type 0
AreAskedTo names w old new = new ≡ old ++ names w

-- the last of some names can hold a file that a fetch can give
pub record LastFits (contents : Contents) (names : List Word) : Type 0 where
  pub front : List Word
  pub name : Word
  pub names_are : names ≡ front ++ name ∷ []
  pub fits : CanFit (contents name)

-- what is meant can be a stop at this file, and the names up to the file were asked for
pub record CanStopAt (IsMeaning : Meaning → Type 0) (names : Which → List Word) (old new : List Word) (w : Which) : Type 0 where
  pub meant : IsMeaning (Stops w)
  pub asked : AreAskedTo names w old new

-- memory ran out before any file was asked for, or after asking for a file that can be fetched and that can be a stop
abbrev pub HasNoMemory : Contents → (Meaning → Type 0) → (Which → List Word) → List Word → List Word → Type 0
HasNoMemory contents IsMeaning names old new = (new ≡ old) ⊎ ((w : Which) × CanStopAt IsMeaning names old new w × LastFits contents (names w))

-- a refusal is what is meant, and the names up to the refused file were asked for; or a file that was reached couldn't be read and the count
-- of faults rose; or memory ran out
abbrev pub RefusesFiles : Contents → (Meaning → Type 0) → (Which → List Word) → ℕ → ℕ → List Word → List Word → Refusal → Type 0
RefusesFiles contents IsMeaning names faults faults_after old new (Missing w) = IsMeaning (Refuses (Missing w)) × AreAskedTo names w old new
RefusesFiles contents IsMeaning names faults faults_after old new (TooLong w) = IsMeaning (Refuses (TooLong w)) × AreAskedTo names w old new
RefusesFiles contents IsMeaning names faults faults_after old new (Script fault) = IsMeaning (Refuses (Script fault)) × AreAskedTo names which.Script old new
RefusesFiles contents IsMeaning names faults faults_after old new (Policy n fault) = IsMeaning (Refuses (Policy n fault)) × AreAskedTo names (which.Policy n) old new
RefusesFiles contents IsMeaning names faults faults_after old new ReadFault = HasRisen faults faults_after × ((w : Which) × CanStopAt IsMeaning names old new w)
RefusesFiles contents IsMeaning names faults faults_after old new NoMemory = HasNoMemory contents IsMeaning names old new

-- ---- of a command

-- the names of a command up to this file were asked for, in order, and no others
abbrev pub AskedTo : Command → Which → List Word → List Word → Type 0
AskedTo c w old new = AreAskedTo (names_to c) w old new

-- the command can mean to stop at this file, and the names up to the file were asked for
abbrev pub StopsAt : Contents → Command → List Word → List Word → Which → Type 0
StopsAt contents c old new w = CanStopAt (Means contents c) (names_to c) old new w

-- memory ran out while the command was read
abbrev pub ReadingIsOutOfMemory : Contents → Command → List Word → List Word → Type 0
ReadingIsOutOfMemory contents c old new = HasNoMemory contents (Means contents c) (names_to c) old new

-- a refusal of the command
abbrev pub RefusesReading : Contents → Command → ℕ → ℕ → List Word → List Word → Refusal → Type 0
RefusesReading contents c faults faults_after old new refusal = RefusesFiles contents (Means contents c) (names_to c) faults faults_after old new refusal

-- what was read, as a meaning: a run, the replay of a trace, or a text to be printed
abbrev pub as_meaning : Reading → Meaning
as_meaning (reading.Run input schedule) = Runs input schedule
as_meaning (reading.Replay input text) = Replays input text
as_meaning (reading.Text text) = Prints text

-- a command is read as what it means, with all its names asked for, or it is refused
abbrev pub EndsReading : Contents → Command → ℕ → ℕ → List Word → List Word → Result Reading Refusal → Type 0
EndsReading contents c faults faults_after old new (Ok read) = Means contents c (as_meaning read) × AskedTo c (last_file c) old new
EndsReading contents c faults faults_after old new (Err refusal) = RefusesReading contents c faults faults_after old new refusal

-- the meaning of a command that an answer reports
abbrev pub ending : Result Reading Refusal → Meaning
ending (Ok read) = as_meaning read
ending (Err refusal) = Refuses refusal
