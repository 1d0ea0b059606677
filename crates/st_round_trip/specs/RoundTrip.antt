-- A text of policies or of a schedule that `step` has written, read again.
use Rattle.std.specs.Prelude.{◌≡◌, ℕ, false, List, [], ◌∷◌, Ok}
use Rattle.st_command.specs.Command.{StepWords}
use Rattle.st_command.specs.Words.{Word}
use Rattle.st_command.specs.declared.command.Command.TheVariants.{Step}
use Rattle.st_filter.specs.declared.set.BinaryPolicy.{BinaryPolicy}
use Rattle.st_outside.specs.Files.{FileView, Unknown, Absent, FileBytes, CanHold}
use Rattle.st_grammar.specs.Grammar.{Reads}
use Rattle.st_reread.specs.Readable.{AreTextBytes}
use Rattle.st_grammar.specs.declared.env.Env.{Env}
use Rattle.st_law.specs.Schedules.{Choices, played}
use Rattle.st_law.specs.declared.input.Input.{Input}
use Rattle.st_law.specs.declared.input.ReadSchedule.{ReadSchedule}
use Rattle.st_reading.specs.Meaning.{Contents, Means, Runs}
use Rattle.st_script.specs.Reading.{script_in}
use Rattle.st_script.specs.declared.reading.ReadScript.{ReadScript}
use Rattle.st_trace.specs.declared.entry.Choice.{Choice}

-- it is known what a name holds, and a file consists of bytes
abbrev pub HoldsBytes : FileView → Type 0
HoldsBytes Unknown = ⊥
HoldsBytes Absent = Unit {0}
HoldsBytes (FileBytes text) = AreTextBytes text

-- the same holds of each of some names
abbrev pub HoldBytes : Contents → List Word → Type 0
HoldBytes contents [] = Unit {0}
HoldBytes contents (name ∷ names) = HoldsBytes (contents name) × HoldBytes contents names

-- the script that `step` reads
pub record IsScriptOf (contents : Contents) (step : StepWords) (script : ReadScript) : Type 0 where
  pub text : List ℕ
  pub there : CanHold (contents step.script) text
  pub is : script_in text step.options step.emulation ≡ Ok script

-- the environment that policies were read with, but for filters that aren't learnt
abbrev pub enforcing : Env → Env
enforcing env = record { users = env.users; groups = env.groups; dollars = env.dollars; elevate = env.elevate; learn = false; emulation = env.emulation }

-- a text, read alone, gives these policies and no others
pub record IsReadAgain (text : List ℕ) (env : Env) (policies : List BinaryPolicy) : Type 0 where
  pub reads : Reads text env [] policies
  pub alone : (other : List BinaryPolicy) → Reads text env [] other → other ≡ policies

-- the same words, except for the schedule, which is in this file
abbrev pub with_schedule : StepWords → Word → StepWords
with_schedule step name = record { policies = step.policies; script = step.script; schedule = name; options = step.options; print = step.print; emulation = step.emulation }

-- `step` means to run this input, by a schedule that is played as these choices
pub record Plays (contents : Contents) (step : StepWords) (input : Input) (choices : List Choice) : Type 0 where
  pub schedule : ReadSchedule
  pub meant : Means contents (Step step) (Runs input schedule)
  pub played_to : played input schedule ≡ Choices choices
