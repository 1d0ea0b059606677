-- What holds of each input that a command means to run.
use Rattle.std.specs.Prelude.{◌≡◌, ◌≤◌, List}
use Rattle.st_emulation.specs.declared.emulation.Emulation.{Emulation}
use Rattle.st_emulation.specs.declared.emulation.Emulation.TheVariants.{Native, Linux}
use Rattle.st_filter.specs.declared.set.BinaryPolicy.{BinaryPolicy}
use Rattle.st_law.specs.declared.input.Input.{Input}
use Rattle.st_law.specs.declared.input.Mode.TheVariants.{Learn}
use Rattle.st_learn.specs.Learnt.{NoneAsks}
use Rattle.st_linux.specs.Native.{to_native}
use Rattle.st_reached.specs.Grants.{RepliesUngranted, SetIdsUngranted}
use Rattle.st_reached.specs.Runnable.{CanRun}
use Rattle.st_script.specs.Startable.{IsRunnableScript, input_with}
use Rattle.st_script.specs.declared.reading.ReadScript.{ReadScript}
use Rattle.st_trace.specs.declared.start.Start.{Start}
use Rattle.st_command.specs.Command.{StepWords}
use Rattle.st_reading.specs.Files.{IsScript}
use Rattle.st_reading.specs.Meaning.{Contents, InputWords}

-- a start for what a script of this emulation says: the same, but with native flags for those of Linux
abbrev pub IsStartFor : Emulation → Start → Start → Type 0
IsStartFor Native written start = start ≡ written
IsStartFor Linux written start = start ≡ to_native written

-- an input has the start that is for the script that its words name, under their emulation
pub record StartsNatively (contents : Contents) (words : InputWords) (input : Input) : Type 0 where
  pub script : ReadScript
  pub script_is : IsScript (contents words.script) words.options words.emulation script
  pub start_is : IsStartFor words.emulation script.start input.start

-- an input consists of a script that a run can start with, of policies and replies that grant no ids for setting ids, those of the script
-- included, and of the options of the words; with one to eight workers it can be run; if the run learns, no filter that was read asks
pub record IsRunnable (step : StepWords) (input : Input) : Type 0 where
  pub script : ReadScript
  pub policies : List BinaryPolicy
  pub input_is : input ≡ input_with policies step.options script
  pub can_start : IsRunnableScript script
  pub ungranted : SetIdsUngranted policies
  pub blocks : SetIdsUngranted script.blocks
  pub replies : RepliesUngranted script.replies
  pub can_run : 1 ≤ step.options.workers → step.options.workers ≤ 8 → CanRun input
  pub unasked : step.options.mode ≡ Learn → NoneAsks policies
