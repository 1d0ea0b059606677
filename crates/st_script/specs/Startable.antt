-- What holds of each script that is read, so that a run can start with it.
use Rattle.std.specs.Prelude.{◌≡◌, ◌≤◌, true, List}
use Rattle.st_emulation.specs.declared.emulation.Emulation.{Emulation}
use Rattle.st_emulation.specs.declared.emulation.Emulation.TheVariants.{Native, Linux}
use Rattle.st_filter.specs.declared.set.BinaryPolicy.{BinaryPolicy}
use Rattle.st_law.specs.Inputs.{CanStart, IsStartable}
use Rattle.st_law.specs.declared.input.Input.{Input}
use Rattle.st_law.specs.declared.input.Mode.TheVariants.{Learn}
use Rattle.st_law.specs.declared.input.Options.{Options}
use Rattle.st_linux.specs.Native.{to_native}
use Rattle.st_reached.specs.Scripts.{IsBounded}
use Rattle.st_script.specs.declared.reading.ReadScript.{ReadScript}
use Rattle.st_trace.specs.declared.start.Start.{Start}

-- the start that is run under an emulation: native flags take the place of Linux ones
abbrev pub native_start : Emulation → Start → Start
native_start Native start = start
native_start Linux start = to_native start

-- the start that a script's run begins with
abbrev pub run_start : ReadScript → Start
run_start script = native_start script.env.emulation script.start

-- a script whose start is made native
abbrev pub made_native : ReadScript → ReadScript
made_native script = record script { start = run_start script }

-- the input of a run that begins with a script's start as it is: the script, with these policies beside its own, and options
abbrev pub input_as_written : List BinaryPolicy → Options → ReadScript → Input
input_as_written policies options script =
    record { policies = record { read = policies; blocks = script.blocks }; start = script.start; replies = script.replies; options = options }

-- the input of a run: that of a script whose start is made native
abbrev pub input_with : List BinaryPolicy → Options → ReadScript → Input
input_with policies options script = input_as_written policies options (made_native script)

-- a run can start with a script under any policies and with one to eight workers, if neither these policies nor its own nor its replies grant
-- ids for setting ids, and if it was read to be learnt from where the run learns: it is startable, its system can be built, and it isn't too
-- long
pub record IsRunnableScript (script : ReadScript) : Type 0 where
  pub startable : (policies : List BinaryPolicy) (options : Options) → (options.mode ≡ Learn → script.env.learn ≡ true) → 1 ≤ options.workers → options.workers ≤ 8 → IsStartable (input_with policies options script)
  pub system : (policies : List BinaryPolicy) (options : Options) → CanStart (input_with policies options script)
  pub bounded : IsBounded (run_start script)
