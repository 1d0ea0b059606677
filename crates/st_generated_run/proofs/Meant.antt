-- An input that was read can be run, and begins with the start that is written.
use native.Mathlib.Omega.{arith}
use Rattle.std.proofs.Common.{◌≡◌, List, [], ap, sym}
use Rattle.st_emulation.specs.declared.emulation.Emulation.{Emulation}
use Rattle.st_emulation.specs.declared.emulation.Emulation.TheVariants.{Native}
use Rattle.st_filter.specs.declared.set.BinaryPolicy.{BinaryPolicy}
use Rattle.st_law.specs.declared.input.Options.{Options}
use Rattle.st_reached.specs.Grants.{RepliesUngranted, SetIdsUngranted}
use Rattle.st_reached.specs.Runnable.{CanRun}
use Rattle.st_script.specs.Startable.{IsRunnableScript, input_as_written, input_with, native_start}
use Rattle.st_script.specs.declared.reading.ReadScript.{ReadScript}
use Rattle.st_generated_run.specs.Generated.{generated_options}

pub none_granted : SetIdsUngranted []
none_granted = λ k policy within. absurd (omega (arith, within))

-- a script that is read natively begins with the start that is written
pub native_input : (policies : List BinaryPolicy) (options : Options) (script : ReadScript) → script.env.emulation ≡ Native → input_as_written policies options script ≡ input_with policies options script
native_input policies options script native = ap (λ (emulation : Emulation). input_as_written policies options (record script { start = native_start emulation script.start })) (sym native)

pub meant_can_run : (script : ReadScript) (policies : List BinaryPolicy) → IsRunnableScript script → SetIdsUngranted policies → SetIdsUngranted script.blocks → RepliesUngranted script.replies →
    CanRun (input_with policies generated_options script)
meant_can_run script policies can_start ungranted blocks replies = record {
  startable = can_start.startable policies generated_options (λ learns. absurd (cc)) (omega arith) (omega arith);
  system = can_start.system policies generated_options;
  bounded = can_start.bounded;
  ungranted = (ungranted, blocks);
  replies = replies;
}
