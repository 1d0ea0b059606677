-- What `step` has learnt and written means a run of `step`: neither the script nor the policy is refused.
use Rattle.std.proofs.Common.{◌≡◌, ◌≤◌, ℕ, List, [], ◌∷◌, length, Ok, refl, ap, sym, subst}
use Rattle.st_command.specs.Command.{StepWords}
use Rattle.st_command.specs.Reading.{IsWithinLimits}
use Rattle.st_command.specs.Words.{Word}
use Rattle.st_command.specs.declared.command.Command.TheVariants.{Step}
use Rattle.st_command.specs.declared.given.Print.TheVariants as print
use Rattle.st_emulation.specs.declared.emulation.Emulation.{Emulation}
use Rattle.st_filter.specs.Policies.{filters_in}
use Rattle.st_filter.specs.declared.set.TheConstants.{MOST_FILTERS}
use Rattle.st_law.specs.declared.input.Input.{Input}
use Rattle.st_law.specs.declared.input.Mode.TheVariants.{Learn}
use Rattle.st_law.specs.declared.input.ReadSchedule.{ReadSchedule}
use Rattle.st_outside.specs.Files.{FileView, FileBytes, CanHold}
use Rattle.st_outside.specs.declared.files.TheConstants.{FILE_LIMIT}
use Rattle.st_reading.specs.Files.{ArePolicies, IsPolicy, IsScript}
use Rattle.st_reading.specs.Meaning.{Contents, Means, Runs}
use Rattle.st_reading.proofs.Inputs.{step_means}
use Rattle.st_reading.proofs.ReadFiles.{IsStepRead, input_or}
use Rattle.st_reread.specs.Readable.{WasRead}
use Rattle.st_schedule.specs.Schedule.{schedule_in}
use Rattle.st_script.proofs.ReadTexts.{emulation_is}
use Rattle.st_script.specs.Reading.{script_in}
use Rattle.st_script.specs.Startable.{input_with, native_start}
use Rattle.st_script.specs.declared.reading.ReadScript.{ReadScript}
use Rattle.st_script_names.specs.Environment.{environment_of}
use Rattle.st_statements.specs.Statements.{lines_in}
use Rattle.st_trace.specs.declared.entry.Choice.{Choice}
use Rattle.st_top.specs.Learning.{policies_after}
use Rattle.st_top.specs.Outcome.{printed}
use Rattle.st_round_trip.specs.RoundTrip.{HoldBytes}
use Rattle.st_round_trip.proofs.Enforced.{WrittenIsReadAgain, read_under}
use Rattle.st_round_trip.proofs.OtherFilters.{IsComplete, IsSound}
use Rattle.st_round_trip.proofs.OtherOptions.{script_so}
use Rattle.st_round_trip.proofs.ReadAgain.{was_read}

module _ (written : WrittenIsReadAgain) (sound : IsSound) (complete : IsComplete) (contents : Contents) (step : StepWords) (i : Input) (schedule : ReadSchedule) (bytes : HoldBytes contents (step.script ∷ step.policies))
    (limits : IsWithinLimits (Step step)) (learning : step.options.mode ≡ Learn) (meant : Means contents (Step step) (Runs i schedule)) (choices : List Choice) (few : filters_in (policies_after i choices) ≤ MOST_FILTERS)
    (name : Word) (holds : contents name ≡ FileBytes (printed print.Policy i choices step.emulation)) (short : length (printed print.Policy i choices step.emulation) ≤ FILE_LIMIT)
    (again : StepWords) (script_is : again.script ≡ step.script) (alone : again.policies ≡ name ∷ []) (ids : again.options.ids ≡ step.options.ids) (same_emulation : again.emulation ≡ step.emulation) where
  module _ (w : IsStepRead WasRead contents step (Runs i schedule)) where
    -- the script, as it is read again
    abbrev script : ReadScript
    script = record { start = w.script.start; env = environment_of again.options (lines_in w.script_text) again.emulation; replies = w.script.replies; blocks = w.script.blocks }

    -- it was read under the same emulation
    own : script_in w.script_text step.options again.emulation ≡ Ok w.script
    own = subst (λ (emulation : Emulation). script_in w.script_text step.options emulation ≡ Ok w.script) (sym same_emulation) w.script_is

    script_file : IsScript (contents again.script) again.options again.emulation script
    script_file = record {
      text = w.script_text;
      content = subst (λ (word : Word). CanHold (contents word) w.script_text) (sym script_is) w.script_held;
      within = w.script_within;
      says = script_so sound complete w.script_text step.options again.options again.emulation learning ids w.script own;
    }

    policy_file : IsPolicy (contents name) script.env [] (policies_after i choices)
    policy_file = record {
      text = printed print.Policy i choices step.emulation;
      content = subst (λ (h : FileView). CanHold h (printed print.Policy i choices step.emulation)) (sym holds) refl;
      within = short;
      says = (read_under written contents step i schedule bytes limits learning meant choices few w again.options ids again.emulation same_emulation).reads;
    }

    policy_files : ArePolicies contents script.env again.policies [] (policies_after i choices)
    policy_files = subst (λ (names : List Word). ArePolicies contents script.env names [] (policies_after i choices)) (sym alone) (policies_after i choices, policy_file, refl)

    -- the input of the new run, whose start is made native under this emulation
    abbrev started : Emulation → Input
    started emulation = record {
      policies = record { read = policies_after i choices; blocks = w.script.blocks };
      start = native_start emulation w.script.start;
      replies = w.script.replies;
      options = again.options;
    }

    runs_so : (text : List ℕ) → CanHold (contents again.schedule) text → length text ≤ FILE_LIMIT →
        Means contents (Step again) (Runs (record i { policies = record { read = policies_after i choices; blocks = i.policies.blocks }; options = again.options }) (schedule_in text))
    runs_so text there within =
        let input_is : i ≡ input_with w.policies step.options w.script = ap (input_or i) w.outcome_is in
        subst (λ (j : Input). Means contents (Step again) (Runs (record j { policies = record { read = policies_after i choices; blocks = j.policies.blocks }; options = again.options }) (schedule_in text))) (sym input_is)
        (subst (λ (emulation : Emulation). Means contents (Step again) (Runs (started emulation) (schedule_in text))) (sym (emulation_is w.script_text step.options again.emulation w.script own))
        (step_means contents again script (policies_after i choices) (schedule_in text) script_file policy_files (record { text = text; content = there; within = within; says = refl })))

  pub can_be_enforced : (text : List ℕ) → CanHold (contents again.schedule) text → length text ≤ FILE_LIMIT →
      Means contents (Step again) (Runs (record i { policies = record { read = policies_after i choices; blocks = i.policies.blocks }; options = again.options }) (schedule_in text))
  can_be_enforced = runs_so (was_read contents step bytes i schedule meant)
