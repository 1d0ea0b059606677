-- A schedule that `step` has written makes the same run again.
use Rattle.std.proofs.Common.{◌≡◌, ◌≤◌, ◌+◌, inl, inr, ℕ, List, [], ◌∷◌, length, Result, Ok, Err, refl, ap, sym, subst}
use Rattle.st_command.specs.Command.{StepWords}
use Rattle.st_command.specs.Reading.{IsWithinLimits}
use Rattle.st_command.specs.Words.{Word}
use Rattle.st_command.specs.declared.command.Command.TheVariants.{Step}
use Rattle.st_command.specs.declared.given.Print.TheVariants as print
use Rattle.st_filter.specs.declared.set.BinaryPolicy.{BinaryPolicy}
use Rattle.st_grammar.specs.declared.env.Env.{Env}
use Rattle.st_law.specs.Inputs.{IsStartable}
use Rattle.st_law.specs.Schedules.{Choices, played}
use Rattle.st_law.specs.declared.input.Input.{Input}
use Rattle.st_law.specs.declared.input.ReadSchedule.{ReadSchedule}
use Rattle.st_outside.specs.Files.{FileView, FileBytes, CanHold}
use Rattle.st_outside.specs.declared.files.TheConstants.{FILE_LIMIT}
use Rattle.st_reading.specs.Meaning.{Fetches, Contents, Means, MeansAfterScript, MeansPolicies, MeansSchedule, Runs, SaysPolicy, SaysScript, step_input}
use Rattle.st_reading.specs.Runnable.{IsRunnable}
use Rattle.st_reading.specs.declared.refusal.Which.{Which}
use Rattle.st_reading.specs.declared.refusal.Which.TheVariants as which
use Rattle.st_report.specs.ScheduleText.{schedule_text}
use Rattle.st_schedule.specs.Schedule.{schedule_in}
use Rattle.st_script.specs.Reading.{script_in}
use Rattle.st_script.specs.Startable.{input_with}
use Rattle.st_script.specs.declared.reading.ReadScript.{ReadScript}
use Rattle.st_script_faults.specs.declared.fault.ScriptFault.{ScriptFault}
use Rattle.st_top.specs.Outcome.{printed}
use Rattle.st_trace.specs.declared.entry.Choice.{Choice}
use Rattle.st_round_trip.specs.RoundTrip.{Plays, with_schedule}
use Rattle.st_round_trip.proofs.ReadAgain.{AreRunnable}

-- ---- what is read before the schedule is the same

module _ (contents : Contents) (i : Input) (before later : ReadSchedule) where
  file_again : (h : FileView) (w : Which) (Read Other : List ℕ → Type 0) → ((text : List ℕ) → Read text → Other text) → Fetches h w Read (Runs i before) → Fetches h w Other (Runs i later)
  file_again h w Read Other f (inl e) = absurd (cc)
  file_again h w Read Other f (inr (inl p)) = let e = p.1 in absurd (cc)
  file_again h w Read Other f (inr (inr (inl p))) = let e = p.1 in absurd (cc)
  file_again h w Read Other f (inr (inr (inr p))) = inr (inr (inr (p.0, p.1, p.2, f p.0 p.3)))

  script_again : (said : Result ReadScript ScriptFault) (Read Other : ReadScript → Type 0) → ((script : ReadScript) → Read script → Other script) → SaysScript said Read (Runs i before) → SaysScript said Other (Runs i later)
  script_again (Ok script) Read Other f x = f script x
  script_again (Err fault) Read Other f x = absurd (cc)

  policy_again : (text : List ℕ) (env : Env) (old : List BinaryPolicy) (n : ℕ) (Read Other : List BinaryPolicy → Type 0) → ((policies : List BinaryPolicy) → Read policies → Other policies) →
      SaysPolicy text env old n Read (Runs i before) → SaysPolicy text env old n Other (Runs i later)
  policy_again text env old n Read Other f (inl p) = inl (p.0, p.1, f p.0 p.2)
  policy_again text env old n Read Other f (inr p) = let e = p.2 in absurd (cc)

  policies_again : (env : Env) (n : ℕ) (names : List Word) (old : List BinaryPolicy) (Read Other : List BinaryPolicy → Type 0) → ((policies : List BinaryPolicy) → Read policies → Other policies) →
      MeansPolicies contents env n names old Read (Runs i before) → MeansPolicies contents env n names old Other (Runs i later)
  policies_again env n [] old Read Other f x = f old x
  policies_again env n (name ∷ names) old Read Other f x =
      file_again (contents name) (which.Policy n)
      (λ text. SaysPolicy text env old n (λ policies. MeansPolicies contents env (n + 1) names policies Read (Runs i before)) (Runs i before))
      (λ text. SaysPolicy text env old n (λ policies. MeansPolicies contents env (n + 1) names policies Other (Runs i later)) (Runs i later))
      (λ text. policy_again text env old n (λ policies. MeansPolicies contents env (n + 1) names policies Read (Runs i before)) (λ policies. MeansPolicies contents env (n + 1) names policies Other (Runs i later))
      (λ policies. policies_again env (n + 1) names policies Read Other f))
      x

-- ---- the schedule is read from its new file

module _ (contents : Contents) (step : StepWords) (i : Input) (before : ReadSchedule) (name : Word) (text : List ℕ) (there : contents name ≡ FileBytes text) (fits : length text ≤ FILE_LIMIT) where
  input_same : (policies : List BinaryPolicy) (script : ReadScript) (read : ReadSchedule) → Runs i before ≡ Runs (input_with policies step.options script) read → i ≡ input_with policies step.options script
  input_same policies script read e = cc

  schedule_again : (script : ReadScript) (policies : List BinaryPolicy) → MeansSchedule contents step (input_with policies step.options script) (Runs i before) → MeansSchedule contents (with_schedule step name) (input_with policies step.options script) (Runs i (schedule_in text))
  schedule_again script policies (inl e) = absurd (cc)
  schedule_again script policies (inr (inl p)) = let e = p.1 in absurd (cc)
  schedule_again script policies (inr (inr (inl p))) = let e = p.1 in absurd (cc)
  schedule_again script policies (inr (inr (inr p))) =
      inr (inr (inr (text, subst (λ (h : FileView). CanHold h text) (sym there) refl, fits, ap (λ (input : Input). Runs input (schedule_in text)) (input_same policies script (schedule_in p.0) p.3))))

  step_again : Means contents (Step step) (Runs i before) → Means contents (Step (with_schedule step name)) (Runs i (schedule_in text))
  step_again meant =
      let later : ReadSchedule = schedule_in text in
      let again : StepWords = with_schedule step name in
      let One : Input → Type 0 = λ input. MeansSchedule contents step input (Runs i before) in
      let Other : Input → Type 0 = λ input. MeansSchedule contents again input (Runs i later) in
      file_again contents i before later (contents step.script) which.Script
      (λ words. SaysScript (script_in words step.options step.emulation) (λ script. MeansAfterScript contents (step_input step) One script (Runs i before)) (Runs i before))
      (λ words. SaysScript (script_in words step.options step.emulation) (λ script. MeansAfterScript contents (step_input again) Other script (Runs i later)) (Runs i later))
      (λ words. script_again contents i before later (script_in words step.options step.emulation) (λ script. MeansAfterScript contents (step_input step) One script (Runs i before)) (λ script. MeansAfterScript contents (step_input again) Other script (Runs i later))
      (λ script. policies_again contents i before later script.env 1 step.policies [] (λ policies. One (input_with policies step.options script)) (λ policies. Other (input_with policies step.options script))
      (λ policies. schedule_again script policies)))
      meant

-- the schedule that is printed of choices that were played is played as the same choices
abbrev pub PlayAgain : Type 0
PlayAgain = (input : Input) → IsStartable input → (schedule : ReadSchedule) (choices : List Choice) → played input schedule ≡ Choices choices → played input (schedule_in (schedule_text choices)) ≡ Choices choices

pub plays_again : AreRunnable → PlayAgain → (contents : Contents) (step : StepWords) (i : Input) (schedule : ReadSchedule) → IsWithinLimits (Step step) → Means contents (Step step) (Runs i schedule) → (choices : List Choice) → played i schedule ≡ Choices choices →
    (name : Word) → contents name ≡ FileBytes (printed print.Schedule i choices step.emulation) → length (printed print.Schedule i choices step.emulation) ≤ FILE_LIMIT → Plays contents (with_schedule step name) i choices
plays_again runnable again contents step i schedule limits meant choices e name there fits = record {
  schedule = schedule_in (printed print.Schedule i choices step.emulation);
  meant = step_again contents step i schedule name (printed print.Schedule i choices step.emulation) there fits meant;
  played_to = again i (startable_by (runnable contents step i schedule meant)) schedule choices e;
} where
  startable_by : IsRunnable step i → IsStartable i
  startable_by r = (r.can_run limits.1 limits.2).startable
