-- The policy that `step` has learnt and written is enforced by `step`.
use Rattle.std.proofs.Common.{◌≡◌, ◌∙◌, ◌≤◌, ◌⊎◌, inl, inr, ℕ, List, [], ◌∷◌, Ok, refl, reverse, ap, sym, subst}
use Rattle.st_command.specs.Command.{StepWords}
use Rattle.st_command.specs.Reading.{IsWithinLimits}
use Rattle.st_command.specs.Words.{Word}
use Rattle.st_command.specs.declared.command.Command.TheVariants.{Step}
use Rattle.st_command.specs.declared.given.Print.TheVariants as print
use Rattle.st_emulation.specs.declared.emulation.Emulation.{Emulation}
use Rattle.st_filter.specs.Policies.{filters_in}
use Rattle.st_filter.specs.declared.set.BinaryPolicy.{BinaryPolicy}
use Rattle.st_filter.specs.declared.set.TheConstants.{MOST_FILTERS}
use Rattle.st_law.specs.Machine.{run}
use Rattle.st_law.specs.declared.input.Input.{Input}
use Rattle.st_law.specs.declared.input.Mode.TheVariants.{Learn}
use Rattle.st_law.specs.declared.input.Options.{Options}
use Rattle.st_law.specs.declared.input.ReadSchedule.{ReadSchedule}
use Rattle.st_outside.specs.Files.{FileView, FileBytes, CanHold}
use Rattle.st_grammar.specs.Grammar.{Reads}
use Rattle.st_grammar.specs.declared.env.Env.{Env}
use Rattle.st_reading.specs.Meaning.{Contents, Meaning, Means, MeansAfterScript, MeansPolicies, MeansSchedule, Runs, SaysPolicy, SaysScript, step_input}
use Rattle.st_reading.specs.declared.refusal.Which.TheVariants as which
use Rattle.st_reading.proofs.ReadFiles.{IsStepRead, fetched, input_or, script_read, text_read}
use Rattle.st_reread.specs.Readable.{WasRead}
use Rattle.st_schedule.specs.Schedule.{schedule_in}
use Rattle.st_script.specs.Reading.{script_in}
use Rattle.st_script.specs.Startable.{input_with}
use Rattle.st_script.specs.declared.reading.ReadScript.{ReadScript}
use Rattle.st_script_names.specs.Environment.{environment_of}
use Rattle.st_statements.specs.Statements.{lines_in}
use Rattle.st_trace.specs.declared.entry.Choice.{Choice}
use Rattle.st_top.specs.Learning.{PermitsWhatWasMade, policies_after}
use Rattle.st_top.specs.Outcome.{printed}
use Rattle.st_round_trip.specs.RoundTrip.{HoldBytes, IsReadAgain, IsScriptOf, enforcing}
use Rattle.st_round_trip.proofs.OtherOptions.{env_by, env_is}
use Rattle.st_round_trip.proofs.ReadAgain.{held_once, was_read}

-- ---- the laws that this proof uses

abbrev pub WrittenIsReadAgain : Type 0
WrittenIsReadAgain =
    (contents : Contents) (step : StepWords) (input : Input) (schedule : ReadSchedule) → HoldBytes contents (step.script ∷ step.policies) → IsWithinLimits (Step step) → step.options.mode ≡ Learn → Means contents (Step step) (Runs input schedule) →
    (script : ReadScript) → IsScriptOf contents step script → (choices : List Choice) → filters_in (policies_after input choices) ≤ MOST_FILTERS →
    IsReadAgain (printed print.Policy input choices step.emulation) script.env (policies_after input choices) × IsReadAgain (printed print.Policy input choices step.emulation) (enforcing script.env) (policies_after input choices)

abbrev pub WrittenPermits : Type 0
WrittenPermits = (contents : Contents) (step : StepWords) (input : Input) (schedule : ReadSchedule) → IsWithinLimits (Step step) → step.options.mode ≡ Learn → Means contents (Step step) (Runs input schedule) →
    (choices : List Choice) → PermitsWhatWasMade input (policies_after input choices) (reverse (run input choices))

-- ---- a text of policies under a name alone

-- what `step` reads if it has one policy file
record IsReadAlone (contents : Contents) (step : StepWords) (name : Word) (i : Input) : Type 0 where
  script_text : List ℕ
  script_held : CanHold (contents step.script) script_text
  script : ReadScript
  script_is : script_in script_text step.options step.emulation ≡ Ok script
  text : List ℕ
  text_held : CanHold (contents name) text
  policies : List BinaryPolicy
  reads : Reads text script.env [] policies
  input_is : i ≡ input_with policies step.options script

read_alone : (contents : Contents) (step : StepWords) (name : Word) (i : Input) (schedule : ReadSchedule) → step.policies ≡ name ∷ [] → Means contents (Step step) (Runs i schedule) → IsReadAlone contents step name i
read_alone contents step name i schedule alone meant =
    let outcome : Meaning = Runs i schedule in
    let Scheduled : Input → Type 0 = λ input. MeansSchedule contents step input outcome in
    let x = fetched contents outcome tt step.script which.Script (λ text. SaysScript (script_in text step.options step.emulation) (λ script. MeansAfterScript contents (step_input step) Scheduled script outcome) outcome) meant in
    let s = script_read contents outcome tt (script_in x.text step.options step.emulation) (λ script. MeansAfterScript contents (step_input step) Scheduled script outcome) x.says in
    let following : List BinaryPolicy → Type 0 = λ policies. Scheduled (input_with policies step.options s.0) in
    let p = subst (λ (names : List Word). MeansPolicies contents s.0.env 1 names [] following outcome) alone s.2 in
    let f = fetched contents outcome tt name (which.Policy 1) (λ text. SaysPolicy text s.0.env [] 1 following outcome) p in
    let y = text_read contents outcome tt f.text s.0.env [] 1 following f.says in
    let z = fetched contents outcome tt step.schedule which.Schedule (λ text. outcome ≡ Runs (input_with y.0 step.options s.0) (schedule_in text)) y.2 in
    record {
      script_text = x.text;
      script_held = x.content;
      script = s.0;
      script_is = s.1;
      text = f.text;
      text_held = f.content;
      policies = y.0;
      reads = y.1;
      input_is = ap (input_or i) z.says;
    }

-- ---- the policies that were learnt

module _ (written : WrittenIsReadAgain) (contents : Contents) (step : StepWords) (i : Input) (schedule : ReadSchedule) (bytes : HoldBytes contents (step.script ∷ step.policies)) (limits : IsWithinLimits (Step step))
    (learning : step.options.mode ≡ Learn) (meant : Means contents (Step step) (Runs i schedule)) (choices : List Choice) (few : filters_in (policies_after i choices) ≤ MOST_FILTERS) where
  -- the text is read again with the environment that the same script gives under other options
  pub read_under : (w : IsStepRead WasRead contents step (Runs i schedule)) (other : Options) → other.ids ≡ step.options.ids → (emulation : Emulation) → emulation ≡ step.emulation →
      IsReadAgain (printed print.Policy i choices step.emulation) (environment_of other (lines_in w.script_text) emulation) (policies_after i choices)
  read_under w other ids emulation same_emulation =
      subst (λ (e : Emulation). IsReadAgain (printed print.Policy i choices step.emulation) (environment_of other (lines_in w.script_text) e) (policies_after i choices)) (sym same_emulation)
      (by (environment_of other (lines_in w.script_text) step.emulation) (environment_of step.options (lines_in w.script_text) step.emulation) w.script.env (env_is w.script_text step.options step.emulation w.script w.script_is)
      (env_by step.options other ids (lines_in w.script_text) step.emulation learning other.mode refl)
      (written contents step i schedule bytes limits learning meant w.script (record { text = w.script_text; there = w.script_held; is = w.script_is }) choices few))
    where
      by : (env before learnt : Env) → learnt ≡ before → (env ≡ before) ⊎ (env ≡ enforcing before) →
          IsReadAgain (printed print.Policy i choices step.emulation) learnt (policies_after i choices) × IsReadAgain (printed print.Policy i choices step.emulation) (enforcing learnt) (policies_after i choices) →
          IsReadAgain (printed print.Policy i choices step.emulation) env (policies_after i choices)
      by env before learnt same (inl is) both = subst (λ (e : Env). IsReadAgain (printed print.Policy i choices step.emulation) e (policies_after i choices)) (same ∙ sym is) both.0
      by env before learnt same (inr is) both = subst (λ (e : Env). IsReadAgain (printed print.Policy i choices step.emulation) e (policies_after i choices)) (ap enforcing same ∙ sym is) both.1

  module _ (permits : WrittenPermits) (name : Word) (holds : contents name ≡ FileBytes (printed print.Policy i choices step.emulation)) (again : StepWords) (script_is : again.script ≡ step.script) (alone : again.policies ≡ name ∷ [])
      (ids : again.options.ids ≡ step.options.ids) (same_emulation : again.emulation ≡ step.emulation) where
    -- these policies were read, with the environment of this script
    same_policies : (other : Input) (x : IsReadAlone contents again name other) → x.policies ≡ policies_after i choices
    same_policies other x =
        let w = was_read contents step bytes i schedule meant in
        let there : CanHold (contents step.script) x.script_text = subst (λ (word : Word). CanHold (contents word) x.script_text) script_is x.script_held in
        let same_script : x.script_text ≡ w.script_text = held_once (contents step.script) x.script_text w.script_text bytes.0 there w.script_held in
        let text_is : x.text ≡ printed print.Policy i choices step.emulation = subst (λ (h : FileView). CanHold h x.text) holds x.text_held in
        let own : x.script.env ≡ environment_of again.options (lines_in w.script_text) again.emulation =
        env_is x.script_text again.options again.emulation x.script x.script_is ∙ ap (λ (text : List ℕ). environment_of again.options (lines_in text) again.emulation) same_script in
        (read_under w again.options ids again.emulation same_emulation).alone x.policies
        (subst (λ (env : Env). Reads (printed print.Policy i choices step.emulation) env [] x.policies) own (subst (λ (text : List ℕ). Reads text x.script.env [] x.policies) text_is x.reads))

    pub is_enforced : (other : Input) (later : ReadSchedule) → Means contents (Step again) (Runs other later) → PermitsWhatWasMade i other.policies.read (reverse (run i choices))
    is_enforced other later meant_again =
        let x = read_alone contents again name other later alone meant_again in
        let is : other.policies.read ≡ policies_after i choices = ap (λ (input : Input). input.policies.read) x.input_is ∙ same_policies other x in
        subst (λ (policies : List BinaryPolicy). PermitsWhatWasMade i policies (reverse (run i choices))) (sym is) (permits contents step i schedule limits learning meant choices)
