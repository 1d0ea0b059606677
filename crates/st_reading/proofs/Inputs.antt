-- How an input that is read leads to what is meant after it, and how it is refused.
use Rattle.std.proofs.Common.{◌≡◌, ℕ, inl, inr, List, [], ◌∷◌, ◌++◌, take, Result, refl, ap, sym, ◌∙◌, subst, append_assoc}
use Rattle.st_filter.specs.declared.set.BinaryPolicy.{BinaryPolicy}
use Rattle.st_law.specs.declared.input.Input.{Input}
use Rattle.st_law.specs.declared.input.ReadSchedule.{ReadSchedule}
use Rattle.st_schedule.specs.Schedule.{schedule_in}
use Rattle.st_script.specs.Startable.{input_with}
use Rattle.st_script.specs.declared.reading.ReadScript.{ReadScript}
use Rattle.st_command.specs.Words.{Word}
use Rattle.st_command.specs.Command.{StepWords}
use Rattle.st_command.specs.declared.command.Command.TheVariants as command
use Rattle.st_reading.specs.Ends.{AreAskedTo, RefusesFiles}
use Rattle.st_reading.specs.Files.{ArePolicies, FetchRefused, Has, InputEnds, InputRefused, IsInput, IsScript}
use Rattle.st_reading.specs.Meaning.{Contents, Fetches, InputWords, Meaning, Means, MeansAfterScript, MeansInput, MeansPolicies, Runs, step_input}
use Rattle.st_reading.specs.declared.refusal.Refusal.{Refusal}
use Rattle.st_reading.specs.declared.refusal.Which.{Which}
use Rattle.st_reading.specs.declared.refusal.Which.TheVariants as which
use Rattle.st_reading.proofs.Leads.{leads_has, leads_policies, leads_script}
use Rattle.st_reading.proofs.Refusals.{append_nil, fetch_refused, policies_refused, script_refused}

module _ (contents : Contents) (words : InputWords) (R : Input → Meaning → Type 0) where
  after_script : (script : ReadScript) → IsScript (contents words.script) words.options words.emulation script → (o : Meaning) → MeansAfterScript contents words (λ input. R input o) script o → MeansInput contents words (λ input. R input o) o
  after_script script is o m = leads_script (contents words.script) words.options words.emulation script (λ script. MeansAfterScript contents words (λ input. R input o) script o) o is m

  -- an input that is read leads to what is meant after it
  pub after_input : (input : Input) → IsInput contents words input → (o : Meaning) → R input o → MeansInput contents words (λ input. R input o) o
  after_input input is o m =
      let From : List BinaryPolicy → Type 0 = λ policies. R (input_with policies words.options is.script) o in
      after_script is.script is.script_is o (subst (λ ns. MeansPolicies contents is.script.env 1 ns [] From o) (append_nil words.policies)
      (leads_policies contents is.script.env From o words.policies [] 1 [] is.policies is.policies_are (subst (λ i. R i o) is.input_is m)))

  -- an input that is refused is what a command means, if it means what follows an input
  pub input_refused : (IsMeaning : Meaning → Type 0) (names : Which → List Word) (faults faults_after : ℕ) (old new : List Word) → ((o : Meaning) → MeansInput contents words (λ input. R input o) o → IsMeaning o) →
      names which.Script ≡ words.script ∷ [] → ((n : ℕ) → names (which.Policy n) ≡ words.script ∷ take n words.policies) →
      (r : Refusal) → InputRefused contents words faults faults_after old new r → RefusesFiles contents IsMeaning names faults faults_after old new r
  input_refused IsMeaning names faults faults_after old new lead first more r (inl p) =
      script_refused contents IsMeaning names faults faults_after old new words.script words.options words.emulation (λ script o. MeansAfterScript contents words (λ input. R input o) script o) first
      (p.1 ∙ ap (λ ns. old ++ ns) (sym first)) lead r p.0
  input_refused IsMeaning names faults faults_after old new lead first more r (inr p) =
      policies_refused contents IsMeaning names faults faults_after old new p.0.env words.policies (words.script ∷ []) (λ policies o. R (input_with policies words.options p.0) o)
      (λ o m. lead o (after_script p.0 p.1 o m)) more r p.2

-- how the reading of an input ends, with the names of its policy files in another form
pub ends_from : (contents : Contents) (words : InputWords) (names : List Word) → names ≡ words.policies → (faults faults_after : ℕ) (old new : List Word) (result : Result Input Refusal) →
    InputEnds contents (record words { policies = names }) faults faults_after old new result → InputEnds contents words faults faults_after old new result
ends_from contents words names is faults faults_after old new result ends =
    subst (λ (ns : List Word). InputEnds contents (record words { policies = ns }) faults faults_after old new result) is ends

-- ---- a last file after an input

module _ (contents : Contents) (words : InputWords) (last : Word) (w : Which) (M : Input → List ℕ → Meaning) where
  -- what is meant after an input by what the text of the last file gives
  abbrev pub AfterLast : Input → Meaning → Type 0
  AfterLast input o = Fetches (contents last) w (λ text. o ≡ M input text) o

  -- with all files read, what the last text gives is meant
  pub last_means : (input : Input) → IsInput contents words input → (o : Meaning) → Has (contents last) (λ text. o ≡ M input text) → MeansInput contents words (λ input. AfterLast input o) o
  last_means input is o has = after_input contents words AfterLast input is o (leads_has (contents last) w (λ text. o ≡ M input text) (λ text. o ≡ M input text) o has has.says)

  last_asked : (old new : List Word) → new ≡ (old ++ words.script ∷ words.policies) ++ last ∷ [] → new ≡ old ++ words.script ∷ (words.policies ++ last ∷ [])
  last_asked old new asked = asked ∙ append_assoc old (words.script ∷ words.policies) (last ∷ [])

  module _ (IsMeaning : Meaning → Type 0) (lead : (o : Meaning) → MeansInput contents words (λ input. AfterLast input o) o → IsMeaning o) (names : Which → List Word) (named : names w ≡ words.script ∷ (words.policies ++ last ∷ [])) where
    pub last_asked_to : (old new : List Word) → new ≡ (old ++ words.script ∷ words.policies) ++ last ∷ [] → AreAskedTo names w old new
    last_asked_to old new asked = last_asked old new asked ∙ ap (λ ns. old ++ ns) (sym named)

    -- the last file is read
    pub last_read : (old new : List Word) (input : Input) → IsInput contents words input → new ≡ (old ++ words.script ∷ words.policies) ++ last ∷ [] → (o : Meaning) → Has (contents last) (λ text. o ≡ M input text) → IsMeaning o × AreAskedTo names w old new
    last_read old new input is asked o has = (lead o (last_means input is o has), last_asked_to old new asked)

    -- the last file is refused
    pub last_refused : (faults faults_after : ℕ) (old new : List Word) (input : Input) → IsInput contents words input → new ≡ (old ++ words.script ∷ words.policies) ++ last ∷ [] → (r : Refusal) →
        FetchRefused (contents last) w faults faults_after r → RefusesFiles contents IsMeaning names faults faults_after old new r
    last_refused faults faults_after old new input is asked r p =
        fetch_refused contents IsMeaning names faults faults_after old new w last (words.script ∷ words.policies) named (last_asked_to old new asked) (λ text o. o ≡ M input text)
        (λ o m. lead o (after_input contents words AfterLast input is o m)) r p

-- with all its files read, `step` means to run this input
pub step_means : (contents : Contents) (step : StepWords) (script : ReadScript) (policies : List BinaryPolicy) (schedule : ReadSchedule) → IsScript (contents step.script) step.options step.emulation script →
    ArePolicies contents script.env step.policies [] policies → Has (contents step.schedule) (λ text. schedule ≡ schedule_in text) → Means contents (command.Step step) (Runs (input_with policies step.options script) schedule)
step_means contents step script policies schedule is are has =
    let input : Input = input_with policies step.options script in
    last_means contents (step_input step) step.schedule which.Schedule (λ input text. Runs input (schedule_in text)) input
    (record { script = script; policies = policies; script_is = is; policies_are = are; input_is = refl })
    (Runs input schedule) (record { text = has.text; content = has.content; within = has.within; says = ap (Runs input) has.says })
