-- What has to be read if a command means a run or a text.
use Rattle.std.proofs.Common.{◌≡◌, ℕ, ◌+◌, ◌≤◌, inl, inr, List, [], ◌∷◌, length, Result, Ok, Err, refl, subst}
use Rattle.st_outside.specs.Files.{FileView, CanHold}
use Rattle.st_outside.specs.declared.files.TheConstants.{FILE_LIMIT}
use Rattle.st_filter.specs.declared.set.BinaryPolicy.{BinaryPolicy}
use Rattle.st_grammar.specs.Grammar.{Reads}
use Rattle.st_grammar.specs.declared.env.Env.{Env}
use Rattle.st_law.specs.declared.input.Input.{Input}
use Rattle.st_schedule.specs.Schedule.{schedule_in}
use Rattle.st_script_faults.specs.declared.fault.ScriptFault.{ScriptFault}
use Rattle.st_script.specs.Reading.{script_in}
use Rattle.st_script.specs.Startable.{input_with}
use Rattle.st_script.specs.declared.reading.ReadScript.{ReadScript}
use Rattle.st_command.specs.Words.{Word}
use Rattle.st_command.specs.Command.{StepWords}
use Rattle.st_reading.specs.Files.{Has}
use Rattle.st_reading.specs.Meaning.{Contents, InputWords, Meaning, Stops, Refuses, Runs, Replays, Prints, Fetches, SaysScript, SaysPolicy, MeansPolicies, MeansAfterScript, MeansInput, MeansSchedule, MeansStep, step_input}
use Rattle.st_reading.specs.declared.refusal.Which.{Which}
use Rattle.st_reading.specs.declared.refusal.Which.TheVariants as which

-- a meaning is neither a stop nor a refusal
abbrev pub IsRead : Meaning → Type 0
IsRead (Stops w) = ⊥
IsRead (Refuses refusal) = ⊥
IsRead (Runs input schedule) = Unit {0}
IsRead (Replays input text) = Unit {0}
IsRead (Prints text) = Unit {0}

-- a property of policies that were read with this environment
abbrev pub PolicyProperty : Type 1
PolicyProperty = Env → List BinaryPolicy → Type 0

-- the property still holds when this policy file is read too
abbrev pub IsKept : PolicyProperty → FileView → Type 0
IsKept P view = (env : Env) (text : List ℕ) (old set : List BinaryPolicy) → CanHold view text → Reads text env old set → P env old → P env set

-- the property still holds with the file of each of some names
abbrev pub AreKept : PolicyProperty → Contents → List Word → Type 0
AreKept P contents [] = Unit {0}
AreKept P contents (name ∷ names) = IsKept P (contents name) × AreKept P contents names

-- what every file preserves, the files of some names preserve
pub each_kept : (P : PolicyProperty) (contents : Contents) → ((name : Word) → IsKept P (contents name)) → (names : List Word) → AreKept P contents names
each_kept P contents keeps [] = tt
each_kept P contents keeps (name ∷ names) = (keeps name, each_kept P contents keeps names)

module _ (contents : Contents) (outcome : Meaning) (read : IsRead outcome) where
  -- each file that is reached is fetched
  pub fetched : (name : Word) (w : Which) (Read : List ℕ → Type 0) → Fetches (contents name) w Read outcome → Has (contents name) Read
  fetched name w Read (inl is) = absurd (subst IsRead is read)
  fetched name w Read (inr (inl p)) = absurd (subst IsRead p.1 read)
  fetched name w Read (inr (inr (inl p))) = absurd (subst IsRead p.1 read)
  fetched name w Read (inr (inr (inr p))) = record { text = p.0; content = p.1; within = p.2; says = p.3 }

  pub script_read : (said : Result ReadScript ScriptFault) (Read : ReadScript → Type 0) → SaysScript said Read outcome → (script : ReadScript) × (said ≡ Ok script) × Read script
  script_read (Ok script) Read meant = (script, refl, meant)
  script_read (Err fault) Read meant = absurd (subst IsRead meant read)

  pub text_read : (text : List ℕ) (env : Env) (before : List BinaryPolicy) (n : ℕ) (Read : List BinaryPolicy → Type 0) → SaysPolicy text env before n Read outcome →
      (policies : List BinaryPolicy) × Reads text env before policies × Read policies
  text_read text env before n Read (inl p) = p
  text_read text env before n Read (inr p) = absurd (subst IsRead p.2 read)

  -- policies are read that have a property which each file preserves
  pub policies_read : (P : PolicyProperty) (env : Env) (Read : List BinaryPolicy → Type 0) (names : List Word) → AreKept P contents names → (n : ℕ) (before : List BinaryPolicy) → P env before →
      MeansPolicies contents env n names before Read outcome → (policies : List BinaryPolicy) × P env policies × Read policies
  policies_read P env Read [] keeps n before kept meant = (before, kept, meant)
  policies_read P env Read (name ∷ names) keeps n before kept meant =
      let further : List BinaryPolicy → Type 0 = λ policies. MeansPolicies contents env (n + 1) names policies Read outcome in
      let x = fetched name (which.Policy n) (λ text. SaysPolicy text env before n further outcome) meant in
      let y = text_read x.text env before n further x.says in
      policies_read P env Read names keeps.1 (n + 1) y.0 (keeps.0 env x.text before y.0 x.content y.1 kept) y.2

-- ---- inputs

-- what was read as an input, if a run, a replay or a text is meant
pub record IsInputRead (P : PolicyProperty) (contents : Contents) (words : InputWords) (Read : Input → Type 0) : Type 0 where
  pub script_text : List ℕ
  pub script_held : CanHold (contents words.script) script_text
  pub script_within : length script_text ≤ FILE_LIMIT
  pub script : ReadScript
  pub script_is : script_in script_text words.options words.emulation ≡ Ok script
  pub policies : List BinaryPolicy
  pub kept : P script.env policies
  pub says : Read (input_with policies words.options script)

pub input_read : (P : PolicyProperty) → ((env : Env) → P env []) → (contents : Contents) (words : InputWords) → AreKept P contents words.policies → (outcome : Meaning) → IsRead outcome → (Read : Input → Type 0) →
    MeansInput contents words Read outcome → IsInputRead P contents words Read
input_read P none contents words keeps outcome read Read meant =
    let x = fetched contents outcome read words.script which.Script (λ text. SaysScript (script_in text words.options words.emulation) (λ script. MeansAfterScript contents words Read script outcome) outcome) meant in
    let s = script_read contents outcome read (script_in x.text words.options words.emulation) (λ script. MeansAfterScript contents words Read script outcome) x.says in
    let p = policies_read contents outcome read P s.0.env (λ policies. Read (input_with policies words.options s.0)) words.policies keeps 1 [] (none s.0.env) s.2 in
    record {
      script_text = x.text;
      script_held = x.content;
      script_within = x.within;
      script = s.0;
      script_is = s.1;
      policies = p.0;
      kept = p.1;
      says = p.2;
    }

-- ---- `step`

-- what `step` has read, if it means a run or a text
pub record IsStepRead (P : PolicyProperty) (contents : Contents) (step : StepWords) (outcome : Meaning) : Type 0 where
  pub script_text : List ℕ
  pub script_held : CanHold (contents step.script) script_text
  pub script_within : length script_text ≤ FILE_LIMIT
  pub script : ReadScript
  pub script_is : script_in script_text step.options step.emulation ≡ Ok script
  pub policies : List BinaryPolicy
  pub kept : P script.env policies
  pub schedule_text : List ℕ
  pub schedule_held : CanHold (contents step.schedule) schedule_text
  pub outcome_is : outcome ≡ Runs (input_with policies step.options script) (schedule_in schedule_text)

pub step_read : (P : PolicyProperty) → ((env : Env) → P env []) → (contents : Contents) (step : StepWords) → AreKept P contents step.policies → (outcome : Meaning) → IsRead outcome → MeansStep contents step outcome → IsStepRead P contents step outcome
step_read P none contents step keeps outcome read meant =
    let x = input_read P none contents (step_input step) keeps outcome read (λ input. MeansSchedule contents step input outcome) meant in
    let c = fetched contents outcome read step.schedule which.Schedule (λ text. outcome ≡ Runs (input_with x.policies step.options x.script) (schedule_in text)) x.says in
    record {
      script_text = x.script_text;
      script_held = x.script_held;
      script_within = x.script_within;
      script = x.script;
      script_is = x.script_is;
      policies = x.policies;
      kept = x.kept;
      schedule_text = c.text;
      schedule_held = c.content;
      outcome_is = c.says;
    }

-- the input of a run, otherwise this other input
abbrev pub input_or : Input → Meaning → Input
input_or other (Runs i s) = i
input_or other (Replays i text) = i
input_or other _ = other
