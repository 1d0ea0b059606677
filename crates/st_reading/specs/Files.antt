-- How the reading of each kind of file ends.
use Rattle.std.specs.Prelude.{◌≡◌, ◌⊎◌, ℕ, ◌+◌, ◌≤◌, List, [], ◌∷◌, ◌++◌, length, Option, Some, None, is_some, Result, Ok, Err}
use Rattle.st_outside.specs.Count.{HasRisen}
use Rattle.st_outside.specs.Files.{FileView, CanHold, CanLack, CanExceed, CanFit}
use Rattle.st_outside.specs.declared.files.TheConstants.{FILE_LIMIT}
use Rattle.st_filter.specs.declared.set.BinaryPolicy.{BinaryPolicy}
use Rattle.st_emulation.specs.declared.emulation.Emulation.{Emulation}
use Rattle.st_grammar.specs.declared.env.Env.{Env}
use Rattle.st_grammar.specs.Reading.{refusal_in}
use Rattle.st_grammar.specs.Grammar as policy
use Rattle.st_law.specs.declared.input.Input.{Input}
use Rattle.st_law.specs.declared.input.Options.{Options}
use Rattle.st_law.specs.declared.input.ReadSchedule.{ReadSchedule}
use Rattle.st_schedule.specs.Schedule.{schedule_in}
use Rattle.st_script.specs.Reading.{script_in}
use Rattle.st_script.specs.Startable.{input_with}
use Rattle.st_script.specs.declared.reading.ReadScript.{ReadScript}
use Rattle.st_command.specs.Words.{Word}
use Rattle.st_command.specs.Command.{CheckWords, check_options}
use Rattle.st_command.specs.Grammar.{maybe_word}
use Rattle.st_reading.specs.Bare.{bare_env}
use Rattle.st_reading.specs.Meaning.{Contents, InputWords}
use Rattle.st_reading.specs.declared.refusal.Refusal.{Refusal}
use Rattle.st_reading.specs.declared.refusal.Refusal.TheVariants.{Missing, TooLong, Script, Policy, ReadFault, NoMemory}
use Rattle.st_reading.specs.declared.refusal.Which.{Which}
use Rattle.st_reading.specs.declared.refusal.Which.TheVariants as which

-- a name holds a text that a fetch can give, and the text has this property
pub record Has (contents : FileView) (P : List ℕ → Type 0) : Type 0 where
  pub text : List ℕ
  pub content : CanHold contents text
  pub within : length text ≤ FILE_LIMIT
  pub says : P text

-- why a file was not fetched; out of memory only if the file can fit
abbrev pub FetchRefused : FileView → Which → ℕ → ℕ → Refusal → Type 0
FetchRefused contents w old new (Missing other) = (other ≡ w) × CanLack contents
FetchRefused contents w old new (TooLong other) = (other ≡ w) × CanExceed contents
FetchRefused contents w old new ReadFault = HasRisen old new
FetchRefused contents w old new NoMemory = CanFit contents
FetchRefused contents w old new (Script fault) = ⊥
FetchRefused contents w old new (Policy n fault) = ⊥

-- ---- scripts

-- the file is read as this script
abbrev pub IsScript : FileView → Options → Emulation → ReadScript → Type 0
IsScript contents options emulation script = Has contents (λ text. script_in text options emulation ≡ Ok script)

-- why a script was not read
abbrev pub ScriptRefused : FileView → Options → Emulation → ℕ → ℕ → Refusal → Type 0
ScriptRefused contents options emulation old new (Script fault) = Has contents (λ text. script_in text options emulation ≡ Err fault)
ScriptRefused contents options emulation old new refusal = FetchRefused contents which.Script old new refusal

-- how the reading of a script ends
abbrev pub ScriptEnds : FileView → Options → Emulation → ℕ → ℕ → Result ReadScript Refusal → Type 0
ScriptEnds contents options emulation old new (Ok script) = IsScript contents options emulation script
ScriptEnds contents options emulation old new (Err refusal) = ScriptRefused contents options emulation old new refusal

-- ---- policies

-- the file is read as these policies, after those of the files before it
abbrev pub IsPolicy : FileView → Env → List BinaryPolicy → List BinaryPolicy → Type 0
IsPolicy contents env before policies = Has contents (λ text. policy.Reads text env before policies)

-- why policy file n was not read
abbrev pub PolicyRefused : FileView → Env → List BinaryPolicy → ℕ → ℕ → ℕ → Refusal → Type 0
PolicyRefused contents env before n old new (Policy other fault) = (other ≡ n) × Has contents (λ text. refusal_in text env before ≡ Some fault)
PolicyRefused contents env before n old new refusal = FetchRefused contents (which.Policy n) old new refusal

-- how the reading of a policy file ends, with these policies afterwards
abbrev pub PolicyEnds : FileView → Env → List BinaryPolicy → ℕ → ℕ → ℕ → List BinaryPolicy → Result (Unit {0}) Refusal → Type 0
PolicyEnds contents env before n old new policies (Ok nothing) = IsPolicy contents env before policies
PolicyEnds contents env before n old new policies (Err refusal) = PolicyRefused contents env before n old new refusal

-- the files of these names are read as these policies, after the policies before them
abbrev pub ArePolicies : Contents → Env → List Word → List BinaryPolicy → List BinaryPolicy → Type 0
ArePolicies contents env [] before policies = policies ≡ before
ArePolicies contents env (name ∷ names) before policies =
    (more : List BinaryPolicy) × IsPolicy (contents name) env before more × ArePolicies contents env names more policies

-- policy file n of these names is reached, and the files before it are read as these policies
pub record ReachesFile (contents : Contents) (env : Env) (names : List Word) (n : ℕ) (name : Word) (policies : List BinaryPolicy) : Type 0 where
  pub front : List Word
  pub back : List Word
  pub names_are : names ≡ front ++ name ∷ back
  pub number : n ≡ length front + 1
  pub read : ArePolicies contents env front [] policies

-- why policy files were not read: one was refused, and those before it were read; the names up to it were asked for
pub record PoliciesRefused (contents : Contents) (env : Env) (names : List Word) (faults faults_after : ℕ) (old new : List Word) (refusal : Refusal) : Type 0 where
  pub n : ℕ
  pub name : Word
  pub policies : List BinaryPolicy
  pub comes : ReachesFile contents env names n name policies
  pub refused : PolicyRefused (contents name) env policies n faults faults_after refusal
  pub asked : new ≡ old ++ (comes.front ++ name ∷ [])

-- how the reading of policy files ends
abbrev pub PoliciesEnd : Contents → Env → List Word → ℕ → ℕ → List Word → List Word → Result (List BinaryPolicy) Refusal → Type 0
PoliciesEnd contents env names faults faults_after old new (Ok policies) = ArePolicies contents env names [] policies × (new ≡ old ++ names)
PoliciesEnd contents env names faults faults_after old new (Err refusal) = PoliciesRefused contents env names faults faults_after old new refusal

-- ---- inputs

-- the files of these words are read as this input
pub record IsInput (contents : Contents) (words : InputWords) (input : Input) : Type 0 where
  pub script : ReadScript
  pub policies : List BinaryPolicy
  pub script_is : IsScript (contents words.script) words.options words.emulation script
  pub policies_are : ArePolicies contents script.env words.policies [] policies
  pub input_is : input ≡ input_with policies words.options script

-- why an input was not read, and the names that were asked for: the script was refused, or after it one of the policy files
abbrev pub InputRefused : Contents → InputWords → ℕ → ℕ → List Word → List Word → Refusal → Type 0
InputRefused contents words faults faults_after old new refusal =
    (ScriptRefused (contents words.script) words.options words.emulation faults faults_after refusal × (new ≡ old ++ words.script ∷ [])) ⊎
    ((script : ReadScript) × IsScript (contents words.script) words.options words.emulation script × PoliciesRefused contents script.env words.policies faults faults_after (old ++ words.script ∷ []) new refusal)

-- how the reading of an input ends
abbrev pub InputEnds : Contents → InputWords → ℕ → ℕ → List Word → List Word → Result Input Refusal → Type 0
InputEnds contents words faults faults_after old new (Ok input) = IsInput contents words input × (new ≡ old ++ words.script ∷ words.policies)
InputEnds contents words faults faults_after old new (Err refusal) = InputRefused contents words faults faults_after old new refusal

-- ---- schedules

-- how the reading of a schedule ends
abbrev pub ScheduleEnds : FileView → ℕ → ℕ → Result ReadSchedule Refusal → Type 0
ScheduleEnds contents old new (Ok schedule) = Has contents (λ text. schedule ≡ schedule_in text)
ScheduleEnds contents old new (Err refusal) = FetchRefused contents which.Schedule old new refusal

-- ---- traces

-- how the fetching of a trace ends
abbrev pub TraceEnds : FileView → ℕ → ℕ → Result (List ℕ) Refusal → Type 0
TraceEnds contents old new (Ok text) = Has contents (λ held. text ≡ held)
TraceEnds contents old new (Err refusal) = FetchRefused contents which.Trace old new refusal

-- ---- the environment that `check` reads its policy with

-- the environment of a script, or the bare one if there is no script
abbrev pub GivesEnv : Contents → CheckWords → Option Word → Env → Type 0
GivesEnv contents check None env = env ≡ bare_env (is_some check.ids) check.emulation
GivesEnv contents check (Some name) env = (script : ReadScript) × IsScript (contents name) (check_options check) check.emulation script × (env ≡ script.env)

-- why there is no environment: the script was not read, or there is no script and memory ran out
abbrev pub EnvRefused : Contents → CheckWords → Option Word → ℕ → ℕ → Refusal → Type 0
EnvRefused contents check None faults faults_after refusal = refusal ≡ NoMemory
EnvRefused contents check (Some name) faults faults_after refusal = ScriptRefused (contents name) (check_options check) check.emulation faults faults_after refusal

-- how the reading of the environment ends; without a script no file is asked for
abbrev pub EnvEnds : Contents → CheckWords → ℕ → ℕ → List Word → List Word → Result Env Refusal → Type 0
EnvEnds contents check faults faults_after old new (Ok env) = GivesEnv contents check check.script env × (new ≡ old ++ maybe_word check.script)
EnvEnds contents check faults faults_after old new (Err refusal) = EnvRefused contents check check.script faults faults_after refusal × (new ≡ old ++ maybe_word check.script)
