-- What a command and its files mean, before anything runs: a refusal, the input of a run with its schedule or with a printed trace, or a text.
-- Each case applies only if those before it don't.
use Rattle.std.specs.Prelude.{◌≡◌, ℕ, ◌+◌, ◌≤◌, ◌⊎◌, Bool, true, false, List, [], ◌∷◌, ◌++◌, length, take, Option, Some, None, is_some, Result, Ok, Err}
use Rattle.st_outside.specs.Files.{FileView, Unknown, Absent, FileBytes, CanHold, CanLack, CanExceed}
use Rattle.st_outside.specs.declared.files.TheConstants.{FILE_LIMIT}
use Rattle.st_emulation.specs.declared.emulation.Emulation.{Emulation}
use Rattle.st_filter.specs.declared.set.BinaryPolicy.{BinaryPolicy}
use Rattle.st_grammar.specs.declared.env.Env.{Env}
use Rattle.st_grammar.specs.declared.fault.PolicyRefusal.{PolicyRefusal}
use Rattle.st_printing.specs.Canon.{canon}
use Rattle.st_grammar.specs.Reading.{refusal_in}
use Rattle.st_grammar.specs.Grammar as policy
use Rattle.st_law.specs.declared.input.Input.{Input}
use Rattle.st_law.specs.declared.input.Options.{Options}
use Rattle.st_law.specs.declared.input.ReadSchedule.{ReadSchedule}
use Rattle.st_schedule.specs.Schedule.{schedule_in}
use Rattle.st_script_faults.specs.declared.fault.ScriptFault.{ScriptFault}
use Rattle.st_script.specs.Reading.{script_in}
use Rattle.st_script.specs.Startable.{input_with}
use Rattle.st_script.specs.declared.reading.ReadScript.{ReadScript}
use Rattle.st_command.specs.Words.{Word}
use Rattle.st_command.specs.Command.{StepWords, ReplayWords, CheckWords, check_options}
use Rattle.st_command.specs.Grammar.{maybe_word}
use Rattle.st_command.specs.declared.command.Command.{Command}
use Rattle.st_command.specs.declared.command.Command.TheVariants as command
use Rattle.st_reading.specs.Bare.{bare_env}
use Rattle.st_reading.specs.declared.refusal.Refusal.{Refusal}
use Rattle.st_reading.specs.declared.refusal.Refusal.TheVariants.{Missing, TooLong, Script, Policy}
use Rattle.st_reading.specs.declared.refusal.Which.{Which}
use Rattle.st_reading.specs.declared.refusal.Which.TheVariants as which

-- what each name holds, as far as it is known
abbrev pub Contents : Type 0
Contents = Word → FileView

-- what a command means: a stop at a file that can't be read, a refusal, a run by this schedule, the replay of this printed trace, or a text
-- that is printed without a run
pub data Meaning : Type 0 where
  Stops : Which → Meaning
  Refuses : Refusal → Meaning
  Runs : Input → ReadSchedule → Meaning
  Replays : Input → List ℕ → Meaning
  Prints : List ℕ → Meaning

-- whether an outcome is a stop, which any file that is reached can cause
abbrev pub is_stop : Meaning → Bool
is_stop (Stops w) = true
is_stop (Refuses refusal) = false
is_stop (Runs input schedule) = false
is_stop (Replays input text) = false
is_stop (Prints text) = false

-- ---- files

-- the outcome for a name: a refusal if it holds no file or one that is too long, otherwise that of its text
abbrev pub ReadsFile : FileView → Which → (List ℕ → Type 0) → Meaning → Type 0
ReadsFile contents w Read outcome =
    (CanLack contents × (outcome ≡ Refuses (Missing w))) ⊎
    ((CanExceed contents × (outcome ≡ Refuses (TooLong w))) ⊎
    ((text : List ℕ) × CanHold contents text × (length text ≤ FILE_LIMIT) × Read text))

-- the same, but a file that is reached may also fail to be read
abbrev pub Fetches : FileView → Which → (List ℕ → Type 0) → Meaning → Type 0
Fetches contents w Read outcome = (outcome ≡ Stops w) ⊎ ReadsFile contents w Read outcome

-- a script is read, or it is refused with its fault
abbrev pub SaysScript : Result ReadScript ScriptFault → (ReadScript → Type 0) → Meaning → Type 0
SaysScript (Ok script) Read outcome = Read script
SaysScript (Err fault) Read outcome = outcome ≡ Refuses (Script fault)

-- the text of policy file n, read after the policies of the files before it, has a reading or a first fault
abbrev pub SaysPolicy : List ℕ → Env → List BinaryPolicy → ℕ → (List BinaryPolicy → Type 0) → Meaning → Type 0
SaysPolicy text env before n Read outcome =
    ((policies : List BinaryPolicy) × policy.Reads text env before policies × Read policies) ⊎
    ((fault : PolicyRefusal) × (refusal_in text env before ≡ Some fault) × (outcome ≡ Refuses (Policy n fault)))

-- policy files from number n on are read in order, each after the policies of the files before it
abbrev pub MeansPolicies : Contents → Env → ℕ → List Word → List BinaryPolicy → (List BinaryPolicy → Type 0) → Meaning → Type 0
MeansPolicies contents env n [] before Read outcome = Read before
MeansPolicies contents env n (name ∷ names) before Read outcome =
    Fetches (contents name) (which.Policy n)
    (λ text. SaysPolicy text env before n (λ policies. MeansPolicies contents env (n + 1) names policies Read outcome) outcome)
    outcome

-- ---- inputs

-- what the input of a run is read from: the names of its policy files, the name of its script, its options, and the emulation that the files
-- are for
pub record InputWords : Type 0 where
  pub policies : List Word
  pub script : Word
  pub options : Options
  pub emulation : Emulation

-- what is meant once the script is read: the policies are read with its environment, and the input has this meaning
abbrev pub MeansAfterScript : Contents → InputWords → (Input → Type 0) → ReadScript → Meaning → Type 0
MeansAfterScript contents words Read script outcome =
    MeansPolicies contents script.env 1 words.policies [] (λ policies. Read (input_with policies words.options script)) outcome

-- what is meant if the script and the policies are read as an input that has this meaning
abbrev pub MeansInput : Contents → InputWords → (Input → Type 0) → Meaning → Type 0
MeansInput contents words Read outcome =
    Fetches (contents words.script) which.Script
    (λ text. SaysScript (script_in text words.options words.emulation) (λ script. MeansAfterScript contents words Read script outcome) outcome) outcome

-- ---- commands

abbrev pub step_input : StepWords → InputWords
step_input step = record { policies = step.policies; script = step.script; options = step.options; emulation = step.emulation }

-- what `step` means once its input is read: its schedule is fetched and read, whatever it says
abbrev pub MeansSchedule : Contents → StepWords → Input → Meaning → Type 0
MeansSchedule contents step input outcome =
    Fetches (contents step.schedule) which.Schedule (λ text. outcome ≡ Runs input (schedule_in text)) outcome

abbrev pub MeansStep : Contents → StepWords → Meaning → Type 0
MeansStep contents step outcome = MeansInput contents (step_input step) (λ input. MeansSchedule contents step input outcome) outcome

abbrev pub replay_input : ReplayWords → InputWords
replay_input replay = record { policies = replay.policies; script = replay.script; options = replay.options; emulation = replay.emulation }

-- what `replay` means once its input is read: its trace is fetched, whatever it says
abbrev pub MeansTrace : Contents → ReplayWords → Input → Meaning → Type 0
MeansTrace contents replay input outcome = Fetches (contents replay.trace) which.Trace (λ text. outcome ≡ Replays input text) outcome

abbrev pub MeansReplay : Contents → ReplayWords → Meaning → Type 0
MeansReplay contents replay outcome = MeansInput contents (replay_input replay) (λ input. MeansTrace contents replay input outcome) outcome

-- what `check` means with this environment: the canonical text of its policies is printed, under the environment's emulation
abbrev pub MeansCanon : Contents → Word → Env → Meaning → Type 0
MeansCanon contents name env outcome = MeansPolicies contents env 1 (name ∷ []) [] (λ policies. outcome ≡ Prints (canon policies env.emulation)) outcome

-- what `check` means, with the environment of a script or the bare one
abbrev pub MeansCheck : Contents → CheckWords → Option Word → Meaning → Type 0
MeansCheck contents check None outcome = MeansCanon contents check.policy (bare_env (is_some check.ids) check.emulation) outcome
MeansCheck contents check (Some name) outcome =
    Fetches (contents name) which.Script
    (λ text. SaysScript (script_in text (check_options check) check.emulation) (λ script. MeansCanon contents check.policy script.env outcome) outcome) outcome

-- what a command means over files of which this much is known
abbrev pub Means : Contents → Command → Meaning → Type 0
Means contents (command.Step step) outcome = MeansStep contents step outcome
Means contents (command.Replay replay) outcome = MeansReplay contents replay outcome
Means contents (command.Check check) outcome = MeansCheck contents check check.script outcome

-- ---- names

-- the names that are asked for, in order, up to this file, if this last one is asked for after those of an input
abbrev pub input_names_to : InputWords → Word → Which → List Word
input_names_to words last which.Script = words.script ∷ []
input_names_to words last (which.Policy n) = words.script ∷ take n words.policies
input_names_to words last which.Schedule = words.script ∷ (words.policies ++ last ∷ [])
input_names_to words last which.Trace = words.script ∷ (words.policies ++ last ∷ [])

-- the names that a command asks for, in order, up to this file
abbrev pub names_to : Command → Which → List Word
names_to (command.Step step) w = input_names_to (step_input step) step.schedule w
names_to (command.Replay replay) w = input_names_to (replay_input replay) replay.trace w
names_to (command.Check check) which.Script = maybe_word check.script
names_to (command.Check check) (which.Policy n) = maybe_word check.script ++ take n (check.policy ∷ [])
names_to (command.Check check) which.Schedule = maybe_word check.script ++ check.policy ∷ []
names_to (command.Check check) which.Trace = maybe_word check.script ++ check.policy ∷ []

-- the file that a command asks for last
abbrev pub last_file : Command → Which
last_file (command.Step step) = which.Schedule
last_file (command.Replay replay) = which.Trace
last_file (command.Check check) = which.Policy 1

-- all names of a command, in order
abbrev pub names_of : Command → List Word
names_of c = names_to c (last_file c)

-- it is known whether a name holds a file, and what the file holds
abbrev pub IsFileKnown : FileView → Type 0
IsFileKnown Unknown = ⊥
IsFileKnown Absent = Unit {0}
IsFileKnown (FileBytes text) = Unit {0}

-- the same is known of each of some names
abbrev pub AreFilesKnown : Contents → List Word → Type 0
AreFilesKnown contents [] = Unit {0}
AreFilesKnown contents (name ∷ names) = IsFileKnown (contents name) × AreFilesKnown contents names
