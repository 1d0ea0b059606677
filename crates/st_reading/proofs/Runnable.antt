-- What `step` means to run and `replay` to replay can be run. Each command means its own kind.
use native.Mathlib.Omega.{arith}
use Rattle.std.proofs.Common.{◌≡◌, ◌≤◌, ◌∙◌, ℕ, true, List, [], ◌∷◌, length, Option, Some, None, is_some, Ok, refl, ap, sym, subst}
use Rattle.st_outside.specs.Files.{CanHold}
use Rattle.st_outside.specs.declared.files.TheConstants.{FILE_LIMIT}
use Rattle.st_emulation.specs.declared.emulation.Emulation.{Emulation}
use Rattle.st_emulation.specs.declared.emulation.Emulation.TheVariants.{Native, Linux}
use Rattle.st_filter.specs.declared.set.BinaryPolicy.{BinaryPolicy}
use Rattle.st_printing.specs.Canon.{canon}
use Rattle.st_grammar.specs.Grammar.{Reads}
use Rattle.st_grammar.specs.declared.env.Env.{Env}
use Rattle.st_law.specs.declared.input.Input.{Input}
use Rattle.st_law.specs.declared.input.ReadSchedule.{ReadSchedule}
use Rattle.st_law.specs.declared.input.Mode.TheVariants.{Learn}
use Rattle.st_law.specs.declared.input.Options.{Options}
use Rattle.st_learn.specs.Learnt.{NoneAsks}
use Rattle.st_reached.specs.Grants.{RepliesUngranted, SetIdsUngranted}
use Rattle.st_reached.specs.Runnable.{CanRun}
use Rattle.st_script_names.specs.Environment.{learns}
use Rattle.st_script.proofs.ReadTexts.{emulation_is, read_has}
use Rattle.st_script.proofs.Startable.{script_can_start}
use Rattle.st_script.proofs.Ungranted.{read_ungranted}
use Rattle.st_schedule.specs.Schedule.{schedule_in}
use Rattle.st_script.specs.Reading.{script_in}
use Rattle.st_script.specs.Startable.{input_with, native_start}
use Rattle.st_script.specs.declared.reading.ReadScript.{ReadScript}
use Rattle.st_trace.specs.declared.start.Start.{Start}
use Rattle.st_command.specs.Words.{Word}
use Rattle.st_command.specs.Command.{StepWords, ReplayWords, CheckWords, check_options}
use Rattle.st_command.specs.Reading.{IsWithinLimits}
use Rattle.st_command.specs.declared.command.Command.{Command}
use Rattle.st_command.specs.declared.command.Command.TheVariants.{Step, Replay, Check}
use Rattle.st_reading.specs.Ends.{AskedTo, as_meaning}
use Rattle.st_reading.specs.Bare.{bare_env}
use Rattle.st_reading.specs.Kinds.{OnlyPrints, OnlyReplays, OnlyRuns}
use Rattle.st_reading.specs.Meaning.{Contents, Fetches, InputWords, Meaning, Means, Stops, Refuses, Runs, Replays, Prints, SaysScript, MeansInput, MeansSchedule, MeansStep, MeansTrace, MeansReplay, MeansCanon, MeansCheck, step_input, replay_input, last_file}
use Rattle.st_reading.specs.Runnable.{IsRunnable, IsStartFor, StartsNatively}
use Rattle.st_reading.specs.declared.reading.Reading.{Reading}
use Rattle.st_reading.specs.declared.reading.Reading.TheVariants as reading_is
use Rattle.st_reading.specs.declared.refusal.Refusal.{Refusal}
use Rattle.st_reading.specs.declared.refusal.Which.{Which}
use Rattle.st_reading.specs.declared.refusal.Which.TheVariants as which
use Rattle.st_reading.proofs.ReadFiles.{AreKept, IsInputRead, IsRead, each_kept, fetched, input_or, input_read, policies_read, script_read}
use Rattle.st_reading.proofs.Unasked.{read_asks_nothing}

-- policies that are read with this environment grant no ids for setting ids, and have no filter that asks if filters are learnt
pub record AreClean (env : Env) (policies : List BinaryPolicy) : Type 0 where
  pub ungranted : SetIdsUngranted policies
  pub unasked : env.learn ≡ true → NoneAsks policies

pub none_clean : (env : Env) → AreClean env []
none_clean env = record {
  ungranted = λ k policy within. absurd (omega (arith, within));
  unasked = λ learns k policy within. absurd (omega (arith, within));
}

read_clean : (text : List ℕ) (env : Env) (old set : List BinaryPolicy) → Reads text env old set → AreClean env old → AreClean env set
read_clean text env old set read before = record {
  ungranted = read_ungranted text env old set read before.ungranted;
  unasked = λ learns. read_asks_nothing text env old set read learns (before.unasked learns);
}

-- if a run learns, its script has policies read so that filters are learnt
pub script_learns : (text : List ℕ) (options : Options) (emulation : Emulation) (script : ReadScript) → script_in text options emulation ≡ Ok script → options.mode ≡ Learn → script.env.learn ≡ true
script_learns text options emulation script is learning =
    let same : script.env.learn ≡ learns options.mode = read_has (λ (other : ReadScript). other.env.learn ≡ learns options.mode) text options emulation (λ uncut none. refl) script is in
    same ∙ ap learns learning

pub all_clean : (contents : Contents) (names : List Word) → AreKept AreClean contents names
all_clean contents = each_kept AreClean contents (λ name env text old set there. read_clean text env old set)

-- ---- inputs

pub clean_input : (contents : Contents) (words : InputWords) (outcome : Meaning) → IsRead outcome → (Read : Input → Type 0) → MeansInput contents words Read outcome → IsInputRead AreClean contents words Read
clean_input contents words outcome read Read meant = input_read AreClean none_clean contents words (all_clean contents words.policies) outcome read Read meant

-- the replies of each script that is read grant no ids for setting ids
abbrev pub RepliesAreUngranted : Type 0
RepliesAreUngranted = (text : List ℕ) (options : Options) (emulation : Emulation) (script : ReadScript) → script_in text options emulation ≡ Ok script → RepliesUngranted script.replies

-- and so do its policies
abbrev pub BlocksAreUngranted : Type 0
BlocksAreUngranted = (text : List ℕ) (options : Options) (emulation : Emulation) (script : ReadScript) → script_in text options emulation ≡ Ok script → SetIdsUngranted script.blocks

-- an input that was read can be run with one to eight workers
pub read_can_run : RepliesAreUngranted → BlocksAreUngranted → (contents : Contents) (words : InputWords) (Read : Input → Type 0) (x : IsInputRead AreClean contents words Read) →
    1 ≤ words.options.workers → words.options.workers ≤ 8 → CanRun (input_with x.policies words.options x.script)
read_can_run replies blocks contents words Read x some few =
    let can_start = script_can_start x.script_text words.options words.emulation x.script x.script_is in
    record {
      startable = can_start.startable x.policies words.options (script_learns x.script_text words.options words.emulation x.script x.script_is) some few;
      system = can_start.system x.policies words.options;
      bounded = can_start.bounded;
      ungranted = (x.kept.ungranted, blocks x.script_text words.options words.emulation x.script x.script_is);
      replies = replies x.script_text words.options words.emulation x.script x.script_is;
    }

pub runnable : RepliesAreUngranted → BlocksAreUngranted → (contents : Contents) (step : StepWords) (input : Input) (schedule : ReadSchedule) → MeansStep contents step (Runs input schedule) → IsRunnable step input
runnable replies blocks contents step input schedule meant =
    let run : Meaning = Runs input schedule in
    let x = clean_input contents (step_input step) run tt (λ read. MeansSchedule contents step read run) meant in
    let c = fetched contents run tt step.schedule which.Schedule (λ text. run ≡ Runs (input_with x.policies step.options x.script) (schedule_in text)) x.says in
    let input_is : input ≡ input_with x.policies step.options x.script = ap (input_or input) c.says in
    let can_start = script_can_start x.script_text step.options step.emulation x.script x.script_is in
    let ungranted_replies = replies x.script_text step.options step.emulation x.script x.script_is in
    let ungranted_blocks = blocks x.script_text step.options step.emulation x.script x.script_is in
    record {
      script = x.script;
      policies = x.policies;
      input_is = input_is;
      can_start = can_start;
      ungranted = x.kept.ungranted;
      blocks = ungranted_blocks;
      replies = ungranted_replies;
      can_run = λ some few. subst CanRun (sym input_is) (read_can_run replies blocks contents (step_input step) (λ read. MeansSchedule contents step read run) x some few);
      unasked = λ learning. x.kept.unasked (script_learns x.script_text step.options step.emulation x.script x.script_is learning);
    }

-- ---- starts

start_for : (emulation : Emulation) (written : Start) → IsStartFor emulation written (native_start emulation written)
start_for Native written = refl
start_for Linux written = refl

-- an input that was read starts natively
pub starts_natively : (contents : Contents) (words : InputWords) (Read : Input → Type 0) (x : IsInputRead AreClean contents words Read) (input : Input) →
    input ≡ input_with x.policies words.options x.script → StartsNatively contents words input
starts_natively contents words Read x input is = record {
  script = x.script;
  script_is = record { text = x.script_text; content = x.script_held; within = x.script_within; says = x.script_is };
  start_is =
      let run : input.start ≡ native_start words.emulation x.script.start =
      ap (λ (i : Input). i.start) is ∙
      ap (λ (emulation : Emulation). native_start emulation x.script.start) (emulation_is x.script_text words.options words.emulation x.script x.script_is) in
      subst (IsStartFor words.emulation x.script.start) (sym run) (start_for words.emulation x.script.start);
}

pub step_starts : (contents : Contents) (step : StepWords) (input : Input) (schedule : ReadSchedule) → MeansStep contents step (Runs input schedule) → StartsNatively contents (step_input step) input
step_starts contents step input schedule meant =
    let run : Meaning = Runs input schedule in
    let Read : Input → Type 0 = λ read. MeansSchedule contents step read run in
    let x = clean_input contents (step_input step) run tt Read meant in
    let c = fetched contents run tt step.schedule which.Schedule (λ text. run ≡ Runs (input_with x.policies step.options x.script) (schedule_in text)) x.says in
    starts_natively contents (step_input step) Read x input (ap (input_or input) c.says)

pub replay_starts : (contents : Contents) (replay : ReplayWords) (input : Input) (text : List ℕ) → MeansReplay contents replay (Replays input text) → StartsNatively contents (replay_input replay) input
replay_starts contents replay input text meant =
    let outcome : Meaning = Replays input text in
    let Read : Input → Type 0 = λ read. MeansTrace contents replay read outcome in
    let x = clean_input contents (replay_input replay) outcome tt Read meant in
    let c = fetched contents outcome tt replay.trace which.Trace (λ held. outcome ≡ Replays (input_with x.policies replay.options x.script) held) x.says in
    starts_natively contents (replay_input replay) Read x input (ap (input_or input) c.says)

-- the input whose trace `replay` means to replay can be run, and its trace can be fetched
pub replay_can_run : RepliesAreUngranted → BlocksAreUngranted → (contents : Contents) (replay : ReplayWords) (input : Input) (text : List ℕ) → IsWithinLimits (Replay replay) →
    MeansReplay contents replay (Replays input text) → CanRun input × (length text ≤ FILE_LIMIT) × CanHold (contents replay.trace) text
replay_can_run replies blocks contents replay input text limits meant =
    let outcome : Meaning = Replays input text in
    let x = clean_input contents (replay_input replay) outcome tt (λ read. MeansTrace contents replay read outcome) meant in
    let c = fetched contents outcome tt replay.trace which.Trace (λ held. outcome ≡ Replays (input_with x.policies replay.options x.script) held) x.says in (
      subst CanRun (sym (ap (input_or input) c.says)) (read_can_run replies blocks contents (replay_input replay) (λ read. MeansTrace contents replay read outcome) x limits.1 limits.2),
      subst (λ (held : List ℕ). length held ≤ FILE_LIMIT) (sym (ap (trace_or text) c.says)) c.within,
      subst (λ (held : List ℕ). CanHold (contents replay.trace) held) (sym (ap (trace_or text) c.says)) c.content,
    )
  where
    trace_or : List ℕ → Meaning → List ℕ
    trace_or other (Replays i held) = held
    trace_or other _ = other

-- ---- each command means its own kind

-- what is read has the kind of what the last text gives
read_kind : (Only : Meaning → Type 0) (contents : Contents) (words : InputWords) (last : Word) (w : Which) (M : Input → List ℕ → Meaning) → ((input : Input) (text : List ℕ) → Only (M input text)) →
    (outcome : Meaning) → IsRead outcome → MeansInput contents words (λ input. Fetches (contents last) w (λ text. outcome ≡ M input text) outcome) outcome → Only outcome
read_kind Only contents words last w M kind outcome read meant =
    let x = clean_input contents words outcome read (λ input. Fetches (contents last) w (λ text. outcome ≡ M input text) outcome) meant in
    let input : Input = input_with x.policies words.options x.script in
    let c = fetched contents outcome read last w (λ text. outcome ≡ M input text) x.says in
    subst Only (sym c.says) (kind input c.text)

-- what an input means with a last file has the kind of what the last text gives
last_kind : (Only : Meaning → Type 0) → ((w : Which) → Only (Stops w)) → ((refusal : Refusal) → Only (Refuses refusal)) → (contents : Contents) (words : InputWords) (last : Word) (w : Which) (M : Input → List ℕ → Meaning) →
    ((input : Input) (text : List ℕ) → Only (M input text)) → (outcome : Meaning) → MeansInput contents words (λ input. Fetches (contents last) w (λ text. outcome ≡ M input text) outcome) outcome → Only outcome
last_kind Only stop refuse contents words last w M kind (Stops other) meant = stop other
last_kind Only stop refuse contents words last w M kind (Refuses refusal) meant = refuse refusal
last_kind Only stop refuse contents words last w M kind (Runs i s) meant = read_kind Only contents words last w M kind (Runs i s) tt meant
last_kind Only stop refuse contents words last w M kind (Replays i text) meant = read_kind Only contents words last w M kind (Replays i text) tt meant
last_kind Only stop refuse contents words last w M kind (Prints text) meant = read_kind Only contents words last w M kind (Prints text) tt meant

pub step_runs : (contents : Contents) (step : StepWords) (outcome : Meaning) → MeansStep contents step outcome → OnlyRuns outcome
step_runs contents step outcome meant =
    last_kind OnlyRuns (λ w. tt) (λ refusal. tt) contents (step_input step) step.schedule which.Schedule (λ input text. Runs input (schedule_in text)) (λ input text. tt) outcome meant

pub replay_replays : (contents : Contents) (replay : ReplayWords) (outcome : Meaning) → MeansReplay contents replay outcome → OnlyReplays outcome
replay_replays contents replay outcome meant =
    last_kind OnlyReplays (λ w. tt) (λ refusal. tt) contents (replay_input replay) replay.trace which.Trace Replays (λ input text. tt) outcome meant

canon_prints : (contents : Contents) (name : Word) (env : Env) (outcome : Meaning) → IsRead outcome → MeansCanon contents name env outcome → OnlyPrints outcome
canon_prints contents name env outcome read meant =
    let p = policies_read contents outcome read AreClean env (λ policies. outcome ≡ Prints (canon policies env.emulation)) (name ∷ []) (all_clean contents (name ∷ [])) 1 [] (none_clean env) meant in
    subst OnlyPrints (sym p.2) tt

read_prints : (contents : Contents) (check : CheckWords) (script : Option Word) (outcome : Meaning) → IsRead outcome → MeansCheck contents check script outcome → OnlyPrints outcome
read_prints contents check None outcome read meant = canon_prints contents check.policy (bare_env (is_some check.ids) check.emulation) outcome read meant
read_prints contents check (Some name) outcome read meant =
    let x = fetched contents outcome read name which.Script (λ text. SaysScript (script_in text (check_options check) check.emulation) (λ script. MeansCanon contents check.policy script.env outcome) outcome) meant in
    let s = script_read contents outcome read (script_in x.text (check_options check) check.emulation) (λ script. MeansCanon contents check.policy script.env outcome) x.says in
    canon_prints contents check.policy s.0.env outcome read s.2

pub check_prints : (contents : Contents) (check : CheckWords) (outcome : Meaning) → MeansCheck contents check check.script outcome → OnlyPrints outcome
check_prints contents check (Stops w) meant = tt
check_prints contents check (Refuses refusal) meant = tt
check_prints contents check (Runs i s) meant = read_prints contents check check.script (Runs i s) tt meant
check_prints contents check (Replays i text) meant = read_prints contents check check.script (Replays i text) tt meant
check_prints contents check (Prints text) meant = tt

-- ---- what is read can be run

-- the law that what `step` means to run can be run
abbrev pub AllRunnable : Type 0
AllRunnable = (contents : Contents) (step : StepWords) (i : Input) (schedule : ReadSchedule) → Means contents (Step step) (Runs i schedule) → IsRunnable step i

-- a run that a command means can be run
pub can_run : AllRunnable → (contents : Contents) (c : Command) (i : Input) (schedule : ReadSchedule) → IsWithinLimits c → Means contents c (Runs i schedule) → CanRun i
can_run runnable contents (Step step) i schedule limits meant = (runnable contents step i schedule meant).can_run limits.1 limits.2
can_run runnable contents (Replay replay) i schedule limits meant = absurd (replay_replays contents replay (Runs i schedule) meant)
can_run runnable contents (Check check) i schedule limits meant = absurd (check_prints contents check (Runs i schedule) meant)

-- ---- commands that were read

-- a command was read to be run
module _ (contents : Contents) (c : Command) (old new : List Word) (read : Reading) (meant : Means contents c (as_meaning read) × AskedTo c (last_file c) old new) (i : Input) (schedule : ReadSchedule) (is : read ≡ reading_is.Run i schedule) where
  pub run_meant : Means contents c (Runs i schedule)
  run_meant = subst (λ (other : Reading). Means contents c (as_meaning other)) is meant.0

  pub ready : AllRunnable → IsWithinLimits c → CanRun i
  ready runnable limits = can_run runnable contents c i schedule limits run_meant

-- a command was read to be replayed
module _ (contents : Contents) (c : Command) (old new : List Word) (read : Reading) (meant : Means contents c (as_meaning read) × AskedTo c (last_file c) old new) (i : Input) (text : List ℕ) (is : read ≡ reading_is.Replay i text) where
  pub replay_meant : Means contents c (Replays i text)
  replay_meant = subst (λ (other : Reading). Means contents c (as_meaning other)) is meant.0

-- the law that what `replay` means to replay can be run
abbrev pub AllReplayable : Type 0
AllReplayable = (contents : Contents) (replay : ReplayWords) (i : Input) (text : List ℕ) → IsWithinLimits (Replay replay) → Means contents (Replay replay) (Replays i text) →
    CanRun i × (length text ≤ FILE_LIMIT) × CanHold (contents replay.trace) text

-- a replay that a command means can be run
pub can_replay : AllReplayable → (contents : Contents) (c : Command) (i : Input) (text : List ℕ) → IsWithinLimits c → Means contents c (Replays i text) → CanRun i × (length text ≤ FILE_LIMIT)
can_replay replayable contents (Step step) i text limits meant = absurd (step_runs contents step (Replays i text) meant)
can_replay replayable contents (Replay replay) i text limits meant = let x = replayable contents replay i text limits meant in (x.0, x.1)
can_replay replayable contents (Check check) i text limits meant = absurd (check_prints contents check (Replays i text) meant)
