-- What `run` means: its refusals, its one meaning, and that what it means to run can be run.
use Rattle.std.proofs.Common.{◌≡◌, ◌≤◌, ◌+◌, ℕ, List, [], ◌∷◌, length, inl, inr, Result, Ok, Err, refl, ap, sym, subst}
use Rattle.st_outside.specs.Files.{CanHold}
use Rattle.st_outside.specs.declared.files.TheConstants.{FILE_LIMIT}
use Rattle.st_filter.specs.declared.set.BinaryPolicy.{BinaryPolicy}
use Rattle.st_grammar.specs.declared.env.Env.{Env}
use Rattle.st_law.specs.declared.input.Input.{Input}
use Rattle.st_law.specs.declared.input.ReadSchedule.{ReadSchedule}
use Rattle.st_reached.specs.Runnable.{CanRun}
use Rattle.st_schedule.specs.Schedule.{schedule_in}
use Rattle.st_script.specs.Reading.{script_in}
use Rattle.st_script.specs.Startable.{input_with}
use Rattle.st_command.specs.Words.{Word}
use Rattle.st_command.specs.Command.{RunWords, StepWords}
use Rattle.st_command.specs.Reading.{IsRunWithinLimits}
use Rattle.st_command.specs.declared.command.Command.TheVariants.{Step}
use Rattle.st_reading.specs.Files.{InputEnds}
use Rattle.st_reading.specs.Meaning.{AreFilesKnown, Contents, InputWords, Meaning, Means, MeansAfterScript, MeansPolicies, MeansSchedule, Prints, Runs, SaysPolicy, SaysScript}
use Rattle.st_reading.specs.RunMeaning.{EndsReadingRun, MeansRun, no_lines, run_input, run_names, run_names_to, starts, with_schedule_of}
use Rattle.st_reading.specs.Runnable.{StartsNatively}
use Rattle.st_reading.specs.declared.refusal.Refusal.{Refusal}
use Rattle.st_reading.specs.declared.refusal.Which.TheVariants as which
use Rattle.st_reading.proofs.Inputs.{after_input, input_refused}
use Rattle.st_reading.proofs.Meanings.{HasOne, IsOne, input_one, input_some, is_one, is_some_one}
use Rattle.st_reading.proofs.ReadFiles.{IsInputRead, IsRead, fetched, input_or, script_read, text_read}
use Rattle.st_reading.proofs.Runnable.{AreClean, BlocksAreUngranted, RepliesAreUngranted, clean_input, read_can_run, starts_natively}

-- ---- how its reading ends

module _ (contents : Contents) (run : RunWords) where
  -- what `run` means with an input
  abbrev Started : Input → Meaning → Type 0
  Started input o = o ≡ starts input

  pub run_ends : (faults faults_after : ℕ) (old new : List Word) (result : Result Input Refusal) → InputEnds contents (run_input run) faults faults_after old new result → EndsReadingRun contents run faults faults_after old new result
  run_ends faults faults_after old new (Ok input) ends =
      (after_input contents (run_input run) Started input ends.0 (starts input) refl, ends.1)
  run_ends faults faults_after old new (Err refusal) refused =
      input_refused contents (run_input run) Started (MeansRun contents run) (run_names_to run) faults faults_after old new (λ o m. m) refl (λ n. refl) refusal refused

-- ---- one meaning

pub run_one : (contents : Contents) (run : RunWords) → AreFilesKnown contents (run_names run) → IsOne (MeansRun contents run)
run_one contents run known = input_one contents (run_input run) (Started contents run) (λ input. is_one (starts input)) known.0 known.1

pub run_some : (contents : Contents) (run : RunWords) → AreFilesKnown contents (run_names run) → HasOne (MeansRun contents run)
run_some contents run known = input_some contents (run_input run) (Started contents run) (λ input. is_some_one (starts input) refl) known.0 known.1

-- ---- what it means to run

-- a text that is printed without a run
abbrev IsPrinted : Meaning → Type 0
IsPrinted (Prints text) = Unit {0}
IsPrinted _ = ⊥

-- the schedule of a run, otherwise this other one
abbrev schedule_or : ReadSchedule → Meaning → ReadSchedule
schedule_or other (Runs i s) = s
schedule_or other _ = other

module _ (contents : Contents) (run : RunWords) (outcome : Meaning) (read : IsRead outcome) (meant : MeansRun contents run outcome) where
  run_read : IsInputRead AreClean contents (run_input run) (λ input. outcome ≡ starts input)
  run_read = clean_input contents (run_input run) outcome read (λ input. outcome ≡ starts input) meant

pub run_prints_nothing : (contents : Contents) (run : RunWords) (text : List ℕ) → MeansRun contents run (Prints text) → ⊥
run_prints_nothing contents run text meant = let x = run_read contents run (Prints text) tt meant in subst IsPrinted x.says tt

-- no line of a schedule gives the choices of `run`
pub run_has_no_lines : (contents : Contents) (run : RunWords) (input : Input) (schedule : ReadSchedule) → MeansRun contents run (Runs input schedule) → schedule ≡ no_lines
run_has_no_lines contents run input schedule meant = let x = run_read contents run (Runs input schedule) tt meant in ap (schedule_or schedule) x.says

pub run_can_run : RepliesAreUngranted → BlocksAreUngranted → (contents : Contents) (run : RunWords) (input : Input) → IsRunWithinLimits run → MeansRun contents run (starts input) → CanRun input
run_can_run replies blocks contents run input limits meant =
    let x = run_read contents run (starts input) tt meant in
    subst CanRun (sym (ap (input_or input) x.says)) (read_can_run replies blocks contents (run_input run) (λ other. starts input ≡ starts other) x limits.1 limits.2)

-- `run` starts natively
pub run_starts : (contents : Contents) (run : RunWords) (input : Input) → MeansRun contents run (starts input) → StartsNatively contents (run_input run) input
run_starts contents run input meant =
    let x = run_read contents run (starts input) tt meant in
    starts_natively contents (run_input run) (λ other. starts input ≡ starts other) x input (ap (input_or input) x.says)

-- ---- `step` with the same words

module _ (contents : Contents) (o other : Meaning) (read : IsRead o) where
  -- policies that lead to one meaning lead to another, if what follows them does
  policies_lead : (env : Env) (R S : List BinaryPolicy → Type 0) → ((policies : List BinaryPolicy) → R policies → S policies) → (names : List Word) (n : ℕ) (before : List BinaryPolicy) →
      MeansPolicies contents env n names before R o → MeansPolicies contents env n names before S other
  policies_lead env R S lead [] n before m = lead before m
  policies_lead env R S lead (name ∷ names) n before m =
      let further : List BinaryPolicy → Type 0 = λ policies. MeansPolicies contents env (n + 1) names policies R o in
      let x = fetched contents o read name (which.Policy n) (λ text. SaysPolicy text env before n further o) m in
      let y = text_read contents o read x.text env before n further x.says in
      inr (inr (inr (x.text, x.content, x.within, inl (y.0, y.1, policies_lead env R S lead names (n + 1) y.0 y.2))))

-- the input that `run` means is what `step` with the same words means to run, by any schedule that can be fetched
pub step_means_what_run_means : (contents : Contents) (run : RunWords) (input : Input) → MeansRun contents run (starts input) → (name : Word) (text : List ℕ) → CanHold (contents name) text → length text ≤ FILE_LIMIT →
    Means contents (Step (with_schedule_of run name)) (Runs input (schedule_in text))
step_means_what_run_means contents run input meant name text held within =
    let o : Meaning = starts input in
    let other : Meaning = Runs input (schedule_in text) in
    let step : StepWords = with_schedule_of run name in
    let words : InputWords = run_input run in
    let Started : Input → Type 0 = λ read. o ≡ starts read in
    let Scheduled : Input → Type 0 = λ read. MeansSchedule contents step read other in
    let x = fetched contents o tt run.script which.Script (λ t. SaysScript (script_in t run.options run.emulation) (λ script. MeansAfterScript contents words Started script o) o) meant in
    let s = script_read contents o tt (script_in x.text run.options run.emulation) (λ script. MeansAfterScript contents words Started script o) x.says in
    let scheduled : (policies : List BinaryPolicy) → o ≡ starts (input_with policies run.options s.0) → Scheduled (input_with policies run.options s.0) =
    λ policies is. inr (inr (inr (text, held, within, ap (λ (m : Meaning). Runs (input_or input m) (schedule_in text)) is))) in
    inr (inr (inr (
      x.text,
      x.content,
      x.within,
      subst (λ said. SaysScript said (λ script. MeansAfterScript contents words Scheduled script other) other) (sym s.1)
          (policies_lead contents o other tt s.0.env (λ policies. o ≡ starts (input_with policies run.options s.0)) (λ policies. Scheduled (input_with policies run.options s.0)) scheduled run.policies 1 [] s.2),
    )))
