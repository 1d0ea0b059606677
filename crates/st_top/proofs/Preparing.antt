-- What is prepared before anything is written, given what was read and printed.
use Rattle.std.proofs.Common.{ℕ, inl, inr, List, Result, Ok, Err}
use Rattle.st_law.specs.Inputs.{IsStartable}
use Rattle.st_law.specs.declared.input.Input.{Input}
use Rattle.st_law.specs.declared.input.ReadSchedule.{ReadSchedule}
use Rattle.st_law.proofs.Laws.{run_lawful}
use Rattle.st_reached.proofs.NumbersBack.{run_by_number}
use Rattle.st_command.specs.Words.{Word}
use Rattle.st_command.specs.Command.{ReplayWords, StepWords}
use Rattle.st_command.specs.declared.command.Command.{Command}
use Rattle.st_command.specs.declared.command.Command.TheVariants.{Step, Replay, Check}
use Rattle.st_reading.specs.Ends as reading
use Rattle.st_reading.specs.Ends.{AskedTo}
use Rattle.st_reading.specs.Meaning.{Contents, Means, Prints, Replays, Runs, last_file}
use Rattle.st_reading.specs.declared.refusal.Refusal.{Refusal}
use Rattle.st_reading.specs.declared.refusal.Refusal.TheVariants as refusal
use Rattle.st_reading.proofs.Runnable.{check_prints, replay_replays, step_runs}
use Rattle.st_top.specs.Ends.{Prepares, RefusesCommand, ReplayShown, RunShown}
use Rattle.st_top.specs.Outcome.{emulation_asked, print_of, status_of}
use Rattle.st_top.specs.declared.status.Status.{Status}
use Rattle.st_top.specs.declared.status.Status.TheVariants as status

-- ---- refusals

-- a refusal of the reader is a refusal of the command
pub refused_as : (contents : Contents) (c : Command) (faults faults_after : ℕ) (old new : List Word) (refused : Refusal) → reading.RefusesReading contents c faults faults_after old new refused → RefusesCommand contents c faults faults_after old new (status_of refused)
refused_as contents c faults faults_after old new (refusal.Missing w) x = x
refused_as contents c faults faults_after old new (refusal.TooLong w) x = x
refused_as contents c faults faults_after old new refusal.ReadFault x = x
refused_as contents c faults faults_after old new (refusal.Script fault) x = x
refused_as contents c faults faults_after old new (refusal.Policy n fault) x = x
refused_as contents c faults faults_after old new refusal.NoMemory x = inl x

-- ---- what is prepared

module _ (contents : Contents) (faults faults_after : ℕ) (old new : List Word) where
  -- the text that is printed of the run that is meant
  shown_of_step : (step : StepWords) (i : Input) (schedule : ReadSchedule) → IsStartable i → Means contents (Step step) (Runs i schedule) → AskedTo (Step step) (last_file (Step step)) old new →
      (result : Result (List ℕ) Status) → RunShown step.print i schedule step.emulation result → Prepares contents (Step step) faults faults_after old new result
  shown_of_step step i schedule startable meant asked (Ok text) x =
      (record { input = i; schedule = schedule; choices = x.0; meant = meant; played_to = x.1; lawful = run_lawful i startable x.0; by_number = run_by_number i startable x.0; text_is = x.2 }, asked)
  shown_of_step step i schedule startable meant asked (Err (status.Schedule line)) x = (record { input = i; schedule = schedule; meant = meant; bad = x }, asked)
  shown_of_step step i schedule startable meant asked (Err status.NoMemory) x = inr (inl (record { input = i; schedule = schedule; meant = meant }), asked)
  shown_of_step step i schedule startable meant asked (Err status.Done) x = absurd x
  shown_of_step step i schedule startable meant asked (Err (status.Missing w)) x = absurd x
  shown_of_step step i schedule startable meant asked (Err status.Usage) x = absurd x
  shown_of_step step i schedule startable meant asked (Err (status.Policy n fault)) x = absurd x
  shown_of_step step i schedule startable meant asked (Err (status.Script fault)) x = absurd x
  shown_of_step step i schedule startable meant asked (Err status.ReadFault) x = absurd x
  shown_of_step step i schedule startable meant asked (Err status.WriteFault) x = absurd x
  shown_of_step step i schedule startable meant asked (Err (status.TooLong w)) x = absurd x
  shown_of_step step i schedule startable meant asked (Err (status.Illegal line)) x = absurd x

  pub shown_ready : (c : Command) (i : Input) (schedule : ReadSchedule) → IsStartable i → Means contents c (Runs i schedule) → AskedTo c (last_file c) old new →
      (result : Result (List ℕ) Status) → RunShown (print_of c) i schedule (emulation_asked c) result → Prepares contents c faults faults_after old new result
  shown_ready (Step step) i schedule startable meant asked result x = shown_of_step step i schedule startable meant asked result x
  shown_ready (Replay replay) i schedule startable meant asked result x = absurd (replay_replays contents replay (Runs i schedule) meant)
  shown_ready (Check check) i schedule startable meant asked result x = absurd (check_prints contents check (Runs i schedule) meant)

  -- what is written of the trace that is meant
  shown_of_replay : (replay : ReplayWords) (i : Input) (trace : List ℕ) → Means contents (Replay replay) (Replays i trace) → AskedTo (Replay replay) (last_file (Replay replay)) old new →
      (result : Result (List ℕ) Status) → ReplayShown i trace result → Prepares contents (Replay replay) faults faults_after old new result
  shown_of_replay replay i trace meant asked (Ok text) x = (record { input = i; trace = trace; meant = meant; lawful = x.0; text_is = x.1 }, asked)
  shown_of_replay replay i trace meant asked (Err (status.Illegal line)) x = (record { input = i; trace = trace; meant = meant; breaks = x }, asked)
  shown_of_replay replay i trace meant asked (Err status.NoMemory) x = inr (inr (record { input = i; trace = trace; meant = meant }), asked)
  shown_of_replay replay i trace meant asked (Err status.Done) x = absurd x
  shown_of_replay replay i trace meant asked (Err (status.Missing w)) x = absurd x
  shown_of_replay replay i trace meant asked (Err status.Usage) x = absurd x
  shown_of_replay replay i trace meant asked (Err (status.Policy n fault)) x = absurd x
  shown_of_replay replay i trace meant asked (Err (status.Script fault)) x = absurd x
  shown_of_replay replay i trace meant asked (Err status.ReadFault) x = absurd x
  shown_of_replay replay i trace meant asked (Err status.WriteFault) x = absurd x
  shown_of_replay replay i trace meant asked (Err (status.Schedule line)) x = absurd x
  shown_of_replay replay i trace meant asked (Err (status.TooLong w)) x = absurd x

  pub replay_ready : (c : Command) (i : Input) (trace : List ℕ) → Means contents c (Replays i trace) → AskedTo c (last_file c) old new →
      (result : Result (List ℕ) Status) → ReplayShown i trace result → Prepares contents c faults faults_after old new result
  replay_ready (Step step) i trace meant asked result x = absurd (step_runs contents step (Replays i trace) meant)
  replay_ready (Replay replay) i trace meant asked result x = shown_of_replay replay i trace meant asked result x
  replay_ready (Check check) i trace meant asked result x = absurd (check_prints contents check (Replays i trace) meant)

  -- a text without a run
  pub printed_ready : (c : Command) (text : List ℕ) → Means contents c (Prints text) → AskedTo c (last_file c) old new → Prepares contents c faults faults_after old new (Ok text)
  printed_ready (Step step) text meant asked = absurd (step_runs contents step (Prints text) meant)
  printed_ready (Replay replay) text meant asked = absurd (replay_replays contents replay (Prints text) meant)
  printed_ready (Check check) text meant asked = (meant, asked)
