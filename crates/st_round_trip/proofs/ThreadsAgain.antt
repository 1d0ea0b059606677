-- What `run` has written is what `step` writes of the same words and of the schedule that the threads of `run` made.
use Rattle.std.proofs.Common.{◌≡◌, ◌≤◌, ℕ, List, length, None, Some, refl, ap, sym, subst}
use Rattle.st_command.specs.Command.{RunWords}
use Rattle.st_command.specs.Reading.{IsRunWithinLimits}
use Rattle.st_command.specs.Words.{Word}
use Rattle.st_command.specs.declared.command.Command.TheVariants.{Step}
use Rattle.st_command.specs.declared.given.Print.TheVariants as print
use Rattle.st_law.specs.Inputs.{IsStartable}
use Rattle.st_law.specs.Machine.{run}
use Rattle.st_law.specs.Schedules.{Choices, ScheduleOutcome, played}
use Rattle.st_law.specs.declared.input.Input.{Input}
use Rattle.st_outside.specs.Files.{CanHold, FileBytes, FileView}
use Rattle.st_outside.specs.declared.files.TheConstants.{FILE_LIMIT}
use Rattle.st_reading.specs.Meaning.{Contents, Means, Runs}
use Rattle.st_reading.specs.RunMeaning.{MeansRun, starts, with_schedule_of}
use Rattle.st_report.specs.ScheduleText.{schedule_text}
use Rattle.st_schedule.specs.Schedule.{schedule_in}
use Rattle.st_top.specs.Outcome.{HasOutcome, Writes, outcome_of_play, printed}
use Rattle.st_top.specs.RunEnds.{IsWholeRun}
use Rattle.st_trace.specs.declared.entry.Choice.{Choice}
use Rattle.st_round_trip.specs.RoundTrip.{Plays}

-- a run can start with what `run` means
abbrev pub RunsCanStart : Type 0
RunsCanStart = (contents : Contents) (threaded : RunWords) (input : Input) → IsRunWithinLimits threaded → MeansRun contents threaded (starts input) → IsStartable input

-- what `run` means is what `step` means with any schedule that can be fetched
abbrev pub StepsMeanRuns : Type 0
StepsMeanRuns = (contents : Contents) (threaded : RunWords) (input : Input) → MeansRun contents threaded (starts input) → (name : Word) (text : List ℕ) → CanHold (contents name) text → length text ≤ FILE_LIMIT →
    Means contents (Step (with_schedule_of threaded name)) (Runs input (schedule_in text))

-- the text of choices that were enabled is played as these choices
abbrev pub PlaysEnabled : Type 0
PlaysEnabled = (input : Input) → IsStartable input → (choices : List Choice) → length (run input choices) ≡ length choices → played input (schedule_in (schedule_text choices)) ≡ Choices choices

module _ (can_start : RunsCanStart) (steps : StepsMeanRuns) (enabled : PlaysEnabled) (contents : Contents) (threaded : RunWords) (input : Input) (limits : IsRunWithinLimits threaded) (meant : MeansRun contents threaded (starts input))
    (choices : List Choice) (whole : IsWholeRun input choices) (name : Word) (there : contents name ≡ FileBytes (printed print.Schedule input choices threaded.emulation)) (fits : length (printed print.Schedule input choices threaded.emulation) ≤ FILE_LIMIT) where
  pub threads_again : Plays contents (with_schedule_of threaded name) input choices
  threads_again = record {
    schedule = schedule_in (printed print.Schedule input choices threaded.emulation);
    meant = steps contents threaded input meant name (printed print.Schedule input choices threaded.emulation) (subst (λ (h : FileView). CanHold h (printed print.Schedule input choices threaded.emulation)) (sym there) refl) fits;
    played_to = enabled input (can_start contents threaded input limits meant) choices whole.enabled;
  }

  pub step_writes : HasOutcome contents (Some (Step (with_schedule_of threaded name))) None (Writes (printed threaded.print input choices threaded.emulation))
  step_writes = (
    Runs input threads_again.schedule,
    threads_again.meant,
    ap (λ (o : ScheduleOutcome). outcome_of_play threaded.print input o threaded.emulation) (sym threads_again.played_to),
  )
