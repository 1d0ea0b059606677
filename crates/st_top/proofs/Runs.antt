-- What is printed of a run, by how its schedule was played.
use Rattle.std.proofs.Common.{◌≡◌, ◌∙◌, ℕ, List, [], Result, Ok, Err, refl, ap, sym, subst}
use Rattle.std.specs.Result.{IsErr, IsErrAnd}
use Rattle.st_law.specs.Inputs.{IsStartable}
use Rattle.st_law.specs.Machine.{run}
use Rattle.st_law.specs.Numbers.{IsLawfulByNumber, drawn, largest_number, numbered}
use Rattle.st_law.specs.Schedules.{BadLine, Choices, lines_played, played}
use Rattle.st_law.specs.declared.input.Input.{Input}
use Rattle.st_law.specs.declared.input.ReadSchedule.{ReadSchedule}
use Rattle.st_law.proofs.Laws.{run_lawful}
use Rattle.st_reached.proofs.NumbersBack.{roomy, run_by_number, trace_back}
use Rattle.st_command.specs.declared.given.Print.{Print}
use Rattle.st_emulation.specs.declared.emulation.Emulation.{Emulation}
use Rattle.st_kernel.specs.Kernel.{RunSoFar, drawn_of, played_so_far, trace_of}
use Rattle.st_kernel.specs.declared.play.PlayFault.{PlayFault}
use Rattle.st_kernel.specs.declared.play.PlayFault.TheVariants as play
use Rattle.st_trace.specs.declared.entry.Choice.{Choice}
use Rattle.st_trace.specs.declared.entry.Entry.{Entry}
use Rattle.st_top.specs.Ends.{RunShown}
use Rattle.st_top.specs.Outcome.{printed, status_of_play}
use Rattle.st_top.specs.declared.status.Status.{Status}
use Rattle.st_top.specs.declared.status.Status.TheVariants.{NoMemory}

module _ (print : Print) (emulation : Emulation) (schedule : ReadSchedule) (course : RunSoFar) (choices : course.choices ≡ []) where
  abbrev i : Input
  i = course.input

  -- playing the lines from the first state on is playing the schedule
  from_first : lines_played schedule.lines schedule.bad i (played_so_far course) ≡ played i schedule
  from_first = ap (λ (made : List Choice). lines_played schedule.lines schedule.bad i (played_so_far (record { input = i; choices = made }))) choices

  pub refused : (fault : PlayFault) → ((line : ℕ) → fault ≡ play.BadLine line → lines_played schedule.lines schedule.bad i (played_so_far course) ≡ BadLine line) →
      (result : Result (List ℕ) Status) → IsErr result → IsErrAnd result (λ s. s ≡ status_of_play fault) → RunShown print i schedule emulation result
  refused fault bad (Ok text) failed same = cc
  refused (play.BadLine line) bad (Err s) failed same = subst (λ (end : Status). RunShown print i schedule emulation (Err end)) (sym same) (sym from_first ∙ bad line refl)
  refused play.NoMemory bad (Err s) failed same = subst (λ (end : Status). RunShown print i schedule emulation (Err end)) (sym same) tt

  -- a property of the empty trace holds of the entries before the first choice
  pub none_yet : (P : Input → List Entry → Type 0) → P i [] → P i (trace_of course)
  none_yet P x = subst (λ (made : List Choice). P i (numbered i (run i made))) (sym choices) x

  -- the text that is asked for is printed
  pub shown : (new : RunSoFar) (text : List ℕ) → new.input ≡ i → lines_played schedule.lines schedule.bad i (played_so_far course) ≡ Choices new.choices → text ≡ printed print new.input new.choices emulation → RunShown print i schedule emulation (Ok text)
  shown new text same played_to is = (new.choices, sym from_first ∙ played_to, is ∙ ap (λ (j : Input). printed print j new.choices emulation) same)

-- if memory runs out, nothing more is required
pub out_of_memory : (print : Print) (i : Input) (schedule : ReadSchedule) (emulation : Emulation) (result : Result (List ℕ) Status) → IsErr result → IsErrAnd result (λ s. s ≡ NoMemory) → RunShown print i schedule emulation result
out_of_memory print i schedule emulation (Ok text) failed same = cc
out_of_memory print i schedule emulation (Err s) failed same = subst (λ (end : Status). RunShown print i schedule emulation (Err end)) (sym same) tt

-- a run keeps the input that it started with, its trace is lawful by the numbers of messages, and has the drawings of the run
pub starts_so : (i : Input) (new : RunSoFar) → new.input ≡ i → IsStartable i → IsStartable new.input
starts_so i new same startable = subst IsStartable (sym same) startable

pub lawful_so : (i : Input) (new : RunSoFar) → new.input ≡ i → IsStartable i → IsLawfulByNumber new.input (trace_of new)
lawful_so i new same startable = run_by_number new.input (starts_so i new same startable) new.choices

pub drawn_so : (i : Input) (new : RunSoFar) → new.input ≡ i → IsStartable i → drawn (trace_of new) ≡ drawn_of new
drawn_so i new same startable =
    let starts = starts_so i new same startable in
    trace_back largest_number new.input starts (roomy new.input starts) (drawn_of new) (run_lawful new.input starts new.choices)
