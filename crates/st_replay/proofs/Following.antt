-- The kernel's state is the one after its trace, and its trace goes on as the machine says.
use Rattle.std.proofs.Common.{◌≡◌, ◌∙◌, List, [], ◌∷◌, ◌++◌, reverse, Some, ap, refl, sym}
use Rattle.std.proofs.lemmas.List.{reverse-reverse}
use Rattle.std.specs.Option.{option_map}
use Rattle.st_trace.specs.declared.entry.Choice.{Choice}
use Rattle.st_trace.specs.declared.entry.Entry.{Entry}
use Rattle.st_law.specs.History.{looking_back, session_at}
use Rattle.st_law.specs.Inputs.{IsStartable}
use Rattle.st_law.specs.Machine.{entry_of, run}
use Rattle.st_law.specs.Numbers.{drawn, largest_number, numbers_at}
use Rattle.st_law.specs.State.{State}
use Rattle.st_law.specs.Threads.{History}
use Rattle.st_law.proofs.Laws.{run_lawful}
use Rattle.st_law.proofs.Ties.{state-is}
use Rattle.st_reached.proofs.NumbersBack.{roomy, run_by_number, trace_back}
use Rattle.st_kernel.specs.Kernel.{RunSoFar, drawn_of, entry_now, history_of, number_now, numbered_next, state_in, trace_of, with_choice}
use Rattle.st_kernel.proofs.Plays.{noted_on}
use Rattle.st_replay.specs.declared.mover.Mover.{Mover}
use Rattle.st_replay.specs.Told.{IsLawfulSoFar, TraceSoFar, choice_after, choice_numbered, choice_of_mover, choice_told, entry_made, history_told, mover_of, numbered_after, with_entry}
use Rattle.st_replay.proofs.Lawful.{mapped_from}

-- the trace of a run
abbrev pub trace_in : RunSoFar → TraceSoFar
trace_in run = record { input = run.input; trace = trace_of run }

module _ (run : RunSoFar) (startable : IsStartable run.input) where
  history_is : history_told (trace_in run) ≡ history_of run
  history_is = ap reverse (trace_back largest_number run.input startable (roomy run.input startable) (drawn_of run) (run_lawful run.input startable run.choices)) ∙ reverse-reverse (history_of run)

  -- the choice of a mover in the kernel's state is the one after the trace
  pub mover_is : (mover : Mover) → choice_of_mover run.input (state_in run) (number_now run) mover ≡ choice_after (trace_in run) mover
  mover_is mover =
      ap (λ (st : State). choice_of_mover run.input st (number_now run) mover) (state-is run.input (history_of run))
      ∙ sym (ap (λ (h : History). choice_of_mover run.input (looking_back run.input h) (numbers_at largest_number run.input h).number_of mover) history_is)

  -- the choice that an entry tells in the kernel's state is the one that it tells after the trace
  pub choice_is : (e : Entry) → choice_numbered run.input (state_in run) (number_now run) e ≡ choice_told (trace_in run) e
  choice_is e = mover_is (mover_of e)

  -- the entry that the kernel adds is the one that the machine adds after the trace
  pub made_is : (c : Choice) → entry_now run c ≡ entry_made (trace_in run) c
  made_is c =
      ap (λ (st : State). option_map (numbered_next run) (entry_of run.input st c)) (state-is run.input (history_of run))
      ∙ sym (ap (λ (h : History). option_map (numbered_after run.input h) (entry_of run.input (looking_back run.input h) c)) history_is)

  pub so_far_lawful : IsLawfulSoFar (trace_in run)
  so_far_lawful = run_by_number run.input startable run.choices

module _ (old : RunSoFar) (c : Choice) (new : RunSoFar) (on : new ≡ with_choice old c) where
  -- the trace after a choice has the entry that the choice adds
  trace_grows : (given : Entry) → entry_now old c ≡ Some given → trace_of new ≡ trace_of old ++ given ∷ []
  trace_grows given adds =
      let found = mapped_from (numbered_next old) (entry_of old.input (state_in old) c) given adds in
      noted_on (λ i trace. trace ≡ trace_of old) (λ i trace. trace ≡ trace_of old ++ given ∷ []) old c found.0 given new new.input
      (session_at new.input (reverse (drawn (trace_of new)))) on refl refl found.1 found.2 (λ trace _ is. ap (λ (l : List Entry). l ++ given ∷ []) is) refl

  pub grows : (given : Entry) → entry_now old c ≡ Some given → trace_in new ≡ with_entry (trace_in old) given
  grows given adds = λ k. record { input = (on k).input; trace = trace_grows given adds k }
