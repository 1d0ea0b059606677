-- The entry that a choice adds, with its numbers, wakes no other threads than the law's entry of drawings does.
use native.Mathlib.Omega.{arith}
use Rattle.std.proofs.Common.{◌≡◌, ◌∙◌, ℕ, suc, Bool, true, List, Option, Some, ap, sym, subst}
use Rattle.std.specs.Prelude.{is_some}
use Rattle.st_messages.specs.Messages.{seq_of}
use Rattle.st_messages.proofs.Seqs.{drawing_has_it}
use Rattle.st_report.specs.ScheduleText.{spelled_choices}
use Rattle.st_report.specs.declared.schedule.Repeat.{Repeat}
use Rattle.st_trace.specs.declared.entry.Choice.{Choice}
use Rattle.st_trace.specs.declared.entry.Entry.{Entry}
use Rattle.st_law.specs.Lawful.{IsLawful}
use Rattle.st_law.specs.Machine.{entry_of, state_after, state_of_run}
use Rattle.st_law.specs.Numbers.{Numbers, is_in_use, is_kept, largest_number, numbers_after}
use Rattle.st_law.specs.State.{State, is_live}
use Rattle.st_law.specs.declared.input.Input.{Input}
use Rattle.st_reached.proofs.InUse.{used_before, used_made}
use Rattle.st_reached.proofs.NumbersBack.{named_used}
use Rattle.st_reached.proofs.Reached.{Reached, lawful_entry, reached_after, reached_run}
use Rattle.st_workers.specs.Numbers.{CarriesEntry, IsNumbered}
use Rattle.st_workers.specs.Refinement.{RepresentsMessages}
use Rattle.st_workers.proofs.InUse.{in_use_is, ready_is}
use Rattle.st_decide.specs.Machine.{IsDrawnStep, Refines, Running}
use Rattle.st_waking.specs.Waking.{is_woken, woken_by}
use Rattle.st_waking.specs.declared.waking.Woken.{Woken}
use Rattle.st_waking.proofs.LawWakes.{law_wakes, MeansDrawings}
use Rattle.st_kernel.specs.Kernel.{numbers_now, IsRunSoFar}
use Rattle.st_kernel.proofs.RunsSoFar.{WakesNoOther, number_has}

module _ (m new : Running) (kept : List Repeat) (first : ℕ) (asleep : List Bool) (so_far : IsRunSoFar m kept first asleep) (same : new.input ≡ m.input) (c : Choice) (e : Entry) (step : IsDrawnStep m c e new) where
  abbrev st : State
  st = state_of_run m.input (spelled_choices kept)

  abbrev numbers : Numbers
  numbers = numbers_now m.input (spelled_choices kept)

  abbrev later : State
  later = state_after m.input st e

  reached : Reached m.input st
  reached = reached_run m.input so_far.machine.reached.startable (spelled_choices kept)

  made : (entry_of m.input st c ≡ Some e) × Refines new later × CarriesEntry e m.workers new.workers
  made = step st so_far.machine

  lawful : IsLawful m.input st e
  lawful = lawful_entry m.input st reached c e made.0

  served : RepresentsMessages m.input later (is_live later) new.workers
  served = subst (λ (i : Input). RepresentsMessages i later (is_live later) new.workers) same made.1.workers

  means : numbers_after largest_number (is_kept m.input st) numbers e ≡ numbers → MeansDrawings new.workers.calls numbers.number_of e
  means quiet q p names found =
      let carried = made.2 (is_kept m.input st) (ready_is m.input st (is_live st) m.workers so_far.machine.workers) numbers so_far.numbers in
      let has : seq_of new.workers.calls p ≡ Some (numbers.number_of q) = drawing_has_it new.workers.calls (numbers.number_of q) made.1.workers.numbered.calls p found in
      let equal : numbers.number_of p ≡ numbers.number_of q = sym (ap (λ (n : Numbers). n.number_of p) quiet) ∙ carried.1.seqs p (numbers.number_of q) has in
      let used_then : is_in_use m.input later p ≡ true = sym (in_use_is m.input later new.workers served p) ∙ ap (λ (o : Option ℕ). is_some o) has in
      let first_next = so_far.numbers.next in
      let first_posted = so_far.machine.workers.agrees.next in
      let then_next = carried.1.next ∙ ap (λ (n : Numbers). suc n.last) quiet in
      let then_posted = made.1.workers.agrees.next in
      let low = (used_made m.input later (reached_after m.input st reached e lawful) p used_then).1 in
      let used : is_in_use m.input st p ≡ true = used_before m.input st reached p (omega (arith, low, first_next, first_posted, then_next, then_posted)) e lawful used_then in
      so_far.machine.workers.numbered.calls.seqs p q (numbers.number_of q) (number_has m kept first asleep so_far p used ∙ ap Some equal) (number_has m kept first asleep so_far q (named_used m.input st reached q e lawful names))

  -- the entry of numbers wakes no other threads
  pub wakes_no_other : (given : Entry) → IsNumbered e given m.workers → (woken : Woken) → woken ≡ woken_by new.workers.calls given → WakesNoOther new e woken
  wakes_no_other given numbered woken is = λ s refines t wakes.
      let given_is = numbered (is_kept m.input st) (ready_is m.input st (is_live st) m.workers so_far.machine.workers) numbers so_far.numbers in
      ap (λ (w : Woken). is_woken new w t) (is ∙ ap (woken_by new.workers.calls) given_is) ∙ law_wakes new s refines (is_kept m.input st) numbers e means t wakes
