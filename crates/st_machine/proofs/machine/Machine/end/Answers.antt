use Rattle.std.proofs.Common.{◌≡◌, ◌-◌, ◌∙◌, Some, ap, arith, refl, set, sym, subst, true}
use Rattle.st_base.specs.Numbered.{item_at_number}
use Rattle.st_trace.specs.declared.entry.Choice.TheVariants as choice
use Rattle.st_trace.specs.declared.entry.Entry.TheVariants as entry
use Rattle.st_workers.proofs.Turns.{read_is}
use Rattle.st_decide.specs.Machine.{IsNextStep, IsDrawnStep, Running}
use Rattle.st_threads.specs.Thread.{ThreadRow}
use Rattle.st_decide.specs.declared.step.Step.TheVariants as steps
use Rattle.st_steps.proofs.After.{with_parts}
use Rattle.st_steps.proofs.Moving.{ended_step, place_in, row_here}
use Rattle.st_steps.proofs.Served.{left_as, running_step}
use Rattle.st_machine.proofs.Running.{running_of}
use Rattle.st_machine.proofs.machine.Machine.end.Goals as goal

pub overflow_sub-tid : goal.overflow_sub-tid
overflow_sub-tid c = (place_in (running_of c.self.inside) c.args.self.now c.self.view_is c.self.invariant c.args.tid steps.End (λ i st. (_, refl)) c.requires).0

pub index_mut-requires : goal.index_mut-requires
index_mut-requires c =
    let place = (place_in (running_of c.self.inside) c.args.self.now c.self.view_is c.self.invariant c.args.tid steps.End (λ i st. (_, refl)) c.requires).1 in
    omega (arith, place)

abbrev old : goal.After-leave → Running
old c = running_of c.self.inside

next : (c : goal.After-leave) → IsNextStep (old c) c.args.tid (steps.End)
next c = subst (λ (k : Running). IsNextStep k c.args.tid (steps.End)) (sym c.self.view_is) c.requires

row : (c : goal.After-leave) → (row : ThreadRow) × (item_at_number (old c).threads c.args.tid ≡ Some row)
row c = row_here (old c) c.self.invariant c.args.tid (steps.End) (entry.Ended c.args.tid) (next c) (λ i st. refl)

abbrev new : (c : goal.After-leave) → ThreadRow → Running
new c row = with_parts (old c) c.end_thread.new.self (old c).workers (set (old c).threads (c.args.tid - 1) row)

put : (c : goal.After-leave) → c.end.new.self ≡ record (row c).0 { ended = true }
put c = c.end.ensures ∙ ap (λ (r : ThreadRow). record r { ended = true }) (read_is (old c).threads c.args.tid (row c).0 c.index_mut.result.now (row c).1 c.index_mut.ensures.value)

step : (c : goal.After-leave) → IsDrawnStep (old c) (choice.Thread c.args.tid) (entry.Ended c.args.tid) (new c c.end.new.self)
step c = subst (λ (r : ThreadRow). IsDrawnStep (old c) (choice.Thread c.args.tid) (entry.Ended c.args.tid) (new c r)) (sym (put c)) (ended_step (old c) c.args.tid (next c) c.end_thread.new.self (row c).0 (row c).1 c.end_thread.ensures)

pub invariant_of-self : goal.invariant_of-self
invariant_of-self c = running_step (old c) (new c c.end.new.self) (choice.Thread c.args.tid) (entry.Ended c.args.tid) c.self.invariant (step c)

pub returns-clause-step : goal.returns-clause-step
returns-clause-step c = left_as (old c) _ _ c.self.view_is (choice.Thread c.args.tid) _ _ _ c.leave.ensures (step c)
    (λ ready are numbers has. refl)
