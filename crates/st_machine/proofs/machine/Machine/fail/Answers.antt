use Rattle.std.proofs.Common.{◌≡◌, ◌-◌, ◌∙◌, None, Some, ap, refl, set, sym, subst, arith}
use Rattle.st_base.specs.Numbered.{item_at_number}
use Rattle.st_trace.specs.declared.entry.Choice.TheVariants as choice
use Rattle.st_workers.proofs.Turns.{read_is}
use Rattle.st_decide.specs.Machine.{IsNextStep, IsDrawnStep, Running}
use Rattle.st_threads.specs.Thread.{ThreadRow}
use Rattle.st_decide.specs.declared.step.Step.TheVariants as steps
use Rattle.st_steps.proofs.After.{with_parts}
use Rattle.st_steps.proofs.Moving.{entry_failed, failed_step, place_in, row_here}
use Rattle.st_machine.proofs.Running.{running_of}
use Rattle.st_steps.proofs.Served.{left_as, running_step}
use Rattle.st_machine.proofs.machine.Machine.fail.Goals as goal

pub overflow_sub-tid : goal.overflow_sub-tid
overflow_sub-tid c = (place_in (running_of c.self.inside) c.args.self.now c.self.view_is c.self.invariant c.args.tid (steps.Fail c.args.failed) (λ i st. (_, refl)) c.requires).0

pub index_mut-requires : goal.index_mut-requires
index_mut-requires c =
    let place = (place_in (running_of c.self.inside) c.args.self.now c.self.view_is c.self.invariant c.args.tid (steps.Fail c.args.failed) (λ i st. (_, refl)) c.requires).1 in
    omega (arith, place)

abbrev old : goal.After-leave → Running
old c = running_of c.self.inside

next : (c : goal.After-leave) → IsNextStep (old c) c.args.tid (steps.Fail c.args.failed)
next c = subst (λ (k : Running). IsNextStep k c.args.tid (steps.Fail c.args.failed)) (sym c.self.view_is) c.requires

row : (c : goal.After-leave) → (row : ThreadRow) × (item_at_number (old c).threads c.args.tid ≡ Some row)
row c = row_here (old c) c.self.invariant c.args.tid (steps.Fail c.args.failed) (entry_failed c.args.tid c.args.failed) (next c) (λ i st. refl)

abbrev new : (c : goal.After-leave) → ThreadRow → Running
new c row = with_parts (old c) (old c).system (old c).workers (set (old c).threads (c.args.tid - 1) row)

put : (c : goal.After-leave) → c.close.new.self ≡ record (row c).0 { pending = None }
put c = c.close.ensures ∙ ap (λ (r : ThreadRow). record r { pending = None }) (read_is (old c).threads c.args.tid (row c).0 c.index_mut.result.now (row c).1 c.index_mut.ensures.value)

step : (c : goal.After-leave) → IsDrawnStep (old c) (choice.Thread c.args.tid) (entry_failed c.args.tid c.args.failed) (new c c.close.new.self)
step c = subst (λ (r : ThreadRow). IsDrawnStep (old c) (choice.Thread c.args.tid) (entry_failed c.args.tid c.args.failed) (new c r)) (sym (put c)) (failed_step (old c) c.args.tid c.args.failed (next c) (row c).0 (row c).1)

pub invariant_of-self : goal.invariant_of-self
invariant_of-self c = running_step (old c) (new c c.close.new.self) (choice.Thread c.args.tid) (entry_failed c.args.tid c.args.failed) c.self.invariant (step c)

pub returns-clause-step : goal.returns-clause-step
returns-clause-step c = left_as (old c) _ _ c.self.view_is (choice.Thread c.args.tid) _ _ _ c.leave.ensures (step c)
    (λ ready are numbers has. c.entry.ensures)
