use Rattle.std.proofs.Common.{◌≡◌, ◌-◌, ◌∙◌, None, Some, ap, refl, set, sym, subst, arith}
use Rattle.st_base.specs.Numbered.{item_at_number}
use Rattle.st_trace.specs.declared.entry.Choice.TheVariants as choice
use Rattle.st_trace.specs.declared.entry.Entry.{Entry}
use Rattle.st_trace.specs.declared.entry.Entry.TheVariants as entry
use Rattle.st_workers.proofs.Turns.{read_is}
use Rattle.st_decide.specs.Machine.{IsNextStep, IsDrawnStep, Running}
use Rattle.st_threads.specs.Thread.{ThreadRow}
use Rattle.st_decide.specs.declared.step.Step.TheVariants as steps
use Rattle.st_steps.proofs.After.{with_parts}
use Rattle.st_steps.proofs.Moving.{denied_lives, denied_step, place_in, row_here}
use Rattle.st_machine.proofs.Running.{running_of}
use Rattle.st_steps.proofs.Served.{left_as, running_step}
use Rattle.st_workers.specs.Numbers.{IsNumbered}
use Rattle.st_steps.proofs.EntryNumbers.{denied_has}
use Rattle.st_machine.proofs.machine.Machine.deny.Goals as goal

pub overflow_sub-tid : goal.overflow_sub-tid
overflow_sub-tid c = (place_in (running_of c.self.inside) c.args.self.now c.self.view_is c.self.invariant c.args.tid (steps.Deny c.args.denied) (λ i st. (_, refl)) c.requires).0

pub index_mut-requires : goal.index_mut-requires
index_mut-requires c =
    let place = (place_in (running_of c.self.inside) c.args.self.now c.self.view_is c.self.invariant c.args.tid (steps.Deny c.args.denied) (λ i st. (_, refl)) c.requires).1 in
    omega (arith, place)

pub seq_if-seq-requires : goal.seq_if-seq-requires
seq_if-seq-requires c =
    let m : Running = running_of c.self.inside in
    denied_lives m c.args.tid c.args.denied.errno c.args.denied.cause c.args.denied.drawing (subst (λ (k : Running). IsNextStep k c.args.tid (steps.Deny c.args.denied)) (sym c.self.view_is) c.requires) c.self.invariant.state c.self.invariant.is

pub end_call-requires : goal.end_call-requires
end_call-requires c =
    let m : Running = running_of c.self.inside in
    denied_lives m c.args.tid c.args.denied.errno c.args.denied.cause c.args.denied.drawing (subst (λ (k : Running). IsNextStep k c.args.tid (steps.Deny c.args.denied)) (sym c.self.view_is) c.requires) c.self.invariant.state c.self.invariant.is

-- ---- after the call has ended

abbrev old : goal.After-leave → Running
old c = running_of c.self.inside

next : (c : goal.After-leave) → IsNextStep (old c) c.args.tid (steps.Deny c.args.denied)
next c = subst (λ (k : Running). IsNextStep k c.args.tid (steps.Deny c.args.denied)) (sym c.self.view_is) c.requires

abbrev added : goal.After-leave → Entry
added c = entry.Denied c.args.tid c.args.denied.drawing c.args.denied.errno c.args.denied.cause

row : (c : goal.After-leave) → (row : ThreadRow) × (item_at_number (old c).threads c.args.tid ≡ Some row)
row c = row_here (old c) c.self.invariant c.args.tid (steps.Deny c.args.denied) (added c) (next c) (λ i st. refl)

abbrev new : (c : goal.After-leave) → ThreadRow → Running
new c row = with_parts (old c) (old c).system c.end_call.new.workers (set (old c).threads (c.args.tid - 1) row)

put : (c : goal.After-leave) → c.close.new.self ≡ record (row c).0 { pending = None }
put c = c.close.ensures ∙ ap (λ (r : ThreadRow). record r { pending = None }) (read_is (old c).threads c.args.tid (row c).0 c.index_mut.result.now (row c).1 c.index_mut.ensures.value)

step : (c : goal.After-leave) → IsDrawnStep (old c) (choice.Thread c.args.tid) (added c) (new c c.close.new.self)
step c = subst (λ (r : ThreadRow). IsDrawnStep (old c) (choice.Thread c.args.tid) (added c) (new c r)) (sym (put c))
    (denied_step (old c) c.args.tid c.args.denied.errno c.args.denied.cause c.args.denied.drawing (next c) c.end_call.new.workers (row c).0 (row c).1 c.end_call.ensures.kept c.end_call.ensures.numbers)

pub invariant_of-self : goal.invariant_of-self
invariant_of-self c = running_step (old c) (new c c.close.new.self) (choice.Thread c.args.tid) (added c) c.self.invariant (step c)

pub returns-clause-step : goal.returns-clause-step
returns-clause-step c = left_as (old c) _ _ c.self.view_is (choice.Thread c.args.tid) _ _ _ c.leave.ensures (step c)
    (subst (λ (given : Entry). IsNumbered (added c) given (old c).workers) (sym c.entry.ensures)
    (denied_has (old c).workers c.args.denied.drawing c.seq_if-seq.result (denied_lives (old c) c.args.tid c.args.denied.errno c.args.denied.cause c.args.denied.drawing (next c) c.self.invariant.state c.self.invariant.is) c.seq_if-seq.ensures c.args.tid c.args.denied.errno c.args.denied.cause))
