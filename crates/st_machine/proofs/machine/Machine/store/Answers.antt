use Rattle.std.proofs.Common.{◌≡◌, ◌-◌, ◌∙◌, Some, ap, drop, refl, set, sym, subst, arith}
use Rattle.st_base.specs.Numbered.{item_at_number}
use Rattle.st_trace.specs.declared.entry.Choice.TheVariants as choice
use Rattle.st_trace.specs.declared.entry.Entry.TheVariants as entry
use Rattle.st_workers.proofs.Turns.{read_is}
use Rattle.st_decide.specs.Machine.{IsNextStep, IsDrawnStep, Running, SameState}
use Rattle.st_system.specs.System.{Parts}
use Rattle.st_threads.specs.Thread.{ThreadRow}
use Rattle.st_decide.specs.declared.step.Step.TheVariants as steps
use Rattle.st_steps.proofs.After.{with_parts}
use Rattle.st_steps.proofs.Moving.{place_in, row_here, stored_inside, stored_started, stored_step}
use Rattle.st_steps.proofs.Served.{left_as, on_err, running_stands, running_step}
use Rattle.st_machine.proofs.Running.{running_of}
use Rattle.st_machine.proofs.machine.Machine.store.Goals as goal

pub overflow_sub-tid : goal.overflow_sub-tid
overflow_sub-tid c = (place_in (running_of c.self.inside) c.args.self.now c.self.view_is c.self.invariant c.args.tid (steps.Store c.args.stored) (λ i st. (_, refl)) c.requires).0

pub index_mut-requires : goal.index_mut-requires
index_mut-requires c =
    let place = (place_in (running_of c.self.inside) c.args.self.now c.self.view_is c.self.invariant c.args.tid (steps.Store c.args.stored) (λ i st. (_, refl)) c.requires).1 in
    omega (arith, place)

abbrev old : goal.After-leave → Running
old c = running_of c.self.inside

next : (c : goal.After-leave) → IsNextStep (old c) c.args.tid (steps.Store c.args.stored)
next c = subst (λ (k : Running). IsNextStep k c.args.tid (steps.Store c.args.stored)) (sym c.self.view_is) c.requires

row : (c : goal.After-leave) → (row : ThreadRow) × (item_at_number (old c).threads c.args.tid ≡ Some row)
row c = row_here (old c) c.self.invariant c.args.tid (steps.Store c.args.stored) (entry.Stored c.args.tid c.args.stored.place c.args.stored.word) (next c) (λ i st. refl)

abbrev new : (c : goal.After-leave) → ThreadRow → Running
new c row = with_parts (old c) c.store.new.self (old c).workers (set (old c).threads (c.args.tid - 1) row)

put : (c : goal.After-leave) → c.go_on.new.self ≡ record (row c).0 { left = drop 1 (row c).0.left }
put c = c.go_on.ensures ∙ ap (λ (r : ThreadRow). record r { left = drop 1 r.left }) (read_is (old c).threads c.args.tid (row c).0 c.index_mut.result.now (row c).1 c.index_mut.ensures.value)

step : (c : goal.After-leave) → IsDrawnStep (old c) (choice.Thread c.args.tid) (entry.Stored c.args.tid c.args.stored.place c.args.stored.word) (new c c.go_on.new.self)
step c = subst (λ (r : ThreadRow). IsDrawnStep (old c) (choice.Thread c.args.tid) (entry.Stored c.args.tid c.args.stored.place c.args.stored.word) (new c r)) (sym (put c)) (stored_step (old c) c.args.tid c.args.stored (next c) c.store.new.self (row c).0 (row c).1 c.in_ok-store.ensures.system)

pub invariant_of-self-2 : goal.invariant_of-self-2
invariant_of-self-2 c = running_step (old c) (new c c.go_on.new.self) (choice.Thread c.args.tid) (entry.Stored c.args.tid c.args.stored.place c.args.stored.word) c.self.invariant (step c)

pub returns-clause-step : goal.returns-clause-step
returns-clause-step c = left_as (old c) _ _ c.self.view_is (choice.Thread c.args.tid) _ _ _ c.leave.ensures (step c)
    (λ ready are numbers has. refl)

pub store-requires-clause-place : goal.store-requires-clause-place
store-requires-clause-place c =
    let m : Running = running_of c.self.inside in
    stored_inside m c.args.tid c.args.stored (subst (λ (k : Running). IsNextStep k c.args.tid (steps.Store c.args.stored)) (sym c.self.view_is) c.requires) c.self.invariant.state c.self.invariant.is

pub store-requires-clause-started : goal.store-requires-clause-started
store-requires-clause-started c =
    let m : Running = running_of c.self.inside in
    stored_started m c.args.tid c.args.stored (subst (λ (k : Running). IsNextStep k c.args.tid (steps.Store c.args.stored)) (sym c.self.view_is) c.requires) c.self.invariant.state c.self.invariant.is

-- out of memory

abbrev before : goal.After-from_residual → Running
before c = running_of c.self.inside

abbrev refused : goal.After-from_residual → Running
refused c = with_parts (before c) c.store.new.self (before c).workers (before c).threads

stands : (c : goal.After-from_residual) → SameState (before c) (refused c)
stands c = subst (λ (s : Parts). SameState (before c) (with_parts (before c) s (before c).workers (before c).threads)) (sym c.in_err-store.ensures.err) (λ st is. (is, refl))

pub invariant_of-self : goal.invariant_of-self
invariant_of-self c = running_stands (before c) (refused c) c.self.invariant (stands c)

pub returns-in_err-store-clause-err : goal.returns-in_err-store-clause-err
returns-in_err-store-clause-err c = on_err c.from_residual.result (subst (λ (m : Running). SameState m (refused c)) c.self.view_is (stands c))
