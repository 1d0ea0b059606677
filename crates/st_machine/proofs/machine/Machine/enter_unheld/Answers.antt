use Rattle.std.proofs.Common.{◌≡◌, ◌-◌, ◌∙◌, Some, ap, refl, set, sym, subst, arith}
use Rattle.st_base.specs.Numbered.{item_at_number}
use Rattle.st_trace.specs.declared.entry.Choice.TheVariants as choice
use Rattle.st_trace.specs.declared.entry.Entry.TheVariants as entry
use Rattle.st_trace.specs.declared.entry.Way.{Way}
use Rattle.st_workers.proofs.Turns.{read_is}
use Rattle.st_decide.specs.Entering.{IsKeptAnswer, IsWayOf}
use Rattle.st_decide.specs.Machine.{IsNextStep, IsDrawnStep, Running}
use Rattle.st_threads.specs.Thread.{ThreadRow, row_entered}
use Rattle.st_threads.specs.Ways.{drawn_way}
use Rattle.st_decide.specs.declared.step.Step.TheVariants as steps
use Rattle.st_steps.proofs.After.{with_parts}
use Rattle.st_steps.proofs.Entered.{unheld_step}
use Rattle.st_steps.proofs.Moving.{place_in, row_entering}
use Rattle.st_steps.proofs.Served.{left_as, running_step}
use Rattle.st_machine.proofs.Running.{running_of}
use Rattle.st_steps.proofs.EntryNumbers.{unheld_has}
use Rattle.st_machine.proofs.machine.Machine.enter_unheld.Goals as goal

pub overflow_sub-tid : goal.overflow_sub-tid
overflow_sub-tid c = (place_in (running_of c.self.inside) c.args.self.now c.self.view_is c.self.invariant c.args.tid (steps.Enter c.args.new.now) (λ i st. (_, refl)) c.requires.next).0

pub index_mut-requires : goal.index_mut-requires
index_mut-requires c =
    let place = (place_in (running_of c.self.inside) c.args.self.now c.self.view_is c.self.invariant c.args.tid (steps.Enter c.args.new.now) (λ i st. (_, refl)) c.requires.next).1 in
    omega (arith, place)

-- the way of the call
abbrev way : goal.After-leave → Way
way c = drawn_way c.args.chosen.way

abbrev old : goal.After-leave → Running
old c = running_of c.self.inside

next : (c : goal.After-leave) → IsNextStep (old c) c.args.tid (steps.Enter c.args.new.now)
next c = subst (λ (k : Running). IsNextStep k c.args.tid (steps.Enter c.args.new.now)) (sym c.self.view_is) c.requires.next

row : (c : goal.After-leave) → (row : ThreadRow) × (item_at_number (old c).threads c.args.tid ≡ Some row)
row c = row_entering (old c) c.self.invariant c.args.tid c.args.new.now (next c)

abbrev new : (c : goal.After-leave) → ThreadRow → Running
new c row = with_parts (old c) (old c).system (old c).workers (set (old c).threads (c.args.tid - 1) row)

put : (c : goal.After-leave) → c.enter.new.self ≡ row_entered (row c).0 c.args.new.now.call c.args.new.now.regs (way c) c.args.chosen.answer
put c = c.enter.ensures ∙ ap (λ (r : ThreadRow). row_entered r c.args.new.now.call c.args.new.now.regs (way c) c.args.chosen.answer) (read_is (old c).threads c.args.tid (row c).0 c.index_mut.result.now (row c).1 c.index_mut.ensures.value)

step : (c : goal.After-leave) → IsDrawnStep (old c) (choice.Thread c.args.tid) (entry.Entered c.args.tid c.args.new.now.call c.args.new.now.regs (way c)) (new c c.enter.new.self)
step c = subst (λ (r : ThreadRow). IsDrawnStep (old c) (choice.Thread c.args.tid) (entry.Entered c.args.tid c.args.new.now.call c.args.new.now.regs (way c)) (new c r)) (sym (put c)) (unheld_step (old c) c.args.tid c.args.new.now (next c) (row c).0 (row c).1 (way c) (subst (λ (k : Running). IsWayOf k c.args.tid c.args.new.now (way c)) (sym c.self.view_is) c.requires.way)
    c.args.chosen.answer (subst (λ (k : Running). IsKeptAnswer k c.args.tid c.args.new.now (way c) c.args.chosen.answer) (sym c.self.view_is) c.requires.answer) c.requires.unposted)

pub invariant_of-self : goal.invariant_of-self
invariant_of-self c = running_step (old c) (new c c.enter.new.self) (choice.Thread c.args.tid) (entry.Entered c.args.tid c.args.new.now.call c.args.new.now.regs (way c)) c.self.invariant (step c)

pub returns-clause-step : goal.returns-clause-step
returns-clause-step c = left_as (old c) _ _ c.self.view_is (choice.Thread c.args.tid) _ _ _ (c.leave.ensures ∙ ap (λ (w : Way). Some (entry.Entered c.args.tid c.args.new.now.call c.args.new.now.regs w)) c.way_unheld-entered.ensures) (step c)
    (unheld_has (old c).workers c.args.tid c.args.new.now.call c.args.new.now.regs (way c) c.requires.unposted)
