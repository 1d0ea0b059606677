use Rattle.std.proofs.Common.{◌≡◌, ◌-◌, ◌≤◌, ◌∙◌, suc, subst, arith}
use Rattle.st_law.specs.Inputs.{IsStartable}
use Rattle.st_law.specs.Machine.{state_of_run}
use Rattle.st_law.specs.State.{State}
use Rattle.st_report.specs.ScheduleText.{spelled_choices}
use Rattle.st_reached.specs.Reached.{most_numbers}
use Rattle.st_decide.specs.Machine.{Running}
use Rattle.st_kernel.specs.Kernel.{RunSoFar, state_in}
use Rattle.st_kernel.proofs.NumbersDrawn.{at_most, next_is}
use Rattle.st_kernel.proofs.kernel.Kernel.drawings.Goals as goal

-- the state of the run
abbrev state : goal.After-next_drawing → State
state c = state_of_run c.self.inside.machine.input (spelled_choices c.self.inside.made.items)

next : (c : goal.After-next_drawing) → c.next_drawing.result ≡ suc (state c).posted
next c =
    subst (λ (m : Running). c.next_drawing.result ≡ m.workers.calls.next) (c.machine.view_is ∙ c.view-machine.ensures) c.next_drawing.ensures
    ∙ next_is c.self.inside.machine (state c) c.self.invariant.0.machine

pub overflow_sub-result : goal.overflow_sub-result
overflow_sub-result c = omega (arith, next c)

pub returns-clause-drawn : goal.returns-clause-drawn
returns-clause-drawn c = subst (λ (so_far : RunSoFar). (c.next_drawing.result - 1) ≡ (state_in so_far).posted) c.self.view_is (omega (arith, next c))

pub returns-clause-most : goal.returns-clause-most
returns-clause-most c =
    subst (λ (so_far : RunSoFar). (c.next_drawing.result - 1) ≤ most_numbers so_far.input) c.self.view_is
    (omega (arith, next c, at_most c.self.inside.machine (state c) c.self.invariant.0.machine))

pub returns-clause-startable : goal.returns-clause-startable
returns-clause-startable c = subst (λ (so_far : RunSoFar). IsStartable so_far.input) c.self.view_is c.self.invariant.0.machine.reached.startable
