use Rattle.std.proofs.Common.{◌≡◌, subst, sym}
use Rattle.std.specs.Prelude.{is_some}
use Rattle.st_law.specs.Machine.{entry_of, state_of_run}
use Rattle.st_law.specs.State.{State}
use Rattle.st_report.specs.ScheduleText.{spelled_choices}
use Rattle.st_decide.specs.Machine.{Refines, Running}
use Rattle.st_kernel.specs.Kernel.{RunSoFar, state_in}
use Rattle.st_kernel.proofs.kernel.Kernel.enabled.Goals as goal

pub returns : goal.returns
returns c =
    let m = c.self.inside.machine in
    let st : State = state_of_run m.input (spelled_choices c.self.inside.made.items) in
    let here : c.is_enabled.result ≡ is_some (entry_of m.input st c.args.choice) =
    subst (λ (machine : Running). c.is_enabled.result ≡ is_some (entry_of machine.input st c.args.choice)) c.view.ensures
    (c.is_enabled.ensures st (subst (λ (machine : Running). Refines machine st) (sym c.view.ensures) c.self.invariant.0.machine)) in
    subst (λ (so_far : RunSoFar). c.is_enabled.result ≡ is_some (entry_of so_far.input (state_in so_far) c.args.choice)) c.self.view_is here
