use Rattle.std.proofs.Common.{◌≡◌, ◌∙◌, ℕ, Bool, Some, ap, sym}
use Rattle.st_law.specs.Machine.{reloaded_entry}
use Rattle.st_law.specs.State.{State, may_reload, process_in}
use Rattle.st_model.specs.Processes.{process_at}
use Rattle.st_decide.specs.Machine.{Refines, Running}
use Rattle.st_decide.specs.NextSteps.{IsInProcess}
use Rattle.st_decide.proofs.NextSteps.{process_here}
use Rattle.st_decide.proofs.view.View.reload_step.Goals as goal

-- whether a reload is done, in the machine that runs and in the law's machine
may_as : (m : Running) (t pid : ℕ) → IsInProcess m.system t pid → (b may : Bool) → may ≡ may_reload (process_at m.system.processes pid) → may ≡ b → (st : State) → Refines m st → may_reload (process_in st t) ≡ b
may_as m t pid caller b may is says st refines = ap may_reload (process_here m st refines t pid caller) ∙ sym is ∙ says

pub returns-then-may_reload-clause-step : goal.returns-then-may_reload-clause-step
returns-then-may_reload-clause-step c = λ st is.
    let m : Running = c.args.self.now in
    ap (λ (b : Bool). Some (reloaded_entry m.input st c.args.caller.tid c.args.policy b)) (may_as m c.args.caller.tid c.args.caller.pid c.requires _ c.may_reload.result c.may_reload.ensures c.if-may_reload.true st is)

pub returns-else-may_reload-clause-step : goal.returns-else-may_reload-clause-step
returns-else-may_reload-clause-step c = λ st is.
    let m : Running = c.args.self.now in
    ap (λ (b : Bool). Some (reloaded_entry m.input st c.args.caller.tid c.args.policy b)) (may_as m c.args.caller.tid c.args.caller.pid c.requires _ c.may_reload.result c.may_reload.ensures c.if-may_reload.false st is)
