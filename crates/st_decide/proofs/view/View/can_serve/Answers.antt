use Rattle.std.proofs.Common.{◌≡◌, ◌∙◌, subst}
use Rattle.std.specs.Prelude.{is_some}
use Rattle.st_law.specs.Machine.{worker_entry}
use Rattle.st_law.specs.State.{State}
use Rattle.st_decide.specs.Machine.{Refines, Running}
use Rattle.st_decide.proofs.Enabling.{work_moves}
use Rattle.st_decide.proofs.Running.{running_of}
use Rattle.st_decide.proofs.view.View.can_serve.Goals as goal

pub returns : goal.returns
returns c =
    let m : Running = running_of c.self.inside in
    subst (λ (k : Running). (st : State) → Refines k st → c.is_work.result ≡ is_some (worker_entry k.input st c.args.worker)) c.self.view_is
    (λ st is. c.is_work.ensures ∙ work_moves m.input st m.workers c.args.worker c.task.result (c.task.ensures.law m.input st is.workers))
