use Rattle.std.proofs.Common.{◌≡◌, ℕ, true, subst}
use Rattle.std.specs.Prelude.{is_some, IfSome}
use Rattle.st_law.specs.State.{State, is_live}
use Rattle.st_decide.specs.Machine.{Refines, Running}
use Rattle.st_decide.proofs.Enabling.{only_holder}
use Rattle.st_decide.proofs.Running.{running_of}
use Rattle.st_decide.proofs.view.View.holder.Goals as goal
use Rattle.st_reached.specs.Waiting.{is_message_by}

pub returns-clause-law : goal.returns-clause-law
returns-clause-law c =
    let m : Running = running_of c.self.inside in
    subst (λ (k : Running). IfSome c.thread.result (λ tid. (st : State) → Refines k st → (t : ℕ) → is_message_by st t c.args.drawing ≡ true → t ≡ tid)) c.self.view_is
    (only_holder m c.args.drawing c.thread.result c.thread.ensures.law)

pub returns-clause-live : goal.returns-clause-live
returns-clause-live c =
    subst (λ (k : Running). (st : State) → Refines k st → is_some c.thread.result ≡ is_live st c.args.drawing) c.self.view_is
    (λ (st : State) (is : Refines (running_of c.self.inside) st). c.thread.ensures.live (running_of c.self.inside).input st is.workers)
