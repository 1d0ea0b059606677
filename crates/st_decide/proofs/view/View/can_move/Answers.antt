use Rattle.std.proofs.Common.{◌≡◌, ◌∙◌, true, ap, sym, subst}
use Rattle.std.specs.Prelude.{is_some}
use Rattle.st_base.specs.Numbered.{item_at_number}
use Rattle.st_law.specs.Machine.{thread_entry}
use Rattle.st_law.specs.State.{State}
use Rattle.st_decide.specs.Machine.{Refines, Running}
use Rattle.st_decide.specs.Questions.{CanBeMadeOrDenied}
use Rattle.st_decide.proofs.Enabling.{free_moves, held_moves}
use Rattle.st_decide.proofs.Running.{running_of}
use Rattle.st_decide.proofs.view.View.can_move.Goals as goal

pub returns-in-None : goal.returns-in-None
returns-in-None c =
    let m : Running = running_of c.self.inside in
    let row_is = ap (λ (k : Running). item_at_number k.threads c.args.tid) c.self.view_is ∙ c.in-Some.ensures.some in
    subst (λ (k : Running). (st : State) → Refines k st → true ≡ is_some (thread_entry k.input st c.args.tid)) c.self.view_is
    (λ st is. free_moves m st is c.args.tid c.in-Some.thread.now row_is (sym c.has_ended.ensures ∙ c.if-has_ended.false) c.in-Some-pid_of.field-0 (sym c.pid_of.ensures.pid ∙ c.in-Some-pid_of.is) c.in-Some-pid_of.ensures.there.0
    (sym c.drawing_held.ensures ∙ c.in-None.is))

pub returns-in-Some-drawing_held : goal.returns-in-Some-drawing_held
returns-in-Some-drawing_held c =
    let m : Running = running_of c.self.inside in
    let row_is = ap (λ (k : Running). item_at_number k.threads c.args.tid) c.self.view_is ∙ c.in-Some.ensures.some in
    subst (λ (k : Running). (st : State) → Refines k st → c.is_over.result ≡ is_some (thread_entry k.input st c.args.tid)) c.self.view_is
    (λ st is. held_moves m st is c.args.tid c.in-Some.thread.now row_is (sym c.has_ended.ensures ∙ c.if-has_ended.false) c.in-Some-pid_of.field-0 (sym c.pid_of.ensures.pid ∙ c.in-Some-pid_of.is) c.in-Some-pid_of.ensures.there.0
    c.in-Some-drawing_held.drawing (sym c.drawing_held.ensures ∙ c.in-Some-drawing_held.is) c.is_over.result (subst (λ (k : Running). (state : State) → Refines k state → CanBeMadeOrDenied k.input state c.in-Some-drawing_held.drawing c.is_over.result) (sym c.self.view_is) c.is_over.ensures st is))
