use Rattle.std.proofs.Common.{◌≡◌, ◌∙◌, not, false, sym, subst}
use Rattle.st_law.specs.State.{is_question, State}
use Rattle.st_decide.specs.Machine.{Refines, Running}
use Rattle.st_decide.specs.Questions.{CanBeMadeOrDenied}
use Rattle.st_decide.proofs.Enabling.{not_over, over_by}
use Rattle.st_decide.proofs.Running.{running_of}
use Rattle.st_decide.proofs.view.View.is_over.Goals as goal

pub returns-then-not-has_come : goal.returns-then-not-has_come
returns-then-not-has_come c =
    let m : Running = running_of c.self.inside in
    let over : (st : State) → Refines m st → CanBeMadeOrDenied m.input st c.args.drawing false = λ st is. not_over m.input st c.args.drawing c.state.result (c.state.ensures.law m.input st is.workers) (sym c.has_come.ensures ∙ c.if-not-has_come.true) in
    subst (λ (k : Running). (st : State) → Refines k st → CanBeMadeOrDenied k.input st c.args.drawing false) c.self.view_is over

pub returns : goal.returns
returns c =
    let m : Running = running_of c.self.inside in
    let question : (st : State) → Refines m st → is_question m.input st c.args.drawing ≡ c.is_question.result = subst (λ (k : Running). (st : State) → Refines k st → is_question k.input st c.args.drawing ≡ c.is_question.result) (sym c.self.view_is) c.is_question.ensures.question in
    let over : (st : State) → Refines m st → CanBeMadeOrDenied m.input st c.args.drawing (not c.is_question.result) = λ st is.
    over_by m st c.args.drawing c.state.result (c.state.ensures.law m.input st is.workers) (sym c.has_come.ensures ∙ c.if-not-has_come.false) c.is_question.result (question st is) in
    subst (λ (k : Running). (st : State) → Refines k st → CanBeMadeOrDenied k.input st c.args.drawing (not c.is_question.result)) c.self.view_is over
