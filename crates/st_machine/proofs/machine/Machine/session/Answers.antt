use Rattle.std.proofs.Common.{◌∙◌, List, ap, subst, sym}
use Rattle.st_compile.specs.Places.{PolicyPlaces}
use Rattle.st_law.specs.State.{State}
use Rattle.st_learn.specs.SessionIn.{IsSessionIn}
use Rattle.st_learn.specs.Sessions.{version_of}
use Rattle.st_decide.specs.Machine.{Refines, Running}
use Rattle.st_machine.proofs.Running.{running_of}
use Rattle.st_machine.proofs.machine.Machine.session.Goals as goal

pub returns : goal.returns
returns c = subst (λ (k : Running). (st : State) → Refines k st → IsSessionIn st c.session.result.now) c.self.view_is (λ (st : State) (is : Refines (running_of c.self.inside) st). record {
  filters = c.session.ensures.filters ∙ sym is.operator.session;
  changed = c.session.ensures.changed ∙ sym is.operator.changed;
  versions = λ binary. ap (λ (reloads : List PolicyPlaces). version_of reloads binary) c.session.ensures.reloads ∙ sym (is.operator.versions binary);
})
