use Rattle.std.proofs.Common.{◌∙◌, ap}
use Rattle.st_decide.specs.Machine.{Running}
use Rattle.st_machine.proofs.machine.Machine.compiled.Goals as goal

pub returns : goal.returns
returns c = c.compiled.ensures ∙ c.self.invariant.is.answers.policies ∙ ap (λ (m : Running). m.input.policies) c.self.view_is
