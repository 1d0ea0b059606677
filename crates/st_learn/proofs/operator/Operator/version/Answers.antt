use Rattle.std.proofs.Common.{◌∙◌, ap, sym}
use Rattle.st_learn.specs.Operator.{Added}
use Rattle.st_learn.specs.Sessions.{version_of}
use Rattle.st_learn.proofs.operator.Operator.version.Goals as goal

pub returns-clause-is : goal.returns-clause-is
returns-clause-is c = c.version.ensures ∙ ap (λ (a : Added). version_of a.reloads c.args.policy.now) c.self.view_is

pub returns-clause-law : goal.returns-clause-law
returns-clause-law c = λ input st is. c.version.ensures ∙ ap (λ (a : Added). version_of a.reloads c.args.policy.now) c.self.view_is ∙ sym (is.versions c.args.policy.now)
