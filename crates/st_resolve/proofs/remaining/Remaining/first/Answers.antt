use Rattle.std.proofs.Common.{◌∙◌, ap}
use Rattle.st_resolve.specs.Remaining.{joined_components}
use Rattle.st_resolve.proofs.Joined.{joined_first}
use Rattle.st_resolve.proofs.remaining.Remaining.first.Goals as goal

pub returns-in-Some-clause-first : goal.returns-in-Some-clause-first
returns-in-Some-clause-first c =
    joined_first c.deref.result.now c.in-Some.text.now c.args.self.now c.first.result.now (ap joined_components c.deref.ensures.value ∙ c.self.view_is) c.in-Some.ensures.value c.first.ensures.first

pub returns-in-Some-clause-none : goal.returns-in-Some-clause-none
returns-in-Some-clause-none c = let first = returns-in-Some-clause-first c in (λ h. cc, λ h. cc)
