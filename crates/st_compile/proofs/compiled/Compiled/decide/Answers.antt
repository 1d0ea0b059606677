use Rattle.std.proofs.Common.{◌∙◌, ap}
use Rattle.st_filter.specs.Judging.{verdict}
use Rattle.st_filter.specs.Policies.{filters_in_force}
use Rattle.st_compile.proofs.compiled.Compiled.decide.Goals as goal

pub returns : goal.returns
returns c =
    c.verdict.ensures
    ∙ ap (λ fs. verdict fs c.args.copies.now) (c.filters.ensures ∙ ap (λ policy. filters_in_force c.args.self.now policy c.args.copies.now.version c.args.copies.now.rule) (c.bytes.ensures ∙ c.get.ensures))
