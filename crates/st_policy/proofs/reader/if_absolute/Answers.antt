use Rattle.std.proofs.Common.{◌∙◌, Some, None, cond, codes, ap, sym}
use Rattle.std.specs.List.{starts_with}
use Rattle.std.specs.Prelude.{nat_eq}
use Rattle.st_policy.proofs.reader.if_absolute.Goals as goal

pub returns-then-starts_with : goal.returns-then-starts_with
returns-then-starts_with c = sym (ap (λ b. cond b (Some c.args.name) None) (ap (λ name. starts_with nat_eq name (codes "/")) (sym c.bytes.ensures) ∙ sym c.starts_with.ensures.value ∙ c.if-starts_with.true))

pub returns-else-starts_with : goal.returns-else-starts_with
returns-else-starts_with c = sym (ap (λ b. cond b (Some c.args.name) None) (ap (λ name. starts_with nat_eq name (codes "/")) (sym c.bytes.ensures) ∙ sym c.starts_with.ensures.value ∙ c.if-starts_with.false))
