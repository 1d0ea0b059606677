use Rattle.std.proofs.Common.{◌∙◌, length, sym}
use Rattle.std.proofs.lemmas.Bool.{eq-eqb, eqb-true}
use Rattle.st_written.proofs.Parted.{all_before, no_slash, text_of_bytes}
use Rattle.st_written.proofs.written.is_part.Goals as goal

pub returns : goal.returns
returns c = (
  λ same. (
    sym c.is_component.ensures ∙ c.if-not-is_component.false,
    no_slash c.args.part.now (sym c.first_slash.ensures.place ∙ eqb-true c.first_slash.result (length c.args.part.now) same),
    text_of_bytes c.args.part.now (λ k. (c.type_inv.part k).fits),
  ),
  λ is. eq-eqb c.first_slash.result (length c.args.part.now) (c.first_slash.ensures.place ∙ all_before c.args.part.now is.1),
)
