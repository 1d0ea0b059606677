use Rattle.std.proofs.Common.{◌∙◌, ap, sym, ℕ, drop, refl}
use Rattle.st_names.specs.Name.{components_of}
use Rattle.st_resolve.specs.Cursor.{first_part}
use Rattle.st_resolve.proofs.Texts.{part_taken}
use Rattle.st_resolve.proofs.cursor.component_after.Goals as goal

pub returns-clause-rest : goal.returns-clause-rest
returns-clause-rest c = λ at is within.
    c.component_from.ensures.same
    ∙ ap (λ (n : ℕ). components_of (drop n c.args.text.now)) c.min.ensures
    ∙ sym (ap (drop 1) (part_taken c.args.text.now (first_part (drop at c.args.text.now)) at c.args.end is.ends refl (is.place.begins within)))
