use Rattle.std.proofs.Common.{◌≡◌, ◌∙◌, Some, ap, subst, sym}
use Rattle.st_compile.specs.Places.{policy_places, places_with, policy_row}
use Rattle.st_compile.proofs.Rows.{row_inside, row_listing}
use Rattle.st_compile.proofs.places.Places.at.Goals as goal

pub index-requires : goal.index-requires
index-requires c = row_inside c.self.inside.rows.entries c.requires.0 c.args.row (subst (λ rows. policy_row rows c.requires.0 ≡ Some c.args.row) (sym c.self.view_is) c.requires.1)

pub returns : goal.returns
returns c = λ policy is.
    c.as_slice.ensures.value
    ∙ sym (ap places_with (row_listing c.self.inside.rows.entries policy c.args.row (subst (λ rows. policy_row rows policy ≡ Some c.args.row) (sym c.self.view_is) is) c.index.result.now c.index.ensures))
    ∙ ap (λ rows. policy_places rows policy) c.self.view_is
