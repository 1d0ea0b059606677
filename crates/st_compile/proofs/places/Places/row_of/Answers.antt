use Rattle.std.proofs.Common.{◌∙◌, ap, sym}
use Rattle.std.specs.Prelude.{is_some}
use Rattle.st_compile.specs.Places.{policy_places, policy_row}
use Rattle.st_compile.proofs.Rows.{no_places_there, row_kept}
use Rattle.st_compile.proofs.places.Places.row_of.Goals as goal

pub returns-clause-is : goal.returns-clause-is
returns-clause-is c = c.row_in.ensures.index ∙ sym (row_kept c.self.inside.rows.entries c.args.policy.now) ∙ ap (λ rows. policy_row rows c.args.policy.now) c.self.view_is

pub returns-clause-none : goal.returns-clause-none
returns-clause-none c = λ none.
    ap (λ rows. policy_places rows c.args.policy.now) (sym c.self.view_is) ∙ no_places_there c.self.inside.rows.entries c.args.policy.now (sym c.row_in.ensures.found ∙ ap is_some none)
