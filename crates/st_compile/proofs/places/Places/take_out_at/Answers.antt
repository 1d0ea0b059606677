use Rattle.std.proofs.Common.{◌≡◌, ◌<◌, length, Some, ap, sym, subst, arith}
use Rattle.indexmap.specs.IndexMap.{set_value_at}
use Rattle.st_compile.specs.Places.{policy_places, places_with, policy_row, LosesPlace, shown_rows}
use Rattle.st_compile.proofs.Rows.{row_inside, row_is, row_listing, row_loses}
use Rattle.st_compile.proofs.places.Places.take_out_at.Goals as goal

pub index_mut-places-requires : goal.index_mut-places-requires
index_mut-places-requires c = row_inside c.self.inside.rows.entries c.requires.0 c.args.row (subst (λ rows. policy_row rows c.requires.0 ≡ Some c.args.row) (sym c.self.view_is) c.requires.1.0)

pub remove-requires : goal.remove-requires
remove-requires c =
    let es = c.self.inside.rows.entries in
    let is = subst (λ rows. policy_row rows c.requires.0 ≡ Some c.args.row) (sym c.self.view_is) c.requires.1.0 in
    let there = row_listing es c.requires.0 c.args.row is c.index_mut-places.result.now c.index_mut-places.ensures.value in
    let long : length (policy_places (shown_rows es) c.requires.0) ≡ length c.index_mut-places.result.now.items = ap (λ o. length (places_with o)) there in
    let inside = subst (λ rows. c.args.index < length (policy_places rows c.requires.0)) (sym c.self.view_is) c.requires.1.1 in
    omega (arith, long, inside, c.index_mut-places.result.now.ok.0)

pub returns : goal.returns
returns c = λ policy at.
    let es = c.self.inside.rows.entries in
    let is = subst (λ rows. policy_row rows policy ≡ Some c.args.row) (sym c.self.view_is) at in
    subst (λ rows. LosesPlace rows policy c.args.index (shown_rows (set_value_at es c.args.row c.remove.new.self))) c.self.view_is
    (row_loses es policy c.args.row c.index_mut-places.result.now c.remove.new.self (row_is es policy c.args.row is)
    (row_listing es policy c.args.row is c.index_mut-places.result.now c.index_mut-places.ensures.value)
    c.args.index c.remove.ensures.items)
