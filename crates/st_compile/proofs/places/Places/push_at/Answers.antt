use Rattle.std.proofs.Common.{◌∙◌, ap, sym, subst}
use Rattle.indexmap.specs.IndexMap.{set_value_at}
use Rattle.st_compile.specs.Places.{binaries_of, GainsPlace, HasRoomAt, shown_rows}
use Rattle.st_compile.proofs.Rows.{room_there, row_gains, row_inside, row_is, row_listing, rows_stay}
use Rattle.st_compile.proofs.places.Places.push_at.Goals as goal

pub index_mut-places-requires : goal.index_mut-places-requires
index_mut-places-requires c =
    let there = subst (λ rows. HasRoomAt c.args.row rows c.requires.0) (sym c.self.view_is) c.requires.1 in
    row_inside c.self.inside.rows.entries c.requires.0 c.args.row there.is

pub push_reserved-requires : goal.push_reserved-requires
push_reserved-requires c =
    let there = subst (λ rows. HasRoomAt c.args.row rows c.requires.0) (sym c.self.view_is) c.requires.1 in
    room_there (shown_rows c.self.inside.rows.entries) c.requires.0 c.index_mut-places.result.now
    (row_listing c.self.inside.rows.entries c.requires.0 c.args.row there.is c.index_mut-places.result.now c.index_mut-places.ensures.value)
    there.room

pub returns-clause-gains : goal.returns-clause-gains
returns-clause-gains c = λ policy had.
    let es = c.self.inside.rows.entries in
    let there = subst (λ rows. HasRoomAt c.args.row rows policy) (sym c.self.view_is) had in
    subst (λ rows. GainsPlace rows policy c.args.place (shown_rows (set_value_at es c.args.row c.push_reserved.new.self))) c.self.view_is
    (row_gains es policy c.args.row c.index_mut-places.result.now c.push_reserved.new.self (row_is es policy c.args.row there.is)
    (row_listing es policy c.args.row there.is c.index_mut-places.result.now c.index_mut-places.ensures.value)
    c.args.place c.push_reserved.ensures.items)

pub returns-clause-rows : goal.returns-clause-rows
returns-clause-rows c = rows_stay c.self.inside.rows.entries c.args.row c.push_reserved.new.self ∙ ap binaries_of c.self.view_is
