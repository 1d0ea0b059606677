use Rattle.std.proofs.Common.{◌≡◌, ◌<◌, ◌∙◌, ap, sym, subst, length, vec_capacity, arith}
use Rattle.indexmap.specs.IndexMap.{set_value_at}
use Rattle.std.specs.Prelude.{is_some}
use Rattle.st_filter.proofs.Entries.{on_err}
use Rattle.st_filter.specs.Policies.{with_binary}
use Rattle.st_compile.specs.Places.{binaries_of, HasRoomAt, KeepsPlaces, shown_rows}
use Rattle.st_compile.proofs.Rows.{binaries_more, binary_known, new_has_room, new_keeps, row_has_room, row_keeps, row_there, rows_stay}
use Rattle.st_compile.proofs.places.Places.reserve.Goals as goal

pub returns-in_ok-reserve-in-Some-clause-room : goal.returns-in_ok-reserve-in-Some-clause-room
returns-in_ok-reserve-in-Some-clause-room c =
    row_has_room c.self.inside.rows.entries c.args.policy.now c.in-Some.row c.index_mut-places.result.now c.reserve.new.self c.in-Some.ensures.index
    (row_there c.self.inside.rows.entries c.args.policy.now c.in-Some.row c.index_mut-places.result.now c.in-Some.ensures.value c.index_mut-places.ensures.value)
    (let room = c.in_ok-reserve-in-Some.ensures.ok in let more : length c.reserve.new.self.items < vec_capacity c.reserve.new.self = omega (arith, room) in more)

pub returns-in_ok-reserve-in-Some-clause-kept : goal.returns-in_ok-reserve-in-Some-clause-kept
returns-in_ok-reserve-in-Some-clause-kept c =
    subst (λ rows. KeepsPlaces rows (shown_rows (set_value_at c.self.inside.rows.entries c.in-Some.row c.reserve.new.self))) c.self.view_is
    (row_keeps c.self.inside.rows.entries c.args.policy.now c.in-Some.row c.index_mut-places.result.now c.reserve.new.self c.in-Some.ensures.index
    (row_there c.self.inside.rows.entries c.args.policy.now c.in-Some.row c.index_mut-places.result.now c.in-Some.ensures.value c.index_mut-places.ensures.value)
    c.reserve.ensures.items c.reserve.ensures.capacity)

pub returns-in_err-reserve-in-Some-clause-kept : goal.returns-in_err-reserve-in-Some-clause-kept
returns-in_err-reserve-in-Some-clause-kept c =
    subst (λ rows. KeepsPlaces rows (shown_rows (set_value_at c.self.inside.rows.entries c.in-Some.row c.reserve.new.self))) c.self.view_is
    (row_keeps c.self.inside.rows.entries c.args.policy.now c.in-Some.row c.index_mut-places.result.now c.reserve.new.self c.in-Some.ensures.index
    (row_there c.self.inside.rows.entries c.args.policy.now c.in-Some.row c.index_mut-places.result.now c.in-Some.ensures.value c.index_mut-places.ensures.value)
    c.reserve.ensures.items c.reserve.ensures.capacity)

pub returns-in_ok-row-in-None-clause-room : goal.returns-in_ok-row-in-None-clause-room
returns-in_ok-row-in-None-clause-room c =
    subst (λ es. HasRoomAt c.in_ok-row-in-None.row (shown_rows es) c.args.policy.now) (sym c.in_ok-row-in-None.ensures.entries)
    (new_has_room c.self.inside.rows.entries c.into_bytes-binary.result c.in_ok-places-in-None.places c.args.policy.now (sym c.in-None.ensures.found) (c.into_bytes-binary.ensures ∙ c.in_ok-of-in-None.ensures)
    c.in_ok-row-in-None.row c.in_ok-row-in-None.ensures.index
    (let empty = ap length c.in_ok-places-in-None.ensures.items in let room = c.in_ok-places-in-None.ensures.capacity in omega (arith, empty, room)))

pub returns-in_ok-row-in-None-clause-kept : goal.returns-in_ok-row-in-None-clause-kept
returns-in_ok-row-in-None-clause-kept c =
    subst (λ rows. KeepsPlaces rows (shown_rows c.insert_full.new.self.entries)) c.self.view_is
    (subst (λ es. KeepsPlaces (shown_rows c.self.inside.rows.entries) (shown_rows es)) (sym c.in_ok-row-in-None.ensures.entries)
    (new_keeps c.self.inside.rows.entries c.into_bytes-binary.result c.in_ok-places-in-None.places c.args.policy.now (sym c.in-None.ensures.found) (c.into_bytes-binary.ensures ∙ c.in_ok-of-in-None.ensures) c.in_ok-places-in-None.ensures.items))

pub returns-in_ok-reserve-in-Some-clause-row : goal.returns-in_ok-reserve-in-Some-clause-row
returns-in_ok-reserve-in-Some-clause-row c =
    rows_stay c.self.inside.rows.entries c.in-Some.row c.reserve.new.self
    ∙ binary_known c.self.inside.rows.entries c.args.policy.now (sym c.in-Some.ensures.found)
    ∙ ap (λ rows. with_binary (binaries_of rows) c.args.policy.now) c.self.view_is

pub returns-in_err-reserve-in-Some-clause-same : goal.returns-in_err-reserve-in-Some-clause-same
returns-in_err-reserve-in-Some-clause-same c = on_err c.from_residual.result (rows_stay c.self.inside.rows.entries c.in-Some.row c.reserve.new.self ∙ ap binaries_of c.self.view_is)

pub returns-in_ok-row-in-None-clause-row : goal.returns-in_ok-row-in-None-clause-row
returns-in_ok-row-in-None-clause-row c =
    ap (λ es. binaries_of (shown_rows es)) c.in_ok-row-in-None.ensures.entries
    ∙ binaries_more c.self.inside.rows.entries c.into_bytes-binary.result c.in_ok-places-in-None.places
    ∙ (λ k. with_binary (binaries_of (c.self.view_is k)) ((c.into_bytes-binary.ensures ∙ c.in_ok-of-in-None.ensures) k))
