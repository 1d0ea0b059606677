use Rattle.std.proofs.Common.{◌≡◌, ◌∙◌, ap, sym, subst, ◌-◌, length, refl, arith, ◌<◌}
use Rattle.std.specs.Prelude.{slice_get}
use Rattle.std.specs.Str.{bytes_eq}
use Rattle.st_filter.proofs.LastRow.{last_row}
use Rattle.st_filter.proofs.rows.hashed_row.Goals as goal

pub returns-in-Some : goal.returns-in-Some
returns-in-Some g c =
    let es = c.args.rows.now.entries in
    let key = c.args.key.now in
    let places_are = c.as_slice-places.ensures.entries in
    let count : c.len.result ≡ length es = c.len.ensures ∙ ap length places_are in
    let at = c.in-Some.ensures.entry ∙ (λ k. slice_get (places_are k) (length (places_are k) - 1)) ∙ ap (λ m. slice_get es (m - 1)) (sym count) in
    let some : 0 < length es = subst (λ l. 0 < length l) places_are (c.in-Some.ensures.found.0 refl) in
    let is = ap (bytes_eq key) (sym c.as_slice.ensures.value) ∙ sym c.is_same_text.ensures ∙ c.if-is_same_text.true in
    last_row key es (c.len.result - 1) c.in-Some.last.now c.in-Some.field-0-1.now c.as_slice-places.ensures.unique at (omega (arith, count, some)) is
