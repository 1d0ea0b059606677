use Rattle.std.proofs.Common.{◌∙◌, Some, ap, sym}
use Rattle.std.specs.Prelude.{slice_get}
use Rattle.st_compile.specs.Places.{binaries_of}
use Rattle.st_compile.proofs.Rows.{binary_at}
use Rattle.st_compile.proofs.places.Places.binary.Goals as goal

pub returns : goal.returns
returns c =
    ap (λ rows. slice_get (binaries_of rows) c.args.row) (sym c.self.view_is)
    ∙ binary_at c.self.inside.rows.entries c.args.row (c.in-Some.binary.now, c.in-Some.field-0-1.now) (sym c.in-Some.ensures.entry)
    ∙ ap Some (sym c.as_slice.ensures.value)
