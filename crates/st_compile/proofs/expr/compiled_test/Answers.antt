use Rattle.std.proofs.Common.{◌∙◌, ap, sym}
use Rattle.std.specs.Prelude.{slice_get}
use Rattle.st_calls.specs.Argument.{filename}
use Rattle.st_compile.specs.Arguments.{is_called}
use Rattle.st_compile.specs.Passing.{passes}
use Rattle.st_compile.proofs.Arguments.{none_passes, none_without_place, passes_found}
use Rattle.st_compile.proofs.Passes.{passes_same}
use Rattle.st_compile.proofs.expr.compiled_test.Goals as goal

pub returns-in-Some : goal.returns-in-Some
returns-in-Some c = λ args at.
    ap (λ n. passes c.args.op n c.args.text.now (slice_get args c.in-Some.place)) c.shared_len.ensures
    ∙ passes_same c.args.op c.args.text.now (slice_get args c.in-Some.place)
    ∙ passes_found c.args.label.now c.args.index c.args.op c.args.text.now c.args.specs.now args c.in-Some.place filename c.requires at (sym c.in-Some.ensures)

pub returns-in-None : goal.returns-in-None
returns-in-None c = λ args at.
    sym (none_passes c.args.label.now c.args.index c.args.op c.args.text.now c.args.specs.now args at (none_without_place (is_called c.args.label.now c.args.index) c.args.specs.now (sym c.in-None.ensures)))
