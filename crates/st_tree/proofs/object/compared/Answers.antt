use Rattle.std.proofs.Common.{◌≡◌, false, ap, ◌∙◌, sym}
use Rattle.std.specs.Str.{bytes_eq}
use Rattle.st_tree.proofs.Entries.{passed}
use Rattle.st_tree.proofs.object.compared.Goals as goal

pub loop-place-preserved : goal.loop-place-preserved
loop-place-preserved c =
    let apart : bytes_eq c.args.part.now c.in-Some.component.now.items ≡ false = sym (ap (bytes_eq c.args.part.now) c.as_slice.ensures.value) ∙ sym c.is_same_text.ensures ∙ c.if-is_same_text.false in
    c.loop-place.invariant ∙ passed c.args.part.now c.args.entries.now.entries c.loop-place.place (c.in-Some.component.now, c.in-Some.obj.now) (sym c.in-Some.ensures.entry) apart
