use Rattle.std.proofs.Common.{◌≡◌, ◌∙◌, ap, not, sym, true, false}
use Rattle.st_tree.proofs.Reasons.{kinds-equal, replace_dir, replace_like, replace_plain, kinds-differ}
use Rattle.st_tree.proofs.places.replace.Goals as goal

pub returns-then-dir-clause-refused : goal.returns-then-dir-clause-refused
returns-then-dir-clause-refused c =
    let other : false ≡ c.is_dir.result = ap not (sym c.if-dir.true) ∙ kinds-differ c.is_dir-dir.result c.is_dir.result c.if-dir-is_dir.true in
    replace_dir c.args.objects.now c.requires.whole c.args.obj c.args.replaced c.requires.number c.requires.replaced (sym c.if-dir.true ∙ c.is_dir-dir.ensures) (other ∙ c.is_dir.ensures)

pub returns-else-dir-clause-refused : goal.returns-else-dir-clause-refused
returns-else-dir-clause-refused c =
    let other : true ≡ c.is_dir.result = ap not (sym c.if-dir.false) ∙ kinds-differ c.is_dir-dir.result c.is_dir.result c.if-dir-is_dir.true in
    replace_plain c.args.objects.now c.requires.whole c.args.obj c.args.replaced c.requires.number c.requires.replaced (sym c.if-dir.false ∙ c.is_dir-dir.ensures) (other ∙ c.is_dir.ensures)

pub returns-then-has_entries-clause-refused : goal.returns-then-has_entries-clause-refused
returns-then-has_entries-clause-refused c =
    let same : c.is_dir-dir.result ≡ c.is_dir.result = kinds-equal c.is_dir-dir.result c.is_dir.result c.if-dir-is_dir.false in
    replace_like c.args.objects.now c.requires.whole c.args.obj c.args.replaced c.requires.number c.requires.replaced c.is_dir-dir.result true c.is_dir-dir.ensures (same ∙ c.is_dir.ensures) (sym c.if-has_entries.true ∙ c.has_entries.ensures)

pub returns-clause-refused : goal.returns-clause-refused
returns-clause-refused c =
    let same : c.is_dir-dir.result ≡ c.is_dir.result = kinds-equal c.is_dir-dir.result c.is_dir.result c.if-dir-is_dir.false in
    replace_like c.args.objects.now c.requires.whole c.args.obj c.args.replaced c.requires.number c.requires.replaced c.is_dir-dir.result false c.is_dir-dir.ensures (same ∙ c.is_dir.ensures) (sym c.if-has_entries.false ∙ c.has_entries.ensures)
