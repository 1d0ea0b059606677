use Rattle.std.proofs.Common.{◌≡◌, ◌∙◌, ap, sym, subst, Option, ℕ}
use Rattle.std.specs.Map.{lookup, values_of}
use Rattle.std.specs.Prelude.{is_some, slice_get, IfSome}
use Rattle.indexmap.proofs.MapLemmas.{some_index, value_index}
use Rattle.st_filter.proofs.Entries.{is_key}
use Rattle.st_filter.proofs.rows.row_in.Goals as goal

pub returns-then-len-gt-FEW_ROWS-clause-found : goal.returns-then-len-gt-FEW_ROWS-clause-found
returns-then-len-gt-FEW_ROWS-clause-found g c = ap is_some c.hashed_row.ensures ∙ some_index (is_key c.args.key.now) c.args.rows.now.entries

pub returns-then-len-gt-FEW_ROWS-clause-value : goal.returns-then-len-gt-FEW_ROWS-clause-value
returns-then-len-gt-FEW_ROWS-clause-value g c =
    let es = c.args.rows.now.entries in
    let key = is_key c.args.key.now in
    subst (λ (found : Option ℕ). IfSome found (λ row. slice_get (values_of es) row ≡ lookup key es)) (sym c.hashed_row.ensures) (value_index key es)

pub returns-else-len-gt-FEW_ROWS-clause-found : goal.returns-else-len-gt-FEW_ROWS-clause-found
returns-else-len-gt-FEW_ROWS-clause-found g c = ap is_some c.compared_row.ensures ∙ some_index (is_key c.args.key.now) c.args.rows.now.entries

pub returns-else-len-gt-FEW_ROWS-clause-value : goal.returns-else-len-gt-FEW_ROWS-clause-value
returns-else-len-gt-FEW_ROWS-clause-value g c =
    let es = c.args.rows.now.entries in
    let key = is_key c.args.key.now in
    subst (λ (found : Option ℕ). IfSome found (λ row. slice_get (values_of es) row ≡ lookup key es)) (sym c.compared_row.ensures) (value_index key es)
