-- The reply of a row that is read.
use Rattle.std.proofs.Common.{◌≡◌, Bool, true, false, ◌||◌, if◌then◌else◌, List, Option, Some, None, refl, ap, ◌∙◌, option_map}
use Rattle.st_filter.specs.Formula.{FilterValue}
use Rattle.st_lex.specs.Unquote.{unquoted}
use Rattle.st_grammar.specs.OneFilter.{filter_in}
use Rattle.st_script_faults.specs.Faults.{WholeScript, HasBinaryOf, expects_other, is_invalid, is_left_open, or_invalid, replied_binary, reply_filter, row_value}
use Rattle.st_script_names.specs.Names.{Name}
use Rattle.st_script_faults.specs.declared.row_value.RowValue.{RowValue}
use Rattle.st_script_faults.specs.declared.row_value.RowValue.TheVariants as value
use Rattle.st_statements.specs.Parts.{is_normal}
use Rattle.st_statements.specs.declared.statement.ScriptLine.{ScriptLine}
use Rattle.st_statements.specs.declared.statement.Statement.{Statement}
use Rattle.st_statements.specs.declared.statement.Statement.TheVariants as says

binary_by : (binary : Name) (normal : Bool) (filter : Option FilterValue) →
    is_invalid (or_invalid value.Reply (if normal then option_map (λ f. record { binary = binary; filter = f }) filter else None)) ≡ false →
    replied_binary (or_invalid value.Reply (if normal then option_map (λ f. record { binary = binary; filter = f }) filter else None)) ≡ Some binary
binary_by binary true (Some f) valid = refl
binary_by binary true None valid = absurd (cc)
binary_by binary false filter valid = absurd (cc)

valid_by : (unclosed invalid : Bool) → (unclosed || invalid) ≡ false → invalid ≡ false
valid_by true invalid e = absurd (cc)
valid_by false invalid e = e

-- if a row is expected, what was read of it has the row's binary
pub has_binary : (whole : WholeScript) (below : List ScriptLine) (statement : Statement) (found : RowValue) →
    found ≡ row_value whole.env statement → expects_other whole below statement ≡ false → HasBinaryOf (replied_binary found) whole.env statement
has_binary whole below (says.Reply binary filter) found is expected =
    let valid = valid_by (is_left_open whole below (says.Reply binary filter)) (is_invalid (row_value whole.env (says.Reply binary filter))) expected in
    ap replied_binary is ∙ binary_by (unquoted whole.env.dollars binary) (is_normal (unquoted whole.env.dollars binary)) (reply_filter (filter_in filter whole.env)) valid
has_binary whole below _ found is expected = tt
