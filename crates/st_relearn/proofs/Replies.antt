-- A filter that was read alone can be written.
use Rattle.std.proofs.Common.{List, [], ◌∷◌, ℕ}
use Rattle.st_filter.specs.Formula.{FilterValue}
use Rattle.st_grammar.specs.OneFilter.{IsOneRow, ReadsFilter, ToALine, ToTheEnd}
use Rattle.st_reread.specs.Readable.{AreTextBytes, HasPlainDollars, HasSmallIds}
use Rattle.st_grammar.specs.Symbol.{Symbol, Line}
use Rattle.st_grammar.specs.declared.env.Env.{Env}
use Rattle.st_reread.proofs.PrintedFilters.{readable_filter}
use Rattle.st_reread.proofs.PrintedTexts.{printable_symbols}
use Rattle.st_reread.proofs.Symbols.{ArePrintable, ArePrintable-parts}
use Rattle.st_relearn.specs.Writable.{IsWritableFilter}
use Rattle.st_relearn.proofs.Writing.{writable_filter}

-- the symbols of a row can be printed if those of its text can
row_printable : (env : Env) (row : List Symbol) {ts : List Symbol} → IsOneRow row ts → ArePrintable env ts → ArePrintable env row
row_printable env row ToTheEnd p = p
row_printable env row ToALine p = (ArePrintable-parts env row (Line ∷ []) p).0

pub reply_is_writable : (env : Env) (text : List ℕ) (f : FilterValue) → ReadsFilter text env f → AreTextBytes text → HasPlainDollars env → HasSmallIds env → IsWritableFilter env f
reply_is_writable env text f reads bytes plain small =
    writable_filter env f (readable_filter env reads.row f small reads.is (row_printable env reads.row reads.one_row (printable_symbols env text plain bytes)))
