-- Canonical text is read again as the same set.
use Rattle.std.proofs.Common.{◌≤◌, List, [], ◌∷◌, ◌++◌, refl, sym, subst, append_assoc, append-nil, ℕ, arith}
use Rattle.st_base.proofs.Each.{each-append}
use Rattle.st_grammar.proofs.Common.{AreNew, AreRows, BinaryPolicy, filters_in, Line, MOST_FILTERS, Reads, CanBeReadBack, Symbol, symbols_in}
use Rattle.st_grammar.specs.declared.env.Env.{Env}
use Rattle.st_lex.proofs.Pieces.{print_is_read}
use Rattle.st_printing.specs.Canon.{set_pieces, canon}
use Rattle.st_reread.specs.Readable.{WasRead, Nothing, After, HasPlainDollars, HasSmallIds}
use Rattle.st_reread.proofs.Rows.{IsReadablePolicy, AreReadable, readable_rows, are_rows, well_set}
use Rattle.st_reread.proofs.Symbols.{ArePrintable, ArePrintable-append}
use Rattle.st_reread.proofs.PrintedTexts.{symbols_in-print, printable_symbols}

pub AreNew-append : (known ps qs : List BinaryPolicy) → AreNew known ps → AreNew (known ++ ps) qs → AreNew known (ps ++ qs)
AreNew-append known [] qs a b = subst (λ (ks : List BinaryPolicy). AreNew ks qs) (append-nil known) b
AreNew-append known (p ∷ ps) qs a b =
    (a.0, AreNew-append (known ++ p ∷ []) ps qs a.1 (subst (λ (ks : List BinaryPolicy). AreNew ks qs) (sym (append_assoc known (p ∷ []) ps)) b))

-- what holds of a set that was read
pub record IsReadable (env : Env) (set : List BinaryPolicy) : Type 0 where
  pub each : AreReadable env set
  pub new : AreNew [] set
  pub few : filters_in set ≤ MOST_FILTERS

more_read : (env : Env) (text : List ℕ) (old set : List BinaryPolicy) → HasSmallIds env → ArePrintable env (symbols_in text) → IsReadable env old → Reads text env old set → IsReadable env set
more_read env text old set small printable known reads =
    let added : AreReadable env reads.policies = readable_rows env small reads.rows (ArePrintable-append env (symbols_in text) (Line ∷ []) printable (tt, tt)) in
    record {
      each = subst (AreReadable env) (sym reads.set_is) (each-append (IsReadablePolicy env) old reads.policies known.each added);
      new = subst (AreNew []) (sym reads.set_is) (AreNew-append [] old reads.policies known.new reads.new);
      few = reads.few;
    }

pub readable_set : (env : Env) {set : List BinaryPolicy} → HasSmallIds env → HasPlainDollars env → WasRead env set → IsReadable env set
readable_set env small plain Nothing = record { each = tt; new = tt; few = omega arith }
readable_set env small plain (After text old set bytes was reads) =
    more_read env text old set small (printable_symbols env text plain bytes) (readable_set env small plain was) reads

-- the canonical text of a readable set is read as this set
pub readable-reads : (env : Env) (set : List BinaryPolicy) → IsReadable env set → Reads (canon set env.emulation) env [] set
readable-reads env set r =
    let well : CanBeReadBack (set_pieces set env.emulation) = well_set env set r.each in
    record {
      whole = (print_is_read (set_pieces set env.emulation) well).faultless;
      policies = set;
      rows = subst (λ (ts : List Symbol). AreRows env (ts ++ Line ∷ []) set) (sym (symbols_in-print (set_pieces set env.emulation) well)) (are_rows env set r.each);
      set_is = refl;
      new = r.new;
      few = r.few;
    }

-- the canonical text of policies that were read is read as these policies
pub canon-reads : (env : Env) (set : List BinaryPolicy) → WasRead env set → HasPlainDollars env → HasSmallIds env → Reads (canon set env.emulation) env [] set
canon-reads env set was plain small = readable-reads env set (readable_set env small plain was)
