-- Rows of policies, read and printed.
use Rattle.std.proofs.Common.{◌≡◌, List, [], ◌∷◌, ◌++◌, refl, ap, sym, subst, ◌∙◌, append_assoc, append-nil}
use Rattle.std.specs.List.{AllByRecursion}
use Rattle.st_base.proofs.Each.{each-append, each-parts}
use Rattle.st_lex.specs.declared.token.TokenKind.TheVariants as kind
use Rattle.st_grammar.proofs.Common.{AreRows, BinaryPolicy, Blank, FilterRow, FilterValue, Header, Line, NoRow, Piece, Sign, CanBeReadBack, Symbol, with_filter}
use Rattle.st_grammar.specs.declared.env.Env.{Env}
use Rattle.st_lex.proofs.Pieces.{StandWell-append, StandWell-after}
use Rattle.st_printing.specs.Canon.{filter_pieces, header_pieces, row_pieces, rows_pieces, set_pieces}
use Rattle.st_reread.specs.Readable.{HasSmallIds}
use Rattle.st_reread.proofs.PrintedFilters.{IsReadableFilter, readable_filter, is_filter, well_filter}
use Rattle.st_reread.proofs.Headers.{IsReadableBinary, readable_binary, is_header, well_header}
use Rattle.st_reread.proofs.Symbols.{piece_symbols, piece_symbols-append, ArePrintable, ArePrintable-parts}

-- the printed text of the policy is read as this policy
pub record IsReadablePolicy (env : Env) (p : BinaryPolicy) : Type 0 where
  pub binary : IsReadableBinary p.binary
  pub filters : AllByRecursion (IsReadableFilter env) p.filters

abbrev pub AreReadable : Env → List BinaryPolicy → Type 0
AreReadable env policies = AllByRecursion (IsReadablePolicy env) policies

-- ---- what was read can be read again

one_more : (env : Env) (p : BinaryPolicy) (f : FilterValue) → IsReadablePolicy env p → IsReadableFilter env f → IsReadablePolicy env (with_filter p f)
one_more env p f r is = record {
  binary = r.binary;
  filters = each-append (IsReadableFilter env) p.filters (f ∷ []) r.filters (is, tt);
}

row_printable : (env : Env) (ts row : List Symbol) → ArePrintable env (ts ++ row ++ Line ∷ []) → ArePrintable env ts × ArePrintable env row
row_printable env ts row p = ArePrintable-parts env ts row (ArePrintable-parts env (ts ++ row) (Line ∷ []) p).0

pub readable_rows : (env : Env) {ts : List Symbol} {ps : List BinaryPolicy} → HasSmallIds env → AreRows env ts ps → ArePrintable env ts → AreReadable env ps
readable_rows env small NoRow p = tt
readable_rows env small (Blank ts ps rows) p = readable_rows env small rows (ArePrintable-parts env ts (Line ∷ []) p).0
readable_rows env small (Header ts row ps binary rows is) p =
    let both : ArePrintable env ts × ArePrintable env row = row_printable env ts row p in
    each-append (IsReadablePolicy env) ps (record { binary = binary; filters = [] } ∷ []) (readable_rows env small rows both.0)
    (record { binary = readable_binary env row binary is both.1; filters = tt }, tt)
readable_rows env small (FilterRow ts row ps q f rows is) p =
    let both : ArePrintable env ts × ArePrintable env row = row_printable env ts row p in
    let before : AreReadable env ps × AreReadable env (q ∷ []) = each-parts (IsReadablePolicy env) ps (q ∷ []) (readable_rows env small rows both.0) in
    each-append (IsReadablePolicy env) ps (with_filter q f ∷ []) before.0 (one_more env q f before.1.0 (readable_filter env row f small is both.1), tt)

-- ---- the printed symbols are the rows of the policies

-- a row and its end, after symbols and before pieces
row_first : (ts : List Symbol) (row rest : List Piece) → ts ++ piece_symbols row ++ Line ∷ [] ++ piece_symbols rest ≡ ts ++ piece_symbols (row_pieces row ++ rest)
row_first ts row rest =
    append_assoc (ts ++ piece_symbols row) (Line ∷ []) (piece_symbols rest)
    ∙ append_assoc ts (piece_symbols row) (Line ∷ piece_symbols rest)
    ∙ ap (λ (us : List Symbol). ts ++ us) (sym (piece_symbols-append row (Sign kind.Line ∷ rest)) ∙ ap piece_symbols (sym (append_assoc row (Sign kind.Line ∷ []) rest)))

filter_rows : (env : Env) (ts : List Symbol) (ps : List BinaryPolicy) (p : BinaryPolicy) (fs : List FilterValue) → AllByRecursion (IsReadableFilter env) fs → AreRows env ts (ps ++ p ∷ []) → AreRows env (ts ++ piece_symbols (rows_pieces fs env.emulation)) (ps ++ record { binary = p.binary; filters = p.filters ++ fs } ∷ [])
filter_rows env ts ps p [] r rows =
    subst (λ (us : List Symbol). AreRows env us (ps ++ record { binary = p.binary; filters = p.filters ++ [] } ∷ [])) (sym (append-nil ts))
    (subst (λ (fs : List FilterValue). AreRows env ts (ps ++ record { binary = p.binary; filters = fs } ∷ [])) (sym (append-nil p.filters)) rows)
filter_rows env ts ps p (f ∷ fs) r rows =
    let row : List Symbol = piece_symbols (filter_pieces f env.emulation) in
    let one : AreRows env (ts ++ row ++ Line ∷ []) (ps ++ with_filter p f ∷ []) = FilterRow ts row ps p f rows (is_filter env f r.0) in
    let all : AreRows env (ts ++ row ++ Line ∷ [] ++ piece_symbols (rows_pieces fs env.emulation)) (ps ++ record { binary = p.binary; filters = p.filters ++ f ∷ [] ++ fs } ∷ []) = filter_rows env (ts ++ row ++ Line ∷ []) ps (with_filter p f) fs r.1 one in
    subst (λ (us : List Symbol). AreRows env us (ps ++ record { binary = p.binary; filters = p.filters ++ f ∷ fs } ∷ [])) (row_first ts (filter_pieces f env.emulation) (rows_pieces fs env.emulation))
    (subst (λ (gs : List FilterValue). AreRows env (ts ++ row ++ Line ∷ [] ++ piece_symbols (rows_pieces fs env.emulation)) (ps ++ record { binary = p.binary; filters = gs } ∷ [])) (append_assoc p.filters (f ∷ []) fs) all)

set_rows : (env : Env) (ts : List Symbol) (ps qs : List BinaryPolicy) → AreReadable env qs → AreRows env ts ps → AreRows env (ts ++ piece_symbols (set_pieces qs env.emulation)) (ps ++ qs)
set_rows env ts ps [] r rows =
    subst (λ (us : List Symbol). AreRows env us (ps ++ [])) (sym (append-nil ts)) (subst (AreRows env ts) (sym (append-nil ps)) rows)
set_rows env ts ps (q ∷ qs) r rows =
    let header : List Piece = header_pieces q.binary env.emulation in
    let policy : List Piece = row_pieces header ++ rows_pieces q.filters env.emulation in
    let start : List Symbol = ts ++ piece_symbols header ++ Line ∷ [] in
    let none : AreRows env start (ps ++ record { binary = q.binary; filters = [] } ∷ []) = Header ts (piece_symbols header) ps q.binary rows (is_header env q.binary r.0.binary) in
    let one : AreRows env (start ++ piece_symbols (rows_pieces q.filters env.emulation)) (ps ++ q ∷ []) = filter_rows env start ps (record { binary = q.binary; filters = [] }) q.filters r.0.filters none in
    let whole : AreRows env (ts ++ piece_symbols policy) (ps ++ q ∷ []) = subst (λ (us : List Symbol). AreRows env us (ps ++ q ∷ [])) (row_first ts header (rows_pieces q.filters env.emulation)) one in
    let all : AreRows env (ts ++ piece_symbols policy ++ piece_symbols (set_pieces qs env.emulation)) (ps ++ q ∷ [] ++ qs) = set_rows env (ts ++ piece_symbols policy) (ps ++ q ∷ []) qs r.1 whole in
    let same : ts ++ piece_symbols policy ++ piece_symbols (set_pieces qs env.emulation) ≡ ts ++ piece_symbols (policy ++ set_pieces qs env.emulation) = append_assoc ts (piece_symbols policy) (piece_symbols (set_pieces qs env.emulation)) ∙ ap (λ (us : List Symbol). ts ++ us) (sym (piece_symbols-append policy (set_pieces qs env.emulation))) in
    subst (λ (us : List Symbol). AreRows env us (ps ++ q ∷ qs)) same
    (subst (AreRows env (ts ++ piece_symbols policy ++ piece_symbols (set_pieces qs env.emulation))) (append_assoc ps (q ∷ []) qs) all)

-- the canonical pieces of a set are its rows
pub are_rows : (env : Env) (set : List BinaryPolicy) → AreReadable env set → AreRows env (piece_symbols (set_pieces set env.emulation) ++ Line ∷ []) set
are_rows env set r = Blank (piece_symbols (set_pieces set env.emulation)) set (set_rows env [] [] set r NoRow)

-- ---- and their pieces can be read back

-- a row and its end can be read back before pieces that can
well_row : (row qs : List Piece) → CanBeReadBack row → CanBeReadBack qs → CanBeReadBack (row_pieces row ++ qs)
well_row row qs w q = StandWell-after row qs (Sign kind.Line) (StandWell-append row (Sign kind.Line ∷ []) w (refl, tt) tt) tt q

well_filters : (env : Env) (fs : List FilterValue) (qs : List Piece) → AllByRecursion (IsReadableFilter env) fs → CanBeReadBack qs → CanBeReadBack (rows_pieces fs env.emulation ++ qs)
well_filters env [] qs r q = q
well_filters env (f ∷ fs) qs r q =
    subst CanBeReadBack (sym (append_assoc (row_pieces (filter_pieces f env.emulation)) (rows_pieces fs env.emulation) qs))
    (well_row (filter_pieces f env.emulation) (rows_pieces fs env.emulation ++ qs) (well_filter env f r.0) (well_filters env fs qs r.1 q))

pub well_set : (env : Env) (set : List BinaryPolicy) → AreReadable env set → CanBeReadBack (set_pieces set env.emulation)
well_set env [] r = tt
well_set env (p ∷ ps) r =
    subst CanBeReadBack (sym (append_assoc (row_pieces (header_pieces p.binary env.emulation)) (rows_pieces p.filters env.emulation) (set_pieces ps env.emulation)))
    (well_row (header_pieces p.binary env.emulation) (rows_pieces p.filters env.emulation ++ set_pieces ps env.emulation) (well_header p.binary env.emulation r.0.binary)
    (well_filters env p.filters (set_pieces ps env.emulation) r.0.filters (well_set env ps r.1)))
