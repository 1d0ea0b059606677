-- Canonical expressions are spelled as the grammar requires.
use Rattle.std.proofs.Common.{◌≡◌, ℕ, ◌^◌, ◌<◌, Bool, true, false, cond, nat_eq, List, [], ◌∷◌, ◌++◌, codes, decimal, Some, refl, sym, subst, arith, eqb-true}
use Rattle.st_lex.specs.declared.token.TokenKind.TheVariants as kind
use Rattle.st_grammar.proofs.Common.{Always, And, AreBytes, Both, Close, CloseBracket, Conjunction, Disjunction, Either, FilterName, First, Formula, Grouped, Indexed, is_label, is_word_text, Level, may_test, Negated, Not, OneConjunction, OneOperand, Op, op_named, Open, OpenBracket, Operand, Or, Piece, PlainWord, Quoted, QuotedText, Sign, Space, Spells, CanBeReadBack, Symbol, Test, True, Word}
use Rattle.st_grammar.specs.declared.env.Env.{Env}
use Rattle.st_lex.specs.Quote.{quoted}
use Rattle.st_lex.proofs.Pieces.{StandWell-append}
use Rattle.st_lex.proofs.Unquotes.{unquoted-quoted}
use Rattle.st_lex.proofs.Words.{is_word_text-decimal}
use Rattle.st_filter.specs.declared.filter.Op.TheVariants as op
use Rattle.st_printing.specs.Canon.{word_of_op, needs_no_parens, in_parens, expression_pieces}
use Rattle.st_reread.proofs.Numbers.{index_in-decimal, index_in-small}
use Rattle.st_reread.proofs.Symbols.{piece_symbols, piece_symbols-append, ArePrintable, ArePrintable-parts}

-- the tests of an expression can be printed, for a filter of this name
abbrev pub IsReadableFormula : FilterName → Formula → Type 0
IsReadableFormula name True = Unit {0}
IsReadableFormula name (Test label index op text) =
    (is_word_text label ≡ true) × (is_label label ≡ true) × (may_test name label index ≡ true) × (index < 2 ^ 32) × AreBytes text
IsReadableFormula name (Not f) = IsReadableFormula name f
IsReadableFormula name (And f g) = IsReadableFormula name f × IsReadableFormula name g
IsReadableFormula name (Or f g) = IsReadableFormula name f × IsReadableFormula name g

-- ---- what is read can be printed

pub readable_formula : (env : Env) (name : FilterName) {level : Level} {ts : List Symbol} {f : Formula} → Spells env name level ts f → ArePrintable env ts → IsReadableFormula name f
readable_formula env name Always p = tt
readable_formula env name (First label allowed op) p = (p.0, label, allowed, omega arith, p.1.1.0)
readable_formula env name (Indexed {digits = digits} {index = index} label number allowed op) p = (p.0, label, allowed, index_in-small digits index number, p.1.1.1.1.1.0)
readable_formula env name (Negated s) p = readable_formula env name s p.1
readable_formula env name (Grouped {ts = ts} s) p = readable_formula env name s (ArePrintable-parts env ts (Close ∷ []) p.1).0
readable_formula env name (OneOperand s) p = readable_formula env name s p
readable_formula env name (Both {ts = ts} {us = us} s t) p =
    let parts : ArePrintable env ts × ArePrintable env (Word (codes "and") ∷ us) = ArePrintable-parts env ts (Word (codes "and") ∷ us) p in
    (readable_formula env name s parts.0, readable_formula env name t parts.1.1)
readable_formula env name (OneConjunction s) p = readable_formula env name s p
readable_formula env name (Either {ts = ts} {us = us} s t) p =
    let parts : ArePrintable env ts × ArePrintable env (Word (codes "or") ∷ us) = ArePrintable-parts env ts (Word (codes "or") ∷ us) p in
    (readable_formula env name s parts.0, readable_formula env name t parts.1.1)

-- ---- the printed symbols spell the expression

pub op_named-word : (o : Op) → op_named (word_of_op o) ≡ Some o
op_named-word op.Match = refl
op_named-word op.Eq = refl
op_named-word op.Neq = refl
op_named-word op.Sub = refl
op_named-word op.Nsub = refl
op_named-word op.Inpath = refl

is_word_text-op : (o : Op) → is_word_text (word_of_op o) ≡ true
is_word_text-op op.Match = refl
is_word_text-op op.Eq = refl
is_word_text-op op.Neq = refl
is_word_text-op op.Sub = refl
is_word_text-op op.Nsub = refl
is_word_text-op op.Inpath = refl

-- a test's pieces, by whether its index is 0
abbrev pub pieces_by : Bool → List ℕ → ℕ → Op → List ℕ → List Piece
pieces_by b label index o text =
    PlainWord label ∷ cond b [] (Sign kind.OpenBracket ∷ PlainWord (decimal index) ∷ Sign kind.CloseBracket ∷ [])
    ++ Space ∷ PlainWord (word_of_op o) ∷ Space ∷ QuotedText text ∷ []

spells_test : (env : Env) (name : FilterName) (label : List ℕ) (index : ℕ) (o : Op) (text : List ℕ) (b : Bool) → nat_eq index 0 ≡ b → IsReadableFormula name (Test label index o text) → Spells env name Operand (piece_symbols (pieces_by b label index o text)) (Test label index o text)
spells_test env name label index o text true e r =
    let first : index ≡ 0 = eqb-true index 0 e in
    let symbols : List Symbol = Word label ∷ Word (word_of_op o) ∷ Quoted (quoted text) ∷ [] in
    let allowed : may_test name label 0 ≡ true = subst (λ (n : ℕ). may_test name label n ≡ true) first r.2 in
    subst (λ (n : ℕ). Spells env name Operand symbols (Test label n o text)) (sym first)
    (subst (λ (t : List ℕ). Spells env name Operand symbols (Test label 0 o t)) (unquoted-quoted env.dollars text r.4)
    (First r.1 allowed (op_named-word o)))
spells_test env name label index o text false e r =
    let symbols : List Symbol = Word label ∷ OpenBracket ∷ Word (decimal index) ∷ CloseBracket ∷ Word (word_of_op o) ∷ Quoted (quoted text) ∷ [] in
    subst (λ (t : List ℕ). Spells env name Operand symbols (Test label index o t)) (unquoted-quoted env.dollars text r.4)
    (Indexed r.1 (index_in-decimal index r.3) r.2 (op_named-word o))

well_test : (name : FilterName) (label : List ℕ) (index : ℕ) (o : Op) (text : List ℕ) (b : Bool) → IsReadableFormula name (Test label index o text) → CanBeReadBack (pieces_by b label index o text)
well_test name label index o text true r = (r.0, tt, (is_word_text-op o, tt, (r.4, tt)))
well_test name label index o text false r =
    (r.0, tt, (refl, (is_word_text-decimal index (omega (arith, r.3)), tt, (refl, (is_word_text-op o, tt, (r.4, tt))))))

-- the level at which an expression is spelled without parentheses
abbrev own_level : Formula → Level
own_level (And f g) = Conjunction
own_level (Or f g) = Disjunction
own_level _ = Operand

anywhere : (env : Env) (name : FilterName) (ts : List Symbol) (f : Formula) (level : Level) → Spells env name Operand ts f → Spells env name level ts f
anywhere env name ts f Operand s = s
anywhere env name ts f Conjunction s = OneOperand s
anywhere env name ts f Disjunction s = OneConjunction (OneOperand s)

in_group : (env : Env) (name : FilterName) (ps : List Piece) (f : Formula) → Spells env name Disjunction (piece_symbols ps) f → Spells env name Operand (piece_symbols (in_parens false ps)) f
in_group env name ps f s =
    subst (λ (ts : List Symbol). Spells env name Operand (Open ∷ ts) f) (sym (piece_symbols-append ps (Sign kind.Close ∷ []))) (Grouped s)

-- with the parentheses that it needs there, an expression is spelled at any level
spells_at : (env : Env) (name : FilterName) (ps : List Piece) (level : Level) (f : Formula) → Spells env name (own_level f) (piece_symbols ps) f → Spells env name level (piece_symbols (in_parens (needs_no_parens level f) ps)) f
spells_at env name ps Operand True s = s
spells_at env name ps Operand (Test label index o text) s = s
spells_at env name ps Operand (Not f) s = s
spells_at env name ps Operand (And f g) s = in_group env name ps (And f g) (OneConjunction s)
spells_at env name ps Operand (Or f g) s = in_group env name ps (Or f g) s
spells_at env name ps Conjunction True s = OneOperand s
spells_at env name ps Conjunction (Test label index o text) s = OneOperand s
spells_at env name ps Conjunction (Not f) s = OneOperand s
spells_at env name ps Conjunction (And f g) s = s
spells_at env name ps Conjunction (Or f g) s = OneOperand (in_group env name ps (Or f g) s)
spells_at env name ps Disjunction True s = OneConjunction (OneOperand s)
spells_at env name ps Disjunction (Test label index o text) s = OneConjunction (OneOperand s)
spells_at env name ps Disjunction (Not f) s = OneConjunction (OneOperand s)
spells_at env name ps Disjunction (And f g) s = OneConjunction s
spells_at env name ps Disjunction (Or f g) s = s

-- canonical expressions are spelled as the grammar requires
spells_formula : (env : Env) (name : FilterName) (f : Formula) → IsReadableFormula name f → Spells env name (own_level f) (piece_symbols (expression_pieces f)) f
spells_formula env name True r = Always
spells_formula env name (Test label index o text) r = spells_test env name label index o text (nat_eq index 0) refl r
spells_formula env name (Not f) r = Negated (spells_at env name (expression_pieces f) Operand f (spells_formula env name f r))
spells_formula env name (And f g) r =
    let left : List Piece = in_parens (needs_no_parens Conjunction f) (expression_pieces f) in
    let right : List Piece = in_parens (needs_no_parens Operand g) (expression_pieces g) in
    subst (λ (ts : List Symbol). Spells env name Conjunction ts (And f g)) (sym (piece_symbols-append left (Space ∷ PlainWord (codes "and") ∷ Space ∷ right)))
    (Both (spells_at env name (expression_pieces f) Conjunction f (spells_formula env name f r.0)) (spells_at env name (expression_pieces g) Operand g (spells_formula env name g r.1)))
spells_formula env name (Or f g) r =
    let left : List Piece = in_parens (needs_no_parens Disjunction f) (expression_pieces f) in
    let right : List Piece = in_parens (needs_no_parens Conjunction g) (expression_pieces g) in
    subst (λ (ts : List Symbol). Spells env name Disjunction ts (Or f g)) (sym (piece_symbols-append left (Space ∷ PlainWord (codes "or") ∷ Space ∷ right)))
    (Either (spells_at env name (expression_pieces f) Disjunction f (spells_formula env name f r.0)) (spells_at env name (expression_pieces g) Conjunction g (spells_formula env name g r.1)))

pub fits_all : (f : Formula) → needs_no_parens Disjunction f ≡ true
fits_all True = refl
fits_all (Test label index op text) = refl
fits_all (Not f) = refl
fits_all (And f g) = refl
fits_all (Or f g) = refl

pub spells_expression : (env : Env) (name : FilterName) (f : Formula) → IsReadableFormula name f → Spells env name Disjunction (piece_symbols (expression_pieces f)) f
spells_expression env name f r =
    subst (λ (b : Bool). Spells env name Disjunction (piece_symbols (in_parens b (expression_pieces f))) f) (fits_all f)
    (spells_at env name (expression_pieces f) Disjunction f (spells_formula env name f r))

-- ---- and their pieces can be read back

well_parens : (b : Bool) (ps : List Piece) → CanBeReadBack ps → CanBeReadBack (in_parens b ps)
well_parens true ps w = w
well_parens false ps w = (refl, StandWell-append ps (Sign kind.Close ∷ []) w (refl, tt) tt)

well_joined : (ps qs : List Piece) (word : List ℕ) → is_word_text word ≡ true → CanBeReadBack ps → CanBeReadBack qs → CanBeReadBack (ps ++ Space ∷ PlainWord word ∷ Space ∷ qs)
well_joined ps qs word is p q = StandWell-append ps (Space ∷ PlainWord word ∷ Space ∷ qs) p (is, tt, q) tt

pub well_expression : (name : FilterName) (f : Formula) → IsReadableFormula name f → CanBeReadBack (expression_pieces f)
well_expression name True r = (refl, tt, tt)
well_expression name (Test label index o text) r = well_test name label index o text (nat_eq index 0) r
well_expression name (Not f) r = (refl, tt, well_parens (needs_no_parens Operand f) (expression_pieces f) (well_expression name f r))
well_expression name (And f g) r =
    well_joined (in_parens (needs_no_parens Conjunction f) (expression_pieces f)) (in_parens (needs_no_parens Operand g) (expression_pieces g)) (codes "and") refl
    (well_parens (needs_no_parens Conjunction f) (expression_pieces f) (well_expression name f r.0))
    (well_parens (needs_no_parens Operand g) (expression_pieces g) (well_expression name g r.1))
well_expression name (Or f g) r =
    well_joined (in_parens (needs_no_parens Disjunction f) (expression_pieces f)) (in_parens (needs_no_parens Conjunction g) (expression_pieces g)) (codes "or") refl
    (well_parens (needs_no_parens Disjunction f) (expression_pieces f) (well_expression name f r.0))
    (well_parens (needs_no_parens Conjunction g) (expression_pieces g) (well_expression name g r.1))
