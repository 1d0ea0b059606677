-- The number of joins of a canonical expression.
use Rattle.std.proofs.Common.{◌≡◌, ℕ, ◌+◌, ◌≤◌, Bool, true, false, nat_eq, List, [], ◌∷◌, ◌++◌, codes, decimal, sum_by, Some, refl, ap, ◌∙◌, arith}
use Rattle.st_lex.specs.declared.token.TokenKind.TheVariants as kind
use Rattle.st_grammar.proofs.Common.{Always, And, Both, Close, Conjunction, Disjunction, Either, FilterName, First, Formula, Grouped, index_in, Indexed, is_join, is_label, Level, Negated, Not, OneConjunction, OneOperand, Op, Open, Operand, Or, Piece, PlainWord, Sign, Space, Spells, Symbol, Test, True, unquoted, Word}
use Rattle.st_grammar.specs.declared.env.Env.{Env}
use Rattle.st_printing.specs.Canon.{word_of_op, needs_no_parens, in_parens, expression_pieces}
use Rattle.st_grammar.proofs.Keywords.{joins-append, joins-first, joins-index, joins-label, joins-op}
use Rattle.st_reread.proofs.Numbers.{index_in-decimal, index_in-small}
use Rattle.st_reread.proofs.Symbols.{piece_symbols, piece_symbols-append}
use Rattle.st_reread.proofs.PrintedExpressions.{fits_all, op_named-word, pieces_by}

abbrev pub joins_of : List Piece → ℕ
joins_of ps = sum_by is_join (piece_symbols ps)

-- the number of joins, and one more for parentheses if they are needed
abbrev with_parens : Bool → ℕ → ℕ
with_parens true n = n
with_parens false n = 1 + n

abbrev joins_at : Level → Formula → ℕ
joins_at level f = with_parens (needs_no_parens level f) (joins_of (expression_pieces f))

joins_at-Conjunction : (f : Formula) → joins_at Conjunction f ≤ joins_at Operand f
joins_at-Conjunction True = omega arith
joins_at-Conjunction (Test label index op text) = omega arith
joins_at-Conjunction (Not f) = omega arith
joins_at-Conjunction (And f g) = omega arith
joins_at-Conjunction (Or f g) = omega arith

joins_at-Disjunction : (f : Formula) → joins_at Disjunction f ≤ joins_at Conjunction f
joins_at-Disjunction True = omega arith
joins_at-Disjunction (Test label index op text) = omega arith
joins_at-Disjunction (Not f) = omega arith
joins_at-Disjunction (And f g) = omega arith
joins_at-Disjunction (Or f g) = omega arith

joins_at-parens : (f : Formula) → joins_at Operand f ≤ 1 + joins_at Disjunction f
joins_at-parens True = omega arith
joins_at-parens (Test label index op text) = omega arith
joins_at-parens (Not f) = omega arith
joins_at-parens (And f g) = omega arith
joins_at-parens (Or f g) = omega arith

-- ---- what is printed

joins-test : (label : List ℕ) (index : ℕ) (o : Op) (text : List ℕ) (b : Bool) → is_label label ≡ true → index_in (decimal index) ≡ Some index → joins_of (pieces_by b label index o text) ≡ 0
joins-test label index o text true l i = omega (arith, joins-label label l, joins-op (word_of_op o) o (op_named-word o))
joins-test label index o text false l i = omega (arith, joins-label label l, joins-index (decimal index) index i, joins-op (word_of_op o) o (op_named-word o))

sum-parens : (ts : List Symbol) → sum_by is_join (Open ∷ ts ++ Close ∷ []) ≡ 1 + sum_by is_join ts
sum-parens ts = omega (arith, joins-first Open (ts ++ Close ∷ []), joins-append ts (Close ∷ []))

joins-parens : (b : Bool) (ps : List Piece) → joins_of (in_parens b ps) ≡ with_parens b (joins_of ps)
joins-parens true ps = refl
joins-parens false ps = ap (λ (ts : List Symbol). sum_by is_join (Open ∷ ts)) (piece_symbols-append ps (Sign kind.Close ∷ [])) ∙ sum-parens (piece_symbols ps)

sum-joined : (ts us : List Symbol) (s : Symbol) → sum_by is_join (ts ++ s ∷ us) ≡ sum_by is_join ts + (is_join s + sum_by is_join us)
sum-joined ts us s = omega (arith, joins-append ts (s ∷ us), joins-first s us)

-- two expressions, each at its level, with a word between them
joins-joined : (l m : Level) (f g : Formula) (word : List ℕ) → is_join (Word word) ≡ 1 →
    joins_of (in_parens (needs_no_parens l f) (expression_pieces f) ++ Space ∷ PlainWord word ∷ Space ∷ in_parens (needs_no_parens m g) (expression_pieces g)) ≡ joins_at l f + (1 + joins_at m g)
joins-joined l m f g word e =
    let left : List Piece = in_parens (needs_no_parens l f) (expression_pieces f) in
    let right : List Piece = in_parens (needs_no_parens m g) (expression_pieces g) in
    let split : joins_of (left ++ Space ∷ PlainWord word ∷ Space ∷ right) ≡ sum_by is_join (piece_symbols left ++ Word word ∷ piece_symbols right) = ap (sum_by is_join) (piece_symbols-append left (Space ∷ PlainWord word ∷ Space ∷ right)) in
    omega (arith, split, sum-joined (piece_symbols left) (piece_symbols right) (Word word), e, joins-parens (needs_no_parens l f) (expression_pieces f), joins-parens (needs_no_parens m g) (expression_pieces g))

joins_fewer : (env : Env) (name : FilterName) {level : Level} {ts : List Symbol} {f : Formula} → Spells env name level ts f → joins_at level f ≤ sum_by is_join ts
joins_fewer env name Always = omega arith
joins_fewer env name (First {label = label} {source = source} {o = o} l a e) = omega (arith, joins-test label 0 o (unquoted env.dollars source) true l (index_in-decimal 0 (omega arith)))
joins_fewer env name (Indexed {label = label} {digits = digits} {source = source} {index = index} {o = o} l i a e) = omega (arith, joins-test label index o (unquoted env.dollars source) (nat_eq index 0) l (index_in-decimal index (index_in-small digits index i)))
joins_fewer env name (Negated {ts = ts} {f = f} p) =
    let inner : List Symbol = piece_symbols (in_parens (needs_no_parens Operand f) (expression_pieces f)) in
    omega (arith, joins_fewer env name p, joins-first (Word (codes "not")) inner, joins-parens (needs_no_parens Operand f) (expression_pieces f), joins-first (Word (codes "not")) ts)
joins_fewer env name (Grouped {ts = ts} {f = f} p) = omega (arith, joins_fewer env name p, sum-parens ts, joins_at-parens f)
joins_fewer env name (OneOperand {f = f} p) = omega (arith, joins_fewer env name p, joins_at-Conjunction f)
joins_fewer env name (Both {ts = ts} {us = us} {f = f} {g = g} p q) = omega (arith, joins_fewer env name p, joins_fewer env name q, sum-joined ts us (Word (codes "and")), joins-joined Conjunction Operand f g (codes "and") refl)
joins_fewer env name (OneConjunction {f = f} p) = omega (arith, joins_fewer env name p, joins_at-Disjunction f)
joins_fewer env name (Either {ts = ts} {us = us} {f = f} {g = g} p q) = omega (arith, joins_fewer env name p, joins_fewer env name q, sum-joined ts us (Word (codes "or")), joins-joined Disjunction Conjunction f g (codes "or") refl)

-- a canonical expression has no more joins than the symbols that it was read from
pub few_joins : (env : Env) (name : FilterName) {ts : List Symbol} {f : Formula} → Spells env name Disjunction ts f → joins_of (expression_pieces f) ≤ sum_by is_join ts
few_joins env name {f = f} s = omega (arith, joins_fewer env name s, ap (λ (b : Bool). with_parens b (joins_of (expression_pieces f))) (fits_all f))
