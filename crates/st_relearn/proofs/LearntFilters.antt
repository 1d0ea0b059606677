-- A filter that was learnt can be written.
use Rattle.std.proofs.Common.{◌≡◌, ℕ, suc, ◌+◌, ◌*◌, ◌<◌, ◌≤◌, Bool, true, false, cond, nat_eq, nat_le, List, [], ◌∷◌, length, codes, decimal, sum_by, refl, ap, ◌∙◌, leb-true, arith}
use Rattle.std.proofs.lemmas.List.{length-append}
use Rattle.std.proofs.lemmas.List.Sums.{sum_by-append}
use Rattle.std.specs.List.{fold}
use Rattle.st_calls.specs.Argument.{args_of, has_argument, name_of_label}
use Rattle.st_calls.specs.declared.argument.ArgSpec.{ArgSpec}
use Rattle.st_calls.specs.declared.argument.ArgText.{ArgText}
use Rattle.st_calls.specs.declared.argument.Label.{Label}
use Rattle.st_calls.specs.declared.argument.Label.TheVariants.{Filename}
use Rattle.st_calls.specs.declared.call.SysCall.{SysCall}
use Rattle.st_calls.specs.declared.call.SysCall.TheVariants.{Open, Stat, Lstat, Access, Readlink, Unlink, Link, Symlink, Rename, Mkdir, Rmdir, Chdir, Chmod, Chown, Truncate, Execve, Kill, SetUid, SetEuid, SetGid, SetEgid, Socket, Bind, Connect}
use Rattle.st_calls.specs.declared.judged.Snapshot.{Snapshot}
use Rattle.st_calls.specs.declared.rule.Rule.{Rule}
use Rattle.st_calls.specs.declared.rule.Rule.TheVariants.{Call, FsRead, FsWrite}
use Rattle.st_lex.specs.Pieces.{Piece, PlainWord, QuotedText, Sign, Space, is_word_text, sign_bytes}
use Rattle.st_lex.specs.Quote.{AreBytes}
use Rattle.st_lex.specs.declared.token.TokenKind.TheVariants as kind
use Rattle.st_filter.specs.Formula.{Formula, And, Conjunction}
use Rattle.st_filter.specs.declared.filter.FilterName.TheVariants as name
use Rattle.st_law.specs.Sessions.{learnt_filter, learnt_formula, test_of}
use Rattle.st_printing.specs.Canon.{expression_pieces, in_parens, index_pieces, needs_no_parens}
use Rattle.st_grammar.specs.Grammar.{is_join}
use Rattle.st_grammar.specs.Symbol.{Symbol, Word, symbol_by}
use Rattle.st_grammar.specs.Symbol as symbol
use Rattle.st_grammar.specs.Words.{is_label}
use Rattle.st_grammar.specs.declared.env.Env.{Env}
use Rattle.st_relearn.specs.Plain.{AreArguments}
use Rattle.st_relearn.specs.Writable.{HasWritableTests, IsWritableFilter, IsWritableTest, joins_of}

-- ---- the arguments of a rule

-- each label is a Word, and not one of the grammar's
label_word : (l : Label) → is_word_text (name_of_label l) ≡ true
label_word Filename = refl
label_word _ = refl

label_free : (l : Label) → is_label (name_of_label l) ≡ true
label_free Filename = refl
label_free _ = refl

-- a rule has each of these arguments, and their indexes are small
abbrev AreKnown : Rule → List ArgSpec → Type 0
AreKnown rule [] = Unit {0}
AreKnown rule (spec ∷ specs) = (has_argument rule (name_of_label spec.label) spec.index ≡ true) × (spec.index < 2) × AreKnown rule specs

call_known : (call : SysCall) → AreKnown (Call call) (args_of (Call call))
call_known Open = (refl, omega arith, tt)
call_known Stat = (refl, omega arith, tt)
call_known Lstat = (refl, omega arith, tt)
call_known Access = (refl, omega arith, tt)
call_known Readlink = (refl, omega arith, tt)
call_known Unlink = (refl, omega arith, tt)
call_known Link = (refl, omega arith, (refl, omega arith, tt))
call_known Symlink = (refl, omega arith, (refl, omega arith, tt))
call_known Rename = (refl, omega arith, (refl, omega arith, tt))
call_known Mkdir = (refl, omega arith, tt)
call_known Rmdir = (refl, omega arith, tt)
call_known Chdir = (refl, omega arith, tt)
call_known Chmod = (refl, omega arith, (refl, omega arith, tt))
call_known Chown = (refl, omega arith, (refl, omega arith, (refl, omega arith, tt)))
call_known Truncate = (refl, omega arith, tt)
call_known Execve = (refl, omega arith, (refl, omega arith, tt))
call_known Kill = (refl, omega arith, (refl, omega arith, tt))
call_known SetUid = (refl, omega arith, tt)
call_known SetEuid = (refl, omega arith, tt)
call_known SetGid = (refl, omega arith, tt)
call_known SetEgid = (refl, omega arith, tt)
call_known Socket = (refl, omega arith, (refl, omega arith, tt))
call_known Bind = (refl, omega arith, tt)
call_known Connect = (refl, omega arith, tt)
call_known _ = tt

rule_known : (rule : Rule) → AreKnown rule (args_of rule)
rule_known (Call call) = call_known call
rule_known FsRead = (refl, omega arith, tt)
rule_known FsWrite = (refl, omega arith, tt)

call_few : (call : SysCall) → nat_le (length (args_of (Call call))) 3 ≡ true
call_few Open = refl
call_few _ = refl

rule_few : (rule : Rule) → nat_le (length (args_of rule)) 3 ≡ true
rule_few (Call call) = call_few call
rule_few FsRead = refl
rule_few FsWrite = refl

-- ---- the tests

module _ (rule : Rule) where
  test_writable : (spec : ArgSpec) (arg : ArgText) → has_argument rule (name_of_label spec.label) spec.index ≡ true → spec.index < 2 → arg.label ≡ spec.label → arg.index ≡ spec.index → AreBytes arg.text
      → IsWritableTest (name.Rule rule) (name_of_label arg.label) arg.index arg.text
  test_writable spec arg known small label index bytes = record {
    word = label_word arg.label;
    free = label_free arg.label;
    allowed = (λ k. has_argument rule (name_of_label (label k)) (index k)) ∙ known;
    small = omega (arith, index, small);
    bytes = bytes;
  }

  joined_writable : (first : Formula) (specs : List ArgSpec) (args : List ArgText) → HasWritableTests (name.Rule rule) first → AreKnown rule specs → AreArguments specs args
      → HasWritableTests (name.Rule rule) (fold (λ formula other. And formula (test_of other)) first args)
  joined_writable first [] [] tests known are = tests
  joined_writable first [] (arg ∷ args) tests known are = absurd are
  joined_writable first (spec ∷ specs) [] tests known are = absurd are
  joined_writable first (spec ∷ specs) (arg ∷ args) tests known are =
      joined_writable (And first (test_of arg)) specs args (tests, test_writable spec arg known.0 known.1 are.0 are.1 are.2) known.2 are.3

  tests_writable : (specs : List ArgSpec) (args : List ArgText) → AreKnown rule specs → AreArguments specs args → HasWritableTests (name.Rule rule) (learnt_formula args)
  tests_writable [] [] known are = tt
  tests_writable [] (arg ∷ args) known are = absurd are
  tests_writable (spec ∷ specs) [] known are = absurd are
  tests_writable (spec ∷ specs) (arg ∷ args) known are =
      joined_writable (test_of arg) specs args (test_writable spec arg known.0 known.1 are.0 are.1 are.2) known.2 are.3

-- ---- few joins

symbol_joins : (s : Symbol) → is_join s ≤ 1
symbol_joins (Word w) = by _ where
  by : (b : Bool) → cond b 1 0 ≤ 1
  by true = omega arith
  by false = omega arith
symbol_joins symbol.Open = omega arith
symbol_joins _ = omega arith

piece_joins : (p : Piece) → joins_of p ≤ 1
piece_joins (PlainWord word) = symbol_joins (Word word)
piece_joins (QuotedText text) = omega arith
piece_joins (Sign k) = symbol_joins (symbol_by k (sign_bytes k))
piece_joins Space = omega arith

-- pieces have no more joins than there are pieces
pieces_joins : (ps : List Piece) → sum_by joins_of ps ≤ length ps
pieces_joins [] = omega arith
pieces_joins (p ∷ ps) = let e : sum_by joins_of (p ∷ ps) ≡ sum_by joins_of (p ∷ []) + sum_by joins_of ps = sum_by-append joins_of (p ∷ []) ps in omega (arith, e, piece_joins p, pieces_joins ps)

-- a test has few pieces
index_few : (index : ℕ) → length (index_pieces index) ≤ 3
index_few index = by (nat_eq index 0) where
  by : (b : Bool) → length (cond b [] (Sign kind.OpenBracket ∷ PlainWord (decimal index) ∷ Sign kind.CloseBracket ∷ [])) ≤ 3
  by true = omega arith
  by false = omega arith

test_few : (arg : ArgText) → length (expression_pieces (test_of arg)) ≤ 8
test_few arg =
    let e = length-append (index_pieces arg.index) (Space ∷ PlainWord (codes "eq") ∷ Space ∷ QuotedText arg.text ∷ []) in
    omega (arith, e, index_few arg.index)

-- whether an expression needs no parentheses before `and`
abbrev IsPlainLeft : Formula → Type 0
IsPlainLeft f = needs_no_parens Conjunction f ≡ true

joined_few : (most : ℕ) (first : Formula) (args : List ArgText) → IsPlainLeft first → length (expression_pieces first) ≤ most → length (expression_pieces (fold (λ formula other. And formula (test_of other)) first args)) ≤ most + 11 * length args
joined_few most first [] plain few = omega (arith, few)
joined_few most first (arg ∷ args) plain few =
    let left : length (in_parens (needs_no_parens Conjunction first) (expression_pieces first)) ≡ length (expression_pieces first) = ap (λ b. length (in_parens b (expression_pieces first))) plain in
    let both = length-append (in_parens (needs_no_parens Conjunction first) (expression_pieces first)) (Space ∷ PlainWord (codes "and") ∷ Space ∷ expression_pieces (test_of arg)) in
    let here : length (expression_pieces (And first (test_of arg))) ≤ most + 11 = omega (arith, left, both, few, test_few arg) in
    let rest = joined_few (most + 11) (And first (test_of arg)) args refl here in
    omega (arith, rest)

learnt_few : (args : List ArgText) → length args ≤ 3 → length (expression_pieces (learnt_formula args)) ≤ 30
learnt_few [] few = omega arith
learnt_few (arg ∷ args) few = let all = joined_few 8 (test_of arg) args refl (test_few arg) in omega (arith, all, few)

as_many : (specs : List ArgSpec) (args : List ArgText) → AreArguments specs args → length args ≡ length specs
as_many [] [] are = refl
as_many [] (arg ∷ args) are = absurd are
as_many (spec ∷ specs) [] are = absurd are
as_many (spec ∷ specs) (arg ∷ args) are = ap suc (as_many specs args are.3)

-- ---- the filter

pub learnt_is_writable : (env : Env) (s : Snapshot) → AreArguments (args_of s.rule) s.parts → IsWritableFilter env (learnt_filter s)
learnt_is_writable env s are =
    let few : length s.parts ≤ 3 = let most : length (args_of s.rule) ≤ 3 = leb-true (length (args_of s.rule)) 3 (rule_few s.rule) in omega (arith, most, as_many (args_of s.rule) s.parts are) in
    record {
      name = tt;
      expression = record {
        tests = tests_writable s.rule (args_of s.rule) s.parts (rule_known s.rule) are;
        few = omega (arith, pieces_joins (expression_pieces (learnt_formula s.parts)), learnt_few s.parts few);
      };
      action = tt;
      grant = tt;
      predicate = tt;
    }
