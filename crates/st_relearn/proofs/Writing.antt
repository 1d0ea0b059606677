-- Policies that can be written are read again, and policies that were read can be written.
use Rattle.std.proofs.Common.{◌≡◌, ◌==◌, ℕ, ◌+◌, ◌<◌, Bool, true, false, cond, ◌||◌, ◌&&◌, nat_lt, List, [], ◌∷◌, length, codes, sum_by, Option, Some, None, option_map, refl, ap, ◌∙◌, arith}
use Rattle.std.proofs.lemmas.Bool.{and_parts}
use Rattle.std.proofs.lemmas.Bool.Decides.{nat_tests}
use Rattle.std.proofs.lemmas.List.Elements.{All-from_recursion, recursion_from_All}
use Rattle.std.proofs.lemmas.List.Sums.{sum_by-append}
use Rattle.std.proofs.lemmas.Option.{same_Some}
use Rattle.std.specs.Char.{is_ascii_alphanumeric}
use Rattle.std.specs.List.{AllByRecursion, list_all, list_any}
use Rattle.st_calls.specs.declared.call.SysCall.{SysCall}
use Rattle.st_calls.specs.declared.call.SysCall.TheVariants.{Open}
use Rattle.st_calls.specs.declared.rule.Rule.{Rule}
use Rattle.st_calls.specs.declared.rule.Rule.TheVariants.{Call, FsRead, FsWrite}
use Rattle.st_calls.specs.Call.{rule_named}
use Rattle.st_lex.specs.Pieces.{Piece, PlainWord, QuotedText, Sign, Space, CanBeReadBack, is_word_text, sign_bytes}
use Rattle.st_lex.specs.Quote.{AreBytes, quoted}
use Rattle.st_lex.specs.Tokens.{is_word_byte}
use Rattle.st_emulation.specs.declared.emulation.Emulation.{Emulation}
use Rattle.st_emulation.specs.declared.emulation.Emulation.TheVariants.{Native, Linux}
use Rattle.st_filter.specs.Formula.{Formula, True, Test, Not, And, Or, FilterValue}
use Rattle.st_filter.specs.declared.filter.Action.{Action}
use Rattle.st_filter.specs.declared.filter.Action.TheVariants.{Permit, Deny, Ask}
use Rattle.st_filter.specs.declared.filter.FilterName.{FilterName}
use Rattle.st_filter.specs.declared.filter.FilterName.TheVariants as name
use Rattle.st_filter.specs.declared.filter.Grant.{Grant}
use Rattle.st_filter.specs.declared.filter.Predicate.{Predicate}
use Rattle.st_filter.specs.declared.set.BinaryPolicy.{BinaryPolicy}
use Rattle.st_printing.specs.Canon.{canon, expression_pieces, set_pieces}
use Rattle.st_grammar.specs.Grammar.{Reads, is_join}
use Rattle.st_reread.specs.Readable.{WasRead, HasPlainDollars, HasSmallIds}
use Rattle.st_grammar.specs.Symbol.{Word, Quoted, symbol_by}
use Rattle.st_grammar.specs.Words.{if_name, is_name_byte, name_by}
use Rattle.st_grammar.specs.declared.env.Env.{Env}
use Rattle.st_reread.proofs.Headers.{IsReadableBinary}
use Rattle.st_reread.proofs.Names.{IsReadableName}
use Rattle.st_reread.proofs.PrintedClauses.{AreIds, IsReadableAction, IsReadableCondition, IsReadableGrant, IsReadablePredicate}
use Rattle.st_grammar.proofs.Keywords.{joins-first}
use Rattle.st_reread.proofs.PrintedExpressions.{IsReadableFormula}
use Rattle.st_reread.proofs.PrintedFilters.{IsReadableFilter}
use Rattle.st_reread.proofs.Readings.{IsReadable, readable-reads, readable_set}
use Rattle.st_reread.proofs.Rows.{AreReadable, IsReadablePolicy, well_set}
use Rattle.st_reread.proofs.Symbols.{piece_symbols}
use Rattle.st_relearn.specs.Writable.{AreGranted, AreWritable, HasWritableTests, IsWritableAction, IsWritableBinary, IsWritableExpression, IsWritableFilter, IsWritableGrant, IsWritableName, IsWritablePolicy, IsWritablePredicate, joins_of}

-- ---- names

word_by : (a c rest : Bool) → (a || c) ≡ true → (a || (c || rest)) ≡ true
word_by true c rest e = refl
word_by false true rest e = refl
word_by false false rest e = cc

-- a byte of a name is one of a Word
name_byte : (b : ℕ) → is_name_byte b ≡ true → is_word_byte b ≡ true
name_byte b e = word_by (is_ascii_alphanumeric b) (b == 95) (list_any (λ c. b == c) (codes "-./+~%")) e

name_bytes : (bs : List ℕ) → list_all is_name_byte bs ≡ true → list_all is_word_byte bs ≡ true
name_bytes [] e = refl
name_bytes (b ∷ bs) e =
    let both : (is_name_byte b ≡ true) × (list_all is_name_byte bs ≡ true) = and_parts (is_name_byte b) (list_all is_name_byte bs) e in
    let here : is_word_byte b ≡ true = name_byte b both.0 in
    rw here (name_bytes bs both.1)

-- a word that is a name consists of name bytes only
named_bytes : (some all : Bool) (word : List ℕ) → cond (some && all) (Some word) None ≡ Some word → all ≡ true
named_bytes true true word e = refl
named_bytes true false word e = absurd (cc)
named_bytes false all word e = absurd (cc)

-- a name outside the rules
readable_other : (emulation : Emulation) (word : List ℕ) → if_name word ≡ Some word → rule_named word ≡ None → IsReadableName emulation (name.Other word)
readable_other Native word named none = record {
  is_word = name_bytes word (named_bytes (nat_lt 0 (length word)) (list_all is_name_byte word) word named);
  is_read = ap (option_map (λ (call : List ℕ). name_by call (rule_named call))) named ∙ ap (λ (o : Option Rule). Some (name_by word o)) none;
}
readable_other Linux word named none = record {
  is_word = name_bytes word (named_bytes (nat_lt 0 (length word)) (list_all is_name_byte word) word named);
  is_read = ap (option_map (λ (call : List ℕ). name_by call (rule_named call))) named ∙ ap (λ (o : Option Rule). Some (name_by word o)) none;
}

readable_call : (emulation : Emulation) (call : SysCall) → IsReadableName emulation (name.Rule (Call call))
readable_call Native Open = record { is_word = refl; is_read = refl }
readable_call Native _ = record { is_word = refl; is_read = refl }
readable_call Linux Open = record { is_word = refl; is_read = refl }
readable_call Linux _ = record { is_word = refl; is_read = refl }

-- every rule has a name that is read back
readable_rule : (emulation : Emulation) (rule : Rule) → IsReadableName emulation (name.Rule rule)
readable_rule emulation (Call call) = readable_call emulation call
readable_rule Native FsRead = record { is_word = refl; is_read = refl }
readable_rule Native FsWrite = record { is_word = refl; is_read = refl }
readable_rule Linux FsRead = record { is_word = refl; is_read = refl }
readable_rule Linux FsWrite = record { is_word = refl; is_read = refl }

readable_name : (emulation : Emulation) (n : FilterName) → IsWritableName n → IsReadableName emulation n
readable_name emulation (name.Rule rule) w = readable_rule emulation rule
readable_name emulation (name.Other word) w = readable_other emulation word w.0 w.1

other_by : (word : List ℕ) (o : Option Rule) → name_by word o ≡ name.Other word → o ≡ None
other_by word None e = refl
other_by word (Some rule) e = absurd (cc)

named_by : (b : Bool) (word : List ℕ) → option_map (λ (call : List ℕ). name_by call (rule_named call)) (cond b (Some word) None) ≡ Some (name.Other word) → (cond b (Some word) None ≡ Some word) × (rule_named word ≡ None)
named_by true word e = (refl, other_by word (rule_named word) (same_Some (name_by word (rule_named word)) (name.Other word) e))
named_by false word e = absurd (cc)

writable_name : (emulation : Emulation) (n : FilterName) → IsReadableName emulation n → IsWritableName n
writable_name emulation (name.Rule rule) r = tt
writable_name Native (name.Other word) r = named_by (nat_lt 0 (length word) && list_all is_name_byte word) word r.is_read
writable_name Linux (name.Other word) r = named_by (nat_lt 0 (length word) && list_all is_name_byte word) word r.is_read

-- ---- expressions

readable_tests : (n : FilterName) (f : Formula) → HasWritableTests n f → IsReadableFormula n f
readable_tests n True w = tt
readable_tests n (Test label index op text) w = (w.word, w.free, w.allowed, w.small, w.bytes)
readable_tests n (Not f) w = readable_tests n f w
readable_tests n (And f g) w = (readable_tests n f w.0, readable_tests n g w.1)
readable_tests n (Or f g) w = (readable_tests n f w.0, readable_tests n g w.1)

writable_tests : (n : FilterName) (f : Formula) → IsReadableFormula n f → HasWritableTests n f
writable_tests n True r = tt
writable_tests n (Test label index op text) r = record { word = r.0; free = r.1; allowed = r.2; small = r.3; bytes = r.4 }
writable_tests n (Not f) r = writable_tests n f r
writable_tests n (And f g) r = (writable_tests n f r.0, writable_tests n g r.1)
writable_tests n (Or f g) r = (writable_tests n f r.0, writable_tests n g r.1)

sum_one : (p : Piece) (ps : List Piece) → sum_by joins_of (p ∷ ps) ≡ joins_of p + sum_by joins_of ps
sum_one p ps = let e : sum_by joins_of (p ∷ ps) ≡ sum_by joins_of (p ∷ []) + sum_by joins_of ps = sum_by-append joins_of (p ∷ []) ps in omega (arith, e)

-- pieces have the joins of their symbols
joins_counted : (ps : List Piece) → sum_by is_join (piece_symbols ps) ≡ sum_by joins_of ps
joins_counted [] = refl
joins_counted (PlainWord word ∷ ps) = omega (arith, joins_counted ps, joins-first (Word word) (piece_symbols ps), sum_one (PlainWord word) ps)
joins_counted (QuotedText text ∷ ps) = omega (arith, joins_counted ps, joins-first (Quoted (quoted text)) (piece_symbols ps), sum_one (QuotedText text) ps)
joins_counted (Sign kind ∷ ps) = omega (arith, joins_counted ps, joins-first (symbol_by kind (sign_bytes kind)) (piece_symbols ps), sum_one (Sign kind) ps)
joins_counted (Space ∷ ps) = omega (arith, joins_counted ps, sum_one Space ps)

readable_expression : (n : FilterName) (f : Formula) → IsWritableExpression n f → IsReadableCondition n f
readable_expression n f w = record { formula = readable_tests n f w.tests; few = omega (arith, w.few, joins_counted (expression_pieces f)) }

writable_expression : (n : FilterName) (f : Formula) → IsReadableCondition n f → IsWritableExpression n f
writable_expression n f r = record { tests = writable_tests n f r.formula; few = omega (arith, r.few, joins_counted (expression_pieces f)) }

-- ---- what follows an expression

readable_action : (env : Env) (a : Action) → IsWritableAction env a → IsReadableAction env a
readable_action env Permit w = tt
readable_action env (Deny errno) w = tt
readable_action env Ask w = w

writable_action : (env : Env) (a : Action) → IsReadableAction env a → IsWritableAction env a
writable_action env Permit r = tt
writable_action env (Deny errno) r = tt
writable_action env Ask r = r

readable_ids : (user group : Option ℕ) → AreGranted user group → AreIds user group
readable_ids None None w = w
readable_ids (Some user) None w = w
readable_ids None (Some group) w = w
readable_ids (Some user) (Some group) w = w

writable_ids : (user group : Option ℕ) → AreIds user group → AreGranted user group
writable_ids None None r = r
writable_ids (Some user) None r = r
writable_ids None (Some group) r = r
writable_ids (Some user) (Some group) r = r

readable_grant : (env : Env) (n : FilterName) (a : Action) (g : Option Grant) → IsWritableGrant env n a g → IsReadableGrant env n a g
readable_grant env n a None w = tt
readable_grant env n a (Some g) w = (w.0, readable_ids g.user g.group w.1)

writable_grant : (env : Env) (n : FilterName) (a : Action) (g : Option Grant) → IsReadableGrant env n a g → IsWritableGrant env n a g
writable_grant env n a None r = tt
writable_grant env n a (Some g) r = (r.0, writable_ids g.user g.group r.1)

readable_predicate : (p : Option Predicate) → IsWritablePredicate p → IsReadablePredicate p
readable_predicate None w = tt
readable_predicate (Some p) w = w

writable_predicate : (p : Option Predicate) → IsReadablePredicate p → IsWritablePredicate p
writable_predicate None r = tt
writable_predicate (Some p) r = r

-- ---- filters and policies

readable_filter : (env : Env) (f : FilterValue) → IsWritableFilter env f → IsReadableFilter env f
readable_filter env f w = record {
  name = readable_name env.emulation f.name w.name;
  condition = readable_expression f.name f.formula w.expression;
  action = readable_action env f.action w.action;
  grant = readable_grant env f.name f.action f.grant w.grant;
  predicate = readable_predicate f.predicate w.predicate;
}

pub writable_filter : (env : Env) (f : FilterValue) → IsReadableFilter env f → IsWritableFilter env f
writable_filter env f r = record {
  name = writable_name env.emulation f.name r.name;
  expression = writable_expression f.name f.formula r.condition;
  action = writable_action env f.action r.action;
  grant = writable_grant env f.name f.action f.grant r.grant;
  predicate = writable_predicate f.predicate r.predicate;
}

readable_filters : (env : Env) (fs : List FilterValue) → AllByRecursion (IsWritableFilter env) fs → AllByRecursion (IsReadableFilter env) fs
readable_filters env [] w = tt
readable_filters env (f ∷ fs) w = (readable_filter env f w.0, readable_filters env fs w.1)

writable_filters : (env : Env) (fs : List FilterValue) → AllByRecursion (IsReadableFilter env) fs → AllByRecursion (IsWritableFilter env) fs
writable_filters env [] r = tt
writable_filters env (f ∷ fs) r = (writable_filter env f r.0, writable_filters env fs r.1)

word_byte : (b : ℕ) → is_word_byte b ≡ true → (0 < b) × (b < 256)
word_byte b e = grind (arith, nat_tests)

word_bytes : (bs : List ℕ) → list_all is_word_byte bs ≡ true → AreBytes bs
word_bytes [] e = tt
word_bytes (b ∷ bs) e =
    let both : (is_word_byte b ≡ true) × (list_all is_word_byte bs ≡ true) = and_parts (is_word_byte b) (list_all is_word_byte bs) e in
    let here = word_byte b both.0 in
    (here.0, here.1, word_bytes bs both.1)

-- a Word can be quoted too
pub word_text : (bs : List ℕ) → is_word_text bs ≡ true → AreBytes bs
word_text [] e = tt
word_text (b ∷ bs) e = word_bytes (b ∷ bs) e

writable_binary : (binary : List ℕ) → IsReadableBinary binary → IsWritableBinary binary
writable_binary binary r = record { absolute = r.absolute; bytes = by (is_word_text binary) refl } where
  by : (b : Bool) → is_word_text binary ≡ b → AreBytes binary
  by true e = word_text binary e
  by false e = r.bytes e

readable_policy : (env : Env) (p : BinaryPolicy) → IsWritablePolicy env p → IsReadablePolicy env p
readable_policy env p w = record {
  binary = record { absolute = w.binary.absolute; bytes = λ no. w.binary.bytes };
  filters = readable_filters env p.filters (recursion_from_All (IsWritableFilter env) p.filters w.filters);
}

writable_policy : (env : Env) (p : BinaryPolicy) → IsReadablePolicy env p → IsWritablePolicy env p
writable_policy env p r = record {
  binary = writable_binary p.binary r.binary;
  filters = All-from_recursion (IsWritableFilter env) p.filters (writable_filters env p.filters r.filters);
}

readable_policies : (env : Env) (ps : List BinaryPolicy) → AllByRecursion (IsWritablePolicy env) ps → AreReadable env ps
readable_policies env [] w = tt
readable_policies env (p ∷ ps) w = (readable_policy env p w.0, readable_policies env ps w.1)

writable_policies : (env : Env) (ps : List BinaryPolicy) → AreReadable env ps → AllByRecursion (IsWritablePolicy env) ps
writable_policies env [] r = tt
writable_policies env (p ∷ ps) r = (writable_policy env p r.0, writable_policies env ps r.1)

-- ---- policies that can be written are read again

-- the pieces of policies that can be written can be read back
pub well_written : (env : Env) (set : List BinaryPolicy) → AreWritable env set → CanBeReadBack (set_pieces set env.emulation)
well_written env set w = well_set env set (readable_policies env set (recursion_from_All (IsWritablePolicy env) set w.each))

pub written_is_read : (env : Env) (set : List BinaryPolicy) → AreWritable env set → Reads (canon set env.emulation) env [] set
written_is_read env set w = readable-reads env set (record { each = readable_policies env set (recursion_from_All (IsWritablePolicy env) set w.each); new = w.new; few = w.few })

-- ---- policies that were read can be written

pub read_is_writable : (env : Env) (set : List BinaryPolicy) → WasRead env set → HasPlainDollars env → HasSmallIds env → AreWritable env set
read_is_writable env set was plain small =
    let k : IsReadable env set = readable_set env small plain was in
    record {
      each = All-from_recursion (IsWritablePolicy env) set (writable_policies env set k.each);
      new = k.new;
      few = k.few;
    }
