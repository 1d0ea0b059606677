-- Policies that can be written so that they are read again as the same policies.
use Rattle.std.specs.Prelude.{◌≡◌, ℕ, ◌^◌, ◌<◌, ◌≤◌, true, false, List, [], sum_by, Option, Some, None}
use Rattle.std.specs.List.{All}
use Rattle.st_calls.specs.Call.{rule_named}
use Rattle.st_lex.specs.Pieces.{Piece, PlainWord, QuotedText, Sign, Space, sign_bytes, is_word_text}
use Rattle.st_lex.specs.Quote.{AreBytes}
use Rattle.st_filter.specs.Formula.{Formula, True, Test, Not, And, Or, FilterValue}
use Rattle.st_filter.specs.Policies.{filters_in}
use Rattle.st_filter.specs.declared.filter.Action.{Action}
use Rattle.st_filter.specs.declared.filter.Action.TheVariants.{Permit, Deny, Ask}
use Rattle.st_filter.specs.declared.filter.FilterName.{FilterName}
use Rattle.st_filter.specs.declared.filter.FilterName.TheVariants as name
use Rattle.st_filter.specs.declared.filter.Grant.{Grant}
use Rattle.st_filter.specs.declared.filter.Predicate.{Predicate}
use Rattle.st_filter.specs.declared.set.BinaryPolicy.{BinaryPolicy}
use Rattle.st_filter.specs.declared.set.TheConstants.{MOST_FILTERS}
use Rattle.st_printing.specs.Canon.{expression_pieces}
use Rattle.st_grammar.specs.Grammar.{MayGrant, AreNew, if_absolute, is_join, most_joins}
use Rattle.st_grammar.specs.Symbol.{Word, symbol_by}
use Rattle.st_grammar.specs.Words.{is_label, if_name, may_test}
use Rattle.st_grammar.specs.declared.env.Env.{Env}

-- ---- names

-- a rule's name can always be written; any other name has only letters, digits and `_`, and is no rule's
abbrev pub IsWritableName : FilterName → Type 0
IsWritableName (name.Rule rule) = Unit {0}
IsWritableName (name.Other word) = (if_name word ≡ Some word) × (rule_named word ≡ None)

-- ---- expressions

-- a test of an argument that filters of this name may test; its label is a Word other than those of the grammar, its index has 32 bits, and
-- its text can be quoted
pub record IsWritableTest (name : FilterName) (label : List ℕ) (index : ℕ) (text : List ℕ) : Type 0 where
  pub word : is_word_text label ≡ true
  pub free : is_label label ≡ true
  pub allowed : may_test name label index ≡ true
  pub small : index < 2 ^ 32
  pub bytes : AreBytes text

-- each test of an expression can be written, in filters of this name
abbrev pub HasWritableTests : FilterName → Formula → Type 0
HasWritableTests name True = Unit {0}
HasWritableTests name (Test label index op text) = IsWritableTest name label index text
HasWritableTests name (Not f) = HasWritableTests name f
HasWritableTests name (And f g) = HasWritableTests name f × HasWritableTests name g
HasWritableTests name (Or f g) = HasWritableTests name f × HasWritableTests name g

-- the number of joins that a piece adds to an expression: 1 or 0
abbrev pub joins_of : Piece → ℕ
joins_of (PlainWord word) = is_join (Word word)
joins_of (QuotedText text) = 0
joins_of (Sign kind) = is_join (symbol_by kind (sign_bytes kind))
joins_of Space = 0

-- how many `not`, `and`, `or` and `(` an expression is written with
abbrev pub written_joins : Formula → ℕ
written_joins f = sum_by joins_of (expression_pieces f)

-- each test can be written, and there are no more joins than an expression may have
pub record IsWritableExpression (name : FilterName) (f : Formula) : Type 0 where
  pub tests : HasWritableTests name f
  pub few : written_joins f ≤ most_joins

-- ---- what follows an expression

-- an action can be written, but `ask` only if no filters are learnt
abbrev pub IsWritableAction : Env → Action → Type 0
IsWritableAction env Permit = Unit {0}
IsWritableAction env (Deny errno) = Unit {0}
IsWritableAction env Ask = env.learn ≡ false

-- an id of 32 bits
abbrev pub IsId : ℕ → Type 0
IsId id = id < 2 ^ 32

-- a user, a group, or both
abbrev pub AreGranted : Option ℕ → Option ℕ → Type 0
AreGranted None None = ⊥
AreGranted (Some user) None = IsId user
AreGranted None (Some group) = IsId group
AreGranted (Some user) (Some group) = IsId user × IsId group

-- ids are granted only if the grammar lets a filter of this name and action grant ids
abbrev pub IsWritableGrant : Env → FilterName → Action → Option Grant → Type 0
IsWritableGrant env name action None = Unit {0}
IsWritableGrant env name action (Some grant) = MayGrant env name action × AreGranted grant.user grant.group

-- the id that a predicate compares with has 32 bits
abbrev pub IsWritablePredicate : Option Predicate → Type 0
IsWritablePredicate None = Unit {0}
IsWritablePredicate (Some predicate) = IsId predicate.id

-- ---- filters and policies

-- each part of a filter can be written
pub record IsWritableFilter (env : Env) (f : FilterValue) : Type 0 where
  pub name : IsWritableName f.name
  pub expression : IsWritableExpression f.name f.formula
  pub action : IsWritableAction env f.action
  pub grant : IsWritableGrant env f.name f.action f.grant
  pub predicate : IsWritablePredicate f.predicate

-- a binary begins with `/`, and can be quoted
pub record IsWritableBinary (binary : List ℕ) : Type 0 where
  pub absolute : if_absolute binary ≡ Some binary
  pub bytes : AreBytes binary

-- a policy's binary and filters can be written
pub record IsWritablePolicy (env : Env) (p : BinaryPolicy) : Type 0 where
  pub binary : IsWritableBinary p.binary
  pub filters : All (IsWritableFilter env) p.filters

-- policies can be written, no two are for one binary, and there are not too many filters
pub record AreWritable (env : Env) (policies : List BinaryPolicy) : Type 0 where
  pub each : All (IsWritablePolicy env) policies
  pub new : AreNew [] policies
  pub few : filters_in policies ≤ MOST_FILTERS
