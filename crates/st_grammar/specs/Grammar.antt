-- The grammar of policies: which symbols spell what.
use Rattle.std.specs.Prelude.{◌≡◌, ℕ, ◌≤◌, Bool, true, false, ◌||◌, nat_eq, if◌then◌else◌, List, [], ◌∷◌, ◌++◌, map, sum_by, codes, Option, Some, None}
use Rattle.std.specs.List.{starts_with}
use Rattle.std.specs.Str.{bytes_eq}
use Rattle.st_base.specs.declared.errno.Errno.{Errno}
use Rattle.st_base.specs.declared.errno.Errno.TheVariants.{EPERM}
use Rattle.st_base.specs.Errno.{error_named}
use Rattle.st_lex.specs.Tokens.{lexed_text}
use Rattle.st_lex.specs.Unquote.{unquoted}
use Rattle.st_emulation.specs.Words.{word_of}
use Rattle.st_grammar.specs.declared.env.Env.{Env}
use Rattle.st_filter.specs.declared.filter.Action.{Action}
use Rattle.st_filter.specs.declared.filter.Action.TheVariants.{Permit, Deny, Ask}
use Rattle.st_filter.specs.declared.filter.Cmp.{Cmp}
use Rattle.st_filter.specs.declared.filter.Cmp.TheVariants as cmp
use Rattle.st_filter.specs.declared.filter.FilterName.{FilterName}
use Rattle.st_filter.specs.declared.filter.Grant.{Grant}
use Rattle.st_filter.specs.declared.filter.Op.{Op}
use Rattle.st_filter.specs.declared.filter.Predicate.{Predicate}
use Rattle.st_filter.specs.declared.filter.Who.{Who}
use Rattle.st_filter.specs.declared.filter.Who.TheVariants.{User, Group}
use Rattle.st_filter.specs.declared.set.BinaryPolicy.{BinaryPolicy}
use Rattle.st_filter.specs.Formula.{Formula, True, Test, Not, And, Or, FilterValue, Level, Operand, Conjunction, Disjunction}
use Rattle.st_filter.specs.Policies.{filters_in, has_policy, names_set_id_call, with_filter}
use Rattle.st_grammar.specs.Symbol.{Symbol, Word, Quoted, Colon, Comma, Open, Close, OpenBracket, CloseBracket, Equal, NotEqual, Less, Greater, Line, symbol_of}
use Rattle.st_grammar.specs.Words.{is_label, filter_name, may_test, op_named, index_in, id_in, names_for}
use Rattle.st_filter.specs.declared.set.TheConstants.{MOST_FILTERS}

-- ---- expressions

-- symbols spell an expression, in a filter of this name
pub data Spells (env : Env) (name : FilterName) : Level → List Symbol → Formula → Type 0 where
  Always : Spells env name Operand (Word (codes "true") ∷ []) True
  -- a label without an index means index 0
  First : {label op source : List ℕ} {o : Op} →
      is_label label ≡ true → may_test name label 0 ≡ true → op_named op ≡ Some o →
      Spells env name Operand (Word label ∷ Word op ∷ Quoted source ∷ []) (Test label 0 o (unquoted env.dollars source))
  Indexed : {label digits op source : List ℕ} {index : ℕ} {o : Op} →
      is_label label ≡ true → index_in digits ≡ Some index → may_test name label index ≡ true → op_named op ≡ Some o →
      Spells env name Operand (Word label ∷ OpenBracket ∷ Word digits ∷ CloseBracket ∷ Word op ∷ Quoted source ∷ [])
      (Test label index o (unquoted env.dollars source))
  Negated : {ts : List Symbol} {f : Formula} → Spells env name Operand ts f → Spells env name Operand (Word (codes "not") ∷ ts) (Not f)
  Grouped : {ts : List Symbol} {f : Formula} → Spells env name Disjunction ts f → Spells env name Operand (Open ∷ ts ++ Close ∷ []) f
  OneOperand : {ts : List Symbol} {f : Formula} → Spells env name Operand ts f → Spells env name Conjunction ts f
  Both : {ts us : List Symbol} {f g : Formula} →
      Spells env name Conjunction ts f → Spells env name Operand us g →
      Spells env name Conjunction (ts ++ Word (codes "and") ∷ us) (And f g)
  OneConjunction : {ts : List Symbol} {f : Formula} → Spells env name Conjunction ts f → Spells env name Disjunction ts f
  Either : {ts us : List Symbol} {f g : Formula} →
      Spells env name Disjunction ts f → Spells env name Conjunction us g →
      Spells env name Disjunction (ts ++ Word (codes "or") ∷ us) (Or f g)

-- the symbols of which one expression may have 64: `not`, `and`, `or` and `(`
abbrev pub is_join : Symbol → ℕ
is_join Open = 1
is_join (Word w) = if bytes_eq w (codes "not") || (bytes_eq w (codes "and") || bytes_eq w (codes "or")) then 1 else 0
is_join _ = 0

-- how many such symbols an expression may have
abbrev pub most_joins : ℕ
most_joins = 64

-- an expression and `then`; without an expression the filter is for every call
pub data IsCondition (env : Env) (name : FilterName) : List Symbol → Formula → Type 0 where
  Short : IsCondition env name [] True
  Then : {ts : List Symbol} {f : Formula} →
      Spells env name Disjunction ts f → sum_by is_join ts ≤ most_joins → IsCondition env name (ts ++ Word (codes "then") ∷ []) f

-- ---- actions and what follows them

-- symbols spell an action
pub data IsAction (env : Env) : List Symbol → Action → Type 0 where
  Permits : IsAction env (Word (codes "permit") ∷ []) Permit
  Denies : IsAction env (Word (codes "deny") ∷ []) (Deny EPERM)
  DeniesWith : {w : List ℕ} {errno : Errno} → error_named w ≡ Some errno →
      IsAction env (Word (codes "deny") ∷ OpenBracket ∷ Word w ∷ CloseBracket ∷ []) (Deny errno)
  Asks : env.learn ≡ false → IsAction env (Word (codes "ask") ∷ []) Ask

-- symbols spell a grant: a user, a group, or both
pub data IsGrant (env : Env) : List Symbol → Grant → Type 0 where
  OfUser : {user : List ℕ} {u : ℕ} → id_in env.users user ≡ Some u →
      IsGrant env (Word user ∷ []) (record { user = Some u; group = None })
  OfBoth : {user group : List ℕ} {u g : ℕ} → id_in env.users user ≡ Some u → id_in env.groups group ≡ Some g →
      IsGrant env (Word user ∷ Colon ∷ Word group ∷ []) (record { user = Some u; group = Some g })
  OfGroup : {group : List ℕ} {g : ℕ} → id_in env.groups group ≡ Some g →
      IsGrant env (Colon ∷ Word group ∷ []) (record { user = None; group = Some g })

-- a permit may grant ids if there are ids to grant them over and the call sets none itself
abbrev pub MayGrant : Env → FilterName → Action → Type 0
MayGrant env name Permit = (env.elevate ≡ true) × (names_set_id_call name ≡ false)
MayGrant env name (Deny errno) = ⊥
MayGrant env name Ask = ⊥

-- `as` with ids and `log`, each at most once and in any order
pub data IsTail (env : Env) (name : FilterName) (action : Action) : List Symbol → Option Grant → Bool → Type 0 where
  Plain : IsTail env name action [] None false
  Logs : IsTail env name action (Word (codes "log") ∷ []) None true
  Grants : {ts : List Symbol} {g : Grant} → MayGrant env name action → IsGrant env ts g →
      IsTail env name action (Word (codes "as") ∷ ts) (Some g) false
  GrantsAndLogs : {ts : List Symbol} {g : Grant} → MayGrant env name action → IsGrant env ts g →
      IsTail env name action (Word (codes "as") ∷ ts ++ Word (codes "log") ∷ []) (Some g) true
  LogsAndGrants : {ts : List Symbol} {g : Grant} → MayGrant env name action → IsGrant env ts g →
      IsTail env name action (Word (codes "log") ∷ Word (codes "as") ∷ ts) (Some g) true

-- whose id a predicate looks at, by the word for it
abbrev pub who_named : List ℕ → Option Who
who_named w = if bytes_eq w (codes "user") then Some User else if bytes_eq w (codes "group") then Some Group else None

-- the comparison of ids that a symbol spells
abbrev pub comparison : Symbol → Option Cmp
comparison Equal = Some cmp.Same
comparison NotEqual = Some cmp.Other
comparison Less = Some cmp.Below
comparison Greater = Some cmp.Above
comparison _ = None

-- symbols after a filter's action spell its predicate; no symbols spell no predicate
pub data IsPredicate (env : Env) : List Symbol → Option Predicate → Type 0 where
  Whoever : IsPredicate env [] None
  If : {w id : List ℕ} {s : Symbol} {who : Who} {c : Cmp} {n : ℕ} →
      who_named w ≡ Some who → comparison s ≡ Some c → id_in (names_for env who) id ≡ Some n →
      IsPredicate env (Comma ∷ Word (codes "if") ∷ Word w ∷ s ∷ Word id ∷ []) (Some (record { who = who; cmp = c; id = n }))

-- ---- rows

-- a filter: its name under the emulation, a condition, an action, and what follows it
pub record IsFilter (env : Env) (row : List Symbol) (f : FilterValue) : Type 0 where
  pub spelled : List ℕ
  pub condition : List Symbol
  pub action : List Symbol
  pub tail : List Symbol
  pub predicate : List Symbol
  pub parts : row ≡ Word spelled ∷ Colon ∷ condition ++ action ++ tail ++ predicate
  pub name_is : filter_name spelled env.emulation ≡ Some f.name
  pub condition_is : IsCondition env f.name condition f.formula
  pub action_is : IsAction env action f.action
  pub tail_is : IsTail env f.name f.action tail f.grant f.log
  pub predicate_is : IsPredicate env predicate f.predicate

-- a name that begins with `/`
abbrev pub if_absolute : List ℕ → Option (List ℕ)
if_absolute name = if starts_with nat_eq name (codes "/") then Some name else None

-- the binary that a symbol spells: a word or a quoted text that begins with `/`
abbrev pub binary_of : Env → Symbol → Option (List ℕ)
binary_of env (Word w) = if_absolute w
binary_of env (Quoted source) = if_absolute (unquoted env.dollars source)
binary_of env _ = None

-- a header: the row that begins the policy of a binary under the emulation
pub record IsHeader (env : Env) (row : List Symbol) (binary : List ℕ) : Type 0 where
  pub spelled : Symbol
  pub parts : row ≡ Word (codes "Policy") ∷ Colon ∷ spelled ∷ Comma ∷ Word (codes "Emulation") ∷ Colon ∷ Word (word_of env.emulation) ∷ []
  pub binary_is : binary_of env spelled ≡ Some binary

-- rows, each ended by a Line: blank rows, headers, and the filters of the last header
pub data AreRows (env : Env) : List Symbol → List BinaryPolicy → Type 0 where
  NoRow : AreRows env [] []
  Blank : (ts : List Symbol) (ps : List BinaryPolicy) → AreRows env ts ps → AreRows env (ts ++ Line ∷ []) ps
  Header : (ts row : List Symbol) (ps : List BinaryPolicy) (binary : List ℕ) →
      AreRows env ts ps → IsHeader env row binary →
      AreRows env (ts ++ row ++ Line ∷ []) (ps ++ record { binary = binary; filters = [] } ∷ [])
  FilterRow : (ts row : List Symbol) (ps : List BinaryPolicy) (p : BinaryPolicy) (f : FilterValue) →
      AreRows env ts (ps ++ p ∷ []) → IsFilter env row f → AreRows env (ts ++ row ++ Line ∷ []) (ps ++ with_filter p f ∷ [])

-- ---- texts

-- the symbols of a text
abbrev pub symbols_in : List ℕ → List Symbol
symbols_in text = map (symbol_of text) (lexed_text text).tokens

-- no binary has a policy twice
abbrev pub AreNew : List BinaryPolicy → List BinaryPolicy → Type 0
AreNew known [] = Unit {0}
AreNew known (p ∷ ps) = (has_policy known p.binary ≡ false) × AreNew (known ++ p ∷ []) ps

-- a text read after earlier policies gives this set: the earlier policies, then its own. The text's end ends its last row
pub record Reads (text : List ℕ) (env : Env) (old set : List BinaryPolicy) : Type 0 where
  pub whole : (lexed_text text).fault ≡ None
  pub policies : List BinaryPolicy
  pub rows : AreRows env (symbols_in text ++ Line ∷ []) policies
  pub set_is : set ≡ old ++ policies
  pub new : AreNew old policies
  pub few : filters_in set ≤ MOST_FILTERS
