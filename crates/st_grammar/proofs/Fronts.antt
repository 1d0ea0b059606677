-- What has been spelled at each place of the grammar.
use Rattle.std.proofs.Common.{◌≡◌, ℕ, ◌+◌, ◌≤◌, Bool, true, false, not, List, [], ◌∷◌, ◌++◌, Option, None, Some, Ok, Err, codes, sum_by, refl, ap, sym, ◌∙◌, append_assoc, append-nil}
use Rattle.std.specs.Str.{bytes_eq}
use Rattle.st_emulation.specs.Words.{word_of}
use Rattle.st_grammar.proofs.Common.{Action, AreNew, AreRows, binary_of, BinaryPolicy, Cmp, Colon, Comma, comparison, Deny, Env, EPERM, Errno, error_named, filter_name, filter_of, FilterName, filters_in, fresh, GrammarState, Grant, id_in, index_in, is_join, is_label, IsAction, IsCondition, IsGrant, IsPredicate, IsTail, may_test, MOST_FILTERS, most_joins, Op, op_named, OpenBracket, Operand, PendingOperand, Permit, Place, Predicate, Quoted, Reduced, Spells, Symbol, Test, True, unquoted, Who, who_named, Word}
use Rattle.st_grammar.specs.declared.place.Place.TheVariants as place
use Rattle.st_grammar.proofs.Keywords.{same-word}
use Rattle.st_grammar.proofs.Readings.{Read}
use Rattle.st_grammar.proofs.Expressions.{blank}
use Rattle.st_grammar.proofs.Stacks.{Opens, Ends, groups}

-- a filter of which nothing is read after its name
abbrev pub IsFirst : GrammarState → Type 0
IsFirst w = record w { place = place.Start } ≡ fresh place.Start w.filters w.name

-- a filter of which at most its name, expression and action are read
abbrev pub IsPlain : GrammarState → Type 0
IsPlain w = record (filter_of w) { formula = True; action = Permit } ≡ blank w.name True

-- ---- rows and headers

-- the rows that were read before, their policies, and the symbols of this row so far
pub record RowFront (env : Env) (old : List BinaryPolicy) (rows front spelled : List Symbol) (filters : ℕ) (set : List BinaryPolicy) : Type 0 where
  pub front_is : front ≡ spelled
  pub policies : List BinaryPolicy
  pub are_rows : AreRows env rows policies
  pub set_is : set ≡ old ++ policies
  pub new : AreNew old policies
  pub filters_are : filters ≡ filters_in set
  pub few : filters ≤ MOST_FILTERS

-- a header whose binary has been read, and what follows that
pub record HeaderFront (env : Env) (old : List BinaryPolicy) (rows front more : List Symbol) (filters : ℕ) (set : List BinaryPolicy) : Type 0 where
  pub spelled : Symbol
  pub front_is : front ≡ Word (codes "Policy") ∷ Colon ∷ spelled ∷ more
  pub binary : List ℕ
  pub binary_is : binary_of env spelled ≡ Some binary
  pub policies : List BinaryPolicy
  pub are_rows : AreRows env rows policies
  pub set_is : set ≡ old ++ policies ++ record { binary = binary; filters = [] } ∷ []
  pub new : AreNew old (policies ++ record { binary = binary; filters = [] } ∷ [])
  pub filters_are : filters ≡ filters_in set
  pub few : filters ≤ MOST_FILTERS

-- rows after a header, whose policy takes filters
pub record After (env : Env) (old : List BinaryPolicy) (rows : List Symbol) (set : List BinaryPolicy) : Type 0 where
  pub before : List BinaryPolicy
  pub last : BinaryPolicy
  pub are_rows : AreRows env rows (before ++ last ∷ [])
  pub set_is : set ≡ old ++ before ++ last ∷ []
  pub new : AreNew old (before ++ last ∷ [])

pub record BelowHeader (env : Env) (old : List BinaryPolicy) (rows front : List Symbol) (filters : ℕ) (set : List BinaryPolicy) : Type 0 where
  pub front_is : front ≡ []
  pub following : After env old rows set
  pub filters_are : filters ≡ filters_in set
  pub few : filters ≤ MOST_FILTERS

pub record NameFront (env : Env) (old : List BinaryPolicy) (rows front : List Symbol) (w : GrammarState) (set : List BinaryPolicy) : Type 0 where
  pub following : After env old rows set
  pub filters_are : w.filters ≡ filters_in set + 1
  pub few : w.filters ≤ MOST_FILTERS
  pub spelled : List ℕ
  pub front_is : front ≡ Word spelled ∷ []
  pub name_is : filter_name spelled env.emulation ≡ Some w.name
  pub first : IsFirst w

-- ---- filters

pub record FilterFront (env : Env) (old : List BinaryPolicy) (rows front : List Symbol) (filters : ℕ) (name : FilterName) (set : List BinaryPolicy) (P : List Symbol → Type 0) : Type 0 where
  pub following : After env old rows set
  pub filters_are : filters ≡ filters_in set + 1
  pub few : filters ≤ MOST_FILTERS
  pub spelled : List ℕ
  pub us : List Symbol
  pub front_is : front ≡ Word spelled ∷ Colon ∷ us
  pub name_is : filter_name spelled env.emulation ≡ Some name
  pub rest : P us

-- symbols of which the first are of one kind, and those after them of another
pub record Parts (P Q : List Symbol → Type 0) (us : List Symbol) : Type 0 where
  pub front : List Symbol
  pub back : List Symbol
  pub parts : us ≡ front ++ back
  pub first : P front
  pub rest : Q back

-- no symbol, if nothing is read yet
abbrev pub FirstFront : GrammarState → List Symbol → Type 0
FirstFront w us = (us ≡ []) × IsFirst w

pub record OperandFront (env : Env) (name : FilterName) (s : List PendingOperand) (parens n : ℕ) (us : List Symbol) : Type 0 where
  pub opens : Opens env name s us
  pub parens_are : parens ≡ groups s
  pub joins_are : n ≡ sum_by is_join us
  pub few : n ≤ most_joins

-- symbols of a test that has begun, of which none is a join
pub record TestFront (P : List Symbol → Type 0) (begun : List Symbol) : Type 0 where
  pub none : sum_by is_join begun ≡ 0
  pub rest : P begun

-- with an operator and a text the symbols are a test of this argument
abbrev pub EndsByOp : Env → FilterName → List ℕ → ℕ → List Symbol → Type 0
EndsByOp env name label index begun = (op source : List ℕ) (o : Op) → op_named op ≡ Some o →
    Spells env name Operand (begun ++ Word op ∷ Quoted source ∷ []) (Test label index o (unquoted env.dollars source))

abbrev pub EndsByText : Env → FilterName → List ℕ → ℕ → Op → List Symbol → Type 0
EndsByText env name label index o begun = (source : List ℕ) → Spells env name Operand (begun ++ Quoted source ∷ []) (Test label index o (unquoted env.dollars source))

pub record LabelFront (label : List ℕ) (index : ℕ) (begun : List Symbol) : Type 0 where
  pub begun_is : begun ≡ Word label ∷ []
  pub labels : is_label label ≡ true
  pub no_index : index ≡ 0

pub record IndexFront (label : List ℕ) (begun : List Symbol) : Type 0 where
  pub begun_is : begun ≡ Word label ∷ OpenBracket ∷ []
  pub labels : is_label label ≡ true

pub record IndexedFront (name : FilterName) (label : List ℕ) (index : ℕ) (begun : List Symbol) : Type 0 where
  pub digits : List ℕ
  pub begun_is : begun ≡ Word label ∷ OpenBracket ∷ Word digits ∷ []
  pub labels : is_label label ≡ true
  pub index_is : index_in digits ≡ Some index
  pub allowed : may_test name label index ≡ true

pub record JointFront (env : Env) (name : FilterName) (e : Reduced) (parens n : ℕ) (us : List Symbol) : Type 0 where
  pub ends : Ends env name e us
  pub parens_are : parens ≡ groups e.pending
  pub joins_are : n ≡ sum_by is_join us
  pub few : n ≤ most_joins

-- ---- actions and what follows them

pub record ErrorFront (action : Action) (begun : List Symbol) : Type 0 where
  pub word : List ℕ
  pub errno : Errno
  pub begun_is : begun ≡ Word (codes "deny") ∷ OpenBracket ∷ Word word ∷ []
  pub errno_is : error_named word ≡ Some errno
  pub action_is : action ≡ Deny errno

-- `log` before `as`, unless `log` may still come
abbrev pub logged : Bool → List Symbol
logged true = []
logged false = Word (codes "log") ∷ []

pub record MayAs (log : Bool) (action : Action) (grant : Option Grant) (logs : Bool) (begun : List Symbol) : Type 0 where
  pub permits : action ≡ Permit
  pub begun_is : begun ≡ logged log
  pub no_grant : grant ≡ None
  pub logs_are : logs ≡ not log

pub record TailFront (env : Env) (name : FilterName) (may_grant may_log : Bool) (action : Action) (grant : Option Grant) (logs : Bool) (predicate : Option Predicate) (begun : List Symbol) : Type 0 where
  pub tail_is : IsTail env name action begun grant logs
  pub grants : may_grant ≡ true → MayAs may_log action grant logs begun
  pub logging : may_log ≡ true → IsTail env name action (begun ++ Word (codes "log") ∷ []) grant true
  pub no_predicate : predicate ≡ None

-- with ids these symbols may follow an action
abbrev pub EndsByGrant : Env → GrammarState → Bool → List Symbol → Type 0
EndsByGrant env w log begun = (ts : List Symbol) (g : Grant) → IsGrant env ts g → TailFront env w.name false log w.action (Some g) w.log w.predicate (begun ++ ts)

pub record UserFront (env : Env) (grant : Option Grant) (ids : List Symbol) : Type 0 where
  pub user : List ℕ
  pub id : ℕ
  pub ids_are : ids ≡ Word user ∷ []
  pub id_is : id_in env.users user ≡ Some id
  pub grant_is : grant ≡ Some (record { user = Some id; group = None })

pub record GroupFront (env : Env) (grant : Option Grant) (ids : List Symbol) : Type 0 where
  pub user : Option ℕ
  pub grant_is : grant ≡ Some (record { user = user; group = None })
  pub with_group : (group : List ℕ) (g : ℕ) → id_in env.groups group ≡ Some g → IsGrant env (ids ++ Word group ∷ []) (record { user = user; group = Some g })

-- ---- predicates

pub record WhoFront (who : Who) (begun : List Symbol) : Type 0 where
  pub word : List ℕ
  pub begun_is : begun ≡ Comma ∷ Word (codes "if") ∷ Word word ∷ []
  pub who_is : who_named word ≡ Some who

pub record ComparedFront (who : Who) (cmp : Cmp) (begun : List Symbol) : Type 0 where
  pub word : List ℕ
  pub symbol : Symbol
  pub begun_is : begun ≡ Comma ∷ Word (codes "if") ∷ Word word ∷ symbol ∷ []
  pub who_is : who_named word ≡ Some who
  pub cmp_is : comparison symbol ≡ Some cmp

-- ---- all places

-- a filter's name and colon, and what follows them
abbrev pub Filtered : Env → List BinaryPolicy → List Symbol → List Symbol → GrammarState → List BinaryPolicy → (List Symbol → Type 0) → Type 0
Filtered env old rows front w set P = FilterFront env old rows front w.filters w.name set P

-- the pending operands, and a test that has begun
abbrev pub Tested : Env → GrammarState → (List Symbol → Type 0) → List Symbol → Type 0
Tested env w P = Parts (OperandFront env w.name w.expression.pending w.parens w.joins) (TestFront P)

-- a condition, and what follows it
abbrev pub Conditioned : Env → GrammarState → (List Symbol → Type 0) → List Symbol → Type 0
Conditioned env w P = Parts (λ ts. IsCondition env w.name ts w.expression.formula) P

-- a condition, an action, and what follows it
abbrev pub Acted : Env → GrammarState → (List Symbol → Type 0) → List Symbol → Type 0
Acted env w P = Conditioned env w (Parts (λ ts. IsAction env ts w.action) P)

-- all before a predicate, and the part of the predicate that is read
abbrev pub Tailed : Env → GrammarState → (List Symbol → Type 0) → List Symbol → Type 0
Tailed env w P = Acted env w (Parts (λ ts. IsTail env w.name w.action ts w.grant w.log) P)

-- what the symbols of a row so far have spelled
abbrev pub Facts : Env → List BinaryPolicy → List Symbol → List Symbol → Place → GrammarState → List BinaryPolicy → Type 0
Facts env old rows front place.Start w set = RowFront env old rows front [] w.filters set
Facts env old rows front place.Row w set = BelowHeader env old rows front w.filters set
Facts env old rows front place.PolicyColon w set = RowFront env old rows front (Word (codes "Policy") ∷ []) w.filters set
Facts env old rows front place.Binary w set = RowFront env old rows front (Word (codes "Policy") ∷ Colon ∷ []) w.filters set
Facts env old rows front place.Comma w set = HeaderFront env old rows front [] w.filters set
Facts env old rows front place.Emulation w set = HeaderFront env old rows front (Comma ∷ []) w.filters set
Facts env old rows front place.EmulationColon w set = HeaderFront env old rows front (Comma ∷ Word (codes "Emulation") ∷ []) w.filters set
Facts env old rows front place.System w set = HeaderFront env old rows front (Comma ∷ Word (codes "Emulation") ∷ Colon ∷ []) w.filters set
Facts env old rows front place.HeaderEnd w set = HeaderFront env old rows front (Comma ∷ Word (codes "Emulation") ∷ Colon ∷ Word (word_of env.emulation) ∷ []) w.filters set
Facts env old rows front place.NameColon w set = NameFront env old rows front w set
Facts env old rows front place.Clause w set = Filtered env old rows front w set (FirstFront w)
Facts env old rows front place.Operand w set = IsPlain w × Filtered env old rows front w set (OperandFront env w.name w.expression.pending w.parens w.joins)
Facts env old rows front place.Label w set = IsPlain w × Filtered env old rows front w set (Tested env w (LabelFront w.label w.index))
Facts env old rows front place.Index w set = IsPlain w × Filtered env old rows front w set (Tested env w (IndexFront w.label))
Facts env old rows front place.IndexEnd w set = IsPlain w × Filtered env old rows front w set (Tested env w (IndexedFront w.name w.label w.index))
Facts env old rows front place.Operator w set = IsPlain w × Filtered env old rows front w set (Tested env w (EndsByOp env w.name w.label w.index))
Facts env old rows front place.Text w set = IsPlain w × Filtered env old rows front w set (Tested env w (EndsByText env w.name w.label w.index w.op))
Facts env old rows front place.Joint w set = IsPlain w × Filtered env old rows front w set (JointFront env w.name w.expression w.parens w.joins)
Facts env old rows front place.Action w set = IsPlain w × Filtered env old rows front w set (Conditioned env w (λ begun. begun ≡ []))
Facts env old rows front place.Denial w set = IsPlain w × (w.action ≡ Deny EPERM) × Filtered env old rows front w set (Conditioned env w (λ begun. begun ≡ Word (codes "deny") ∷ []))
Facts env old rows front place.Error w set = IsPlain w × Filtered env old rows front w set (Conditioned env w (λ begun. begun ≡ Word (codes "deny") ∷ OpenBracket ∷ []))
Facts env old rows front place.ErrorEnd w set = IsPlain w × Filtered env old rows front w set (Conditioned env w (ErrorFront w.action))
Facts env old rows front (place.Tail grant log) w set = Filtered env old rows front w set (Acted env w (TailFront env w.name grant log w.action w.grant w.log w.predicate))
Facts env old rows front (place.Grant log) w set = Filtered env old rows front w set (Acted env w (EndsByGrant env w log))
Facts env old rows front (place.User log) w set = Filtered env old rows front w set (Acted env w (Parts (EndsByGrant env w log) (UserFront env w.grant)))
Facts env old rows front (place.Group log) w set = Filtered env old rows front w set (Acted env w (Parts (EndsByGrant env w log) (GroupFront env w.grant)))
Facts env old rows front place.If w set = (w.predicate ≡ None) × Filtered env old rows front w set (Tailed env w (λ begun. begun ≡ Comma ∷ []))
Facts env old rows front place.Who w set = (w.predicate ≡ None) × Filtered env old rows front w set (Tailed env w (λ begun. begun ≡ Comma ∷ Word (codes "if") ∷ []))
Facts env old rows front (place.Comparison who) w set = (w.predicate ≡ None) × Filtered env old rows front w set (Tailed env w (WhoFront who))
Facts env old rows front (place.Id who) w set = (w.predicate ≡ None) × Filtered env old rows front w set (Tailed env w (ComparedFront who w.cmp))
Facts env old rows front place.FilterEnd w set = Filtered env old rows front w set (Tailed env w (λ begun. IsPredicate env begun w.predicate))

-- the facts of a reading, unless it is a fault
abbrev pub HasFacts : Env → List BinaryPolicy → List Symbol → List Symbol → Read → Type 0
HasFacts env old rows front (Ok r) = Facts env old rows front r.walk.place r.walk r.set
HasFacts env old rows front (Err fault) = Unit {0}

-- ---- steps

-- a word is this keyword, or another word
pub by-word : {X : Type 0} (w k : List ℕ) → (w ≡ k → X) → (bytes_eq w k ≡ false → X) → X
by-word {X} w k p q = by (bytes_eq w k) refl where
  by : (b : Bool) → bytes_eq w k ≡ b → X
  by true e = p (same-word w k e)
  by false e = q e

pub by-test : {X : Type 0} (b : Bool) → (b ≡ true → X) → (b ≡ false → X) → X
by-test true f g = f refl
by-test false f g = g refl

pub by-some : {X A : Type 0} (o : Option A) → ((x : A) → o ≡ Some x → X) → (o ≡ None → X) → X
by-some None f n = n refl
by-some (Some x) f n = f x refl

-- one more symbol
pub parts-more : {P Q R : List Symbol → Type 0} {us : List Symbol} (s : Symbol) → Parts P Q us → ((back : List Symbol) → Q back → R (back ++ s ∷ [])) → Parts P R (us ++ s ∷ [])
parts-more s h f = record { front = h.front; back = h.back ++ s ∷ []; parts = ap (λ (ts : List Symbol). ts ++ s ∷ []) h.parts ∙ append_assoc h.front h.back (s ∷ []); first = h.first; rest = f h.back h.rest }

-- the same symbols, with the second part seen as another kind
pub parts-map : {P Q R : List Symbol → Type 0} {us : List Symbol} → Parts P Q us → ((back : List Symbol) → Q back → R back) → Parts P R us
parts-map h f = record { front = h.front; back = h.back; parts = h.parts; first = h.first; rest = f h.back h.rest }

-- all symbols are the first part, and the second is empty
pub parts-whole : {P Q : List Symbol → Type 0} (us : List Symbol) → P us → Q [] → Parts P Q us
parts-whole us p q = record { front = us; back = []; parts = sym (append-nil us); first = p; rest = q }

-- one more symbol of a filter, with the second part seen as another kind
pub filter-more : {env : Env} {old : List BinaryPolicy} {rows front : List Symbol} {filters : ℕ} {name : FilterName} {set : List BinaryPolicy} {P Q : List Symbol → Type 0} (s : Symbol) →
    FilterFront env old rows front filters name set P → ((us : List Symbol) → P us → Q (us ++ s ∷ [])) → FilterFront env old rows (front ++ s ∷ []) filters name set Q
filter-more s h f = record {
  following = h.following;
  filters_are = h.filters_are;
  few = h.few;
  spelled = h.spelled;
  us = h.us ++ s ∷ [];
  front_is = ap (λ (ts : List Symbol). ts ++ s ∷ []) h.front_is;
  name_is = h.name_is;
  rest = f h.us h.rest;
}

pub filter-map : {env : Env} {old : List BinaryPolicy} {rows front : List Symbol} {filters : ℕ} {name : FilterName} {set : List BinaryPolicy} {P Q : List Symbol → Type 0} →
    FilterFront env old rows front filters name set P → ((us : List Symbol) → P us → Q us) → FilterFront env old rows front filters name set Q
filter-map h f = record { following = h.following; filters_are = h.filters_are; few = h.few; spelled = h.spelled; us = h.us; front_is = h.front_is; name_is = h.name_is; rest = f h.us h.rest }
