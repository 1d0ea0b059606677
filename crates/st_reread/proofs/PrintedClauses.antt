-- The clauses of a filter, read and printed: its condition, its action and what follows.
use Rattle.std.proofs.Common.{◌≡◌, ℕ, ◌^◌, ◌<◌, ◌≤◌, Bool, true, false, List, [], ◌∷◌, ◌++◌, codes, decimal, sum_by, Option, Some, None, refl, sym, subst, arith, append_assoc, append-nil}
use Rattle.st_grammar.proofs.Common.{Action, Ask, Asks, Cmp, Denies, DeniesWith, Deny, EPERM, Errno, FilterName, Formula, Grant, Grants, GrantsAndLogs, If, is_join, is_word_text, IsAction, IsCondition, IsGrant, IsPredicate, IsTail, Logs, LogsAndGrants, MayGrant, most_joins, names_for, OfBoth, OfGroup, OfUser, Permit, Permits, Piece, Plain, PlainWord, Predicate, Short, Space, CanBeReadBack, Symbol, Then, True, Who, who_named, Whoever, Word}
use Rattle.st_grammar.specs.declared.env.Env.{Env}
use Rattle.st_lex.specs.Pieces.{BeginsWithoutWord}
use Rattle.st_lex.proofs.Pieces.{StandWell-append}
use Rattle.st_lex.proofs.Words.{is_word_text-decimal}
use Rattle.st_filter.specs.declared.filter.Cmp.TheVariants as cmp
use Rattle.st_filter.specs.declared.filter.Who.TheVariants as who
use Rattle.st_printing.specs.Canon.{expression_pieces, condition_pieces, deny_pieces, action_pieces, user_pieces, group_pieces, grant_pieces, log_pieces, word_of_who, cmp_piece, predicate_pieces}
use Rattle.st_reread.specs.Readable.{AreSmallIds, HasSmallIds}
use Rattle.st_reread.proofs.PrintedExpressions.{IsReadableFormula, readable_formula, spells_expression, well_expression}
use Rattle.st_reread.proofs.Joins.{few_joins}
use Rattle.st_reread.proofs.Numbers.{id_in-decimal, id_in-small}
use Rattle.st_reread.proofs.Symbols.{piece_symbols, piece_symbols-append, ArePrintable, ArePrintable-parts}

-- ---- conditions

pub record IsReadableCondition (name : FilterName) (f : Formula) : Type 0 where
  pub formula : IsReadableFormula name f
  pub few : sum_by is_join (piece_symbols (expression_pieces f)) ≤ most_joins

pub readable_condition : (env : Env) (name : FilterName) {ts : List Symbol} {f : Formula} → IsCondition env name ts f → ArePrintable env ts → IsReadableCondition name f
readable_condition env name Short p = record { formula = tt; few = omega arith }
readable_condition env name (Then {ts = ts} {f = f} s few) p =
    record {
      formula = readable_formula env name s (ArePrintable-parts env ts (Word (codes "then") ∷ []) p).0;
      few = omega (arith, few, few_joins env name s);
    }

with_then : (env : Env) (name : FilterName) (f : Formula) → IsReadableCondition name f → IsCondition env name (piece_symbols (expression_pieces f ++ Space ∷ PlainWord (codes "then") ∷ Space ∷ [])) f
with_then env name f r =
    subst (λ (ts : List Symbol). IsCondition env name ts f) (sym (piece_symbols-append (expression_pieces f) (Space ∷ PlainWord (codes "then") ∷ Space ∷ [])))
    (Then (spells_expression env name f r.formula) r.few)

pub is_condition : (env : Env) (name : FilterName) (f : Formula) → IsReadableCondition name f → IsCondition env name (piece_symbols (condition_pieces f)) f
is_condition env name True r = Short
is_condition env name f r = with_then env name f r

before_then : (name : FilterName) (f : Formula) (qs : List Piece) → IsReadableCondition name f → CanBeReadBack qs → CanBeReadBack ((expression_pieces f ++ Space ∷ PlainWord (codes "then") ∷ Space ∷ []) ++ qs)
before_then name f qs r q =
    subst CanBeReadBack (sym (append_assoc (expression_pieces f) (Space ∷ PlainWord (codes "then") ∷ Space ∷ []) qs))
    (StandWell-append (expression_pieces f) (Space ∷ PlainWord (codes "then") ∷ Space ∷ qs) (well_expression name f r.formula) (refl, tt, q) tt)

-- pieces that can be read back can be read back after a condition
pub well_condition : (name : FilterName) (f : Formula) (qs : List Piece) → IsReadableCondition name f → CanBeReadBack qs → CanBeReadBack (condition_pieces f ++ qs)
well_condition name True qs r q = q
well_condition name f qs r q = before_then name f qs r q

-- ---- actions

abbrev pub IsReadableAction : Env → Action → Type 0
IsReadableAction env Permit = Unit {0}
IsReadableAction env (Deny errno) = Unit {0}
IsReadableAction env Ask = env.learn ≡ false

pub readable_action : (env : Env) {ts : List Symbol} {action : Action} → IsAction env ts action → IsReadableAction env action
readable_action env Permits = tt
readable_action env Denies = tt
readable_action env (DeniesWith e) = tt
readable_action env (Asks e) = e

is_denial : (env : Env) (errno : Errno) → IsAction env (piece_symbols (deny_pieces errno)) (Deny errno)
is_denial env EPERM = Denies
is_denial env _ = DeniesWith refl

pub is_action : (env : Env) (action : Action) → IsReadableAction env action → IsAction env (piece_symbols (action_pieces action)) action
is_action env Permit r = Permits
is_action env (Deny errno) r = is_denial env errno
is_action env Ask r = Asks r

well_denial : (errno : Errno) → CanBeReadBack (deny_pieces errno)
well_denial EPERM = (refl, tt, tt)
well_denial _ = (refl, tt, (refl, (refl, tt, (refl, tt))))

pub well_action : (action : Action) → CanBeReadBack (action_pieces action)
well_action Permit = (refl, tt, tt)
well_action (Deny errno) = well_denial errno
well_action Ask = (refl, tt, tt)

-- ---- grants

-- a user, a group or both, each of 32 bits
abbrev pub AreIds : Option ℕ → Option ℕ → Type 0
AreIds None None = ⊥
AreIds (Some u) None = u < 2 ^ 32
AreIds None (Some g) = g < 2 ^ 32
AreIds (Some u) (Some g) = (u < 2 ^ 32) × (g < 2 ^ 32)

ids_of : (env : Env) {ts : List Symbol} {g : Grant} → HasSmallIds env → IsGrant env ts g → AreIds g.user g.group
ids_of env small (OfUser {user = user} {u = u} e) = id_in-small env.users user u small.users e
ids_of env small (OfBoth {user = user} {group = group} {u = u} {g = g} e f) = (id_in-small env.users user u small.users e, id_in-small env.groups group g small.groups f)
ids_of env small (OfGroup {group = group} {g = g} e) = id_in-small env.groups group g small.groups e

is_grant : (env : Env) (user group : Option ℕ) → AreIds user group → IsGrant env (piece_symbols (user_pieces user ++ group_pieces group)) (record { user = user; group = group })
is_grant env None None a = absurd a
is_grant env (Some u) None a = OfUser (id_in-decimal env.users u a)
is_grant env None (Some g) a = OfGroup (id_in-decimal env.groups g a)
is_grant env (Some u) (Some g) a = OfBoth (id_in-decimal env.users u a.0) (id_in-decimal env.groups g a.1)

well_id : (n : ℕ) → n < 2 ^ 32 → is_word_text (decimal n) ≡ true
well_id n h = is_word_text-decimal n (omega (arith, h))

well_ids : (user group : Option ℕ) → AreIds user group → CanBeReadBack (user_pieces user ++ group_pieces group)
well_ids None None a = absurd a
well_ids (Some u) None a = (well_id u a, tt, tt)
well_ids None (Some g) a = (refl, (well_id g a, tt, tt))
well_ids (Some u) (Some g) a = (well_id u a.0, tt, (refl, (well_id g a.1, tt, tt)))

abbrev pub IsReadableGrant : Env → FilterName → Action → Option Grant → Type 0
IsReadableGrant env name action None = Unit {0}
IsReadableGrant env name action (Some g) = MayGrant env name action × AreIds g.user g.group

pub readable_grant : (env : Env) (name : FilterName) (action : Action) {ts : List Symbol} {grant : Option Grant} {log : Bool} → HasSmallIds env → IsTail env name action ts grant log → IsReadableGrant env name action grant
readable_grant env name action small Plain = tt
readable_grant env name action small Logs = tt
readable_grant env name action small (Grants may g) = (may, ids_of env small g)
readable_grant env name action small (GrantsAndLogs may g) = (may, ids_of env small g)
readable_grant env name action small (LogsAndGrants may g) = (may, ids_of env small g)

pub is_tail : (env : Env) (name : FilterName) (action : Action) (grant : Option Grant) (log : Bool) → IsReadableGrant env name action grant → IsTail env name action (piece_symbols (grant_pieces grant ++ log_pieces log)) grant log
is_tail env name action None false r = Plain
is_tail env name action None true r = Logs
is_tail env name action (Some g) false r =
    let ids : List Piece = user_pieces g.user ++ group_pieces g.group in
    subst (λ (ps : List Piece). IsTail env name action (Word (codes "as") ∷ piece_symbols ps) (Some g) false) (sym (append-nil ids))
    (Grants r.0 (is_grant env g.user g.group r.1))
is_tail env name action (Some g) true r =
    let ids : List Piece = user_pieces g.user ++ group_pieces g.group in
    subst (λ (ts : List Symbol). IsTail env name action (Word (codes "as") ∷ ts) (Some g) true) (sym (piece_symbols-append ids (log_pieces true)))
    (GrantsAndLogs r.0 (is_grant env g.user g.group r.1))

-- ---- predicates

abbrev pub IsReadablePredicate : Option Predicate → Type 0
IsReadablePredicate None = Unit {0}
IsReadablePredicate (Some p) = p.id < 2 ^ 32

small_for : (env : Env) (w : Who) → HasSmallIds env → AreSmallIds (names_for env w)
small_for env who.User small = small.users
small_for env who.Group small = small.groups

pub readable_predicate : (env : Env) {ts : List Symbol} {predicate : Option Predicate} → HasSmallIds env → IsPredicate env ts predicate → IsReadablePredicate predicate
readable_predicate env small Whoever = tt
readable_predicate env small (If {id = id} {who = w} {n = n} named compared number) = id_in-small (names_for env w) id n (small_for env w small) number

who_named-word : (w : Who) → who_named (word_of_who w) ≡ Some w
who_named-word who.User = refl
who_named-word who.Group = refl

is_word_text-who : (w : Who) → is_word_text (word_of_who w) ≡ true
is_word_text-who who.User = refl
is_word_text-who who.Group = refl

asks_for : (env : Env) (w : Who) (c : Cmp) (id : ℕ) → id < 2 ^ 32 → IsPredicate env (piece_symbols (predicate_pieces (Some (record { who = w; cmp = c; id = id })))) (Some (record { who = w; cmp = c; id = id }))
asks_for env w cmp.Same id h = If (who_named-word w) refl (id_in-decimal (names_for env w) id h)
asks_for env w cmp.Other id h = If (who_named-word w) refl (id_in-decimal (names_for env w) id h)
asks_for env w cmp.Below id h = If (who_named-word w) refl (id_in-decimal (names_for env w) id h)
asks_for env w cmp.Above id h = If (who_named-word w) refl (id_in-decimal (names_for env w) id h)

pub is_predicate : (env : Env) (predicate : Option Predicate) → IsReadablePredicate predicate → IsPredicate env (piece_symbols (predicate_pieces predicate)) predicate
is_predicate env None r = Whoever
is_predicate env (Some p) r = asks_for env p.who p.cmp p.id r

well_cmp : (c : Cmp) (id : ℕ) → id < 2 ^ 32 → CanBeReadBack (cmp_piece c ∷ Space ∷ PlainWord (decimal id) ∷ [])
well_cmp cmp.Same id h = (refl, (well_id id h, tt, tt))
well_cmp cmp.Other id h = (refl, (well_id id h, tt, tt))
well_cmp cmp.Below id h = (refl, (well_id id h, tt, tt))
well_cmp cmp.Above id h = (refl, (well_id id h, tt, tt))

-- ---- what follows an action can be read back, and begins with no Word

pub well_grant : (env : Env) (name : FilterName) (action : Action) (grant : Option Grant) → IsReadableGrant env name action grant → CanBeReadBack (grant_pieces grant)
well_grant env name action None r = tt
well_grant env name action (Some g) r = (refl, tt, well_ids g.user g.group r.1)

pub apart_grant : (grant : Option Grant) → BeginsWithoutWord (grant_pieces grant)
apart_grant None = tt
apart_grant (Some g) = tt

pub well_log : (log : Bool) → CanBeReadBack (log_pieces log)
well_log false = tt
well_log true = (refl, tt, tt)

pub apart_log : (log : Bool) → BeginsWithoutWord (log_pieces log)
apart_log false = tt
apart_log true = tt

pub well_predicate : (predicate : Option Predicate) → IsReadablePredicate predicate → CanBeReadBack (predicate_pieces predicate)
well_predicate None r = tt
well_predicate (Some p) r = (refl, (refl, tt, (is_word_text-who p.who, tt, well_cmp p.cmp p.id r)))

pub apart_predicate : (predicate : Option Predicate) → BeginsWithoutWord (predicate_pieces predicate)
apart_predicate None = tt
apart_predicate (Some p) = tt
