-- What the stack of an expression that is being read has spelled.
use Rattle.std.proofs.Common.{◌≡◌, ℕ, suc, ◌+◌, ◌<◌, List, [], ◌∷◌, ◌++◌, codes, refl, ap, sym, subst, ◌∙◌, arith, append_assoc}
use Rattle.st_grammar.proofs.Common.{And, Both, Close, close_either, close_group, Conjunction, Disjunction, Either, Env, FilterName, Formula, Grouped, Negated, Not, OneConjunction, OneOperand, Open, Operand, PendingOperand, Reduced, settle, Spells, Symbol, Word}
use Rattle.st_grammar.specs.Expression.{reduced, Negation, Group}
use Rattle.st_grammar.specs.Expression as stack
use Rattle.st_grammar.proofs.Expressions.{IsBase, Outermost, Inside}

-- neither a `not` nor an `and` is pending for the operand that is read
pub data IsSettled : List PendingOperand → Type 0 where
  NoneWaits : IsSettled []
  GroupWaits : {s : List PendingOperand} → IsSettled (Group ∷ s)
  EitherWaits : {f : Formula} {s : List PendingOperand} → IsSettled (stack.Either f ∷ s)

-- the symbols before an operand, which left this stack
pub data Opens (env : Env) (name : FilterName) : List PendingOperand → List Symbol → Type 0 where
  Front : Opens env name [] []
  Negates : {s : List PendingOperand} {us : List Symbol} → Opens env name s us → Opens env name (Negation ∷ s) (us ++ Word (codes "not") ∷ [])
  Groups : {s : List PendingOperand} {us : List Symbol} → Opens env name s us → Opens env name (Group ∷ s) (us ++ Open ∷ [])
  Joins : {s : List PendingOperand} {us vs : List Symbol} {f : Formula} → IsSettled s → Opens env name s us → Spells env name Conjunction vs f →
      Opens env name (stack.Both f ∷ s) ((us ++ vs) ++ Word (codes "and") ∷ [])
  Chooses : {s : List PendingOperand} {us vs : List Symbol} {f : Formula} → IsBase s → Opens env name s us → Spells env name Disjunction vs f →
      Opens env name (stack.Either f ∷ s) ((us ++ vs) ++ Word (codes "or") ∷ [])

-- the symbols up to the end of an operand: those before a conjunction, and the conjunction
pub record Ends (env : Env) (name : FilterName) (e : Reduced) (us : List Symbol) : Type 0 where
  pub front : List Symbol
  pub back : List Symbol
  pub parts : us ≡ front ++ back
  pub settled : IsSettled e.pending
  pub opens : Opens env name e.pending front
  pub spells : Spells env name Conjunction back e.formula

-- the same with a whole expression at the end
pub record EndsWhole (env : Env) (name : FilterName) (e : Reduced) (us : List Symbol) : Type 0 where
  pub front : List Symbol
  pub back : List Symbol
  pub parts : us ≡ front ++ back
  pub base : IsBase e.pending
  pub opens : Opens env name e.pending front
  pub spells : Spells env name Disjunction back e.formula

settled-same : {s : List PendingOperand} → IsSettled s → (f : Formula) → reduced s f ≡ settle s f
settled-same NoneWaits f = refl
settled-same GroupWaits f = refl
settled-same EitherWaits f = refl

module _ (env : Env) (name : FilterName) where
  -- an operand after the pending operands that take it
  pub settle-ends : {s : List PendingOperand} {us : List Symbol} → Opens env name s us → {vs : List Symbol} {f : Formula} → Spells env name Operand vs f → Ends env name (settle s f) (us ++ vs)
  settle-ends Front {vs} p = record { front = []; back = vs; parts = refl; settled = NoneWaits; opens = Front; spells = OneOperand p }
  settle-ends (Negates {s} {us} o) {vs} {f} p =
      subst (λ (ws : List Symbol). Ends env name (settle s (Not f)) ws) (sym (append_assoc us (Word (codes "not") ∷ []) vs)) (settle-ends o (Negated p))
  settle-ends (Groups {s} {us} o) {vs} p = record { front = us ++ Open ∷ []; back = vs; parts = refl; settled = GroupWaits; opens = Groups o; spells = OneOperand p }
  settle-ends (Joins {s} {us} {vs = ws} {f = g} settled o q) {vs} {f} p =
      subst (λ (e : Reduced). Ends env name e (((us ++ ws) ++ Word (codes "and") ∷ []) ++ vs)) (settled-same settled (And g f))
      (record { front = us; back = ws ++ Word (codes "and") ∷ vs; parts = simp append_assoc; settled = settled; opens = o; spells = Both q p })
  settle-ends (Chooses {s} {us} {vs = ws} {f = g} base o q) {vs} p =
      record { front = (us ++ ws) ++ Word (codes "or") ∷ []; back = vs; parts = refl; settled = EitherWaits; opens = Chooses base o q; spells = OneOperand p }

  close-whole : {s : List PendingOperand} {us : List Symbol} → IsSettled s → Opens env name s us → {vs : List Symbol} {f : Formula} → Spells env name Conjunction vs f → EndsWhole env name (close_either s f) (us ++ vs)
  close-whole NoneWaits Front {vs} p = record { front = []; back = vs; parts = refl; base = Outermost; opens = Front; spells = OneConjunction p }
  close-whole GroupWaits (Groups {s} {us} o) {vs} p = record { front = us ++ Open ∷ []; back = vs; parts = refl; base = Inside; opens = Groups o; spells = OneConjunction p }
  close-whole EitherWaits (Chooses {s} {us} {vs = ws} {f = g} base o q) {vs} p =
      record { front = us; back = ws ++ Word (codes "or") ∷ vs; parts = simp append_assoc; base = base; opens = o; spells = Either q p }

  -- a conjunction after a pending `or` that takes it
  pub close-ends : (e : Reduced) (us : List Symbol) → Ends env name e us → EndsWhole env name (close_either e.pending e.formula) us
  close-ends e us h = subst (λ (ws : List Symbol). EndsWhole env name (close_either e.pending e.formula) ws) (sym h.parts) (close-whole h.settled h.opens h.spells)

-- ---- parentheses

-- how many parentheses are open
abbrev pub groups : List PendingOperand → ℕ
groups [] = 0
groups (Negation ∷ s) = groups s
groups (Group ∷ s) = suc (groups s)
groups (stack.Both f ∷ s) = groups s
groups (stack.Either f ∷ s) = groups s

pub groups-settle : (s : List PendingOperand) (f : Formula) → groups (settle s f).pending ≡ groups s
groups-settle [] f = refl
groups-settle (Negation ∷ s) f = groups-settle s (Not f)
groups-settle (Group ∷ s) f = refl
groups-settle (stack.Both g ∷ s) f = groups-settle s (And g f)
groups-settle (stack.Either g ∷ s) f = refl

pub groups-close : (s : List PendingOperand) (f : Formula) → groups (close_either s f).pending ≡ groups s
groups-close [] f = refl
groups-close (Negation ∷ s) f = refl
groups-close (Group ∷ s) f = refl
groups-close (stack.Both g ∷ s) f = refl
groups-close (stack.Either g ∷ s) f = refl

module _ (env : Env) (name : FilterName) where
  -- an expression in parentheses that is closed is an operand
  group-closed : {s : List PendingOperand} {us : List Symbol} → IsBase s → Opens env name s us → 0 < groups s → {vs : List Symbol} {f : Formula} → Spells env name Disjunction vs f →
      Ends env name (close_group (reduced s f)) ((us ++ vs) ++ Close ∷ []) × (groups (close_group (reduced s f)).pending + 1 ≡ groups s)
  group-closed Outermost o some p = absurd (omega arith)
  group-closed Inside (Groups {s} {us} o) some {vs} {f} p = (
    subst (λ (ws : List Symbol). Ends env name (settle s f) ws) (simp append_assoc) (settle-ends env name o (Grouped p)),
    omega (arith, groups-settle s f),
  )

  pub close-closed : (e : Reduced) (us : List Symbol) → EndsWhole env name e us → 0 < groups e.pending →
      Ends env name (close_group e) (us ++ Close ∷ []) × (groups (close_group e).pending + 1 ≡ groups e.pending)
  close-closed e us h some =
      subst (λ (ws : List Symbol). Ends env name (close_group e) (ws ++ Close ∷ []) × (groups (close_group e).pending + 1 ≡ groups e.pending)) (sym h.parts) (group-closed h.base h.opens some h.spells)

  all-closed : {s : List PendingOperand} {us : List Symbol} → IsBase s → Opens env name s us → groups s ≡ 0 → us ≡ []
  all-closed Outermost Front none = refl
  all-closed Inside o none = absurd (omega arith)

  -- if no parenthesis is open, the whole expression has been read
  pub whole-spelled : (e : Reduced) (us : List Symbol) → EndsWhole env name e us → groups e.pending ≡ 0 → Spells env name Disjunction us e.formula
  whole-spelled e us h none =
      let same : us ≡ h.back = h.parts ∙ ap (λ (ws : List Symbol). ws ++ h.back) (all-closed h.base h.opens none) in
      subst (λ (ws : List Symbol). Spells env name Disjunction ws e.formula) (sym same) h.spells
