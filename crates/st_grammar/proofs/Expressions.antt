-- Symbols that spell an expression are read as that expression.
use Rattle.std.proofs.Common.{◌≡◌, ℕ, ◌+◌, ◌-◌, ◌≤◌, true, false, nat_lt, List, [], ◌∷◌, ◌++◌, None, Some, codes, sum_by, refl, ap, subst, ◌∙◌, arith}
use Rattle.std.proofs.lemmas.Bool.{lt-ltb}
use Rattle.st_grammar.proofs.Common.{Always, And, BinaryPolicy, Both, Close, close_either, close_group, CloseBracket, completed, Conjunction, Disjunction, Either, Env, FilterName, filter_of, FilterValue, First, Formula, GrammarState, Grouped, index_in, Indexed, is_join, is_label, joins_both, joins_either, Level, may_test, most_joins, Negated, OneConjunction, OneOperand, Op, op_named, Open, OpenBracket, Operand, PendingOperand, Permit, Quoted, Reading, Reduced, reduced, settle, Spells, Symbol, Test, True, unquoted, waits, without_either, Word}
use Rattle.st_grammar.specs.declared.place.Place.TheVariants as place
use Rattle.st_grammar.specs.Expression.{Negation, Group}
use Rattle.st_grammar.specs.Expression as stack
use Rattle.st_grammar.proofs.Keywords.{IsOther, label-other, joins-label, joins-op, joins-index, joins-append, joins-first}
use Rattle.st_grammar.proofs.Readings.{Step1, Passes, passes-append, passes-one, passes-step, passes-more, At, goes, steady}

-- ---- the filter whose expression is read

pub record Kept : Type 0 where
  pub name : FilterName
  pub filters : ℕ
  pub set : List BinaryPolicy

-- a filter with this name and expression, of which nothing else is read yet
abbrev pub blank : FilterName → Formula → FilterValue
blank name f = record { name = name; formula = f; action = Permit; grant = None; log = false; predicate = None }

pub record IsOperandOf (k : Kept) (s : List PendingOperand) (parens n : ℕ) (filters : ℕ) (filter : FilterValue) (waiting : List PendingOperand) (parens_now joins_now : ℕ) : Type 0 where
  pub filters_are : filters ≡ k.filters
  pub filter_is : record filter { formula = True } ≡ blank k.name True
  pub pending : waiting ≡ s
  pub parens_are : parens_now ≡ parens
  pub joins_are : joins_now ≡ n

abbrev pub IsOperand : Kept → List PendingOperand → ℕ → ℕ → GrammarState → Type 0
IsOperand k s parens n w = IsOperandOf k s parens n w.filters (filter_of w) w.expression.pending w.parens w.joins

pub record IsJoint (k : Kept) (e : Reduced) (parens n : ℕ) (w : GrammarState) : Type 0 where
  pub filters_are : w.filters ≡ k.filters
  pub filter_is : record (filter_of w) { formula = True } ≡ blank k.name True
  pub expression : w.expression ≡ e
  pub parens_are : w.parens ≡ parens
  pub joins_are : w.joins ≡ n

abbrev pub AtOperand : Kept → List PendingOperand → ℕ → ℕ → Reading → Type 0
AtOperand k s parens n = At place.Operand k.set (IsOperand k s parens n)

abbrev pub AtJoint : Kept → Reduced → ℕ → ℕ → Reading → Type 0
AtJoint k e parens n = At place.Joint k.set (IsJoint k e parens n)

module _ (env : Env) (k : Kept) (s : List PendingOperand) (parens n : ℕ) where
  -- an operand is complete
  completes : (f : Formula) (w : GrammarState) → IsOperand k s parens n w → IsJoint k (settle s f) parens n (completed f w)
  completes f w h = record { filters_are = h.filters_are; filter_is = h.filter_is; expression = ap (λ s. settle s f) h.pending; parens_are = h.parens_are; joins_are = h.joins_are }

  -- `true` is an operand
  step-true : Step1 env (AtOperand k s parens n) (Word (codes "true")) (AtJoint k (settle s True) parens n)
  step-true = goes (λ at w h. record { walk = completed True w; step = refl; holds = completes True w h })

  -- ---- tests

  -- the argument that a test is of
  record IsArgumentOf (Front : Type 0) (label : List ℕ) (index : ℕ) (read : List ℕ) (i : ℕ) : Type 0 where
    front : Front
    label_is : read ≡ label
    index_is : i ≡ index

  abbrev IsArgument : List ℕ → ℕ → GrammarState → Type 0
  IsArgument label index w = IsArgumentOf (IsOperand k s parens n w) label index w.label w.index

  abbrev IsTest : List ℕ → ℕ → Op → GrammarState → Type 0
  IsTest label index o w = IsArgument label index w × (w.op ≡ o)

  allowed : (w : GrammarState) (label : List ℕ) (index : ℕ) → IsOperand k s parens n w → w.label ≡ label → may_test k.name label index ≡ true → may_test w.name w.label index ≡ true
  allowed w label index h l a = ap (λ (f : FilterValue). may_test f.name w.label index) h.filter_is ∙ ap (λ (l : List ℕ). may_test k.name l index) l ∙ a

  step-label : (label : List ℕ) → is_label label ≡ true → Step1 env (AtOperand k s parens n) (Word label) (At place.Label k.set (IsArgument label 0))
  step-label label e = goes (λ at w h. let o : IsOther label = label-other label e in record {
    walk = record w { label = label; label_at = at; index = 0 };
    step = rw (e, o.no_not, o.no_true) refl;
    holds = record { front = h; label_is = refl; index_is = refl };
  })

  -- the operator after a label without an index
  step-first : (label op : List ℕ) (o : Op) → may_test k.name label 0 ≡ true → op_named op ≡ Some o → Step1 env (At place.Label k.set (IsArgument label 0)) (Word op) (At place.Text k.set (IsTest label 0 o))
  step-first label op o a e = goes (λ at w h. record { walk = record w { op = o }; step = let m = allowed w label 0 h.front h.label_is a in rw (m, e) refl; holds = (h, refl) })

  step-digits : (label digits : List ℕ) (index : ℕ) → index_in digits ≡ Some index → may_test k.name label index ≡ true → Step1 env (At place.Index k.set (IsArgument label 0)) (Word digits) (At place.IndexEnd k.set (IsArgument label index))
  step-digits label digits index e a = goes (λ at w h. record {
    walk = record w { index = index };
    step = let m = allowed w label index h.front h.label_is a in rw (e, m) refl;
    holds = record { front = h.front; label_is = h.label_is; index_is = refl };
  })

  step-operator : (label op : List ℕ) (index : ℕ) (o : Op) → op_named op ≡ Some o → Step1 env (At place.Operator k.set (IsArgument label index)) (Word op) (At place.Text k.set (IsTest label index o))
  step-operator label op index o e = goes (λ at w h. record { walk = record w { op = o }; step = rw e refl; holds = (h, refl) })

  step-text : (label source : List ℕ) (index : ℕ) (o : Op) → Step1 env (At place.Text k.set (IsTest label index o)) (Quoted source) (AtJoint k (settle s (Test label index o (unquoted env.dollars source))) parens n)
  step-text label source index o = goes (λ at w h.
      let text : List ℕ = unquoted env.dollars source in
      let same : Test w.label w.index w.op text ≡ Test label index o text = ap (λ l. Test l w.index w.op text) h.0.label_is ∙ ap (λ i. Test label i w.op text) h.0.index_is ∙ ap (λ o. Test label index o text) h.1 in
      record { walk = completed (Test w.label w.index w.op text) w; step = refl; holds = subst (λ f. IsJoint k (settle s f) parens n (completed (Test w.label w.index w.op text) w)) same (completes (Test w.label w.index w.op text) w h.0.front) })

  passes-first : (label op source : List ℕ) (o : Op) → is_label label ≡ true → may_test k.name label 0 ≡ true → op_named op ≡ Some o →
      Passes env (AtOperand k s parens n) (Word label ∷ Word op ∷ Quoted source ∷ []) (AtJoint k (settle s (Test label 0 o (unquoted env.dollars source))) parens n)
  passes-first label op source o l a e = passes-step (step-label label l) (passes-step (step-first label op o a e) (passes-one (step-text label source 0 o)))

  passes-indexed : (label digits op source : List ℕ) (index : ℕ) (o : Op) → is_label label ≡ true → index_in digits ≡ Some index → may_test k.name label index ≡ true → op_named op ≡ Some o →
      Passes env (AtOperand k s parens n) (Word label ∷ OpenBracket ∷ Word digits ∷ CloseBracket ∷ Word op ∷ Quoted source ∷ []) (AtJoint k (settle s (Test label index o (unquoted env.dollars source))) parens n)
  passes-indexed label digits op source index o l i a e =
      passes-step (step-label label l)
      (passes-step (steady {H = IsArgument label 0} (λ w at. refl))
      (passes-step (step-digits label digits index i a)
      (passes-step (steady {H = IsArgument label index} (λ w at. refl))
      (passes-step (step-operator label op index o e)
      (passes-one (step-text label source index o))))))

-- ---- joins

below-most : (joins n m : ℕ) → joins ≡ n → m ≡ n + 1 → m ≤ most_joins → nat_lt joins 64 ≡ true
below-most joins n m e more few = lt-ltb joins 64 (omega arith)

module _ (env : Env) (k : Kept) (s : List PendingOperand) (parens n m : ℕ) (more : m ≡ n + 1) (few : m ≤ most_joins) where
  step-not : Step1 env (AtOperand k s parens n) (Word (codes "not")) (AtOperand k (Negation ∷ s) parens m)
  step-not = goes (λ at w h. record {
    walk = record (waits Negation w) { joins = w.joins + 1 };
    step = let b = below-most w.joins n m h.joins_are more few in rw b refl;
    holds = record { filters_are = h.filters_are; filter_is = h.filter_is; pending = ap (λ (s : List PendingOperand). Negation ∷ s) h.pending; parens_are = h.parens_are; joins_are = omega (arith, h.joins_are) };
  })

  step-open : Step1 env (AtOperand k s parens n) Open (AtOperand k (Group ∷ s) (parens + 1) m)
  step-open = goes (λ at w h. record {
    walk = record (waits Group w) { joins = w.joins + 1; parens = w.parens + 1 };
    step = let b = below-most w.joins n m h.joins_are more few in rw b refl;
    holds = record { filters_are = h.filters_are; filter_is = h.filter_is; pending = ap (λ (s : List PendingOperand). Group ∷ s) h.pending; parens_are = omega (arith, h.parens_are); joins_are = omega (arith, h.joins_are) };
  })

  step-and : (f : Formula) → Step1 env (AtJoint k (reduced s f) parens n) (Word (codes "and")) (AtOperand k (stack.Both f ∷ s) parens m)
  step-and f = goes (λ at w h. record {
    walk = record w { expression = joins_both w.expression; joins = w.joins + 1 };
    step = let b = below-most w.joins n m h.joins_are more few in rw b refl;
    holds = record { filters_are = h.filters_are; filter_is = h.filter_is; pending = ap (λ (e : Reduced). (joins_both e).pending) h.expression; parens_are = h.parens_are; joins_are = omega (arith, h.joins_are) };
  })

  step-or : (e : Reduced) (f : Formula) → without_either e ≡ reduced s f → Step1 env (AtJoint k e parens n) (Word (codes "or")) (AtOperand k (stack.Either f ∷ s) parens m)
  step-or e f c = goes (λ at w h. record {
    walk = record w { expression = joins_either (without_either w.expression); joins = w.joins + 1 };
    step = let b = below-most w.joins n m h.joins_are more few in rw b refl;
    holds = record { filters_are = h.filters_are; filter_is = h.filter_is; pending = ap (λ (e : Reduced). (joins_either (without_either e)).pending) h.expression ∙ ap (λ (e : Reduced). (joins_either e).pending) c; parens_are = h.parens_are; joins_are = omega (arith, h.joins_are) };
  })

step-close : (env : Env) (k : Kept) (s : List PendingOperand) (parens n : ℕ) (e : Reduced) (f : Formula) → without_either e ≡ reduced (Group ∷ s) f → Step1 env (AtJoint k e (parens + 1) n) Close (AtJoint k (settle s f) parens n)
step-close env k s parens n e f c = goes (λ at w h. record {
  walk = record w { parens = w.parens - 1; expression = close_group (without_either w.expression) };
  step = let b : nat_lt 0 w.parens ≡ true = lt-ltb 0 w.parens (omega (arith, h.parens_are)) in rw b refl;
  holds = record { filters_are = h.filters_are; filter_is = h.filter_is; expression = ap (λ (e : Reduced). close_group (without_either e)) h.expression ∙ ap close_group c; parens_are = omega (arith, h.parens_are); joins_are = h.joins_are };
})

-- ---- expressions

-- where a conjunction may begin: no pending operand binds closer
abbrev pub BindsLooser : List PendingOperand → Type 0
BindsLooser s = (f : Formula) → settle s f ≡ reduced s f

-- where a whole expression may begin
pub data IsBase : List PendingOperand → Type 0 where
  Outermost : IsBase []
  Inside : {s : List PendingOperand} → IsBase (Group ∷ s)

base-looser : {s : List PendingOperand} → IsBase s → BindsLooser s
base-looser Outermost f = refl
base-looser Inside f = refl

base-close : {s : List PendingOperand} → IsBase s → (f : Formula) → close_either s f ≡ reduced s f
base-close Outermost f = refl
base-close Inside f = refl

-- a place after an operand where a whole expression may end: closing the pending operands gives the expression
pub data AtEnd (k : Kept) (s : List PendingOperand) (f : Formula) (parens n : ℕ) : Reading → Type 0 where
  ends : {r : Reading} (e : Reduced) → without_either e ≡ reduced s f → AtJoint k e parens n r → AtEnd k s f parens n r

-- a closing parenthesis ends the expression in it
step-end : (env : Env) (k : Kept) (s : List PendingOperand) (parens n : ℕ) (f : Formula) → Step1 env (AtEnd k (Group ∷ s) f (parens + 1) n) Close (AtJoint k (settle s f) parens n)
step-end env k s parens n f at r (ends e c h) = step-close env k s parens n e f c at r h

-- `or` ends the conjunction before it
step-either : (env : Env) (k : Kept) (s : List PendingOperand) (parens n m : ℕ) (f : Formula) → m ≡ n + 1 → m ≤ most_joins → Step1 env (AtEnd k s f parens n) (Word (codes "or")) (AtOperand k (stack.Either f ∷ s) parens m)
step-either env k s parens n m f more few at r (ends e c h) = step-or env k s parens n m more few e f c at r h

-- what the symbols of an expression lead to
abbrev pub IsPassed : Env → Kept → Level → List Symbol → Formula → Type 0
IsPassed env k Operand ts f = (s : List PendingOperand) (parens n m : ℕ) → m ≡ n + sum_by is_join ts → m ≤ most_joins → Passes env (AtOperand k s parens n) ts (AtJoint k (settle s f) parens m)
IsPassed env k Conjunction ts f = (s : List PendingOperand) → BindsLooser s → (parens n m : ℕ) → m ≡ n + sum_by is_join ts → m ≤ most_joins → Passes env (AtOperand k s parens n) ts (AtJoint k (reduced s f) parens m)
IsPassed env k Disjunction ts f = (s : List PendingOperand) → IsBase s → (parens n m : ℕ) → m ≡ n + sum_by is_join ts → m ≤ most_joins → Passes env (AtOperand k s parens n) ts (AtEnd k s f parens m)

at-joins : {k : Kept} {e : Reduced} {parens n m : ℕ} → n ≡ m → (r : Reading) → AtJoint k e parens n r → AtJoint k e parens m r
at-joins {k} {e} {parens} h r a = subst (λ (x : ℕ). AtJoint k e parens x r) h a

at-reduced : {k : Kept} {e e' : Reduced} {parens n : ℕ} → e ≡ e' → (r : Reading) → AtJoint k e parens n r → AtJoint k e' parens n r
at-reduced {k} {parens} {n} h r a = subst (λ (e : Reduced). AtJoint k e parens n r) h a

module _ (env : Env) (k : Kept) where
  joined-test : (label op source : List ℕ) (o : Op) → is_label label ≡ true → op_named op ≡ Some o → sum_by is_join (Word label ∷ Word op ∷ Quoted source ∷ []) ≡ 0
  joined-test label op source o l e = omega (arith, joins-first (Word label) (Word op ∷ Quoted source ∷ []), joins-first (Word op) (Quoted source ∷ []), joins-label label l, joins-op op o e)

  joined-indexed : (label digits op source : List ℕ) (index : ℕ) (o : Op) → is_label label ≡ true → index_in digits ≡ Some index → op_named op ≡ Some o →
      sum_by is_join (Word label ∷ OpenBracket ∷ Word digits ∷ CloseBracket ∷ Word op ∷ Quoted source ∷ []) ≡ 0
  joined-indexed label digits op source index o l i e = omega (
    arith,
    joins-first (Word label) (OpenBracket ∷ Word digits ∷ CloseBracket ∷ Word op ∷ Quoted source ∷ []),
    joins-first OpenBracket (Word digits ∷ CloseBracket ∷ Word op ∷ Quoted source ∷ []),
    joins-first (Word digits) (CloseBracket ∷ Word op ∷ Quoted source ∷ []),
    joins-first CloseBracket (Word op ∷ Quoted source ∷ []),
    joins-first (Word op) (Quoted source ∷ []),
    joins-label label l,
    joins-index digits index i,
    joins-op op o e,
  )

  pub passes-expression : {l : Level} {ts : List Symbol} {f : Formula} → Spells env k.name l ts f → IsPassed env k l ts f
  passes-expression Always = λ s parens n m e h. passes-more (passes-one (step-true env k s parens n)) (at-joins (omega (arith, e)))
  passes-expression (First {label} {op} {source} {o} l a e) = λ s parens n m sum h.
      passes-more (passes-first env k s parens n label op source o l a e) (at-joins (omega (arith, sum, joined-test label op source o l e)))
  passes-expression (Indexed {label} {digits} {op} {source} {index} {o} l i a e) = λ s parens n m sum h.
      passes-more (passes-indexed env k s parens n label digits op source index o l i a e) (at-joins (omega (arith, sum, joined-indexed label digits op source index o l i e)))
  passes-expression (Negated {ts} {f} p) = λ s parens n m sum h.
      let all : sum_by is_join (Word (codes "not") ∷ ts) ≡ 1 + sum_by is_join ts = joins-first (Word (codes "not")) ts in
      let fits : n + 1 ≤ most_joins = omega (arith, sum, all) in
      passes-step (step-not env k s parens n (n + 1) refl fits) (passes-expression p (Negation ∷ s) parens (n + 1) m (omega (arith, sum, all)) h)
  passes-expression (Grouped {ts} {f} p) = λ s parens n m sum h.
      let all : sum_by is_join (Open ∷ ts ++ Close ∷ []) ≡ 1 + sum_by is_join ts = omega (arith, joins-first Open (ts ++ Close ∷ []), joins-append ts (Close ∷ [])) in
      let fits : n + 1 ≤ most_joins = omega (arith, sum, all) in
      passes-step (step-open env k s parens n (n + 1) refl fits)
      (passes-append (passes-expression p (Group ∷ s) Inside (parens + 1) (n + 1) m (omega (arith, sum, all)) h) (passes-one (step-end env k s parens m f)))
  passes-expression (OneOperand {ts} {f} p) = λ s b parens n m sum h. passes-more (passes-expression p s parens n m sum h) (at-reduced (b f))
  passes-expression (Both {ts} {us} {f} {g} p q) = λ s b parens n m sum h.
      let all : sum_by is_join (ts ++ Word (codes "and") ∷ us) ≡ sum_by is_join ts + (1 + sum_by is_join us) = omega (arith, joins-append ts (Word (codes "and") ∷ us), joins-first (Word (codes "and")) us) in
      let i : ℕ = n + sum_by is_join ts in
      let fits : i + 1 ≤ most_joins = omega (arith, sum, all) in
      passes-append (passes-expression p s b parens n i refl (omega (arith, fits)))
      (passes-step (step-and env k s parens i (i + 1) refl fits f) (passes-more (passes-expression q (stack.Both f ∷ s) parens (i + 1) m (omega (arith, sum, all)) h) (at-reduced (b (And f g)))))
  passes-expression (OneConjunction {ts} {f} p) = λ s b parens n m sum h.
      passes-more (passes-expression p s (base-looser b) parens n m sum h) (λ r a. ends (reduced s f) (base-close b f) a)
  passes-expression (Either {ts} {us} {f} {g} p q) = λ s b parens n m sum h.
      let all : sum_by is_join (ts ++ Word (codes "or") ∷ us) ≡ sum_by is_join ts + (1 + sum_by is_join us) = omega (arith, joins-append ts (Word (codes "or") ∷ us), joins-first (Word (codes "or")) us) in
      let i : ℕ = n + sum_by is_join ts in
      let fits : i + 1 ≤ most_joins = omega (arith, sum, all) in
      passes-append (passes-expression p s b parens n i refl (omega (arith, fits)))
      (passes-step (step-either env k s parens i (i + 1) f refl fits)
      (passes-more (passes-expression q (stack.Either f ∷ s) (λ g. refl) parens (i + 1) m (omega (arith, sum, all)) h) (λ r a. ends (reduced (stack.Either f ∷ s) g) refl a)))
