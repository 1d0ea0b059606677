-- Symbols that spell a row are read as that row.
use Rattle.std.proofs.Common.{◌≡◌, ℕ, ◌+◌, ◌≤◌, Bool, true, false, ◌==◌, nat_lt, List, [], ◌∷◌, ◌++◌, Option, Some, Ok, codes, sum_by, refl, ap, sym, subst, ◌∙◌, arith, append_assoc}
use Rattle.std.specs.Str.{bytes_eq}
use Rattle.std.specs.List.{list_any}
use Rattle.std.proofs.lemmas.Bool.{eq-eqb, lt-ltb, or_from}
use Rattle.st_emulation.specs.Words.{word_of}
use Rattle.st_grammar.proofs.Common.{add_filter, Always, binaries, binary_of, BinaryPolicy, Both, Close, CloseBracket, Colon, concluded, Either, Env, filter_name, FilterName, FilterValue, First, Formula, fresh, GrammarState, Grouped, has_policy, Indexed, is_action, is_join, is_label, IsCondition, IsFilter, IsHeader, Level, Line, MOST_FILTERS, Negated, new_policy, OneConjunction, OneOperand, Open, OpenBracket, Place, Quoted, Reading, Reduced, Short, Spells, Symbol, Then, True, without_either, Word}
use Rattle.st_grammar.specs.declared.place.Place.TheVariants as place
use Rattle.st_grammar.proofs.Keywords.{IsOther, label-other, not-keyword, policy-no-name, same-bytes}
use Rattle.st_grammar.proofs.Readings.{Step1, Passes, passes-append, passes-one, passes-step, passes-from, passes-alike, Alike, reading_at, At, stands, goes, steady}
use Rattle.st_grammar.proofs.Expressions.{Kept, blank, IsOperand, AtOperand, AtEnd, ends, Outermost, passes-expression}
use Rattle.st_grammar.proofs.Clauses.{clause-operand}
use Rattle.st_grammar.proofs.Filters.{HasFilters, IsFilterSo, AtFilter, AtAdded, action_place, passes-action}
use Rattle.st_grammar.proofs.Policies.{any-binaries, fresh_policy}

-- ---- conditions

-- symbols of which the first begins no action
record Beginning (ts : List Symbol) : Type 0 where
  first : Symbol
  rest : List Symbol
  parts : ts ≡ first ∷ rest
  no_action : is_action first ≡ false

beginning-more : {ts : List Symbol} → Beginning ts → (us : List Symbol) → Beginning (ts ++ us)
beginning-more b us = record { first = b.first; rest = b.rest ++ us; parts = ap (λ (ts : List Symbol). ts ++ us) b.parts; no_action = b.no_action }

label-beginning : (label : List ℕ) (rest : List Symbol) → is_label label ≡ true → Beginning (Word label ∷ rest)
label-beginning label rest e =
    let o : IsOther label = label-other label e in
    record { first = Word label; rest = rest; parts = refl; no_action = or_from (bytes_eq label (codes "permit")) _ o.no_permit (or_from (bytes_eq label (codes "deny")) (bytes_eq label (codes "ask")) o.no_deny o.no_ask) }

spelled-beginning : {env : Env} {name : FilterName} {l : Level} {ts : List Symbol} {f : Formula} → Spells env name l ts f → Beginning ts
spelled-beginning Always = record { first = Word (codes "true"); rest = []; parts = refl; no_action = refl }
spelled-beginning (First {label} {op} {source} l a e) = label-beginning label (Word op ∷ Quoted source ∷ []) l
spelled-beginning (Indexed {label} {digits} {op} {source} l i a e) = label-beginning label (OpenBracket ∷ Word digits ∷ CloseBracket ∷ Word op ∷ Quoted source ∷ []) l
spelled-beginning (Negated {ts} p) = record { first = Word (codes "not"); rest = ts; parts = refl; no_action = refl }
spelled-beginning (Grouped {ts} p) = record { first = Open; rest = ts ++ Close ∷ []; parts = refl; no_action = refl }
spelled-beginning (OneOperand p) = spelled-beginning p
spelled-beginning (Both {us} p q) = beginning-more (spelled-beginning p) (Word (codes "and") ∷ us)
spelled-beginning (OneConjunction p) = spelled-beginning p
spelled-beginning (Either {us} p q) = beginning-more (spelled-beginning p) (Word (codes "or") ∷ us)

-- a filter's name has been read, and no more
pub record IsBegun (k : Kept) (w : GrammarState) : Type 0 where
  pub fresh : w ≡ fresh w.place k.filters k.name

module _ (env : Env) (k : Kept) where
  clause-operands : (w : GrammarState) → IsBegun k w → IsOperand k [] 0 0 w
  clause-operands w h = subst (IsOperand k [] 0 0) (sym h.fresh) (record { filters_are = refl; filter_is = refl; pending = refl; parens_are = refl; joins_are = refl })

  short-action : (r : Reading) → At place.Clause k.set (IsBegun k) r → AtFilter k (action_place false) (blank k.name True) r
  short-action r (stands w h) = stands w (subst (IsFilterSo k.filters (blank k.name True)) (sym h.fresh) (record { filters_are = refl; filter_is = refl }))

  step-then : (f : Formula) (n : ℕ) → Step1 env (AtEnd k [] f 0 n) (Word (codes "then")) (AtFilter k (action_place true) (blank k.name f))
  step-then f n at r (ends e c (stands w h)) =
      let closed : GrammarState = concluded w in
      let b : (w.parens == 0) ≡ true = eq-eqb w.parens 0 h.parens_are in
      let same : closed.expression.formula ≡ f = ap (λ (e : Reduced). (without_either e).formula) h.expression ∙ ap (λ (e : Reduced). e.formula) c in
      record {
        reading = reading_at place.Action closed k.set;
        step = rw b refl;
        holds = stands closed (record { filters_are = h.filters_are; filter_is = ap (λ (v : FilterValue). record v { formula = closed.expression.formula }) h.filter_is ∙ ap (blank k.name) same });
      }

  clause-passes : (Q : Reading → Type 0) (ts : List Symbol) → Beginning ts → Passes env (AtOperand k [] 0 0) ts Q → Passes env (At place.Clause k.set (IsBegun k)) ts Q
  clause-passes Q ts b p = subst (λ (ts : List Symbol). Passes env (At place.Clause k.set (IsBegun k)) ts Q) (sym b.parts)
      (passes-alike alike (subst (λ (ts : List Symbol). Passes env (AtOperand k [] 0 0) ts Q) b.parts p)) where
        alike : (r : Reading) → At place.Clause k.set (IsBegun k) r → Alike env r b.first (AtOperand k [] 0 0)
        alike r (stands w h) = record { other = reading_at place.Operand w k.set; holds = stands w (clause-operands w h); same = λ at. clause-operand env w k.set at b.first b.no_action }

  passes-condition : {ts : List Symbol} {f : Formula} → IsCondition env k.name ts f → (us : List Symbol) (Q : Reading → Type 0) → ((b : Bool) → Passes env (AtFilter k (action_place b) (blank k.name f)) us Q) → Passes env (At place.Clause k.set (IsBegun k)) (ts ++ us) Q
  passes-condition Short us Q p = passes-from short-action (p false)
  passes-condition (Then {ts} {f} s few) us Q p =
      let n : ℕ = 0 + sum_by is_join ts in
      passes-append (passes-append (clause-passes _ ts (spelled-beginning s) (passes-expression env k s [] Outermost 0 0 n refl (omega (arith, few)))) (passes-one (step-then f n))) (p true)

-- ---- filters

to-right : (a b c d e : List Symbol) → (((a ++ b) ++ c) ++ d) ++ e ≡ a ++ (b ++ (c ++ (d ++ e)))
to-right a b c d e = simp append_assoc

module _ (env : Env) (set : List BinaryPolicy) (n : ℕ) where
  step-name : (spelled : List ℕ) (name : FilterName) → filter_name spelled env.emulation ≡ Some name → n + 1 ≤ MOST_FILTERS →
      Step1 env (At place.Row set (HasFilters n)) (Word spelled) (At place.NameColon set (IsBegun (record { name = name; filters = n + 1; set = set })))
  step-name spelled name e few = goes (λ at w h.
      let other : bytes_eq spelled (codes "Policy") ≡ false = not-keyword (λ (word : List ℕ). filter_name word env.emulation) spelled (codes "Policy") name (policy-no-name env.emulation) e in
      let below : nat_lt w.filters 4096 ≡ true = lt-ltb w.filters 4096 (omega (arith, h.filters_are, few)) in
      record {
        walk = fresh place.NameColon (w.filters + 1) name;
        step = rw (other, e, below) refl;
        holds = record { fresh = ap (λ (n : ℕ). fresh place.NameColon (n + 1) name) h.filters_are };
      })

  -- a filter's row adds the filter
  pub passes-filter : (row : List Symbol) (f : FilterValue) → IsFilter env row f → n + 1 ≤ MOST_FILTERS → Passes env (At place.Row set (HasFilters n)) (row ++ Line ∷ []) (At place.Row (add_filter set f) (HasFilters (n + 1)))
  passes-filter row f h few =
      let k : Kept = record { name = f.name; filters = n + 1; set = set } in
      let rest : List Symbol = h.action ++ (h.tail ++ (h.predicate ++ Line ∷ [])) in
      let parts : row ++ Line ∷ [] ≡ Word h.spelled ∷ Colon ∷ (h.condition ++ rest) = ap (λ (ts : List Symbol). ts ++ Line ∷ []) h.parts ∙ ap (λ (ts : List Symbol). Word h.spelled ∷ Colon ∷ ts) (to-right h.condition h.action h.tail h.predicate (Line ∷ [])) in
      subst (λ (ts : List Symbol). Passes env (At place.Row set (HasFilters n)) ts (AtAdded k f)) (sym parts)
      (passes-step (step-name h.spelled f.name h.name_is few)
      (passes-step (goes {q = place.Clause} {K = IsBegun k} (λ at w h. record { walk = record w { place = place.Clause }; step = refl; holds = record { fresh = ap (λ (w : GrammarState). record w { place = place.Clause }) h.fresh } }))
      (passes-condition env k h.condition_is rest (AtAdded k f) (λ b. passes-action env k f.name f.formula b h.action_is h.tail_is h.predicate_is))))

-- ---- headers

-- the place before the first header, and the place after a header
abbrev pub row_place : Bool → Place
row_place true = place.Row
row_place false = place.Start

step-system : (env : Env) (set : List BinaryPolicy) (n : ℕ) → Step1 env (At place.System set (HasFilters n)) (Word (word_of env.emulation)) (At place.HeaderEnd set (HasFilters n))
step-system env set n = steady (λ w at. rw (same-bytes (word_of env.emulation)) refl)

module _ (env : Env) (set : List BinaryPolicy) (n : ℕ) where
  pub step-policy : (b : Bool) → Step1 env (At (row_place b) set (HasFilters n)) (Word (codes "Policy")) (At place.PolicyColon set (HasFilters n))
  step-policy false = steady (λ w at. refl)
  step-policy true = steady (λ w at. refl)

  pub step-blank : (b : Bool) → Step1 env (At (row_place b) set (HasFilters n)) Line (At (row_place b) set (HasFilters n))
  step-blank false = steady (λ w at. refl)
  step-blank true = steady (λ w at. refl)

  step-binary : (s : Symbol) (binary : List ℕ) → binary_of env s ≡ Some binary → has_policy set binary ≡ false → Step1 env (At place.Binary set (HasFilters n)) s (At place.Comma (set ++ fresh_policy binary ∷ []) (HasFilters n))
  step-binary s binary e new = goes (λ at w h.
      let other : list_any (λ b. bytes_eq b binary) (binaries set) ≡ false = any-binaries binary set ∙ new in
      record { walk = w; step = rw (e, other) (ap (λ (o : Option (List ℕ)). Ok (reading_at place.Comma w (set ++ new_policy o))) e); holds = record { filters_are = h.filters_are } })

  -- a header's row begins a policy
  pub passes-header : (b : Bool) (row : List Symbol) (binary : List ℕ) → IsHeader env row binary → has_policy set binary ≡ false → Passes env (At (row_place b) set (HasFilters n)) (row ++ Line ∷ []) (At place.Row (set ++ fresh_policy binary ∷ []) (HasFilters n))
  passes-header b row binary h new =
      let H : GrammarState → Type 0 = HasFilters n in
      subst (λ (ts : List Symbol). Passes env (At (row_place b) set H) (ts ++ Line ∷ []) (At place.Row (set ++ fresh_policy binary ∷ []) H)) (sym h.parts)
      (passes-step (step-policy b)
      (passes-step (steady {q = place.Binary} {H = H} (λ w at. refl))
      (passes-step (step-binary h.spelled binary h.binary_is new)
      (passes-step (steady {q = place.Emulation} {H = H} (λ w at. refl))
      (passes-step (steady {q = place.EmulationColon} {H = H} (λ w at. refl))
      (passes-step (steady {q = place.System} {H = H} (λ w at. refl))
      (passes-step (step-system env (set ++ fresh_policy binary ∷ []) n)
      (passes-one (steady (λ w at. refl))))))))))
