-- Completeness: a text that the grammar gives a reading is read so.
use Rattle.std.proofs.Common.{◌≡◌, ◌↔◌, ℕ, ◌+◌, ◌≤◌, Bool, true, false, List, [], ◌∷◌, ◌++◌, length, map, Option, None, Ok, Err, refl, ap, sym, subst, ◌∙◌, arith, append_assoc, append-nil}
use Rattle.st_grammar.proofs.Common.{add_filter, AreNew, AreRows, BinaryPolicy, Blank, Env, fault_in, fault_of, FilterRow, filters_in, FilterValue, first_reading, GrammarState, has_policy, Header, IsFilter, IsHeader, lexed_text, LexFault, Line, MOST_FILTERS, NoRow, or_refused, Place, read_from, read_step, Reading, reading_of, Reads, Refusable, Symbol, symbol_of, symbols_in, Token, with_filter}
use Rattle.st_grammar.specs.declared.place.Place.TheVariants as place
use Rattle.st_grammar.proofs.Texts.{result_after}
use Rattle.st_grammar.proofs.Readings.{Placed, symbols, read_over, reading_followed, Read, Leads, Passes, passes-none, passes-append, passes-one, passes-more, At, stands}
use Rattle.st_grammar.proofs.Filters.{HasFilters}
use Rattle.st_grammar.proofs.FilterRows.{row_place, step-blank, passes-filter, passes-header}
use Rattle.st_grammar.proofs.Policies.{add-last, filters-append, filters-with, fresh_policy, new-before, new-without}
use Rattle.st_grammar.proofs.Sound.{reading-is_sound}

-- ---- rows

abbrev pub is_below : List BinaryPolicy → Bool
is_below [] = false
is_below (p ∷ ps) = true

-- a reading at the beginning of a row, with these policies after the earlier ones
abbrev pub AtRows : List BinaryPolicy → List BinaryPolicy → Reading → Type 0
AtRows old ps = At (row_place (is_below ps)) (old ++ ps) (HasFilters (filters_in (old ++ ps)))

pub below-last : (ps : List BinaryPolicy) (p : BinaryPolicy) → is_below (ps ++ p ∷ []) ≡ true
below-last [] p = refl
below-last (q ∷ qs) p = refl

at-below : (b c : Bool) (set next : List BinaryPolicy) (n m : ℕ) → b ≡ c → set ≡ next → n ≡ m → (r : Reading) → At (row_place b) set (HasFilters n) r → At (row_place c) next (HasFilters m) r
at-below b c set next n m e f g r a =
    subst (λ (b : Bool). At (row_place b) next (HasFilters m) r) e
    (subst (λ (ps : List BinaryPolicy). At (row_place b) ps (HasFilters m) r) f
    (subst (λ (x : ℕ). At (row_place b) set (HasFilters x) r) g a))

from-below : (env : Env) (b c : Bool) (set : List BinaryPolicy) (n : ℕ) (ts : List Symbol) (Q : Reading → Type 0) → b ≡ c → Passes env (At (row_place c) set (HasFilters n)) ts Q → Passes env (At (row_place b) set (HasFilters n)) ts Q
from-below env b c set n ts Q e p = subst (λ (x : Bool). Passes env (At (row_place x) set (HasFilters n)) ts Q) (sym e) p

module _ (env : Env) (old : List BinaryPolicy) where
  header-rows : (row : List Symbol) (ps : List BinaryPolicy) (binary : List ℕ) → IsHeader env row binary → has_policy (old ++ ps) binary ≡ false → Passes env (AtRows old ps) (row ++ Line ∷ []) (AtRows old (ps ++ fresh_policy binary ∷ []))
  header-rows row ps binary h new =
      let n : ℕ = filters_in (old ++ ps) in
      let p : BinaryPolicy = fresh_policy binary in
      let same : (old ++ ps) ++ p ∷ [] ≡ old ++ (ps ++ p ∷ []) = append_assoc old ps (p ∷ []) in
      let count : n ≡ filters_in (old ++ (ps ++ p ∷ [])) = sym (omega (arith, filters-append (old ++ ps) (p ∷ []))) ∙ ap filters_in same in
      passes-more (passes-header env (old ++ ps) n (is_below ps) row binary h new)
      (at-below true (is_below (ps ++ p ∷ [])) ((old ++ ps) ++ p ∷ []) (old ++ (ps ++ p ∷ [])) n (filters_in (old ++ (ps ++ p ∷ []))) (sym (below-last ps p)) same count)

  filter-rows : (row : List Symbol) (ps : List BinaryPolicy) (p : BinaryPolicy) (f : FilterValue) → IsFilter env row f → filters_in (old ++ (ps ++ with_filter p f ∷ [])) ≤ MOST_FILTERS →
      Passes env (AtRows old (ps ++ p ∷ [])) (row ++ Line ∷ []) (AtRows old (ps ++ with_filter p f ∷ []))
  filter-rows row ps p f h few =
      let set : List BinaryPolicy = old ++ (ps ++ p ∷ []) in
      let next : List BinaryPolicy = old ++ (ps ++ with_filter p f ∷ []) in
      let n : ℕ = filters_in set in
      let added : add_filter set f ≡ next = ap (λ (xs : List BinaryPolicy). add_filter xs f) (sym (append_assoc old ps (p ∷ []))) ∙ add-last (old ++ ps) p f ∙ append_assoc old ps (with_filter p f ∷ []) in
      let count : n + 1 ≡ filters_in next = ap (λ (xs : List BinaryPolicy). filters_in xs + 1) (sym (append_assoc old ps (p ∷ []))) ∙ sym (filters-with (old ++ ps) p f) ∙ ap filters_in (append_assoc old ps (with_filter p f ∷ [])) in
      from-below env (is_below (ps ++ p ∷ [])) true set n (row ++ Line ∷ []) (AtRows old (ps ++ with_filter p f ∷ [])) (below-last ps p)
      (passes-more (passes-filter env set n row f h (omega (arith, count, few)))
      (at-below true (is_below (ps ++ with_filter p f ∷ [])) (add_filter set f) next (n + 1) (filters_in next) (sym (below-last ps (with_filter p f))) added count))

  fewer : (ps : List BinaryPolicy) (p : BinaryPolicy) → filters_in (old ++ (ps ++ p ∷ [])) ≤ MOST_FILTERS → filters_in (old ++ ps) ≤ MOST_FILTERS
  fewer ps p few = omega (arith, few, filters-append (old ++ ps) (p ∷ []), ap filters_in (append_assoc old ps (p ∷ [])))

  fewer-with : (ps : List BinaryPolicy) (p : BinaryPolicy) (f : FilterValue) → filters_in (old ++ (ps ++ with_filter p f ∷ [])) ≤ MOST_FILTERS → filters_in (old ++ (ps ++ p ∷ [])) ≤ MOST_FILTERS
  fewer-with ps p f few = omega (arith, few, filters-with (old ++ ps) p f, ap filters_in (append_assoc old ps (p ∷ [])), ap filters_in (append_assoc old ps (with_filter p f ∷ [])))

  pub passes-rows : {ts : List Symbol} {ps : List BinaryPolicy} → AreRows env ts ps → AreNew old ps → filters_in (old ++ ps) ≤ MOST_FILTERS → Passes env (AtRows old []) ts (AtRows old ps)
  passes-rows NoRow new few = passes-none (λ r a. a)
  passes-rows (Blank ts ps rows) new few = passes-append (passes-rows rows new few) (passes-one (step-blank env (old ++ ps) (filters_in (old ++ ps)) (is_below ps)))
  passes-rows (Header ts row ps binary rows h) new few =
      let n : AreNew old ps × (has_policy (old ++ ps) binary ≡ false) = new-before old ps (fresh_policy binary) new in
      subst (λ (us : List Symbol). Passes env (AtRows old []) us (AtRows old (ps ++ fresh_policy binary ∷ []))) (sym (append_assoc ts row (Line ∷ [])))
      (passes-append (passes-rows rows n.0 (fewer ps (fresh_policy binary) few)) (header-rows row ps binary h n.1))
  passes-rows (FilterRow ts row ps p f rows h) new few =
      subst (λ (us : List Symbol). Passes env (AtRows old []) us (AtRows old (ps ++ with_filter p f ∷ []))) (sym (append_assoc ts row (Line ∷ [])))
      (passes-append (passes-rows rows (new-without old ps p f new) (fewer-with ps p f few)) (filter-rows row ps p f h few))

-- ---- texts

abbrev pub placed : List ℕ → List Token → List Placed
placed text ts = map (λ t. record { at = t.at; symbol = symbol_of text t }) ts

-- the tokens of a text with their places, and its end
abbrev pub ended : List ℕ → List Token → List Placed
ended text ts = placed text ts ++ record { at = length text; symbol = Line } ∷ []

symbols-placed : (text : List ℕ) (ts : List Token) → symbols (ended text ts) ≡ map (symbol_of text) ts ++ Line ∷ []
symbols-placed text [] = refl
symbols-placed text (t ∷ ts) = ap (λ (us : List Symbol). symbol_of text t ∷ us) (symbols-placed text ts)

end-over : (r q : Reading) (x : Read) → reading_followed (λ r. Ok r) x ≡ Ok q → or_refused r x ≡ Ok q
end-over r q (Ok r') e = ap (λ x. or_refused r x) e
end-over r q (Err fault) e = absurd (cc)

from-over : (env : Env) (text : List ℕ) (ts : List Token) (r q : Reading) → read_over env r (ended text ts) ≡ Ok q → read_from env text None r ts ≡ Ok q
from-over env text [] r q e = end-over r q (read_step env r (length text) Line) e
from-over env text (t ∷ ts) r q e = by (λ r. from-over env text ts r q) (read_step env r t.at (symbol_of text t)) e where
  by : ((r : Reading) → read_over env r (ended text ts) ≡ Ok q → read_from env text None r ts ≡ Ok q) → (x : Read) → reading_followed (λ r. read_over env r (ended text ts)) x ≡ Ok q → result_after env text None r ts x ≡ Ok q
  by ih (Ok r') e = ih r' e
  by ih (Err fault) e = absurd (cc)

at-set : (p : Place) (set : List BinaryPolicy) (H : GrammarState → Type 0) (r : Reading) → At p set H r → r.set ≡ set
at-set p set H r (stands w h) = refl

pub first-rows : (old : List BinaryPolicy) → AtRows old [] (first_reading old)
first-rows old =
    subst (λ (xs : List BinaryPolicy). At place.Start xs (HasFilters (filters_in xs)) (first_reading old)) (sym (append-nil old))
    (stands (first_reading old).walk (record { filters_are = refl }))

-- the symbols of a text that is read lead to its policies, at any offsets
pub rows-read : (text : List ℕ) (env : Env) (old set : List BinaryPolicy) (h : Reads text env old set) (zs : List Placed) → symbols zs ≡ symbols_in text ++ Line ∷ [] → Leads env (first_reading old) zs (AtRows old h.policies)
rows-read text env old set h zs e =
    let few : filters_in (old ++ h.policies) ≤ MOST_FILTERS = subst (λ (ps : List BinaryPolicy). filters_in ps ≤ MOST_FILTERS) h.set_is h.few in
    (passes-rows env old h.rows h.new few).pass zs e (first_reading old) (first-rows old)

-- a text that the grammar gives a reading is read so
pub reading-is_complete : (text : List ℕ) (env : Env) (old set : List BinaryPolicy) → Reads text env old set → (r : Reading) × (reading_of text env old ≡ Ok r) × (r.set ≡ set)
reading-is_complete text env old set h =
    let ts : List Token = (lexed_text text).tokens in
    let l : Leads env (first_reading old) (ended text ts) (AtRows old h.policies) = rows-read text env old set h (ended text ts) (symbols-placed text ts) in
    let read : reading_of text env old ≡ Ok l.reading = ap (λ (x : Option LexFault). read_from env text x (first_reading old) ts) h.whole ∙ from-over env text ts (first_reading old) l.reading l.over in
    (l.reading, read, at-set (row_place (is_below h.policies)) (old ++ h.policies) (HasFilters (filters_in (old ++ h.policies))) l.reading l.holds ∙ sym h.set_is)

-- the reading and the grammar agree
pub reads-iff : (text : List ℕ) (env : Env) (old set : List BinaryPolicy) → filters_in old ≤ MOST_FILTERS → Reads text env old set ↔ ((r : Reading) × (reading_of text env old ≡ Ok r) × (r.set ≡ set))
reads-iff text env old set few = (reading-is_complete text env old set, λ h. subst (Reads text env old) h.2 (reading-is_sound text env old h.0 few h.1))

-- a text is read as at most one set
pub reads-once : (text : List ℕ) (env : Env) (old a b : List BinaryPolicy) → Reads text env old a → Reads text env old b → a ≡ b
reads-once text env old a b p q =
    let x : (r : Reading) × (reading_of text env old ≡ Ok r) × (r.set ≡ a) = reading-is_complete text env old a p in
    let y : (r : Reading) × (reading_of text env old ≡ Ok r) × (r.set ≡ b) = reading-is_complete text env old b q in
    let same : x.0 ≡ y.0 = cc (x.1, y.1) in
    sym x.2 ∙ ap (λ (r : Reading). r.set) same ∙ y.2

-- ---- faults

no-error : (x : Refusable) → fault_of x ≡ None → (r : Reading) × (x ≡ Ok r)
no-error (Ok r) e = (r, refl)
no-error (Err refusal) e = absurd (cc)

-- if there is no fault, a set is read
pub faultless-reads : (text : List ℕ) (env : Env) (old : List BinaryPolicy) → filters_in old ≤ MOST_FILTERS → fault_in text env old ≡ None → (set : List BinaryPolicy) × Reads text env old set
faultless-reads text env old few e =
    let x : (r : Reading) × (reading_of text env old ≡ Ok r) = no-error (reading_of text env old) e in
    (x.0.set, reading-is_sound text env old x.0 few x.1)

-- if a set is read, there is no fault
pub reads-faultless : (text : List ℕ) (env : Env) (old set : List BinaryPolicy) → Reads text env old set → fault_in text env old ≡ None
reads-faultless text env old set h =
    let x : (r : Reading) × (reading_of text env old ≡ Ok r) × (r.set ≡ set) = reading-is_complete text env old set h in
    ap fault_of x.1

pub faultless-iff : (text : List ℕ) (env : Env) (old : List BinaryPolicy) → filters_in old ≤ MOST_FILTERS → (fault_in text env old ≡ None) ↔ ((set : List BinaryPolicy) × Reads text env old set)
faultless-iff text env old few = (faultless-reads text env old few, λ h. reads-faultless text env old h.0 h.1)
