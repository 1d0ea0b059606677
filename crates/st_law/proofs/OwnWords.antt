-- The word that a thread's own stores leave at a place, and what a load without a lock can give.
use Rattle.std.proofs.Common.{◌≡◌, ◌≢◌, ◌↔◌, ℕ, zero, suc, ◌<◌, ◌==◌, if◌then◌else◌, List, [], ◌∷◌, Option, Some, None, inl, inr, refl, sym, ap, ◌∙◌, subst, arith}
use Rattle.std.proofs.lemmas.Bool.{cases_eq, cases_lt, eq-eqb, ne_eqb}
use Rattle.std.proofs.lemmas.Option.{none-some, same_Some}
use Rattle.std.specs.Prelude.{slice_get, take}
use Rattle.st_trace.specs.declared.start.Start.{Start}
use Rattle.st_law.specs.Loaded.{last_stored, own_word, stores_by_script, IsLoaded, IsLoadedAfter, IsNextStore}
use Rattle.st_law.specs.Meaning.{IsLoadExplained, IsOwnLast}

-- ---- after one more store

last_next : (place : ℕ) (before : Option ℕ) (stores : List (ℕ × ℕ)) (made : ℕ) (store : ℕ × ℕ) → slice_get stores made ≡ Some store
    → last_stored place before (take (suc made) stores) ≡ (if store.0 == place then Some store.1 else last_stored place before (take made stores))
last_next place before [] made store e = absurd (none-some store e)
last_next place before (first ∷ later) zero store e = ap (λ (s : ℕ × ℕ). if s.0 == place then Some s.1 else before) (same_Some first store e)
last_next place before (first ∷ later) (suc made) store e = last_next place (if first.0 == place then Some first.1 else before) later made store e

last_none : (place : ℕ) (before : Option ℕ) (stores : List (ℕ × ℕ)) (made : ℕ) → slice_get stores made ≡ None → last_stored place before (take (suc made) stores) ≡ last_stored place before (take made stores)
last_none place before [] zero e = refl
last_none place before [] (suc made) e = refl
last_none place before (first ∷ later) zero e = absurd (none-some first (sym e))
last_none place before (first ∷ later) (suc made) e = last_none place (if first.0 == place then Some first.1 else before) later made e

module _ (start : Start) (t made place word : ℕ) (next : IsNextStore start t made place word) where
  -- a store leaves its word at its place
  pub own_here : own_word start t (suc made) place ≡ Some word
  own_here = last_next place None (stores_by_script start t) made (place, word) next ∙ rw (eq-eqb place place refl) refl

  -- and what was there at each other
  pub own_elsewhere : (other : ℕ) → place ≢ other → own_word start t (suc made) other ≡ own_word start t made other
  own_elsewhere other apart = last_next other None (stores_by_script start t) made (place, word) next ∙ rw (ne_eqb place other apart) refl

-- ---- what a thread's own word is

module _ (start : Start) (t place : ℕ) where
  -- what this own word means after so many stores
  abbrev Describes : ℕ → Option ℕ → Type 0
  Describes made None = (count own : ℕ) → count < made → IsNextStore start t count place own → ⊥
  Describes made (Some own) = IsOwnLast start t made place own

  one_more : (made : ℕ) → ((own : ℕ) → IsNextStore start t made place own → ⊥) → (o : Option ℕ) → Describes made o → Describes (suc made) o
  one_more made not None none = λ count own below store. elim (cases_eq count made) [
    | inl same ↦ not own (subst (λ k. IsNextStore start t k place own) same store)
    | inr apart ↦ none count own (omega (arith, below, apart)) store
  ]
  one_more made not (Some own) last = record {
    count = last.count;
    within = omega (arith, last.within);
    store = last.store;
    none_after = λ later other above below store. elim (cases_eq later made) [
      | inl same ↦ not other (subst (λ k. IsNextStore start t k place other) same store)
      | inr apart ↦ last.none_after later other above (omega (arith, below, apart)) store
    ];
  }

  by_store : (made : ℕ) → Describes made (own_word start t made place) → (o : Option (ℕ × ℕ)) → slice_get (stores_by_script start t) made ≡ o → Describes (suc made) (own_word start t (suc made) place)
  by_store made before None past =
      subst (Describes (suc made)) (sym (last_none place None (stores_by_script start t) made past))
      (one_more made (λ own store. none-some (place, own) (sym past ∙ store)) (own_word start t made place) before)
  by_store made before (Some store) at = elim (cases_eq store.0 place) [
    | inl same ↦
        let here : IsNextStore start t made place store.1 = at ∙ ap (λ (p : ℕ). Some (p, store.1)) same in
        subst (Describes (suc made)) (sym (own_here start t made place store.1 here))
        (record { count = made; within = omega arith; store = here; none_after = λ later other above below e. absurd (omega (arith, above, below)) })
    | inr apart ↦
        subst (Describes (suc made)) (sym (own_elsewhere start t made store.0 store.1 at place apart))
        (one_more made (λ own e. apart (ap (λ (s : ℕ × ℕ). s.0) (same_Some store (place, own) (sym at ∙ e)))) (own_word start t made place) before)
  ]

  described : (made : ℕ) → Describes made (own_word start t made place)
  described zero = λ count own below. absurd (omega (arith, below))
  described (suc made) = by_store made (described made) (slice_get (stores_by_script start t) made) refl

  one_last : (made own other : ℕ) → IsOwnLast start t made place own → IsOwnLast start t made place other → own ≡ other
  one_last made own other a b = elim (cases_eq a.count b.count) [
    | inl same ↦ ap (λ (s : ℕ × ℕ). s.1) (same_Some (place, own) (place, other) (sym a.store ∙ subst (λ k. IsNextStore start t k place other) (sym same) b.store))
    | inr apart ↦ elim (cases_lt a.count b.count) [
      | inl below ↦ absurd (a.none_after b.count other below b.within b.store)
      | inr above ↦ absurd (b.none_after a.count own (omega (arith, above, apart)) a.within a.store)
    ]
  ]

  explains : (made word : ℕ) (o : Option ℕ) → Describes made o → IsLoadedAfter start t place o word → IsLoadExplained start t made place word
  explains made word None none loaded = record {
    known = loaded;
    stored = λ count own below store. absurd (none count own below store);
    last = λ own last alone. absurd (none last.count own last.within last.store);
  }
  explains made word (Some own) last loaded = record {
    known = inr loaded.0;
    stored = λ count other below store. loaded.0;
    last = λ other also alone. loaded.1 alone ∙ one_last made own other last also;
  }

  explained : (made word : ℕ) (o : Option ℕ) → Describes made o → IsLoadExplained start t made place word → IsLoadedAfter start t place o word
  explained made word None none told = told.known
  explained made word (Some own) last told = (told.stored last.count own last.within last.store, λ alone. told.last own last alone)

  -- a load gives just what its three sentences say
  pub load_explained : (made word : ℕ) → IsLoaded start t made place word ↔ IsLoadExplained start t made place word
  load_explained made word = (
    (λ loaded. explains made word (own_word start t made place) (described made) loaded),
    λ told. explained made word (own_word start t made place) (described made) told,
  )
