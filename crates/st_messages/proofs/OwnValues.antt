-- Functions that have no value at two places, and what they have after one place has changed.
use Rattle.std.proofs.Common.{◌≡◌, ◌≢◌, ℕ, cond, ◌==◌, Option, Some, None, ◌⊎◌, inl, inr, refl, ap, sym, ◌∙◌}
use Rattle.std.proofs.lemmas.Bool.{cases_eq, eq-eqb, ne_eqb}
use Rattle.std.proofs.lemmas.Option.{none-some, same_Some}

-- no value is had at two places
abbrev pub AreOwn : (ℕ → Option ℕ) → Type 0
AreOwn f = (a b value : ℕ) → f a ≡ Some value → f b ≡ Some value → a ≡ b

pub own-same : (f g : ℕ → Option ℕ) → ((q : ℕ) → g q ≡ f q) → AreOwn f → AreOwn g
own-same f g same own = λ a b value a_is b_is. own a b value (sym (same a) ∙ a_is) (sym (same b) ∙ b_is)

-- what is had after one place has lost its value was had before, at another place
pub had_without : {X : Type 0} (q other : ℕ) (x : X) (new old : Option X) → new ≡ cond (other == q) None old → new ≡ Some x → (other ≢ q) × (old ≡ Some x)
had_without q other x new old is has = elim (cases_eq other q) [
  | inl e ↦ absurd (none-some x (sym (is ∙ rw (eq-eqb other q e) refl) ∙ has))
  | inr ne ↦ (ne, sym (is ∙ rw (ne_eqb other q ne) refl) ∙ has)
]

pub own-without : (f g : ℕ → Option ℕ) (q : ℕ) → ((other : ℕ) → g other ≡ cond (other == q) None (f other)) → AreOwn f → AreOwn g
own-without f g q changes own = λ a b value a_is b_is. own a b value (had_without q a value _ _ (changes a) a_is).1 (had_without q b value _ _ (changes b) b_is).1

-- what is had after one place has got a value is that value at that place, or was had before
pub had_with : {X : Type 0} (q other : ℕ) (fresh x : X) (new old : Option X) → new ≡ cond (other == q) (Some fresh) old → new ≡ Some x → ((other ≡ q) × (fresh ≡ x)) ⊎ (old ≡ Some x)
had_with q other fresh x new old is has = elim (cases_eq other q) [
  | inl e ↦ inl (e, same_Some fresh x (sym (is ∙ rw (eq-eqb other q e) refl) ∙ has))
  | inr ne ↦ inr (sym (is ∙ rw (ne_eqb other q ne) refl) ∙ has)
]

pub own-with : (f g : ℕ → Option ℕ) (q fresh : ℕ) → ((other : ℕ) → g other ≡ cond (other == q) (Some fresh) (f other)) → ((other : ℕ) → f other ≢ Some fresh) → AreOwn f → AreOwn g
own-with f g q fresh changes none own = λ a b value a_is b_is. elim (had_with q a fresh value _ _ (changes a) a_is) [
  | inl a_new ↦ elim (had_with q b fresh value _ _ (changes b) b_is) [
    | inl b_new ↦ a_new.0 ∙ sym b_new.0
    | inr b_old ↦ absurd (none b (b_old ∙ ap Some (sym a_new.1)))
  ]
  | inr a_old ↦ elim (had_with q b fresh value _ _ (changes b) b_is) [
    | inl b_new ↦ absurd (none a (a_old ∙ ap Some (sym b_new.1)))
    | inr b_old ↦ own a b value a_old b_old
  ]
]
