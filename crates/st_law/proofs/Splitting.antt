-- How a part of the state is read off the history: by one lemma for an entry that touches the part, and one for an entry that doesn't.
use Rattle.std.proofs.Common.{◌≡◌, ◌⊎◌, ℕ, Bool, true, false, cond, ◌||◌, ◌&&◌, ◌==◌, List, [], ◌∷◌, ◌++◌, fold, refl, ap, sym, ◌∙◌, inl, inr}
use Rattle.std.proofs.lemmas.Bool.{true≢false, eq-eqb, ne_eqb, eqb-true, and_from}
use Rattle.st_trace.specs.declared.entry.Change.{Change}
use Rattle.st_trace.specs.declared.entry.Entry.{Entry}
use Rattle.st_law.specs.Splits.{NoneIn, SomeIn, LastGives, NoneTouches, IsLastGiven, GivesSome, IsLastOf, Contains, IsTrueAfter}
use Rattle.st_law.specs.Threads.{History}

-- ---- tests of numbers

pub when_same : {A : Type 0} (m n : ℕ) (x y : A) → m ≡ n → cond (m == n) x y ≡ x
when_same m n x y e = ap (λ b. cond b x y) (eq-eqb m n e)

pub when_other : {A : Type 0} (m n : ℕ) (x y : A) → (m ≡ n → ⊥) → cond (m == n) x y ≡ y
when_other m n x y differ = ap (λ b. cond b x y) (ne_eqb m n differ)

pub same_part : {A : Type 0} (p q i j : ℕ) (x y : A) → p ≡ q → i ≡ j → cond (p == q && i == j) x y ≡ x
same_part p q i j x y e f = ap (λ b. cond b x y) (and_from (p == q) (i == j) (eq-eqb p q e) (eq-eqb i j f))

pub other_part : {A : Type 0} (p q i j : ℕ) (x y : A) → (p ≡ q → i ≡ j → ⊥) → cond (p == q && i == j) x y ≡ y
other_part p q i j x y differ = by (p == q) (i == j) (λ e f. differ (eqb-true p q e) (eqb-true i j f))
  where
    by : (a b : Bool) → (a ≡ true → b ≡ true → ⊥) → cond (a && b) x y ≡ y
    by true true none = absurd (none refl refl)
    by true false none = refl
    by false b none = refl

-- a test whose two branches have the same part
pub when_either : {A B : Type 0} (part : A → B) (b : Bool) (x y : A) → part x ≡ part y → part (cond b x y) ≡ part y
when_either part true x y e = e
when_either part false x y e = refl

pub same_by : (m n : ℕ) (b : Bool) → ((m == n) ≡ true) ⊎ (b ≡ true) → (m ≡ n) ⊎ (b ≡ true)
same_by m n b (inl e) = inl (eqb-true m n e)
same_by m n b (inr e) = inr e

pub either_true : (a b : Bool) → (a || b) ≡ true → (a ≡ true) ⊎ (b ≡ true)
either_true true b e = inl refl
either_true false b e = inr e

pub or_left_true : (a b : Bool) → a ≡ true → (a || b) ≡ true
or_left_true a b e = ap (λ c. c || b) e

pub or_right_true : (a b : Bool) → b ≡ true → (a || b) ≡ true
or_right_true true b e = refl
or_right_true false b e = e

-- ---- changes

pub none_in : (Is : Change → Type 0) (changes : List Change) → (SomeIn Is changes → ⊥) → NoneIn Is changes
none_in Is [] none = tt
none_in Is (c ∷ changes) none = ((λ x. none (inl x)), none_in Is changes (λ x. none (inr x)))

pub fold_apart : {S : Type 0} (f : S → Change → S) (s : S) (before after : List Change) → fold f s (before ++ after) ≡ fold f (fold f s before) after
fold_apart f s [] after = refl
fold_apart f s (c ∷ before) after = fold_apart f (f s c) before after

-- a part of what changes fold to
module _ {S V : Type 0} (part : S → V) (f : S → Change → S) (Is : Change → Type 0) (step : (s : S) (c : Change) → (Is c → ⊥) → part (f s c) ≡ part s) where
  -- changes that don't touch the part leave it
  pub fold_kept : (s : S) (changes : List Change) → NoneIn Is changes → part (fold f s changes) ≡ part s
  fold_kept s [] none = refl
  fold_kept s (c ∷ changes) none = fold_kept (f s c) changes none.1 ∙ step s c none.0

  -- the last change that touches the part gives it its value
  pub fold_last : (Gives : List Change → Change → V → Type 0) (s : S) → ((before : List Change) (c : Change) (v : V) → Gives before c v → part (f (fold f s before) c) ≡ v)
      → (changes : List Change) (v : V) → LastGives Is Gives changes v → part (fold f s changes) ≡ v
  fold_last Gives s gives changes v x =
      ap (λ all. part (fold f s all)) x.split ∙ ap part (fold_apart f s x.before (x.change ∷ x.after))
      ∙ fold_kept (f (fold f s x.before) x.change) x.after x.last ∙ gives x.before x.change v x.gives

-- a flag that some change sets
module _ (f : Bool → Change → Bool) (Is : Change → Type 0) (up : (b : Bool) (c : Change) → Is c → f b c ≡ true)
    (stays : (b : Bool) (c : Change) → b ≡ true → f b c ≡ true) (only : (b : Bool) (c : Change) → f b c ≡ true → Is c ⊎ (b ≡ true)) where
  pub flag_stays : (b : Bool) (changes : List Change) → b ≡ true → fold f b changes ≡ true
  flag_stays b [] x = x
  flag_stays b (c ∷ changes) x = flag_stays (f b c) changes (stays b c x)

  pub flag_up : (b : Bool) (changes : List Change) → SomeIn Is changes → fold f b changes ≡ true
  flag_up b [] x = absurd x
  flag_up b (c ∷ changes) (inl x) = flag_stays (f b c) changes (up b c x)
  flag_up b (c ∷ changes) (inr x) = flag_up (f b c) changes x

  flag_first : (b : Bool) (c : Change) (changes : List Change) → Is c ⊎ (b ≡ true) → SomeIn Is (c ∷ changes) ⊎ (b ≡ true)
  flag_first b c changes (inl x) = inl (inl x)
  flag_first b c changes (inr x) = inr x

  flag_sorted : (b : Bool) (c : Change) (changes : List Change) → SomeIn Is changes ⊎ (f b c ≡ true) → SomeIn Is (c ∷ changes) ⊎ (b ≡ true)
  flag_sorted b c changes (inl x) = inl (inr x)
  flag_sorted b c changes (inr x) = flag_first b c changes (only b c x)

  pub flag_only : (b : Bool) (changes : List Change) → fold f b changes ≡ true → SomeIn Is changes ⊎ (b ≡ true)
  flag_only b [] x = inr x
  flag_only b (c ∷ changes) x = flag_sorted b c changes (flag_only (f b c) changes x)

-- ---- entries

-- entries that don't touch a part leave it
pub kept_later : {V : Type 0} (value : History → V) (Touches : Entry → History → Type 0) → ((e : Entry) (h : History) → (Touches e h → ⊥) → value (e ∷ h) ≡ value h)
    → (later earlier : History) → NoneTouches Touches later earlier → value (later ++ earlier) ≡ value earlier
kept_later value Touches step [] earlier none = refl
kept_later value Touches step (e ∷ later) earlier none = step e (later ++ earlier) none.0 ∙ kept_later value Touches step later earlier none.1

pub last_given : {V : Type 0} (value : History → V) (first : V) (Touches : Entry → History → Type 0) (Gives : Entry → History → V → Type 0) → value [] ≡ first
    → ((e : Entry) (h : History) → (Touches e h → ⊥) → value (e ∷ h) ≡ value h) → ((e : Entry) (h : History) (v : V) → Gives e h v → value (e ∷ h) ≡ v)
    → IsLastGiven value first Touches Gives
last_given value first Touches Gives start step gives = record {
  at_first = start;
  given = λ later earlier e v x none. kept_later value Touches step later (e ∷ earlier) none ∙ gives e earlier v x;
  kept = kept_later value Touches step;
}

pub last_of : {V : Type 0} (value : History → V) (first : V) (Gives : Entry → History → V → Type 0) → value [] ≡ first
    → ((e : Entry) (h : History) → (GivesSome Gives e h → ⊥) → value (e ∷ h) ≡ value h) → ((e : Entry) (h : History) (v : V) → Gives e h v → value (e ∷ h) ≡ v)
    → IsLastOf value first Gives
last_of value first Gives start step gives = last_given value first (GivesSome Gives) Gives start step gives

module _ (value : History → Bool) (Is : Entry → History → Type 0) (start : value [] ≡ false)
    (up : (e : Entry) (h : History) → Is e h → value (e ∷ h) ≡ true) (stays : (e : Entry) (h : History) → value h ≡ true → value (e ∷ h) ≡ true)
    (only : (e : Entry) (h : History) → value (e ∷ h) ≡ true → Is e h ⊎ (value h ≡ true)) where
  true_since : (later earlier : History) → value earlier ≡ true → value (later ++ earlier) ≡ true
  true_since [] earlier x = x
  true_since (e ∷ later) earlier x = stays e (later ++ earlier) (true_since later earlier x)

  one_later : (e : Entry) (h : History) → Contains Is h → Contains Is (e ∷ h)
  one_later e h x = record { later = e ∷ x.later; entry = x.entry; earlier = x.earlier; split = ap (λ rest. e ∷ rest) x.split; is = x.is }

  contains_by : (e : Entry) (h : History) → (value h ≡ true → Contains Is h) → Is e h ⊎ (value h ≡ true) → Contains Is (e ∷ h)
  contains_by e h deeper (inl x) = record { later = []; entry = e; earlier = h; split = refl; is = x }
  contains_by e h deeper (inr x) = one_later e h (deeper x)

  contains : (h : History) → value h ≡ true → Contains Is h
  contains [] x = absurd (true≢false (sym x ∙ start))
  contains (e ∷ h) x = contains_by e h (contains h) (only e h x)

  pub true_after : IsTrueAfter value Is
  true_after = record { following = λ later earlier e x. true_since later (e ∷ earlier) (up e earlier x); nowhere_else = contains }
