-- Binaries: those whose policies a run has changed, each once.
use Rattle.std.proofs.Common.{◌≡◌, ◌≤◌, ◌<◌, ◌+◌, ◌∙◌, ◌++◌, ◌||◌, ℕ, suc, zero, Bool, true, false, cond, List, [], ◌∷◌, length, map, take, Some, slice_get, refl, ap, sym, inl, inr, get_or, arith}
use Rattle.std.proofs.Math.Seq.{get_or-append_seam, take-length}
use Rattle.std.proofs.lemmas.Bool.{cases_lt}
use Rattle.std.proofs.lemmas.Cmp.{nat_list_eq_equiv}
use Rattle.std.proofs.lemmas.List.{get_or_append_left, length-append, take-append-le}
use Rattle.std.proofs.lemmas.List.Folds.{list_any-append}
use Rattle.std.proofs.lemmas.Option.{get_or_from_slice_get, same_Some, slice_get-get_or, slice_get_within}
use Rattle.std.proofs.lemmas.Slice.Eq.{bytes_eq-Decides}
use Rattle.std.specs.List.{fold, list_any}
use Rattle.std.specs.Str.{bytes_eq}
use Rattle.st_filter.specs.Policies.{has_policy, with_binary}
use Rattle.st_filter.specs.declared.set.BinaryPolicy.{BinaryPolicy}
use Rattle.st_learn.specs.Sessions.{AreApart}

-- one more of some binaries
pub taken : (bs : List (List ℕ)) (i : ℕ) (b : List ℕ) → slice_get bs i ≡ Some b → take (i + 1) bs ≡ take i bs ++ b ∷ []
taken bs i b at = ap (λ n. take n bs) (let next : i + 1 ≡ suc i = omega arith in next) ∙ by bs i at where
  by : (bs : List (List ℕ)) (i : ℕ) → slice_get bs i ≡ Some b → take (suc i) bs ≡ take i bs ++ b ∷ []
  by [] i e = cc
  by (c ∷ bs) zero e = ap (λ (x : List ℕ). x ∷ []) (same_Some c b e)
  by (c ∷ bs) (suc i) e = ap (λ xs. c ∷ xs) (by bs i e)

or_nil : (x : Bool) → x ≡ (x || false)
or_nil true = refl
or_nil false = refl

or_assoc : (x y z : Bool) → ((x || y) || z) ≡ (x || (y || z))
or_assoc true y z = refl
or_assoc false y z = refl

-- with a binary, binaries have it and those that they had
known_with : (bs : List (List ℕ)) (c b : List ℕ) (t : Bool) → list_any (bytes_eq c) bs ≡ t → list_any (bytes_eq b) (cond t bs (bs ++ c ∷ [])) ≡ (list_any (bytes_eq b) bs || bytes_eq b c)
known_with bs c b true has = by (bytes_eq b c) refl where
  by : (e : Bool) → bytes_eq b c ≡ e → list_any (bytes_eq b) bs ≡ (list_any (bytes_eq b) bs || e)
  by true same = let own : list_any (bytes_eq b) bs ≡ true = ap (λ x. list_any (bytes_eq x) bs) ((bytes_eq-Decides b c).0 same) ∙ has in own ∙ ap (λ x. x || true) (sym own)
  by false same = or_nil (list_any (bytes_eq b) bs)
known_with bs c b false has = list_any-append (bytes_eq b) bs (c ∷ []) ∙ ap (λ x. list_any (bytes_eq b) bs || x) (sym (or_nil (bytes_eq b c)))

pub known_one : (bs : List (List ℕ)) (c b : List ℕ) → list_any (bytes_eq b) (with_binary bs c) ≡ (list_any (bytes_eq b) bs || bytes_eq b c)
known_one bs c b = known_with bs c b (list_any (bytes_eq c) bs) refl

pub known_all : (xs bs : List (List ℕ)) (b : List ℕ) → list_any (bytes_eq b) (fold with_binary bs xs) ≡ (list_any (bytes_eq b) bs || list_any (bytes_eq b) xs)
known_all [] bs b = or_nil (list_any (bytes_eq b) bs)
known_all (x ∷ xs) bs b =
    known_all xs (with_binary bs x) b ∙ ap (λ y. y || list_any (bytes_eq b) xs) (known_one bs x b)
    ∙ or_assoc (list_any (bytes_eq b) bs) (bytes_eq b x) (list_any (bytes_eq b) xs)

-- a binary has a policy iff it is among the binaries of the policies
pub has_same : (ps : List BinaryPolicy) (b : List ℕ) → has_policy ps b ≡ list_any (bytes_eq b) (map (λ p. p.binary) ps)
has_same [] b = refl
has_same (p ∷ ps) b = λ k. nat_list_eq_equiv.symm p.binary b k || has_same ps b k

-- binaries of which each is there once, with one that isn't among them
pub apart_more : (bs : List (List ℕ)) (c : List ℕ) → AreApart bs → AreApart (with_binary bs c)
apart_more bs c apart = by (list_any (bytes_eq c) bs) refl where
  inside : (n : ℕ) (b : List ℕ) → n < length bs → slice_get (bs ++ c ∷ []) n ≡ Some b → slice_get bs n ≡ Some b
  inside n b within at =
      slice_get-get_or bs n b within ∙ ap Some (sym (get_or_append_left bs (c ∷ []) b n within) ∙ get_or_from_slice_get (bs ++ c ∷ []) n b b at)

  last : (n : ℕ) (b : List ℕ) → length bs ≤ n → slice_get (bs ++ c ∷ []) n ≡ Some b → (n ≡ length bs) × (b ≡ c)
  last n b past at =
      let long : length (bs ++ c ∷ []) ≡ length bs + 1 = length-append bs (c ∷ []) in
      let here : n ≡ length bs = let within = slice_get_within (bs ++ c ∷ []) n b at in omega (arith, past, long, within) in
      (here, sym (get_or_from_slice_get (bs ++ c ∷ []) n b c at) ∙ ap (λ m. get_or (bs ++ c ∷ []) m c) here ∙ get_or-append_seam bs c [] c)

  after : list_any (bytes_eq c) bs ≡ false → AreApart (bs ++ c ∷ [])
  after new n b at = elim (cases_lt n (length bs)) [
    | inl within ↦ ap (list_any (bytes_eq b)) (take-append-le n bs (c ∷ []) (omega (arith, within))) ∙ apart n b (inside n b within at)
    | inr past ↦
        let is = last n b past at in
        ap (list_any (bytes_eq b)) (take-append-le n bs (c ∷ []) (let same = is.0 in omega (arith, same)) ∙ ap (λ m. take m bs) is.0 ∙ take-length bs)
        ∙ ap (λ x. list_any (bytes_eq x) bs) is.1 ∙ new
  ]

  by : (t : Bool) → list_any (bytes_eq c) bs ≡ t → AreApart (cond t bs (bs ++ c ∷ []))
  by true known = apart
  by false new = after new
