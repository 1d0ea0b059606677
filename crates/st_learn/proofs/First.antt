-- The first item of a kind.
use Rattle.std.proofs.Common.{◌≡◌, ◌≤◌, ◌<◌, ◌+◌, ◌∙◌, ◌++◌, ◌&&◌, ◌||◌, ℕ, suc, zero, drop, get_or, Bool, true, false, cond, List, [], ◌∷◌, length, Option, Some, None, option_map, refl, ap, sym, subst, arith}
use Rattle.std.proofs.lemmas.Bool.Decides.{Decides-ltb}
use Rattle.std.proofs.Math.Seq.{drop-cons}
use Rattle.std.proofs.lemmas.List.{append_assoc, drop_all}
use Rattle.std.proofs.lemmas.Option.{same_Some}
use Rattle.std.specs.List.{fold, list_any}
use Rattle.std.specs.Prelude.{nat_lt, slice_get}
use Rattle.st_law.specs.Sessions.{SessionFilter}
use Rattle.st_learn.specs.Deciding.{first_at, lesser}
use Rattle.st_compile.specs.Places.{places_from}
use Rattle.st_compile.proofs.Indices.{one_longer, there}

-- equal kinds have the same first index
pub first_same : {X : Type 0} (p q : X → Bool) (xs : List X) → ((x : X) → p x ≡ q x) → first_at p xs ≡ first_at q xs
first_same p q xs same = λ i. first_at (λ x. same x i) xs

-- ---- of two kinds

same_by : (c d : Bool) → (c ≡ true → d ≡ true) → (d ≡ true → c ≡ true) → c ≡ d
same_by true true there back = refl
same_by true false there back = sym (there refl)
same_by false true there back = back refl
same_by false false there back = refl

less_suc : (a b : ℕ) → nat_lt (suc b) (suc a) ≡ nat_lt b a
less_suc a b =
    same_by (nat_lt (suc b) (suc a)) (nat_lt b a)
    (λ e. let less = (Decides-ltb (suc b) (suc a)).0 e in (Decides-ltb b a).1 (omega (arith, less)))
    (λ e. let less = (Decides-ltb b a).0 e in (Decides-ltb (suc b) (suc a)).1 (omega (arith, less)))

less_none : (n : ℕ) → nat_lt (suc n) 0 ≡ false
less_none n = same_by (nat_lt (suc n) 0) false (λ e. let less = (Decides-ltb (suc n) 0).0 e in absurd (omega (arith, less))) (λ e. absurd (clash e)) where
  clash : false ≡ true → ⊥
  clash e = cc

chosen : (b : Bool) (x y : ℕ) → cond b (Some (suc x)) (Some (suc y)) ≡ option_map suc (cond b (Some x) (Some y))
chosen true x y = refl
chosen false x y = refl

lesser_suc : (o r : Option ℕ) → lesser (option_map suc o) (option_map suc r) ≡ option_map suc (lesser o r)
lesser_suc None r = refl
lesser_suc (Some a) None = refl
lesser_suc (Some a) (Some b) = (λ k. cond (less_suc a b k) (Some (suc b)) (Some (suc a))) ∙ chosen (nat_lt b a) b a

least_first : (r : Option ℕ) → lesser (Some 0) (option_map suc r) ≡ Some 0
least_first None = refl
least_first (Some n) = λ k. cond (less_none n k) (Some (suc n)) (Some 0)

least_second : (o : Option ℕ) → lesser (option_map suc o) (Some 0) ≡ Some 0
least_second None = refl
least_second (Some n) = λ k. cond ((Decides-ltb 0 (suc n)).1 (omega arith) k) (Some 0) (Some (suc n))

lesser_by : (a b : Bool) (o r both : Option ℕ) → lesser o r ≡ both → lesser (cond a (Some 0) (option_map suc o)) (cond b (Some 0) (option_map suc r)) ≡ cond (a || b) (Some 0) (option_map suc both)
lesser_by true true o r both e = refl
lesser_by true false o r both e = least_first r
lesser_by false true o r both e = least_second o
lesser_by false false o r both e = lesser_suc o r ∙ ap (option_map suc) e

-- the lesser of the first indices of two kinds is the first of either kind
pub first_lesser : {X : Type 0} (p q : X → Bool) (xs : List X) → lesser (first_at p xs) (first_at q xs) ≡ first_at (λ x. p x || q x) xs
first_lesser p q [] = refl
first_lesser p q (x ∷ xs) = lesser_by (p x) (q x) (first_at p xs) (first_at q xs) (first_at (λ y. p y || q y) xs) (first_lesser p q xs)

-- ---- of many kinds

apart : (c a d : Bool) → ((c && d) || (a && d)) ≡ ((c || a) && d)
apart true a true = refl
apart true true false = refl
apart true false false = refl
apart false a d = refl

none_more : (c d : Bool) → ((c || false) && d) ≡ (c && d)
none_more true d = refl
none_more false d = refl

joined : (c a r d : Bool) → (((c || a) || r) && d) ≡ ((c || (a || r)) && d)
joined true a r d = refl
joined false a r d = refl

-- the least of the first indices of all these kinds is the first of any of them
pub first_of_any : {X A : Type 0} (asks : A → X → Bool) (d : X → Bool) (xs : List X) (kinds : List A) (c : X → Bool)
    → fold (λ first a. lesser first (first_at (λ x. asks a x && d x) xs)) (first_at (λ x. c x && d x) xs) kinds ≡ first_at (λ x. (c x || list_any (λ a. asks a x) kinds) && d x) xs
first_of_any asks d xs [] c = sym (first_same (λ x. (c x || false) && d x) (λ x. c x && d x) xs (λ x. none_more (c x) (d x)))
first_of_any asks d xs (a ∷ kinds) c =
    ap (λ first. fold (λ first a. lesser first (first_at (λ x. asks a x && d x) xs)) first kinds)
    (first_lesser (λ x. c x && d x) (λ x. asks a x && d x) xs ∙ first_same (λ x. (c x && d x) || (asks a x && d x)) (λ x. (c x || asks a x) && d x) xs (λ x. apart (c x) (asks a x) (d x)))
    ∙ first_of_any asks d xs kinds (λ x. c x || asks a x)
    ∙ first_same (λ x. ((c x || asks a x) || list_any (λ b. asks b x) kinds) && d x) (λ x. (c x || (asks a x || list_any (λ b. asks b x) kinds)) && d x) xs (λ x. joined (c x) (asks a x) (list_any (λ b. asks b x) kinds) (d x))

-- ---- among indices

-- whether an optional filter exists and is of a kind
abbrev pub is_there : (SessionFilter → Bool) → Option SessionFilter → Bool
is_there is None = false
is_there is (Some kept) = is kept

-- the first of these indices whose filter is of a kind
abbrev pub first_in : List SessionFilter → (SessionFilter → Bool) → List ℕ → Option ℕ
first_in session is [] = None
first_in session is (p ∷ ps) = cond (is_there is (slice_get session p)) (Some p) (first_in session is ps)

shifted : (n : ℕ) (o : Option ℕ) → option_map (λ i. suc n + i) o ≡ option_map (λ i. n + i) (option_map suc o)
shifted n None = refl
shifted n (Some i) = let same : suc n + i ≡ n + suc i = omega arith in ap Some same

unshifted : (o : Option ℕ) → option_map (λ i. 0 + i) o ≡ o
unshifted None = refl
unshifted (Some i) = let same : 0 + i ≡ i = omega arith in ap Some same

module _ (of is : SessionFilter → Bool) where
  found_by : (b w : Bool) (kept : SessionFilter) (session : List SessionFilter) (n : ℕ) (ps : List ℕ) (rest : Option ℕ) → slice_get session n ≡ Some kept → is kept ≡ w → first_in session is ps ≡ option_map (λ i. suc n + i) rest
      → first_in session is (cond b (n ∷ ps) ps) ≡ option_map (λ i. n + i) (cond (b && w) (Some 0) (option_map suc rest))
  found_by true true kept session n ps rest at same later =
      let here : n ≡ n + 0 = omega arith in
      ap (λ o. cond (is_there is o) (Some n) (first_in session is ps)) at ∙ (λ k. cond (same k) (Some n) (first_in session is ps)) ∙ ap Some here
  found_by true false kept session n ps rest at same later =
      ap (λ o. cond (is_there is o) (Some n) (first_in session is ps)) at ∙ (λ k. cond (same k) (Some n) (first_in session is ps)) ∙ later ∙ shifted n rest
  found_by false w kept session n ps rest at same later = later ∙ shifted n rest

  found_later : (front back : List SessionFilter) → first_in (front ++ back) is (places_from of (length front) back) ≡ option_map (λ i. length front + i) (first_at (λ kept. of kept && is kept) back)
  found_later front [] = refl
  found_later front (kept ∷ back) =
      found_by (of kept) (is kept) kept (front ++ kept ∷ back) (length front) (places_from of (suc (length front)) back) (first_at (λ each. of each && is each) back) (there front kept back) refl
      (subst (λ n. first_in (front ++ kept ∷ back) is (places_from of n back) ≡ option_map (λ i. n + i) (first_at (λ each. of each && is each) back)) (one_longer front kept)
      (subst (λ session. first_in session is (places_from of (length (front ++ kept ∷ [])) back) ≡ option_map (λ i. length (front ++ kept ∷ []) + i) (first_at (λ each. of each && is each) back)) (append_assoc front (kept ∷ []) back)
      (found_later (front ++ kept ∷ []) back)))

-- the first of the indices of one kind whose filter is of another kind is the first of both kinds
pub first_found : (session : List SessionFilter) (of is : SessionFilter → Bool) (items : List ℕ) → items ≡ places_from of 0 session → first_in session is items ≡ first_at (λ kept. of kept && is kept) session
first_found session of is items are = ap (first_in session is) are ∙ found_later of is [] session ∙ unshifted (first_at (λ kept. of kept && is kept) session)

-- the first of the indices that are left, if its filter is of the kind
pub here_first : (session : List SessionFilter) (is : SessionFilter → Bool) (items : List ℕ) (i : ℕ) → i < length items → is_there is (slice_get session (get_or items i 0)) ≡ true → Some (get_or items i 0) ≡ first_in session is (drop i items)
here_first session is [] i inside e = absurd (omega (arith, inside))
here_first session is (p ∷ ps) zero inside e = λ k. cond (sym e k) (Some p) (first_in session is ps)
here_first session is (p ∷ ps) (suc i) inside e = here_first session is ps i (omega (arith, inside)) e

-- none if none are left
pub none_left : (session : List SessionFilter) (is : SessionFilter → Bool) (items : List ℕ) (i : ℕ) → length items ≤ i → None ≡ first_in session is (drop i items)
none_left session is items i e = ap (first_in session is) (sym (drop_all i items e))

inside_by : (b : Bool) (o : Option ℕ) (n p : ℕ) → ((q : ℕ) → o ≡ Some q → q < n) → cond b (Some 0) (option_map suc o) ≡ Some p → p < suc n
inside_by true o n p later e = let same = same_Some 0 p e in omega (arith, same)
inside_by false None n p later e = absurd (clash e) where
  clash : None ≡ Some p → ⊥
  clash e = cc
inside_by false (Some q) n p later e = let same = same_Some (suc q) p e in let less = later q refl in omega (arith, same, less)

-- the first index is within the list
pub first_inside : {X : Type 0} (is : X → Bool) (xs : List X) (p : ℕ) → first_at is xs ≡ Some p → p < length xs
first_inside is [] p e = absurd (clash e) where
  clash : None ≡ Some p → ⊥
  clash e = cc
first_inside is (x ∷ xs) p e = inside_by (is x) (first_at is xs) (length xs) p (first_inside is xs) e

-- a fold goes on after an item
pub fold_next : {A B : Type 0} (f : B → A → B) (z : B) (xs : List A) (i : ℕ) (d : A) → i < length xs → fold f (f z (get_or xs i d)) (drop (suc i) xs) ≡ fold f z (drop i xs)
fold_next f z xs i d inside = ap (fold f z) (sym (drop-cons xs i d inside))
