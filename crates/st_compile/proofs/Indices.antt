-- The indices of the items of a kind, in order.
use Rattle.std.proofs.Common.{◌≡◌, ◌≤◌, ◌<◌, ◌+◌, ◌∙◌, ◌++◌, ℕ, suc, zero, Bool, true, false, cond, List, [], ◌∷◌, length, Some, refl, ap, sym, subst, get_or, take, arith}
use Rattle.std.proofs.Math.Seq.{take-suc}
use Rattle.std.proofs.lemmas.List.{append-nil, length-take-le}
use Rattle.std.proofs.lemmas.Option.{same_Some}
use Rattle.std.specs.Prelude.{slice_get}
use Rattle.std.specs.Str.{bytes_eq}
use Rattle.st_compile.specs.Places.{GainsPlace, PolicyPlaces, places_from, policy_places}

pub there : {X : Type 0} (front : List X) (x : X) (back : List X) → slice_get (front ++ x ∷ back) (length front) ≡ Some x
there [] x back = refl
there (y ∷ front) x back = there front x back

pub one_longer : {X : Type 0} (front : List X) (x : X) → length (front ++ x ∷ []) ≡ suc (length front)
one_longer [] x = refl
one_longer (y ∷ front) x = ap suc (one_longer front x)

-- the items so far, with the next
pub taken_next : {X : Type 0} (xs : List X) (i : ℕ) (x : X) → i < length xs → x ≡ get_or xs i x → (i ≡ length (take i xs)) × (take i xs ++ x ∷ [] ≡ take (i + 1) xs)
taken_next xs i x within is =
    let next : suc i ≡ i + 1 = omega arith in
    (sym (length-take-le i xs (omega (arith, within))), ap (λ y. take i xs ++ y ∷ []) is ∙ sym (take-suc xs i x within) ∙ ap (λ n. take n xs) next)

-- ---- bounds

pub inside_by : (b : Bool) (n m : ℕ) (ps : List ℕ) (i d : ℕ) → n < m → i < length (cond b (n ∷ ps) ps) → ((j : ℕ) → j < length ps → get_or ps j d < m) → get_or (cond b (n ∷ ps) ps) i d < m
inside_by true n m ps zero d low lt later = low
inside_by true n m ps (suc i) d low lt later = later i (omega arith)
inside_by false n m ps i d low lt later = later i lt

pub inside_from : {X : Type 0} (is : X → Bool) (n : ℕ) (xs : List X) (i d : ℕ) → i < length (places_from is n xs) → get_or (places_from is n xs) i d < n + length xs
inside_from is n [] i d lt = absurd (omega arith)
inside_from is n (x ∷ xs) i d lt =
    inside_by (is x) n (n + suc (length xs)) (places_from is (suc n) xs) i d (omega arith) lt
    (λ j lt. let later : get_or (places_from is (suc n) xs) j d < suc n + length xs = inside_from is (suc n) xs j d lt in omega (arith, later))

fewer_by : (b : Bool) (n m : ℕ) (ps : List ℕ) → length ps ≤ m → length (cond b (n ∷ ps) ps) ≤ suc m
fewer_by true n m ps few = omega (arith, few)
fewer_by false n m ps few = omega (arith, few)

pub few_from : {X : Type 0} (is : X → Bool) (n : ℕ) (xs : List X) → length (places_from is n xs) ≤ length xs
few_from is n [] = omega arith
few_from is n (x ∷ xs) = fewer_by (is x) n (length xs) (places_from is (suc n) xs) (few_from is (suc n) xs)

least_by : (b : Bool) (n : ℕ) (ps : List ℕ) (i : ℕ) → i < length (cond b (n ∷ ps) ps) → ((j : ℕ) → j < length ps → suc n ≤ get_or ps j 0) → n ≤ get_or (cond b (n ∷ ps) ps) i 0
least_by true n ps zero lt later = omega arith
least_by true n ps (suc i) lt later = let more : suc n ≤ get_or ps i 0 = later i (omega (arith, lt)) in omega (arith, more)
least_by false n ps i lt later = let more : suc n ≤ get_or ps i 0 = later i lt in omega (arith, more)

least_from : {X : Type 0} (is : X → Bool) (n : ℕ) (xs : List X) (i : ℕ) → i < length (places_from is n xs) → n ≤ get_or (places_from is n xs) i 0
least_from is n [] i lt = absurd (omega (arith, lt))
least_from is n (x ∷ xs) i lt = least_by (is x) n (places_from is (suc n) xs) i lt (least_from is (suc n) xs)

-- ---- their order

up_by : (b : Bool) (n : ℕ) (ps : List ℕ) (i j : ℕ) → i < j → j < length (cond b (n ∷ ps) ps) → ((k : ℕ) → k < length ps → suc n ≤ get_or ps k 0) → ((k l : ℕ) → k < l → l < length ps → get_or ps k 0 < get_or ps l 0)
    → get_or (cond b (n ∷ ps) ps) i 0 < get_or (cond b (n ∷ ps) ps) j 0
up_by true n ps i zero less lt least later = absurd (omega (arith, less))
up_by true n ps zero (suc j) less lt least later = let more : suc n ≤ get_or ps j 0 = least j (omega (arith, lt)) in omega (arith, more)
up_by true n ps (suc i) (suc j) less lt least later = later i j (omega (arith, less)) (omega (arith, lt))
up_by false n ps i j less lt least later = later i j less lt

-- a later one is greater
pub up_from : {X : Type 0} (is : X → Bool) (n : ℕ) (xs : List X) (i j : ℕ) → i < j → j < length (places_from is n xs) → get_or (places_from is n xs) i 0 < get_or (places_from is n xs) j 0
up_from is n [] i j less lt = absurd (omega (arith, lt))
up_from is n (x ∷ xs) i j less lt = up_by (is x) n (places_from is (suc n) xs) i j less lt (least_from is (suc n) xs) (up_from is (suc n) xs)

-- ---- each item of the kind has its index

-- an index is among these
abbrev pub IsAmongst : ℕ → List ℕ → Type 0
IsAmongst place ps = (i : ℕ) × (i < length ps) × (get_or ps i 0 ≡ place)

later_by : (b : Bool) (n place : ℕ) (ps : List ℕ) → IsAmongst place ps → IsAmongst place (cond b (n ∷ ps) ps)
later_by true n place ps at = (suc at.0, omega (arith, at.1), at.2)
later_by false n place ps at = at

amongst_from : {X : Type 0} (is : X → Bool) (n : ℕ) (xs : List X) (k : ℕ) (x : X) → slice_get xs k ≡ Some x → is x ≡ true → IsAmongst (n + k) (places_from is n xs)
amongst_from is n [] k x at of = cc
amongst_from is n (y ∷ xs) zero x at of =
    let own : is y ≡ true = ap is (same_Some y x at) ∙ of in
    let same : n ≡ n + 0 = omega arith in
    subst (λ b. IsAmongst (n + 0) (cond b (n ∷ places_from is (suc n) xs) (places_from is (suc n) xs))) (sym own) (0, omega arith, same)
amongst_from is n (y ∷ xs) (suc k) x at of =
    let next : suc n + k ≡ n + suc k = omega arith in
    later_by (is y) n (n + suc k) (places_from is (suc n) xs) (subst (λ place. IsAmongst place (places_from is (suc n) xs)) next (amongst_from is (suc n) xs k x at of))

pub amongst : {X : Type 0} (is : X → Bool) (xs : List X) (k : ℕ) (x : X) → slice_get xs k ≡ Some x → is x ≡ true → IsAmongst k (places_from is 0 xs)
amongst is xs k x at of =
    let same : 0 + k ≡ k = omega arith in
    subst (λ place. IsAmongst place (places_from is 0 xs)) same (amongst_from is 0 xs k x at of)

-- ---- one more item

pub more_by : (b : Bool) (n : ℕ) (ps qs : List ℕ) → cond b (n ∷ (ps ++ qs)) (ps ++ qs) ≡ cond b (n ∷ ps) ps ++ qs
more_by true n ps qs = refl
more_by false n ps qs = refl

pub places_more : {X : Type 0} (is : X → Bool) (n : ℕ) (xs : List X) (x : X) → places_from is n (xs ++ x ∷ []) ≡ places_from is n xs ++ cond (is x) ((n + length xs) ∷ []) []
places_more is n [] x = let same : n ≡ n + 0 = omega arith in ap (λ m. cond (is x) (m ∷ []) []) same
places_more is n (y ∷ xs) x =
    let next : suc n + length xs ≡ n + suc (length xs) = omega arith in
    ap (λ ps. cond (is y) (n ∷ ps) ps) (places_more is (suc n) xs x ∙ ap (λ m. places_from is (suc n) xs ++ cond (is x) (m ∷ []) []) next)
    ∙ more_by (is y) n (places_from is (suc n) xs) (cond (is x) ((n + suc (length xs)) ∷ []) [])

more_of : (b : Bool) (ps : List ℕ) (n : ℕ) → cond b (ps ++ n ∷ []) ps ≡ ps ++ cond b (n ∷ []) []
more_of true ps n = refl
more_of false ps n = sym (append-nil ps)

-- one more item has its index among those of its key, and of no other
places_added : {X : Type 0} (key : X → List ℕ) (xs : List X) (x : X) (wanted : List ℕ) (n : ℕ) → n ≡ length xs
    → cond (bytes_eq (key x) wanted) (places_from (λ each. bytes_eq (key each) wanted) 0 xs ++ n ∷ []) (places_from (λ each. bytes_eq (key each) wanted) 0 xs) ≡ places_from (λ each. bytes_eq (key each) wanted) 0 (xs ++ x ∷ [])
places_added key xs x wanted n is =
    let last : n ≡ 0 + length xs = omega (arith, is) in
    more_of (bytes_eq (key x) wanted) (places_from (λ each. bytes_eq (key each) wanted) 0 xs) n
    ∙ ap (λ m. places_from (λ each. bytes_eq (key each) wanted) 0 xs ++ cond (bytes_eq (key x) wanted) (m ∷ []) []) last
    ∙ sym (places_more (λ each. bytes_eq (key each) wanted) 0 xs x)

-- therefore the indices by keys, such as policies, are those of the items, with one more item
pub added_places : {X : Type 0} (key : X → List ℕ) (old new : List PolicyPlaces) (xs : List X) (x : X) (n : ℕ)
    → ((wanted : List ℕ) → policy_places old wanted ≡ places_from (λ each. bytes_eq (key each) wanted) 0 xs) → GainsPlace old (key x) n new → n ≡ length xs
    → (wanted : List ℕ) → policy_places new wanted ≡ places_from (λ each. bytes_eq (key each) wanted) 0 (xs ++ x ∷ [])
added_places key old new xs x n were gains is wanted =
    gains wanted ∙ (λ k. cond (bytes_eq (key x) wanted) (were wanted k ++ n ∷ []) (were wanted k)) ∙ places_added key xs x wanted n is
