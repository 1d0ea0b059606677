-- Which pages and bytes a space has after one is made, given up or unmade.
use Rattle.std.proofs.Common.{zero, suc, ◌≡◌, ◌≢◌, ℕ, ◌-◌, ◌<◌, ◌≤◌, inl, inr, Bool, true, false, cond, ◌==◌, List, [], ◌∷◌, ◌++◌, length, get_or, set, take, Option, None, refl, ap, sym, ◌∙◌, arith}
use Rattle.std.proofs.lemmas.Bool.{cases_eq, eq-eqb, ne_eqb, true≢false}
use Rattle.std.proofs.lemmas.List.{get_or-set_same, get_or-set_other, get_or_push, length-take}
use Rattle.std.proofs.Math.ListN.{get_or-eq_default}
use Rattle.std.specs.Prelude.{is_some, slice_get, unwrap_or, ◌/◌, ◌%◌}
use Rattle.std.specs.Option.{option_map}
use Rattle.st_base.specs.Numbered.{item_at_number_or}
use Rattle.st_memory.specs.Memory.{byte_of, byte_in, next_space, pages_of_space, Memories, NumberedPage}
use Rattle.st_memory.specs.declared.page.TheConstants.{PAGE_BYTES}
use Rattle.st_memory.proofs.Bytes.{byte_of-zeros}

-- ---- items by their numbers

numbered : {X : Type 0} (d : X) (xs : List X) (s : ℕ) → item_at_number_or d xs s ≡ get_or (d ∷ xs) s d
numbered d xs zero = refl
numbered d xs (suc s) = refl

pushed_other : {X : Type 0} (xs : List X) (y d : X) (s : ℕ) → s ≢ length xs → get_or (xs ++ y ∷ []) s d ≡ get_or xs s d
pushed_other [] y d zero ne = absurd (ne refl)
pushed_other [] y d (suc s) ne = refl
pushed_other (x ∷ xs) y d zero ne = refl
pushed_other (x ∷ xs) y d (suc s) ne = pushed_other xs y d s (λ e. ne (ap suc e))

-- an item that is appended has the next number
pub at_number-push : {X : Type 0} (d : X) (xs : List X) (y : X) (s : ℕ) → item_at_number_or d (xs ++ y ∷ []) s ≡ cond (s == suc (length xs)) y (item_at_number_or d xs s)
at_number-push d xs y s = elim (cases_eq s (suc (length xs))) [
  | inl e ↦ rw (eq-eqb s (suc (length xs)) e) (ap (item_at_number_or d (xs ++ y ∷ [])) e ∙ get_or_push xs y d (length xs) refl)
  | inr ne ↦ rw (ne_eqb s (suc (length xs)) ne) (numbered d (xs ++ y ∷ []) s ∙ pushed_other (d ∷ xs) y d s ne ∙ sym (numbered d xs s))
]

-- an item that is overwritten is the one with its number, and each other item stays
pub at_number-set : {X : Type 0} (d : X) (xs : List X) (i : ℕ) (y : X) (s : ℕ) → 1 ≤ i → i ≤ length xs → item_at_number_or d (set xs (i - 1) y) s ≡ cond (s == i) y (item_at_number_or d xs s)
at_number-set d xs zero y s low high = absurd (omega arith)
at_number-set d xs (suc i) y s low high = let same : suc i - 1 ≡ i = omega arith in rw same (elim (cases_eq s (suc i)) [
  | inl e ↦ rw (eq-eqb s (suc i) e) (ap (item_at_number_or d (set xs i y)) e ∙ get_or-set_same xs i y d (omega arith))
  | inr ne ↦ rw (ne_eqb s (suc i) ne) (numbered d (set xs i y) s ∙ get_or-set_other (d ∷ xs) (suc i) s y d ne ∙ sym (numbered d xs s))
])

cut_other : {X : Type 0} (d : X) (xs : List X) (n k : ℕ) → length xs ≡ suc n → k ≢ n → get_or (take n xs) k d ≡ get_or xs k d
cut_other d [] n k size ne = absurd (omega (arith, size))
cut_other d (x ∷ xs) zero zero size ne = absurd (ne refl)
cut_other d (x ∷ []) zero (suc k) size ne = refl
cut_other d (x ∷ y ∷ xs) zero (suc k) size ne = absurd (omega (arith, size))
cut_other d (x ∷ xs) (suc n) zero size ne = refl
cut_other d (x ∷ xs) (suc n) (suc k) size ne = cut_other d xs n k (omega (arith, size)) (λ e. ne (ap suc e))

-- the last item is removed
pub at_number-cut : {X : Type 0} (d : X) (xs : List X) (last s : ℕ) → 1 ≤ last → last ≡ length xs → item_at_number_or d (take (last - 1) xs) s ≡ cond (s == last) d (item_at_number_or d xs s)
at_number-cut d xs zero s low is = absurd (omega arith)
at_number-cut d xs (suc n) s low is = let same : suc n - 1 ≡ n = omega arith in rw same (elim (cases_eq s (suc n)) [
  | inl e ↦ rw (eq-eqb s (suc n) e) (ap (item_at_number_or d (take n xs)) e ∙ get_or-eq_default (take n xs) d (omega (arith, length-take n xs)))
  | inr ne ↦ rw (ne_eqb s (suc n) ne) (numbered d (take n xs) s ∙ other s ne ∙ sym (numbered d xs s))
]) where
  other : (s : ℕ) → s ≢ suc n → get_or (d ∷ take n xs) s d ≡ get_or (d ∷ xs) s d
  other zero ne = refl
  other (suc k) ne = cut_other d xs n k (sym is) (λ e. ne (ap suc e))

-- ---- words and bytes of spaces

within : {X : Type 0} (spaces : List (Option X)) (i : ℕ) → is_some (get_or spaces i None) ≡ true → i < length spaces
within [] i is = absurd (true≢false (sym is))
within (x ∷ spaces) zero is = omega arith
within (x ∷ spaces) (suc i) is = omega (arith, within spaces i is)

-- a space that exists has one of the numbers that were given
pub live_within : {X : Type 0} (spaces : List (Option X)) (space : ℕ) → is_some (item_at_number_or None spaces space) ≡ true → (1 ≤ space) × (space ≤ length spaces)
live_within spaces zero is = absurd (true≢false (sym is))
live_within spaces (suc i) is = (omega arith, omega (arith, within spaces i is))

under_cond : {A B : Type 0} (f : A → B) (b : Bool) (x y : A) → f (cond b x y) ≡ cond b (f x) (f y)
under_cond f true x y = refl
under_cond f false x y = refl

-- byte b of an entry
abbrev byte_of_entry : Option (List NumberedPage) → ℕ → ℕ
byte_of_entry entry b = byte_of (unwrap_or (option_map (λ page. page.words) (slice_get (unwrap_or entry []) (b / PAGE_BYTES))) []) (b % PAGE_BYTES)

-- an appended space has its bytes, and each other space its own
pub byte_in-push : (spaces : Memories) (entry : Option (List NumberedPage)) (s b : ℕ) → byte_in (spaces ++ entry ∷ []) s b ≡ cond (s == next_space spaces) (byte_of_entry entry b) (byte_in spaces s b)
byte_in-push spaces entry s b =
    ap (λ (o : Option (List NumberedPage)). byte_of_entry o b) (at_number-push None spaces entry s) ∙ under_cond (λ (o : Option (List NumberedPage)). byte_of_entry o b) (s == next_space spaces) entry (pages_of_space spaces s)

-- a space that doesn't exist has zeros
pub byte_in-past : (spaces : Memories) (s b : ℕ) → s ≡ next_space spaces → byte_in spaces s b ≡ 0
byte_in-past spaces s b is =
    ap (λ (n : ℕ). byte_in spaces n b) is ∙ ap (λ (o : Option (List NumberedPage)). byte_of_entry o b) (get_or-eq_default spaces None (omega arith)) ∙ byte_of-zeros 0 (b % PAGE_BYTES)

-- a space that is given up has no bytes, and each other space its own
pub byte_in-gone : (spaces : Memories) (space s b : ℕ) → 1 ≤ space → space ≤ length spaces → byte_in (set spaces (space - 1) None) s b ≡ cond (s == space) 0 (byte_in spaces s b)
byte_in-gone spaces space s b low high =
    ap (λ (o : Option (List NumberedPage)). byte_of_entry o b) (at_number-set None spaces space None s low high)
    ∙ under_cond (λ (o : Option (List NumberedPage)). byte_of_entry o b) (s == space) None (pages_of_space spaces s)
    ∙ ap (λ (x : ℕ). cond (s == space) x (byte_in spaces s b)) (byte_of-zeros 0 (b % PAGE_BYTES))

-- a removed space has no bytes, and each other space its own
pub byte_in-cut : (spaces : Memories) (last s b : ℕ) → 1 ≤ last → last ≡ length spaces → byte_in (take (last - 1) spaces) s b ≡ cond (s == last) 0 (byte_in spaces s b)
byte_in-cut spaces last s b low is =
    ap (λ (o : Option (List NumberedPage)). byte_of_entry o b) (at_number-cut None spaces last s low is)
    ∙ under_cond (λ (o : Option (List NumberedPage)). byte_of_entry o b) (s == last) None (pages_of_space spaces s)
    ∙ ap (λ (x : ℕ). cond (s == last) x (byte_in spaces s b)) (byte_of-zeros 0 (b % PAGE_BYTES))
