-- Where a text occurs in an argument.
use Rattle.std.proofs.Common.{◌≡◌, ◌||◌, ℕ, zero, suc, ◌+◌, ◌≤◌, Bool, true, false, List, [], ◌∷◌, Option, Some, None, length, take, refl, sym, ap, ◌∙◌, arith, length-take-le, nat_eq}
use Rattle.std.proofs.lemmas.Slice.Eq.{bytes_eq-Decides}
use Rattle.std.specs.List.{starts_with}
use Rattle.std.specs.Prelude.{is_some, slice_index}
use Rattle.memchr.specs.Find.{OccursAt, FindsNeedle}
use Rattle.memchr.proofs.lemmas.MatchLemmas.{OccursAt-part, OccursAt-from_part}
use Rattle.st_filter.specs.Judging.{stands_in}

not_true : (b : Bool) → (b ≡ true → ⊥) → b ≡ false
not_true true f = absurd (f refl)
not_true false _ = refl

last_true : (b : Bool) → (b || true) ≡ true
last_true true = refl
last_true false = refl

taken : (n : ℕ) (xs : List ℕ) → length (take n xs) ≤ length xs
taken zero xs = omega arith
taken (suc n) [] = omega arith
taken (suc n) (b ∷ xs) = omega (arith, taken n xs)

begins : (text argument : List ℕ) → starts_with nat_eq argument text ≡ true → OccursAt argument text 0
begins text argument is =
    let part : text ≡ take (length text) argument = (bytes_eq-Decides text (take (length text) argument)).0 is in
    OccursAt-from_part argument text 0 (omega (arith, ap (λ (bytes : List ℕ). length bytes) part, taken (length text) argument)) (sym part)

stands-first : (text argument : List ℕ) → OccursAt argument text 0 → starts_with nat_eq argument text ≡ true
stands-first text argument occurs = (bytes_eq-Decides text (take (length text) argument)).1 (sym (OccursAt-part argument text 0 occurs))

next_place : (k j : ℕ) → suc k + j ≡ suc (k + j)
next_place k j = omega arith

moved : (b : ℕ) (bs : List ℕ) (k j : ℕ) → slice_index (b ∷ bs) (suc k + j) ≡ slice_index bs (k + j)
moved b bs k j = ap (λ (i : ℕ). slice_index (b ∷ bs) i) (next_place k j)

later : (text : List ℕ) (b : ℕ) (bs : List ℕ) (k : ℕ) → OccursAt (b ∷ bs) text (suc k) → OccursAt bs text k
later text b bs k occurs = record { fits = omega (arith, occurs.fits); reads = λ j l. sym (moved b bs k j) ∙ occurs.reads j l }

further : (text : List ℕ) (b : ℕ) (bs : List ℕ) (k : ℕ) → OccursAt bs text k → OccursAt (b ∷ bs) text (suc k)
further text b bs k occurs = record { fits = omega (arith, occurs.fits); reads = λ j l. moved b bs k j ∙ occurs.reads j l }

stands-at : (text argument : List ℕ) (k : ℕ) → OccursAt argument text k → stands_in text argument ≡ true
stands-at text [] zero occurs = stands-first text [] occurs
stands-at text [] (suc k) occurs = absurd (omega (arith, occurs.fits))
stands-at text (b ∷ bs) zero occurs = ap (λ s. s || stands_in text bs) (stands-first text (b ∷ bs) occurs)
stands-at text (b ∷ bs) (suc k) occurs =
    ap (λ s. starts_with nat_eq (b ∷ bs) text || s) (stands-at text bs k (later text b bs k occurs)) ∙ last_true (starts_with nat_eq (b ∷ bs) text)

nowhere : (text argument : List ℕ) → ((k : ℕ) → k ≤ length argument → OccursAt argument text k → ⊥) → stands_in text argument ≡ false
nowhere text [] none = not_true (starts_with nat_eq [] text) (λ is. none 0 (omega arith) (begins text [] is))
nowhere text (b ∷ bs) none =
    let first : starts_with nat_eq (b ∷ bs) text ≡ false = not_true (starts_with nat_eq (b ∷ bs) text) (λ is. none 0 (omega arith) (begins text (b ∷ bs) is)) in
    ap (λ s. s || stands_in text bs) first ∙ nowhere text bs (λ k l occurs. none (suc k) (omega (arith, l)) (further text b bs k occurs))

-- a search finds a text exactly if it occurs
pub finds : (text argument : List ℕ) (r : Option ℕ) → FindsNeedle argument text 0 r → is_some r ≡ stands_in text argument
finds text argument None none = sym (nowhere text argument (λ k l occurs. none k (omega arith) (omega (arith, l)) occurs))
finds text argument (Some k) found = sym (stands-at text argument k found.1)
