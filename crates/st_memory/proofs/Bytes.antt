-- The bytes of spaces after a word is written or a space is added, and the words that bytes form.
use Rattle.std.proofs.Common.{zero, suc, ◌≡◌, ℕ, ◌+◌, ◌-◌, ◌*◌, ◌/◌, ◌%◌, ◌^◌, ◌<◌, ◌≤◌, inl, inr, Bool, true, false, cond, List, ◌++◌, length, get_or, set, take, drop, replicate, eqb, append_assoc, length-append, length-drop, refl, ap, sym, ◌∙◌, arith}
use Rattle.std.proofs.lemmas.Bool.Decides.{leb_tells}
use Rattle.std.proofs.lemmas.Bool.{cases_eq, eq-eqb, ne_eqb, cond-true, cond-false}
use Rattle.std.proofs.lemmas.List.{get_or-set_same, get_or-set_other, get_or_append_left, get_or-append_right, get_or-take, get_or-drop, length-take-le, ext_get_or}
use Rattle.std.proofs.lemmas.List.FromFn.{get_or-map-range_with_len, length-map-range_with_len}
use Rattle.std.proofs.lemmas.Nat.{from_le_bytes-to_le_bytes_8}
use Rattle.std.specs.Int.{w64, to_le_bytes, from_le_bytes}
use Rattle.st_memory.specs.Memory.{byte_of}
use Rattle.st_model.specs.Memory.{bytes_from, word_of, bytes_after_store}

get_or-set : {A : Type 0} (xs : List A) (i : ℕ) (y : A) (s : ℕ) (d : A) → i < length xs → get_or (set xs i y) s d ≡ cond (eqb s i) y (get_or xs s d)
get_or-set xs i y s d inside = elim (cases_eq s i) [
  | inl e ↦ ap (λ n. get_or (set xs i y) n d) e ∙ get_or-set_same xs i y d inside ∙ sym (cond-true (eqb s i) y (get_or xs s d) (eq-eqb s i e))
  | inr n ↦ get_or-set_other xs i s y d n ∙ sym (cond-false (eqb s i) y (get_or xs s d) (ne_eqb s i n))
]

under_cond : {A B : Type 0} (f : A → B) (e : Bool) (x y : A) → f (cond e x y) ≡ cond e (f x) (f y)
under_cond f true x y = refl
under_cond f false x y = refl

-- the bytes after a word is written at an index
pub byte_of-set : (words : List ℕ) (place word b : ℕ) → place < length words → byte_of (set words place word) b ≡ bytes_after_store (byte_of words) place word b
byte_of-set words place word b inside =
    let f : ℕ → ℕ = λ (w : ℕ). get_or (to_le_bytes w64 w) (b % 8) 0 in
    ap f (get_or-set words place word (b / 8) 0 inside) ∙ under_cond f (eqb (b / 8) place) word (get_or words (b / 8) 0)

-- byte k of the word at an index
byte_of-at : (words : List ℕ) (place k b : ℕ) → k < 8 → b ≡ 8 * place + k → byte_of words b ≡ get_or (to_le_bytes w64 (get_or words place 0)) k 0
byte_of-at words place k b low is =
    let row : b / 8 ≡ place = omega arith in
    let column : b % 8 ≡ k = omega arith in
    rw (row, column)

-- the eight bytes of the word at an index
bytes_from-place : (words : List ℕ) (place : ℕ) → bytes_from (byte_of words) (8 * place) 8 ≡ to_le_bytes w64 (get_or words place 0)
bytes_from-place words place = ext_get_or 0 (bytes_from (byte_of words) (8 * place) 8) (to_le_bytes w64 (get_or words place 0)) refl (λ i low.
    get_or-map-range_with_len (byte_of words) (8 * place) 8 i (8 * place + i) 0 low refl ∙ byte_of-at words place i (8 * place + i) low refl)

-- the word at an index, from its bytes
pub word_of-byte_of : (words : List ℕ) (place : ℕ) → get_or words place 0 < 2 ^ 64 → get_or words place 0 ≡ word_of (byte_of words) place
word_of-byte_of words place fits = sym (ap (from_le_bytes w64) (bytes_from-place words place) ∙ from_le_bytes-to_le_bytes_8 (get_or words place 0) fits)

pub zeros-at : (n k : ℕ) → get_or {A = ℕ} (replicate n 0) k 0 ≡ 0
zeros-at zero k = refl
zeros-at (suc n) zero = refl
zeros-at (suc n) (suc k) = zeros-at n k

-- all bytes of words of zero are 0
pub byte_of-zeros : (n b : ℕ) → byte_of (replicate n 0) b ≡ 0
byte_of-zeros n b = ap (λ (w : ℕ). get_or (to_le_bytes w64 w) (b % 8) 0) (zeros-at n (b / 8)) ∙ zeros-at 8 (b % 8)

-- n bytes followed by the next m bytes
more_bytes : (f : ℕ → ℕ) (at n m : ℕ) (ys : List ℕ) → length ys ≡ m → ((i : ℕ) → i < m → get_or ys i 0 ≡ f (at + n + i)) → bytes_from f at n ++ ys ≡ bytes_from f at (n + m)
more_bytes f at n m ys size each =
    let first : length (bytes_from f at n) ≡ n = length-map-range_with_len f at n in
    ext_get_or 0 (bytes_from f at n ++ ys) (bytes_from f at (n + m)) (length-append (bytes_from f at n) ys ∙ (λ i. first i + size i) ∙ sym (length-map-range_with_len f at (n + m))) (λ i low.
    let inside : i < n + m = omega (arith, low, length-append (bytes_from f at n) ys, first, size) in
    elim (leb_tells n i) [
      | inl past ↦ let following : n ≤ i = past.1 in get_or-append_right (bytes_from f at n) ys n i 0 first following ∙ each (i - n) (omega (arith, following, inside)) ∙ sym (get_or-map-range_with_len f at (n + m) i (at + n + (i - n)) 0 inside (omega (arith, following)))
      | inr less ↦ let before : i < n = less.1 in get_or_append_left (bytes_from f at n) ys 0 i (omega (arith, before, first)) ∙ get_or-map-range_with_len f at n i (at + i) 0 before refl ∙ sym (get_or-map-range_with_len f at (n + m) i (at + i) 0 inside refl)
    ])

-- bytes that were appended, followed by as many more bytes
pub bytes_from-more : (f : ℕ → ℕ) (at done width : ℕ) (before text more new : List ℕ) → text ≡ before ++ bytes_from f at done → new ≡ text ++ more → length more ≡ width
    → ((i : ℕ) → i < width → get_or more i 0 ≡ f (at + done + i)) → new ≡ before ++ bytes_from f at (done + width)
bytes_from-more f at done width before text more new so_far is size each =
    is ∙ ap (λ (xs : List ℕ). xs ++ more) so_far ∙ append_assoc before (bytes_from f at done) more
    ∙ ap (λ (xs : List ℕ). before ++ xs) (more_bytes f at done width more size each)

-- the bytes so far, followed by those of a part of one more word
pub bytes_from-part : (words before : List ℕ) (at done width n from word : ℕ) (text part more : List ℕ) → text ≡ before ++ bytes_from (byte_of words) at done → word ≡ get_or words ((at + done) / 8) 0
    → part ≡ to_le_bytes w64 word → from ≡ (at + done) % 8 → from + width ≤ 8 → n ≡ width → more ≡ text ++ take n (drop from part) → more ≡ before ++ bytes_from (byte_of words) at (done + width)
bytes_from-part words before at done width n from word text part more so_far word_is part_is from_is low n_is is =
    let whole : List ℕ = to_le_bytes w64 (get_or words ((at + done) / 8) 0) in
    let eight : length whole ≡ 8 = refl in
    let new : List ℕ = take width (drop from whole) in
    let same : take n (drop from part) ≡ new = (λ i. take (n_is i) (drop from (part_is i))) ∙ ap (λ (w : ℕ). take width (drop from (to_le_bytes w64 w))) word_is in
    let size : length new ≡ width = length-take-le width (drop from whole) (omega (arith, low, eight, length-drop from whole)) in
    bytes_from-more (byte_of words) at done width before text new more so_far (is ∙ ap (λ (xs : List ℕ). text ++ xs) same) size (λ i inside.
    get_or-take width (drop from whole) i 0 inside ∙ get_or-drop from whole i 0 ∙ sym (byte_of-at words ((at + done) / 8) (from + i) (at + done + i) (omega (arith, inside, low)) (omega (arith, from_is))))

-- the same bytes at other offsets
pub bytes_from-same : (f g : ℕ → ℕ) (at from count : ℕ) → ((i : ℕ) → i < count → f (at + i) ≡ g (from + i)) → bytes_from f at count ≡ bytes_from g from count
bytes_from-same f g at from count each = ext_get_or 0 (bytes_from f at count) (bytes_from g from count) (length-map-range_with_len f at count ∙ sym (length-map-range_with_len g from count)) (λ i low.
    let inside : i < count = omega (arith, low, length-map-range_with_len f at count) in
    get_or-map-range_with_len f at count i (at + i) 0 inside refl ∙ each i inside ∙ sym (get_or-map-range_with_len g from count i (from + i) 0 inside refl))
