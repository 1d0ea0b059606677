-- Bytes that are put into parts of words.
use Rattle.std.proofs.Common.{zero, suc, ◌≡◌, ℕ, ◌+◌, ◌-◌, ◌/◌, ◌%◌, ◌^◌, ◌<◌, ◌≤◌, ◌⊎◌, inl, inr, ◌&&◌, List, ◌++◌, length, get_or, set, take, drop, eqb, nat_le, nat_lt, refl, ap, sym, ◌∙◌, arith, subst}
use Rattle.std.proofs.lemmas.Bool.{cases_lt, cases_eq, le-leb, lt-leb, lt-ltb, le-ltb, eq-eqb, ne_eqb, cond-true, cond-false, and_from, and_left, and_right, cond_both}
use Rattle.std.proofs.lemmas.List.{get_or-take, get_or-drop, length-take-le, length-drop, length-append, get_or_append_left, get_or-append_right}
use Rattle.std.proofs.lemmas.Nat.{mod_below, le_bytes_8}
use Rattle.std.specs.Int.{w64, to_le_bytes, from_le_bytes, byte_at, bytes_low_first}
use borrow.Rule.Slice.PartMut.{put_mid}
use Rattle.st_memory.specs.Memory.{byte_of}
use Rattle.st_model.specs.Memory.{bytes_after_put}
use Rattle.st_memory.proofs.Bytes.{byte_of-set}

-- a byte that is put, one below those that are put, and one above them
pub put_in-inside : (before : ℕ → ℕ) (at : ℕ) (bytes : List ℕ) (b : ℕ) → at ≤ b → b < at + length bytes → bytes_after_put before at bytes b ≡ get_or bytes (b - at) 0
put_in-inside before at bytes b low high =
    cond-true (nat_le at b && nat_lt b (at + length bytes)) (get_or bytes (b - at) 0) (before b)
    (and_from (nat_le at b) (nat_lt b (at + length bytes)) (le-leb at b low) (lt-ltb b (at + length bytes) high))

pub put_in-below : (before : ℕ → ℕ) (at : ℕ) (bytes : List ℕ) (b : ℕ) → b < at → bytes_after_put before at bytes b ≡ before b
put_in-below before at bytes b low =
    cond-false (nat_le at b && nat_lt b (at + length bytes)) (get_or bytes (b - at) 0) (before b)
    (and_left (nat_le at b) (nat_lt b (at + length bytes)) (lt-leb at b low))

pub put_in-above : (before : ℕ → ℕ) (at : ℕ) (bytes : List ℕ) (b : ℕ) → at + length bytes ≤ b → bytes_after_put before at bytes b ≡ before b
put_in-above before at bytes b high =
    cond-false (nat_le at b && nat_lt b (at + length bytes)) (get_or bytes (b - at) 0) (before b)
    (and_right (nat_le at b) (nat_lt b (at + length bytes)) (le-ltb b (at + length bytes) high))

-- where b is relative to a run of n bytes from `at` on: below, inside or above
pub lies : (at n b : ℕ) → (b < at) ⊎ (((at ≤ b) × (b < at + n)) ⊎ (at + n ≤ b))
lies at n b = elim (cases_lt b at) [
  | inl low ↦ inl low
  | inr high ↦ elim (cases_lt b (at + n)) [ inl inside ↦ inr (inl (high, inside)) | inr past ↦ inr (inr past) ]
]

-- the first `done` bytes are put, then those up to `end`: the first `end` bytes are put
pub put_in-more : (before between : ℕ → ℕ) (at : ℕ) (bytes : List ℕ) (done end : ℕ) → done ≤ end → end ≤ length bytes
    → ((b : ℕ) → between b ≡ bytes_after_put before at (take done bytes) b) → (b : ℕ)
    → bytes_after_put between (at + done) (take (end - done) (drop done bytes)) b ≡ bytes_after_put before at (take end bytes) b
put_in-more before between at bytes done end order inside so_far b =
    let n_part : length (take (end - done) (drop done bytes)) ≡ end - done = length-take-le (end - done) (drop done bytes) (omega (arith, length-drop done bytes)) in
    let n_done : length (take done bytes) ≡ done = length-take-le done bytes (omega arith) in
    let n_end : length (take end bytes) ≡ end = length-take-le end bytes inside in
    elim (lies (at + done) (end - done) b) [
      | inl low ↦ put_in-below between (at + done) (take (end - done) (drop done bytes)) b low ∙ so_far b ∙ elim (lies at done b) [
        | inl l ↦ put_in-below before at (take done bytes) b l ∙ sym (put_in-below before at (take end bytes) b l)
        | inr r ↦ elim r [
          | inl i ↦ put_in-inside before at (take done bytes) b i.0 (omega arith)
              ∙ get_or-take done bytes (b - at) 0 (omega arith)
              ∙ sym (get_or-take end bytes (b - at) 0 (omega arith))
              ∙ sym (put_in-inside before at (take end bytes) b i.0 (omega arith))
          | inr h ↦ absurd (omega arith)
        ]
      ]
      | inr r ↦ elim r [
        | inl i ↦ put_in-inside between (at + done) (take (end - done) (drop done bytes)) b i.0 (omega arith)
            ∙ get_or-take (end - done) (drop done bytes) (b - (at + done)) 0 (omega arith)
            ∙ get_or-drop done bytes (b - (at + done)) 0
            ∙ ap (λ (n : ℕ). get_or bytes n 0) (omega arith)
            ∙ sym (get_or-take end bytes (b - at) 0 (omega arith))
            ∙ sym (put_in-inside before at (take end bytes) b (omega arith) (omega arith))
        | inr h ↦ put_in-above between (at + done) (take (end - done) (drop done bytes)) b (omega arith)
            ∙ so_far b
            ∙ put_in-above before at (take done bytes) b (omega arith)
            ∙ sym (put_in-above before at (take end bytes) b (omega arith))
      ]
    ]

-- a change of the one word that contains all the bytes, as a change of the page
pub byte_of-merged : (words : List ℕ) (place old word at : ℕ) (part : List ℕ) → old ≡ get_or words place 0 → place ≡ at / 8 → place < length words → at % 8 + length part ≤ 8
    → ((k : ℕ) → k < 8 → get_or (to_le_bytes w64 word) k 0 ≡ bytes_after_put (λ (n : ℕ). get_or (to_le_bytes w64 old) n 0) (at % 8) part k)
    → (b : ℕ) → byte_of (set words place word) b ≡ bytes_after_put (byte_of words) at part b
byte_of-merged words place old word at part read is inside one merged b =
    let was : ℕ → ℕ = λ (n : ℕ). get_or (to_le_bytes w64 old) n 0 in
    byte_of-set words place word b inside ∙ elim (cases_eq (b / 8) place) [
      | inl e ↦
          let same : was (b % 8) ≡ byte_of words b = ap (λ (w : ℕ). get_or (to_le_bytes w64 w) (b % 8) 0) (read ∙ ap (λ (p : ℕ). get_or words p 0) (sym e)) in
          cond-true (eqb (b / 8) place) (get_or (to_le_bytes w64 word) (b % 8) 0) (byte_of words b) (eq-eqb (b / 8) place e)
          ∙ merged (b % 8) (omega arith)
          ∙ elim (lies at (length part) b) [
            | inl low ↦ put_in-below was (at % 8) part (b % 8) (omega arith) ∙ same ∙ sym (put_in-below (byte_of words) at part b low)
            | inr r ↦ elim r [
              | inl i ↦ put_in-inside was (at % 8) part (b % 8) (omega arith) (omega arith)
                  ∙ ap (λ (n : ℕ). get_or part n 0) (omega arith)
                  ∙ sym (put_in-inside (byte_of words) at part b i.0 i.1)
              | inr h ↦ put_in-above was (at % 8) part (b % 8) (omega arith) ∙ same ∙ sym (put_in-above (byte_of words) at part b h)
            ]
          ]
      | inr n ↦
          cond-false (eqb (b / 8) place) (get_or (to_le_bytes w64 word) (b % 8) 0) (byte_of words b) (ne_eqb (b / 8) place n)
          ∙ elim (lies at (length part) b) [
            | inl low ↦ sym (put_in-below (byte_of words) at part b low)
            | inr r ↦ elim r [
              | inl i ↦ absurd (n (omega arith))
              | inr h ↦ sym (put_in-above (byte_of words) at part b h)
            ]
          ]
    ]

byte_at-small : (i n : ℕ) → byte_at i n < 256
byte_at-small zero n = omega arith
byte_at-small (suc i) n = mod_below (n / 256 ^ suc i) 256 (omega arith)

bytes-small : (i count n k : ℕ) → get_or (bytes_low_first i count n) k 0 < 256
bytes-small i zero n k = omega arith
bytes-small i (suc count) n zero = byte_at-small i n
bytes-small i (suc count) n (suc k) = bytes-small (suc i) count n k

-- bytes that overwrite a part of a list are put there
put_mid-put_in : (old part : List ℕ) (from width k : ℕ) → from + width ≤ length old → length part ≡ width → get_or (put_mid from width old part) k 0 ≡ bytes_after_put (λ (n : ℕ). get_or old n 0) from part k
put_mid-put_in old part from width k inside is =
    let was : ℕ → ℕ = λ (n : ℕ). get_or old n 0 in
    let rest : List ℕ = drop width (drop from old) in
    let front : length (take from old) ≡ from = length-take-le from old (omega arith) in
    elim (lies from (length part) k) [
      | inl low ↦ get_or_append_left (take from old) (part ++ rest) 0 k (omega arith)
          ∙ get_or-take from old k 0 low
          ∙ sym (put_in-below was from part k low)
      | inr r ↦ get_or-append_right (take from old) (part ++ rest) from k 0 front (elim r [ inl i ↦ i.0 | inr h ↦ omega arith ]) ∙ elim r [
        | inl i ↦ get_or_append_left part rest 0 (k - from) (omega arith) ∙ sym (put_in-inside was from part k i.0 i.1)
        | inr h ↦ get_or-append_right part rest width (k - from) 0 is (omega arith)
            ∙ get_or-drop width (drop from old) (k - from - width) 0
            ∙ get_or-drop from old (width + (k - from - width)) 0
            ∙ ap was (omega arith)
            ∙ sym (put_in-above was from part k h)
      ]
    ]

put_in-small : (before : ℕ → ℕ) (at : ℕ) (bytes : List ℕ) (b : ℕ) → before b < 256 → get_or bytes (b - at) 0 < 256 → bytes_after_put before at bytes b < 256
put_in-small before at bytes b old new =
    cond_both (nat_le at b && nat_lt b (at + length bytes)) (get_or bytes (b - at) 0) (before b) (λ (x : ℕ). x < 256) (λ e. new) (λ e. old)

-- the word of eight bytes of which some were overwritten
pub merged-is : (word from width result : ℕ) (old part new : List ℕ) → old ≡ to_le_bytes w64 word → new ≡ part → length part ≡ width → from + width ≤ 8 → ((i : ℕ) → get_or part i 0 < 256)
    → result ≡ from_le_bytes w64 (put_mid from width old new)
    → (k : ℕ) → k < 8 → get_or (to_le_bytes w64 result) k 0 ≡ bytes_after_put (λ (n : ℕ). get_or (to_le_bytes w64 word) n 0) from part k
merged-is word from width result old part new old_is new_is width_is inside small is k low =
    let before : List ℕ = to_le_bytes w64 word in
    let bytes : List ℕ = put_mid from width before part in
    let same : put_mid from width old new ≡ bytes = ap (λ (xs : List ℕ). put_mid from width xs new) old_is ∙ ap (λ (xs : List ℕ). put_mid from width before xs) new_is in
    let eight : length before ≡ 8 = refl in
    let put_is : (i : ℕ) → get_or bytes i 0 ≡ bytes_after_put (λ (n : ℕ). get_or before n 0) from part i = λ (i : ℕ). put_mid-put_in before part from width i (omega arith) width_is in
    let each : (i : ℕ) → get_or bytes i 0 < 256 = λ (i : ℕ). subst (λ (x : ℕ). x < 256) (sym (put_is i)) (put_in-small (λ (n : ℕ). get_or before n 0) from part i (bytes-small 0 8 word i) (small (i - from))) in
    let count : length bytes ≡ 8 = omega (arith, length-append (take from before) (part ++ drop width (drop from before)), length-append part (drop width (drop from before)), length-drop width (drop from before), length-drop from before, length-take-le from before (omega arith)) in
    ap (λ (xs : List ℕ). get_or xs k 0) (le_bytes_8 bytes result count each (is ∙ ap (from_le_bytes w64) same)) ∙ put_is k
