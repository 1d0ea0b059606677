-- The words of a page whose last words were never stored.
use Rattle.std.proofs.Common.{◌≡◌, ℕ, zero, suc, ◌+◌, ◌-◌, ◌<◌, ◌≤◌, List, [], ◌∷◌, ◌++◌, length, get_or, set, take, replicate, append_assoc, length-append, refl, ap, sym, ◌∙◌, arith}
use Rattle.std.proofs.lemmas.List.{set-append_left, length-set, take_all, replicate-append-replicate, length-replicate}
use Rattle.st_memory.specs.Page.{filled_up}
use Rattle.st_memory.specs.declared.page.TheConstants.{PAGE_WORDS}
use Rattle.st_memory.proofs.Bytes.{zeros-at}

zeros_past : (words : List ℕ) (n k : ℕ) → get_or (words ++ replicate n 0) k 0 ≡ get_or words k 0
zeros_past [] n k = zeros-at n k
zeros_past (word ∷ words) n zero = refl
zeros_past (word ∷ words) n (suc k) = zeros_past words n k

-- a word that was never stored is 0
pub filled_at : (words : List ℕ) (k : ℕ) → get_or (filled_up words) k 0 ≡ get_or words k 0
filled_at words k = zeros_past words (PAGE_WORDS - length words) k

pub filled_size : (words : List ℕ) → length words ≤ PAGE_WORDS → length (filled_up words) ≡ PAGE_WORDS
filled_size words few =
    let rest = replicate (PAGE_WORDS - length words) 0 in
    let size : length rest ≡ PAGE_WORDS - length words = length-replicate (PAGE_WORDS - length words) 0 in
    let all : length (words ++ rest) ≡ length words + length rest = length-append words rest in
    omega (arith, few, size, all)

-- a word is stored at an index up to which words were stored
pub filled_set : (words : List ℕ) (place word : ℕ) → place < length words → filled_up (set words place word) ≡ set (filled_up words) place word
filled_set words place word inside =
    (λ i. set words place word ++ replicate (PAGE_WORDS - length-set words place word i) 0) ∙ sym (set-append_left words (replicate (PAGE_WORDS - length words) 0) place word inside)

-- storing zeros after the words changes nothing
pub filled_more : (words more : List ℕ) (n : ℕ) → length words ≤ n → n ≤ PAGE_WORDS → more ≡ take n words ++ replicate (n - length words) 0 → filled_up more ≡ filled_up words
filled_more words more n low high is =
    let added = replicate (n - length words) 0 in
    let whole : more ≡ words ++ added = is ∙ ap (λ front. front ++ added) (take_all n words low) in
    let more_size : length added ≡ n - length words = length-replicate (n - length words) 0 in
    let size : length (words ++ added) ≡ n = omega (arith, length-append words added, more_size, low) in
    let rest : n - length words + (PAGE_WORDS - n) ≡ PAGE_WORDS - length words = omega (arith, low, high) in
    ap filled_up whole
    ∙ ap (λ m. (words ++ added) ++ replicate (PAGE_WORDS - m) 0) size
    ∙ append_assoc words added (replicate (PAGE_WORDS - n) 0)
    ∙ ap (λ zeros. words ++ zeros) (replicate-append-replicate (n - length words) (PAGE_WORDS - n) 0 ∙ ap (λ m. replicate m 0) rest)
