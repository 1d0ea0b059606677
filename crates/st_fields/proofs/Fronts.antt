-- The word with which bytes begin.
use Rattle.std.proofs.Common.{◌≡◌, ℕ, Bool, true, false, List, [], ◌∷◌, ◌++◌, length, Option, Some, refl, ap, arith}
use Rattle.std.proofs.lemmas.Bool.{and_parts}
use Rattle.std.proofs.lemmas.List.{take_at, drop_at}
use Rattle.std.specs.List.{list_all, prefix_len}
use Rattle.st_report.specs.Fields.{word_field}
use Rattle.st_fields.specs.Words.{is_inner, split_word}
use Rattle.st_fields.specs.Fields.{word_at, spelled_at}

-- the bytes end, or begin with one that doesn't pass
abbrev pub Stops : (ℕ → Bool) → List ℕ → Type 0
Stops test [] = Unit {0}
Stops test (b ∷ rest) = test b ≡ false

-- bytes that pass, and after them one that doesn't
pub front_len : (test : ℕ → Bool) (front rest : List ℕ) → list_all test front ≡ true → Stops test rest → prefix_len test (front ++ rest) ≡ length front
front_len test [] [] all stops = refl
front_len test [] (b ∷ rest) all stops = rw stops refl
front_len test (b ∷ front) rest all stops =
    let p : (test b ≡ true) × (list_all test front ≡ true) = and_parts (test b) (list_all test front) all in
    let more : prefix_len test (front ++ rest) ≡ length front = front_len test front rest p.1 stops in
    rw p.0 (omega (arith, more))

pub split_again : (word rest : List ℕ) → list_all is_inner word ≡ true → Stops is_inner rest → split_word (word ++ rest) ≡ (word, rest)
split_again word rest all stops =
    rw (front_len is_inner word rest all stops, take_at word rest (length word) refl, drop_at word rest (length word) refl) refl

-- a word is read again, whatever follows that can't belong to it
pub word_again : (word rest : List ℕ) → list_all is_inner word ≡ true → Stops is_inner rest → word_at (word_field word ++ rest) ≡ Some (word, rest)
unfolding word_at
word_again word rest all stops = ap (λ (p : List ℕ × List ℕ). Some p) (split_again word rest all stops)

pub spelled_again : {X : Type 0} (spelled : List ℕ → Option X) (word : List ℕ) (value : X) (rest : List ℕ) → spelled word ≡ Some value → list_all is_inner word ≡ true → Stops is_inner rest →
    spelled_at spelled (word_field word ++ rest) ≡ Some (value, rest)
unfolding spelled_at
spelled_again spelled word value rest is all stops = rw (word_again word rest all stops, is) refl
