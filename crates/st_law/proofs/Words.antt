-- A part that is read in one step gives a text or a fault.
use native.Mathlib.Omega.{arith}
use Rattle.std.proofs.Common.{◌≡◌, ◌≤◌, ℕ, zero, suc, ◌+◌, Bool, true, false, List, [], ◌∷◌, ◌++◌, length, refl, length-append}
use Rattle.st_calls.specs.declared.argument.PartKind.{PartKind}
use Rattle.st_model.specs.Spelling.{Spelled, Text, Fault, More, spell}
use Rattle.st_model.specs.declared.limits.TheConstants.{SPACE_WORDS}
use Rattle.st_model.specs.Memory.{word_of}
use Rattle.st_model.proofs.Words.{few_words_of}
use Rattle.st_law.specs.Arguments.{spelled_on, spelled_within, spelled_in}

-- whether one more word is needed
abbrev pub asks_word : Spelled → Bool
asks_word (Text text) = false
asks_word (Fault errno) = false
asks_word (More place) = true

asks_no_more : (s : Spelled) → ((place : ℕ) → s ≡ More place → ⊥) → asks_word s ≡ false
asks_no_more (Text text) quiet = refl
asks_no_more (Fault errno) quiet = refl
asks_no_more (More place) quiet = absurd (quiet place refl)

ends_on : (further : ℕ → Spelled) (s : Spelled) → ((place : ℕ) → asks_word (further place) ≡ false) → asks_word (spelled_on further s) ≡ false
ends_on further (Text text) rest = refl
ends_on further (Fault errno) rest = refl
ends_on further (More place) rest = rest place

ends_within : (count : ℕ) (k : PartKind) (at : ℕ) (bytes : ℕ → ℕ) (words : List ℕ) → 193 ≤ count + length words → asks_word (spelled_within count k at bytes words) ≡ false
ends_within zero k at bytes words enough = asks_no_more (spell k at words) (λ place e. let few = few_words_of k at words place e in omega (arith, few, enough))
ends_within (suc count) k at bytes words enough = ends_on _ (spell k at words) (λ place. ends_within count k at bytes (words ++ word_of bytes place ∷ []) (let more = length-append words (word_of bytes place ∷ []) in omega (arith, more, enough)))

-- a part that is read in one step needs no further word: it is a text or a fault
pub ends_in : (bytes : ℕ → ℕ) (k : PartKind) (at : ℕ) → asks_word (spelled_in bytes k at) ≡ false
ends_in bytes k at = ends_within SPACE_WORDS k at bytes [] (omega arith)
