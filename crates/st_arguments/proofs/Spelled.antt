-- An argument that is copied word by word: what its words spell in a memory.
use native.Mathlib.Omega.{arith}
use Rattle.std.proofs.Common.{◌≡◌, ◌≤◌, ℕ, zero, suc, ◌+◌, ◌-◌, List, [], ◌∷◌, ◌++◌, length, refl, sym, ap, subst, ◌∙◌, Some, None, IsSome, length-append}
use Rattle.st_calls.specs.declared.argument.PartKind.{PartKind}
use Rattle.st_model.specs.Memory.{word_of}
use Rattle.st_model.specs.Spelling.{Spelled, Text, Fault, More, spell}
use Rattle.st_model.specs.declared.limits.TheConstants.{SPACE_WORDS}
use Rattle.st_law.specs.Arguments.{spelled_in, spelled_on, spelled_within}
use Rattle.st_translate.specs.Copied.{Copied, asked_word, copy_fault, spelled_words, with_word}
use Rattle.st_translate.proofs.Asked.{few_words}
use Rattle.st_arguments.specs.Parts.{IsSpelledBy}

-- if the word at an index is asked for, the spelling goes on with it
on_more : (further : ℕ → Spelled) (s : Spelled) (place : ℕ) → Some place ≡ asked_word s → spelled_on further s ≡ further place
on_more further (Text text) place e = cc
on_more further (Fault errno) place e = cc
on_more further (More other) place e = let same : place ≡ other = by e in ap further (sym same) where
  by : Some place ≡ Some other → place ≡ other
  by e = cc

-- if no word is asked for, the spelling is at its end
on_end : (further : ℕ → Spelled) (s : Spelled) → asked_word s ≡ None → spelled_on further s ≡ s
on_end further (Text text) e = refl
on_end further (Fault errno) e = refl
on_end further (More place) e = cc

-- words copied from a memory: with the words that are left, they spell what the memory spells
pub record IsCopying (bytes : ℕ → ℕ) (kind : PartKind) (at : ℕ) (copied : Copied) : Type 0 where
  pub kind_is : copied.kind ≡ kind
  pub at_is : copied.at ≡ at
  pub few : length copied.words ≤ 193
  pub comes_to : (left : ℕ) → left + length copied.words ≡ SPACE_WORDS → spelled_within left kind at bytes copied.words ≡ spelled_in bytes kind at

module _ (bytes : ℕ → ℕ) (kind : PartKind) (at : ℕ) where
  pub copying_begun : (copied : Copied) → copied ≡ record { kind = kind; at = at; words = [] } → IsCopying bytes kind at copied
  copying_begun copied is = subst (IsCopying bytes kind at) (sym is) (record {
    kind_is = refl;
    at_is = refl;
    few = omega arith;
    comes_to = λ left all. let full : left ≡ SPACE_WORDS = omega (arith, all) in ap (λ n. spelled_within n kind at bytes []) full;
  })

  spelled_is : (copied : Copied) → IsCopying bytes kind at copied → spelled_words copied ≡ spell kind at copied.words
  spelled_is copied x = ap (λ (k : PartKind). spell k copied.at copied.words) x.kind_is ∙ ap (λ (n : ℕ). spell kind n copied.words) x.at_is

  -- few words have been copied if one more is asked for
  pub few_copied : (copied : Copied) → IsCopying bytes kind at copied → IsSome (asked_word (spelled_words copied)) → length copied.words ≤ 192
  few_copied copied x some = few_words copied.kind copied.at copied.words some

  pub copying_on : (copied : Copied) (place word : ℕ) → IsCopying bytes kind at copied → Some place ≡ asked_word (spelled_words copied) → word ≡ word_of bytes place → IsCopying bytes kind at (with_word copied word)
  copying_on copied place word x asked is =
      let more : length (copied.words ++ word ∷ []) ≡ length copied.words + 1 = length-append copied.words (word ∷ []) in
      let few : length copied.words ≤ 192 = few_copied copied x (subst IsSome asked refl) in
      record {
        kind_is = x.kind_is;
        at_is = x.at_is;
        few = omega (arith, more, few);
        comes_to = λ left all.
            ap (λ (w : ℕ). spelled_within left kind at bytes (copied.words ++ w ∷ [])) is
            ∙ sym (on_more (λ place. spelled_within left kind at bytes (copied.words ++ word_of bytes place ∷ [])) (spell kind at copied.words) place (asked ∙ ap asked_word (spelled_is copied x)))
            ∙ x.comes_to (suc left) (omega (arith, more, all));
      }

  end_within : (left : ℕ) (words : List ℕ) → asked_word (spell kind at words) ≡ None → spelled_within left kind at bytes words ≡ spell kind at words
  end_within zero words e = refl
  end_within (suc left) words e = on_end _ (spell kind at words) e

  pub copying_ended : (copied : Copied) → IsCopying bytes kind at copied → None ≡ asked_word (spelled_words copied) → IsSpelledBy bytes kind at (spelled_words copied)
  copying_ended copied x quiet = record {
    is =
        let few : length copied.words ≤ 193 = x.few in
        let all : (SPACE_WORDS - length copied.words) + length copied.words ≡ SPACE_WORDS = omega (arith, few) in
        sym (x.comes_to (SPACE_WORDS - length copied.words) all)
        ∙ end_within (SPACE_WORDS - length copied.words) copied.words (ap asked_word (sym (spelled_is copied x)) ∙ sym quiet)
        ∙ sym (spelled_is copied x);
  }

  -- an argument whose value is in a register is spelled without a word
  pub spelled_plain : (text : List ℕ) → spell kind at [] ≡ Text text → IsSpelledBy bytes kind at (Text text)
  spelled_plain text e = record { is = end_within SPACE_WORDS [] (ap asked_word e) ∙ e }

-- words with a fault spell that fault
pub fault_spelled : (s : Spelled) {errno : _} → Some errno ≡ copy_fault s → s ≡ Fault errno
fault_spelled (Text text) e = cc
fault_spelled (Fault other) e = cc
fault_spelled (More place) e = cc
