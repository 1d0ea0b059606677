-- Words that were each asked for by the words before them.
use native.Mathlib.Omega.{arith}
use Rattle.std.proofs.Common.{◌≡◌, ◌<◌, ◌≤◌, ℕ, Bool, true, false, List, [], ◌∷◌, ◌++◌, length, take, IsSome, refl, ap, sym, subst, ◌∙◌, nat_lt, length-append}
use Rattle.std.proofs.lemmas.Bool.{ltb-true, ltb-false}
use Rattle.std.proofs.lemmas.List.{take-append-le, take_all}
use Rattle.st_calls.specs.declared.argument.PartKind.{PartKind}
use Rattle.st_model.specs.Spelling.{Spelled, Text, Fault, More, spell}
use Rattle.st_model.proofs.Words.{few_words_of}
use Rattle.st_translate.specs.Copied.{asked_word}
use Rattle.st_translate.specs.Stage.{AreAsked}

-- there are at most 192 such words
pub few_words : (kind : PartKind) (at : ℕ) (words : List ℕ) → IsSome (asked_word (spell kind at words)) → length words ≤ 192
few_words kind at words some = by_state (spell kind at words) refl some where
  by_state : (s : Spelled) → spell kind at words ≡ s → IsSome (asked_word s) → length words ≤ 192
  by_state (Text text) e h = cc
  by_state (Fault errno) e h = cc
  by_state (More place) e h = few_words_of kind at words place e

-- one more word that is asked for
pub AreAsked-push : (kind : PartKind) (at : ℕ) (words : List ℕ) (word : ℕ) → AreAsked kind at words → IsSome (asked_word (spell kind at words)) → AreAsked kind at (words ++ word ∷ [])
AreAsked-push kind at words word asked some = λ count below.
    by_test count below (nat_lt count (length words)) refl where
      by_test : (count : ℕ) → count < length (words ++ word ∷ []) → (b : Bool) → nat_lt count (length words) ≡ b → IsSome (asked_word (spell kind at (take count (words ++ word ∷ []))))
      by_test count below true t =
          let early = ltb-true count (length words) t in
          subst (λ (ws : List ℕ). IsSome (asked_word (spell kind at ws))) (sym (take-append-le count words (word ∷ []) (omega (arith, early)))) (asked count early)
      by_test count below false t =
          let late = ltb-false count (length words) t in
          let whole = length-append words (word ∷ []) in
          let all : take count (words ++ word ∷ []) ≡ words = take-append-le count words (word ∷ []) (omega (arith, late, below, whole)) ∙ take_all count words late in
          subst (λ (ws : List ℕ). IsSome (asked_word (spell kind at ws))) (sym all) some

-- a prefix of words that were asked for
pub AreAsked-take : (kind : PartKind) (at : ℕ) (words front : List ℕ) (word : ℕ) → words ≡ front ++ word ∷ [] → AreAsked kind at words → AreAsked kind at front
AreAsked-take kind at words front word e asked = λ count below.
    let whole = length-append front (word ∷ []) in
    let its = ap length e in
    let same : take count words ≡ take count front = ap (take count) e ∙ take-append-le count front (word ∷ []) (omega (arith, below)) in
    subst (λ (ws : List ℕ). IsSome (asked_word (spell kind at ws))) same (asked count (omega (arith, whole, its, below)))
