-- What a call that isn't held takes in one step is what a worker would copy and see if nothing changed meanwhile.
use native.Mathlib.Omega.{arith}
use Rattle.std.proofs.Common.{◌≡◌, ◌⊎◌, ℕ, zero, suc, ◌+◌, Bool, List, [], ◌∷◌, ◌++◌, slice_get, slice_index_or, Option, Some, None, refl, sym, ap, subst, ◌∙◌, inl, inr}
use Rattle.std.proofs.lemmas.List.{append_assoc, append-nil}
use Rattle.st_calls.specs.Argument.{args_of}
use Rattle.st_calls.specs.Call.{follows}
use Rattle.st_calls.specs.declared.argument.ArgSpec.{ArgSpec}
use Rattle.st_calls.specs.declared.argument.PartKind.{PartKind}
use Rattle.st_calls.specs.declared.argument.PartKind.TheVariants as kind
use Rattle.st_model.specs.Memory.{word_of}
use Rattle.st_model.specs.Spelling.{Spelled, Text, Fault, More, spell}
use Rattle.st_model.specs.Tree.{Tree, look}
use Rattle.st_model.specs.Walk as walk
use Rattle.st_model.specs.declared.limits.TheConstants.{SPACE_WORDS}
use Rattle.st_names.specs.Name.{Components}
use Rattle.st_names.specs.declared.seen.SeenText.{SeenText}
use Rattle.st_effects.specs.Progress.{Progress, ArgRequest, progress_from, progress_of_walk, progress_of_text, progress_of_spelling}
use Rattle.st_law.specs.Arguments.{Surroundings, spelled_within, spelled_on, part_of_text, part_of_spelling, parts_from}
use Rattle.st_law.specs.OneStep.{AreWordsOf, AreLookupsOf, AreTakenInOneStep}

-- ---- extending a list by one item at a time

-- a list gives a result, or asks for one more item, which its source has; at most this many times
module _ {A P R : Type 0} (come : List A → R) (Asks : R → P → Type 0) (source : P → A) (within : ℕ → List A → R)
    (none : (xs : List A) → within 0 xs ≡ come xs)
    (one : (n : ℕ) (xs : List A) → ((p : P) × Asks (come xs) p × (within (suc n) xs ≡ within n (xs ++ source p ∷ []))) ⊎ (within (suc n) xs ≡ come xs)) where
  -- the list with more items, each of which the items before it ask for
  pub record Taken (n : ℕ) (xs : List A) : Type 0 where
    pub more : List A
    pub is : within n xs ≡ come (xs ++ more)
    pub each : (front : List A) (x : A) (rest : List A) → more ≡ front ++ x ∷ rest → (p : P) × Asks (come (xs ++ front)) p × (x ≡ source p)

  no_more : (front : List A) (x : A) (rest : List A) → [] ≡ front ++ x ∷ rest → ⊥
  no_more [] x rest e = cc
  no_more (first ∷ front) x rest e = cc

  ended : (n : ℕ) (xs : List A) → within n xs ≡ come xs → Taken n xs
  ended n xs e = record { more = []; is = e ∙ ap come (sym (append-nil xs)); each = λ front x rest f. absurd (no_more front x rest f) }

  further : (n : ℕ) (xs : List A) (p : P) → Asks (come xs) p → within (suc n) xs ≡ within n (xs ++ source p ∷ []) → Taken n (xs ++ source p ∷ []) → Taken (suc n) xs
  further n xs p asks e x = record { more = source p ∷ x.more; is = e ∙ x.is ∙ ap come (append_assoc xs (source p ∷ []) x.more); each = each } where
    each : (front : List A) (y : A) (rest : List A) → source p ∷ x.more ≡ front ++ y ∷ rest → (p : P) × Asks (come (xs ++ front)) p × (y ≡ source p)
    each [] y rest f = (p, subst (λ ys. Asks (come ys) p) (sym (append-nil xs)) asks, cc)
    each (first ∷ front) y rest f =
        let split : x.more ≡ front ++ y ∷ rest = cc in
        let same : source p ≡ first = cc in
        let z = x.each front y rest split in
        (z.0, subst (λ ys. Asks (come ys) z.0) (append_assoc xs (source p ∷ []) front ∙ ap (λ a. xs ++ a ∷ front) same) z.1, z.2)

  taken_by : (n : ℕ) (xs : List A) → ((p : P) → Taken n (xs ++ source p ∷ [])) → ((p : P) × Asks (come xs) p × (within (suc n) xs ≡ within n (xs ++ source p ∷ []))) ⊎ (within (suc n) xs ≡ come xs) → Taken (suc n) xs
  taken_by n xs deeper (inl x) = further n xs x.0 x.1 x.2 (deeper x.0)
  taken_by n xs deeper (inr e) = ended (suc n) xs e

  pub taken : (n : ℕ) (xs : List A) → Taken n xs
  taken zero xs = ended 0 xs (none xs)
  taken (suc n) xs = taken_by n xs (λ p. taken n (xs ++ source p ∷ [])) (one n xs)

-- ---- words

module _ (bytes : ℕ → ℕ) (k : PartKind) (at : ℕ) where
  abbrev AsksWord : Spelled → ℕ → Type 0
  AsksWord s place = s ≡ More place

  one_word : (n : ℕ) (words : List ℕ) → ((place : ℕ) × (spell k at words ≡ More place) × (spelled_within (suc n) k at bytes words ≡ spelled_within n k at bytes (words ++ word_of bytes place ∷ []))) ⊎ (spelled_within (suc n) k at bytes words ≡ spell k at words)
  one_word n words = by (spell k at words) refl where
    by : (s : Spelled) → spell k at words ≡ s → ((place : ℕ) × (spell k at words ≡ More place) × (spelled_within (suc n) k at bytes words ≡ spelled_within n k at bytes (words ++ word_of bytes place ∷ []))) ⊎ (spelled_within (suc n) k at bytes words ≡ spell k at words)
    by (Text text) e = inr (ap (spelled_on (λ place. spelled_within n k at bytes (words ++ word_of bytes place ∷ []))) e ∙ sym e)
    by (Fault errno) e = inr (ap (spelled_on (λ place. spelled_within n k at bytes (words ++ word_of bytes place ∷ []))) e ∙ sym e)
    by (More place) e = inl (place, e, ap (spelled_on (λ place. spelled_within n k at bytes (words ++ word_of bytes place ∷ []))) e)

  words_taken : Taken (spell k at) AsksWord (word_of bytes) (λ n words. spelled_within n k at bytes words) (λ words. refl) one_word SPACE_WORDS []
  words_taken = taken (spell k at) AsksWord (word_of bytes) (λ n words. spelled_within n k at bytes words) (λ words. refl) one_word SPACE_WORDS []

-- ---- lookups

module _ (tree : Tree) (cwd : Components) (text : List ℕ) (follow : Bool) where
  abbrev AsksName : walk.WalkState → Components → Type 0
  AsksName s name = s ≡ walk.Next name

  abbrev come_to : List SeenText → walk.WalkState
  come_to lookups = walk.start_walk text cwd follow lookups

  abbrev resolved : ℕ → List SeenText → walk.WalkState
  resolved n lookups = walk.resolve_within n tree cwd text follow lookups

  one_look : (n : ℕ) (lookups : List SeenText) → ((name : Components) × (come_to lookups ≡ walk.Next name) × (resolved (suc n) lookups ≡ resolved n (lookups ++ look tree name ∷ []))) ⊎ (resolved (suc n) lookups ≡ come_to lookups)
  one_look n lookups = by (come_to lookups) refl where
    by : (s : walk.WalkState) → come_to lookups ≡ s → ((name : Components) × (come_to lookups ≡ walk.Next name) × (resolved (suc n) lookups ≡ resolved n (lookups ++ look tree name ∷ []))) ⊎ (resolved (suc n) lookups ≡ come_to lookups)
    by (walk.Name name) e = inr (ap (walk.walk_through (λ name. resolved n (lookups ++ look tree name ∷ []))) e ∙ sym e)
    by (walk.Fault errno) e = inr (ap (walk.walk_through (λ name. resolved n (lookups ++ look tree name ∷ []))) e ∙ sym e)
    by (walk.Next name) e = inl (name, e, ap (walk.walk_through (λ name. resolved n (lookups ++ look tree name ∷ []))) e)

  lookups_taken : Taken come_to AsksName (look tree) resolved (λ lookups. refl) one_look (walk.most_lookups tree text) []
  lookups_taken = taken come_to AsksName (look tree) resolved (λ lookups. refl) one_look (walk.most_lookups tree text) []

-- ---- all parts

module _ (asked : ArgRequest) (around : Surroundings) where
  abbrev value_of : ArgSpec → ℕ
  value_of spec = slice_index_or asked.regs spec.register 0

  abbrev follow_of : ArgSpec → Bool
  follow_of spec = follows asked.call asked.regs spec.register

  abbrev words_of : ArgSpec → List ℕ
  words_of spec = (words_taken around.bytes spec.kind (value_of spec)).more

  abbrev lookups_by : ArgSpec → Spelled → List SeenText
  lookups_by spec (Text text) = (lookups_taken around.tree asked.cwd text (follow_of spec)).more
  lookups_by spec _ = []

  abbrev lookups_of : ArgSpec → List SeenText
  lookups_of spec = lookups_by spec (spell spec.kind (value_of spec) (words_of spec))

  abbrev words_in : Option ArgSpec → List ℕ
  words_in None = []
  words_in (Some spec) = words_of spec

  abbrev lookups_in : Option ArgSpec → List SeenText
  lookups_in None = []
  lookups_in (Some spec) = lookups_of spec

  abbrev all_words : ℕ → List ℕ
  all_words j = words_in (slice_get (args_of asked.rule) j)

  abbrev all_lookups : ℕ → List SeenText
  all_lookups j = lookups_in (slice_get (args_of asked.rule) j)

  -- the text of a part is known
  text_same : (k : PartKind) (j : ℕ) (spec : ArgSpec) (text : List ℕ) (rest : Progress) →
      part_of_text k j spec asked around.tree text rest ≡ progress_of_text k j spec asked.cwd (follow_of spec) (lookups_by spec (Text text)) text rest
  text_same kind.Name j spec text rest = ap (λ s. progress_of_walk j spec s rest) (lookups_taken around.tree asked.cwd text (follow_of spec)).is
  text_same _ j spec text rest = refl

  part_same : (j : ℕ) (spec : ArgSpec) (s : Spelled) (rest : Progress) →
      part_of_spelling j spec asked around.tree s rest ≡ progress_of_spelling j spec asked.cwd (follow_of spec) (lookups_by spec s) s rest
  part_same j spec (More place) rest = refl
  part_same j spec (Fault errno) rest = refl
  part_same j spec (Text text) rest = text_same spec.kind j spec text rest

  parts_same : (j : ℕ) (specs : List ArgSpec) → ((k : ℕ) → slice_get (args_of asked.rule) (j + k) ≡ slice_get specs k) → parts_from j specs asked around ≡ progress_from j specs asked all_words all_lookups
  parts_same j [] at = refl
  parts_same j (spec ∷ specs) at =
      let here : slice_get (args_of asked.rule) j ≡ Some spec = ap (slice_get (args_of asked.rule)) (omega arith) ∙ at 0 in
      let there : Some spec ≡ slice_get (args_of asked.rule) j = sym here in
      let rest : parts_from (j + 1) specs asked around ≡ progress_from (j + 1) specs asked all_words all_lookups =
      parts_same (j + 1) specs (λ k. ap (slice_get (args_of asked.rule)) (omega arith) ∙ at (suc k)) in
      ap (λ s. part_of_spelling j spec asked around.tree s (parts_from (j + 1) specs asked around)) (words_taken around.bytes spec.kind (value_of spec)).is
      ∙ part_same j spec (spell spec.kind (value_of spec) (words_of spec)) (parts_from (j + 1) specs asked around)
      ∙ (λ k. progress_of_spelling j spec asked.cwd (follow_of spec) (lookups_in (there k)) (spell spec.kind (value_of spec) (words_in (there k))) (rest k))

  pub arguments_taken : (words : ℕ → List ℕ) × (lookups : ℕ → List SeenText) × AreTakenInOneStep asked around words lookups
  arguments_taken = (
    all_words,
    all_lookups,
    record {
      words_are = λ j spec is. subst (λ o. AreWordsOf around.bytes spec.kind (value_of spec) (words_in o)) (sym is) (words_taken around.bytes spec.kind (value_of spec)).each;
      lookups_are = λ j spec text is spelled. subst (λ o. AreLookupsOf around.tree asked.cwd (follow_of spec) text (lookups_in o)) (sym is)
          (subst (λ s. AreLookupsOf around.tree asked.cwd (follow_of spec) text (lookups_by spec s)) (sym (ap (λ o. spell spec.kind (value_of spec) (words_in o)) (sym is) ∙ spelled))
          (lookups_taken around.tree asked.cwd text (follow_of spec)).each);
      arguments = parts_same 0 (args_of asked.rule) (λ k. ap (slice_get (args_of asked.rule)) (omega arith));
    },
  )
