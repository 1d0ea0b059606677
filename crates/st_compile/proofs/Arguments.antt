-- The argument that a test is of, found by its place.
use Rattle.std.proofs.Common.{drop, get_or, ◌+◌, ◌≡◌, ◌<◌, ◌∙◌, ◌&&◌, ◌||◌, ◌==◌, not, ℕ, suc, zero, Bool, true, false, cond, List, [], ◌∷◌, length, Option, Some, None, refl, ap, sym, arith}
use Rattle.std.proofs.lemmas.Bool.Decides.{Decides-eqb, Decides-ltb}
use Rattle.std.proofs.lemmas.List.{drop_more}
use Rattle.std.proofs.lemmas.Option.{same_Some, slice_get-get_or}
use Rattle.std.proofs.lemmas.List.Quantifiers.{position-Some}
use Rattle.std.proofs.lemmas.Slice.Eq.{bytes_eq-Decides}
use Rattle.std.specs.List.{list_any, position, position_or_len}
use Rattle.std.specs.Prelude.{slice_get}
use Rattle.std.specs.Str.{bytes_eq}
use Rattle.st_calls.specs.Argument.{args_of, filename, name_of_label}
use Rattle.st_calls.specs.declared.argument.ArgSpec.{ArgSpec}
use Rattle.st_calls.specs.declared.argument.ArgText.{ArgText}
use Rattle.st_calls.specs.declared.call.SysCall.TheVariants.{Open}
use Rattle.st_calls.specs.declared.rule.Rule.{Rule}
use Rattle.st_calls.specs.declared.rule.Rule.TheVariants.{Call, FsRead, FsWrite}
use Rattle.st_filter.specs.Judging.{compares, test_holds_of}
use Rattle.st_filter.specs.declared.filter.FilterName.{FilterName}
use Rattle.st_filter.specs.declared.filter.FilterName.TheVariants as name
use Rattle.st_filter.specs.declared.filter.Op.{Op}
use Rattle.st_compile.specs.Arguments.{are_at_places, are_distinct, args_of_name, is_at_place, is_called}
use Rattle.st_compile.proofs.Asking.{left_of, right_of}

-- ---- no rule has two arguments with one label and index

distinct_of : (rule : Rule) → are_distinct (args_of rule) ≡ true
distinct_of (Call Open) = refl
distinct_of (Call call) = refl
distinct_of FsRead = refl
distinct_of FsWrite = refl

pub all_distinct : (n : FilterName) → are_distinct (args_of_name n) ≡ true
all_distinct (name.Rule rule) = distinct_of rule
all_distinct (name.Other other) = refl

-- ---- lists with a test

some_at : {X : Type 0} (p : X → Bool) (xs : List X) (k : ℕ) (x : X) → slice_get xs k ≡ Some x → p x ≡ true → list_any p xs ≡ true
some_at p [] k x at is = cc
some_at p (y ∷ xs) zero x at is = ap (λ b. b || list_any p xs) (ap p (same_Some y x at) ∙ is)
some_at p (y ∷ xs) (suc k) x at is = by (p y) (some_at p xs k x at is) where
  by : (b : Bool) → list_any p xs ≡ true → (b || list_any p xs) ≡ true
  by true later = refl
  by false later = later

place_within : {X : Type 0} (p : X → Bool) (xs : List X) → list_any p xs ≡ true → position_or_len p xs < length xs
place_within p [] some = cc
place_within p (x ∷ xs) some = by (p x) some (place_within p xs) where
  by : (b : Bool) → (b || list_any p xs) ≡ true → (list_any p xs ≡ true → position_or_len p xs < length xs) → cond (not b) (1 + position_or_len p xs) 0 < suc (length xs)
  by true some later = omega arith
  by false some later = let less = later some in omega (arith, less)

-- what has no place isn't there
pub none_without_place : {X : Type 0} (p : X → Bool) (xs : List X) → position p xs ≡ None → list_any p xs ≡ false
none_without_place p xs none = by (list_any p xs) refl where
  clash : Some (position_or_len p xs) ≡ None → ⊥
  clash e = cc

  by : (b : Bool) → list_any p xs ≡ b → b ≡ false
  by false is = refl
  by true is = absurd (clash (sym (ap (λ b. cond b (Some (position_or_len p xs)) None) ((Decides-ltb (position_or_len p xs) (length xs)).1 (place_within p xs is))) ∙ none))

-- ---- the arguments of a call, if they are those of its rule

-- whether an optional argument compares as a test says
abbrev pub compares_there : Op → List ℕ → Option ArgText → Bool
compares_there op text None = false
compares_there op text (Some arg) = compares op arg.text text

module _ (label : List ℕ) (index : ℕ) where
  -- what a call's argument is called, its rule's argument is called
  called : (spec : ArgSpec) (arg : ArgText) → is_at_place spec arg ≡ true → (bytes_eq (name_of_label arg.label) label && arg.index == index) ≡ is_called label index spec
  called spec arg is =
      let same_label : name_of_label arg.label ≡ name_of_label spec.label = (bytes_eq-Decides (name_of_label arg.label) (name_of_label spec.label)).0 (left_of (bytes_eq (name_of_label arg.label) (name_of_label spec.label)) (arg.index == spec.index) is) in
      let same_index : arg.index ≡ spec.index = (Decides-eqb arg.index spec.index).0 (right_of (bytes_eq (name_of_label arg.label) (name_of_label spec.label)) (arg.index == spec.index) is) in
      λ k. bytes_eq (same_label k) label && (same_index k == index)

  -- what is called so is another than what is called otherwise
  none_else : (spec : ArgSpec) (specs : List ArgSpec) → are_distinct (spec ∷ specs) ≡ true → is_called label index spec ≡ true → list_any (is_called label index) specs ≡ false
  none_else spec specs distinct is =
      let same_label : name_of_label spec.label ≡ label = (bytes_eq-Decides (name_of_label spec.label) label).0 (left_of (bytes_eq (name_of_label spec.label) label) (spec.index == index) is) in
      let same_index : spec.index ≡ index = (Decides-eqb spec.index index).0 (right_of (bytes_eq (name_of_label spec.label) label) (spec.index == index) is) in
      (λ k. list_any (is_called (sym same_label k) (sym same_index k)) specs)
      ∙ not_true (list_any (is_called (name_of_label spec.label) spec.index) specs) (left_of (not (list_any (is_called (name_of_label spec.label) spec.index) specs)) (are_distinct specs) distinct)
    where
      not_true : (b : Bool) → not b ≡ true → b ≡ false
      not_true true e = sym e
      not_true false e = refl

  module _ (op : Op) (text : List ℕ) where
    -- no argument passes a test if none is called as it says
    pub none_passes : (specs : List ArgSpec) (args : List ArgText) → are_at_places specs args ≡ true → list_any (is_called label index) specs ≡ false → list_any (test_holds_of label index op text) args ≡ false
    none_passes [] [] at none = refl
    none_passes [] (arg ∷ args) at none = cc
    none_passes (spec ∷ specs) [] at none = refl
    none_passes (spec ∷ specs) (arg ∷ args) at none =
        by (is_called label index spec) refl none (none_passes specs args (right_of (is_at_place spec arg) (are_at_places specs args) at))
      where
        by : (b : Bool) → is_called label index spec ≡ b → (b || list_any (is_called label index) specs) ≡ false → (list_any (is_called label index) specs ≡ false → list_any (test_holds_of label index op text) args ≡ false)
            → list_any (test_holds_of label index op text) (arg ∷ args) ≡ false
        by true is some later = cc
        by false is none later =
            λ k. ((called spec arg (left_of (is_at_place spec arg) (are_at_places specs args) at) ∙ is) k && compares op arg.text text) || later none k

    last_false : (b : Bool) → (b || false) ≡ b
    last_false true = refl
    last_false false = refl

    -- a test is one of the argument at its place
    pub passes_there : (specs : List ArgSpec) (args : List ArgText) (place : ℕ) (spec : ArgSpec) → are_distinct specs ≡ true → are_at_places specs args ≡ true → slice_get specs place ≡ Some spec → is_called label index spec ≡ true
        → compares_there op text (slice_get args place) ≡ list_any (test_holds_of label index op text) args
    passes_there [] args place spec distinct at there is = cc
    passes_there (s ∷ specs) [] place spec distinct at there is = cc
    passes_there (s ∷ specs) (arg ∷ args) zero spec distinct at there is =
        let own : is_called label index s ≡ true = ap (is_called label index) (same_Some s spec there) ∙ is in
        sym ((λ k. ((called s arg (left_of (is_at_place s arg) (are_at_places specs args) at) ∙ own) k && compares op arg.text text)
        || none_passes specs args (right_of (is_at_place s arg) (are_at_places specs args) at) (none_else s specs distinct own) k)
        ∙ last_false (compares op arg.text text))
    passes_there (s ∷ specs) (arg ∷ args) (suc place) spec distinct at there is =
        by (is_called label index s) refl
        (passes_there specs args place spec (right_of (not (list_any (is_called (name_of_label s.label) s.index) specs)) (are_distinct specs) distinct) (right_of (is_at_place s arg) (are_at_places specs args) at) there is)
      where
        clash : true ≡ false → ⊥
        clash e = cc

        by : (b : Bool) → is_called label index s ≡ b → compares_there op text (slice_get args place) ≡ list_any (test_holds_of label index op text) args
            → compares_there op text (slice_get args place) ≡ list_any (test_holds_of label index op text) (arg ∷ args)
        by true own later = absurd (clash (sym (some_at (is_called label index) specs place spec there is) ∙ none_else s specs distinct own))
        by false other later =
            later ∙ (λ k. (sym (called s arg (left_of (is_at_place s arg) (are_at_places specs args) at) ∙ other) k && compares op arg.text text) || list_any (test_holds_of label index op text) args)

    -- a test is one of the argument at the place that was found
    pub passes_found : (specs : List ArgSpec) (args : List ArgText) (place : ℕ) (d : ArgSpec) → are_distinct specs ≡ true → are_at_places specs args ≡ true → position (is_called label index) specs ≡ Some place
        → compares_there op text (slice_get args place) ≡ list_any (test_holds_of label index op text) args
    passes_found specs args place d distinct at found =
        let w = position-Some (is_called label index) specs place d found in
        passes_there specs args place _ distinct at (slice_get-get_or specs place d w.0) w.1

-- arguments that end early aren't those of a rule
ended : (spec : ArgSpec) (specs : List ArgSpec) (args : List ArgText) → length args < 1 → are_at_places (spec ∷ specs) args ≡ false
ended spec specs [] short = refl
ended spec specs (arg ∷ args) short = absurd (omega (arith, short))

pub too_few : (specs : List ArgSpec) (args : List ArgText) (i : ℕ) → i < length specs → length args < 1 → are_at_places (drop i specs) args ≡ false
too_few specs args i within short =
    ap (λ (left : List ArgSpec). are_at_places left args) (drop_more specs i filename within) ∙ ended (get_or specs i filename) (drop (i + 1) specs) args short
