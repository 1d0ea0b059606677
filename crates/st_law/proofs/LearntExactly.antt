-- The learnt filter holds of exactly the calls that have each of the arguments that it was learnt from.
use Rattle.std.proofs.Common.{◌≡◌, ◌↔◌, ℕ, zero, suc, Bool, true, false, ◌&&◌, ◌||◌, ◌==◌, List, [], ◌∷◌, slice_get, Some, None, refl, ap, subst, ◌∙◌}
use Rattle.std.proofs.lemmas.Option.{same_Some}
use Rattle.std.proofs.lemmas.Bool.{and_from, and_parts, eqb-true, eq-eqb, or_left, or_right}
use Rattle.std.proofs.lemmas.Slice.Eq.{bytes_eq-Decides}
use Rattle.std.specs.List.{fold, list_any}
use Rattle.std.specs.Str.{bytes_eq}
use Rattle.st_calls.specs.Argument.{name_of_label}
use Rattle.st_calls.specs.declared.argument.ArgText.{ArgText}
use Rattle.st_calls.specs.declared.judged.Snapshot.{Snapshot}
use Rattle.st_filter.specs.Formula.{Formula, And}
use Rattle.st_filter.specs.Judging.{holds, ids_match, is_true, test_holds_of}
use Rattle.st_filter.specs.declared.filter.Op.TheVariants.{Eq}
use Rattle.st_law.specs.Laws.{HasEqualArgument, HaveEqualArguments}
use Rattle.st_law.specs.Sessions.{test_of, learnt_formula, learnt_filter}

-- ---- one test

-- if a test holds of some item, such an item exists
pub record There {X : Type 0} (p : X → Bool) (xs : List X) : Type 0 where
  pub place : ℕ
  pub item : X
  pub there : slice_get xs place ≡ Some item
  pub holds : p item ≡ true

there_of : {X : Type 0} (p : X → Bool) (xs : List X) → list_any p xs ≡ true → There p xs
there_of p [] e = cc
there_of p (x ∷ xs) e = by (p x) refl e (there_of p xs) where
  by : (b : Bool) → p x ≡ b → (b || list_any p xs) ≡ true → (list_any p xs ≡ true → There p xs) → There p (x ∷ xs)
  by true here f later = record { place = 0; item = x; there = refl; holds = here }
  by false here f later = let y : There p xs = later f in record { place = suc y.place; item = y.item; there = y.there; holds = y.holds }

any_of : {X : Type 0} (p : X → Bool) (xs : List X) (k : ℕ) (x : X) → slice_get xs k ≡ Some x → p x ≡ true → list_any p xs ≡ true
any_of p [] zero x e f = cc
any_of p [] (suc k) x e f = cc
any_of p (first ∷ xs) zero x e f = let same : first ≡ x = cc in or_left (p first) (list_any p xs) (ap p same ∙ f)
any_of p (first ∷ xs) (suc k) x e f = or_right (p first) (list_any p xs) (any_of p xs k x e f)

module _ (args : List ArgText) where
  test_tells : (arg : ArgText) → is_true (test_of arg) args ≡ true → HasEqualArgument args arg
  test_tells arg e =
      let x : There (test_holds_of (name_of_label arg.label) arg.index Eq arg.text) args = there_of (test_holds_of (name_of_label arg.label) arg.index Eq arg.text) args e in
      let both = and_parts (bytes_eq (name_of_label x.item.label) (name_of_label arg.label) && x.item.index == arg.index) (bytes_eq x.item.text arg.text) x.holds in
      let two = and_parts (bytes_eq (name_of_label x.item.label) (name_of_label arg.label)) (x.item.index == arg.index) both.0 in record {
        place = x.place;
        same = x.item;
        there = x.there;
        label = (bytes_eq-Decides (name_of_label x.item.label) (name_of_label arg.label)).0 two.0;
        index = eqb-true x.item.index arg.index two.1;
        text = (bytes_eq-Decides x.item.text arg.text).0 both.1;
      }

  test_recorded : (arg : ArgText) → HasEqualArgument args arg → is_true (test_of arg) args ≡ true
  test_recorded arg x = any_of (test_holds_of (name_of_label arg.label) arg.index Eq arg.text) args x.place x.same x.there
      (and_from (bytes_eq (name_of_label x.same.label) (name_of_label arg.label) && x.same.index == arg.index) (bytes_eq x.same.text arg.text)
      (and_from (bytes_eq (name_of_label x.same.label) (name_of_label arg.label)) (x.same.index == arg.index)
      ((bytes_eq-Decides (name_of_label x.same.label) (name_of_label arg.label)).1 x.label) (eq-eqb x.same.index arg.index x.index))
      ((bytes_eq-Decides x.same.text arg.text).1 x.text))

  -- ---- all tests

  abbrev joined : Formula → List ArgText → Formula
  joined f rest = fold (λ formula other. And formula (test_of other)) f rest

  joined_tells : (f : Formula) (rest : List ArgText) → is_true (joined f rest) args ≡ true → (is_true f args ≡ true) × HaveEqualArguments args rest
  joined_tells f [] e = (e, λ j arg there. absurd (nothing j arg there)) where
    nothing : (j : ℕ) (arg : ArgText) → slice_get [] j ≡ Some arg → ⊥
    nothing zero arg e = cc
    nothing (suc j) arg e = cc
  joined_tells f (first ∷ rest) e =
      let x : (is_true (And f (test_of first)) args ≡ true) × HaveEqualArguments args rest = joined_tells (And f (test_of first)) rest e in
      let both = and_parts (is_true f args) (is_true (test_of first) args) x.0 in
      (both.0, each (test_tells first both.1) x.1) where
        each : HasEqualArgument args first → HaveEqualArguments args rest → HaveEqualArguments args (first ∷ rest)
        each here later zero arg there = subst (HasEqualArgument args) (same_Some first arg there) here
        each here later (suc j) arg there = later j arg there

  joined_recorded : (f : Formula) (rest : List ArgText) → is_true f args ≡ true → HaveEqualArguments args rest → is_true (joined f rest) args ≡ true
  joined_recorded f [] e all = e
  joined_recorded f (first ∷ rest) e all =
      joined_recorded (And f (test_of first)) rest (and_from (is_true f args) (is_true (test_of first) args) e (test_recorded first (all 0 first refl))) (λ j arg there. all (suc j) arg there)

  tells : (wanted : List ArgText) → is_true (learnt_formula wanted) args ≡ true → HaveEqualArguments args wanted
  tells [] e = (joined_tells (learnt_formula []) [] e).1
  tells (first ∷ rest) e = each (joined_tells (test_of first) rest e) where
    each : (is_true (test_of first) args ≡ true) × HaveEqualArguments args rest → HaveEqualArguments args (first ∷ rest)
    each x zero arg there = subst (HasEqualArgument args) (same_Some first arg there) (test_tells first x.0)
    each x (suc j) arg there = x.1 j arg there

  recorded : (wanted : List ArgText) → HaveEqualArguments args wanted → is_true (learnt_formula wanted) args ≡ true
  recorded [] all = refl
  recorded (first ∷ rest) all = joined_recorded (test_of first) rest (test_recorded first (all 0 first refl)) (λ j arg there. all (suc j) arg there)

pub exactly : (s u : Snapshot) → (holds (learnt_filter s) u ≡ true) ↔ HaveEqualArguments u.parts s.parts
exactly s u = (
  λ e. tells u.parts s.parts (and_parts (is_true (learnt_formula s.parts) u.parts) (ids_match None u.ids) e).0,
  λ all. and_from (is_true (learnt_formula s.parts) u.parts) (ids_match None u.ids) (recorded u.parts s.parts all) refl,
)
