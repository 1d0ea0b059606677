-- A filter that asks for a text first holds of no call without it.
use Rattle.std.proofs.Common.{◌≡◌, ◌∙◌, ◌&&◌, ◌||◌, ℕ, Bool, true, false, List, [], ◌∷◌, refl, ap, sym}
use Rattle.std.proofs.lemmas.Cmp.{nat_list_eq_equiv}
use Rattle.std.specs.List.{list_any}
use Rattle.std.specs.Prelude.{◌==◌}
use Rattle.std.specs.Str.{bytes_eq}
use Rattle.st_calls.specs.Argument.{name_of_label}
use Rattle.st_calls.specs.declared.argument.ArgText.{ArgText}
use Rattle.st_filter.specs.Formula.{Formula, True, Test, Not, And, Or}
use Rattle.st_filter.specs.Judging.{is_true, test_holds_of}
use Rattle.st_filter.specs.declared.filter.Op.{Op}
use Rattle.st_filter.specs.declared.filter.Op.TheVariants as op
use Rattle.st_compile.specs.Asked.{asked_text}

pub left_of : (a b : Bool) → (a && b) ≡ true → a ≡ true
left_of true b e = refl
left_of false b e = e

pub right_of : (a b : Bool) → (a && b) ≡ true → b ≡ true
right_of true b e = e
right_of false b e = cc

pub both_of : (a b : Bool) → a ≡ true → b ≡ true → (a && b) ≡ true
both_of a b e f = λ k. e k && f k

pub last_true : (b : Bool) → (b || true) ≡ true
last_true true = refl
last_true false = refl

-- some argument has the text that is asked for
asked_one : (label : List ℕ) (index : ℕ) (text : List ℕ) (a b : Bool) (arg : ArgText) (args : List ArgText) → test_holds_of label index op.Eq text arg ≡ a → bytes_eq text arg.text ≡ b
    → (a || list_any (test_holds_of label index op.Eq text) args) ≡ true → (list_any (test_holds_of label index op.Eq text) args ≡ true → list_any (λ each. bytes_eq text each.text) args ≡ true) → (b || list_any (λ each. bytes_eq text each.text) args) ≡ true
asked_one label index text a true arg args passes same some later = refl
asked_one label index text false false arg args passes same some later = later some
asked_one label index text true false arg args passes same some later = absurd (clash (sym same ∙ nat_list_eq_equiv.symm text arg.text ∙ right_of (bytes_eq (name_of_label arg.label) label && arg.index == index) (bytes_eq arg.text text) passes)) where
  clash : false ≡ true → ⊥
  clash e = cc

asked_some : (label : List ℕ) (index : ℕ) (text : List ℕ) (args : List ArgText) → list_any (test_holds_of label index op.Eq text) args ≡ true → list_any (λ each. bytes_eq text each.text) args ≡ true
asked_some label index text [] some = some
asked_some label index text (arg ∷ args) some = asked_one label index text (test_holds_of label index op.Eq text arg) (bytes_eq text arg.text) arg args refl refl some (asked_some label index text args)

asked_test : (label : List ℕ) (index : ℕ) (o : Op) (text : List ℕ) (args : List ArgText) → is_true (Test label index o text) args ≡ true
    → (bytes_eq (asked_text (Test label index o text)) [] || list_any (λ each. bytes_eq (asked_text (Test label index o text)) each.text) args) ≡ true
asked_test label index op.Eq text args some = ap (λ b. bytes_eq text [] || b) (asked_some label index text args some) ∙ last_true (bytes_eq text [])
asked_test label index op.Match text args some = refl
asked_test label index op.Neq text args some = refl
asked_test label index op.Sub text args some = refl
asked_test label index op.Nsub text args some = refl
asked_test label index op.Inpath text args some = refl

-- an expression that is true asks for no text first, or for the text of one of the arguments
pub asked_of : (formula : Formula) (args : List ArgText) → is_true formula args ≡ true → (bytes_eq (asked_text formula) [] || list_any (λ each. bytes_eq (asked_text formula) each.text) args) ≡ true
asked_of True args some = refl
asked_of (Test label index o text) args some = asked_test label index o text args some
asked_of (Not f) args some = refl
asked_of (And f g) args some = asked_of f args (left_of (is_true f args) (is_true g args) some)
asked_of (Or f g) args some = refl
