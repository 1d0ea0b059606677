-- The function `matches` and the relation `FillsFront` agree.
use Rattle.std.proofs.Common.{◌≡◌, ◌≢◌, ℕ, ◌==◌, ◌&&◌, not, Bool, true, List, [], ◌∷◌, ◌++◌, refl, ap, sym, ◌∙◌, arith, ◌↔◌}
use Rattle.std.specs.Prelude.{IsTrue}
use Rattle.std.proofs.lemmas.Bool.Decides.{nat_tests}
use Rattle.st_glob.specs.Items.{Item, Star, Any, Exactly, Within, Without, slash, items}
use Rattle.st_glob.specs.Glob.{matches_byte, matches_after_run, matches, glob}
use Rattle.st_glob.specs.Fills.{Fills, Nothing, Byte, Stop, Run, IsComponentEnd, FillsFront}
use Rattle.st_glob.proofs.Runs.{or_cases, and_cases, run-here, run-longer, matches-takes}

no-slash : (c : ℕ) → not (c == slash) ≡ true → c ≢ slash
no-slash c e = grind (arith, nat_tests)

no-slash-test : (c : ℕ) → c ≢ slash → not (c == slash) ≡ true
no-slash-test c e = grind (arith, nat_tests)

is-slash : (c : ℕ) → (c == slash) ≡ true → c ≡ slash
is-slash c e = grind (arith, nat_tests)

is-slash-test : (c : ℕ) → c ≡ slash → (c == slash) ≡ true
is-slash-test c e = grind (arith, nat_tests)

-- ---- items that match fill a prefix

ended-front : (text : List ℕ) → IsComponentEnd text → FillsFront [] text
ended-front text e = record { front = []; left = text; parts = refl; fills = Nothing; ended = e }

byte-front : (item : Item) (more : List Item) (c : ℕ) (text : List ℕ) → matches_byte item c ≡ true → FillsFront more text → FillsFront (item ∷ more) (c ∷ text)
byte-front item more c text t f = record { front = c ∷ f.front; left = f.left; parts = ap (λ (x : List ℕ). c ∷ x) f.parts; fills = Byte t f.fills; ended = f.ended }

stop-front : (more : List Item) (text : List ℕ) → FillsFront more text → FillsFront (Star ∷ more) text
stop-front more text f = record { front = f.front; left = f.left; parts = f.parts; fills = Stop f.fills; ended = f.ended }

longer-front : (more : List Item) (c : ℕ) (text : List ℕ) → c ≢ slash → FillsFront (Star ∷ more) text → FillsFront (Star ∷ more) (c ∷ text)
longer-front more c text n f = record { front = c ∷ f.front; left = f.left; parts = ap (λ (x : List ℕ). c ∷ x) f.parts; fills = Run n f.fills; ended = f.ended }

run-front : (more : List Item) → ((text : List ℕ) → matches more text ≡ true → FillsFront more text) → (text : List ℕ) → matches_after_run (matches more) text ≡ true → FillsFront (Star ∷ more) text
run-front more f [] e = stop-front more [] (f [] e)
run-front more f (c ∷ text) e =
    let P : Type 0 = FillsFront (Star ∷ more) (c ∷ text) in
    or_cases P (matches more (c ∷ text)) (not (c == slash) && matches_after_run (matches more) text) e
    (λ h. stop-front more (c ∷ text) (f (c ∷ text) h))
    (λ h. and_cases P (not (c == slash)) (matches_after_run (matches more) text) h (λ n r. longer-front more c text (no-slash c n) (run-front more f text r)))

taken_len-front : (item : Item) (more : List Item) (c : ℕ) (text : List ℕ) → ((left : List ℕ) → matches more left ≡ true → FillsFront more left) → (matches_byte item c && matches more text) ≡ true → FillsFront (item ∷ more) (c ∷ text)
taken_len-front item more c text f e = and_cases (FillsFront (item ∷ more) (c ∷ text)) (matches_byte item c) (matches more text) e (λ t m. byte-front item more c text t (f text m))

pub to-front : (is : List Item) (text : List ℕ) → matches is text ≡ true → FillsFront is text
to-front [] [] e = ended-front [] tt
to-front [] (c ∷ text) e = ended-front (c ∷ text) (is-slash c e)
to-front (Star ∷ more) text e = run-front more (to-front more) text e
to-front (Any ∷ more) [] e = absurd (cc)
to-front (Exactly b ∷ more) [] e = absurd (cc)
to-front (Within class ∷ more) [] e = absurd (cc)
to-front (Without class ∷ more) [] e = absurd (cc)
to-front (Any ∷ more) (c ∷ text) e = taken_len-front Any more c text (to-front more) e
to-front (Exactly b ∷ more) (c ∷ text) e = taken_len-front (Exactly b) more c text (to-front more) e
to-front (Within class ∷ more) (c ∷ text) e = taken_len-front (Within class) more c text (to-front more) e
to-front (Without class ∷ more) (c ∷ text) e = taken_len-front (Without class) more c text (to-front more) e

-- ---- items that fill a prefix match

ended-matches : (left : List ℕ) → IsComponentEnd left → matches [] left ≡ true
ended-matches [] e = refl
ended-matches (c ∷ left) e = is-slash-test c e

fills-matches : {is : List Item} {front : List ℕ} (left : List ℕ) → IsComponentEnd left → Fills is front → matches is (front ++ left) ≡ true
fills-matches left e Nothing = ended-matches left e
fills-matches left e (Byte {item} {more} {c} {text} t f) = matches-takes item more c (text ++ left) t ∙ fills-matches left e f
fills-matches left e (Stop {more} {text} f) = run-here (matches more) (text ++ left) (fills-matches left e f)
fills-matches left e (Run {more} {c} {text} n f) = run-longer (matches more) c (text ++ left) (no-slash-test c n) (fills-matches left e f)

pub from-front : (is : List Item) (text : List ℕ) → FillsFront is text → matches is text ≡ true
from-front is text f = ap (matches is) f.parts ∙ fills-matches f.left f.ended f.fills

pub glob-fills : (answer : Bool) (pattern text : List ℕ) → answer ≡ glob pattern text → IsTrue answer ↔ FillsFront (items pattern) text
glob-fills answer pattern text e = (λ h. to-front (items pattern) text (sym e ∙ h), λ f. e ∙ from-front (items pattern) text f)
