-- Runs of bytes that a star matches, and why only the last star has to be tried again.
use Rattle.std.proofs.Common.{◌≡◌, ℕ, ◌==◌, ◌||◌, ◌&&◌, not, Bool, true, false, List, [], ◌∷◌, refl, sym, ◌∙◌, arith}
use Rattle.std.proofs.lemmas.Bool.{or_right}
use Rattle.std.proofs.lemmas.Bool.Decides.{nat_tests}
use Rattle.st_glob.specs.Items.{Item, Star, Any, Exactly, Within, Without, slash, is_listed}
use Rattle.st_glob.specs.Glob.{matches_byte, matches_after_run, matches}

pub or_cases : (P : Type 0) (a b : Bool) → (a || b) ≡ true → (a ≡ true → P) → (b ≡ true → P) → P
or_cases P true b e f g = f refl
or_cases P false b e f g = g e

pub and_cases : (P : Type 0) (a b : Bool) → (a && b) ≡ true → (a ≡ true → b ≡ true → P) → P
and_cases P true b e f = f refl e
and_cases P false b e f = absurd (cc)

pub run-here : (f : List ℕ → Bool) (text : List ℕ) → f text ≡ true → matches_after_run f text ≡ true
run-here f [] e = e
run-here f (c ∷ text) e = rw e refl

pub run-longer : (f : List ℕ → Bool) (c : ℕ) (text : List ℕ) → not (c == slash) ≡ true → matches_after_run f text ≡ true → matches_after_run f (c ∷ text) ≡ true
run-longer f c text n e = or_right (f (c ∷ text)) (not (c == slash) && matches_after_run f text) (rw (n, e) refl)

pub run-twice : (f : List ℕ → Bool) (text : List ℕ) → matches_after_run (matches_after_run f) text ≡ true → matches_after_run f text ≡ true
run-twice f [] e = e
run-twice f (c ∷ text) e =
    or_cases (matches_after_run f (c ∷ text) ≡ true) (matches_after_run f (c ∷ text)) (not (c == slash) && matches_after_run (matches_after_run f) text) e (λ h. h)
    (λ h. and_cases (matches_after_run f (c ∷ text) ≡ true) (not (c == slash)) (matches_after_run (matches_after_run f) text) h (λ n r. run-longer f c text n (run-twice f text r)))

-- an item that matches some byte other than a slash doesn't match a slash
takes-no-slash : (item : Item) (c d : ℕ) → matches_byte item c ≡ true → not (c == slash) ≡ true → matches_byte item d ≡ true → not (d == slash) ≡ true
takes-no-slash Star c d t n u = absurd (cc)
takes-no-slash Any c d t n u = u
takes-no-slash (Exactly b) c d t n u = grind (arith, nat_tests)
takes-no-slash (Within class) c d t n u = and_cases (not (d == slash) ≡ true) (not (d == slash)) (is_listed class d) u (λ x y. x)
takes-no-slash (Without class) c d t n u = and_cases (not (d == slash) ≡ true) (not (d == slash)) (not (is_listed class d)) u (λ x y. x)

-- if the first item matches the first byte, the rest decides
pub matches-takes : (item : Item) (rest : List Item) (c : ℕ) (text : List ℕ) → matches_byte item c ≡ true → matches (item ∷ rest) (c ∷ text) ≡ matches rest text
matches-takes Star rest c text e = absurd (cc)
matches-takes Any rest c text e = rw e refl
matches-takes (Exactly b) rest c text e = rw e refl
matches-takes (Within class) rest c text e = rw e refl
matches-takes (Without class) rest c text e = rw e refl

matches-byte : (item : Item) (rest : List Item) (c d : ℕ) (text : List ℕ) → matches_byte item c ≡ true → matches (item ∷ rest) (d ∷ text) ≡ (matches_byte item d && matches rest text)
matches-byte Star rest c d text e = absurd (cc)
matches-byte Any rest c d text e = refl
matches-byte (Exactly b) rest c d text e = refl
matches-byte (Within class) rest c d text e = refl
matches-byte (Without class) rest c d text e = refl

matches-none : (item : Item) (rest : List Item) (c : ℕ) → matches_byte item c ≡ true → matches (item ∷ rest) [] ≡ false
matches-none Star rest c e = absurd (cc)
matches-none Any rest c e = refl
matches-none (Exactly b) rest c e = refl
matches-none (Within class) rest c e = refl
matches-none (Without class) rest c e = refl

-- if an item and the rest match after a run, the rest matches after a run
shift : (item : Item) (rest : List Item) (c : ℕ) (text : List ℕ) → matches_byte item c ≡ true → not (c == slash) ≡ true → matches_after_run (matches (item ∷ rest)) text ≡ true → matches_after_run (matches rest) text ≡ true
shift item rest c [] t n e = let f : matches (item ∷ rest) [] ≡ false = matches-none item rest c t in absurd (cc)
shift item rest c (d ∷ text) t n e =
    let P : Type 0 = matches_after_run (matches rest) (d ∷ text) ≡ true in
    or_cases P (matches (item ∷ rest) (d ∷ text)) (not (d == slash) && matches_after_run (matches (item ∷ rest)) text) e
    (λ h. and_cases P (matches_byte item d) (matches rest text) (sym (matches-byte item rest c d text t) ∙ h)
    (λ u m. run-longer (matches rest) d text (takes-no-slash item c d t n u) (run-here (matches rest) text m)))
    (λ h. and_cases P (not (d == slash)) (matches_after_run (matches (item ∷ rest)) text) h
    (λ m r. run-longer (matches rest) d text m (shift item rest c text t n r)))

-- after an item has matched its byte, a longer run before the item isn't needed
pub run-commit : (item : Item) (rest : List Item) (c : ℕ) (text : List ℕ) → matches_byte item c ≡ true → matches_after_run (matches (item ∷ rest)) (c ∷ text) ≡ true → matches_after_run (matches rest) text ≡ true
run-commit item rest c text t e =
    let P : Type 0 = matches_after_run (matches rest) text ≡ true in
    or_cases P (matches (item ∷ rest) (c ∷ text)) (not (c == slash) && matches_after_run (matches (item ∷ rest)) text) e
    (λ h. run-here (matches rest) text (sym (matches-takes item rest c text t) ∙ h))
    (λ h. and_cases P (not (c == slash)) (matches_after_run (matches (item ∷ rest)) text) h (λ n r. shift item rest c text t n r))
