-- Matching of the first item of a pattern.
use Rattle.std.proofs.Common.{◌≡◌, ℕ, ◌<◌, ◌≤◌, ◌≢◌, ◌==◌, not, Bool, true, false, List, [], ◌∷◌, length, drop, get_or, Option, None, Some, refl, ap, sym, subst, ◌∙◌, arith, suc, cond, zero}
use Rattle.std.specs.Cmp.{both_ways}
use Rattle.std.proofs.lemmas.Bool.Decides.{nat_tests}
use Rattle.st_glob.specs.Items.{Item, Star, Any, Exactly, Within, Without, SizedItem, backslash_item, is_negated, to_bracket, class_len, class_item, negated_item, bracket_item, byte_item, first_item, items_after, items}
use Rattle.std.specs.Bool.{then_some}
use Rattle.std.specs.Option.{is_some}
use Rattle.st_glob.specs.Glob.{matches_byte as takes_byte, matches, matches_after_run, glob}
use Rattle.st_glob.specs.Taken.{taken_len}
use Rattle.st_glob.proofs.Classes.{either, tested, still-unclosed, unclosed-bracket}
use Rattle.st_glob.proofs.Runs.{run-here, run-twice, run-commit, matches-takes}

-- ---- items from the left

skipped : (n : ℕ) (pattern : List ℕ) → items_after n pattern ≡ items (drop n pattern)
skipped zero [] = refl
skipped (suc n) [] = refl
skipped zero (b ∷ rest) = refl
skipped (suc n) (b ∷ rest) = skipped n rest

pub items-first : (b : ℕ) (rest : List ℕ) → items (b ∷ rest) ≡ (first_item b rest).item ∷ items (drop (first_item b rest).following rest)
items-first b rest = ap (λ (is : List Item). (first_item b rest).item ∷ is) (skipped (first_item b rest).following rest)

abbrev is_star : Item → Bool
is_star Star = true
is_star _ = false

class-no-star : (class : List ℕ) (n : Option ℕ) → is_star (class_item class n).item ≡ false
class-no-star class None = refl
class-no-star class (Some n) = refl

negated-no-star : (class : List ℕ) (n : Option ℕ) → is_star (negated_item class n).item ≡ false
negated-no-star class None = refl
negated-no-star class (Some n) = refl

backslash-no-star : (rest : List ℕ) → is_star (backslash_item rest).item ≡ false
backslash-no-star [] = refl
backslash-no-star (b ∷ rest) = refl

first-no-star : (b : ℕ) (rest : List ℕ) → (b == 42) ≡ false → is_star (first_item b rest).item ≡ false
first-no-star b rest e =
    let P : SizedItem → Type 0 = λ s. is_star s.item ≡ false in
    rw e (tested P (b == 63) _ _ refl (tested P (b == 92) _ _ (backslash-no-star rest)
    (tested P (b == 91) _ _ (tested P (is_negated rest) _ _ (negated-no-star (drop 1 rest) (class_len (drop 1 rest))) (class-no-star rest (class_len rest))) refl)))

matches-differs : (item : Item) (rest : List Item) (c : ℕ) (text : List ℕ) → is_star item ≡ false → takes_byte item c ≡ false → matches (item ∷ rest) (c ∷ text) ≡ false
matches-differs Star rest c text s e = absurd (cc)
matches-differs Any rest c text s e = rw e refl
matches-differs (Exactly b) rest c text s e = rw e refl
matches-differs (Within class) rest c text s e = rw e refl
matches-differs (Without class) rest c text s e = rw e refl

matches-short : (item : Item) (rest : List Item) → is_star item ≡ false → matches (item ∷ rest) [] ≡ false
matches-short Star rest s = absurd (cc)
matches-short Any rest s = refl
matches-short (Exactly b) rest s = refl
matches-short (Within class) rest s = refl
matches-short (Without class) rest s = refl

taken_len-some : (s : SizedItem) (c len : ℕ) → taken_len s c ≡ Some len → (takes_byte s.item c ≡ true) × (s.following ≡ len)
taken_len-some s c len e =
    either (takes_byte s.item c) ((takes_byte s.item c ≡ true) × (s.following ≡ len))
    (λ t. let f : Some s.following ≡ Some len = rw t at e in (t, cc))
    (λ t. let f : None ≡ Some len = rw t at e in absurd (cc))

taken_len-none : (s : SizedItem) (c : ℕ) → taken_len s c ≡ None → takes_byte s.item c ≡ false
taken_len-none s c e =
    either (takes_byte s.item c) (takes_byte s.item c ≡ false)
    (λ t. let f : Some s.following ≡ None = rw t at e in absurd (cc))
    (λ t. t)

-- ---- from item to item

-- a pattern and a text, and the rest of both: one pair matches exactly when the other does, and if the first matches after a run, so
-- does the second
pub record IsKept (pattern text left rest : List ℕ) : Type 0 where
  pub same : glob pattern text ≡ glob left rest
  pub runs : matches_after_run (glob pattern) text ≡ true → matches_after_run (glob left) rest ≡ true

pub kept-start : (pattern text : List ℕ) → IsKept pattern text pattern text
kept-start pattern text = record { same = refl; runs = λ h. h }

kept-more : (pattern text following more : List ℕ) (b c len : ℕ) → taken_len (first_item b following) c ≡ Some len →
    IsKept pattern text (b ∷ following) (c ∷ more) → IsKept pattern text (drop len following) more
kept-more pattern text following more b c len e k =
    let q : (takes_byte (first_item b following).item c ≡ true) × ((first_item b following).following ≡ len) = taken_len-some (first_item b following) c len e in
    record {
      same = k.same ∙ ap (λ (is : List Item). matches is (c ∷ more)) (items-first b following) ∙
          matches-takes (first_item b following).item (items (drop (first_item b following).following following)) c more q.0 ∙
          ap (λ (n : ℕ). matches (items (drop n following)) more) q.1;
      runs = λ h. subst (λ (n : ℕ). matches_after_run (matches (items (drop n following))) more ≡ true) q.1
          (run-commit (first_item b following).item (items (drop (first_item b following).following following)) c more q.0
          (subst (λ (is : List Item). matches_after_run (matches is) (c ∷ more) ≡ true) (items-first b following) (k.runs h)));
    }

kept-differs : (pattern text following more : List ℕ) (b c : ℕ) → b ≢ 42 → taken_len (first_item b following) c ≡ None →
    IsKept pattern text (b ∷ following) (c ∷ more) → glob pattern text ≡ false
kept-differs pattern text following more b c n e k =
    let f : (b == 42) ≡ false = grind (arith, nat_tests) in
    k.same ∙ ap (λ (is : List Item). matches is (c ∷ more)) (items-first b following) ∙
    matches-differs (first_item b following).item (items (drop (first_item b following).following following)) c more (first-no-star b following f) (taken_len-none (first_item b following) c e)

kept-short : (pattern text following : List ℕ) (b : ℕ) → b ≢ 42 → IsKept pattern text (b ∷ following) [] → glob pattern text ≡ false
kept-short pattern text following b n k =
    let f : (b == 42) ≡ false = grind (arith, nat_tests) in
    k.same ∙ ap (λ (is : List Item). matches is []) (items-first b following) ∙
    matches-short (first_item b following).item (items (drop (first_item b following).following following)) (first-no-star b following f)

kept-run : (pattern text after rest : List ℕ) → IsKept pattern text (42 ∷ after) rest →
    (glob pattern text ≡ matches_after_run (glob after) rest) × (matches_after_run (glob pattern) text ≡ matches_after_run (glob after) rest)
kept-run pattern text after rest k =
    (k.same, both_ways (matches_after_run (glob pattern) text) (matches_after_run (glob after) rest) (λ h. run-twice (glob after) rest (k.runs h)) (λ h. run-here (glob pattern) text (k.same ∙ h)))

-- ---- items of slices that aren't empty

pub star-after : (pattern text left rest : List ℕ) → 1 ≤ length left → get_or left 0 0 ≡ 42 → IsKept pattern text left rest →
    (glob pattern text ≡ matches_after_run (glob (drop 1 left)) rest) × (matches_after_run (glob pattern) text ≡ matches_after_run (glob (drop 1 left)) rest)
star-after pattern text [] rest n e k = absurd (omega arith)
star-after pattern text (b ∷ following) rest n e k = kept-run pattern text following rest (subst (λ (x : ℕ). IsKept pattern text (x ∷ following) rest) e k)

pub text-too-short : (pattern text left rest : List ℕ) → 1 ≤ length left → get_or left 0 0 ≢ 42 → length rest < 1 → IsKept pattern text left rest → glob pattern text ≡ false
text-too-short pattern text [] rest n e h k = absurd (omega arith)
text-too-short pattern text (b ∷ following) [] n e h k = kept-short pattern text following b e k
text-too-short pattern text (b ∷ following) (c ∷ more) n e h k = absurd (omega arith)

pub byte-not-taken_len : (pattern text left rest : List ℕ) → 1 ≤ length left → get_or left 0 0 ≢ 42 → 1 ≤ length rest → taken_len (first_item (get_or left 0 0) (drop 1 left)) (get_or rest 0 0) ≡ None →
    IsKept pattern text left rest → glob pattern text ≡ false
byte-not-taken_len pattern text [] rest n e h t k = absurd (omega arith)
byte-not-taken_len pattern text (b ∷ following) [] n e h t k = absurd (omega arith)
byte-not-taken_len pattern text (b ∷ following) (c ∷ more) n e h t k = kept-differs pattern text following more b c e t k

pub byte-taken_len : (pattern text left rest : List ℕ) (len : ℕ) → 1 ≤ length left → 1 ≤ length rest → taken_len (first_item (get_or left 0 0) (drop 1 left)) (get_or rest 0 0) ≡ Some len →
    IsKept pattern text left rest → IsKept pattern text (drop len (drop 1 left)) (drop 1 rest)
byte-taken_len pattern text [] rest len n h t k = absurd (omega arith)
byte-taken_len pattern text (b ∷ following) [] len n h t k = absurd (omega arith)
byte-taken_len pattern text (b ∷ following) (c ∷ more) len n h t k = kept-more pattern text following more b c len t k

pub unclosed-after : (left rest : List ℕ) (len : ℕ) → 1 ≤ length left → taken_len (first_item (get_or left 0 0) (drop 1 left)) (get_or rest 0 0) ≡ Some len → to_bracket left ≡ None → to_bracket (drop len (drop 1 left)) ≡ None
unclosed-after [] rest len n t e = absurd (omega arith)
unclosed-after (b ∷ following) rest len n t e =
    subst (λ (k : ℕ). to_bracket (drop k following) ≡ None) (taken_len-some (first_item b following) (get_or rest 0 0) len t).1 (still-unclosed b following e)

equal-back : (a b : ℕ) → (a == b) ≡ (b == a)
equal-back a b = grind (arith, nat_tests)

chosen : (b : Bool) → then_some {T = ℕ} b 0 ≡ cond b (Some 0) None
chosen true = refl
chosen false = refl

pub open-bracket-taken_len : (first byte : ℕ) (following : List ℕ) → first ≡ 91 → to_bracket (first ∷ following) ≡ None → then_some {T = ℕ} (byte == 91) 0 ≡ taken_len (first_item first following) byte
open-bracket-taken_len first byte following e h =
    let f : to_bracket (91 ∷ following) ≡ None = subst (λ (x : ℕ). to_bracket (x ∷ following) ≡ None) e h in
    let i : bracket_item following ≡ byte_item 91 = unclosed-bracket following f in
    chosen (byte == 91) ∙ ap (λ (b : Bool). cond b (Some 0) None) (equal-back byte 91) ∙ ap (λ (s : SizedItem). taken_len s byte) (sym i) ∙ ap (λ (x : ℕ). taken_len (first_item x following) byte) (sym e)

pub none-found : (found bracket : Option ℕ) (none known : Bool) → found ≡ bracket → is_some found ≡ not none → known ≡ none → known ≡ true → bracket ≡ None
none-found None bracket none known e s n k = sym e
none-found (Some at) bracket true known e s n k = absurd (cc)
none-found (Some at) bracket false known e s n k = absurd (cc)
