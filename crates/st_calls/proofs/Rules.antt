-- Lookups of rules by their names, and equality of rules.
use Rattle.std.proofs.Common.{◌≡◌, ℕ, Bool, true, false, ◌==◌, List, [], ◌∷◌, length, refl, ap, sym, ◌∙◌}
use Rattle.std.specs.List.{filter, find}
use Rattle.std.specs.Str.{bytes_eq}
use Rattle.std.proofs.lemmas.Slice.Eq.{bytes_eq-Decides}
use Rattle.std.proofs.lemmas.Bool.Decides.{Decides-eqb}
use Rattle.st_calls.specs.Call.{name_of_rule}
use Rattle.std.specs.Bool.{Decides}
use denote.Enum.Bare.{same_true, true_same}
use Rattle.st_calls.specs.Rules.{same_rule}
use Rattle.st_calls.specs.contracts.call.SysCall.{the_type}
use Rattle.st_calls.specs.declared.rule.Rule.{Rule}
use Rattle.st_calls.specs.declared.rule.Rule.TheVariants.{Call, FsRead, FsWrite}

-- the test of equality decides whether two rules are equal
pub same_rule-Decides : (a b : Rule) → Decides (same_rule a b) (a ≡ b)
same_rule-Decides (Call a) (Call b) = (λ same. ap Call (same_true the_type tt a b same), λ equal. true_same the_type a b cc)
same_rule-Decides FsRead FsRead = (λ same. refl, λ equal. refl)
same_rule-Decides FsWrite FsWrite = (λ same. refl, λ equal. refl)
same_rule-Decides a b = (λ same. absurd cc, λ equal. absurd cc)

-- whether a rule's name has this length
abbrev pub is_so_long : ℕ → Rule → Bool
is_so_long n rule = length (name_of_rule rule) == n

abbrev pub is_named : List ℕ → Rule → Bool
is_named word rule = bytes_eq (name_of_rule rule) word

-- a rule whose name has another length than a word isn't named by the word
other_length : (word : List ℕ) (n : ℕ) → length word ≡ n → (rule : Rule) → is_so_long n rule ≡ false → is_named word rule ≡ false
other_length word n e rule differs = by (is_named word rule) refl where
  by : (b : Bool) → is_named word rule ≡ b → b ≡ false
  by false is = refl
  by true is =
      let same : name_of_rule rule ≡ word = (bytes_eq-Decides (name_of_rule rule) word).0 is in
      let yes : is_so_long n rule ≡ true = (Decides-eqb (length (name_of_rule rule)) n).1 (ap length same ∙ e) in
      absurd (cc)

-- only rules whose names are as long as the word have to be searched
pub found_by_length : (word : List ℕ) (n : ℕ) → length word ≡ n → (rules : List Rule) → find (is_named word) (filter (is_so_long n) rules) ≡ find (is_named word) rules
found_by_length word n e [] = refl
found_by_length word n e (rule ∷ rules) = by (is_so_long n rule) refl (is_named word rule) refl (found_by_length word n e rules) where
  by : (b : Bool) → is_so_long n rule ≡ b → (c : Bool) → is_named word rule ≡ c → find (is_named word) (filter (is_so_long n) rules) ≡ find (is_named word) rules →
      find (is_named word) (filter (is_so_long n) (rule ∷ rules)) ≡ find (is_named word) (rule ∷ rules)
  by true long true is ih = rw (long, is) refl
  by true long false other ih = rw (long, other) ih
  by false short c is ih = rw (short, other_length word n e rule short) ih
