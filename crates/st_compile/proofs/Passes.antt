-- What a look at one byte says of a test.
use Rattle.std.proofs.Common.{◌≡◌, ◌<◌, ◌∙◌, ◌&&◌, ◌||◌, ◌==◌, not, ℕ, suc, zero, Bool, true, false, cond, List, [], ◌∷◌, length, Option, Some, None, refl, ap, sym, arith, take}
use Rattle.std.proofs.lemmas.Bool.Decides.{Decides-eqb}
use Rattle.std.proofs.lemmas.Slice.Eq.{bytes_eq-Decides}
use Rattle.std.specs.Cmp.Lexicographic.{pointwise}
use Rattle.std.specs.List.{list_any, starts_with}
use Rattle.std.specs.Prelude.{codes, nat_eq, slice_get}
use Rattle.std.specs.Str.{bytes_eq}
use Rattle.st_calls.specs.declared.argument.ArgText.{ArgText}
use Rattle.st_filter.specs.Judging.{compares, is_on_way, is_path_prefix, stands_in}
use Rattle.st_filter.specs.declared.filter.Op.{Op}
use Rattle.st_filter.specs.declared.filter.Op.TheVariants as op
use Rattle.st_glob.specs.Glob.{glob, matches}
use Rattle.st_glob.specs.Items.{Any, Exactly, Star, backslash_item, bracket_item, byte_item, first_item, items, items_after}
use Rattle.st_compile.specs.Passing.{agree_before, are_same, has_byte, is_end, is_literal, literal_len, may_pass, passes, shared_len}
use Rattle.st_compile.proofs.Arguments.{compares_there}
use Rattle.st_compile.proofs.Asking.{last_true, left_of, right_of}

-- ---- equal texts

same_byte : (text : List ℕ) (k : ℕ) → k < length text → are_same (slice_get text k) (slice_get text k) ≡ true
same_byte [] k less = absurd (omega (arith, less))
same_byte (b ∷ text) zero less = (Decides-eqb b b).1 refl
same_byte (b ∷ text) (suc k) less = same_byte text k (omega (arith, less))

same_agree : (argument text : List ℕ) (n : ℕ) → n ≡ length text → bytes_eq argument text ≡ true → agree_before n argument text ≡ true
same_agree argument text zero long is = refl
same_agree argument text (suc k) long is =
    ap (λ bytes. are_same (slice_get bytes k) (slice_get text k)) ((bytes_eq-Decides argument text).0 is) ∙ same_byte text k (omega (arith, long))

-- ---- patterns

-- a literal byte is an item by itself
literal_item : (b : ℕ) (rest : List ℕ) → is_literal b ≡ true → items (b ∷ rest) ≡ Exactly b ∷ items rest
literal_item b rest is = by (b == 42) (b == 63) (b == 91) (b == 92) refl refl refl refl is where
  by : (s q o l : Bool) → (b == 42) ≡ s → (b == 63) ≡ q → (b == 91) ≡ o → (b == 92) ≡ l → not (((s || q) || o) || l) ≡ true → items (b ∷ rest) ≡ Exactly b ∷ items rest
  by true q o l e1 e2 e3 e4 is = cc
  by false true o l e1 e2 e3 e4 is = cc
  by false false true l e1 e2 e3 e4 is = cc
  by false false false true e1 e2 e3 e4 is = cc
  by false false false false e1 e2 e3 e4 is = λ k. (plain k).item ∷ items_after (plain k).following rest where
    plain : first_item b rest ≡ byte_item b
    plain = λ k. cond (e1 k) (record { item = Star; following = 0 }) (cond (e2 k) (record { item = Any; following = 0 }) (cond (e4 k) (backslash_item rest) (cond (e3 k) (bracket_item rest) (byte_item b))))

-- a text that a pattern matches has the pattern's literal bytes
abbrev Agrees : List ℕ → Type 0
Agrees pattern = (text : List ℕ) (k : ℕ) → k < literal_len pattern → glob pattern text ≡ true → are_same (slice_get text k) (slice_get pattern k) ≡ true

literal_agrees : (pattern text : List ℕ) (k : ℕ) → k < literal_len pattern → glob pattern text ≡ true → are_same (slice_get text k) (slice_get pattern k) ≡ true
literal_agrees [] text k less is = absurd (omega (arith, less))
literal_agrees (b ∷ pattern) text k less is = by (is_literal b) refl less (literal_agrees pattern) where
  at : (text : List ℕ) (k : ℕ) → k < suc (literal_len pattern) → matches (Exactly b ∷ items pattern) text ≡ true → Agrees pattern → are_same (slice_get text k) (slice_get (b ∷ pattern) k) ≡ true
  at [] k less is later = cc
  at (c ∷ text) zero less is later =
      let same : b ≡ c = (Decides-eqb b c).0 (left_of (b == c) (matches (items pattern) text) is) in
      (Decides-eqb c b).1 (sym same)
  at (c ∷ text) (suc k) less is later = later text k (omega (arith, less)) (right_of (b == c) (matches (items pattern) text) is)

  by : (l : Bool) → is_literal b ≡ l → k < cond l (suc (literal_len pattern)) 0 → Agrees pattern → are_same (slice_get text k) (slice_get (b ∷ pattern) k) ≡ true
  by true literal less later = at text k less (ap (λ its. matches its text) (sym (literal_item b pattern literal)) ∙ is) later
  by false other less later = absurd (omega (arith, less))

pattern_agrees : (pattern text : List ℕ) (n : ℕ) → n ≡ literal_len pattern → glob pattern text ≡ true → agree_before n text pattern ≡ true
pattern_agrees pattern text zero long is = refl
pattern_agrees pattern text (suc k) long is = literal_agrees pattern text k (omega (arith, long)) is

-- ---- directories on the way to a path

prefix_ends : (argument path : List ℕ) → is_path_prefix argument path ≡ true → is_end (slice_get path (length argument)) ≡ true
prefix_ends [] [] is = refl
prefix_ends [] (b ∷ path) is = is
prefix_ends (a ∷ argument) [] is = cc
prefix_ends (a ∷ argument) (b ∷ path) is = prefix_ends argument path (right_of (a == b) (is_path_prefix argument path) is)

way_ends : (argument path : List ℕ) → is_on_way argument path ≡ true → ((length argument == 1) || is_end (slice_get path (length argument))) ≡ true
way_ends argument path is = by (is_path_prefix argument path) refl is where
  by : (b : Bool) → is_path_prefix argument path ≡ b → (b || (bytes_eq argument (codes "/") && starts_with nat_eq path (codes "/"))) ≡ true → ((length argument == 1) || is_end (slice_get path (length argument))) ≡ true
  by true prefix is = ap (λ b. (length argument == 1) || b) (prefix_ends argument path prefix) ∙ last_true (length argument == 1)
  by false other root =
      let is_root : argument ≡ codes "/" = (bytes_eq-Decides argument (codes "/")).0 (left_of (bytes_eq argument (codes "/")) (starts_with nat_eq path (codes "/")) root) in
      ap (λ (bytes : List ℕ). (length bytes == 1) || is_end (slice_get path (length bytes))) is_root

-- ---- texts that stand in others

-- the first byte of a text that stands in an argument is in it
first_stands : (argument text : List ℕ) → stands_in text argument ≡ true → has_byte (slice_get text 0) argument ≡ true
first_stands argument [] is = refl
first_stands [] (c ∷ text) is = cc
first_stands (b ∷ argument) (c ∷ text) is = by (b == c) refl (starts_with nat_eq (b ∷ argument) (c ∷ text)) refl is (first_stands argument (c ∷ text)) where
  clash : false ≡ true → ⊥
  clash e = cc

  starts_first : starts_with nat_eq (b ∷ argument) (c ∷ text) ≡ true → (b == c) ≡ true
  starts_first starts = (Decides-eqb b c).1 (sym ((Decides-eqb c b).0 (left_of (c == b) (pointwise nat_eq text (take (length text) argument)) starts)))

  by : (h : Bool) → (b == c) ≡ h → (s : Bool) → starts_with nat_eq (b ∷ argument) (c ∷ text) ≡ s → (s || stands_in (c ∷ text) argument) ≡ true → (stands_in (c ∷ text) argument ≡ true → list_any (λ each. each == c) argument ≡ true)
      → (h || list_any (λ each. each == c) argument) ≡ true
  by true e s starts is later = refl
  by false e true starts is later = absurd (clash (sym e ∙ starts_first starts))
  by false e false starts is later = later is

-- ---- all tests

passing : (o : Op) (argument text : List ℕ) → compares o argument text ≡ true → may_pass o (shared_len o text) argument text ≡ true
passing op.Eq argument text is = same_agree argument text (length text) refl is
passing op.Match argument text is = pattern_agrees text argument (literal_len text) refl is
passing op.Neq argument text is = refl
passing op.Sub argument text is = first_stands argument text is
passing op.Nsub argument text is = refl
passing op.Inpath argument text is = way_ends argument text is

-- the look decides nothing else than the test
pub passes_same : (o : Op) (text : List ℕ) (there : Option ArgText) → passes o (shared_len o text) text there ≡ compares_there o text there
passes_same o text None = refl
passes_same o text (Some arg) = by (compares o arg.text text) refl where
  by : (b : Bool) → compares o arg.text text ≡ b → (may_pass o (shared_len o text) arg.text text && compares o arg.text text) ≡ compares o arg.text text
  by true is = ap (λ m. m && compares o arg.text text) (passing o arg.text text is)
  by false is = ap (λ c. may_pass o (shared_len o text) arg.text text && c) is ∙ last_no (may_pass o (shared_len o text) arg.text text) ∙ sym is where
    last_no : (m : Bool) → (m && false) ≡ false
    last_no true = refl
    last_no false = refl
