-- The first row of some tokens, and the rows after it.
use Rattle.std.proofs.Common.{suc, ◌≡◌, ℕ, ◌+◌, ◌-◌, ◌<◌, ◌≤◌, Bool, true, false, List, [], ◌∷◌, length, take, drop, get_or, nat_eq, refl, ap, sym, subst, ◌∙◌, arith}
use Rattle.std.proofs.lemmas.Bool.{not-true, not_from_false, not_from_true}
use Rattle.std.specs.Prelude.{All}
use Rattle.std.specs.List.{prefix_len, filter}
use Rattle.std.proofs.lemmas.List.{drop-drop, drop_all, length-drop, take_rest, get_or-take}
use Rattle.std.proofs.lemmas.List.Sums.{prefix_len_passes}
use Rattle.std.proofs.lemmas.List.Folds.{length-prefix_len}
use Rattle.std.proofs.lemmas.Bool.Decides.{nat_tests}
use Rattle.st_lex.specs.declared.token.Token.{Token}
use Rattle.st_lex.specs.Rows.{ends_line, is_in_line, lines, has_token, rows, IsNextRow}
use Rattle.std.specs.List.{onto_first}

-- a case distinction by a test's value, with the equation
either : (b : Bool) (P : Type 0) → (b ≡ true → P) → (b ≡ false → P) → P
either true P f g = f refl
either false P f g = g refl

rows-line : (t : Token) (ts : List Token) → ends_line t ≡ true → rows (t ∷ ts) ≡ rows ts
rows-line t ts e = rw e refl

prefix-yes : (p : Token → Bool) (t : Token) (ts : List Token) → p t ≡ true → prefix_len p (t ∷ ts) ≡ suc (prefix_len p ts)
prefix-yes p t ts e = rw e (omega arith)

prefix-no : (p : Token → Bool) (t : Token) (ts : List Token) → p t ≡ false → prefix_len p (t ∷ ts) ≡ 0
prefix-no p t ts e = rw e refl

-- blank lines have no row
pub rows-blank : (ts : List Token) → rows ts ≡ rows (drop (prefix_len ends_line ts) ts)
rows-blank [] = refl
rows-blank (t ∷ ts) =
    either (ends_line t) (rows (t ∷ ts) ≡ rows (drop (prefix_len ends_line (t ∷ ts)) (t ∷ ts)))
    (λ e. rows-line t ts e ∙ rows-blank ts ∙ sym (ap (λ (n : ℕ). rows (drop n (t ∷ ts))) (prefix-yes ends_line t ts e)))
    (λ e. sym (ap (λ (n : ℕ). rows (drop n (t ∷ ts))) (prefix-no ends_line t ts e)))

-- the lines of the tokens after the first token
later_lines : List Token → List (List Token)
later_lines [] = []
later_lines (t ∷ ts) = lines ts

lines-in : (t : Token) (ts : List Token) → ends_line t ≡ false → lines (t ∷ ts) ≡ onto_first t (lines ts)
lines-in t ts e = rw e refl

lines-end : (t : Token) (ts : List Token) → ends_line t ≡ true → lines (t ∷ ts) ≡ [] ∷ lines ts
lines-end t ts e = rw e refl

lines-split : (ts : List Token) → lines ts ≡ take (prefix_len is_in_line ts) ts ∷ later_lines (drop (prefix_len is_in_line ts) ts)
unfolding later_lines
lines-split [] = refl
lines-split (t ∷ ts) =
    let F : ℕ → List (List Token) = λ n. take n (t ∷ ts) ∷ later_lines (drop n (t ∷ ts)) in
    either (ends_line t) (lines (t ∷ ts) ≡ F (prefix_len is_in_line (t ∷ ts)))
    (λ e. lines-end t ts e ∙ sym (ap F (prefix-no is_in_line t ts (not_from_true (ends_line t) e))))
    (λ e. lines-in t ts e ∙ ap (onto_first t) (lines-split ts) ∙ sym (ap F (prefix-yes is_in_line t ts (not_from_false (ends_line t) e))))

rows-later : (ts : List Token) → filter has_token (later_lines ts) ≡ rows (drop 1 ts)
unfolding later_lines
rows-later [] = refl
rows-later (t ∷ ts) = refl

-- the list is empty, or begins with a token that doesn't end a line
abbrev BeginsRow : List Token → Type 0
BeginsRow [] = Unit {0}
BeginsRow (t ∷ ts) = ends_line t ≡ false

begins : (ts : List Token) → BeginsRow (drop (prefix_len ends_line ts) ts)
begins [] = tt
begins (t ∷ ts) =
    let P : ℕ → Type 0 = λ n. BeginsRow (drop n (t ∷ ts)) in
    either (ends_line t) (P (prefix_len ends_line (t ∷ ts)))
    (λ e. subst P (sym (prefix-yes ends_line t ts e)) (begins ts))
    (λ e. subst P (sym (prefix-no ends_line t ts e)) e)

has_token-row : (us : List Token) → BeginsRow us → 0 < length us → has_token (take (prefix_len is_in_line us) us) ≡ true
has_token-row [] b h = absurd (omega arith)
has_token-row (t ∷ ts) b h = ap (λ (n : ℕ). has_token (take n (t ∷ ts))) (prefix-yes is_in_line t ts (not_from_false (ends_line t) b))

one_line : (us : List Token) → All (λ t. ends_line t ≡ false) (take (prefix_len is_in_line us) us)
one_line us k d h =
    let inside : k < prefix_len is_in_line us = omega (arith, length-prefix_len is_in_line us) in
    let same : get_or (take (prefix_len is_in_line us) us) k d ≡ get_or us k d = get_or-take (prefix_len is_in_line us) us k d inside in
    ap ends_line same ∙ not-true (ends_line (get_or us k d)) (prefix_len_passes is_in_line us k d inside)

filter-first : (row : List Token) (others : List (List Token)) → has_token row ≡ true → filter has_token (row ∷ others) ≡ row ∷ filter has_token others
filter-first row others e = rw e refl

rows-first : (us : List Token) → BeginsRow us → 0 < length us → rows us ≡ take (prefix_len is_in_line us) us ∷ rows (drop (prefix_len is_in_line us + 1) us)
rows-first us b h =
    ap (filter has_token) (lines-split us)
    ∙ filter-first (take (prefix_len is_in_line us) us) (later_lines (drop (prefix_len is_in_line us) us)) (has_token-row us b h)
    ∙ ap (λ (xs : List (List Token)). take (prefix_len is_in_line us) us ∷ xs) (rows-later (drop (prefix_len is_in_line us) us))
    ∙ ap (λ (xs : List Token). take (prefix_len is_in_line us) us ∷ rows xs) (drop-drop 1 (prefix_len is_in_line us) us)

pub next_row_at : (tokens rest following : List Token) (blank row : ℕ) → rest ≡ drop blank tokens → blank ≡ prefix_len ends_line tokens → 0 < length rest → row ≡ prefix_len is_in_line rest → following ≡ drop (row + 1) rest → IsNextRow tokens (take row rest) following
next_row_at tokens rest following blank row is_rest is_blank some is_row is_after =
    let from : rest ≡ drop (prefix_len ends_line tokens) tokens = is_rest ∙ ap (λ (n : ℕ). drop n tokens) is_blank in
    let b : BeginsRow rest = subst BeginsRow (sym from) (begins tokens) in
    let cut : take row rest ≡ take (prefix_len is_in_line rest) rest = ap (λ (n : ℕ). take n rest) is_row in
    let after : following ≡ drop (prefix_len is_in_line rest + 1) rest = is_after ∙ ap (λ (n : ℕ). drop (n + 1) rest) is_row in
    let P : List Token → Type 0 = λ xs. All (λ t. ends_line t ≡ false) xs in
    let n : length following ≡ length rest - (row + 1) = ap length is_after ∙ length-drop (row + 1) rest in
    let m : length rest ≡ length tokens - blank = ap length is_rest ∙ length-drop blank tokens in
    let first : rows tokens ≡ take row rest ∷ rows following =
    rows-blank tokens ∙ ap rows (sym from) ∙ rows-first rest b some ∙ ap (λ (xs : List Token). xs ∷ rows (drop (prefix_len is_in_line rest + 1) rest)) (sym cut) ∙ ap (λ (xs : List Token). take row rest ∷ rows xs) (sym after) in
    let size : length (take row rest) ≡ row = ap length cut ∙ length-prefix_len is_in_line rest ∙ sym is_row in
    let place : blank + (row + 1) ≡ blank + length (take row rest) + 1 = omega arith in
    record {
      parts = (
        blank,
        ap (λ (n : ℕ). take n rest) (sym size) ∙ ap (take (length (take row rest))) is_rest,
        is_after ∙ ap (drop (row + 1)) is_rest ∙ drop-drop (row + 1) blank tokens ∙ ap (λ (n : ℕ). drop n tokens) place,
      );
      first = first;
      has_token = ap has_token cut ∙ has_token-row rest b some;
      one_line = subst P (sym cut) (one_line rest);
      shorter = omega arith;
    }

pub no_row : (tokens : List Token) (blank : ℕ) → blank ≡ prefix_len ends_line tokens → length tokens ≤ blank → rows tokens ≡ []
no_row tokens blank e h = rows-blank tokens ∙ ap rows (ap (λ (n : ℕ). drop n tokens) (sym e) ∙ drop_all blank tokens h)

zero_from : (n : ℕ) → nat_eq n 0 ≡ true → n ≡ 0
zero_from n e = grind (arith, nat_tests)

positive : (n : ℕ) → nat_eq n 0 ≡ false → 0 < n
positive n e = grind (arith, nat_tests)

length-rest : (tokens : List Token) (k : ℕ) → length (take (length tokens - k) (drop k tokens)) ≡ length tokens - k
length-rest tokens k = ap length (take_rest tokens k) ∙ length-drop k tokens

pub rest_empty : (tokens : List Token) (k : ℕ) (b : Bool) → b ≡ nat_eq (length (take (length tokens - k) (drop k tokens))) 0 → b ≡ true → length tokens ≤ k
rest_empty tokens k b e t =
    let n : nat_eq (length (take (length tokens - k) (drop k tokens))) 0 ≡ true = sym e ∙ t in
    let z : length (take (length tokens - k) (drop k tokens)) ≡ 0 = zero_from _ n in
    omega (arith, z, length-rest tokens k)

pub rest_some : (tokens : List Token) (k : ℕ) (b : Bool) → b ≡ nat_eq (length (take (length tokens - k) (drop k tokens))) 0 → b ≡ false → 0 < length (take (length tokens - k) (drop k tokens))
rest_some tokens k b e t =
    positive (length (take (length tokens - k) (drop k tokens))) (sym e ∙ t)
