-- Bytes at the front of a quoted text that spell themselves.
use Rattle.std.proofs.Common.{suc, ◌≡◌, ℕ, ◌+◌, ◌<◌, ◌≢◌, ◌==◌, Bool, true, false, List, [], ◌∷◌, ◌++◌, take, drop, length, Option, None, Some, refl, ap, sym, subst, ◌∙◌, arith, get_or}
use Rattle.std.proofs.lemmas.Bool.Decides.{nat_tests}
use Rattle.std.specs.List.{prefix_len}
use Rattle.st_lex.specs.Quoted.{closing_len, count_after, inner_fault, is_inner_byte, optional_fault_after}
use Rattle.st_lex.specs.Unquote.{Named, is_plain_byte, names_in, plain_front, unquoted_from}
use Rattle.st_lex.specs.declared.unquoted.Dollars.{Dollars}
use Rattle.st_lex.proofs.Scans.{closing_len-plain, closing_len-quote, inner_fault-plain, inner_fault-quote}
use Rattle.st_lex.proofs.Unquotes.{AreApart, dollars_apart, none_apart}

pub names_apart : (dollars : Option Dollars) → AreApart (names_in dollars)
names_apart None = none_apart
names_apart (Some dollars) = dollars_apart dollars

-- plain bytes spell themselves
pub plain_first : (names : List Named) → AreApart names → (bytes : List ℕ) →
    unquoted_from names 0 bytes ≡ take (prefix_len is_plain_byte bytes) bytes ++ unquoted_from names 0 (drop (prefix_len is_plain_byte bytes) bytes)
plain_first names apart [] = refl
plain_first names apart (b ∷ bs) = by (is_plain_byte b) refl (plain_first names apart bs) where
  by : (plain : Bool) → is_plain_byte b ≡ plain → unquoted_from names 0 bs ≡ take (prefix_len is_plain_byte bs) bs ++ unquoted_from names 0 (drop (prefix_len is_plain_byte bs) bs) →
      unquoted_from names 0 (b ∷ bs) ≡ take (prefix_len is_plain_byte (b ∷ bs)) (b ∷ bs) ++ unquoted_from names 0 (drop (prefix_len is_plain_byte (b ∷ bs)) (b ∷ bs))
  by false e rest = rw e refl
  by true e rest =
      let no_mark : (b == 92) ≡ false = grind (arith, nat_tests) in
      let no_dollar : b ≢ 36 = grind (arith, nat_tests) in
      let front : plain_front (b ∷ bs) ≡ record { text = b ∷ []; len = 1 } = rw no_mark refl in
      let first : unquoted_from names 0 (b ∷ bs) ≡ b ∷ unquoted_from names 0 bs = rw (apart b bs no_dollar ∙ front) refl in
      let one : 1 + prefix_len is_plain_byte bs ≡ suc (prefix_len is_plain_byte bs) = omega arith in
      rw e (first ∙ ap (λ (xs : List ℕ). b ∷ xs) rest ∙ ap (λ (n : ℕ). take n (b ∷ bs) ++ unquoted_from names 0 (drop n (b ∷ bs))) (sym one))

-- a quote directly after inner bytes closes the text, and no fault is before it
pub closed_later : (bytes : List ℕ) (d : ℕ) → prefix_len is_inner_byte bytes < length bytes → get_or bytes (prefix_len is_inner_byte bytes) d ≡ 34 →
    (closing_len bytes ≡ Some (prefix_len is_inner_byte bytes + 1)) × (inner_fault bytes ≡ None)
closed_later [] d inside e = absurd (omega (arith, inside))
closed_later (b ∷ bs) d inside e = by (is_inner_byte b) refl (closed_later bs d) where
  by : (inner : Bool) → is_inner_byte b ≡ inner →
      (prefix_len is_inner_byte bs < length bs → get_or bs (prefix_len is_inner_byte bs) d ≡ 34 → (closing_len bs ≡ Some (prefix_len is_inner_byte bs + 1)) × (inner_fault bs ≡ None)) →
      (closing_len (b ∷ bs) ≡ Some (prefix_len is_inner_byte (b ∷ bs) + 1)) × (inner_fault (b ∷ bs) ≡ None)
  by false f rest =
      let quote : b ≡ 34 = rw f at e in
      rw f (subst (λ (x : ℕ). (closing_len (x ∷ bs) ≡ Some 1) × (inner_fault (x ∷ bs) ≡ None)) (sym quote) (closing_len-quote bs, inner_fault-quote bs))
  by true f rest =
      let n_zero : b ≢ 0 = grind (arith, nat_tests) in
      let n_line : b ≢ 10 = grind (arith, nat_tests) in
      let n_quote : b ≢ 34 = grind (arith, nat_tests) in
      let n_mark : b ≢ 92 = grind (arith, nat_tests) in
      let one : 1 + prefix_len is_inner_byte bs ≡ suc (prefix_len is_inner_byte bs) = omega arith in
      let within : 1 + prefix_len is_inner_byte bs < suc (length bs) = rw f at inside in
      let there : get_or (b ∷ bs) (1 + prefix_len is_inner_byte bs) d ≡ 34 = rw f at e in
      let closed = rest (omega (arith, within)) (sym (ap (λ (n : ℕ). get_or (b ∷ bs) n d) one) ∙ there) in
      let longer : 1 + (prefix_len is_inner_byte bs + 1) ≡ 1 + prefix_len is_inner_byte bs + 1 = omega arith in
      rw f (closing_len-plain b bs n_quote n_line n_mark ∙ ap (count_after 1) closed.0 ∙ ap (λ (n : ℕ). Some n) longer, inner_fault-plain b bs n_quote n_zero n_mark ∙ ap (optional_fault_after 1) closed.1)
