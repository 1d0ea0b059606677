-- The last line of some tokens.
use Rattle.std.proofs.Common.{◌≡◌, ℕ, ◌+◌, ◌-◌, ◌≤◌, ◌<◌, Bool, true, false, ◌||◌, if◌then◌else◌, List, [], ◌∷◌, ◌++◌, length, take, refl, sym, ap, ◌∙◌, arith, get_or}
use Rattle.std.proofs.lemmas.List.{take_more}
use Rattle.std.proofs.lemmas.List.Folds.{list_any-append}
use Rattle.std.specs.List.{list_any}
use Rattle.st_lex.specs.Rows.{ends_line}
use Rattle.st_lex.specs.declared.token.Token.{Token}
use Rattle.st_statements.specs.Lines.{up_to_last_line}

abbrev kept : Bool → Token → List Token → List Token
kept b token tokens = if b then token ∷ tokens else []

or_last : (b c : Bool) → c ≡ false → (b || (c || false)) ≡ b
or_last true c e = refl
or_last false c e = ap (λ x. x || false) e

or_true : (b c : Bool) → c ≡ true → (b || (c || false)) ≡ true
or_true true c e = refl
or_true false c e = ap (λ x. x || false) e

dropped_last : (xs : List Token) (t : Token) → ends_line t ≡ false → up_to_last_line (xs ++ t ∷ []) ≡ up_to_last_line xs
dropped_last [] t e = ap (λ b. kept (b || false) t []) e
dropped_last (x ∷ xs) t e =
    ap (λ b. kept b x (up_to_last_line (xs ++ t ∷ []))) (list_any-append ends_line (x ∷ xs) (t ∷ []) ∙ or_last (list_any ends_line (x ∷ xs)) (ends_line t) e) ∙
    ap (kept (list_any ends_line (x ∷ xs)) x) (dropped_last xs t e)

kept_last : (xs : List Token) (t : Token) → ends_line t ≡ true → up_to_last_line (xs ++ t ∷ []) ≡ xs ++ t ∷ []
kept_last [] t e = ap (λ b. kept (b || false) t []) e
kept_last (x ∷ xs) t e =
    ap (λ b. kept b x (up_to_last_line (xs ++ t ∷ []))) (list_any-append ends_line (x ∷ xs) (t ∷ []) ∙ or_true (list_any ends_line (x ∷ xs)) (ends_line t) e) ∙
    ap (λ ts. x ∷ ts) (kept_last xs t e)

parted : (tokens : List Token) (end : ℕ) (d : Token) → 0 < end → end ≤ length tokens → take end tokens ≡ take (end - 1) tokens ++ get_or tokens (end - 1) d ∷ []
parted tokens end d some within =
    let n : (end - 1) + 1 ≡ end = omega arith in
    ap (λ k. take k tokens) (sym n) ∙ take_more tokens (end - 1) d (omega arith)

-- a last token that ends no line is left out
pub without_last : (tokens : List Token) (end : ℕ) (d : Token) → 0 < end → end ≤ length tokens → ends_line (get_or tokens (end - 1) d) ≡ false → up_to_last_line (take (end - 1) tokens) ≡ up_to_last_line (take end tokens)
without_last tokens end d some within e =
    sym (dropped_last (take (end - 1) tokens) (get_or tokens (end - 1) d) e) ∙ ap up_to_last_line (sym (parted tokens end d some within))

-- if the last token ends a line, all tokens are kept
pub with_last : (tokens : List Token) (end : ℕ) (d : Token) → 0 < end → end ≤ length tokens → ends_line (get_or tokens (end - 1) d) ≡ true → up_to_last_line (take end tokens) ≡ take end tokens
with_last tokens end d some within e =
    ap up_to_last_line (parted tokens end d some within) ∙ kept_last (take (end - 1) tokens) (get_or tokens (end - 1) d) e ∙ sym (parted tokens end d some within)
