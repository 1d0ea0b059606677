-- Signs of one byte are neither blanks nor bytes of Words.
use Rattle.std.proofs.Common.{◌≡◌, ℕ, Bool, true, false, ◌==◌, nat_eq, if◌then◌else◌, List, ◌∷◌, Option, Some, refl, sym, subst, arith}
use Rattle.std.proofs.lemmas.Bool.Decides.{nat_tests}
use Rattle.st_lex.specs.declared.token.Front.TheVariants.{Piece}
use Rattle.st_lex.specs.declared.token.TokenKind.{TokenKind}
use Rattle.st_lex.specs.declared.token.TokenKind.TheVariants.{Line, Colon, Comma, Open, Close, OpenBracket, CloseBracket, Equal, Less, Greater}
use Rattle.st_lex.specs.Tokens.{front_of, sign_of}

-- a case distinction: the byte is this sign, or one of the rest
either : (b c : ℕ) (this k : TokenKind) (rest : Option TokenKind) (P : Type 0) → (b ≡ c → this ≡ k → P) → (rest ≡ Some k → P) → (if b == c then Some this else rest) ≡ Some k → P
either b c this k rest P here following e = by (nat_eq b c) refl e where
  by : (t : Bool) → nat_eq b c ≡ t → (if t then Some this else rest) ≡ Some k → P
  by true same e = here (grind (arith, nat_tests)) (cc)
  by false same e = following e

pub sign_in_front : (b : ℕ) (bs : List ℕ) (k : TokenKind) → sign_of b ≡ Some k → front_of (b ∷ bs) ≡ Piece k 1
sign_in_front b bs k e =
    let P : Type 0 = front_of (b ∷ bs) ≡ Piece k 1 in
    let at : (c : ℕ) (this : TokenKind) → front_of (c ∷ bs) ≡ Piece this 1 → b ≡ c → this ≡ k → P =
    λ c this f same kind. subst (λ (x : ℕ). front_of (x ∷ bs) ≡ Piece k 1) (sym same) (subst (λ (x : TokenKind). front_of (c ∷ bs) ≡ Piece x 1) kind f) in
    either b 10 Line k _ P (at 10 Line refl) (λ e.
    either b 58 Colon k _ P (at 58 Colon refl) (λ e.
    either b 44 Comma k _ P (at 44 Comma refl) (λ e.
    either b 40 Open k _ P (at 40 Open refl) (λ e.
    either b 41 Close k _ P (at 41 Close refl) (λ e.
    either b 91 OpenBracket k _ P (at 91 OpenBracket refl) (λ e.
    either b 93 CloseBracket k _ P (at 93 CloseBracket refl) (λ e.
    either b 61 Equal k _ P (at 61 Equal refl) (λ e.
    either b 60 Less k _ P (at 60 Less refl) (λ e.
    either b 62 Greater k _ P (at 62 Greater refl) (λ e. absurd (cc)) e) e) e) e) e) e) e) e) e) e
