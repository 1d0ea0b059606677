-- The index of a label, as pieces and as bytes.
use Rattle.std.proofs.Common.{◌≡◌, ℕ, Bool, true, false, if◌then◌else◌, ◌==◌, [], ◌∷◌, ◌++◌, refl, codes}
use Rattle.std.specs.Prelude.{decimal}
use Rattle.st_calls.specs.Argument.{index_text}
use Rattle.st_lex.specs.Pieces.{Sign, PlainWord, print}
use Rattle.st_lex.specs.declared.token.TokenKind.TheVariants as kind
use Rattle.st_printing.specs.Canon.{index_pieces}

by_zero : (n : ℕ) (b : Bool) → (if b then [] else codes "[" ++ decimal n ++ codes "]") ≡ print (if b then [] else Sign kind.OpenBracket ∷ PlainWord (decimal n) ∷ Sign kind.CloseBracket ∷ [])
by_zero n true = refl
by_zero n false = refl

-- the pieces of an index are printed as its text
pub index_text_printed : (n : ℕ) → index_text n ≡ print (index_pieces n)
index_text_printed n = by_zero n (n == 0)
