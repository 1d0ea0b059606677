-- Counts and faults whose offsets are increased twice.
use Rattle.std.proofs.Common.{◌≡◌, ℕ, ◌+◌, Option, None, Some, refl, ap, arith}
use Rattle.st_lex.specs.declared.token.LexFault.{LexFault}
use Rattle.st_lex.specs.declared.token.LexFault.TheVariants.{BadByte, OpenQuote, BadEscape}
use Rattle.st_lex.specs.Quoted.{count_after, shifted_fault, optional_fault_after}

-- two increases add up
pub further-further : (a b : ℕ) (o : Option ℕ) → count_after a (count_after b o) ≡ count_after (a + b) o
further-further a b None = refl
further-further a b (Some n) = ap (λ (m : ℕ). Some m) (omega arith)

pub further-zero : (o : Option ℕ) → count_after 0 o ≡ o
further-zero None = refl
further-zero (Some n) = ap (λ (m : ℕ). Some m) (omega arith)

pub moved-moved : (a b : ℕ) (f : LexFault) → shifted_fault a (shifted_fault b f) ≡ shifted_fault (a + b) f
moved-moved a b (BadByte n) = ap (λ (m : ℕ). BadByte m) (omega arith)
moved-moved a b (OpenQuote n) = ap (λ (m : ℕ). OpenQuote m) (omega arith)
moved-moved a b (BadEscape n) = ap (λ (m : ℕ). BadEscape m) (omega arith)

pub moved-zero : (f : LexFault) → shifted_fault 0 f ≡ f
moved-zero (BadByte n) = ap (λ (m : ℕ). BadByte m) (omega arith)
moved-zero (OpenQuote n) = ap (λ (m : ℕ). OpenQuote m) (omega arith)
moved-zero (BadEscape n) = ap (λ (m : ℕ). BadEscape m) (omega arith)

pub later-later : (a b : ℕ) (o : Option LexFault) → optional_fault_after a (optional_fault_after b o) ≡ optional_fault_after (a + b) o
later-later a b None = refl
later-later a b (Some f) = ap (λ (m : LexFault). Some m) (moved-moved a b f)

pub later-zero : (o : Option LexFault) → optional_fault_after 0 o ≡ o
later-zero None = refl
later-zero (Some f) = ap (λ (m : LexFault). Some m) (moved-zero f)
