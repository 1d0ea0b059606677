-- Texts of a piece for each of some neighbouring numbers.
use Rattle.std.proofs.Common.{◌≡◌, ◌∙◌, sym, ℕ, zero, suc, ◌+◌, List, [], ◌∷◌, ◌++◌, ap, arith, flat_map}
use Rattle.std.proofs.lemmas.List.{append_assoc, append-nil}
use Rattle.std.proofs.lemmas.Grind.{flat_map-append}
use Rattle.std.specs.List.{range_with_len}

range_more : (from n : ℕ) → range_with_len from (suc n) ≡ range_with_len from n ++ (from + n) ∷ []
range_more from zero = let e : from + 0 ≡ from = omega arith in rw e
range_more from (suc n) = let e : from + 1 + n ≡ from + suc n = omega arith in ap (λ l. from ∷ l) (range_more (from + 1) n ∙ rw e)

-- the text of n numbers, followed by the piece of the next number, is the text of one number more
pub piece_appended : (piece : ℕ → List ℕ) (from n next more : ℕ) (before so_far text : List ℕ) → from + n ≡ next → more ≡ suc n →
    so_far ≡ before ++ flat_map piece (range_with_len from n) → text ≡ so_far ++ piece next → text ≡ before ++ flat_map piece (range_with_len from more)
piece_appended piece from n next more before so_far text at longer first last =
    let pieces = flat_map piece (range_with_len from n) in
    let grown : flat_map piece (range_with_len from more) ≡ pieces ++ piece next =
    ap (λ k. flat_map piece (range_with_len from k)) longer
    ∙ ap (flat_map piece) (range_more from n)
    ∙ flat_map-append piece (range_with_len from n) ((from + n) ∷ [])
    ∙ ap (λ k. pieces ++ (piece k ++ [])) at
    ∙ ap (λ t. pieces ++ t) (append-nil (piece next)) in
    last ∙ ap (λ t. t ++ piece next) first ∙ append_assoc before pieces (piece next) ∙ ap (λ t. before ++ t) (sym grown)
