-- Texts that grow piece by piece.
use Rattle.std.proofs.Common.{◌≡◌, ℕ, List, ◌++◌, ap, ◌∙◌}
use Rattle.std.proofs.lemmas.List.{append_assoc}

four_after : (t a b c d : List ℕ) → t ++ a ++ b ++ c ++ d ≡ t ++ (a ++ b ++ c ++ d)
four_after t a b c d = simp append_assoc

six_after : (t a b c d e f : List ℕ) → t ++ a ++ b ++ c ++ d ++ e ++ f ≡ t ++ (a ++ b ++ c ++ d ++ e ++ f)
six_after t a b c d e f = simp append_assoc

-- four pieces, one after the other
pub four_joined : (t a b c d u v w : List ℕ) → u ≡ t ++ a → v ≡ u ++ b → w ≡ v ++ c → (x : List ℕ) → x ≡ w ++ d → x ≡ t ++ (a ++ b ++ c ++ d)
four_joined t a b c d u v w first second third x fourth =
    fourth ∙ ap (λ text. text ++ d) (third ∙ ap (λ text. text ++ c) (second ∙ ap (λ text. text ++ b) first)) ∙ four_after t a b c d

-- two pieces, then one, then three
pub six_joined : (t a b c d e f u v : List ℕ) → u ≡ t ++ a ++ b → v ≡ u ++ c → (w : List ℕ) → w ≡ v ++ d ++ e ++ f → w ≡ t ++ (a ++ b ++ c ++ d ++ e ++ f)
six_joined t a b c d e f u v first second w third =
    third ∙ ap (λ text. text ++ d ++ e ++ f) (second ∙ ap (λ text. text ++ c) first) ∙ six_after t a b c d e f
