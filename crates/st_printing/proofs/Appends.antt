-- Texts that grow piece by piece.
use Rattle.std.proofs.Common.{◌≡◌, ℕ, List, ◌++◌, ap, ◌∙◌}
use Rattle.std.proofs.lemmas.List.{append_assoc}

pub three_appended : (x y z o a m e : List ℕ) → x ≡ o ++ a → y ≡ x ++ m → z ≡ y ++ e → z ≡ o ++ (a ++ (m ++ e))
three_appended x y z o a m e p q r =
    r ∙ ap (λ (t : List ℕ). t ++ e) (q ∙ ap (λ (t : List ℕ). t ++ m) p)
    ∙ append_assoc (o ++ a) m e ∙ append_assoc o a (m ++ e)
