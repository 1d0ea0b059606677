use Rattle.std.proofs.Common.{◌≡◌, ◌∙◌, ap, subst, sym, List, ℕ, [], ◌∷◌, ◌++◌}
use Rattle.st_names.specs.Name.{IsNameText, slash}
use Rattle.st_names.proofs.Spelled.{spelled_after}
use Rattle.st_names.proofs.name.AbsName.of_parts.Goals as goal

text_spelled : (none slashed spelled text : List ℕ) → none ≡ [] → slashed ≡ none ++ slash ∷ [] → spelled ≡ slashed ++ text → spelled ≡ slash ∷ text
text_spelled none slashed spelled text e f g = g ∙ ap (λ (front : List ℕ). front ++ text) (f ∙ ap (λ (front : List ℕ). front ++ slash ∷ []) e)

pub invariant_of-result : goal.invariant_of-result
invariant_of-result c =
    subst IsNameText (sym (text_spelled _ _ _ _ c.in_ok-spelled.ensures.items c.push_reserved.ensures.items c.in_ok-extend_from_slice.ensures.items)) (spelled_after c.args.text.now)
