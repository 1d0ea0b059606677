use Rattle.std.proofs.Common.{◌≡◌, ◌<◌, ◌∙◌, ap, subst, sym, List, ℕ, drop, length, nat_eq}
use Rattle.st_names.specs.Name.{Components, components_of}
use Rattle.st_resolve.specs.Cursor.{IsComponentAt}
use Rattle.st_resolve.proofs.Texts.{ends_there, some_left}
use Rattle.st_resolve.proofs.cursor.Cursor.is_last.Goals as goal

pub returns : goal.returns
returns c =
    let at = c.self.inside.at in
    let text = c.bytes-text.result.now in
    let same : text ≡ c.self.inside.text = c.bytes-text.ensures in
    let view = ap (λ (t : List ℕ). components_of (drop at t)) same ∙ c.self.view_is in
    let is : IsComponentAt text at c.self.inside.end = subst (λ (t : List ℕ). IsComponentAt t at c.self.inside.end) (sym same) c.self.invariant in
    let short : at < length text = some_left text at (subst (λ (parts : Components). 0 < length parts) (sym view) c.requires) in
    ends_there text c.component_after-following.result.0 c.component_after-following.ensures.at.place
    ∙ ap (λ (all : Components). nat_eq (length all) 0) (c.component_after-following.ensures.rest at is short ∙ ap (drop 1) view)
