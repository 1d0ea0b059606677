use Rattle.std.proofs.Common.{◌≡◌, ◌∙◌, ap, subst, sym, List, ℕ, [], ◌∷◌, ◌++◌, append_assoc}
use Rattle.st_names.specs.Name.{Components, IsNameText, parts_after, slash}
use Rattle.st_names.proofs.Spelled.{parts_after_push, spelled-append}
use Rattle.st_names.proofs.name.AbsName.push.Goals as goal

text_pushed : (text : List ℕ) (reserved slashed pushed part : List ℕ) → reserved ≡ text → slashed ≡ reserved ++ slash ∷ [] → pushed ≡ slashed ++ part → pushed ≡ text ++ slash ∷ part
text_pushed text reserved slashed pushed part e f g = g ∙ ap (λ (front : List ℕ). front ++ part) (f ∙ ap (λ (front : List ℕ). front ++ slash ∷ []) e) ∙ append_assoc text (slash ∷ []) part

pub invariant_of-self-2 : goal.invariant_of-self-2
invariant_of-self-2 c =
    let e = text_pushed _ _ _ _ _ c.reserve.ensures.items c.push_reserved.ensures.items c.in_ok-extend_from_slice.ensures.items in
    subst IsNameText (sym e) (spelled-append c.self.inside.text.items c.args.part.now c.self.invariant)

pub returns-clause-ok : goal.returns-clause-ok
returns-clause-ok c =
    let e = text_pushed _ _ _ _ _ c.reserve.ensures.items c.push_reserved.ensures.items c.in_ok-extend_from_slice.ensures.items in
    ap parts_after e ∙ parts_after_push c.self.inside.text.items c.args.part.now c.requires ∙ ap (λ (name : Components). name ++ c.args.part.now ∷ []) c.self.view_is
