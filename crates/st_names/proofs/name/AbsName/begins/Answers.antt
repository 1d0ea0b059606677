use Rattle.std.proofs.Common.{◌≡◌, ◌⊎◌, ◌∙◌, ⊎_elim, ap, sym, subst₂, arith, ◌<◌, ℕ, List, [], ◌∷◌, ◌++◌, length, take, drop, get_or, nat_eq, false, true}
use Rattle.std.proofs.lemmas.Bool.{eq-eqb, eqb-true}
use Rattle.std.specs.Cmp.Lexicographic.{pointwise}
use Rattle.st_names.specs.Name.{Components, IsNameText, parts_after, slash}
use Rattle.st_names.proofs.Spelled.{begins_all, begins_more, begins_none, begun_rest, prefix_rest}
use Rattle.st_names.proofs.name.AbsName.begins.Goals as goal

abbrev Begins : Components → Components → Type 0
Begins name other = name ≡ take (length name) other

by_texts : (text other : List ℕ) (name begun : Components) → parts_after text ≡ name → parts_after other ≡ begun → Begins name begun → Begins (parts_after text) (parts_after other)
by_texts text other name begun e f h = subst₂ Begins (sym e) (sym f) h

by_names : (text other : List ℕ) (name begun : Components) → parts_after text ≡ name → parts_after other ≡ begun → Begins (parts_after text) (parts_after other) → Begins name begun
by_names text other name begun e f h = subst₂ Begins e f h

none : (rest : List ℕ) → nat_eq (length rest) 0 ≡ true → rest ≡ []
none [] e = cc
none (x ∷ rest) e = absurd (omega (arith, eqb-true (length (x ∷ rest)) 0 e))

some : (rest : List ℕ) → nat_eq (length rest) 0 ≡ false → 0 < length rest
some [] e = cc
some (x ∷ rest) e = omega arith

first_slash : (rest : List ℕ) → 0 < length rest → (rest ≡ []) ⊎ (get_or rest 0 0 ≡ slash) → nat_eq (get_or rest 0 0) slash ≡ true
first_slash rest more = ⊎_elim (λ empty. let e = ap length empty in absurd (omega arith)) (eq-eqb (get_or rest 0 0) slash)

text_rest : (text other prefix whole rest : List ℕ) → prefix ≡ text → whole ≡ other → pointwise nat_eq (take (length prefix) whole) prefix ≡ true → rest ≡ drop (length prefix) whole → other ≡ text ++ rest
text_rest text other prefix whole rest e f same is = sym f ∙ prefix_rest prefix whole rest same is ∙ ap (λ (front : List ℕ). front ++ rest) e

no_rest : (text other prefix whole : List ℕ) → prefix ≡ text → whole ≡ other → IsNameText text → IsNameText other → pointwise nat_eq (take (length prefix) whole) prefix ≡ false → Begins (parts_after text) (parts_after other) → ⊥
no_rest text other prefix whole e f spelled spelled_other differs begins =
    begins_none text other spelled spelled_other (subst₂ (λ (p w : List ℕ). pointwise nat_eq (take (length p) w) p ≡ false) e f differs) begins

pub returns-in_default : goal.returns-in_default
returns-in_default c = (
  λ h. cc,
  λ h. absurd (no_rest c.self.inside.text.items c.other.inside.text.items c.as_slice.result.now c.as_slice-other.result.now c.as_slice.ensures.value c.as_slice-other.ensures.value c.self.invariant c.other.invariant c.in_default.ensures.cases
      (by_texts c.self.inside.text.items c.other.inside.text.items c.args.self.now c.args.other.now c.self.view_is c.other.view_is h)),
)

pub returns-then-is_empty : goal.returns-then-is_empty
returns-then-is_empty c =
    let rest = text_rest c.self.inside.text.items c.other.inside.text.items c.as_slice.result.now c.as_slice-other.result.now c.in-Some.rest.now c.as_slice.ensures.value c.as_slice-other.ensures.value c.in-Some.ensures.cases.0 c.in-Some.ensures.cases.1 in (
      λ h. by_names c.self.inside.text.items c.other.inside.text.items c.args.self.now c.args.other.now c.self.view_is c.other.view_is
          (begins_all c.self.inside.text.items c.other.inside.text.items c.in-Some.rest.now rest (none c.in-Some.rest.now (sym c.is_empty.ensures ∙ c.if-is_empty.true))),
      λ h. c.if-is_empty.true,
    )

pub returns-else-is_empty : goal.returns-else-is_empty
returns-else-is_empty c =
    let rest = text_rest c.self.inside.text.items c.other.inside.text.items c.as_slice.result.now c.as_slice-other.result.now c.in-Some.rest.now c.as_slice.ensures.value c.as_slice-other.ensures.value c.in-Some.ensures.cases.0 c.in-Some.ensures.cases.1 in
    let more = some c.in-Some.rest.now (sym c.is_empty.ensures ∙ c.if-is_empty.false) in (
      λ h. by_names c.self.inside.text.items c.other.inside.text.items c.args.self.now c.args.other.now c.self.view_is c.other.view_is
          (begins_more c.self.inside.text.items c.other.inside.text.items c.in-Some.rest.now rest more (eqb-true _ _ h)),
      λ h. first_slash c.in-Some.rest.now more (begun_rest c.self.inside.text.items c.other.inside.text.items c.in-Some.rest.now c.self.invariant c.other.invariant rest
          (by_texts c.self.inside.text.items c.other.inside.text.items c.args.self.now c.args.other.now c.self.view_is c.other.view_is h)),
    )
