-- The components of a text, one after another.
use Rattle.std.proofs.Common.{◌≡◌, ◌<◌, ◌≤◌, ℕ, ◌+◌, ◌-◌, min, Bool, true, false, cond, List, [], ◌∷◌, length, take, drop, nat_eq, nat_lt, refl, ap, sym, ◌∙◌, subst, arith}
use Rattle.std.specs.List.{filter}
use Rattle.std.proofs.lemmas.Bool.{eqb-true, eqb-false, ltb-true, ltb-false}
use Rattle.std.proofs.lemmas.List.{drop-drop, drop_min}
use Rattle.std.proofs.lemmas.List.Elements.{All-head}
use Rattle.std.proofs.Math.ListN.{drop_of_length-le}
use Rattle.st_names.specs.Name.{AreParts, Components, IsNameText, components_of, has_slash, is_component, parts_after}
use Rattle.st_names.proofs.Spelled.{parts_first, plain-components, spelled_begins, spelled_rest}
use Rattle.st_resolve.specs.Cursor.{IsAtComponent, first_part, first_part_len}

-- ---- the first part of a text

later_first : (rest : List ℕ) → IsNameText rest → filter is_component (parts_after rest) ≡ components_of (drop 1 rest)
later_first [] spelled = refl
later_first (x ∷ rest) spelled = ap (λ (y : ℕ). filter is_component (parts_after (y ∷ rest))) (spelled_begins x rest spelled)

components_first : (text : List ℕ) → components_of text ≡ cond (is_component (first_part text)) (first_part text ∷ components_of (drop (first_part_len text + 1) text)) (components_of (drop (first_part_len text + 1) text))
components_first text =
    let n : ℕ = first_part_len text in
    ap (filter is_component) (parts_first text)
    ∙ ap (λ (more : Components). cond (is_component (first_part text)) (first_part text ∷ more) more) (later_first (drop n text) (spelled_rest text) ∙ ap components_of (drop-drop 1 n text))

-- the same from an offset on, whose first part ends at another offset
components_at : (text part : List ℕ) (at end : ℕ) → end ≡ at + first_part_len (drop at text) → part ≡ first_part (drop at text) →
    components_of (drop at text) ≡ cond (is_component part) (part ∷ components_of (drop (min (end + 1) (length text)) text)) (components_of (drop (min (end + 1) (length text)) text))
components_at text part at end is taken =
    let rest = drop at text in
    let more : drop (first_part_len rest + 1) rest ≡ drop (min (end + 1) (length text)) text =
    drop-drop (first_part_len rest + 1) at text ∙ ap (λ (n : ℕ). drop n text) (omega (arith, is)) ∙ sym (drop_min (end + 1) text) in
    components_first rest
    ∙ ap (λ (xs : List ℕ). cond (is_component (first_part rest)) (first_part rest ∷ components_of xs) (components_of xs)) more
    ∙ ap (λ (p : List ℕ). cond (is_component p) (p ∷ components_of (drop (min (end + 1) (length text)) text)) (components_of (drop (min (end + 1) (length text)) text))) (sym taken)

-- a part that isn't a component is skipped
pub part_skipped : (text part : List ℕ) (at end : ℕ) → end ≡ at + first_part_len (drop at text) → part ≡ first_part (drop at text) → is_component part ≡ false →
    components_of (drop (min (end + 1) (length text)) text) ≡ components_of (drop at text)
part_skipped text part at end is taken none =
    let more : Components = components_of (drop (min (end + 1) (length text)) text) in
    sym (components_at text part at end is taken ∙ ap (λ (b : Bool). cond b (part ∷ more) more) none)

-- a component is followed by those after it
pub part_taken : (text part : List ℕ) (at end : ℕ) → end ≡ at + first_part_len (drop at text) → part ≡ first_part (drop at text) → is_component part ≡ true →
    components_of (drop at text) ≡ part ∷ components_of (drop (min (end + 1) (length text)) text)
part_taken text part at end is taken some =
    let more : Components = components_of (drop (min (end + 1) (length text)) text) in
    components_at text part at end is taken ∙ ap (λ (b : Bool). cond b (part ∷ more) more) some

-- ---- offsets in a text

pub front_of : (all : Components) (part : List ℕ) (rest : Components) → all ≡ part ∷ rest → all ≡ part ∷ drop 1 all
front_of all part rest e = e ∙ ap (λ (more : Components). part ∷ more) (sym (ap (drop 1) e))

pub components_end : (text : List ℕ) (at : ℕ) → length text ≤ at → components_of (drop at text) ≡ []
components_end text at past = ap components_of (drop_of_length-le text past)

pub some_left : (text : List ℕ) (at : ℕ) → 0 < length (components_of (drop at text)) → at < length text
some_left text at some = by (nat_lt at (length text)) refl where
  by : (b : Bool) → nat_lt at (length text) ≡ b → at < length text
  by true is = ltb-true _ _ is
  by false is = let none = ap length (components_end text at (ltb-false _ _ is)) in absurd (omega arith)

pub component_at : (text : List ℕ) (at : ℕ) → IsAtComponent text at → at < length text → components_of (drop at text) ≡ first_part (drop at text) ∷ drop 1 (components_of (drop at text))
component_at text at is within = front_of _ _ _ (part_taken text (first_part (drop at text)) at (at + first_part_len (drop at text)) refl refl (is.begins within))

pub not_zero : (n : ℕ) → 0 < n → false ≡ nat_eq n 0
not_zero n some = by (nat_eq n 0) refl where
  by : (b : Bool) → nat_eq n 0 ≡ b → false ≡ b
  by true e = let none = eqb-true n 0 e in absurd (omega arith)
  by false e = refl

pub ends_there : (text : List ℕ) (at : ℕ) → IsAtComponent text at → nat_eq at (length text) ≡ nat_eq (length (components_of (drop at text))) 0
ends_there text at is = by (nat_eq at (length text)) refl where
  by : (b : Bool) → nat_eq at (length text) ≡ b → b ≡ nat_eq (length (components_of (drop at text))) 0
  by true e = let end = eqb-true _ _ e in sym (ap (λ (all : Components). nat_eq (length all) 0) (components_end text at (omega arith)))
  by false e =
      let short : at < length text = let not_end = eqb-false _ _ e in let within = is.within in omega arith in
      let more = ap length (component_at text at is short) in
      not_zero _ (omega (arith, more))

pub plain_first : (text part : List ℕ) (rest : Components) → components_of text ≡ part ∷ rest → has_slash part ≡ false
plain_first text part rest e = All-head (λ p. has_slash p ≡ false) part rest (subst AreParts e (plain-components text))

if_all : (all : Components) (b : Bool) → b ≡ nat_eq (length all) 0 → (b ≡ true → all ≡ []) × (all ≡ [] → b ≡ true)
if_all [] b e = (λ h. refl, λ h. e)
if_all (part ∷ rest) b e = (λ h. absurd (let zero = eqb-true (length (part ∷ rest)) 0 (sym e ∙ h) in omega arith), λ h. cc)

-- an offset is the text's end exactly if no component is left
pub ended : (text : List ℕ) (at len : ℕ) (all : Components) (b : Bool) → components_of (drop at text) ≡ all → IsAtComponent text at → len ≡ length text → b ≡ nat_eq at len → (b ≡ true → all ≡ []) × (all ≡ [] → b ≡ true)
ended text at len all b view is len_is tested =
    if_all all b (tested ∙ ap (nat_eq at) len_is ∙ ends_there text at is ∙ ap (λ (parts : Components). nat_eq (length parts) 0) view)

-- the component at an offset that isn't the end
pub first_here : (text bytes : List ℕ) (at end : ℕ) (all : Components) → components_of (drop at text) ≡ all → IsAtComponent text at → bytes ≡ text → end ≡ at + first_part_len (drop at bytes) → 0 < length all →
    all ≡ take (end - at) (drop at bytes) ∷ drop 1 all
first_here text bytes at end all view is same place some =
    let within : at < length text = some_left text at (subst (λ (parts : Components). 0 < length parts) (sym view) some) in
    let len : end - at ≡ first_part_len (drop at bytes) = omega (arith, place) in
    let part : first_part (drop at text) ≡ take (end - at) (drop at bytes) = sym (ap (λ (n : ℕ). take n (drop at bytes)) len ∙ ap (λ (b : List ℕ). first_part (drop at b)) same) in
    sym view ∙ component_at text at is within ∙ ap (λ (p : List ℕ). p ∷ drop 1 (components_of (drop at text))) part ∙ ap (λ (parts : Components). take (end - at) (drop at bytes) ∷ drop 1 parts) view
