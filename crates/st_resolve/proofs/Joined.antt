-- The components of several texts.
use Rattle.std.proofs.Common.{◌≡◌, ◌<◌, ◌≤◌, ℕ, suc, ◌-◌, Bool, true, false, List, [], ◌∷◌, ◌++◌, length, take, drop, nat_eq, Some, refl, ap, sym, ◌∙◌, subst, arith, append_assoc, append-nil, length-append, length-drop, drop-cons, get_or}
use Rattle.std.specs.List.{slice_get}
use Rattle.std.proofs.lemmas.Bool.{eqb-true}
use Rattle.std.proofs.lemmas.List.{take-append-drop}
use Rattle.std.proofs.lemmas.List.Elements.{All-head, All-tail}
use Rattle.std.proofs.lemmas.Option.{get_or_from_slice_get, slice_get_within}
use Rattle.std.proofs.Math.ListN.{drop_of_length-le}
use Rattle.std.proofs.Math.Seq.{get_or-append_seam}
use Rattle.st_names.specs.Name.{Components}
use Rattle.st_model.specs.Walk.{is_last}
use Rattle.st_resolve.specs.Remaining.{joined_components, AreUnfinished}
use Rattle.st_resolve.proofs.Texts.{front_of, not_zero}

-- the components of the last text come first
pub joined_last : (texts : List Components) (text : Components) → joined_components (texts ++ text ∷ []) ≡ text ++ joined_components texts
joined_last [] text = sym (append-nil text)
joined_last (first ∷ texts) text = ap (λ (all : Components). all ++ first) (joined_last texts text) ∙ append_assoc text (joined_components texts) first

dropped_from : (all text more : Components) → all ≡ text ++ more → 0 < length text → drop 1 text ++ more ≡ drop 1 all
dropped_from all [] more e some = absurd (omega arith)
dropped_from all (part ∷ text) more e some = sym (ap (drop 1) e)

-- the last text has a component left
last_unfinished : (old init : List Components) (text : Components) → old ≡ init ++ text ∷ [] → AreUnfinished old → 0 < length text
last_unfinished old init text e some =
    subst (λ (t : Components). 0 < length t) (ap (λ (texts : List Components). get_or texts (length init) []) e ∙ get_or-append_seam init text [] [])
    (some (length init) [] (let len = ap length e in omega (arith, length-append init (text ∷ []))))

pub dropped_last : (old init : List Components) (text : Components) → old ≡ init ++ text ∷ [] → AreUnfinished old → drop 1 text ++ joined_components init ≡ drop 1 (joined_components old)
dropped_last old init text e some = dropped_from (joined_components old) text (joined_components init) (ap joined_components e ∙ joined_last init text) (last_unfinished old init text e some)

first_from : (all text more : Components) (part : List ℕ) → all ≡ text ++ more → text ≡ part ∷ drop 1 text → all ≡ part ∷ drop 1 all
first_from all text more part e is = front_of all part (drop 1 text ++ more) (e ∙ ap (λ (front : Components). front ++ more) is)

last_split : (texts : List Components) (text : Components) → Some text ≡ slice_get texts (length texts - 1) → texts ≡ take (length texts - 1) texts ++ text ∷ []
last_split texts text e =
    let n : ℕ = length texts - 1 in
    let within : n < length texts = slice_get_within texts n text (sym e) in
    let none : drop (suc n) texts ≡ [] = drop_of_length-le texts {i = suc n} (omega arith) in
    let back : drop n texts ≡ text ∷ [] = drop-cons texts n [] within ∙ ap (λ (x : Components). x ∷ drop (suc n) texts) (get_or_from_slice_get texts n text [] (sym e)) ∙ ap (λ (rest : List Components). text ∷ rest) none in
    sym (take-append-drop n texts) ∙ ap (λ (rest : List Components). take n texts ++ rest) back

-- the next component is that of the last text
pub joined_first : (texts : List Components) (text all : Components) (part : List ℕ) → joined_components texts ≡ all → Some text ≡ slice_get texts (length texts - 1) → text ≡ part ∷ drop 1 text → all ≡ part ∷ drop 1 all
joined_first texts text all part view e is =
    first_from all text (joined_components (take (length texts - 1) texts)) part (sym view ∙ ap joined_components (last_split texts text e) ∙ joined_last (take (length texts - 1) texts) text) is

-- there are no more unfinished texts than components
pub texts_within : (texts : List Components) → AreUnfinished texts → length texts ≤ length (joined_components texts)
texts_within [] some = omega arith
texts_within (text ∷ texts) some =
    let more = texts_within texts (All-tail (λ t. 0 < length t) text texts some) in
    let first : 0 < length text = All-head (λ t. 0 < length t) text texts some in
    omega (arith, length-append (joined_components texts) text)

-- nothing is left exactly if there are no texts
pub none_left : (texts : List Components) (all : Components) (n : ℕ) (b : Bool) → joined_components texts ≡ all → AreUnfinished texts → n ≡ length texts → b ≡ nat_eq n 0 → (b ≡ true → all ≡ []) × (all ≡ [] → b ≡ true)
none_left [] all n b view some e is = (λ h. sym view, λ h. is ∙ ap (λ (m : ℕ). nat_eq m 0) e)
none_left (text ∷ texts) all n b view some e is =
    let more = texts_within (text ∷ texts) some in (
      λ h. absurd (let zero = eqb-true n 0 (sym is ∙ h) in omega arith),
      λ h. absurd (let none = ap length (view ∙ h) in omega arith),
    )

-- with several texts, the next component isn't the last
pub several_left : (texts : List Components) (all : Components) (n : ℕ) → joined_components texts ≡ all → AreUnfinished texts → n ≡ length texts → 0 < length all → (n ≡ 1 → ⊥) → nat_eq n 1 ≡ is_last (drop 1 all)
several_left [] all n view some e left differs = absurd (let none = ap length view in omega arith)
several_left (text ∷ texts) all n view some e left differs =
    let more = texts_within (text ∷ texts) some in
    let parts = ap length view in
    not_equal n 1 differs ∙ not_zero (length (drop 1 all)) (omega (arith, length-drop 1 all)) where
      not_equal : (a b : ℕ) → (a ≡ b → ⊥) → nat_eq a b ≡ false
      not_equal a b h = by (nat_eq a b) refl where
        by : (t : Bool) → nat_eq a b ≡ t → t ≡ false
        by true is = absurd (h (eqb-true a b is))
        by false is = refl
