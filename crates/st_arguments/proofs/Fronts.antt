-- The components of a text one after another: the parts between its slashes, without those that aren't components.
use native.Mathlib.Omega.{arith}
use Rattle.std.proofs.Common.{◌≡◌, ◌<◌, ℕ, suc, ◌+◌, true, false, cond, List, [], ◌∷◌, ◌++◌, length, take, drop, get_or, sym, ap, ◌∙◌, append-nil, drop-cons, length-append}
use Rattle.std.proofs.lemmas.List.{take-append-drop, take_all}
use Rattle.std.proofs.lemmas.List.Elements.{filter-append}
use Rattle.std.proofs.Math.Seq.{take-append_seam}
use Rattle.std.specs.List.{filter}
use Rattle.st_names.specs.Name.{Components, components_of, is_component, split_at_slashes}
use Rattle.st_model.proofs.Endings.{length-components}

kept : (part : List ℕ) (rest : Components) → is_component part ≡ true → filter is_component (part ∷ rest) ≡ part ∷ filter is_component rest
kept part rest is = ap (λ b. cond b (part ∷ filter is_component rest) (filter is_component rest)) is

left_out : (part : List ℕ) (rest : Components) → is_component part ≡ false → filter is_component (part ∷ rest) ≡ filter is_component rest
left_out part rest is = ap (λ b. cond b (part ∷ filter is_component rest) (filter is_component rest)) is

-- one more part that is a component
pub front-push : (parts : Components) (part : List ℕ) → is_component part ≡ true → filter is_component (parts ++ part ∷ []) ≡ filter is_component parts ++ part ∷ []
front-push parts part is = filter-append is_component parts (part ∷ []) ∙ ap (λ (l : Components). filter is_component parts ++ l) (kept part [] is)

-- one more part that isn't a component
pub front-skip : (parts : Components) (part : List ℕ) → is_component part ≡ false → filter is_component (parts ++ part ∷ []) ≡ filter is_component parts
front-skip parts part is = filter-append is_component parts (part ∷ []) ∙ ap (λ (l : Components). filter is_component parts ++ l) (left_out part [] is) ∙ append-nil (filter is_component parts)

module _ (text : List ℕ) (parts : Components) (n : ℕ) (so_far : parts ≡ take n (split_at_slashes text)) where
  -- the components of the parts so far are a prefix of all components
  pub front_of : components_of text ≡ filter is_component parts ++ filter is_component (drop n (split_at_slashes text))
  front_of =
      ap (filter is_component) (sym (take-append-drop n (split_at_slashes text)))
      ∙ filter-append is_component (take n (split_at_slashes text)) (drop n (split_at_slashes text))
      ∙ ap (λ (l : Components). filter is_component l ++ filter is_component (drop n (split_at_slashes text))) (sym so_far)

  -- the same before a part that is a component
  pub front_at : (part : List ℕ) → n < length (split_at_slashes text) → part ≡ get_or (split_at_slashes text) n part → is_component part ≡ true
      → components_of text ≡ filter is_component parts ++ part ∷ filter is_component (drop (suc n) (split_at_slashes text))
  front_at part within here is =
      front_of
      ∙ ap (λ (l : Components). filter is_component parts ++ filter is_component l) (drop-cons (split_at_slashes text) n part within)
      ∙ ap (λ (p : List ℕ). filter is_component parts ++ filter is_component (p ∷ drop (suc n) (split_at_slashes text))) (sym here)
      ∙ ap (λ (l : Components). filter is_component parts ++ l) (kept part (drop (suc n) (split_at_slashes text)) is)

-- fewer components come before another one than the text has bytes
pub front_short : (text : List ℕ) (front rest : Components) (part : List ℕ) → components_of text ≡ front ++ part ∷ rest → length front < length text
front_short text front rest part split =
    let all = length-components text in
    let l = ap length split in
    let m = length-append front (part ∷ rest) in
    omega (arith, all, l, m)

-- the first `count` components are the prefix of that length
pub front_taken : (text : List ℕ) (front rest : Components) (count : ℕ) → components_of text ≡ front ++ rest → count ≡ length front → take count (components_of text) ≡ front
front_taken text front rest count split is = ap (λ (n : ℕ). take n (components_of text)) is ∙ ap (take (length front)) split ∙ take-append_seam front rest

-- if there are no more than `count` components, the first `count` are all
pub all_taken : (text : List ℕ) (front : Components) (count left : ℕ) → components_of text ≡ front → left + length front ≡ count → take count (components_of text) ≡ front
all_taken text front count left is sum =
    let l = ap length is in take_all count (components_of text) (omega (arith, l, sum)) ∙ is
