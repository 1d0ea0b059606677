-- Names as their texts: each component after a slash.
use Rattle.std.proofs.Common.{◌≡◌, ◌⊎◌, inl, inr, ◌<◌, ◌≤◌, ℕ, suc, ◌+◌, ◌-◌, ◌==◌, Bool, true, false, cond, not, ◌||◌, List, [], ◌∷◌, ◌++◌, length, take, drop, get_or, refl, ap, sym, ◌∙◌, subst, arith, length-append, length-drop, drop-cons, add-one}
use Rattle.std.specs.Cmp.Lexicographic.{other_text, pointwise, same_text}
use Rattle.std.specs.List.{count_by, flat_map, onto_first, position, position_or_len}
use Rattle.std.specs.Prelude.{Option, Some, None, All, nat_eq, nat_lt, unwrap_or}
use Rattle.std.proofs.lemmas.Bool.{eqb-true, false_from_ne_true, ltb-false}
use Rattle.std.proofs.lemmas.Bool.Decides.{nat_tests}
use Rattle.std.proofs.lemmas.Grind.{flat_map-append}
use Rattle.std.proofs.lemmas.List.{append-nil, append_cancel_left, take-append-drop}
use Rattle.std.proofs.lemmas.List.Elements.{All-cons, All-filter, All-head, All-tail}
use Rattle.std.proofs.lemmas.List.Folds.{list_any_none}
use Rattle.std.proofs.lemmas.List.Sums.{position_or_len_is, prefix_len-le-length}
use Rattle.std.proofs.lemmas.List.Splits.{length-slice_split}
use Rattle.std.proofs.Math.Seq.{take-append_seam, take-length}
use Rattle.memchr.specs.Find.{IsFirstByte, is_byte}
use Rattle.st_names.specs.declared.limits.TheConstants.{LONGEST_PART}
use Rattle.st_names.specs.Name.{AreParts, Components, IsLastSlash, IsNameText, components_of, has_long_part, has_slash, is_component, is_slash, parent, split_at_slashes, parts_after, slash, with_slash}

-- ---- splitting at slashes

slashed_front : (b : Bool) (x : ℕ) (xs : List ℕ) (texts : Components) → (b ≡ true → x ≡ slash) → flat_map with_slash texts ≡ slash ∷ xs → flat_map with_slash (cond b ([] ∷ texts) (onto_first x texts)) ≡ slash ∷ x ∷ xs
slashed_front true x xs texts is h = let e = is refl in cc
slashed_front false x xs [] is h = cc
slashed_front false x xs (part ∷ texts) is h = cc

-- the parts between slashes spell the text after one more slash
pub slashed-parts : (text : List ℕ) → flat_map with_slash (split_at_slashes text) ≡ slash ∷ text
slashed-parts [] = refl
slashed-parts (x ∷ xs) = slashed_front (x == slash) x xs (split_at_slashes xs) (eqb-true x slash) (slashed-parts xs)

pub parts_some : (text : List ℕ) → 0 < length (split_at_slashes text)
parts_some text = omega (arith, length-slice_split is_slash text)

append_front : (b : Bool) (x : ℕ) (whole left right : Components) → 0 < length left → whole ≡ left ++ right → cond b ([] ∷ whole) (onto_first x whole) ≡ cond b ([] ∷ left) (onto_first x left) ++ right
append_front true x whole left right some e = ap (λ (texts : Components). [] ∷ texts) e
append_front false x whole [] right some e = absurd (omega arith)
append_front false x whole (part ∷ left) right some e = ap (onto_first x) e

-- a slash splits a text in two
pub parts-append : (front back : List ℕ) → split_at_slashes (front ++ slash ∷ back) ≡ split_at_slashes front ++ split_at_slashes back
parts-append [] back = refl
parts-append (x ∷ xs) back = append_front (x == slash) x _ (split_at_slashes xs) (split_at_slashes back) (parts_some xs) (parts-append xs back)

plain_front : (b c : Bool) (x : ℕ) (xs : List ℕ) (texts : Components) → (b || c) ≡ false → (c ≡ false → texts ≡ xs ∷ []) → cond b ([] ∷ texts) (onto_first x texts) ≡ (x ∷ xs) ∷ []
plain_front true c x xs texts none e = cc
plain_front false true x xs texts none e = cc
plain_front false false x xs texts none e = ap (onto_first x) (e refl)

-- a text without a slash is one part
pub parts_plain : (text : List ℕ) → has_slash text ≡ false → split_at_slashes text ≡ text ∷ []
parts_plain [] none = refl
parts_plain (x ∷ xs) none = plain_front (x == slash) (has_slash xs) x xs (split_at_slashes xs) none (parts_plain xs)

after_front : (left right : Components) → 0 < length left → drop 1 (left ++ right) ≡ drop 1 left ++ right
after_front [] right some = absurd (omega arith)
after_front (part ∷ left) right some = refl

pub parts_after-append : (front back : List ℕ) → parts_after (front ++ slash ∷ back) ≡ parts_after front ++ split_at_slashes back
parts_after-append front back = ap (drop 1) (parts-append front back) ∙ after_front (split_at_slashes front) (split_at_slashes back) (parts_some front)

-- one more component
pub parts_after_push : (text part : List ℕ) → has_slash part ≡ false → parts_after (text ++ slash ∷ part) ≡ parts_after text ++ part ∷ []
parts_after_push text part plain = parts_after-append text part ∙ ap (λ (texts : Components). parts_after text ++ texts) (parts_plain part plain)

-- ---- texts that spell names

pub spelled_after : (text : List ℕ) → IsNameText (slash ∷ text)
spelled_after text = slashed-parts text

begins_slashed : (texts : Components) (x : ℕ) (xs : List ℕ) → flat_map with_slash texts ≡ x ∷ xs → x ≡ slash
begins_slashed [] x xs e = cc
begins_slashed (part ∷ texts) x xs e = cc

pub spelled_begins : (x : ℕ) (xs : List ℕ) → IsNameText (x ∷ xs) → x ≡ slash
spelled_begins x xs spelled = begins_slashed _ x xs spelled

spelled_from : (x : ℕ) (xs : List ℕ) → x ≡ slash → IsNameText (x ∷ xs)
spelled_from x xs is = subst (λ (y : ℕ). IsNameText (y ∷ xs)) (sym is) (spelled_after xs)

-- a text that spells a name still spells a name with a slash and more text appended
pub spelled-append : (front back : List ℕ) → IsNameText front → IsNameText (front ++ slash ∷ back)
spelled-append front back spelled =
    ap (flat_map with_slash) (parts_after-append front back) ∙ flat_map-append with_slash (parts_after front) (split_at_slashes back)
    ∙ ap (λ (text : List ℕ). text ++ flat_map with_slash (split_at_slashes back)) spelled ∙ ap (λ (text : List ℕ). front ++ text) (slashed-parts back)

-- a text that spells a name still spells a name if it is cut before one of its slashes
pub spelled_front : (front back : List ℕ) → IsNameText (front ++ slash ∷ back) → IsNameText front
spelled_front [] back spelled = refl
spelled_front (x ∷ xs) back spelled = spelled_from x xs (spelled_begins x (xs ++ slash ∷ back) spelled)

-- only the root's text is empty
pub spelled_root : (text : List ℕ) → IsNameText text → parts_after text ≡ [] → text ≡ []
spelled_root text spelled root = sym spelled ∙ ap (flat_map with_slash) root

-- ---- the first component

first_by : (b : Bool) (x : ℕ) (xs : List ℕ) (n : ℕ) → (b ≡ (x == slash)) → split_at_slashes xs ≡ take n xs ∷ parts_after (drop n xs) → split_at_slashes (x ∷ xs) ≡ take (cond (not b) (1 + n) 0) (x ∷ xs) ∷ parts_after (drop (cond (not b) (1 + n) 0) (x ∷ xs))
first_by true x xs n is e = let cut : split_at_slashes (x ∷ xs) ≡ [] ∷ split_at_slashes xs = ap (λ (b : Bool). cond b ([] ∷ split_at_slashes xs) (onto_first x (split_at_slashes xs))) (sym is) in cut ∙ ap (λ (texts : Components). [] ∷ texts) (sym (ap (drop 1) cut))
first_by false x xs n is e =
    let one : 1 + n ≡ suc n = omega arith in
    let cut : split_at_slashes (x ∷ xs) ≡ onto_first x (split_at_slashes xs) = ap (λ (b : Bool). cond b ([] ∷ split_at_slashes xs) (onto_first x (split_at_slashes xs))) (sym is) in
    rw one (cut ∙ ap (onto_first x) e)

-- the first part of a text ends at its first slash
pub parts_first : (text : List ℕ) → split_at_slashes text ≡ take (position_or_len is_slash text) text ∷ parts_after (drop (position_or_len is_slash text) text)
parts_first [] = refl
parts_first (x ∷ xs) = first_by (x == slash) x xs (position_or_len is_slash xs) refl (parts_first xs)

rest_by : (b : Bool) (x : ℕ) (xs : List ℕ) (n : ℕ) → (b ≡ true → x ≡ slash) → IsNameText (drop n xs) → IsNameText (drop (cond (not b) (1 + n) 0) (x ∷ xs))
rest_by true x xs n is spelled = spelled_from x xs (is refl)
rest_by false x xs n is spelled = let one : 1 + n ≡ suc n = omega arith in rw one spelled

-- the text from its first slash on spells a name
pub spelled_rest : (text : List ℕ) → IsNameText (drop (position_or_len is_slash text) text)
spelled_rest [] = refl
spelled_rest (x ∷ xs) = rest_by (x == slash) x xs (position_or_len is_slash xs) (eqb-true x slash) (spelled_rest xs)

-- ---- the last component

parent_push : (name : Components) (part : List ℕ) → parent (name ++ part ∷ []) ≡ name
parent_push name part =
    let front : length (name ++ part ∷ []) - 1 ≡ length name = omega (arith, length-append name (part ∷ [])) in
    ap (λ (n : ℕ). take n (name ++ part ∷ [])) front ∙ take-append_seam name (part ∷ [])

last_push : (name : Components) (part : List ℕ) → get_or (name ++ part ∷ []) (length (name ++ part ∷ []) - 1) [] ≡ part
last_push name part =
    let front : length (name ++ part ∷ []) - 1 ≡ length name = omega (arith, length-append name (part ∷ [])) in
    ap (λ (n : ℕ). get_or (name ++ part ∷ []) n []) front ∙ get_or_end name part where
      get_or_end : (name : Components) (part : List ℕ) → get_or (name ++ part ∷ []) (length name) [] ≡ part
      get_or_end [] part = refl
      get_or_end (first ∷ name) part = get_or_end name part

cut_at : (text : List ℕ) (at : ℕ) → at < length text → get_or text at 0 ≡ slash → text ≡ take at text ++ slash ∷ drop (at + 1) text
cut_at text at within is = sym (take-append-drop at text) ∙ ap (λ (back : List ℕ). take at text ++ back) (rw (add-one, drop-cons text at 0) (ap (λ (x : ℕ). x ∷ drop (suc at) text) is))

last_of_cut : (text front back : List ℕ) → IsNameText text → text ≡ front ++ slash ∷ back → has_slash back ≡ false → IsNameText front × (parts_after front ≡ parent (parts_after text)) × (back ≡ get_or (parts_after text) (length (parts_after text) - 1) [])
last_of_cut text front back spelled cut plain =
    let pushed : parts_after text ≡ parts_after front ++ back ∷ [] = ap parts_after cut ∙ parts_after_push front back plain in
    (spelled_front front back (subst IsNameText cut spelled), sym (ap parent pushed ∙ parent_push (parts_after front) back), sym (ap (λ (name : Components). get_or name (length name - 1) []) pushed ∙ last_push (parts_after front) back))

pub is_last_slash : (text : List ℕ) (at : ℕ) → IsNameText text → at < length text → get_or text at 0 ≡ slash → has_slash (drop (at + 1) text) ≡ false → IsLastSlash text at
is_last_slash text at spelled within is plain =
    let cut = last_of_cut text (take at text) (drop (at + 1) text) spelled (cut_at text at within is) plain in
    record { front = cut.1; spelled = cut.0; last = λ _. cut.2 }

-- a text that spells a name and has no slash spells the root
pub no_last_slash : (text : List ℕ) → IsNameText text → has_slash text ≡ false → IsLastSlash text 0
no_last_slash [] spelled plain = record { front = refl; spelled = refl; last = λ some. absurd (omega arith) }
no_last_slash (x ∷ xs) spelled plain = absurd (has x xs (spelled_begins x xs spelled) plain) where
  has : (x : ℕ) (xs : List ℕ) → x ≡ slash → has_slash (x ∷ xs) ≡ false → ⊥
  has x xs is none = let first : (true || has_slash xs) ≡ false = subst (λ (y : ℕ). has_slash (y ∷ xs) ≡ false) is none in cc

-- ---- parts without slashes

plain_parts : (b : Bool) (x : ℕ) (texts : Components) → (x == slash) ≡ b → AreParts texts → AreParts (cond b ([] ∷ texts) (onto_first x texts))
plain_parts true x texts is plain = All-cons (λ text. has_slash text ≡ false) [] texts refl plain
plain_parts false x [] is plain = All-cons (λ text. has_slash text ≡ false) (x ∷ []) [] (ap (λ (b : Bool). b || false) is) plain
plain_parts false x (part ∷ texts) is plain =
    All-cons (λ text. has_slash text ≡ false) (x ∷ part) texts (ap (λ (b : Bool). b || has_slash part) is ∙ All-head (λ text. has_slash text ≡ false) part texts plain)
    (All-tail (λ text. has_slash text ≡ false) part texts plain)

-- the parts between slashes have no slash
pub plain-parts : (text : List ℕ) → AreParts (split_at_slashes text)
plain-parts [] = All-cons (λ text. has_slash text ≡ false) [] [] refl (λ k d below. absurd (omega arith))
plain-parts (x ∷ xs) = plain_parts (x == slash) x (split_at_slashes xs) refl (plain-parts xs)

pub plain-components : (text : List ℕ) → AreParts (components_of text)
plain-components text = All-filter is_component (λ part. has_slash part ≡ false) (split_at_slashes text) (plain-parts text)

place_by : (b : Bool) (place len : ℕ) → nat_lt place len ≡ b → place ≤ len → unwrap_or (cond b (Some place) None) len ≡ place
place_by true place len is within = refl
place_by false place len is within = let end : len ≤ place = ltb-false place len is in omega arith

-- the first slash is where the text's first part ends
pub first_slash_place : (text : List ℕ) → unwrap_or (position is_slash text) (length text) ≡ position_or_len is_slash text
first_slash_place text = place_by _ _ _ refl (prefix_len-le-length (λ byte. not (is_slash byte)) text)

-- the first slash is where a search for a slash ends
pub slash_found : (text : List ℕ) (found : Option ℕ) → IsFirstByte (is_byte slash) text found → unwrap_or found (length text) ≡ position_or_len is_slash text
slash_found text None nowhere = sym (position_or_len_is is_slash text (length text) 0 (omega arith) (λ k below. false_from_ne_true (is_slash (get_or text k 0)) (nowhere k (omega arith) below)) (λ below. absurd (omega arith)))
slash_found text (Some at) first =
    let within : at < length text = first.0.high in
    sym (position_or_len_is is_slash text at 0 (omega arith) (λ k below. false_from_ne_true (is_slash (get_or text k 0)) (first.0.before k (omega arith) below)) (λ _. first.1))

-- a byte other than a slash before a text without slashes adds none
pub has_slash_drop : (text : List ℕ) (at : ℕ) → at < length text → (get_or text at 0 ≡ slash → ⊥) → has_slash (drop (at + 1) text) ≡ false → has_slash (drop at text) ≡ false
has_slash_drop text at within differs none =
    rw (drop-cons text at 0) (plain (get_or text at 0 == slash) (λ is. differs (eqb-true _ _ is)) (rw add-one at none)) where
      plain : (b : Bool) → (b ≡ true → ⊥) → has_slash (drop (suc at) text) ≡ false → (b || has_slash (drop (suc at) text)) ≡ false
      plain true not_so none = absurd (not_so refl)
      plain false not_so none = none

-- ---- names that begin with other names

begun_text : (text other : List ℕ) → IsNameText text → IsNameText other → parts_after text ≡ take (length (parts_after text)) (parts_after other) → other ≡ text ++ flat_map with_slash (drop (length (parts_after text)) (parts_after other))
begun_text text other spelled spelled_other begins =
    let n = length (parts_after text) in
    let more = drop n (parts_after other) in
    let whole : parts_after other ≡ parts_after text ++ more = sym (take-append-drop n (parts_after other)) ∙ ap (λ (front : Components). front ++ more) (sym begins) in
    sym spelled_other ∙ ap (flat_map with_slash) whole ∙ flat_map-append with_slash (parts_after text) more ∙ ap (λ (front : List ℕ). front ++ flat_map with_slash more) spelled

begun_slashed : (text rest : List ℕ) → parts_after text ≡ take (length (parts_after text)) (parts_after (text ++ slash ∷ rest))
begun_slashed text rest = sym (ap (take (length (parts_after text))) (parts_after-append text rest) ∙ take-append_seam (parts_after text) (split_at_slashes rest))

-- if one name is a prefix of another, the text of the other continues after the first name's text with nothing or with a slash
pub begun_rest : (text other rest : List ℕ) → IsNameText text → IsNameText other → other ≡ text ++ rest → parts_after text ≡ take (length (parts_after text)) (parts_after other) → (rest ≡ []) ⊎ (get_or rest 0 0 ≡ slash)
begun_rest text other rest spelled spelled_other is begins =
    by rest (drop (length (parts_after text)) (parts_after other)) (append_cancel_left text _ _ (sym is ∙ begun_text text other spelled spelled_other begins)) where
      by : (rest : List ℕ) (more : Components) → rest ≡ flat_map with_slash more → (rest ≡ []) ⊎ (get_or rest 0 0 ≡ slash)
      by rest [] e = inl e
      by rest (part ∷ more) e = inr (ap (λ (xs : List ℕ). get_or xs 0 0) e)

pub begins_all : (text other rest : List ℕ) → other ≡ text ++ rest → rest ≡ [] → parts_after text ≡ take (length (parts_after text)) (parts_after other)
begins_all text other rest is none =
    let same : other ≡ text = is ∙ ap (λ (xs : List ℕ). text ++ xs) none ∙ append-nil text in
    sym (ap (λ (xs : List ℕ). take (length (parts_after text)) (parts_after xs)) same ∙ take-length (parts_after text))

pub begins_more : (text other rest : List ℕ) → other ≡ text ++ rest → 0 < length rest → get_or rest 0 0 ≡ slash → parts_after text ≡ take (length (parts_after text)) (parts_after other)
begins_more text other [] is some first = absurd (omega arith)
begins_more text other (x ∷ rest) is some first =
    begun_slashed text rest ∙ ap (λ (xs : List ℕ). take (length (parts_after text)) (parts_after xs)) (sym (is ∙ ap (λ (y : ℕ). text ++ y ∷ rest) first))

pub begins_none : (text other : List ℕ) → IsNameText text → IsNameText other → pointwise nat_eq (take (length text) other) text ≡ false → parts_after text ≡ take (length (parts_after text)) (parts_after other) → ⊥
begins_none text other spelled spelled_other differs begins =
    other_text (take (length text) other) text (sym differs)
    (ap (take (length text)) (begun_text text other spelled spelled_other begins) ∙ take-append_seam text (flat_map with_slash (drop (length (parts_after text)) (parts_after other))))

-- a text is its prefix followed by the rest
pub prefix_rest : (text other rest : List ℕ) → pointwise nat_eq (take (length text) other) text ≡ true → rest ≡ drop (length text) other → other ≡ text ++ rest
prefix_rest text other rest same is = sym (take-append-drop (length text) other) ∙ ap (λ (front : List ℕ). front ++ drop (length text) other) (same_text (take (length text) other) text (sym same)) ∙ ap (λ (back : List ℕ). text ++ back) (sym is)

-- the number of components that a text spells is the number of its slashes
pub length-parts_after : (text : List ℕ) → length (parts_after text) ≡ count_by is_slash text
length-parts_after text = omega (arith, length-drop 1 (split_at_slashes text), length-slice_split is_slash text)

-- ---- parts between slashes are no longer than the text

shorter_by : (b : Bool) (x n : ℕ) (texts : Components) → All (λ part. length part ≤ n) texts → All (λ part. length part ≤ suc n) (cond b ([] ∷ texts) (onto_first x texts))
shorter_by true x n texts short = All-cons (λ part. length part ≤ suc n) [] texts (omega arith) (λ k d below. omega (arith, short k d below))
shorter_by false x n [] short = All-cons (λ part. length part ≤ suc n) (x ∷ []) [] (omega arith) (λ k d below. absurd (omega arith))
shorter_by false x n (part ∷ texts) short =
    All-cons (λ text. length text ≤ suc n) (x ∷ part) texts (omega (arith, All-head (λ text. length text ≤ n) part texts short))
    (λ k d below. omega (arith, All-tail (λ text. length text ≤ n) part texts short k d below))

shorter-parts : (text : List ℕ) → All (λ part. length part ≤ length text) (split_at_slashes text)
shorter-parts [] = All-cons (λ part. length part ≤ 0) [] [] (omega arith) (λ k d below. absurd (omega arith))
shorter-parts (x ∷ xs) = shorter_by (x == slash) x (length xs) (split_at_slashes xs) (shorter-parts xs)

pub no_longer : (limit n : ℕ) → n ≤ limit → nat_lt limit n ≡ false
no_longer limit n short = grind (arith, nat_tests)

-- a text that is no longer than a part may be has no part that is too long
pub no_long_part : (text : List ℕ) → length text ≤ LONGEST_PART → has_long_part text ≡ false
no_long_part text short = list_any_none (λ part. nat_lt LONGEST_PART (length part)) (split_at_slashes text) (λ k d below. no_longer LONGEST_PART _ (omega (arith, short, shorter-parts text k d below)))

-- ---- iteration over components

parts_slashed : (text rest : List ℕ) (first : ℕ) → text ≡ first ∷ rest → first ≡ slash → parts_after text ≡ split_at_slashes rest
parts_slashed text rest first is slashes = ap parts_after (is ∙ ap (λ (x : ℕ). x ∷ rest) slashes)

-- the first component is the text up to the second slash
pub part_taken : (text following part rest : List ℕ) (first n : ℕ) → text ≡ first ∷ following → IsNameText text → n ≡ position_or_len is_slash following → part ≡ take n following → rest ≡ drop n following → IsNameText rest × (parts_after text ≡ part ∷ parts_after rest)
part_taken text following part rest first n is spelled place taken left = (
  subst IsNameText (sym (left ∙ ap (λ (m : ℕ). drop m following) place)) (spelled_rest following),
  parts_slashed text following first is (spelled_begins first following (subst IsNameText is spelled)) ∙ parts_first following
      ∙ ap (λ (m : ℕ). take m following ∷ parts_after (drop m following)) (sym place)
      ∙ ap (λ (p : List ℕ). p ∷ parts_after (drop n following)) (sym taken) ∙ ap (λ (r : List ℕ). part ∷ parts_after r) (sym left),
)

-- the text after the slash with which a text begins
pub after_slash : (text rest : List ℕ) (first : ℕ) → text ≡ first ∷ rest → IsNameText text → split_at_slashes rest ≡ parts_after text
after_slash text rest first is spelled = sym (parts_slashed text rest first is (spelled_begins first rest (subst IsNameText is spelled)))

-- the first part is the text before the first slash
pub first_part_taken : (text part slashed : List ℕ) (n : ℕ) (left : Components) → n ≡ position_or_len is_slash text → part ≡ take n text → slashed ≡ drop n text → (IsNameText slashed → left ≡ parts_after slashed) → split_at_slashes text ≡ part ∷ left
first_part_taken text part slashed n left place taken is following =
    let cut : slashed ≡ drop (position_or_len is_slash text) text = is ∙ ap (λ (m : ℕ). drop m text) place in
    parts_first text
    ∙ ap (λ (m : ℕ). take m text ∷ parts_after (drop m text)) (sym place)
    ∙ ap (λ (p : List ℕ). p ∷ parts_after (drop n text)) (sym taken)
    ∙ ap (λ (r : List ℕ). part ∷ parts_after r) (sym is)
    ∙ ap (λ (l : Components). part ∷ l) (sym (following (subst IsNameText (sym cut) (spelled_rest text))))
