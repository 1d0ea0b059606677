-- Which key is found for a number, after one is inserted or removed.
use Rattle.std.proofs.Common.{◌≡◌, ◌≢◌, ◌<◌, ◌≤◌, ℕ, zero, suc, ◌+◌, ◌-◌, ◌==◌, Bool, true, false, cond, nat_lt, List, [], ◌∷◌, ◌++◌, length, take, drop, get_or, Option, Some, None, inl, inr, refl, ap, sym, ◌∙◌, subst, arith, drop-cons, Less, Equal, Greater}
use Rattle.std.specs.Prelude.{find, IfErr, IfOk, Ok, Err, Result, option_map}
use Rattle.std.specs.List.{insert, remove}
use Rattle.std.specs.List.Sorted.{IsBinarySearchResult, IsSearchInRange}
use Rattle.std.specs.Ordering.{nat_cmp, ordering_index}
use Rattle.std.proofs.lemmas.Bool.{cases_eq, cases_lt, eq-eqb, eqb-false, eqb-true, ltb-false, ltb-true, ne_eqb}
use Rattle.std.proofs.lemmas.List.{get_or_default, take-append-drop}
use Rattle.std.proofs.lemmas.List.Edits.{get_or-insert_above, get_or-insert_at, get_or-insert_below, get_or-remove_above, get_or-remove_below, length-insert, length-remove}
use Rattle.std.proofs.lemmas.List.Quantifiers.{all_pairs_remove}
use Rattle.std.proofs.lemmas.Option.{same_Some, slice_get-get_or}
use Rattle.st_lookaside.specs.Slots.{is_key_of, key_at, AreAscending, IsGap, IsKeyAt}
use Rattle.st_lookaside.specs.declared.slots.SlotKey.{SlotKey}

-- ---- finding in a list

module _ {X : Type 0} (p : X → Bool) where
  find_here : (xs : List X) (i : ℕ) (d : X) → i < length xs → ((k : ℕ) → k < i → p (get_or xs k d) ≡ false) → p (get_or xs i d) ≡ true → find p xs ≡ Some (get_or xs i d)
  find_here [] i d within before here = absurd (omega arith)
  find_here (x ∷ xs) zero d within before here = ap (λ (b : Bool). cond b (Some x) (find p xs)) here
  find_here (x ∷ xs) (suc i) d within before here =
      ap (λ (b : Bool). cond b (Some x) (find p xs)) (before 0 (omega arith)) ∙ find_here xs i d (omega arith) (λ k lt. before (suc k) (omega arith)) here

  find_none : (xs : List X) → ((k : ℕ) (d : X) → k < length xs → p (get_or xs k d) ≡ false) → find p xs ≡ None
  find_none [] none = refl
  find_none (x ∷ xs) none = ap (λ (b : Bool). cond b (Some x) (find p xs)) (none 0 x (omega arith)) ∙ find_none xs (λ k d lt. none (suc k) d (omega arith))

  -- an item that fails the test makes no difference
  find_skip : (front back : List X) (y : X) → p y ≡ false → find p (front ++ y ∷ back) ≡ find p (front ++ back)
  find_skip [] back y fails = ap (λ (b : Bool). cond b (Some y) (find p back)) fails
  find_skip (x ∷ front) back y fails = ap (λ (o : Option X). cond (p x) (Some x) o) (find_skip front back y fails)

  find_insert_other : (xs : List X) (i : ℕ) (y : X) → p y ≡ false → find p (insert xs i y) ≡ find p xs
  find_insert_other xs i y fails = find_skip (take i xs) (drop i xs) y fails ∙ ap (find p) (take-append-drop i xs)

  find_remove_other : (xs : List X) (i : ℕ) (d : X) → i < length xs → p (get_or xs i d) ≡ false → find p (remove xs i) ≡ find p xs
  find_remove_other xs i d within fails =
      sym (find_skip (take i xs) (drop (suc i) xs) (get_or xs i d) fails)
      ∙ ap (λ (back : List X). find p (take i xs ++ back)) (sym (drop-cons xs i d within)) ∙ ap (find p) (take-append-drop i xs)

-- ---- keys with ascending numbers

differs : (key : SlotKey) (drawing : ℕ) → key.drawing ≢ drawing → is_key_of drawing key ≡ false
differs key drawing ne = ne_eqb key.drawing drawing ne

is_it : (key : SlotKey) (drawing : ℕ) → key.drawing ≡ drawing → is_key_of drawing key ≡ true
is_it key drawing e = eq-eqb key.drawing drawing e

abbrev key_in : Option SlotKey → Option ℕ
key_in found = option_map (λ (key : SlotKey). key.key) found

module _ (keys : List SlotKey) (ascending : AreAscending keys) (drawing i : ℕ) where
  -- the numbers at other indices differ
  apart : IsKeyAt keys drawing i → (k : ℕ) (d : SlotKey) → k < length keys → k ≢ i → (get_or keys k d).drawing ≢ drawing
  apart at k d within ne e =
      let here = at.here d in
      let same : (get_or keys k d).drawing ≡ drawing = e in
      elim (cases_lt k i) [
        | inl lt ↦ (let less = ascending k i d lt at.within in omega (arith, less, here, same))
        | inr ge ↦ (let less = ascending i k d (omega (arith, ge, ne)) within in omega (arith, less, here, same))
      ]

  -- the key at its index is found
  pub found_at : IsKeyAt keys drawing i → (d : SlotKey) → key_at keys drawing ≡ Some (get_or keys i d).key
  found_at at d = ap key_in (
      find_here (is_key_of drawing) keys i d at.within
      (λ k lt. differs (get_or keys k d) drawing (apart at k d (omega (arith, lt, at.within)) (λ e. let same : k ≡ i = e in omega (arith, same, lt))))
      (is_it (get_or keys i d) drawing (at.here d))
      )

  -- a key at this index that has the number is found
  pub found_among : (key : SlotKey) → i < length keys → key ≡ get_or keys i key → key.drawing ≡ drawing → key_at keys drawing ≡ Some key.key
  found_among key within item is =
      found_at (record { within = within; here = λ d. ap (λ (k : SlotKey). k.drawing) (get_or_default keys i d key within ∙ sym item) ∙ is }) key
      ∙ ap (λ (k : SlotKey). Some k.key) (sym item)

  -- no key is found for a number that has no index
  pub none_at : IsGap keys drawing i → key_at keys drawing ≡ None
  none_at gap = ap key_in (find_none (is_key_of drawing) keys (λ k d within. differs (get_or keys k d) drawing (elim (cases_lt k i) [
    | inl lt ↦ (let less = gap.before k d lt in λ e. let same : (get_or keys k d).drawing ≡ drawing = e in omega (arith, less, same))
    | inr ge ↦ (let more = gap.following k d ge within in λ e. let same : (get_or keys k d).drawing ≡ drawing = e in omega (arith, more, same))
  ])))

  -- ---- a key is removed

  -- a key that is left has another number, and had an index
  pub left : IsKeyAt keys drawing i → (P : SlotKey → Type 0) → ((k : ℕ) (d : SlotKey) → k < length keys → (get_or keys k d).drawing ≢ drawing → P (get_or keys k d)) → (k : ℕ) (d : SlotKey) → k < length (remove keys i) → P (get_or (remove keys i) k d)
  left at P holds k d within =
      let len = length-remove keys i at.within in
      elim (cases_lt k i) [
        | inl lt ↦ (let inside : k < length keys = omega (arith, lt, at.within) in subst P (sym (get_or-remove_below keys i d k lt at.within)) (holds k d inside (apart at k d inside (λ e. let same : k ≡ i = e in omega (arith, same, lt)))))
        | inr ge ↦ (let inside : k + 1 < length keys = omega (arith, within, len) in subst P (sym (get_or-remove_above keys i d k ge at.within)) (holds (k + 1) d inside (apart at (k + 1) d inside (λ e. let same : k + 1 ≡ i = e in omega (arith, same, ge)))))
      ]

  remove_none : IsKeyAt keys drawing i → find (is_key_of drawing) (remove keys i) ≡ None
  remove_none at = find_none (is_key_of drawing) (remove keys i) (left at (λ (key : SlotKey). is_key_of drawing key ≡ false) (λ k d within ne. differs (get_or keys k d) drawing ne))

  pub ascending_remove : IsKeyAt keys drawing i → AreAscending (remove keys i)
  ascending_remove at = all_pairs_remove (λ key later. key.drawing < later.drawing) keys i at.within ascending

  pub key_at-remove : IsKeyAt keys drawing i → (d : SlotKey) (other : ℕ) → key_at (remove keys i) other ≡ cond (other == drawing) None (key_at keys other)
  key_at-remove at d other = elim (cases_eq other drawing) [
    | inl e ↦ rw (eq-eqb other drawing e) (ap (key_at (remove keys i)) e ∙ ap key_in (remove_none at))
    | inr ne ↦ rw (ne_eqb other drawing ne) (ap key_in (find_remove_other (is_key_of other) keys i d at.within (differs (get_or keys i d) other (λ x. ne (sym x ∙ at.here d)))))
  ]

  -- ---- a key is inserted

  insert_here : IsGap keys drawing i → (key : SlotKey) → key.drawing ≡ drawing → find (is_key_of drawing) (insert keys i key) ≡ Some key
  insert_here gap key is =
      let len = length-insert keys i key gap.within in
      find_here (is_key_of drawing) (insert keys i key) i key (omega (arith, len, gap.within))
      (λ k lt. ap (is_key_of drawing) (get_or-insert_below keys i key key k lt gap.within)
      ∙ differs (get_or keys k key) drawing (let less = gap.before k key lt in λ e. let same : (get_or keys k key).drawing ≡ drawing = e in omega (arith, less, same)))
      (ap (is_key_of drawing) (get_or-insert_at keys i key key gap.within) ∙ is_it key drawing is)
      ∙ ap (λ (k : SlotKey). Some k) (get_or-insert_at keys i key key gap.within)

  pub key_at-insert : IsGap keys drawing i → (key : SlotKey) → key.drawing ≡ drawing → (other : ℕ) → key_at (insert keys i key) other ≡ cond (other == drawing) (Some key.key) (key_at keys other)
  key_at-insert gap key is other = elim (cases_eq other drawing) [
    | inl e ↦ rw (eq-eqb other drawing e) (ap (key_at (insert keys i key)) e ∙ ap key_in (insert_here gap key is))
    | inr ne ↦ rw (ne_eqb other drawing ne) (ap key_in (find_insert_other (is_key_of other) keys i key (differs key other (λ x. ne (sym x ∙ is)))))
  ]

  -- each key is the new one, or was there before
  pub inserted : IsGap keys drawing i → (key : SlotKey) (P : SlotKey → Type 0) → P key → ((k : ℕ) (d : SlotKey) → k < length keys → P (get_or keys k d)) → (k : ℕ) (d : SlotKey) → k < length (insert keys i key) → P (get_or (insert keys i key) k d)
  inserted gap key P new holds k d within =
      let len = length-insert keys i key gap.within in
      elim (cases_lt k i) [
        | inl lt ↦ subst P (sym (get_or-insert_below keys i key d k lt gap.within)) (holds k d (omega (arith, lt, gap.within)))
        | inr ge ↦ elim (cases_eq k i) [
          | inl e ↦ subst P (sym (ap (λ (n : ℕ). get_or (insert keys i key) n d) e ∙ get_or-insert_at keys i key d gap.within)) new
          | inr ne ↦ (let above : i < k = omega (arith, ge, ne) in let back : k ≡ (k - 1) + 1 = omega (arith, above) in
              subst P (sym (ap (λ (n : ℕ). get_or (insert keys i key) n d) back ∙ get_or-insert_above keys i key d (k - 1) (omega (arith, above)) gap.within)) (holds (k - 1) d (omega (arith, above, within, len))))
        ]
      ]

  -- how the number at an index compares, after a key is inserted
  number_above : IsGap keys drawing i → (key d : SlotKey) (k : ℕ) → i < k → (get_or (insert keys i key) k d).drawing ≡ (get_or keys (k - 1) d).drawing
  number_above gap key d k lt =
      let back : k ≡ (k - 1) + 1 = omega (arith, lt) in
      ap (λ (n : ℕ). (get_or (insert keys i key) n d).drawing) back ∙ ap (λ (s : SlotKey). s.drawing) (get_or-insert_above keys i key d (k - 1) (omega (arith, lt)) gap.within)

  number_below : IsGap keys drawing i → (key d : SlotKey) (k : ℕ) → k < i → (get_or (insert keys i key) k d).drawing ≡ (get_or keys k d).drawing
  number_below gap key d k lt = ap (λ (s : SlotKey). s.drawing) (get_or-insert_below keys i key d k lt gap.within)

  number_here : IsGap keys drawing i → (key d : SlotKey) (k : ℕ) → key.drawing ≡ drawing → k ≡ i → (get_or (insert keys i key) k d).drawing ≡ drawing
  number_here gap key d k is e =
      ap (λ (n : ℕ). (get_or (insert keys i key) n d).drawing) e ∙ ap (λ (s : SlotKey). s.drawing) (get_or-insert_at keys i key d gap.within) ∙ is

  pub ascending_insert : IsGap keys drawing i → (key : SlotKey) → key.drawing ≡ drawing → AreAscending (insert keys i key)
  ascending_insert gap key is a b d lt within =
      let len = length-insert keys i key gap.within in
      elim (cases_lt b i) [
        | inl b_below ↦ (let less = ascending a b d lt (omega (arith, b_below, gap.within)) in omega (arith, less, number_below gap key d a (omega (arith, lt, b_below)), number_below gap key d b b_below))
        | inr b_from ↦ elim (cases_eq b i) [
          | inl b_here ↦ (let at : a < i = let same : b ≡ i = b_here in omega (arith, lt, same) in let less = gap.before a d at in omega (arith, less, number_below gap key d a at, number_here gap key d b is b_here))
          | inr b_not ↦ (let above : i < b = omega (arith, b_from, b_not) in let b_is = number_above gap key d b above in elim (cases_lt a i) [
            | inl a_below ↦ (let less = ascending a (b - 1) d (omega (arith, a_below, above)) (omega (arith, len, within, above)) in omega (arith, less, b_is, number_below gap key d a a_below))
            | inr a_from ↦ elim (cases_eq a i) [
              | inl a_here ↦ (let less = gap.following (b - 1) d (omega (arith, above)) (omega (arith, len, within, above)) in omega (arith, less, b_is, number_here gap key d a is a_here))
              | inr a_not ↦ (let a_above : i < a = omega (arith, a_from, a_not) in let less = ascending (a - 1) (b - 1) d (omega (arith, lt, a_above)) (omega (arith, len, within, above)) in omega (arith, less, b_is, number_above gap key d a a_above))
            ]
          ])
        ]
      ]

-- ---- the index at which a key is inserted

-- any number is inserted into no keys
pub gap_of_none : (keys : List SlotKey) (drawing : ℕ) → (0 < length keys → ⊥) → IsGap keys drawing 0
gap_of_none keys drawing none = record {
  within = omega arith;
  before = λ k d lt. absurd (omega (arith, lt));
  following = λ k d ge within. absurd (none (omega (arith, within)));
}

-- a number that is greater than the last one is appended
pub gap_at_end : (keys : List SlotKey) (drawing : ℕ) (last : SlotKey) → AreAscending keys → last ≡ get_or keys (length keys - 1) last → last.drawing < drawing → IsGap keys drawing (length keys)
gap_at_end keys drawing last ascending is above = record {
  within = omega arith;
  before = λ k d lt. (let at = number_last d (omega (arith, lt)) in elim (cases_lt k (length keys - 1)) [
    | inl earlier ↦ (let less = ascending k (length keys - 1) d earlier (omega (arith, lt)) in omega (arith, less, at, above))
    | inr ge ↦ (let same : k ≡ length keys - 1 = omega (arith, lt, ge) in let number = ap (λ (n : ℕ). (get_or keys n d).drawing) same in omega (arith, number, at, above))
  ]);
  following = λ k d ge within. absurd (omega (arith, ge, within));
} where
  number_last : (d : SlotKey) → 0 < length keys → (get_or keys (length keys - 1) d).drawing ≡ last.drawing
  number_last d some =
      let inside : length keys - 1 < length keys = omega (arith, some) in
      ap (λ (key : SlotKey). key.drawing) (same_Some (get_or keys (length keys - 1) d) (get_or keys (length keys - 1) last) (sym (slice_get-get_or keys (length keys - 1) d inside) ∙ slice_get-get_or keys (length keys - 1) last inside) ∙ sym is)

-- ---- the index that a search finds

order_equal : (x y : ℕ) (b c : Bool) → nat_lt x y ≡ b → (x == y) ≡ c → cond b Less (cond c Equal Greater) ≡ Equal → x ≡ y
order_equal x y true c lt eq e = cc
order_equal x y false true lt eq e = eqb-true x y eq
order_equal x y false false lt eq e = cc

order_less : (x y : ℕ) (b c : Bool) → nat_lt x y ≡ b → (x == y) ≡ c → cond b Less (cond c Equal Greater) ≡ Less → x < y
order_less x y true c lt eq e = ltb-true x y lt
order_less x y false true lt eq e = cc
order_less x y false false lt eq e = cc

order_greater : (x y : ℕ) (b c : Bool) → nat_lt x y ≡ b → (x == y) ≡ c → cond b Less (cond c Equal Greater) ≡ Greater → y < x
order_greater x y true c lt eq e = cc
order_greater x y false true lt eq e = cc
order_greater x y false false lt eq e = let ge = ltb-false x y lt in let ne = eqb-false x y eq in omega (arith, ge, ne)

index_rises : (x y drawing : ℕ) → x ≤ y → ordering_index (nat_cmp x drawing) ≤ ordering_index (nat_cmp y drawing)
index_rises x y drawing le = by (nat_lt x drawing) (x == drawing) (nat_lt y drawing) (y == drawing) refl refl refl refl where
  by : (a b c d : Bool) → nat_lt x drawing ≡ a → (x == drawing) ≡ b → nat_lt y drawing ≡ c → (y == drawing) ≡ d → ordering_index (cond a Less (cond b Equal Greater)) ≤ ordering_index (cond c Less (cond d Equal Greater))
  by true b true d xl xe yl ye = omega arith
  by true b false true xl xe yl ye = omega arith
  by true b false false xl xe yl ye = omega arith
  by false b true d xl xe yl ye = absurd (let ge = ltb-false x drawing xl in let lt = ltb-true y drawing yl in omega (arith, ge, lt, le))
  by false true false true xl xe yl ye = omega arith
  by false true false false xl xe yl ye = omega arith
  by false false false true xl xe yl ye = absurd (let ge = ltb-false x drawing xl in let ne = eqb-false x drawing xe in let same = eqb-true y drawing ye in omega (arith, ge, ne, same, le))
  by false false false false xl xe yl ye = omega arith

ascending_index : (keys : List SlotKey) (drawing : ℕ) → AreAscending keys → (i j : ℕ) (d : SlotKey) → i ≤ j → j < length keys → ordering_index (nat_cmp (get_or keys i d).drawing drawing) ≤ ordering_index (nat_cmp (get_or keys j d).drawing drawing)
ascending_index keys drawing ascending i j d le within = index_rises (get_or keys i d).drawing (get_or keys j d).drawing drawing (elim (cases_lt i j) [
  | inl lt ↦ (let less = ascending i j d lt within in omega (arith, less))
  | inr ge ↦ (let same : i ≡ j = omega (arith, le, ge) in let same_number = ap (λ (n : ℕ). (get_or keys n d).drawing) same in omega (arith, same_number))
])

pub placed : (keys : List SlotKey) (drawing : ℕ) (r : Result ℕ ℕ) → IsSearchInRange r (length keys) → IsBinarySearchResult (λ key. nat_cmp key.drawing drawing) keys r → IfOk r (IsKeyAt keys drawing)
placed keys drawing (Ok i) range at = record {
  within = range;
  here = λ d. order_equal (get_or keys i d).drawing drawing _ _ refl refl (at d);
}
placed keys drawing (Err i) range at = tt

pub missing : (keys : List SlotKey) (drawing : ℕ) (r : Result ℕ ℕ) → AreAscending keys → IsSearchInRange r (length keys) → IsBinarySearchResult (λ key. nat_cmp key.drawing drawing) keys r → IfErr r (IsGap keys drawing)
missing keys drawing (Ok i) ascending range at = tt
missing keys drawing (Err i) ascending range at =
    let parts = at (ascending_index keys drawing ascending) in
    record {
      within = range;
      before = λ k d lt. order_less (get_or keys k d).drawing drawing _ _ refl refl (parts.0 k d (omega arith) lt);
      following = λ k d ge within. order_greater (get_or keys k d).drawing drawing _ _ refl refl (parts.1 k d ge within);
    }
