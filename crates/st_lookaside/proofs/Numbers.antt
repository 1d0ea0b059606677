-- Which slot a number has, after one is changed, inserted, removed or renewed.
use Rattle.std.proofs.Common.{◌≡◌, ◌≢◌, ◌+◌, ◌==◌, ℕ, suc, Bool, true, false, cond, List, [], ◌∷◌, get_or, set, Option, Some, None, is_some, count_by, inl, inr, refl, ap, sym, ◌∙◌, subst, arith}
use Rattle.std.specs.Prelude.{All, IfSome, find, option_map}
use Rattle.std.specs.List.{cons_option, insert, remove}
use Rattle.std.specs.Option.{IsSome}
use Rattle.std.proofs.lemmas.Bool.{cases_eq, eq-eqb, eqb-true, ne_eqb, true≢false}
use Rattle.std.proofs.lemmas.List.{set-get_or}
use Rattle.std.proofs.lemmas.List.Edits.{length-insert, length-remove}
use Rattle.std.proofs.lemmas.List.Sums.{sum_by-set}
use Rattle.std.proofs.lemmas.Option.{none-some, same_Some}
use Rattle.slab.specs.Slab.{Slab, get, slab_len, with_value, ContainsKey, Updates}
use Rattle.slab.proofs.SlabLemmas.{ContainsKey-within, Updates-set, Updates-with_value}
use Rattle.st_lookaside.specs.Slot.{Slot}
use Rattle.st_lookaside.specs.Slots.{is_key_of, is_slot_of, key_at, slot_at, slots_of, AreAscending, ChangesSlot, HasSlot, HasSlots, IsGap, IsKeyAt, RenewsSlot}
use Rattle.st_lookaside.specs.declared.slots.SlotKey.{SlotKey}
use Rattle.st_lookaside.proofs.Keys.{ascending_insert, ascending_remove, found_at, inserted, key_at-insert, key_at-remove, left, none_at}

-- ---- the slot of a number is what the slab has under the number's key

abbrev number_of : Option Slot → Option ℕ
number_of found = option_map (λ (slot : Slot). slot.head.drawing) found

-- what the slab has under a key, if there is one
abbrev under : Slab Slot → Option ℕ → Option Slot
under slab None = None
under slab (Some key) = get slab key

module _ (slab : Slab Slot) where
  slot_is : (keys : List SlotKey) → All (HasSlot slab) keys → (drawing : ℕ) → slot_at (slots_of slab keys) drawing ≡ under slab (key_at keys drawing)
  slot_is [] all drawing = refl
  slot_is (key ∷ keys) all drawing = by (get slab key.key) refl (all 0 key (omega arith)) (slot_is keys (λ k d within. all (suc k) d (omega arith)) drawing) where
    here : (slot : Slot) → get slab key.key ≡ Some slot → slot_at (slots_of slab keys) drawing ≡ under slab (key_at keys drawing) → (b : Bool) → cond b (Some slot) (slot_at (slots_of slab keys) drawing) ≡ under slab (option_map (λ (k : SlotKey). k.key) (cond b (Some key) (find (is_key_of drawing) keys)))
    here slot is rest true = sym is
    here slot is rest false = rest

    by : (o : Option Slot) → get slab key.key ≡ o → number_of o ≡ Some key.drawing → slot_at (slots_of slab keys) drawing ≡ under slab (key_at keys drawing) → find (is_slot_of drawing) (cons_option o (slots_of slab keys)) ≡ under slab (option_map (λ (k : SlotKey). k.key) (cond (is_key_of drawing key) (Some key) (find (is_key_of drawing) keys)))
    by None is number rest = absurd (none-some key.drawing number)
    by (Some slot) is number rest =
        ap (λ (n : ℕ). cond (n == drawing) (Some slot) (slot_at (slots_of slab keys) drawing)) (same_Some slot.head.drawing key.drawing number) ∙ here slot is rest (is_key_of drawing key)

  -- the slot under the key of a number has that number
  number_under : (keys : List SlotKey) → All (HasSlot slab) keys → (drawing key : ℕ) → key_at keys drawing ≡ Some key → number_of (get slab key) ≡ Some drawing
  number_under [] all drawing key found = absurd (none-some key found)
  number_under (first ∷ keys) all drawing key found = by (is_key_of drawing first) refl found (number_under keys (λ k d within. all (suc k) d (omega arith)) drawing key) where
    by : (b : Bool) → is_key_of drawing first ≡ b → option_map (λ (k : SlotKey). k.key) (cond b (Some first) (find (is_key_of drawing) keys)) ≡ Some key → (key_at keys drawing ≡ Some key → number_of (get slab key) ≡ Some drawing) → number_of (get slab key) ≡ Some drawing
    by true is found rest =
        let same = same_Some first.key key found in
        ap (λ (n : ℕ). number_of (get slab n)) (sym same) ∙ all 0 first (omega arith) ∙ ap (λ (n : ℕ). Some n) (eqb-true first.drawing drawing is)
    by false is found rest = rest found

-- two keys under which the slots have different numbers differ
other_key : (slab : Slab Slot) (a b m n : ℕ) → number_of (get slab a) ≡ Some m → number_of (get slab b) ≡ Some n → m ≢ n → a ≢ b
other_key slab a b m n first second ne same = ne (same_Some m n (sym first ∙ ap (λ (k : ℕ). number_of (get slab k)) same ∙ second))

some_number : (slot : Option Slot) (drawing : ℕ) → number_of slot ≡ Some drawing → IsSome slot
some_number None drawing is = absurd (none-some drawing is)
some_number (Some slot) drawing is = refl

-- ---- what the slab has is changed

module _ (slab new : Slab Slot) (keys : List SlotKey) (slots : All (HasSlot slab) keys) (drawing key : ℕ) (after : Option Slot) (updates : Updates slab new key after) where
  -- what each other number has stays
  other_stays : (other : ℕ) → ((k : ℕ) → key_at keys other ≡ Some k → k ≢ key) → under new (key_at keys other) ≡ under slab (key_at keys other)
  other_stays other ne = by (key_at keys other) refl where
    by : (o : Option ℕ) → key_at keys other ≡ o → under new o ≡ under slab o
    by None found = refl
    by (Some k) found = updates.others k (ne k found)

  -- a slot under another key stays
  stays_under : (k : SlotKey) → HasSlot slab k → k.key ≢ key → HasSlot new k
  stays_under k has ne = ap number_of (updates.others k.key ne) ∙ has

  module _ (at : number_of (get slab key) ≡ Some drawing) where
    other_number : (other : ℕ) → other ≢ drawing → (k : ℕ) → key_at keys other ≡ Some k → k ≢ key
    other_number other ne k found = other_key slab k key other drawing (number_under slab keys slots other k found) at ne

    -- the slot of a number is changed
    slots_set : number_of after ≡ Some drawing → All (HasSlot new) keys
    slots_set number k d within =
        let it : SlotKey = get_or keys k d in
        let has : HasSlot slab it = slots k d within in
        elim (cases_eq it.key key) [
          | inl e ↦ ap (λ (n : ℕ). number_of (get new n)) e ∙ ap number_of updates.changed ∙ number ∙ sym at ∙ ap (λ (n : ℕ). number_of (get slab n)) (sym e) ∙ has
          | inr ne ↦ stays_under it has ne
        ]

    changed_set : key_at keys drawing ≡ Some key → number_of after ≡ Some drawing → ChangesSlot (slots_of slab keys) drawing after (slots_of new keys)
    changed_set found number other = slot_is new keys (slots_set number) other ∙ elim (cases_eq other drawing) [
      | inl e ↦ rw (eq-eqb other drawing e) (ap (λ (n : ℕ). under new (key_at keys n)) e ∙ ap (under new) found ∙ updates.changed)
      | inr ne ↦ rw (ne_eqb other drawing ne) (other_stays other (other_number other ne) ∙ sym (slot_is slab keys slots other))
    ]

    -- the slot of a number is removed
    module _ (ascending : AreAscending keys) (i : ℕ) (place : IsKeyAt keys drawing i) where
      slots_remove : All (HasSlot new) (remove keys i)
      slots_remove = left keys ascending drawing i place (HasSlot new) (λ k d within ne. (let it : SlotKey = get_or keys k d in let has : HasSlot slab it = slots k d within in stays_under it has (other_key slab it.key key it.drawing drawing has at ne)))

      changed_remove : after ≡ None → (d : SlotKey) → ChangesSlot (slots_of slab keys) drawing None (slots_of new (remove keys i))
      changed_remove gone d other = slot_is new (remove keys i) slots_remove other ∙ ap (under new) (key_at-remove keys ascending drawing i place d other) ∙ elim (cases_eq other drawing) [
        | inl e ↦ rw (eq-eqb other drawing e) refl
        | inr ne ↦ rw (ne_eqb other drawing ne) (other_stays other (other_number other ne) ∙ sym (slot_is slab keys slots other))
      ]

  -- a slot is inserted
  module _ (ascending : AreAscending keys) (i : ℕ) (gap : IsGap keys drawing i) (free : get slab key ≡ None) (number : number_of after ≡ Some drawing) where
    used : (k : SlotKey) → HasSlot slab k → k.key ≢ key
    used k has same = none-some k.drawing (sym (ap number_of (ap (get slab) same ∙ free)) ∙ has)

    abbrev one : SlotKey
    one = record { drawing = drawing; key = key }

    slots_insert : All (HasSlot new) (insert keys i one)
    slots_insert = inserted keys ascending drawing i gap one (HasSlot new) (ap number_of updates.changed ∙ number) (λ k d within. (let it : SlotKey = get_or keys k d in let has : HasSlot slab it = slots k d within in stays_under it has (used it has)))

    changed_insert : ChangesSlot (slots_of slab keys) drawing after (slots_of new (insert keys i one))
    changed_insert other = slot_is new (insert keys i one) slots_insert other ∙ ap (under new) (key_at-insert keys ascending drawing i gap one refl other) ∙ elim (cases_eq other drawing) [
      | inl e ↦ rw (eq-eqb other drawing e) updates.changed
      | inr ne ↦ rw (ne_eqb other drawing ne) (other_stays other (λ k found same. none-some other (sym (ap number_of (ap (get slab) same ∙ free)) ∙ number_under slab keys slots other k found)) ∙ sym (slot_is slab keys slots other))
    ]

-- ---- how many slots there are

abbrev count_of : Option Slot → ℕ
count_of slot = cond (is_some slot) 1 0

one_of : (slot : Option Slot) → IsSome slot → count_of slot ≡ 1
one_of None is = absurd (true≢false (sym is))
one_of (Some slot) is = refl

length_set : (slab : Slab Slot) (key : ℕ) (slot : Option Slot) → ContainsKey slab key → count_by is_some (set slab.slots key slot) + 1 ≡ slab_len slab + count_of slot
length_set slab key slot there =
    let total = sum_by-set count_of slab.slots key slot None (ContainsKey-within slab key there) in
    let one = one_of (get slab key) there in
    omega (arith, total, one)

-- more room changes nothing
pub kept_roomier : (slab : Slab Slot) (keys : List SlotKey) (capacity : ℕ) → HasSlots slab keys → HasSlots (record slab { capacity = capacity }) keys
kept_roomier slab keys capacity kept = record { ascending = kept.ascending; slots = kept.slots; count = kept.count }

-- ---- slots as a call finds them

if_some : {X : Type 0} (o : Option X) (x : X) (P : X → Type 0) → o ≡ Some x → IfSome o P → P x
if_some {X = X} o x P is p = subst (λ (o : Option X). IfSome o P) is p

some_if : {X : Type 0} (o : Option X) (x : X) (P : X → Type 0) → o ≡ Some x → P x → IfSome o P
some_if {X = X} o x P is p = subst (λ (o : Option X). IfSome o P) (sym is) p

module _ (slab : Slab Slot) (keys : List SlotKey) (now : List Slot) (kept : HasSlots slab keys) (view : slots_of slab keys ≡ now) (drawing : ℕ) where
  now_is : slot_at now drawing ≡ under slab (key_at keys drawing)
  now_is = ap (λ (l : List Slot). slot_at l drawing) (sym view) ∙ slot_is slab keys kept.slots drawing

  -- a number that has a slot has a key
  pub is_there : IsSome (slot_at now drawing) → IsSome (key_at keys drawing)
  is_there some = by (key_at keys drawing) (subst IsSome now_is some) where
    by : (o : Option ℕ) → IsSome (under slab o) → IsSome o
    by None is = absurd (true≢false (sym is))
    by (Some key) is = refl

  -- so it isn't missing
  pub gone : (i : ℕ) → IsGap keys drawing i → IsSome (slot_at now drawing) → ⊥
  gone i gap some = absurd (true≢false (sym (subst (λ (o : Option ℕ). IsSome o) (none_at keys kept.ascending drawing i gap) (is_there some))))

  module _ (key : ℕ) (found : key_at keys drawing ≡ Some key) where
    number_here : number_of (get slab key) ≡ Some drawing
    number_here = number_under slab keys kept.slots drawing key found

    -- the slab has its slot under its key
    pub is_used : ContainsKey slab key
    is_used = some_number (get slab key) drawing number_here

    module _ (slot : Slot) (here : get slab key ≡ Some slot) where
      pub found_now : slot_at now drawing ≡ Some slot
      found_now = now_is ∙ ap (under slab) found ∙ here

      pub number_is : slot.head.drawing ≡ drawing
      number_is = same_Some slot.head.drawing drawing (ap number_of (sym here) ∙ number_here)

      -- what holds of the slot of the number, if there is one, holds of this slot
      pub asked_of : (P : Slot → Type 0) → IfSome (slot_at now drawing) P → P slot
      asked_of P p = if_some (slot_at now drawing) slot P found_now p

      -- what holds of this slot holds of the slot of the number
      pub known_of : (P : Slot → Type 0) → P slot → IfSome (slot_at now drawing) P
      known_of P p = some_if (slot_at now drawing) slot P found_now p

      pub kept_set : (after : Slot) → after.head.drawing ≡ slot.head.drawing → HasSlots (with_value slab key after) keys
      kept_set after is = record {
        ascending = kept.ascending;
        slots = slots_set slab (with_value slab key after) keys kept.slots drawing key (Some after) (Updates-with_value slab key after is_used) number_here (ap (λ (n : ℕ). Some n) (is ∙ number_is));
        count = let len = length_set slab key (Some after) is_used in let count = kept.count in omega (arith, len, count);
      }

      pub now_changed : (after : Slot) → after.head.drawing ≡ slot.head.drawing → ChangesSlot now drawing (Some after) (slots_of (with_value slab key after) keys)
      now_changed after is =
          subst (λ (l : List Slot). ChangesSlot l drawing (Some after) (slots_of (with_value slab key after) keys)) view
          (changed_set slab (with_value slab key after) keys kept.slots drawing key (Some after) (Updates-with_value slab key after is_used) number_here found (ap (λ (n : ℕ). Some n) (is ∙ number_is)))

      pub known_changed : (change : Slot → Slot) (after : Slot) → after ≡ change slot → (change slot).head.drawing ≡ slot.head.drawing → IfSome (slot_at now drawing) (λ s. ChangesSlot now drawing (Some (change s)) (slots_of (with_value slab key after) keys))
      known_changed change after is same_number =
          known_of (λ s. ChangesSlot now drawing (Some (change s)) (slots_of (with_value slab key after) keys))
          (subst (λ (s : Slot). ChangesSlot now drawing (Some s) (slots_of (with_value slab key after) keys)) is (now_changed after (ap (λ (s : Slot). s.head.drawing) is ∙ same_number)))

      -- if that is the slot, this slot replaces it
      pub changed_to : (stands taken_by after : Slot) → slot_at now drawing ≡ Some stands → (slot ≡ stands → after ≡ taken_by) → after.head.drawing ≡ slot.head.drawing → ChangesSlot now drawing (Some taken_by) (slots_of (with_value slab key after) keys)
      changed_to stands taken_by after stood is same_number =
          subst (λ (s : Slot). ChangesSlot now drawing (Some s) (slots_of (with_value slab key after) keys)) (is (same_Some slot stands (sym found_now ∙ stood))) (now_changed after same_number)

      -- the same slot changes nothing
      pub same_slots : (after : Slot) → after ≡ slot → slots_of (with_value slab key after) keys ≡ now
      same_slots after is =
          ap (λ (s : Slot). slots_of (with_value slab key s) keys) is
          ∙ ap (λ (slots : List (Option Slot)). slots_of (record slab { slots = slots }) keys) (ap (set slab.slots key) (sym here) ∙ set-get_or slab.slots key None)
          ∙ view

  -- a number that has no slot has no key
  pub is_free : slot_at now drawing ≡ None → key_at keys drawing ≡ None
  is_free none = by (key_at keys drawing) refl where
    by : (o : Option ℕ) → key_at keys drawing ≡ o → o ≡ None
    by None found = refl
    by (Some key) found = absurd (true≢false (sym (subst IsSome none (subst IsSome (sym (now_is ∙ ap (under slab) found)) (is_used key found)))))

  module _ (i : ℕ) (gap : IsGap keys drawing i) (new : Slab Slot) (key : ℕ) (free : get slab key ≡ None) (slot : Slot) (updates : Updates slab new key (Some slot)) (number : slot.head.drawing ≡ drawing) where
    pub kept_insert : slab_len new ≡ slab_len slab + 1 → HasSlots new (insert keys i (record { drawing = drawing; key = key }))
    kept_insert more = record {
      ascending = ascending_insert keys kept.ascending drawing i gap (record { drawing = drawing; key = key }) refl;
      slots = slots_insert slab new keys kept.slots drawing key (Some slot) updates kept.ascending i gap free (ap (λ (n : ℕ). Some n) number);
      count = let len = length-insert keys i (record { drawing = drawing; key = key }) gap.within in let count = kept.count in omega (arith, len, count, more);
    }

    pub now_inserted : ChangesSlot now drawing (Some slot) (slots_of new (insert keys i (record { drawing = drawing; key = key })))
    now_inserted =
        subst (λ (l : List Slot). ChangesSlot l drawing (Some slot) (slots_of new (insert keys i (record { drawing = drawing; key = key })))) view
        (changed_insert slab new keys kept.slots drawing key (Some slot) updates kept.ascending i gap free (ap (λ (n : ℕ). Some n) number))

  module _ (i : ℕ) (at : IsKeyAt keys drawing i) (key : ℕ) (d : SlotKey) (is : key ≡ (get_or keys i d).key) where
    pub found_key : key_at keys drawing ≡ Some key
    found_key = found_at keys kept.ascending drawing i at d ∙ ap (λ (n : ℕ). Some n) (sym is)

    module _ (new : Slab Slot) (updates : Updates slab new key None) where
      pub kept_remove : slab_len new + 1 ≡ slab_len slab → HasSlots new (remove keys i)
      kept_remove less = record {
        ascending = ascending_remove keys kept.ascending drawing i at;
        slots = slots_remove slab new keys kept.slots drawing key None updates (number_here key found_key) kept.ascending i at;
        count = let len = length-remove keys i at.within in let count = kept.count in omega (arith, len, count, less);
      }

      pub now_removed : ChangesSlot now drawing None (slots_of new (remove keys i))
      now_removed =
          subst (λ (l : List Slot). ChangesSlot l drawing None (slots_of new (remove keys i))) view
          (changed_remove slab new keys kept.slots drawing key None updates (number_here key found_key) kept.ascending i at refl d)

-- a number is removed, and is inserted again under another
now_renewed : (now middle new : List Slot) (drawing fresh : ℕ) (slot : Slot) → ChangesSlot now drawing None middle → ChangesSlot middle fresh (Some slot) new → RenewsSlot now drawing fresh slot new
now_renewed now middle new drawing fresh slot out back other = back other ∙ ap (λ (o : Option Slot). cond (other == fresh) (Some slot) o) (out other)

-- a number without a slot has none after another slot is removed
still_free : (now middle : List Slot) (drawing fresh : ℕ) → ChangesSlot now drawing None middle → slot_at now fresh ≡ None → slot_at middle fresh ≡ None
still_free now middle drawing fresh out free = out fresh ∙ by (fresh == drawing) where
  by : (b : Bool) → cond b None (slot_at now fresh) ≡ None
  by true = refl
  by false = free

-- ---- a renewal: a number's slot stays under its key, which gets another number

-- the slots without that under a key
abbrev without : Slab Slot → ℕ → Slab Slot
without slab key = record slab { slots = set slab.slots key None }

module _ (slab : Slab Slot) (keys : List SlotKey) (now : List Slot) (kept : HasSlots slab keys) (view : slots_of slab keys ≡ now) (drawing i : ℕ) (at : IsKeyAt keys drawing i) (key : ℕ) (is : (d : SlotKey) → key ≡ (get_or keys i d).key) where
  any : SlotKey
  any = record { drawing = drawing; key = key }

  pub renewed_key : key_at keys drawing ≡ Some key
  renewed_key = found_key slab keys now kept view drawing i at key any (is any)

  pub has_key : ContainsKey slab key
  has_key = is_used slab keys now kept view drawing key renewed_key

  goes : Updates slab (without slab key) key None
  goes = Updates-set slab (without slab key) key None (ContainsKey-within slab key has_key) refl

  kept_without : HasSlots (without slab key) (remove keys i)
  kept_without = kept_remove slab keys now kept view drawing i at key any (is any) (without slab key) goes (let len = length_set slab key None has_key in omega (arith, len))

  out : ChangesSlot now drawing None (slots_of (without slab key) (remove keys i))
  out = now_removed slab keys now kept view drawing i at key any (is any) (without slab key) goes

  -- the other keys are ascending
  pub others_ascending : AreAscending (remove keys i)
  others_ascending = ascending_remove keys kept.ascending drawing i at

  -- a number that is free is none of theirs
  pub free_of : (fresh : ℕ) → slot_at now fresh ≡ None → key_at (remove keys i) fresh ≡ None
  free_of fresh free = is_free (without slab key) (remove keys i) (slots_of (without slab key) (remove keys i)) kept_without refl fresh (still_free now (slots_of (without slab key) (remove keys i)) drawing fresh out free)

  module _ (slot after : Slot) (here : get slab key ≡ Some slot) (fresh j : ℕ) (gap : IsGap (remove keys i) fresh j) (number : after.head.drawing ≡ fresh) where
    comes : Updates (without slab key) (with_value slab key after) key (Some after)
    comes =
        let set_to = Updates-with_value slab key after has_key in
        record { changed = set_to.changed; others = λ other ne. set_to.others other ne ∙ sym (goes.others other ne) }

    pub kept_renew : HasSlots (with_value slab key after) (insert (remove keys i) j (record { drawing = fresh; key = key }))
    kept_renew =
        kept_insert (without slab key) (remove keys i) (slots_of (without slab key) (remove keys i)) kept_without refl fresh j gap (with_value slab key after) key goes.changed after comes number
        (let less = length_set slab key None has_key in let same = length_set slab key (Some after) has_key in omega (arith, less, same))

    pub renews : RenewsSlot now drawing fresh after (slots_of (with_value slab key after) (insert (remove keys i) j (record { drawing = fresh; key = key })))
    renews =
        now_renewed now (slots_of (without slab key) (remove keys i)) (slots_of (with_value slab key after) (insert (remove keys i) j (record { drawing = fresh; key = key }))) drawing fresh after out
        (now_inserted (without slab key) (remove keys i) (slots_of (without slab key) (remove keys i)) kept_without refl fresh j gap (with_value slab key after) key goes.changed after comes number)
