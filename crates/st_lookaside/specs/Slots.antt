-- The slots of messages by their drawings, how each call on one of them changes them, and how they are kept.
use Rattle.std.specs.Prelude.{◌≡◌, ◌<◌, ◌≤◌, ◌==◌, ℕ, Bool, if◌then◌else◌, List, All, filter_map, find, get_or, length, Option, Some, None, option_map}
use Rattle.std.specs.List.{AllPairs}
use Rattle.slab.specs.Slab.{Slab, get, slab_len}
use Rattle.st_lookaside.specs.Slot.{Slot}
use Rattle.st_lookaside.specs.declared.slots.SlotKey.{SlotKey}

-- whether a slot has this drawing
abbrev pub is_slot_of : ℕ → Slot → Bool
is_slot_of drawing slot = slot.head.drawing == drawing

-- the slot of this drawing, if it has one
abbrev pub slot_at : List Slot → ℕ → Option Slot
slot_at slots drawing = find (is_slot_of drawing) slots

-- a drawing has this slot now, or none, and each other drawing is unchanged
abbrev pub ChangesSlot : List Slot → ℕ → Option Slot → List Slot → Type 0
ChangesSlot old drawing slot new = (other : ℕ) → slot_at new other ≡ (if other == drawing then slot else slot_at old other)

-- a drawing has no slot now, this new drawing has this slot, and each other is unchanged
abbrev pub RenewsSlot : List Slot → ℕ → ℕ → Slot → List Slot → Type 0
RenewsSlot old drawing fresh slot new =
    (other : ℕ) → slot_at new other ≡ (if other == fresh then Some slot else if other == drawing then None else slot_at old other)

-- ---- the keys of slots

-- whether a key is that of the slot of this drawing
abbrev pub is_key_of : ℕ → SlotKey → Bool
is_key_of drawing key = key.drawing == drawing

-- the key of the slot of this drawing, if it has one
abbrev pub key_at : List SlotKey → ℕ → Option ℕ
key_at keys drawing = option_map (λ key. key.key) (find (is_key_of drawing) keys)

-- the drawings are ascending
abbrev pub AreAscending : List SlotKey → Type 0
AreAscending keys = AllPairs (λ key later. key.drawing < later.drawing) keys

-- the key of this drawing is at this index
pub record IsKeyAt (keys : List SlotKey) (drawing i : ℕ) : Type 0 where
  pub within : i < length keys
  pub here : (d : SlotKey) → (get_or keys i d).drawing ≡ drawing

-- no key is of this drawing, and it would be inserted at this index
pub record IsGap (keys : List SlotKey) (drawing i : ℕ) : Type 0 where
  pub within : i ≤ length keys
  pub before : (k : ℕ) (d : SlotKey) → k < i → (get_or keys k d).drawing < drawing
  pub following : (k : ℕ) (d : SlotKey) → i ≤ k → k < length keys → drawing < (get_or keys k d).drawing

-- ---- what is kept

-- the slots under these keys, in their order
abbrev pub slots_of : Slab Slot → List SlotKey → List Slot
slots_of slab keys = filter_map (λ (key : SlotKey). get slab key.key) keys

-- the slot under this key has its drawing
abbrev pub HasSlot : Slab Slot → SlotKey → Type 0
HasSlot slab key = option_map (λ (slot : Slot). slot.head.drawing) (get slab key.key) ≡ Some key.drawing

-- each drawing has its slot under its key, and there are no other slots
pub record HasSlots (slab : Slab Slot) (keys : List SlotKey) : Type 0 where
  pub ascending : AreAscending keys
  pub slots : All (HasSlot slab) keys
  pub count : slab_len slab ≡ length keys
