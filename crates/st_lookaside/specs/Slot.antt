-- A message under way: what was copied and seen for each of its arguments.
use Rattle.std.specs.Prelude.{◌≡◌, ◌<◌, ◌≤◌, ◌+◌, ℕ, Bool, true, false, List, [], All, map, get_or, Option, IfSome, is_some, slice_index_or, slice_set, length}
use Rattle.st_calls.specs.Argument.{args_of}
use Rattle.st_calls.specs.declared.argument.ArgText.{ArgText}
use Rattle.st_calls.specs.declared.judged.Snapshot.{Snapshot}
use Rattle.st_effects.specs.Progress.{Progress, Word, Look, Stuck, Ready, progress}
use Rattle.st_lookaside.specs.Head.{arg_request}
use Rattle.st_lookaside.specs.Need.{IsShort}
use Rattle.st_lookaside.specs.Part.{Filled, filled_of, is_begun, nothing_filled, with_lookup, with_word, IsPart}
use Rattle.st_lookaside.specs.declared.head.Head.{Head}
use Rattle.st_lookaside.specs.declared.head.Renewal.{Renewal}
use Rattle.st_lookaside.specs.declared.need.Need.TheVariants as need
use Rattle.st_lookaside.specs.declared.part.Part.{Part}
use Rattle.st_lookaside.specs.declared.slot.Next.{Next}
use Rattle.st_lookaside.specs.declared.slot.Next.TheVariants as next
use Rattle.st_model.specs.declared.limits.TheConstants.{SPACE_WORDS}
use Rattle.st_names.specs.declared.seen.SeenText.{SeenText}

-- a message, what was copied and seen for each argument of its rule, in their order, and whether the message is sealed
pub record Slot : Type 0 where
  pub head : Head
  pub parts : List Filled
  pub is_sealed : Bool

-- a message of which nothing is copied or seen
abbrev pub new_slot : Head → Slot
new_slot head = record { head = head; parts = map (λ spec. nothing_filled) (args_of head.rule); is_sealed = false }

-- what was copied and seen for the argument with an index
abbrev pub part_at : List Filled → ℕ → Filled
part_at parts j = slice_index_or parts j nothing_filled

-- the progress of the message
abbrev pub progress_of_parts : Head → List Filled → Progress
progress_of_parts head parts = progress (arg_request head) (λ j. (part_at parts j).words) (λ j. (part_at parts j).lookups)

abbrev pub slot_progress : Slot → Progress
slot_progress slot = progress_of_parts slot.head slot.parts

-- ---- what is needed next

-- what a message with this progress needs next
abbrev pub next_need : Progress → Next
next_need (Word part place) = next.Word part place
next_need (Look part name) = next.Look part
next_need (Stuck errno) = next.Fault errno
next_need (Ready args) = next.Ready

-- the index of the argument that isn't finished; 0 if all are finished or one has a fault
abbrev pub part_next : Progress → ℕ
part_next (Word part place) = part
part_next (Look part name) = part
part_next (Stuck errno) = 0
part_next (Ready args) = 0

-- a word is copied next
abbrev pub IsWordNext : Progress → Type 0
IsWordNext (Word part place) = Unit {0}
IsWordNext (Look part name) = ⊥
IsWordNext (Stuck errno) = ⊥
IsWordNext (Ready args) = ⊥

-- a name is looked at next
abbrev pub IsLookNext : Progress → Type 0
IsLookNext (Word part place) = ⊥
IsLookNext (Look part name) = Unit {0}
IsLookNext (Stuck errno) = ⊥
IsLookNext (Ready args) = ⊥

-- a word is copied or a name is looked at next
abbrev pub IsDue : Progress → Type 0
IsDue (Word part place) = Unit {0}
IsDue (Look part name) = Unit {0}
IsDue (Stuck errno) = ⊥
IsDue (Ready args) = ⊥

-- all arguments are complete
abbrev pub HasAllArguments : Progress → Type 0
HasAllArguments (Word part place) = ⊥
HasAllArguments (Look part name) = ⊥
HasAllArguments (Stuck errno) = ⊥
HasAllArguments (Ready args) = Unit {0}

-- the index of a word that is needed is inside memory
abbrev pub IsInside : Next → Type 0
IsInside (next.Word part place) = place < SPACE_WORDS
IsInside (next.Look part) = Unit {0}
IsInside (next.Fault errno) = Unit {0}
IsInside next.Ready = Unit {0}

-- ---- how calls change it

-- the argument with this index has this copied and seen now
abbrev pub with_part : Slot → ℕ → Filled → Slot
with_part slot j filled = record slot { parts = slice_set slot.parts j filled }

-- the argument that isn't finished has one more word
abbrev pub after_word : Slot → ℕ → Slot
after_word slot word = let j = part_next (slot_progress slot) in with_part slot j (with_word (part_at slot.parts j) word)

-- the walk of the argument that isn't finished has one more answer
abbrev pub after_look : Slot → SeenText → Slot
after_look slot seen = let j = part_next (slot_progress slot) in with_part slot j (with_lookup (part_at slot.parts j) seen)

-- the message is sealed
abbrev pub sealed_slot : Slot → Slot
sealed_slot slot = record slot { is_sealed = true }

-- the message begins anew under this drawing and its number, with the ids, the directory and the version of this renewal
abbrev pub renewed : Slot → ℕ → ℕ → Renewal → Slot
renewed slot drawing seq renewal =
    new_slot (record slot.head { drawing = drawing; seq = seq; ids = renewal.ids; cwd = renewal.cwd; version = renewal.version })

-- the message with the texts of its arguments
abbrev pub snapshot_with : Head → List ArgText → Snapshot
snapshot_with head args = record {
  seq = head.seq;
  pid = head.pid;
  ids = head.ids;
  policy = head.policy;
  version = head.version;
  rule = head.rule;
  call = head.call;
  regs = head.regs;
  parts = args;
}

-- words and answers came in the order of the arguments: nothing is seen of an argument that needs a word, and nothing is copied or seen of
-- later ones; and a message that needs something isn't sealed
pub record IsInOrder (slot : Slot) : Type 0 where
  pub unseen : IsWordNext (slot_progress slot) → (part_at slot.parts (part_next (slot_progress slot))).lookups ≡ []
  pub following : IsDue (slot_progress slot) → (k : ℕ) → part_next (slot_progress slot) < k → part_at slot.parts k ≡ nothing_filled
  pub unsealed : IsDue (slot_progress slot) → slot.is_sealed ≡ false

-- ---- what is kept of it

-- the slot of a message with these arguments, which is sealed or not
abbrev pub kept_slot : Head → List Part → Bool → Slot
kept_slot head kept sealed = record { head = head; parts = map filled_of kept; is_sealed = sealed }

-- nothing is copied or seen of the arguments after one that isn't finished
abbrev pub AreInOrder : List Part → Type 0
AreInOrder parts = (i j : ℕ) (d : Part) → i < j → j < length parts → ((get_or parts i d).need ≡ need.Nothing → ⊥) → filled_of (get_or parts j d) ≡ nothing_filled

-- the invariant of a message and its arguments
pub record IsSlot (head : Head) (kept : List Part) : Type 0 where
  pub short : IsShort head.cwd
  pub specs : map (λ part. part.spec) kept ≡ args_of head.rule
  pub parts : All (IsPart (arg_request head)) kept
  pub order : AreInOrder kept

-- these copies are the message with the texts of its arguments
pub record IsSealOf (slot : Slot) (copies : Snapshot) : Type 0 where
  pub args : slot_progress slot ≡ Ready copies.parts
  pub head : copies ≡ snapshot_with slot.head copies.parts

-- the invariant of a message and its arguments, with its copies if it is sealed
pub record IsSlotWith (head : Head) (kept : List Part) (copies : Option Snapshot) : Type 0 where
  pub slot : IsSlot head kept
  pub sealed : IfSome copies (IsSealOf (kept_slot head kept (is_some copies)))

-- no word is copied of the arguments from this index on
abbrev pub AreNotBegun : List Part → ℕ → Type 0
AreNotBegun parts from = (k : ℕ) (d : Part) → from ≤ k → k < length parts → is_begun (filled_of (get_or parts k d)) ≡ false

-- this is the last argument of which a word is copied
pub record IsLastBegun (parts : List Part) (j : ℕ) : Type 0 where
  pub within : j < length parts
  pub begun : (d : Part) → is_begun (filled_of (get_or parts j d)) ≡ true
  pub following : AreNotBegun parts (j + 1)
