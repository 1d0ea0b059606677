-- Lists whose items are numbered from 1, as processes, threads, spaces and objects are.
use Rattle.std.specs.Prelude.{ℕ, zero, suc, List, slice_get, slice_index_or, slice_set, Option, None}

-- the item with this number, or none if no item has it
abbrev pub item_at_number : {X : Type 0} → List X → ℕ → Option X
item_at_number items zero = None
item_at_number items (suc before) = slice_get items before

-- the item with this number, or the default if no item has it
abbrev pub item_at_number_or : {X : Type 0} → X → List X → ℕ → X
item_at_number_or default items zero = default
item_at_number_or default items (suc before) = slice_index_or items before default

-- the list with the item of this number replaced
abbrev pub with_item_at_number : {X : Type 0} → List X → ℕ → X → List X
with_item_at_number items zero item = items
with_item_at_number items (suc before) item = slice_set items before item
