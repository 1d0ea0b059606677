-- The turn of a worker, by the slot of its drawing.
use Rattle.std.specs.Prelude.{◌≡◌, ◌||◌, ℕ, false, List}
use Rattle.st_effects.specs.Progress.{Ready as Whole}
use Rattle.st_lookaside.specs.Slot.{Slot, slot_progress, snapshot_with}
use Rattle.st_lookaside.specs.Slots.{slot_at}
use Rattle.st_law.specs.State.{is_ready}
use Rattle.st_workers.specs.declared.turn.Turn.{Turn}
use Rattle.st_workers.specs.declared.turn.Turn.TheVariants.{Idle, Working, Ready}

-- a worker at this drawing is ready with the sealed copies if the slot is complete, and otherwise goes on
abbrev pub IsTurnFor : ℕ → Slot → Turn → Type 0
IsTurnFor drawing slot Idle = ⊥
IsTurnFor drawing slot (Working q) = (q ≡ drawing) × (is_ready (slot_progress slot) ≡ false)
IsTurnFor drawing slot (Ready q s) = (q ≡ drawing) × (slot_progress slot ≡ Whole s.parts) × (s ≡ snapshot_with slot.head s.parts)

-- the slot of a message that a worker is at, which is sealed if it is complete
abbrev pub sealed_if_ready : Slot → Slot
sealed_if_ready slot = record slot { is_sealed = is_ready (slot_progress slot) || slot.is_sealed }

-- each drawing's slot is unchanged
abbrev pub AreSame : List Slot → List Slot → Type 0
AreSame old new = (drawing : ℕ) → slot_at new drawing ≡ slot_at old drawing
