-- What is kept of a message after it was sealed.
use Rattle.std.proofs.Common.{◌≡◌, ◌∙◌, List, ap, sym, subst}
use Rattle.std.specs.Prelude.{Option, Some, None, false, is_some}
use Rattle.st_calls.specs.declared.judged.Snapshot.{Snapshot}
use Rattle.st_lookaside.specs.Slot.{Slot, kept_slot, slot_progress, IsDue, IsSlotWith, IsSlot}
use Rattle.st_lookaside.specs.declared.head.Head.{Head}
use Rattle.st_lookaside.specs.declared.part.Part.{Part}

-- a message that needs something more wasn't sealed, so its arguments may change
pub still_unsealed : (head : Head) (parts new : List Part) (now : Slot) (sealed : Option Snapshot) → IsSlotWith head parts sealed → kept_slot head parts (is_some sealed) ≡ now → IsDue (slot_progress now) → IsSlot head new → IsSlotWith head new sealed
still_unsealed head parts new now None kept view due slot = record { slot = slot; sealed = tt }
still_unsealed head parts new now (Some copies) kept view due slot = absurd (subst IsDue (ap slot_progress (sym view) ∙ kept.sealed.args) due)

pub unsealed : (head : Head) (parts : List Part) (now : Slot) (sealed : Option Snapshot) → IsSlotWith head parts sealed → kept_slot head parts (is_some sealed) ≡ now → IsDue (slot_progress now) → now.is_sealed ≡ false
unsealed head parts now None kept view due = sym (ap (λ (s : Slot). s.is_sealed) view)
unsealed head parts now (Some copies) kept view due = absurd (subst IsDue (ap slot_progress (sym view) ∙ kept.sealed.args) due)
