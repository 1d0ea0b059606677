-- The entry that a step adds, and what was recorded if no choice was made.
use Rattle.std.proofs.Common.{◌≡◌, ◌∙◌, true, List, Option, Some, None, ap, refl, subst, sym}
use Rattle.std.proofs.lemmas.Option.{none-some, same_Some}
use Rattle.std.specs.Option.{option_map}
use Rattle.std.specs.Prelude.{is_some}
use Rattle.st_trace.specs.declared.entry.Choice.{Choice}
use Rattle.st_trace.specs.declared.entry.Entry.{Entry}
use Rattle.st_law.specs.declared.input.Input.{Input}
use Rattle.st_law.specs.Machine.{entry_of, IsEnabled}
use Rattle.st_kernel.specs.Kernel.{RunSoFar, entry_now, numbered_next, state_in}
use Rattle.st_noted.specs.Steps.{StillNoted}

-- a choice that is enabled adds an entry
pub entry_added : (old : RunSoFar) (c : Choice) (added : Option Entry) → added ≡ entry_now old c → IsEnabled old.input (state_in old) c → is_some added ≡ true
entry_added old c added is enabled = ap is_some (is ∙ ap (option_map (numbered_next old)) enabled.1)

-- an entry of numbers that a choice adds is one of drawings with its numbers
mapped : (f : Entry → Entry) (o : Option Entry) (given : Entry) → option_map f o ≡ Some given → (e : Entry) × (o ≡ Some e) × (f e ≡ given)
mapped f None given is = absurd (none-some given is)
mapped f (Some e) given is = (e, refl, same_Some (f e) given is)

pub entry_drawn : (old : RunSoFar) (c : Choice) (given : Entry) → entry_now old c ≡ Some given → (e : Entry) × (entry_of old.input (state_in old) c ≡ Some e) × (numbered_next old e ≡ given)
entry_drawn old c given is = mapped (numbered_next old) (entry_of old.input (state_in old) c) given is

-- what was noted of a run is still noted if it is unchanged
pub still_noted : (P : Input → List Entry → Type 0) (old new : RunSoFar) → new ≡ old → StillNoted P old P new
still_noted P old new same = subst (StillNoted P old P) (sym same) (λ noted. noted)
