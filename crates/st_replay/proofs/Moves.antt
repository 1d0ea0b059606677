-- What a replay answers once the kernel has tried the choice of a mover.
use Rattle.std.proofs.Common.{◌≡◌, ◌∙◌, Option, Some, None, ap, subst, sym}
use Rattle.std.specs.Option.{option_map}
use Rattle.st_trace.specs.declared.entry.Choice.{Choice}
use Rattle.st_trace.specs.declared.entry.Entry.{Entry}
use Rattle.st_law.specs.Inputs.{IsStartable}
use Rattle.st_law.specs.Machine.{entry_of, IsEnabled}
use Rattle.st_kernel.specs.Kernel.{RunSoFar, entry_now, number_now, numbered_next, state_in, with_choice}
use Rattle.st_replay.specs.declared.mover.Mover.{Mover}
use Rattle.st_replay.specs.Told.{IsLawfulSoFar, IsOnly, TraceSoFar, choice_after, choice_of_mover, entry_moved, with_added}
use Rattle.st_replay.proofs.Following.{grows, made_is, mover_is, so_far_lawful, trace_in}
use Rattle.st_replay.proofs.Lawful.{lawful_adds}

module _ (old : RunSoFar) (startable : IsStartable old.input) (mover : Mover) (c : Choice) (chosen : c ≡ choice_of_mover old.input (state_in old) (number_now old) mover) where
  abbrev before : TraceSoFar
  before = trace_in old

  -- what the kernel adds is what the machine adds when the mover moves
  pub moved_is : entry_now old c ≡ entry_moved before mover
  moved_is = ap (entry_now old) (chosen ∙ mover_is old startable mover) ∙ made_is old startable (choice_after before mover)

  pub moved_added : (added : Option Entry) → added ≡ entry_now old c → added ≡ entry_moved before mover
  moved_added added is = is ∙ moved_is

  -- the trace after the mover's move
  pub moved_on : IsEnabled old.input (state_in old) c → (new : RunSoFar) → new ≡ with_choice old c → trace_in new ≡ with_added before (entry_moved before mover)
  moved_on enabled new on =
      let some : entry_now old c ≡ Some (numbered_next old enabled.0) = ap (option_map (numbered_next old)) enabled.1 in
      grows old c new on (numbered_next old enabled.0) some ∙ ap (with_added before) (sym some ∙ moved_is)

  pub moved_lawful : (new : RunSoFar) → new ≡ with_choice old c → IsLawfulSoFar (trace_in new)
  moved_lawful new on = subst (λ (run : RunSoFar). IsLawfulSoFar (trace_in run)) (sym on) (so_far_lawful (with_choice old c) startable)

  -- the mover's choice isn't enabled
  pub unmoved : entry_of old.input (state_in old) c ≡ None → entry_moved before mover ≡ None
  unmoved none = sym moved_is ∙ ap (option_map (numbered_next old)) none

  pub unmoved_on : entry_of old.input (state_in old) c ≡ None → (new : RunSoFar) → new ≡ old → trace_in new ≡ with_added before (entry_moved before mover)
  unmoved_on none new same = ap trace_in same ∙ ap (with_added before) (sym (unmoved none))

  pub unmoved_lawful : (new : RunSoFar) → new ≡ old → IsLawfulSoFar (trace_in new)
  unmoved_lawful new same = subst (λ (run : RunSoFar). IsLawfulSoFar (trace_in run)) (sym same) (so_far_lawful old startable)

  -- an entry of the mover that is lawful is the one that the machine adds
  pub only_moved : IsOnly before mover (entry_moved before mover)
  only_moved e same lawful = ap (entry_moved before) (sym same) ∙ lawful_adds old.input startable before.trace e lawful
