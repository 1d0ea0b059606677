-- What a replay answers once the kernel has tried the choice that an entry tells.
use Rattle.std.proofs.Common.{◌≡◌, ◌≢◌, ◌∙◌, ℕ, List, Option, Some, None, ap, refl, subst, sym}
use Rattle.std.specs.Option.{option_map}
use Rattle.std.specs.Prelude.{IfErr, OnErr, Result, Ok, Err, slice_get}
use Rattle.st_trace.specs.declared.entry.Choice.{Choice}
use Rattle.st_trace.specs.declared.entry.Entry.{Entry}
use Rattle.st_law.specs.declared.input.Input.{Input}
use Rattle.st_law.specs.Inputs.{IsStartable}
use Rattle.st_law.specs.Machine.{entry_of, IsEnabled}
use Rattle.st_kernel.specs.declared.kernel.StepFault.{StepFault}
use Rattle.st_kernel.specs.declared.kernel.StepFault.TheVariants as step
use Rattle.st_kernel.specs.Kernel.{RunSoFar, entry_now, number_now, numbered_next, state_in, with_choice}
use Rattle.st_replay.specs.declared.entries.Mismatch.{Mismatch}
use Rattle.st_replay.specs.declared.entries.ReplayFault.{ReplayFault}
use Rattle.st_replay.specs.declared.entries.ReplayFault.TheVariants.{NotLawful, NoMemory}
use Rattle.st_replay.specs.declared.whole.Replayed.TheVariants.{Broken}
use Rattle.st_replay.specs.Replays.{IsReplayFault, IsReplayed, first_entries, mismatch_of}
use Rattle.st_replay.specs.Told.{IsLawfulSoFar, TraceSoFar, choice_numbered, choice_told, entry_told, with_added, with_entry}
use Rattle.st_replay.proofs.Following.{choice_is, grows, made_is, so_far_lawful, trace_in}
use Rattle.st_replay.proofs.Lawful.{entry_law}

module _ (old : RunSoFar) (startable : IsStartable old.input) (e : Entry) (c : Choice) (told : c ≡ choice_numbered old.input (state_in old) (number_now old) e) where
  abbrev before : TraceSoFar
  before = trace_in old

  c_is : c ≡ choice_told before e
  c_is = told ∙ choice_is old startable e

  -- what the kernel adds is what the machine adds for the choice that the entry tells
  added_is : entry_now old c ≡ entry_told before e
  added_is = ap (entry_now old) c_is ∙ made_is old startable (choice_told before e)

  mismatch_is : (added : Option Entry) → added ≡ entry_now old c → record { choice = c; entry = added } ≡ mismatch_of before e
  mismatch_is added is = λ k. record { choice = c_is k; entry = (is ∙ added_is) k }

  -- another entry, or none, was added
  pub differs : (added : Option Entry) → added ≡ entry_now old c → added ≢ Some e → (new : RunSoFar) → trace_in new ≡ with_added before added
      → IsReplayFault before e (NotLawful (record { choice = c; entry = added })) (trace_in new)
  differs added is other new on = (
    λ x. other (is ∙ added_is ∙ (entry_law before startable (so_far_lawful old startable) e).0 x),
    mismatch_is added is,
    on ∙ ap (with_added before) (is ∙ added_is),
  )

  -- the choice isn't enabled
  pub refused : entry_of old.input (state_in old) c ≡ None → (new : RunSoFar) → new ≡ old → IsReplayFault before e (NotLawful (record { choice = c; entry = None })) (trace_in new)
  refused none new same = differs None (sym (ap (option_map (numbered_next old)) none)) (λ f. cc) new (ap trace_in same)

  -- another entry was added
  pub changed : (added : Option Entry) → added ≡ entry_now old c → added ≢ Some e → IsEnabled old.input (state_in old) c → (new : RunSoFar) → new ≡ with_choice old c
      → IsReplayFault before e (NotLawful (record { choice = c; entry = added })) (trace_in new)
  changed added is other enabled new on =
      let some : entry_now old c ≡ Some (numbered_next old enabled.0) = ap (option_map (numbered_next old)) enabled.1 in
      differs added is other new (grows old c new on (numbered_next old enabled.0) some ∙ ap (with_added before) (sym some ∙ sym is))

  -- this entry was added
  pub taken : (added : Option Entry) → added ≡ entry_now old c → added ≡ Some e → (new : RunSoFar) → new ≡ with_choice old c → trace_in new ≡ with_entry before e
  taken added is same new on = grows old c new on e (sym is ∙ same)

  pub lawful : (added : Option Entry) → added ≡ entry_now old c → added ≡ Some e → IsLawfulSoFar (with_entry before e)
  lawful added is same = (entry_law before startable (so_far_lawful old startable) e).1 (sym added_is ∙ sym is ∙ same)

  -- the fault of an entry whose choice wasn't made
  pub refusal_is : (fault : StepFault) (given : ReplayFault) → (fault ≡ step.NotEnabled → given ≡ NotLawful (record { choice = c; entry = None })) → (fault ≡ step.NoMemory → given ≡ NoMemory)
      → (fault ≡ step.NotEnabled → entry_of old.input (state_in old) c ≡ None) → (new : RunSoFar) → new ≡ old → IsReplayFault before e given (trace_in new)
  refusal_is step.NotEnabled given enabled memory none new same = subst (λ (f : ReplayFault). IsReplayFault before e f (trace_in new)) (sym (enabled refl)) (refused (none refl) new same)
  refusal_is step.NoMemory given enabled memory none new same = subst (λ (f : ReplayFault). IsReplayFault before e f (trace_in new)) (sym (memory refl)) (ap trace_in same)

  -- the fault of an entry that was compared
  pub compared : {A : Type 0} (result : Result A ReplayFault) (added : Option Entry) → added ≡ entry_now old c → OnErr result (added ≢ Some e) → IfErr result (λ fault. fault ≡ NotLawful (record { choice = c; entry = added }))
      → IsEnabled old.input (state_in old) c → (new : RunSoFar) → new ≡ with_choice old c → IfErr result (λ fault. IsReplayFault before e fault (trace_in new))
  compared (Ok a) added is other same enabled new on = tt
  compared (Err fault) added is other same enabled new on = subst (λ (f : ReplayFault). IsReplayFault before e f (trace_in new)) (sym same) (changed added is other enabled new on)

-- an entry that isn't lawful after the first entries of a trace is where the trace breaks
pub broken : (i : Input) (trace : List Entry) (at : ℕ) (e : Entry) (mismatch : Mismatch) (so_far new : TraceSoFar) → so_far ≡ first_entries i trace at → IsLawfulSoFar so_far → slice_get trace at ≡ Some e
    → IsReplayFault so_far e (NotLawful mismatch) new → IsReplayed i trace (Broken at mismatch)
broken i trace at e mismatch so_far new same lawful there fault = (
  e,
  there,
  subst IsLawfulSoFar same lawful,
  subst (λ (t : TraceSoFar). IsLawfulSoFar (with_entry t e) → ⊥) same fault.0,
  fault.1 ∙ ap (λ (t : TraceSoFar). mismatch_of t e) same,
)
