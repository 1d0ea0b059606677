-- The end of `gen` is the outcome of its words.
use Rattle.std.proofs.Common.{◌≡◌, ◌⊎◌, ℕ, inl, inr, false, List, Option, Some, None, refl, subst}
use Rattle.st_emulation.specs.declared.emulation.Emulation.TheVariants.{Native}
use Rattle.st_outside.specs.Count.{HasRisen}
use Rattle.st_command.specs.Reading.{command_in, gen_of_words}
use Rattle.st_command.specs.Words.{Word}
use Rattle.st_command.specs.declared.command.Command.{Command}
use Rattle.st_command.specs.declared.given.Print.TheVariants.{Audit}
use Rattle.st_command.proofs.Commands.{gen_alone, gen_spelled_exactly}
use Rattle.st_reading.specs.Meaning.{Contents, Meaning, Prints, Refuses}
use Rattle.st_reading.specs.declared.refusal.Refusal.TheVariants as refusal
use Rattle.st_top.specs.Ends.{EndsAs}
use Rattle.st_top.specs.Generated.{EndsGenerated, MeansGenerated}
use Rattle.st_top.specs.Outcome as outcome
use Rattle.st_top.specs.Outcome.{CommandOutcome, HasOutcome, IsOutcomeOf, WordsHaveOutcome, Writes, is_stop}
use Rattle.st_top.specs.declared.status.Status.{Status}
use Rattle.st_top.specs.declared.status.Status.TheVariants as status
use Rattle.st_top.proofs.GenMeaning.{line_meant, one_generated}
use Rattle.st_top.proofs.Outcomes.{goes_on, one_through}

module _ (words : List Word) (rounds : ℕ) (spelled : gen_of_words words ≡ Some rounds) (sink sink_after : ℕ) (old new : Option (List ℕ)) where
  -- words that spell `gen` spell no other command
  alone : command_in words ≡ None
  alone = gen_alone words rounds ((gen_spelled_exactly words rounds).1 spelled)

  -- memory ran out, or the status is that of what `gen` means
  abbrev Settled : Status → Type 0
  Settled end = (end ≡ status.NoMemory) ⊎ ((m : Meaning) × MeansGenerated rounds m × (o : CommandOutcome) × IsOutcomeOf Audit Native m o × (is_stop o ≡ false) × EndsAs o old new end)

  settled : (HasRisen sink sink_after → ⊥) → (end : Status) → EndsGenerated rounds sink sink_after old new end → Settled end
  settled quiet status.Done x = inr (Prints x.0, line_meant rounds x.0 x.1, Writes x.0, refl, refl, (refl, x.2))
  settled quiet (status.Missing w) x = absurd x
  settled quiet status.Usage x = absurd x
  settled quiet (status.Policy n fault) x = inr (Refuses (refusal.Policy n fault), x.0, outcome.Refuses (status.Policy n fault), refl, refl, refl)
  settled quiet (status.Script fault) x = inr (Refuses (refusal.Script fault), x.0, outcome.Refuses (status.Script fault), refl, refl, refl)
  settled quiet status.ReadFault x = absurd x
  settled quiet status.WriteFault x = absurd (quiet x.0)
  settled quiet status.NoMemory x = inl refl
  settled quiet (status.Schedule line) x = absurd x
  settled quiet (status.TooLong w) x = absurd x
  settled quiet (status.Illegal line) x = absurd x

  pub ended_generated : (end : Status) → EndsGenerated rounds sink sink_after old new end → (HasRisen sink sink_after → ⊥) → (contents : Contents) (ends_so : CommandOutcome) → is_stop ends_so ≡ false → WordsHaveOutcome words contents ends_so →
      (end ≡ status.NoMemory) ⊎ EndsAs ends_so old new end
  ended_generated end ends quiet contents ends_so go comes = by (settled quiet end ends)
    where
      of_gen : HasOutcome contents None (Some rounds) ends_so
      of_gen =
          subst (λ (n : Option ℕ). HasOutcome contents None n ends_so) spelled
          (subst (λ (o : Option Command). HasOutcome contents o (gen_of_words words) ends_so) alone comes)

      by : Settled end → (end ≡ status.NoMemory) ⊎ EndsAs ends_so old new end
      by (inl none) = inl none
      by (inr p) =
          let one : p.0 ≡ of_gen.0 = one_generated rounds p.0 of_gen.0 (goes_on Audit Native p.0 p.2 p.4 p.3) (goes_on Audit Native of_gen.0 ends_so go of_gen.2) p.1 of_gen.1 in
          let same : p.2 ≡ ends_so = one_through Audit Native p.0 of_gen.0 one p.2 ends_so p.3 of_gen.2 in
          inr (subst (λ (o : CommandOutcome). EndsAs o old new end) same p.5)
