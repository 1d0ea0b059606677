-- Words have exactly one outcome, and a command ends with the outcome of its words.
use Rattle.std.proofs.Common.{◌≡◌, ◌⊎◌, ℕ, inl, inr, false, List, Option, Some, None, refl, sym, ap, ◌∙◌, subst}
use Rattle.st_outside.specs.Count.{HasRisen}
use Rattle.st_outside.specs.Sink.{Appends}
use Rattle.std.specs.Prelude.{IfSome}
use Rattle.st_law.specs.Inputs.{IsStartable}
use Rattle.st_law.specs.declared.input.Input.{Input}
use Rattle.st_law.specs.Schedules.{ScheduleOutcome, BadLine, Choices, played}
use Rattle.st_command.specs.Reading.{IsWithinLimits, command_in, gen_of_words}
use Rattle.st_command.proofs.Limits.{limits_kept}
use Rattle.st_command.specs.Words.{Word}
use Rattle.st_command.specs.declared.command.Command.{Command}
use Rattle.st_command.specs.declared.command.Command.TheVariants.{Step, Replay, Check}
use Rattle.st_command.specs.declared.given.Print.{Print}
use Rattle.st_command.specs.declared.given.Print.TheVariants.{Audit}
use Rattle.st_emulation.specs.declared.emulation.Emulation.{Emulation}
use Rattle.st_emulation.specs.declared.emulation.Emulation.TheVariants.{Native}
use Rattle.st_reading.specs.Meaning as meaning
use Rattle.st_reading.specs.Meaning.{AreFilesKnown, Contents, Meaning, Means}
use Rattle.st_reading.specs.declared.refusal.Refusal.{Refusal}
use Rattle.st_reading.specs.declared.refusal.Refusal.TheVariants as refusal
use Rattle.st_reading.proofs.Meanings.{one_meaning, some_meaning}
use Rattle.st_reading.proofs.Runnable.{AllReplayable, check_prints, step_runs}
use Rattle.st_written.specs.Written.{IsText}
use Rattle.st_trace_replay.proofs.Breaking.{some_replayed}
use Rattle.st_trace_replay.proofs.Outcomes.{one_replayed}
use Rattle.st_top.proofs.GenMeaning.{generates_no_replay, one_generated, some_generated}
use Rattle.st_outside.specs.Files.{Absent, CanHold, FileBytes, FileView, Unknown}
use Rattle.st_top.specs.Ends.{EndsCommand, EndsAs, IsMeant, IsOfBytes, IsTraceOfBytes, names_asked}
use Rattle.st_top.specs.Generated.{MeansGenerated}
use Rattle.st_top.specs.Outcome.{CommandOutcome, HasOutcome, IsOutcomeOf, Refuses, Stops, WordsHaveOutcome, Writes, emulation_asked, is_stop, lawful_text, outcome_of_play, outcome_of_replay, print_of, printed, status_of}
use Rattle.st_top.specs.declared.status.Status.{Status}
use Rattle.st_top.specs.declared.status.Status.TheVariants as status

-- ---- stops

play_goes_on : (print : Print) (emulation : Emulation) (i : Input) (o : ScheduleOutcome) → is_stop (outcome_of_play print i o emulation) ≡ false
play_goes_on print emulation i (Choices choices) = refl
play_goes_on print emulation i (BadLine line) = refl

replay_goes_on : (broken : Option ℕ) → is_stop (outcome_of_replay broken) ≡ false
replay_goes_on None = refl
replay_goes_on (Some line) = refl

-- the outcome of a command is a stop exactly when its meaning is one
stops : (print : Print) (emulation : Emulation) (m : Meaning) (o : CommandOutcome) → IsOutcomeOf print emulation m o → is_stop o ≡ meaning.is_stop m
stops print emulation (meaning.Stops w) o is = ap is_stop is
stops print emulation (meaning.Refuses r) o is = ap is_stop is
stops print emulation (meaning.Runs i schedule) o is = ap is_stop is ∙ play_goes_on print emulation i (played i schedule)
stops print emulation (meaning.Replays i trace) o is = ap is_stop is.2 ∙ replay_goes_on is.0
stops print emulation (meaning.Prints text) o is = ap is_stop is

pub goes_on : (print : Print) (emulation : Emulation) (m : Meaning) (o : CommandOutcome) → is_stop o ≡ false → IsOutcomeOf print emulation m o → meaning.is_stop m ≡ false
goes_on print emulation m o go is = sym (stops print emulation m o is) ∙ go

-- ---- one outcome

-- a meaning has at most one outcome
pub one_from : (print : Print) (emulation : Emulation) (m : Meaning) (a b : CommandOutcome) → IsOutcomeOf print emulation m a → IsOutcomeOf print emulation m b → a ≡ b
one_from print emulation (meaning.Stops w) a b p q = p ∙ sym q
one_from print emulation (meaning.Refuses r) a b p q = p ∙ sym q
one_from print emulation (meaning.Runs i schedule) a b p q = p ∙ sym q
one_from print emulation (meaning.Replays i trace) a b p q = p.2 ∙ ap outcome_of_replay (one_replayed i trace p.0 q.0 p.1 q.1) ∙ sym q.2
one_from print emulation (meaning.Prints text) a b p q = p ∙ sym q

-- and outcomes of the same meaning are the same
pub one_through : (print : Print) (emulation : Emulation) (m n : Meaning) → m ≡ n → (a b : CommandOutcome) → IsOutcomeOf print emulation m a → IsOutcomeOf print emulation n b → a ≡ b
one_through print emulation m n is a b p q = one_from print emulation m a b p (subst (λ (o : Meaning). IsOutcomeOf print emulation o b) (sym is) q)

-- the input of a replay can start, and its trace is of bytes
abbrev CanBeReplayed : Meaning → Type 0
CanBeReplayed (meaning.Replays i trace) = IsStartable i × IsText trace
CanBeReplayed _ = Unit {0}

-- a meaning that is no stop has an outcome
some_from : (print : Print) (emulation : Emulation) (m : Meaning) → CanBeReplayed m → (o : CommandOutcome) × IsOutcomeOf print emulation m o
some_from print emulation (meaning.Stops w) can = (Stops w, refl)
some_from print emulation (meaning.Refuses r) can = (Refuses (status_of r), refl)
some_from print emulation (meaning.Runs i schedule) can = (outcome_of_play print i (played i schedule) emulation, refl)
some_from print emulation (meaning.Replays i trace) can = let x = some_replayed i can.0 trace can.1 in (outcome_of_replay x.0, (x.0, x.1, refl))
some_from print emulation (meaning.Prints text) can = (Writes text, refl)

-- what a file of bytes holds is of bytes
held_bytes : (file : FileView) (text : List ℕ) → CanHold file text → IsOfBytes file → IsText text
held_bytes Unknown text held bytes = absurd bytes
held_bytes Absent text held bytes = absurd held
held_bytes (FileBytes known) text held bytes = subst IsText (sym held) bytes

-- a replay that is meant can start
replay_starts : AllReplayable → (contents : Contents) (c : Command) → IsWithinLimits c → IsTraceOfBytes contents (Some c) → (m : Meaning) → Means contents c m → CanBeReplayed m
replay_starts replayable contents c limits bytes (meaning.Stops w) meant = tt
replay_starts replayable contents c limits bytes (meaning.Refuses r) meant = tt
replay_starts replayable contents c limits bytes (meaning.Runs i schedule) meant = tt
replay_starts replayable contents (Step step) limits bytes (meaning.Replays i trace) meant = absurd (step_runs contents step (meaning.Replays i trace) meant)
replay_starts replayable contents (Replay replay) limits bytes (meaning.Replays i trace) meant =
    let x = replayable contents replay i trace limits meant in
    (x.0.startable, held_bytes (contents replay.trace) trace x.2 bytes)
replay_starts replayable contents (Check check) limits bytes (meaning.Replays i trace) meant = absurd (check_prints contents check (meaning.Replays i trace) meant)
replay_starts replayable contents c limits bytes (meaning.Prints text) meant = tt

-- `gen` replays nothing
generated_starts : (rounds : ℕ) (m : Meaning) → MeansGenerated rounds m → CanBeReplayed m
generated_starts rounds (meaning.Stops w) meant = tt
generated_starts rounds (meaning.Refuses r) meant = tt
generated_starts rounds (meaning.Runs i schedule) meant = tt
generated_starts rounds (meaning.Replays i trace) meant = absurd (generates_no_replay rounds i trace meant)
generated_starts rounds (meaning.Prints text) meant = tt

module _ (contents : Contents) where
  one_of : (spelled : Option Command) (rounds : Option ℕ) (a b : CommandOutcome) → AreFilesKnown contents (names_asked spelled) → is_stop a ≡ false → is_stop b ≡ false → HasOutcome contents spelled rounds a → HasOutcome contents spelled rounds b → a ≡ b
  one_of None None a b known u v p q = p ∙ sym q
  one_of None (Some rounds) a b known u v p q =
      one_through Audit Native p.0 q.0 (one_generated rounds p.0 q.0 (goes_on Audit Native p.0 a u p.2) (goes_on Audit Native q.0 b v q.2) p.1 q.1) a b p.2 q.2
  one_of (Some c) rounds a b known u v p q =
      one_through (print_of c) (emulation_asked c) p.0 q.0 (one_meaning contents c known p.0 q.0 (goes_on (print_of c) (emulation_asked c) p.0 a u p.2) (goes_on (print_of c) (emulation_asked c) q.0 b v q.2) p.1 q.1) a b p.2 q.2

  some_of : AllReplayable → (spelled : Option Command) → IfSome spelled IsWithinLimits → IsTraceOfBytes contents spelled → (rounds : Option ℕ) → AreFilesKnown contents (names_asked spelled) → (o : CommandOutcome) × (is_stop o ≡ false) × HasOutcome contents spelled rounds o
  some_of replayable None limits bytes None known = (Refuses status.Usage, refl, refl)
  some_of replayable None limits bytes (Some rounds) known =
      let x = some_generated rounds in
      let o = some_from Audit Native x.0 (generated_starts rounds x.0 x.2) in
      (o.0, stops Audit Native x.0 o.0 o.1 ∙ x.1, (x.0, x.2, o.1))
  some_of replayable (Some c) limits bytes rounds known =
      let x = some_meaning contents c known in
      let o = some_from (print_of c) (emulation_asked c) x.0 (replay_starts replayable contents c limits bytes x.0 x.2) in
      (o.0, stops (print_of c) (emulation_asked c) x.0 o.0 o.1 ∙ x.1, (x.0, x.2, o.1))

pub one_outcome : (words : List Word) (contents : Contents) (a b : CommandOutcome) → AreFilesKnown contents (names_asked (command_in words)) → is_stop a ≡ false → is_stop b ≡ false → WordsHaveOutcome words contents a → WordsHaveOutcome words contents b → a ≡ b
one_outcome words contents a b known u v p q = one_of contents (command_in words) (gen_of_words words) a b known u v p q

pub some_outcome : AllReplayable → (words : List Word) (contents : Contents) → AreFilesKnown contents (names_asked (command_in words)) → IsTraceOfBytes contents (command_in words) → (o : CommandOutcome) × (is_stop o ≡ false) × WordsHaveOutcome words contents o
some_outcome replayable words contents known bytes = some_of contents replayable (command_in words) (limits_kept words (command_in words) refl) bytes (gen_of_words words) known

-- ---- the end of a command

module _ (contents : Contents) (faults faults_after : ℕ) (asked asked_after : List Word) (sink sink_after : ℕ) (old new : Option (List ℕ)) where
  -- a command means something whose outcome the call ends with
  record Ends (c : Command) (end : Status) : Type 0 where
    m : Meaning
    goes : meaning.is_stop m ≡ false
    meant : Means contents c m
    outcome : CommandOutcome
    outcome_is : IsOutcomeOf (print_of c) (emulation_asked c) m outcome
    ends : EndsAs outcome old new end

  written : (c : Command) (text : List ℕ) → IsMeant contents c text → Appends old new text → Ends c status.Done
  written (Step step) text meant appends = record {
    m = meaning.Runs meant.input meant.schedule;
    goes = refl;
    meant = meant.meant;
    outcome = Writes (printed step.print meant.input meant.choices step.emulation);
    outcome_is = ap (λ (o : ScheduleOutcome). outcome_of_play step.print meant.input o step.emulation) (sym meant.played_to);
    ends = (refl, subst (Appends old new) meant.text_is appends);
  }
  written (Replay replay) text meant appends = record {
    m = meaning.Replays meant.input meant.trace;
    goes = refl;
    meant = meant.meant;
    outcome = Writes lawful_text;
    outcome_is = (None, meant.lawful, refl);
    ends = (refl, subst (Appends old new) meant.text_is appends);
  }
  written (Check check) text meant appends = record { m = meaning.Prints text; goes = refl; meant = meant; outcome = Writes text; outcome_is = refl; ends = (refl, appends) }

  -- a refusal that is meant
  refused : (c : Command) (r : Refusal) → Means contents c (meaning.Refuses r) → Ends c (status_of r)
  refused c r meant = record { m = meaning.Refuses r; goes = refl; meant = meant; outcome = Refuses (status_of r); outcome_is = refl; ends = refl }

  settled : (c : Command) (end : Status) → EndsCommand contents c faults faults_after asked asked_after sink sink_after old new end → (HasRisen faults faults_after → ⊥) → (HasRisen sink sink_after → ⊥) →
      (end ≡ status.NoMemory) ⊎ Ends c end
  settled c status.Done x quiet sink_quiet = inr (written c x.0.0 x.0.1 x.0.2)
  settled c (status.Missing w) x quiet sink_quiet = inr (refused c (refusal.Missing w) x.0.0)
  settled c status.Usage x quiet sink_quiet = absurd x.0
  settled c (status.Policy n fault) x quiet sink_quiet = inr (refused c (refusal.Policy n fault) x.0.0)
  settled c (status.Script fault) x quiet sink_quiet = inr (refused c (refusal.Script fault) x.0.0)
  settled c status.ReadFault x quiet sink_quiet = absurd (quiet x.0.0)
  settled c status.WriteFault x quiet sink_quiet = absurd (sink_quiet x.0)
  settled c status.NoMemory x quiet sink_quiet = inl refl
  settled c (status.Schedule line) x quiet sink_quiet = inr (record {
    m = meaning.Runs x.0.0.input x.0.0.schedule;
    goes = refl;
    meant = x.0.0.meant;
    outcome = Refuses (status.Schedule line);
    outcome_is = ap (λ (o : ScheduleOutcome). outcome_of_play (print_of c) x.0.0.input o (emulation_asked c)) (sym x.0.0.bad);
    ends = refl;
  })
  settled c (status.Illegal line) x quiet sink_quiet = inr (record {
    m = meaning.Replays x.0.0.input x.0.0.trace;
    goes = refl;
    meant = x.0.0.meant;
    outcome = Refuses (status.Illegal line);
    outcome_is = (Some line, x.0.0.breaks, refl);
    ends = refl;
  })
  settled c (status.TooLong w) x quiet sink_quiet = inr (refused c (refusal.TooLong w) x.0.0)

  -- so the command ended with the outcome of its words, unless memory ran out
  pub ended_as : (c : Command) (end : Status) → EndsCommand contents c faults faults_after asked asked_after sink sink_after old new end → (HasRisen faults faults_after → ⊥) → (HasRisen sink sink_after → ⊥) →
      (words : List Word) → command_in words ≡ Some c → AreFilesKnown contents (names_asked (command_in words)) → (outcome : CommandOutcome) → is_stop outcome ≡ false → WordsHaveOutcome words contents outcome →
      (end ≡ status.NoMemory) ⊎ EndsAs outcome old new end
  ended_as c end x quiet sink_quiet words spelled known outcome go comes = by (settled c end x quiet sink_quiet)
    where
      by : (end ≡ status.NoMemory) ⊎ Ends c end → (end ≡ status.NoMemory) ⊎ EndsAs outcome old new end
      by (inl none) = inl none
      by (inr p) =
          let one : p.outcome ≡ outcome = one_of contents (Some c) (gen_of_words words) p.outcome outcome (subst (λ (o : Option Command). AreFilesKnown contents (names_asked o)) spelled known) (stops (print_of c) (emulation_asked c) p.m p.outcome p.outcome_is ∙ p.goes) go
          (p.m, p.meant, p.outcome_is) (subst (λ (o : Option Command). HasOutcome contents o (gen_of_words words) outcome) spelled comes) in
          inr (subst (λ (o : CommandOutcome). EndsAs o old new end) one p.ends)

-- the outcome of words that spell no command is wrong usage, and the call ends with it
pub ended_unserved : (words : List Word) (contents : Contents) (old new : Option (List ℕ)) (outcome : CommandOutcome) → command_in words ≡ None → gen_of_words words ≡ None → WordsHaveOutcome words contents outcome → EndsAs outcome old new status.Usage
ended_unserved words contents old new outcome none ungenerated comes =
    subst (λ (o : CommandOutcome). EndsAs o old new status.Usage) (sym (by comes)) refl
  where
    by : WordsHaveOutcome words contents outcome → outcome ≡ Refuses status.Usage
    by x =
        subst (λ (n : Option ℕ). HasOutcome contents None n outcome) ungenerated
        (subst (λ (o : Option Command). HasOutcome contents o (gen_of_words words) outcome) none x)
