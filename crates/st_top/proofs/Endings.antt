-- What the end of a command says of its words, one contract clause after the other.
use Rattle.std.proofs.Common.{◌≡◌, ◌≢◌, ◌⊎◌, ℕ, inl, inr, List, ◌++◌, Option, Some, None, refl, sym, ◌∙◌, subst}
use Rattle.std.proofs.lemmas.Option.{same_Some}
use Rattle.st_outside.specs.Count.{HasRisen}
use Rattle.st_outside.specs.Sink.{Appends, AppendsPrefix}
use Rattle.st_trace.specs.declared.entry.Choice.{Choice}
use Rattle.st_law.specs.declared.input.Input.{Input}
use Rattle.st_law.specs.declared.input.ReadSchedule.{ReadSchedule}
use Rattle.st_law.specs.Lawful.{Lawful}
use Rattle.st_law.specs.Machine.{run}
use Rattle.st_law.specs.Numbers.{IsLawfulByNumber, numbered}
use Rattle.st_law.specs.Schedules.{BadLine, Choices, played}
use Rattle.st_grammar.specs.declared.fault.PolicyRefusal.{PolicyRefusal}
use Rattle.st_script_faults.specs.declared.fault.ScriptFault.{ScriptFault}
use Rattle.st_command.specs.Reading.{command_in}
use Rattle.st_command.specs.Words.{Word}
use Rattle.st_command.specs.Command.{StepWords, ReplayWords, CheckWords}
use Rattle.st_command.specs.declared.command.Command.{Command}
use Rattle.st_command.specs.declared.command.Command.TheVariants.{Step, Replay, Check}
use Rattle.st_reading.specs.Meaning.{Contents, Means, Stops, Refuses, Runs, Replays, Prints, replay_input, step_input}
use Rattle.st_reading.specs.Runnable.{StartsNatively}
use Rattle.st_reading.specs.declared.refusal.Refusal.TheVariants as refusal
use Rattle.st_reading.proofs.Runnable.{replay_starts, step_starts}
use Rattle.st_reading.specs.declared.refusal.Which.{Which}
use Rattle.st_reading.specs.declared.refusal.Which.TheVariants as which
use Rattle.st_trace_replay.specs.Replayed.{BreaksAt, IsLawfulText}
use Rattle.st_top.specs.Ends.{EndsCommand, IsMeant, IsMeantBy, WordsMeanUpTo, WantsMemoryFor, names_asked}
use Rattle.st_top.specs.Outcome.{lawful_text, printed}
use Rattle.st_top.specs.declared.status.Status.{Status}
use Rattle.st_top.specs.declared.status.Status.TheVariants as status

module _ (words : List Word) (contents : Contents) (c : Command) (faults faults_after : ℕ) (asked asked_after : List Word) (sink sink_after : ℕ) (old new : Option (List ℕ)) (end : Status)
    (spelled : command_in words ≡ Some c) (ends : EndsCommand contents c faults faults_after asked asked_after sink sink_after old new end) where
  -- the end of the command, given its status
  of : (other : Status) → end ≡ other → EndsCommand contents c faults faults_after asked asked_after sink sink_after old new other
  of other is = subst (EndsCommand contents c faults faults_after asked asked_after sink sink_after old new) is ends

  -- words spell one command only
  same : (d : Command) → command_in words ≡ Some d → c ≡ d
  same d is = same_Some c d (sym spelled ∙ is)

  pub run_written : end ≡ status.Done → (step : StepWords) → command_in words ≡ Some (Step step) →
      (input : Input) × (schedule : ReadSchedule) × (choices : List Choice) × Means contents (Step step) (Runs input schedule) × StartsNatively contents (step_input step) input × (played input schedule ≡ Choices choices) × Lawful input (run input choices) × IsLawfulByNumber input (numbered input (run input choices)) × Appends old new (printed step.print input choices step.emulation)
  run_written is step spells =
      let x = (of status.Done is).0 in
      let m = subst (λ (d : Command). IsMeant contents d x.0) (same (Step step) spells) x.1 in
      (m.input, m.schedule, m.choices, m.meant, step_starts contents step m.input m.schedule m.meant, m.played_to, m.lawful, m.by_number, subst (Appends old new) m.text_is x.2)

  pub replay_written : end ≡ status.Done → (replay : ReplayWords) → command_in words ≡ Some (Replay replay) →
      (input : Input) × (trace : List ℕ) × Means contents (Replay replay) (Replays input trace) × StartsNatively contents (replay_input replay) input × IsLawfulText input trace × Appends old new lawful_text
  replay_written is replay spells =
      let x = (of status.Done is).0 in
      let m = subst (λ (d : Command). IsMeant contents d x.0) (same (Replay replay) spells) x.1 in
      (m.input, m.trace, m.meant, replay_starts contents replay m.input m.trace m.meant, m.lawful, subst (Appends old new) m.text_is x.2)

  pub canon_written : end ≡ status.Done → (check : CheckWords) → command_in words ≡ Some (Check check) → (text : List ℕ) × Means contents (Check check) (Prints text) × Appends old new text
  canon_written is check spells =
      let x = (of status.Done is).0 in
      (x.0, subst (λ (d : Command). IsMeant contents d x.0) (same (Check check) spells) x.1, x.2)

  pub some_served : command_in words ≢ None
  some_served none = by (sym spelled ∙ none)
    where
      by : Some c ≡ None → ⊥
      by e = cc

  pub is_missing : (w : Which) → end ≡ status.Missing w → WordsMeanUpTo words contents (Refuses (refusal.Missing w)) w asked asked_after
  is_missing w is = let x = (of (status.Missing w) is).0 in record { served = c; spelled = spelled; meant = x.0; asked = x.1 }

  pub is_too_long : (w : Which) → end ≡ status.TooLong w → WordsMeanUpTo words contents (Refuses (refusal.TooLong w)) w asked asked_after
  is_too_long w is = let x = (of (status.TooLong w) is).0 in record { served = c; spelled = spelled; meant = x.0; asked = x.1 }

  pub script_refused : (fault : ScriptFault) → end ≡ status.Script fault → WordsMeanUpTo words contents (Refuses (refusal.Script fault)) which.Script asked asked_after
  script_refused fault is = let x = (of (status.Script fault) is).0 in record { served = c; spelled = spelled; meant = x.0; asked = x.1 }

  pub policy_refused : (n : ℕ) (fault : PolicyRefusal) → end ≡ status.Policy n fault → WordsMeanUpTo words contents (Refuses (refusal.Policy n fault)) (which.Policy n) asked asked_after
  policy_refused n fault is = let x = (of (status.Policy n fault) is).0 in record { served = c; spelled = spelled; meant = x.0; asked = x.1 }

  pub bad_line : (line : ℕ) → end ≡ status.Schedule line → (input : Input) × (schedule : ReadSchedule) × WordsMeanUpTo words contents (Runs input schedule) which.Schedule asked asked_after × (played input schedule ≡ BadLine line)
  bad_line line is = let x = (of (status.Schedule line) is).0 in (x.0.input, x.0.schedule, record { served = c; spelled = spelled; meant = x.0.meant; asked = x.1 }, x.0.bad)

  pub illegal_line : (line : ℕ) → end ≡ status.Illegal line → (input : Input) × (trace : List ℕ) × WordsMeanUpTo words contents (Replays input trace) which.Trace asked asked_after × BreaksAt input trace line
  illegal_line line is = let x = (of (status.Illegal line) is).0 in (x.0.input, x.0.trace, record { served = c; spelled = spelled; meant = x.0.meant; asked = x.1 }, x.0.breaks)

  pub unreadable : end ≡ status.ReadFault → HasRisen faults faults_after × ((w : Which) × WordsMeanUpTo words contents (Stops w) w asked asked_after)
  unreadable is = let x = (of status.ReadFault is).0 in (x.0, (x.1.0, record { served = c; spelled = spelled; meant = x.1.1.meant; asked = x.1.1.asked }))

  pub unwritable : end ≡ status.WriteFault → HasRisen sink sink_after × ((text : List ℕ) × IsMeantBy words contents text × AppendsPrefix old new text)
  unwritable is = let x = of status.WriteFault is in let y = x.1 in (x.0, (y.0, record { served = c; spelled = spelled; meant = y.1 }, y.2))

  pub memory_wanting : end ≡ status.NoMemory → WantsMemoryFor contents (command_in words) asked asked_after
  memory_wanting is = subst (λ (o : Option Command). WantsMemoryFor contents o asked asked_after) (sym spelled) (of status.NoMemory is).0

  pub not_usage : end ≡ status.Usage → (command_in words ≡ None) × (asked_after ≡ asked)
  not_usage is = absurd (of status.Usage is).0

  pub all_asked : (end ≡ status.Done) ⊎ (end ≡ status.WriteFault) → asked_after ≡ asked ++ names_asked (command_in words)
  all_asked ends_so = subst (λ (o : Option Command). asked_after ≡ asked ++ names_asked o) (sym spelled) (by ends_so)
    where
      by : (end ≡ status.Done) ⊎ (end ≡ status.WriteFault) → asked_after ≡ asked ++ names_asked (Some c)
      by (inl is) = (of status.Done is).1
      by (inr is) = (of status.WriteFault is).2

  pub nothing_written : end ≢ status.Done → end ≢ status.WriteFault → new ≡ old
  nothing_written not_done not_failed = by end ends not_done not_failed
    where
      by : (other : Status) → EndsCommand contents c faults faults_after asked asked_after sink sink_after old new other → other ≢ status.Done → other ≢ status.WriteFault → new ≡ old
      by status.Done x no_done no_fault = absurd (no_done refl)
      by (status.Missing w) x no_done no_fault = x.1
      by status.Usage x no_done no_fault = x.1
      by (status.Policy n fault) x no_done no_fault = x.1
      by (status.Script fault) x no_done no_fault = x.1
      by status.ReadFault x no_done no_fault = x.1
      by status.WriteFault x no_done no_fault = absurd (no_fault refl)
      by status.NoMemory x no_done no_fault = x.1
      by (status.Schedule line) x no_done no_fault = x.1
      by (status.TooLong w) x no_done no_fault = x.1
      by (status.Illegal line) x no_done no_fault = x.1
