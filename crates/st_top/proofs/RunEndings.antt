-- What the end of `run` says of its words, one contract clause after the other.
use Rattle.std.proofs.Common.{◌≡◌, ◌≢◌, ◌⊎◌, ℕ, inl, inr, false, List, [], ◌++◌, Option, Some, None, Result, Ok, Err, refl, sym, ap, ◌∙◌, subst}
use Rattle.std.proofs.lemmas.Option.{same_Some}
use Rattle.st_outside.specs.Count.{HasRisen}
use Rattle.st_outside.specs.Sink.{Appends, AppendsPrefix}
use Rattle.st_trace.specs.declared.entry.Choice.{Choice}
use Rattle.st_law.specs.declared.input.Input.{Input}
use Rattle.st_law.specs.Lawful.{Lawful}
use Rattle.st_law.specs.Machine.{run}
use Rattle.st_law.specs.Numbers.{IsLawfulByNumber, numbered}
use Rattle.st_grammar.specs.declared.fault.PolicyRefusal.{PolicyRefusal}
use Rattle.st_script_faults.specs.declared.fault.ScriptFault.{ScriptFault}
use Rattle.st_command.specs.Command.{RunWords}
use Rattle.st_command.specs.Reading.{run_of_words}
use Rattle.st_command.specs.Words.{Word}
use Rattle.st_reading.specs.Meaning as meaning
use Rattle.st_reading.specs.Meaning.{AreFilesKnown, Contents, Meaning, Refuses, Stops}
use Rattle.st_reading.specs.RunMeaning.{MeansRun, run_input, starts}
use Rattle.st_reading.specs.declared.refusal.Refusal.TheVariants as refusal
use Rattle.st_reading.specs.declared.refusal.Which.{Which}
use Rattle.st_reading.specs.declared.refusal.Which.TheVariants as which
use Rattle.st_reading.specs.Runnable.{StartsNatively}
use Rattle.st_reading.proofs.RunMeanings.{run_one, run_starts}
use Rattle.st_top.specs.Ends.{EndsAs}
use Rattle.st_top.specs.Outcome.{CommandOutcome, is_stop, printed}
use Rattle.st_top.specs.RunEnds.{EndsRun, IsMeantOfThreads, IsOfThreads, IsWholeRun, PreparesRun, RefusesRun, RunHasOutcome, RunMeansUpTo, RunWantsMemory, WritesMade, run_names_asked, run_outcome}
use Rattle.st_top.specs.declared.ended.Ended.{Ended}
use Rattle.st_top.specs.declared.status.Status.{Status}
use Rattle.st_top.specs.declared.status.Status.TheVariants as status

-- ---- what was prepared is written

module _ (contents : Contents) (threaded : RunWords) (faults faults_after : ℕ) (asked asked_after : List Word) (sink sink_after : ℕ) (old new : Option (List ℕ)) where
  abbrev pub EndsSo : List Choice → Status → Type 0
  EndsSo choices end = EndsRun contents threaded faults faults_after asked asked_after sink sink_after old new choices end

  -- a refusal ends the call, with nothing written and no choice
  refusal_ends : (end : Status) → RefusesRun contents threaded faults faults_after asked asked_after end → new ≡ old → EndsSo [] end
  refusal_ends status.Done x same = absurd x
  refusal_ends (status.Missing w) x same = ((x, same), refl)
  refusal_ends status.Usage x same = absurd x
  refusal_ends (status.Policy n fault) x same = ((x, same), refl)
  refusal_ends (status.Script fault) x same = ((x, same), refl)
  refusal_ends status.ReadFault x same = ((x, same), refl)
  refusal_ends status.WriteFault x same = absurd x
  refusal_ends status.NoMemory x same = ((x, same), refl)
  refusal_ends (status.Schedule line) x same = absurd x
  refusal_ends (status.TooLong w) x same = ((x, same), refl)
  refusal_ends (status.Illegal line) x same = absurd x

  ends_so : (ended : Ended) (choices : List Choice) (end : Status) → ended.status ≡ end → ended.schedule ≡ choices → EndsSo choices end → EndsSo ended.schedule ended.status
  ends_so ended choices end is made x = subst (EndsSo ended.schedule) (sym is) (subst (λ (cs : List Choice). EndsSo cs end) (sym made) x)

  -- so the call ends as what was prepared says
  pub run_ends : (prepared : Result (List ℕ × List Choice) Status) (ended : Ended) → PreparesRun contents threaded faults faults_after asked asked_after prepared → WritesMade prepared sink sink_after old new ended → EndsSo ended.schedule ended.status
  run_ends (Ok made) ended p (inl w) = ends_so ended made.1 status.Done w.0 w.1 ((made.0, p.0, w.2), p.1)
  run_ends (Ok made) ended p (inr w) = ends_so ended [] status.WriteFault w.0 w.1 ((w.2, (made.1, made.0, p.0, w.3), p.1), refl)
  run_ends (Err refused) ended p w = ends_so ended [] refused w.0 w.1 (refusal_ends refused p w.2)

-- ---- what the end says of the words

module _ (words : List Word) (contents : Contents) (threaded : RunWords) (faults faults_after : ℕ) (asked asked_after : List Word) (sink sink_after : ℕ) (old new : Option (List ℕ)) (prepared : Result (List ℕ × List Choice) Status) (ended : Ended)
    (spelled : run_of_words words ≡ Some threaded) (prepares : PreparesRun contents threaded faults faults_after asked asked_after prepared) (written : WritesMade prepared sink sink_after old new ended) where
  ends : EndsRun contents threaded faults faults_after asked asked_after sink sink_after old new ended.schedule ended.status
  ends = run_ends contents threaded faults faults_after asked asked_after sink sink_after old new prepared ended prepares written

  -- the end of the call, given its status
  of : (other : Status) → ended.status ≡ other → EndsRun contents threaded faults faults_after asked asked_after sink sink_after old new ended.schedule other
  of other is = subst (EndsRun contents threaded faults faults_after asked asked_after sink sink_after old new ended.schedule) is ends

  -- words spell one `run` only
  same : (other : RunWords) → run_of_words words ≡ Some other → threaded ≡ other
  same other is = same_Some threaded other (sym spelled ∙ is)

  pub threads_written : ended.status ≡ status.Done → (other : RunWords) → run_of_words words ≡ Some other →
      (input : Input) × MeansRun contents other (starts input) × StartsNatively contents (run_input other) input × IsWholeRun input ended.schedule × Lawful input (run input ended.schedule) × IsLawfulByNumber input (numbered input (run input ended.schedule)) × Appends old new (printed other.print input ended.schedule other.emulation)
  threads_written is other spells =
      let x = (of status.Done is).0 in
      let m = subst (λ (r : RunWords). IsOfThreads contents r ended.schedule x.0) (same other spells) x.1 in
      (m.input, m.meant, run_starts contents other m.input m.meant, m.whole, m.whole.lawful, m.whole.by_number, subst (Appends old new) m.text_is x.2)

  pub some_run : run_of_words words ≢ None
  some_run none = by (sym spelled ∙ none)
    where
      by : Some threaded ≡ None → ⊥
      by e = cc

  pub is_missing : (w : Which) → ended.status ≡ status.Missing w → RunMeansUpTo words contents (Refuses (refusal.Missing w)) w asked asked_after
  is_missing w is = let x = (of (status.Missing w) is).0.0 in record { threaded = threaded; spelled = spelled; meant = x.0; asked = x.1 }

  pub is_too_long : (w : Which) → ended.status ≡ status.TooLong w → RunMeansUpTo words contents (Refuses (refusal.TooLong w)) w asked asked_after
  is_too_long w is = let x = (of (status.TooLong w) is).0.0 in record { threaded = threaded; spelled = spelled; meant = x.0; asked = x.1 }

  pub script_refused : (fault : ScriptFault) → ended.status ≡ status.Script fault → RunMeansUpTo words contents (Refuses (refusal.Script fault)) which.Script asked asked_after
  script_refused fault is = let x = (of (status.Script fault) is).0.0 in record { threaded = threaded; spelled = spelled; meant = x.0; asked = x.1 }

  pub policy_refused : (n : ℕ) (fault : PolicyRefusal) → ended.status ≡ status.Policy n fault → RunMeansUpTo words contents (Refuses (refusal.Policy n fault)) (which.Policy n) asked asked_after
  policy_refused n fault is = let x = (of (status.Policy n fault) is).0.0 in record { threaded = threaded; spelled = spelled; meant = x.0; asked = x.1 }

  pub no_bad_line : (line : ℕ) → ended.status ≢ status.Schedule line
  no_bad_line line is = (of (status.Schedule line) is).0.0

  pub no_illegal_line : (line : ℕ) → ended.status ≢ status.Illegal line
  no_illegal_line line is = (of (status.Illegal line) is).0.0

  pub unreadable : ended.status ≡ status.ReadFault → HasRisen faults faults_after × ((w : Which) × RunMeansUpTo words contents (Stops w) w asked asked_after)
  unreadable is = let x = (of status.ReadFault is).0.0 in (x.0, (x.1.0, record { threaded = threaded; spelled = spelled; meant = x.1.1.meant; asked = x.1.1.asked }))

  pub unwritable : ended.status ≡ status.WriteFault → HasRisen sink sink_after × ((text : List ℕ) × IsMeantOfThreads words contents text × AppendsPrefix old new text)
  unwritable is = let x = (of status.WriteFault is).0 in let y = x.1 in (x.0, (y.1, record { threaded = threaded; spelled = spelled; choices = y.0; meant = y.2 }, y.3))

  pub memory_wanting : ended.status ≡ status.NoMemory → RunWantsMemory contents (run_of_words words) asked asked_after
  memory_wanting is = subst (λ (o : Option RunWords). RunWantsMemory contents o asked asked_after) (sym spelled) (of status.NoMemory is).0.0

  pub not_usage : ended.status ≡ status.Usage → (run_of_words words ≡ None) × (asked_after ≡ asked)
  not_usage is = absurd (of status.Usage is).0.0

  pub all_asked : (ended.status ≡ status.Done) ⊎ (ended.status ≡ status.WriteFault) → asked_after ≡ asked ++ run_names_asked (run_of_words words)
  all_asked ended_so = subst (λ (o : Option RunWords). asked_after ≡ asked ++ run_names_asked o) (sym spelled) (by ended_so)
    where
      by : (ended.status ≡ status.Done) ⊎ (ended.status ≡ status.WriteFault) → asked_after ≡ asked ++ run_names_asked (Some threaded)
      by (inl is) = (of status.Done is).1
      by (inr is) = (of status.WriteFault is).0.2

  pub nothing_returned : ended.status ≢ status.Done → ended.schedule ≡ []
  nothing_returned not_done = by ended.status ends not_done
    where
      by : (other : Status) → EndsRun contents threaded faults faults_after asked asked_after sink sink_after old new ended.schedule other → other ≢ status.Done → ended.schedule ≡ []
      by status.Done x no_done = absurd (no_done refl)
      by (status.Missing w) x no_done = x.1
      by status.Usage x no_done = x.1
      by (status.Policy n fault) x no_done = x.1
      by (status.Script fault) x no_done = x.1
      by status.ReadFault x no_done = x.1
      by status.WriteFault x no_done = x.1
      by status.NoMemory x no_done = x.1
      by (status.Schedule line) x no_done = x.1
      by (status.TooLong w) x no_done = x.1
      by (status.Illegal line) x no_done = x.1

  pub nothing_written : ended.status ≢ status.Done → ended.status ≢ status.WriteFault → new ≡ old
  nothing_written not_done not_failed = by ended.status ends not_done not_failed
    where
      by : (other : Status) → EndsRun contents threaded faults faults_after asked asked_after sink sink_after old new ended.schedule other → other ≢ status.Done → other ≢ status.WriteFault → new ≡ old
      by status.Done x no_done no_fault = absurd (no_done refl)
      by (status.Missing w) x no_done no_fault = x.0.1
      by status.Usage x no_done no_fault = x.0.1
      by (status.Policy n fault) x no_done no_fault = x.0.1
      by (status.Script fault) x no_done no_fault = x.0.1
      by status.ReadFault x no_done no_fault = x.0.1
      by status.WriteFault x no_done no_fault = absurd (no_fault refl)
      by status.NoMemory x no_done no_fault = x.0.1
      by (status.Schedule line) x no_done no_fault = x.0.1
      by (status.TooLong w) x no_done no_fault = x.0.1
      by (status.Illegal line) x no_done no_fault = x.0.1

  -- ---- its outcome

  -- what `run` means, unless memory runs out or a count rose
  meant_so : (other : Status) → EndsRun contents threaded faults faults_after asked asked_after sink sink_after old new ended.schedule other → (HasRisen faults faults_after → ⊥) → (HasRisen sink sink_after → ⊥) →
      (other ≡ status.NoMemory) ⊎ ((m : Meaning) × (meaning.is_stop m ≡ false) × MeansRun contents threaded m × EndsAs (run_outcome threaded.print ended.schedule m threaded.emulation) old new other)
  meant_so status.Done x quiet sink_quiet = inr (starts x.0.1.input, refl, x.0.1.meant, (refl, subst (Appends old new) x.0.1.text_is x.0.2))
  meant_so (status.Missing w) x quiet sink_quiet = inr (Refuses (refusal.Missing w), refl, x.0.0.0, refl)
  meant_so status.Usage x quiet sink_quiet = absurd x.0.0
  meant_so (status.Policy n fault) x quiet sink_quiet = inr (Refuses (refusal.Policy n fault), refl, x.0.0.0, refl)
  meant_so (status.Script fault) x quiet sink_quiet = inr (Refuses (refusal.Script fault), refl, x.0.0.0, refl)
  meant_so status.ReadFault x quiet sink_quiet = absurd (quiet x.0.0.0)
  meant_so status.WriteFault x quiet sink_quiet = absurd (sink_quiet x.0.0)
  meant_so status.NoMemory x quiet sink_quiet = inl refl
  meant_so (status.Schedule line) x quiet sink_quiet = absurd x.0.0
  meant_so (status.TooLong w) x quiet sink_quiet = inr (Refuses (refusal.TooLong w), refl, x.0.0.0, refl)
  meant_so (status.Illegal line) x quiet sink_quiet = absurd x.0.0

  goes_on : (m : Meaning) (o : CommandOutcome) → is_stop o ≡ false → o ≡ run_outcome threaded.print ended.schedule m threaded.emulation → meaning.is_stop m ≡ false
  goes_on (Stops w) o go is = let e = sym go ∙ ap is_stop is in absurd (cc)
  goes_on (Refuses r) o go is = refl
  goes_on (meaning.Runs i schedule) o go is = refl
  goes_on (meaning.Replays i trace) o go is = refl
  goes_on (meaning.Prints text) o go is = refl

  -- so the call ended with the outcome of its words, unless memory ran out
  pub run_ended_as : (HasRisen faults faults_after → ⊥) → (HasRisen sink sink_after → ⊥) → AreFilesKnown contents (run_names_asked (run_of_words words)) → (outcome : CommandOutcome) → is_stop outcome ≡ false →
      RunHasOutcome contents (run_of_words words) ended.schedule outcome → (ended.status ≡ status.NoMemory) ⊎ EndsAs outcome old new ended.status
  run_ended_as quiet sink_quiet known outcome go comes = by (meant_so ended.status ends quiet sink_quiet)
    where
      by : (ended.status ≡ status.NoMemory) ⊎ ((m : Meaning) × (meaning.is_stop m ≡ false) × MeansRun contents threaded m × EndsAs (run_outcome threaded.print ended.schedule m threaded.emulation) old new ended.status) → (ended.status ≡ status.NoMemory) ⊎ EndsAs outcome old new ended.status
      by (inl none) = inl none
      by (inr p) =
          let q = subst (λ (o : Option RunWords). RunHasOutcome contents o ended.schedule outcome) spelled comes in
          let known_here = subst (λ (o : Option RunWords). AreFilesKnown contents (run_names_asked o)) spelled known in
          let one : p.0 ≡ q.0 = run_one contents threaded known_here p.0 q.0 p.1 (goes_on q.0 outcome go q.2) p.2 q.1 in
          let is : run_outcome threaded.print ended.schedule p.0 threaded.emulation ≡ outcome = ap (λ (m : Meaning). run_outcome threaded.print ended.schedule m threaded.emulation) one ∙ sym q.2 in
          inr (subst (λ (o : CommandOutcome). EndsAs o old new ended.status) is p.3)

-- the outcome of words that spell no `run` is wrong usage, and the call ends with it
pub run_ended_unserved : (words : List Word) (contents : Contents) (old new : Option (List ℕ)) (choices : List Choice) (outcome : CommandOutcome) → run_of_words words ≡ None → RunHasOutcome contents (run_of_words words) choices outcome → EndsAs outcome old new status.Usage
run_ended_unserved words contents old new choices outcome none comes =
    subst (λ (o : CommandOutcome). EndsAs o old new status.Usage) (sym (subst (λ (o : Option RunWords). RunHasOutcome contents o choices outcome) none comes)) refl
