-- What is printed of a run by threads, and what is prepared for writing.
use Rattle.std.proofs.Common.{◌≡◌, ◌≢◌, ◌∙◌, ℕ, Bool, true, false, List, reverse, Some, None, Result, Ok, Err, inl, inr, refl, sym, subst}
use Rattle.std.proofs.Math.Logic.{∥∥₁_elim}
use Rattle.std.specs.Coded.{Coded-set, coded_list, coded_ℕ}
use Rattle.std.specs.Result.{IsErr, IsErrAnd}
use Rattle.st_law.specs.Inputs.{IsStartable}
use Rattle.st_law.specs.Machine.{IsEnabled, IsSettled, history, state_of_run}
use Rattle.st_law.specs.Threads.{has_ended_at, owner_at}
use Rattle.st_law.specs.declared.input.Input.{Input}
use Rattle.st_law.proofs.Laws.{run_lawful}
use Rattle.st_reached.proofs.NumbersBack.{run_by_number}
use Rattle.st_command.specs.Command.{RunWords}
use Rattle.st_command.specs.Words.{Word}
use Rattle.st_command.specs.declared.given.Print.{Print}
use Rattle.st_emulation.specs.declared.emulation.Emulation.{Emulation}
use Rattle.st_kernel.specs.Kernel.{IsPlayed, RunSoFar, state_in}
use Rattle.st_reading.specs.Ends.{AreAskedTo, RefusesFiles}
use Rattle.st_reading.specs.Meaning.{Contents}
use Rattle.st_reading.specs.RunMeaning.{MeansRun, run_names_to, starts}
use Rattle.st_reading.specs.declared.refusal.Refusal.{Refusal}
use Rattle.st_reading.specs.declared.refusal.Refusal.TheVariants as refusal
use Rattle.st_reading.specs.declared.refusal.Which.TheVariants as which
use Rattle.st_trace.specs.declared.entry.Choice.{Choice}
use Rattle.st_top.specs.Outcome.{printed, status_of}
use Rattle.st_top.specs.RunEnds.{HaveAllEnded, IsWholeRun, PreparesRun, RefusesRun, ThreadsShow}
use Rattle.st_top.specs.declared.status.Status.{Status}
use Rattle.st_top.specs.declared.status.Status.TheVariants as status

-- ---- whole runs

-- as long as some started thread hasn't ended, some choice is enabled
abbrev pub SomeChoiceIsEnabled : Type 0
SomeChoiceIsEnabled =
    (i : Input) → IsStartable i → (choices : List Choice) (t : ℕ) → owner_at i (history i (reverse choices)) t ≢ 0 → has_ended_at (history i (reverse choices)) t ≡ false → (c : Choice) × IsEnabled i (state_of_run i choices) c

module _ (law : SomeChoiceIsEnabled) (new : RunSoFar) (played : IsPlayed new) (settled : IsSettled new.input (state_in new)) where
  all_ended : HaveAllEnded new.input new.choices
  all_ended t started = by (has_ended_at (history new.input (reverse new.choices)) t) refl
    where
      by : (b : Bool) → has_ended_at (history new.input (reverse new.choices)) t ≡ b → has_ended_at (history new.input (reverse new.choices)) t ≡ true
      by true e = e
      by false e =
          let x = law new.input played.startable new.choices t started e in
          let clash : None ≡ Some x.1.0 = sym (settled x.0) ∙ x.1.1 in
          absurd (cc)

  pub whole : IsWholeRun new.input new.choices
  whole = record {
    enabled = played.enabled;
    lawful = run_lawful new.input played.startable new.choices;
    by_number = run_by_number new.input played.startable new.choices;
    settled = settled;
    ended = all_ended;
  }

-- the text that is asked for is printed, and the choices are returned
pub threads_show : (print : Print) (emulation : Emulation) (i : Input) (new : RunSoFar) (text : List ℕ) (choices : List Choice) → IsWholeRun new.input new.choices → new.input ≡ i → choices ≡ new.choices → text ≡ printed print new.input new.choices emulation →
    ThreadsShow print i emulation (Ok (text, choices))
threads_show print emulation i new text choices whole_run same made is =
    subst (λ (cs : List Choice). ThreadsShow print i emulation (Ok (text, cs))) (sym made) (subst (λ (j : Input). ThreadsShow print j emulation (Ok (text, new.choices))) same (whole_run, is))

-- if memory runs out, nothing more is required
pub threads_out_of_memory : (print : Print) (i : Input) (emulation : Emulation) (result : Result (List ℕ × List Choice) Status) → IsErr result → IsErrAnd result (λ s. s ≡ status.NoMemory) → ThreadsShow print i emulation result
threads_out_of_memory print i emulation (Ok made) failed same = cc
threads_out_of_memory print i emulation (Err s) failed same = same

-- what holds of a text of every record of a run, holds of the text of a record that there is
pub merely_same : {P : Type 0} (text other : List ℕ) → ∥ P ∥₁ → (P → text ≡ other) → text ≡ other
merely_same text other there is = ∥∥₁_elim there (Coded-set (coded_list coded_ℕ) text other) is

-- ---- what is prepared

-- an error that is passed on as this status
pub passed_on : {A : Type 0} (P : Result A Status → Type 0) (s : Status) (r : Result A Status) → IsErr r → IsErrAnd r (λ e. e ≡ s) → P (Err s) → P r
passed_on P s (Ok made) failed same p = cc
passed_on P s (Err e) failed same p = subst (λ (end : Status). P (Err end)) (sym same) p

-- a refusal of the reader is a refusal of `run`
pub refused_run : (contents : Contents) (threaded : RunWords) (faults faults_after : ℕ) (old new : List Word) (refused : Refusal) →
    RefusesFiles contents (MeansRun contents threaded) (run_names_to threaded) faults faults_after old new refused → RefusesRun contents threaded faults faults_after old new (status_of refused)
refused_run contents threaded faults faults_after old new (refusal.Missing w) x = x
refused_run contents threaded faults faults_after old new (refusal.TooLong w) x = x
refused_run contents threaded faults faults_after old new refusal.ReadFault x = x
refused_run contents threaded faults faults_after old new (refusal.Script fault) x = x
refused_run contents threaded faults faults_after old new (refusal.Policy n fault) x = x
refused_run contents threaded faults faults_after old new refusal.NoMemory x = inl x

-- an input was read, and its run by threads was printed, or memory ran out
pub threads_ready : (contents : Contents) (threaded : RunWords) (faults faults_after : ℕ) (old new : List Word) (input : Input) → MeansRun contents threaded (starts input) → AreAskedTo (run_names_to threaded) which.Schedule old new →
    (result : Result (List ℕ × List Choice) Status) → ThreadsShow threaded.print input threaded.emulation result → PreparesRun contents threaded faults faults_after old new result
threads_ready contents threaded faults faults_after old new input meant asked (Ok made) x = (record { input = input; meant = meant; whole = x.0; text_is = x.1 }, asked)
threads_ready contents threaded faults faults_after old new input meant asked (Err s) x =
    subst (RefusesRun contents threaded faults faults_after old new) (sym x) (inr (record { input = input; meant = meant }, asked))
