-- The policies that are written of a run that learns permit what the run has made.
use Rattle.std.proofs.Common.{◌≡◌, ◌∙◌, [], ◌∷◌, ◌++◌, ℕ, List, Some, reverse, ap, sym, subst}
use Rattle.st_base.specs.declared.ids.Ids.{Ids}
use Rattle.st_calls.specs.declared.argument.ArgText.{ArgText}
use Rattle.st_calls.specs.declared.call.SysCall.{SysCall}
use Rattle.st_law.specs.History.{looking_back}
use Rattle.st_law.specs.Lawful.{IsLawfulBack}
use Rattle.st_law.specs.Machine.{run}
use Rattle.st_law.specs.Threads.{History}
use Rattle.st_law.specs.Versions.{version_at}
use Rattle.st_law.specs.declared.input.Input.{Input}
use Rattle.st_law.specs.declared.input.Mode.TheVariants.{Learn}
use Rattle.st_law.specs.declared.input.ReadSchedule.{ReadSchedule}
use Rattle.st_law.proofs.Laws.{run_lawful}
use Rattle.st_reached.proofs.NoReloads.{versions_while_learning}
use Rattle.st_learn.specs.Learnt.{HaveSameVersions, NoneAsks, NoneAsksInForce, learnt_in}
use Rattle.st_learn.specs.Permitted.{IsPermittedBy}
use Rattle.st_learn.proofs.Unasked.{unasked_as_read}
use Rattle.st_command.specs.Command.{StepWords}
use Rattle.st_command.specs.Reading.{IsWithinLimits}
use Rattle.st_command.specs.declared.command.Command.TheVariants.{Step}
use Rattle.st_reading.specs.Meaning.{Contents, Means, Runs}
use Rattle.st_trace.specs.declared.entry.CallResult.{CallResult}
use Rattle.st_trace.specs.declared.entry.Change.{Change}
use Rattle.st_trace.specs.declared.entry.Choice.{Choice}
use Rattle.st_trace.specs.declared.entry.Entry.{Entry}
use Rattle.st_trace.specs.declared.entry.Entry.TheVariants.{Used}
use Rattle.st_top.specs.Learning.{PermitsWhatWasMade, policies_after}
use Rattle.st_reading.proofs.Runnable.{AllRunnable, can_run}

-- if no filter in force asks, the calls that a lawful history has made since the last reload are permitted by what it has learnt
abbrev pub LearntPermits : Type 0
LearntPermits = (i : Input) → (later earlier : History) (t q : ℕ) (call : SysCall) (regs : List ℕ) (args : List ArgText) (ids : Ids) (result : CallResult) (changes : List Change) →
    NoneAsksInForce i.policies (looking_back i (later ++ Used t (Some q) call regs args ids result changes ∷ earlier)).versions → HaveSameVersions (looking_back i earlier) (looking_back i (later ++ Used t (Some q) call regs args ids result changes ∷ earlier)) →
    IsLawfulBack i (later ++ Used t (Some q) call regs args ids result changes ∷ earlier) →
    IsPermittedBy (learnt_in i (looking_back i (later ++ Used t (Some q) call regs args ids result changes ∷ earlier))) (looking_back i earlier) q ids

module _ (runnable : AllRunnable) (learnt : LearntPermits) (contents : Contents) (step : StepWords) (i : Input) (schedule : ReadSchedule) (limits : IsWithinLimits (Step step)) (learns : step.options.mode ≡ Learn)
    (meant : Means contents (Step step) (Runs i schedule)) where
  asks_nothing : NoneAsks i.policies.read
  asks_nothing = let x = runnable contents step i schedule meant in subst (λ (other : Input). NoneAsks other.policies.read) (sym x.input_is) (x.unasked learns)

  learning : i.options.mode ≡ Learn
  learning = let x = runnable contents step i schedule meant in ap (λ (other : Input). other.options.mode) x.input_is ∙ learns

  pub permits_what_was_made : (choices : List Choice) → PermitsWhatWasMade i (policies_after i choices) (reverse (run i choices))
  permits_what_was_made choices later earlier t q call regs args ids result changes is =
      let startable = (can_run runnable contents (Step step) i schedule limits meant).startable in
      let made : Entry = Used t (Some q) call regs args ids result changes in
      let lawful : IsLawfulBack i (later ++ made ∷ earlier) = subst (IsLawfulBack i) is (run_lawful i startable choices) in
      let now : (binary : List ℕ) → version_at i (later ++ made ∷ earlier) binary ≡ 0 = versions_while_learning i startable learning [] (later ++ made ∷ earlier) lawful in
      let before : (binary : List ℕ) → version_at i (made ∷ earlier) binary ≡ 0 = versions_while_learning i startable learning later (made ∷ earlier) lawful in
      subst (λ (h : History). IsPermittedBy (learnt_in i (looking_back i h)) (looking_back i earlier) q ids) (sym is)
      (learnt i later earlier t q call regs args ids result changes
      (unasked_as_read i.policies (version_at i (later ++ made ∷ earlier)) asks_nothing now) (λ binary. now binary ∙ sym (before binary)) lawful)
