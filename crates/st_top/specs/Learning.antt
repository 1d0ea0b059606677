-- The policies that are written of a run that learns permit what the run has made.
use Rattle.std.specs.Prelude.{◌≡◌, ℕ, List, ◌∷◌, ◌++◌, Some, reverse}
use Rattle.st_base.specs.declared.ids.Ids.{Ids}
use Rattle.st_calls.specs.declared.argument.ArgText.{ArgText}
use Rattle.st_calls.specs.declared.call.SysCall.{SysCall}
use Rattle.st_filter.specs.declared.set.BinaryPolicy.{BinaryPolicy}
use Rattle.st_trace.specs.declared.entry.CallResult.{CallResult}
use Rattle.st_trace.specs.declared.entry.Change.{Change}
use Rattle.st_trace.specs.declared.entry.Choice.{Choice}
use Rattle.st_trace.specs.declared.entry.Entry.TheVariants.{Used}
use Rattle.st_law.specs.declared.input.Input.{Input}
use Rattle.st_law.specs.History.{looking_back}
use Rattle.st_law.specs.Machine.{run}
use Rattle.st_law.specs.Threads.{History}
use Rattle.st_learn.specs.Learnt.{learnt_in}
use Rattle.st_learn.specs.Permitted.{IsPermittedBy}

-- the policies after the run by these choices: those in force, with what the run has added
abbrev pub policies_after : Input → List Choice → List BinaryPolicy
policies_after i choices = learnt_in i (looking_back i (reverse (run i choices)))

-- each held call that was made is permitted by these policies alone, under the ids that it was made under
abbrev pub PermitsWhatWasMade : Input → List BinaryPolicy → History → Type 0
PermitsWhatWasMade i policies h =
    (later earlier : History) (t q : ℕ) (call : SysCall) (regs : List ℕ) (args : List ArgText) (ids : Ids) (result : CallResult) (changes : List Change) →
    h ≡ later ++ Used t (Some q) call regs args ids result changes ∷ earlier → IsPermittedBy policies (looking_back i earlier) q ids
