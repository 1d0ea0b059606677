-- A call that takes effect has the changes of its effect; one that fails before has none.
use Rattle.std.proofs.Common.{ℕ, List, Option, Some, None, sym, subst}
use Rattle.st_base.specs.declared.errno.Errno.{Errno}
use Rattle.st_base.specs.declared.ids.Ids.{Ids}
use Rattle.st_calls.specs.declared.argument.ArgText.{ArgText}
use Rattle.st_calls.specs.declared.call.SysCall.{SysCall}
use Rattle.st_names.specs.Name.{Components}
use Rattle.st_effects.specs.Progress.{Progress, Word, Look, Stuck, Ready}
use Rattle.st_trace.specs.declared.entry.CallResult.{CallResult}
use Rattle.st_trace.specs.declared.entry.Change.{Change}
use Rattle.st_law.specs.declared.input.Input.{Input}
use Rattle.st_law.specs.Lawful.{IsEffect, IsFailure, IsUnheldOutcome, IsUnlinkedOutcome, IsUsed}
use Rattle.st_law.specs.State.{State, system_of, request_of, arguments_now, link_now}
use Rattle.st_law.proofs.Shapes.{Shape, quiet, shape_of}

module _ (i : Input) (st : State) (u : ℕ) (call : SysCall) (regs : List ℕ) (args : List ArgText) (ids : Ids) (result : CallResult) (changes : List Change) where
  abbrev Shaped : List Change → Type 0
  Shaped made = Shape (system_of i st) (request_of i st u regs args ids) call made

  effect_shape : IsEffect i st u call regs ids args result changes → Shaped changes
  effect_shape x = subst Shaped (sym x.changes_are) (shape_of (system_of i st) (request_of i st u regs args ids) call)

  failure_shape : (errno : Errno) → IsFailure errno args result changes → Shaped changes
  failure_shape errno x = subst Shaped (sym x.changes_are) (quiet tt)

  unlinked_shape : (found : List ArgText) (o : Option Components) → IsUnlinkedOutcome i st u call regs ids found o args result changes → Shaped changes
  unlinked_shape found (Some name) x = failure_shape _ x
  unlinked_shape found None x = effect_shape x.1

  unheld_shape : (pr : Progress) → IsUnheldOutcome i st u call regs ids pr args result changes → Shaped changes
  unheld_shape (Word part place) x = absurd x
  unheld_shape (Look part name) x = absurd x
  unheld_shape (Stuck errno) x = failure_shape errno x
  unheld_shape (Ready found) x = unlinked_shape found (link_now i st call regs found) x

  pub used_shape : (seq : Option ℕ) → IsUsed i st u seq call regs args ids result changes → Shape (system_of i st) (request_of i st u regs args ids) call changes
  used_shape None x = unheld_shape (arguments_now i st u call regs) x.outcome
  used_shape (Some q) x = effect_shape x.outcome
