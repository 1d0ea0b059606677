-- The entry that each step of a thread adds.
use Rattle.std.specs.Prelude.{ℕ, true, false, Option, Some, None}
use Rattle.st_effects.specs.Effect.{effect}
use Rattle.st_trace.specs.declared.entry.Entry.{Entry}
use Rattle.st_trace.specs.declared.entry.Entry.TheVariants.{Stored, Denied, Ended}
use Rattle.st_law.specs.declared.input.Input.{Input}
use Rattle.st_law.specs.Machine.{entered_entry, failed_entry, reloaded_entry, used_entry}
use Rattle.st_law.specs.State.{State, request_of, system_of}
use Rattle.st_decide.specs.declared.step.Step.{Step}
use Rattle.st_decide.specs.declared.step.Step.TheVariants.{Wait, End, Store, Enter, Make, Fail, Deny, Reload, RefuseReload}
use Rattle.st_decide.specs.declared.step.ReadyCall.{ReadyCall}

-- the entry of a call that is made, with its outcome over the current system
abbrev pub use_entry : Input → State → ℕ → ReadyCall → Entry
use_entry i st t ready = used_entry t ready.drawing ready.call ready.regs ready.args ready.ids (effect (system_of i st) ready.call (request_of i st t ready.regs ready.args ready.ids))

-- the entry of a step of thread t; none if it waits
abbrev pub step_entry : Input → State → ℕ → Step → Option Entry
step_entry i st t Wait = None
step_entry i st t End = Some (Ended t)
step_entry i st t (Store stored) = Some (Stored t stored.place stored.word)
step_entry i st t (Enter new) = entered_entry i st t new.call new.regs
step_entry i st t (Make ready) = Some (use_entry i st t ready)
step_entry i st t (Fail failed) = Some (failed_entry t failed.call failed.regs failed.ids failed.errno)
step_entry i st t (Deny denied) = Some (Denied t denied.drawing denied.errno denied.cause)
step_entry i st t (Reload policy) = Some (reloaded_entry i st t policy true)
step_entry i st t (RefuseReload policy) = Some (reloaded_entry i st t policy false)
