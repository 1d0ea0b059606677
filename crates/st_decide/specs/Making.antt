-- The requests with which calls are made.
use Rattle.std.specs.Prelude.{ℕ, Option, Some, None}
use Rattle.st_base.specs.Numbered.{item_at_number}
use Rattle.st_effects.specs.System.{Request}
use Rattle.st_law.specs.State.{child_of_pending}
use Rattle.st_decide.specs.Machine.{Running}
use Rattle.st_threads.specs.Thread.{ThreadRow}
use Rattle.st_decide.specs.declared.step.ReadyCall.{ReadyCall}

-- the thread that a thread's pending call starts; 0 without a row
abbrev pub child_of_row : Option ThreadRow → ℕ
child_of_row None = 0
child_of_row (Some row) = child_of_pending row.pending

-- the request of a thread that makes its call
abbrev pub request_with : Running → ℕ → ReadyCall → Request
request_with m t ready = record {
  tid = t;
  pid = ready.pid;
  ids = ready.ids;
  regs = ready.regs;
  args = ready.args;
  child = child_of_row (item_at_number m.threads t);
  inherit = m.input.options.inherit;
}
