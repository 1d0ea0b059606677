-- The messages of the calls that threads hold, in the machine that runs.
use Rattle.std.specs.Prelude.{ℕ, Bool, true, false, ◌&&◌, Option, Some, None, option_map}
use Rattle.std.specs.Str.{bytes_eq}
use Rattle.st_base.specs.Numbered.{item_at_number}
use Rattle.st_calls.specs.Rules.{same_rule}
use Rattle.st_lookaside.specs.Slot.{Slot}
use Rattle.st_lookaside.specs.Slots.{slot_at}
use Rattle.st_lookaside.specs.declared.head.Head.{Head}
use Rattle.st_decide.specs.Machine.{Running}
use Rattle.st_threads.specs.Thread.{ThreadRow, drawing_held}

-- the message of a drawing, if the drawing is live
abbrev pub held_head : Running → ℕ → Option Head
held_head m drawing = option_map (λ (slot : Slot). slot.head) (slot_at m.workers.slots drawing)

-- the message of an optional drawing
abbrev pub message_of : Running → Option ℕ → Option Head
message_of m None = None
message_of m (Some drawing) = held_head m drawing

-- the drawing of the call that a thread holds, by its row
abbrev pub held_drawing : Option ThreadRow → Option ℕ
held_drawing None = None
held_drawing (Some row) = drawing_held row

-- the message of the call that a thread holds
abbrev pub message_held : Running → ℕ → Option Head
message_held m tid = message_of m (held_drawing (item_at_number m.threads tid))

-- whether a message has the same policy and rule as another
abbrev pub is_same_rule : Head → Option Head → Bool
is_same_rule head None = false
is_same_rule head (Some other) = bytes_eq head.policy other.policy && same_rule head.rule other.rule

-- whether a thread holds a call of the same policy and rule as a message; true of each thread if the message isn't known
abbrev pub is_held_alike : Running → Option Head → ℕ → Bool
is_held_alike m None tid = true
is_held_alike m (Some head) tid = is_same_rule head (message_held m tid)
