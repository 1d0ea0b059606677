-- The messages under way by their drawings, and the turns of the workers.
use Rattle.std.specs.Prelude.{ℕ, List, Option}
use Rattle.st_base.specs.Numbered.{item_at_number}
use Rattle.st_lookaside.specs.Slot.{Slot}
use Rattle.st_lookaside.specs.Slots.{slot_at}
use Rattle.st_messages.specs.declared.message.MsgState.{MsgState}
use Rattle.st_messages.specs.Messages.{HeldCalls, message_state, thread_of_drawing}
use Rattle.st_workers.specs.declared.turn.Turn.{Turn}

-- the held calls, what is copied and seen for each, and the turns of the workers in the order of their numbers
pub record UnderWay : Type 0 where
  pub calls : HeldCalls
  pub slots : List Slot
  pub turns : List Turn

-- the turn of a worker
abbrev pub turn_of_worker : UnderWay → ℕ → Option Turn
turn_of_worker kept worker = item_at_number kept.turns worker

-- what is found of each drawing and of each worker, and the drawing of the next message
pub record Found : Type 0 where
  pub next : ℕ
  pub state : ℕ → Option MsgState
  pub thread : ℕ → Option ℕ
  pub slot : ℕ → Option Slot
  pub turn : ℕ → Option Turn

-- what is found in the messages and workers that are kept
abbrev pub found_in : UnderWay → Found
found_in kept = record {
  next = kept.calls.next;
  state = message_state kept.calls;
  thread = thread_of_drawing kept.calls;
  slot = slot_at kept.slots;
  turn = turn_of_worker kept;
}
