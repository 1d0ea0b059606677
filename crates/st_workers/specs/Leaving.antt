-- The worker of a message that ends becomes idle, unless it is ready.
use Rattle.std.specs.Prelude.{◌≡◌, ◌==◌, ℕ, Bool, true, false, if◌then◌else◌, List, Option, Some, None}
use Rattle.st_base.specs.Numbered.{item_at_number}
use Rattle.st_messages.specs.declared.message.MsgState.{MsgState}
use Rattle.st_messages.specs.declared.message.MsgState.TheVariants.{Waiting, Claimed, Answered, Faulted}
use Rattle.st_workers.specs.declared.turn.Turn.{Turn}
use Rattle.st_workers.specs.declared.turn.Turn.TheVariants.{Idle, Working, Ready}

-- whether a message is claimed by this worker
abbrev pub is_claimed_by : Option MsgState → ℕ → Bool
is_claimed_by None worker = false
is_claimed_by (Some Waiting) worker = false
is_claimed_by (Some (Claimed its)) worker = its == worker
is_claimed_by (Some (Answered verdict)) worker = false
is_claimed_by (Some (Faulted errno)) worker = false

-- a worker that is ready stays ready, and any other is idle
abbrev pub left : Option Turn → Option Turn
left None = None
left (Some Idle) = Some Idle
left (Some (Working drawing)) = Some Idle
left (Some (Ready q copies)) = Some (Ready q copies)

-- the worker of a message has left it, and the turn of each other worker is unchanged
abbrev pub HasLeft : List Turn → Option MsgState → List Turn → Type 0
HasLeft old state new = (worker : ℕ) → item_at_number new worker ≡ (if is_claimed_by state worker then left (item_at_number old worker) else item_at_number old worker)

-- whether a worker with this turn is ready
abbrev pub is_ready_turn : Option Turn → Bool
is_ready_turn None = false
is_ready_turn (Some Idle) = false
is_ready_turn (Some (Working drawing)) = false
is_ready_turn (Some (Ready q copies)) = true

-- whether the worker that claimed a message of this state is ready
abbrev pub is_claimer_ready : List Turn → Option MsgState → Bool
is_claimer_ready turns None = false
is_claimer_ready turns (Some Waiting) = false
is_claimer_ready turns (Some (Claimed worker)) = is_ready_turn (item_at_number turns worker)
is_claimer_ready turns (Some (Answered verdict)) = false
is_claimer_ready turns (Some (Faulted errno)) = false
