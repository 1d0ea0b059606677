-- When a thread or a worker can go on.
use Rattle.std.specs.Prelude.{Bool, true, false, Option, Some, None}
use Rattle.st_messages.specs.declared.message.MsgState.{MsgState}
use Rattle.st_messages.specs.declared.message.MsgState.TheVariants.{Waiting, Claimed, Answered, Faulted}
use Rattle.st_workers.specs.declared.task.Task.{Task}
use Rattle.st_workers.specs.declared.task.Task.TheVariants.{Rest, Claim, Copy, Look as LookAt, Fault, Answer}

-- whether a message was faulted or answered
abbrev pub is_faulted_or_answered : Option MsgState → Bool
is_faulted_or_answered None = false
is_faulted_or_answered (Some Waiting) = false
is_faulted_or_answered (Some (Claimed worker)) = false
is_faulted_or_answered (Some (Answered verdict)) = true
is_faulted_or_answered (Some (Faulted errno)) = true

-- whether a worker has something to do
abbrev pub is_work : Task → Bool
is_work Rest = false
is_work Claim = true
is_work (Copy drawing pid part place) = true
is_work (LookAt drawing part) = true
is_work (Fault drawing errno) = true
is_work Answer = true
