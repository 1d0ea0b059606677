-- How a message asks for its arguments.
use Rattle.st_effects.specs.Progress.{ArgRequest}
use Rattle.st_lookaside.specs.declared.head.Head.{Head}

-- the request for a message's arguments
abbrev pub arg_request : Head → ArgRequest
arg_request head = record { rule = head.rule; call = head.call; regs = head.regs; cwd = head.cwd }
