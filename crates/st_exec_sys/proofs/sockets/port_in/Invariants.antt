use Rattle.std.proofs.Common.{◌≡◌, ◌^◌, ◌-◌, min, take}
use Rattle.st_effects.specs.Sockets.{port_in}
use Rattle.st_exec_sys.proofs.sockets.port_in.Given as goal

abbrev pub invariant-loop-byte : goal.invariant-loop-byte
invariant-loop-byte l = l.port ≡ min (port_in (take l.byte-index l.address)) (2 ^ 64 - 1)
