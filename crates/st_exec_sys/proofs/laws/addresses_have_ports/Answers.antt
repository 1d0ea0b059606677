use Rattle.std.proofs.Common.{arith}
use Rattle.std.specs.Int.{w64, to_le_bytes}
use Rattle.st_exec_sys.proofs.Ports.{port_of_address, two_bytes}
use Rattle.st_exec_sys.proofs.laws.addresses_have_ports.Goals as goal

pub returns-clause-port : goal.returns-clause-port
returns-clause-port c = λ word. let small = two_bytes word in port_of_address (to_le_bytes w64 word) (omega (arith, small))

pub returns-clause-small : goal.returns-clause-small
returns-clause-small c = λ word. let small = two_bytes word in let port = port_of_address (to_le_bytes w64 word) (omega (arith, small)) in omega (arith, small, port)
