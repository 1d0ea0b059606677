use Rattle.std.proofs.Common.{ap}
use Rattle.std.proofs.Math.Logic.{∥∥₁_map}
use Rattle.st_kernel.specs.Kernel.{RunSoFar}
use Rattle.st_recorded.proofs.recorded.settle.Goals as goal

pub returns-clause-noted : goal.returns-clause-noted
returns-clause-noted g c = ∥∥₁_map c.requires c.in_ok-rest.ensures.noted

pub returns-clause-input : goal.returns-clause-input
returns-clause-input g c = ap (λ (so_far : RunSoFar). so_far.input) c.rest.ensures.on_the_way
