use Rattle.std.proofs.Common.{◌≡◌, drop, length}
use Rattle.std.specs.List.{zip}
use Rattle.st_calls.specs.Argument.{args_of}
use Rattle.st_law.specs.Arguments.{link_met}
use Rattle.st_arguments.proofs.FirstMet.{first_met}
use Rattle.st_arguments.proofs.links.link_met.Given as goal

abbrev pub invariant-loop-spec : goal.invariant-loop-spec
invariant-loop-spec l = link_met l.tree l.fn.rule l.fn.call l.regs l.args ≡ first_met l.tree l.fn.call l.regs (drop (length l.yielded) (zip (args_of l.fn.rule) l.args))
