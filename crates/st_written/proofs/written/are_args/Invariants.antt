use Rattle.std.proofs.Common.{drop}
use Rattle.st_written.specs.Written.{AreArgs}
use Rattle.st_written.proofs.written.are_args.Given as goal

-- all arguments have their types if those that are left have
abbrev pub invariant-loop-arg : goal.invariant-loop-arg
invariant-loop-arg l = AreArgs (drop l.arg-index l.args) → AreArgs l.args
