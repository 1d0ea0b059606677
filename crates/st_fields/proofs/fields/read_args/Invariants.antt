use Rattle.std.proofs.Common.{◌≡◌, ◌-◌}
use Rattle.st_fields.specs.Fields.{args_from}
use Rattle.st_fields.proofs.Loops.{with_args}
use Rattle.st_fields.proofs.fields.read_args.Given as goal

-- the arguments so far and those of the rest are all arguments
abbrev pub invariant-loop : goal.invariant-loop
invariant-loop l = with_args l.args (args_from (l.most - l.counter) l.fields) ≡ args_from l.most l.fn.fields
