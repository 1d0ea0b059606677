use Rattle.std.proofs.Common.{◌≡◌, ◌++◌, take, flat_map}
use Rattle.st_audit.specs.AuditText.{printed_arg}
use Rattle.st_audit.proofs.line.append_printed_args.Given as goal

-- the arguments so far are appended to the text
abbrev pub invariant-loop-arg : goal.invariant-loop-arg
invariant-loop-arg l = l.text ≡ l.initial.text ++ flat_map printed_arg (take l.arg-index l.args)
