use Rattle.std.proofs.Common.{◌≡◌, ◌++◌, take}
use Rattle.st_report.specs.TraceText.{args_fields}
use Rattle.st_report.proofs.entry.append_args.Given as goal

-- the arguments so far are appended to the text
abbrev pub invariant-loop-arg : goal.invariant-loop-arg
invariant-loop-arg l = l.text ≡ l.initial.text ++ args_fields (take l.arg-index l.args)
