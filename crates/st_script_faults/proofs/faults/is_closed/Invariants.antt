use Rattle.std.proofs.Common.{◌≡◌, drop}
use Rattle.std.specs.List.{list_any}
use Rattle.st_script_faults.specs.Faults.{ends_body}
use Rattle.st_script_faults.proofs.faults.is_closed.Given as goal

-- the lines that are left give the answer
abbrev pub invariant-loop-line : goal.invariant-loop-line
invariant-loop-line l = list_any ends_body (drop l.line-index l.below) ≡ list_any ends_body l.below
