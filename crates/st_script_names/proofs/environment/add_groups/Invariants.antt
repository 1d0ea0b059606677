use Rattle.std.proofs.Common.{◌≡◌, ◌++◌, map, drop}
use Rattle.st_script_names.specs.Environment.{groups_below, group_id}
use Rattle.st_script_names.proofs.environment.add_groups.Given as goal

-- the groups so far, and those that the rest gives, are those of all lines
abbrev pub invariant-loop-line : goal.invariant-loop-line
invariant-loop-line l = l.groups ++ map group_id (groups_below l.known (drop l.line-index l.lines)) ≡ l.initial.groups ++ map group_id (groups_below l.initial.known l.lines)
