use Rattle.std.proofs.Common.{◌≡◌, ◌++◌, map, drop}
use Rattle.st_script_names.specs.Environment.{users_below}
use Rattle.st_script_names.proofs.environment.add_users.Given as goal

-- the users so far, and those that the rest gives, are those of all lines
abbrev pub invariant-loop-line : goal.invariant-loop-line
invariant-loop-line l = map (λ user. user.now) l.users ++ users_below l.known (drop l.line-index l.lines) ≡ map (λ user. user.now) l.initial.users ++ users_below l.initial.known l.lines
