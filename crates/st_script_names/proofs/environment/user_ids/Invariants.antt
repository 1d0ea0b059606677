use Rattle.std.proofs.Common.{◌≡◌, ◌++◌, map, drop}
use Rattle.st_script_names.specs.Environment.{user_id}
use Rattle.st_script_names.proofs.environment.user_ids.Given as goal

-- the ids so far, and those of the rest, are those of all users
abbrev pub invariant-loop-user : goal.invariant-loop-user
invariant-loop-user l = l.ids ++ map user_id (map (λ user. user.now) (drop l.user-index l.users)) ≡ map user_id (map (λ user. user.now) l.users)
