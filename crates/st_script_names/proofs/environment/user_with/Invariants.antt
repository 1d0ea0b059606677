use Rattle.std.proofs.Common.{◌≡◌, ◌==◌, map, drop}
use Rattle.std.specs.Prelude.{find}
use Rattle.st_script_names.proofs.environment.user_with.Given as goal

-- the users that are left give the answer
abbrev pub invariant-loop-user : goal.invariant-loop-user
invariant-loop-user l =
    find (λ user. user.uid == l.uid) (map (λ user. user.now) (drop l.user-index l.users)) ≡ find (λ user. user.uid == l.uid) (map (λ user. user.now) l.users)
