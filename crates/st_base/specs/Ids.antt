-- Identities: ids whose real and effective parts are equal.
use Rattle.std.specs.Prelude.{ℕ}
use Rattle.st_base.specs.declared.ids.Ids.{Ids}

-- the ids whose real and effective user are `uid`, and whose real and effective group are `gid`
abbrev pub identity : ℕ → ℕ → Ids
identity uid gid = record { ruid = uid; euid = uid; rgid = gid; egid = gid }
