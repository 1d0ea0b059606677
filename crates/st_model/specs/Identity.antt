-- The calls that set the ids of a process, as in setuid(2).
use Rattle.std.specs.Prelude.{ℕ, ◌^◌, ◌==◌, ◌||◌, not, nat_le, if◌then◌else◌, Bool, false, [], ◌∷◌, Option}
use Rattle.st_base.specs.Errno.{error_if, first_error}
use Rattle.st_base.specs.declared.errno.Errno.{Errno}
use Rattle.st_base.specs.declared.errno.Errno.TheVariants.{EINVAL, EPERM}
use Rattle.st_base.specs.declared.ids.Ids.{Ids}
use Rattle.st_calls.specs.declared.call.SysCall.{SysCall}
use Rattle.st_calls.specs.declared.call.SysCall.TheVariants.{SetUid, SetEuid, SetGid, SetEgid}

-- whether a process with these ids may set an id to this value by this call
abbrev pub may_set : SysCall → Ids → ℕ → Bool
may_set SetUid ids value = ids.euid == 0 || value == ids.ruid
may_set SetEuid ids value = ids.euid == 0 || (value == ids.ruid || value == ids.euid)
may_set SetGid ids value = ids.euid == 0 || value == ids.rgid
may_set SetEgid ids value = ids.euid == 0 || (value == ids.rgid || value == ids.egid)
may_set _ ids value = false

-- the ids of a process after the call: setuid and setgid by effective user 0 set the real id too
abbrev pub ids_after_set : SysCall → Ids → ℕ → Ids
ids_after_set SetUid ids value = if ids.euid == 0 then record ids { ruid = value; euid = value } else record ids { euid = value }
ids_after_set SetEuid ids value = record ids { euid = value }
ids_after_set SetGid ids value = if ids.euid == 0 then record ids { rgid = value; egid = value } else record ids { egid = value }
ids_after_set SetEgid ids value = record ids { egid = value }
ids_after_set _ ids value = ids

-- why ids aren't set: first, that the value is no id, then that the process may not set it
abbrev pub set_refused : SysCall → Ids → ℕ → Option Errno
set_refused call ids value = first_error (error_if (nat_le (2 ^ 32) value) EINVAL ∷ error_if (not (may_set call ids value)) EPERM ∷ [])
