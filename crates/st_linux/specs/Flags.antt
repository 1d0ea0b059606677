-- The flags of open in Linux, and the native flags that stand for them.
use Rattle.std.specs.Prelude.{ℕ, ◌+◌, ◌%◌, if◌then◌else◌}
use Rattle.st_calls.specs.Call.{has_flag}
use Rattle.st_calls.specs.declared.flags.TheConstants.{O_ACCMODE, O_CREAT, O_EXCL, O_TRUNC, O_APPEND}
use Rattle.st_linux.specs.declared.flags.TheConstants.{LINUX_CREAT, LINUX_EXCL, LINUX_TRUNC, LINUX_APPEND}

-- a native flag if its flag of Linux is among these flags, otherwise 0
abbrev pub flag_if_set : ℕ → ℕ → ℕ → ℕ
flag_if_set flags linux native = if has_flag flags linux then native else 0

-- the native flags for these flags of Linux: the same access, and each of the four flags that is set; other bits are dropped
abbrev pub native_flags : ℕ → ℕ
native_flags flags =
    flags % (O_ACCMODE + 1) + flag_if_set flags LINUX_CREAT O_CREAT + flag_if_set flags LINUX_EXCL O_EXCL +
    flag_if_set flags LINUX_TRUNC O_TRUNC + flag_if_set flags LINUX_APPEND O_APPEND
