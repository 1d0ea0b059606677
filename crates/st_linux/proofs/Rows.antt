-- Flags of Linux and the native flags for them.
use Rattle.std.proofs.Common.{◌≡◌, [], ◌∷◌, refl, map}
use Rattle.st_calls.specs.declared.flags.TheConstants.{O_APPEND, O_CREAT, O_EXCL, O_TRUNC}
use Rattle.st_base.specs.Errno.{every_error}
use Rattle.st_linux.specs.Errors.{linux_number}
use Rattle.st_linux.specs.Flags.{native_flags}

-- a file is made or truncated, and written: 0x241
making : native_flags 577 ≡ 1537
making = refl

-- the requested access is the same
accesses : map native_flags (0 ∷ 1 ∷ 2 ∷ 3 ∷ []) ≡ (0 ∷ 1 ∷ 2 ∷ 3 ∷ [])
accesses = refl

-- each flag alone: 0x40, 0x80, 0x200 and 0x400
each_alone : map native_flags (64 ∷ 128 ∷ 512 ∷ 1024 ∷ []) ≡ (O_CREAT ∷ O_EXCL ∷ O_TRUNC ∷ O_APPEND ∷ [])
each_alone = refl

-- a new file alone: 0xc0
exclusive : native_flags 192 ≡ 2560
exclusive = refl

-- native flags that are no flags of Linux are dropped, and so is every bit between
dropped : map native_flags (8 ∷ 2048 ∷ 4 ∷ 32 ∷ 256 ∷ 4096 ∷ []) ≡ (0 ∷ 0 ∷ 0 ∷ 0 ∷ 0 ∷ 0 ∷ [])
dropped = refl

-- the numbers of all errors, by increasing native number
numbers : map linux_number every_error ≡ (1 ∷ 2 ∷ 3 ∷ 7 ∷ 8 ∷ 9 ∷ 13 ∷ 14 ∷ 17 ∷ 20 ∷ 21 ∷ 22 ∷ 24 ∷ 28 ∷ 11 ∷ 98 ∷ 111 ∷ 40 ∷ 36 ∷ 39 ∷ 38 ∷ [])
numbers = refl
