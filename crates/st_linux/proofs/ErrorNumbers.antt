-- The numbers of errors in Linux and natively.
use native.Mathlib.Omega.{arith}
use Rattle.std.proofs.Common.{◌≡◌, ◌≢◌, ◌⊎◌, ℕ, zero, suc, ◌==◌, [], ◌∷◌, Option, Some, find, unwrap_or, refl, sym, ap, ◌∙◌, inl, inr}
use Rattle.std.specs.List.{All, Contains}
use Rattle.st_base.specs.Errno.{number_of_error, every_error}
use Rattle.st_base.specs.declared.errno.Errno.{Errno}
use Rattle.st_base.specs.declared.errno.Errno.TheVariants.{EPERM, ENOENT, ESRCH, E2BIG, ENOEXEC, EBADF, EACCES, EFAULT, EEXIST, ENOTDIR, EISDIR, EINVAL, EMFILE, ENOSPC, EAGAIN, EADDRINUSE, ECONNREFUSED, ELOOP, ENAMETOOLONG, ENOTEMPTY, ENOSYS}
use Rattle.st_linux.specs.Errors.{linux_number}

pub seven_differ : All (λ errno. linux_number errno ≢ number_of_error errno) (EAGAIN ∷ EADDRINUSE ∷ ECONNREFUSED ∷ ELOOP ∷ ENAMETOOLONG ∷ ENOTEMPTY ∷ ENOSYS ∷ [])
seven_differ zero errno within = omega arith
seven_differ (suc zero) errno within = omega arith
seven_differ (suc (suc zero)) errno within = omega arith
seven_differ (suc (suc (suc zero))) errno within = omega arith
seven_differ (suc (suc (suc (suc zero)))) errno within = omega arith
seven_differ (suc (suc (suc (suc (suc zero))))) errno within = omega arith
seven_differ (suc (suc (suc (suc (suc (suc zero)))))) errno within = omega arith
seven_differ (suc (suc (suc (suc (suc (suc (suc k))))))) errno within = absurd (omega (arith, within))

pub others_agree : (errno : Errno) → (linux_number errno ≡ number_of_error errno) ⊎ Contains (EAGAIN ∷ EADDRINUSE ∷ ECONNREFUSED ∷ ELOOP ∷ ENAMETOOLONG ∷ ENOTEMPTY ∷ ENOSYS ∷ []) errno
others_agree EPERM = inl refl
others_agree ENOENT = inl refl
others_agree ESRCH = inl refl
others_agree E2BIG = inl refl
others_agree ENOEXEC = inl refl
others_agree EBADF = inl refl
others_agree EACCES = inl refl
others_agree EFAULT = inl refl
others_agree EEXIST = inl refl
others_agree ENOTDIR = inl refl
others_agree EISDIR = inl refl
others_agree EINVAL = inl refl
others_agree EMFILE = inl refl
others_agree ENOSPC = inl refl
others_agree EAGAIN = inr (0, omega arith, refl)
others_agree EADDRINUSE = inr (1, omega arith, refl)
others_agree ECONNREFUSED = inr (2, omega arith, refl)
others_agree ELOOP = inr (3, omega arith, refl)
others_agree ENAMETOOLONG = inr (4, omega arith, refl)
others_agree ENOTEMPTY = inr (5, omega arith, refl)
others_agree ENOSYS = inr (6, omega arith, refl)

-- the error with a number in Linux
abbrev error_with : ℕ → Option Errno
error_with n = find (λ errno. linux_number errno == n) every_error

is_found : (errno : Errno) → error_with (linux_number errno) ≡ Some errno
is_found EPERM = refl
is_found ENOENT = refl
is_found ESRCH = refl
is_found E2BIG = refl
is_found ENOEXEC = refl
is_found EBADF = refl
is_found EACCES = refl
is_found EFAULT = refl
is_found EEXIST = refl
is_found ENOTDIR = refl
is_found EISDIR = refl
is_found EINVAL = refl
is_found EMFILE = refl
is_found ENOSPC = refl
is_found EAGAIN = refl
is_found EADDRINUSE = refl
is_found ECONNREFUSED = refl
is_found ELOOP = refl
is_found ENAMETOOLONG = refl
is_found ENOTEMPTY = refl
is_found ENOSYS = refl

pub numbers_apart : (a b : Errno) → linux_number a ≡ linux_number b → a ≡ b
numbers_apart a b same = ap (λ found. unwrap_or found a) (sym (is_found a) ∙ ap error_with same ∙ is_found b)
