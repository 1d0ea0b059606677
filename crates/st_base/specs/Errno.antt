-- Error numbers, their names, and the choice of the first error whose condition is true.
use Rattle.std.specs.Prelude.{ℕ, Bool, if◌then◌else◌, List, [], ◌∷◌, codes, map, find, Option, Some, None}
use Rattle.std.specs.Str.{bytes_eq}
use Rattle.std.specs.Char.{to_ascii_lowercase}
use Rattle.st_base.specs.declared.errno.Errno.{Errno}
use Rattle.st_base.specs.declared.errno.Errno.TheVariants.{EPERM, ENOENT, ESRCH, E2BIG, ENOEXEC, EBADF, EACCES, EFAULT, EEXIST, ENOTDIR, EISDIR, EINVAL, EMFILE, ENOSPC, EAGAIN, EADDRINUSE, ECONNREFUSED, ELOOP, ENAMETOOLONG, ENOTEMPTY, ENOSYS}

-- the number of an error in OpenBSD's errno(2)
abbrev pub number_of_error : Errno → ℕ
number_of_error EPERM = 1
number_of_error ENOENT = 2
number_of_error ESRCH = 3
number_of_error E2BIG = 7
number_of_error ENOEXEC = 8
number_of_error EBADF = 9
number_of_error EACCES = 13
number_of_error EFAULT = 14
number_of_error EEXIST = 17
number_of_error ENOTDIR = 20
number_of_error EISDIR = 21
number_of_error EINVAL = 22
number_of_error EMFILE = 24
number_of_error ENOSPC = 28
number_of_error EAGAIN = 35
number_of_error EADDRINUSE = 48
number_of_error ECONNREFUSED = 61
number_of_error ELOOP = 62
number_of_error ENAMETOOLONG = 63
number_of_error ENOTEMPTY = 66
number_of_error ENOSYS = 78

-- the name of an error, in capital letters
abbrev pub name_of_error : Errno → List ℕ
name_of_error EPERM = codes "EPERM"
name_of_error ENOENT = codes "ENOENT"
name_of_error ESRCH = codes "ESRCH"
name_of_error E2BIG = codes "E2BIG"
name_of_error ENOEXEC = codes "ENOEXEC"
name_of_error EBADF = codes "EBADF"
name_of_error EACCES = codes "EACCES"
name_of_error EFAULT = codes "EFAULT"
name_of_error EEXIST = codes "EEXIST"
name_of_error ENOTDIR = codes "ENOTDIR"
name_of_error EISDIR = codes "EISDIR"
name_of_error EINVAL = codes "EINVAL"
name_of_error EMFILE = codes "EMFILE"
name_of_error ENOSPC = codes "ENOSPC"
name_of_error EAGAIN = codes "EAGAIN"
name_of_error EADDRINUSE = codes "EADDRINUSE"
name_of_error ECONNREFUSED = codes "ECONNREFUSED"
name_of_error ELOOP = codes "ELOOP"
name_of_error ENAMETOOLONG = codes "ENAMETOOLONG"
name_of_error ENOTEMPTY = codes "ENOTEMPTY"
name_of_error ENOSYS = codes "ENOSYS"

-- the name of an error as a policy writes it, in small letters
abbrev pub word_of_error : Errno → List ℕ
word_of_error errno = map to_ascii_lowercase (name_of_error errno)

-- all errors, by increasing number
abbrev pub every_error : List Errno
every_error =
    EPERM ∷ ENOENT ∷ ESRCH ∷ E2BIG ∷ ENOEXEC ∷ EBADF ∷ EACCES ∷ EFAULT ∷ EEXIST ∷ ENOTDIR ∷ EISDIR ∷
    EINVAL ∷ EMFILE ∷ ENOSPC ∷ EAGAIN ∷ EADDRINUSE ∷ ECONNREFUSED ∷ ELOOP ∷ ENAMETOOLONG ∷ ENOTEMPTY ∷ ENOSYS ∷ []

-- the error whose name in small letters is this word
abbrev pub error_named : List ℕ → Option Errno
error_named word = find (λ errno. bytes_eq (word_of_error errno) word) every_error

-- this error if its condition is true, otherwise none
abbrev pub error_if : Bool → Errno → Option Errno
error_if met errno = if met then Some errno else None

-- the first error in the list, if it has any
abbrev pub first_error : List (Option Errno) → Option Errno
first_error [] = None
first_error (None ∷ reasons) = first_error reasons
first_error (Some errno ∷ reasons) = Some errno
