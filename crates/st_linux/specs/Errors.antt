-- The numbers of errors in Linux.
use Rattle.std.specs.Prelude.{ℕ}
use Rattle.st_base.specs.Errno.{number_of_error}
use Rattle.st_base.specs.declared.errno.Errno.{Errno}
use Rattle.st_base.specs.declared.errno.Errno.TheVariants.{EAGAIN, EADDRINUSE, ECONNREFUSED, ELOOP, ENAMETOOLONG, ENOTEMPTY, ENOSYS}

-- the number of an error in Linux: all but seven have their native number
abbrev pub linux_number : Errno → ℕ
linux_number EAGAIN = 11
linux_number ENAMETOOLONG = 36
linux_number ENOSYS = 38
linux_number ENOTEMPTY = 39
linux_number ELOOP = 40
linux_number EADDRINUSE = 98
linux_number ECONNREFUSED = 111
linux_number errno = number_of_error errno
