-- The results of calls on descriptors.
use Rattle.std.specs.Prelude.{ℕ, Option, Some, None}
use Rattle.std.specs.declared.result.Result.{Result}
use Rattle.std.specs.declared.result.Result.TheVariants.{Ok, Err}
use Rattle.st_model.specs.Descriptors.{Table, file_at, least_free}
use Rattle.st_base.specs.declared.errno.Errno.{Errno}
use Rattle.st_base.specs.declared.errno.Errno.TheVariants.{EBADF, EMFILE}
use Rattle.st_model.specs.declared.open_file.OpenFile.{OpenFile}
use Rattle.st_fds.specs.declared.fds.FdFault.{FdFault}
use Rattle.st_fds.specs.declared.fds.FdFault.TheVariants.{Os}

-- a call that is refused with an error, or succeeds
abbrev pub result_of_refusal : Option Errno → Result (Unit {0}) Errno
result_of_refusal None = Ok tt
result_of_refusal (Some errno) = Err errno

-- EBADF if the descriptor isn't open, otherwise EMFILE if all are open, otherwise the least free descriptor
abbrev pub dup_result_at : Option OpenFile → Option ℕ → Result ℕ FdFault
dup_result_at None least = Err (Os EBADF)
dup_result_at (Some file) None = Err (Os EMFILE)
dup_result_at (Some file) (Some least) = Ok least

-- the result of dup(2) for a descriptor of a process: the least free descriptor, or why the call is refused
abbrev pub dup_result : Table → ℕ → ℕ → Result ℕ FdFault
dup_result t pid fd = dup_result_at (file_at t pid fd) (least_free t pid)
