-- The effect of each call: its result and its changes.
use Rattle.std.specs.Prelude.{[]}
use Rattle.st_calls.specs.declared.call.SysCall.{SysCall}
use Rattle.st_calls.specs.declared.call.SysCall.TheVariants.{Open, Close, Read, Write, Lseek, Dup, Stat, Lstat, Access, Readlink, Unlink, Link, Symlink, Rename, Mkdir, Rmdir, Chdir, Chmod, Chown, Truncate, Fork, Execve, Exit, Kill, GetPid, GetUid, GetEuid, SetUid, SetEuid, SetGid, SetEgid, Socket, Bind, Connect}
use Rattle.st_effects.specs.Names.{stat_outcome, access_outcome, readlink_outcome, unlink_outcome, link_outcome, symlink_outcome, rename_outcome, mkdir_outcome, rmdir_outcome, chdir_outcome, chmod_outcome, chown_outcome, truncate_outcome}
use Rattle.st_effects.specs.Descriptors.{open_outcome, close_outcome, read_outcome, write_outcome, lseek_outcome, dup_outcome}
use Rattle.st_effects.specs.Processes.{fork_outcome, execve_outcome, exit_outcome, kill_outcome, set_ids_outcome}
use Rattle.st_effects.specs.Sockets.{socket_outcome, bind_outcome, connect_outcome}
use Rattle.st_effects.specs.System.{System, Request, Outcome, success}

-- the outcome of a call that is made with this request over this system
abbrev pub effect : System → SysCall → Request → Outcome
effect system Open request = open_outcome system request
effect system Close request = close_outcome system request
effect system Read request = read_outcome system request
effect system Write request = write_outcome system request
effect system Lseek request = lseek_outcome system request
effect system Dup request = dup_outcome system request
effect system Stat request = stat_outcome system request
effect system Lstat request = stat_outcome system request
effect system Access request = access_outcome system request
effect system Readlink request = readlink_outcome system request
effect system Unlink request = unlink_outcome system request
effect system Link request = link_outcome system request
effect system Symlink request = symlink_outcome system request
effect system Rename request = rename_outcome system request
effect system Mkdir request = mkdir_outcome system request
effect system Rmdir request = rmdir_outcome system request
effect system Chdir request = chdir_outcome system request
effect system Chmod request = chmod_outcome system request
effect system Chown request = chown_outcome system request
effect system Truncate request = truncate_outcome system request
effect system Fork request = fork_outcome system request
effect system Execve request = execve_outcome system request
effect system Exit request = exit_outcome system request
effect system Kill request = kill_outcome system request
effect system GetPid request = success system request.pid []
effect system GetUid request = success system request.ids.ruid []
effect system GetEuid request = success system request.ids.euid []
effect system SetUid request = set_ids_outcome SetUid system request
effect system SetEuid request = set_ids_outcome SetEuid system request
effect system SetGid request = set_ids_outcome SetGid system request
effect system SetEgid request = set_ids_outcome SetEgid system request
effect system Socket request = socket_outcome system request
effect system Bind request = bind_outcome system request
effect system Connect request = connect_outcome system request
