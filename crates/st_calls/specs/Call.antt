-- Calls and rules: their names, their indices, and which rule judges a call.
use Rattle.std.specs.Prelude.{ℕ, Bool, true, false, not, ◌&&◌, ◌==◌, bit_and, if◌then◌else◌, List, [], ◌∷◌, get_or, codes, find, Option}
use Rattle.std.specs.Str.{bytes_eq}
use Rattle.st_calls.specs.declared.call.SysCall.{SysCall}
use Rattle.st_calls.specs.declared.call.SysCall.TheVariants.{Open, Close, Read, Write, Lseek, Dup, Stat, Lstat, Access, Readlink, Unlink, Link, Symlink, Rename, Mkdir, Rmdir, Chdir, Chmod, Chown, Truncate, Fork, Execve, Exit, Kill, GetPid, GetUid, GetEuid, SetUid, SetEuid, SetGid, SetEgid, Socket, Bind, Connect}
use Rattle.st_calls.specs.declared.rule.Rule.{Rule}
use Rattle.st_calls.specs.declared.rule.Rule.TheVariants.{Call, FsRead, FsWrite}
use Rattle.st_calls.specs.declared.flags.TheConstants.{O_ACCMODE, O_CREAT, O_TRUNC, O_EXCL}

-- the name of a call in scripts and policies
abbrev pub name_of_call : SysCall → List ℕ
name_of_call Open = codes "open"
name_of_call Close = codes "close"
name_of_call Read = codes "read"
name_of_call Write = codes "write"
name_of_call Lseek = codes "lseek"
name_of_call Dup = codes "dup"
name_of_call Stat = codes "stat"
name_of_call Lstat = codes "lstat"
name_of_call Access = codes "access"
name_of_call Readlink = codes "readlink"
name_of_call Unlink = codes "unlink"
name_of_call Link = codes "link"
name_of_call Symlink = codes "symlink"
name_of_call Rename = codes "rename"
name_of_call Mkdir = codes "mkdir"
name_of_call Rmdir = codes "rmdir"
name_of_call Chdir = codes "chdir"
name_of_call Chmod = codes "chmod"
name_of_call Chown = codes "chown"
name_of_call Truncate = codes "truncate"
name_of_call Fork = codes "fork"
name_of_call Execve = codes "execve"
name_of_call Exit = codes "exit"
name_of_call Kill = codes "kill"
name_of_call GetPid = codes "getpid"
name_of_call GetUid = codes "getuid"
name_of_call GetEuid = codes "geteuid"
name_of_call SetUid = codes "setuid"
name_of_call SetEuid = codes "seteuid"
name_of_call SetGid = codes "setgid"
name_of_call SetEgid = codes "setegid"
name_of_call Socket = codes "socket"
name_of_call Bind = codes "bind"
name_of_call Connect = codes "connect"

-- every call of the model
abbrev pub every_call : List SysCall
every_call =
    Open ∷ Close ∷ Read ∷ Write ∷ Lseek ∷ Dup ∷ Stat ∷ Lstat ∷ Access ∷ Readlink ∷ Unlink ∷ Link ∷ Symlink ∷ Rename ∷ Mkdir ∷
    Rmdir ∷ Chdir ∷ Chmod ∷ Chown ∷ Truncate ∷ Fork ∷ Execve ∷ Exit ∷ Kill ∷ GetPid ∷ GetUid ∷ GetEuid ∷ SetUid ∷ SetEuid ∷
    SetGid ∷ SetEgid ∷ Socket ∷ Bind ∷ Connect ∷ []

-- whether a call sets ids
abbrev pub sets_ids : SysCall → Bool
sets_ids SetUid = true
sets_ids SetEuid = true
sets_ids SetGid = true
sets_ids SetEgid = true
sets_ids _ = false

-- the call whose name is this word
abbrev pub call_named : List ℕ → Option SysCall
call_named word = find (λ call. bytes_eq (name_of_call call) word) every_call

-- whether flags have a bit in common with this flag
abbrev pub has_flag : ℕ → ℕ → Bool
has_flag flags flag = not (bit_and flags flag == 0)

-- whether an open with these flags only reads: it requests no other access, and neither makes nor truncates a file
abbrev pub reads_alone : ℕ → Bool
reads_alone flags = not (has_flag flags O_ACCMODE) && (not (has_flag flags O_CREAT) && not (has_flag flags O_TRUNC))

-- the rule of a call with the aliases of systrace(1), under which several calls on files are judged alike
abbrev pub alias_of : SysCall → List ℕ → Rule
alias_of Open regs = if reads_alone (get_or regs 1 0) then FsRead else FsWrite
alias_of Stat regs = FsRead
alias_of Lstat regs = FsRead
alias_of Access regs = FsRead
alias_of Readlink regs = FsRead
alias_of Unlink regs = FsWrite
alias_of Mkdir regs = FsWrite
alias_of Rmdir regs = FsWrite
alias_of call regs = Call call

-- the rule that judges a call; without aliasing it is the call's own name
abbrev pub rule_of : SysCall → List ℕ → Bool → Rule
rule_of call regs aliasing = if aliasing then alias_of call regs else Call call

-- the name of a rule, as a policy writes it after the name of the emulation
abbrev pub name_of_rule : Rule → List ℕ
name_of_rule (Call call) = name_of_call call
name_of_rule FsRead = codes "fsread"
name_of_rule FsWrite = codes "fswrite"

-- every rule, each at its index
abbrev pub every_rule : List Rule
every_rule =
    Call Open ∷ Call Close ∷ Call Read ∷ Call Write ∷ Call Lseek ∷ Call Dup ∷ Call Stat ∷ Call Lstat ∷ Call Access ∷
    Call Readlink ∷ Call Unlink ∷ Call Link ∷ Call Symlink ∷ Call Rename ∷ Call Mkdir ∷ Call Rmdir ∷ Call Chdir ∷ Call Chmod ∷
    Call Chown ∷ Call Truncate ∷ Call Fork ∷ Call Execve ∷ Call Exit ∷ Call Kill ∷ Call GetPid ∷ Call GetUid ∷ Call GetEuid ∷
    Call SetUid ∷ Call SetEuid ∷ Call SetGid ∷ Call SetEgid ∷ Call Socket ∷ Call Bind ∷ Call Connect ∷ FsRead ∷ FsWrite ∷ []

-- the rule whose name is this word
abbrev pub rule_named : List ℕ → Option Rule
rule_named word = find (λ rule. bytes_eq (name_of_rule rule) word) every_rule

-- a call's index among all calls
abbrev pub index_of_call : SysCall → ℕ
index_of_call Open = 0
index_of_call Close = 1
index_of_call Read = 2
index_of_call Write = 3
index_of_call Lseek = 4
index_of_call Dup = 5
index_of_call Stat = 6
index_of_call Lstat = 7
index_of_call Access = 8
index_of_call Readlink = 9
index_of_call Unlink = 10
index_of_call Link = 11
index_of_call Symlink = 12
index_of_call Rename = 13
index_of_call Mkdir = 14
index_of_call Rmdir = 15
index_of_call Chdir = 16
index_of_call Chmod = 17
index_of_call Chown = 18
index_of_call Truncate = 19
index_of_call Fork = 20
index_of_call Execve = 21
index_of_call Exit = 22
index_of_call Kill = 23
index_of_call GetPid = 24
index_of_call GetUid = 25
index_of_call GetEuid = 26
index_of_call SetUid = 27
index_of_call SetEuid = 28
index_of_call SetGid = 29
index_of_call SetEgid = 30
index_of_call Socket = 31
index_of_call Bind = 32
index_of_call Connect = 33

-- a rule's index among all rules
abbrev pub index_of_rule : Rule → ℕ
index_of_rule (Call call) = index_of_call call
index_of_rule FsRead = 34
index_of_rule FsWrite = 35

-- whether a call follows a link that is the last component of the name in this register
abbrev pub follows : SysCall → List ℕ → ℕ → Bool
follows Open regs register = not (has_flag (get_or regs 1 0) O_CREAT && has_flag (get_or regs 1 0) O_EXCL)
follows Stat regs register = true
follows Access regs register = true
follows Link regs register = register == 0
follows Chdir regs register = true
follows Chmod regs register = true
follows Chown regs register = true
follows Truncate regs register = true
follows Execve regs register = true
follows call regs register = false
