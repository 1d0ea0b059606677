-- Runs of processes: a kill, a fork, an execve, ids that change and ids that are granted. The expected entries were derived from the rules.
use Prim.Native.String as text
use Rattle.std.proofs.Common.{◌≡◌, true, false, List, [], ◌∷◌, ◌++◌, Some, None, refl, codes}
use Rattle.std.specs.Fmt.{digits}
use Rattle.std.specs.Prelude.{Bool}
use Rattle.st_base.specs.declared.errno.Errno.TheVariants.{EPERM, EACCES}
use Rattle.st_base.specs.declared.ids.Ids.{Ids}
use Rattle.st_calls.specs.declared.argument.Label.TheVariants.{Filename, Uid, Argv, Pid, Signum, SockDom, SockType, SockAddr}
use Rattle.st_calls.specs.declared.call.SysCall.TheVariants.{Open, Fork, Execve, Kill, SetUid, Socket, Bind}
use Rattle.st_calls.specs.declared.judged.Verdict.TheVariants.{Permit, Unmatched}
use Rattle.st_calls.specs.declared.rule.Rule.TheVariants as Rule
use Rattle.st_calls.specs.declared.rule.Rule.TheVariants.{FsRead}
use Rattle.st_calls.specs.declared.argument.ArgText.{ArgText}
use Rattle.st_filter.specs.Formula.{FilterValue}
use Rattle.st_filter.specs.declared.filter.Action.TheVariants as action
use Rattle.st_filter.specs.declared.filter.Cmp.TheVariants as cmp
use Rattle.st_filter.specs.declared.filter.Op.TheVariants as op
use Rattle.st_filter.specs.declared.filter.Who.TheVariants as who
use Rattle.st_names.specs.declared.seen.SeenText.TheVariants.{Dir, File}
use Rattle.st_trace.specs.declared.entry.CallResult.TheVariants.{Value, Failed}
use Rattle.st_trace.specs.declared.entry.Cause.TheVariants.{NoFilter}
use Rattle.st_trace.specs.declared.entry.Cause.TheVariants as cause
use Rattle.st_trace.specs.declared.entry.Change.TheVariants.{Forked, Execed, SetIds, Dying, Renewed, Policy}
use Rattle.st_trace.specs.declared.entry.Entry.TheVariants.{Stored, Entered, Claimed, Copied, Looked, Answered, Used, Denied, Ended}
use Rattle.st_trace.specs.declared.entry.Way.TheVariants.{Fast, Barred, Held, Untraced}
use Rattle.st_trace.specs.declared.start.Instr.TheVariants.{Store}
use Rattle.st_trace.specs.declared.start.Instr.TheVariants as instr
use Rattle.st_trace.specs.declared.entry.Entry.{Entry}
use Rattle.st_law.specs.declared.input.Input.{Input}
use Rattle.st_law.specs.declared.input.Mode.TheVariants.{Enforce}
use Rattle.st_law.proofs.Writing.{name, dir, file, traced, thread_in, forked_thread, put, regs, call, policy, when, permits, denies, only_if}
use Rattle.st_law.proofs.Writing.{granting, test, input, plainly, thread, worker, rest, trace, ids, arg, copies}
use Rattle.st_law.proofs.LinkRuns.{beside}
use Rattle.st_law.proofs.Scripts.{etc_files, reads_only, passwd_only, opens, user, root, filename, cat_copies, opened, passwd_copied}

-- ---- killed while a call is held

abbrev pub killer : Input
killer = beside (call Kill 1 9 0 ∷ [])

-- the worker that has all copies answers, and its answer isn't applied
killed_while_held : trace killer (thread 1 2 ∷ worker 1 4 ∷ thread 2 2 ∷ worker 1 1 ∷ rest ∷ []) ≡ Some (
    Stored 1 0 112353935717423 ∷
    Entered 1 Open (regs 0 0 0) (Held 1) ∷
    Claimed 1 1 ∷
    Copied 1 0 0 112353935717423 ∷
    Looked 1 0 (name "/tmp") Dir ∷
    Looked 1 0 (name "/tmp/f") File ∷
    Entered 2 Kill (regs 1 9 0) Untraced ∷
    Used 2 None Kill (regs 1 9 0) (arg Pid 0 "1" ∷ arg Signum 0 "9" ∷ []) root (Value 0) (Dying 1 ∷ []) ∷
    Answered 1 (cat_copies 1 user "/tmp/f") (Permit 1 user) false ∷
    Ended 1 ∷
    Ended 2 ∷ [])
unfolding digits
killed_while_held = refl

-- ---- ids that are granted to one call

-- ids given by the options
abbrev pub www : Ids
www = ids 30 30 30 30

abbrev pub server : Input
server = input (record { mode = Enforce; inherit = false; aliasing = true; ids = Some (30, 30); workers = 1 })
    (policy "/bin/www" (
    permits (Rule.Call Socket) ∷
    granting (Some 0) None (when (Rule.Call Bind) (test "sockaddr" op.Eq "inet-[0.0.0.0]:80") action.Permit) ∷
    permits (Rule.Call Bind) ∷ []) ∷ [])
    [] (traced "/bin/www" 0 0 "/" ∷ [])
    (thread_in 1 (Store 0 1342177808 ∷ Store 1 1358955024 ∷ call Socket 2 1 0 ∷ call Socket 2 1 0 ∷
    call Bind 3 0 16 ∷ call Bind 4 8 16 ∷ []) ∷ [])
    []

abbrev socket_args : List ArgText
socket_args = arg SockDom 0 "AF_INET" ∷ arg SockType 0 "SOCK_STREAM" ∷ []

abbrev pub port : text.String → List ArgText
port text = arg SockAddr 0 text ∷ []

-- up to the first bind, which is made as root
abbrev pub bound : List Entry
bound =
    Stored 1 0 1342177808 ∷
    Stored 1 1 1358955024 ∷
    Entered 1 Socket (regs 2 1 0) Fast ∷
    Used 1 None Socket (regs 2 1 0) socket_args www (Value 3) [] ∷
    Entered 1 Socket (regs 2 1 0) Fast ∷
    Used 1 None Socket (regs 2 1 0) socket_args www (Value 4) [] ∷
    Entered 1 Bind (regs 3 0 16) (Held 1) ∷
    Claimed 1 1 ∷
    Copied 1 0 0 1342177808 ∷
    Answered 1 (copies 1 1 www "/bin/www" (Rule.Call Bind) Bind (regs 3 0 16) (port "inet-[0.0.0.0]:80"))
    (Permit 1 (ids 30 0 30 30)) true ∷
    Used 1 (Some 1) Bind (regs 3 0 16) (port "inet-[0.0.0.0]:80") (ids 30 0 30 30) (Value 0) [] ∷ []

-- up to the answer to the second bind, which is permitted without a grant
abbrev pub bound_again : List Entry
bound_again =
    Entered 1 Bind (regs 4 8 16) (Held 2) ∷
    Claimed 1 2 ∷
    Copied 2 0 1 1358955024 ∷
    Answered 1 (copies 2 1 www "/bin/www" (Rule.Call Bind) Bind (regs 4 8 16) (port "inet-[0.0.0.0]:81")) (Permit 2 www) true ∷ []

elevated_bind : trace server (rest ∷ []) ≡ Some (
    bound ++ bound_again ++
    Used 1 (Some 2) Bind (regs 4 8 16) (port "inet-[0.0.0.0]:81") www (Failed EACCES) [] ∷
    Ended 1 ∷ [])
unfolding digits
elevated_bind = refl

abbrev spwd_reader : FilterValue → Input
spwd_reader filter = input (record { mode = Enforce; inherit = false; aliasing = true; ids = Some (1000, 1000); workers = 1 })
    (policy "/bin/cat" (filter ∷ []) ∷ []) etc_files (traced "/bin/cat" 1000 1000 "/" ∷ []) (thread_in 1 (opens "/etc/spwd") ∷ []) []

abbrev spwd_copied : List Entry
spwd_copied =
    Stored 1 0 8606505535274247471 ∷
    Stored 1 1 100 ∷
    Entered 1 Open (regs 0 0 0) (Held 1) ∷
    Claimed 1 1 ∷
    Copied 1 0 0 8606505535274247471 ∷
    Copied 1 0 1 100 ∷
    Looked 1 0 (name "/etc") Dir ∷
    Looked 1 0 (name "/etc/spwd") File ∷ []

elevated_open : trace (spwd_reader (granting (Some 0) None (reads_only "/etc/spwd"))) (rest ∷ []) ≡ Some (
    spwd_copied ++
    Answered 1 (cat_copies 1 user "/etc/spwd") (Permit 1 (ids 1000 0 1000 1000)) true ∷
    opened 1 "/etc/spwd" (ids 1000 0 1000 1000) 3 ∷
    Ended 1 ∷ [])
elevated_open = refl

the_same_open_without_the_grant : trace (spwd_reader (reads_only "/etc/spwd")) (rest ∷ []) ≡ Some (
    spwd_copied ++
    Answered 1 (cat_copies 1 user "/etc/spwd") (Permit 1 user) true ∷
    Used 1 (Some 1) Open (regs 0 0 0) (filename "/etc/spwd") user (Failed EACCES) [] ∷
    Ended 1 ∷ [])
the_same_open_without_the_grant = refl

-- ---- ids that change while a call is held

abbrev pub setter : Input
setter = input (plainly Enforce)
    (policy "/bin/cat" (
    permits (Rule.Call SetUid) ∷
    only_if (record { who = who.User; cmp = cmp.Same; id = 0 }) passwd_only ∷ []) ∷ [])
    etc_files (traced "/bin/cat" 0 0 "/" ∷ [])
    (thread_in 1 (opens "/etc/passwd") ∷ thread_in 1 (call SetUid 1000 0 0 ∷ []) ∷ []) []

abbrev pub set_ids : Ids
set_ids = ids 1000 1000 0 0

-- the open is permitted to root
abbrev pub root_permitted : List Entry
root_permitted = passwd_copied ++ Answered 1 (cat_copies 1 root "/etc/passwd") (Permit 1 root) true ∷ []

set_id_renews : trace setter (thread 1 3 ∷ worker 1 6 ∷ thread 2 2 ∷ rest ∷ []) ≡ Some (
    root_permitted ++
    Entered 2 SetUid (regs 1000 0 0) Fast ∷
    Used 2 None SetUid (regs 1000 0 0) (arg Uid 0 "1000" ∷ []) root (Value 0) (SetIds set_ids ∷ Renewed 1 2 ∷ []) ∷
    Ended 2 ∷
    Claimed 1 2 ∷
    Copied 2 0 0 8314049735936992559 ∷
    Copied 2 0 1 6584179 ∷
    Looked 2 0 (name "/etc") Dir ∷
    Looked 2 0 (name "/etc/passwd") File ∷
    Answered 1 (cat_copies 2 set_ids "/etc/passwd") Unmatched true ∷
    Denied 1 (Some 2) EPERM NoFilter ∷
    Ended 1 ∷ [])
unfolding digits
set_id_renews = refl

-- ---- a child and a new binary

abbrev shell : Bool → Input
shell inherit = input (record { mode = Enforce; inherit = inherit; aliasing = true; ids = None; workers = 1 })
    (policy "/bin/sh" (
    permits (Rule.Call Fork) ∷
    when (Rule.Call Execve) (test "filename" op.Eq "/bin/ls") action.Permit ∷
    permits FsRead ∷ []) ∷
    policy "/bin/ls" (denies FsRead EACCES ∷ []) ∷ [])
    (dir "/bin" 0 0 493 ∷ file "/bin/ls" 0 0 493 (codes "ls") ∷ file "/x" 0 0 420 (codes "x") ∷ [])
    (traced "/bin/sh" 1000 1000 "/" ∷ [])
    (thread_in 1 (instr.Fork 2 ∷ []) ∷ forked_thread (put 0 "/bin/ls" ++ call Execve 0 64 0 ∷ opens "/x") ∷ []) []

-- up to the answer to the child's execve: process 2 has thread 2, and space 2
abbrev forked_child : List Entry
forked_child =
    Entered 1 Fork (regs 0 0 0) Fast ∷
    Used 1 None Fork (regs 0 0 0) [] user (Value 2) (Forked 2 2 2 ∷ []) ∷
    Ended 1 ∷
    Stored 2 0 32488573293388335 ∷
    Entered 2 Execve (regs 0 64 0) (Held 1) ∷
    Claimed 1 1 ∷
    Copied 1 0 0 32488573293388335 ∷
    Looked 1 0 (name "/bin") Dir ∷
    Looked 1 0 (name "/bin/ls") File ∷
    Copied 1 1 8 0 ∷
    Answered 1
    (copies 1 2 user "/bin/sh" (Rule.Call Execve) Execve (regs 0 64 0) (arg Filename 0 "/bin/ls" ∷ arg Argv 0 "" ∷ []))
    (Permit 1 user) true ∷ []

-- the new binary's own policy applies from then on
child_and_new_binary : trace (shell false) (rest ∷ []) ≡ Some (
    forked_child ++
    Used 2 (Some 1) Execve (regs 0 64 0) (arg Filename 0 "/bin/ls" ∷ arg Argv 0 "" ∷ []) user (Value 0)
    (Execed (codes "/bin/ls") 3 ∷ Policy (codes "/bin/ls") ∷ []) ∷
    Stored 2 0 30767 ∷
    Entered 2 Open (regs 0 0 0) (Barred 1) ∷
    Denied 2 None EACCES (cause.Filter 1) ∷
    Ended 2 ∷ [])
child_and_new_binary = refl

-- the option keeps the old policy
new_binary_with_the_old_policy : trace (shell true) (rest ∷ []) ≡ Some (
    forked_child ++
    Used 2 (Some 1) Execve (regs 0 64 0) (arg Filename 0 "/bin/ls" ∷ arg Argv 0 "" ∷ []) user (Value 0)
    (Execed (codes "/bin/ls") 3 ∷ []) ∷
    Stored 2 0 30767 ∷
    Entered 2 Open (regs 0 0 0) Fast ∷
    Used 2 None Open (regs 0 0 0) (filename "/x") user (Value 3) [] ∷
    Ended 2 ∷ [])
new_binary_with_the_old_policy = refl
