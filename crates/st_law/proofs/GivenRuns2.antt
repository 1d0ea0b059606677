-- Runs on which two programs agree that were written independently from the same rules. Of the policies, only the filters are given that a
-- call of the run is tested against.
use Rattle.std.proofs.Common.{◌≡◌, true, false, [], ◌∷◌, ◌++◌, Some, None, refl, codes}
use Rattle.std.specs.Fmt.{digits}
use Rattle.st_base.specs.declared.errno.Errno.TheVariants.{EADDRINUSE, EINVAL, EMFILE, ELOOP, ENAMETOOLONG, EPERM, ENOENT, ESRCH, EACCES, EFAULT}
use Rattle.st_base.specs.declared.errno.Errno.TheVariants.{EEXIST, ENOTDIR, EISDIR}
use Rattle.st_calls.specs.declared.argument.Label.TheVariants.{Filename, String, Argv, Mode, Gid, Pid, Signum, SockAddr, Uid, SockDom, SockType}
use Rattle.st_calls.specs.declared.call.SysCall.TheVariants.{GetPid, GetEuid, SetUid, SetEuid, SetEgid, Socket, Bind, Connect, Open, Lstat, Access}
use Rattle.st_calls.specs.declared.call.SysCall.TheVariants.{Readlink, Unlink, Link, Symlink, Rename, Mkdir, Chdir, Chmod, Chown, Truncate, Execve}
use Rattle.st_calls.specs.declared.call.SysCall.TheVariants.{Kill}
use Rattle.st_calls.specs.declared.judged.Verdict.TheVariants.{Permit, Refuse, Unmatched}
use Rattle.st_calls.specs.declared.rule.Rule.TheVariants.{FsRead, FsWrite}
use Rattle.st_calls.specs.declared.rule.Rule.TheVariants as Rule
use Rattle.st_filter.specs.Formula.{True, Not, And, Or, Test}
use Rattle.st_filter.specs.declared.filter.Action.TheVariants as action
use Rattle.st_filter.specs.declared.filter.Cmp.TheVariants as cmp
use Rattle.st_filter.specs.declared.filter.FilterName.TheVariants as filter_name
use Rattle.st_filter.specs.declared.filter.Op.TheVariants as op
use Rattle.st_filter.specs.declared.filter.Who.TheVariants as who
use Rattle.st_names.specs.declared.seen.SeenText.TheVariants.{Dir, File, Missing}
use Rattle.st_names.specs.declared.seen.SeenText.TheVariants as seen
use Rattle.st_model.specs.declared.object.NewKind.TheVariants as made
use Rattle.st_trace.specs.declared.entry.CallResult.TheVariants.{Value, Failed}
use Rattle.st_trace.specs.declared.entry.Cause.TheVariants as cause
use Rattle.st_trace.specs.declared.entry.Cause.TheVariants.{NoFilter}
use Rattle.st_trace.specs.declared.entry.Change.TheVariants.{Made, Dying, Renamed, Cut, Execed, Removed, Moded, SetIds, Renewed, Cwd, Put}
use Rattle.st_trace.specs.declared.entry.Entry.TheVariants.{Stored, Entered, Claimed, Copied, Looked, Answered, Used, Denied, Ended, Faulted, Replied}
use Rattle.st_trace.specs.declared.entry.Way.TheVariants.{Barred, Held, Untraced, Fast}
use Rattle.st_trace.specs.declared.start.Instr.TheVariants.{Store}
use Rattle.st_law.specs.declared.input.Input.{Input}
use Rattle.st_law.specs.declared.input.Mode.TheVariants.{Enforce, AskText}
use Rattle.st_law.proofs.Scripts.{many_files, more_files}
use Rattle.st_law.proofs.Writing.{traced, untraced, thread_in, put, regs, call, policy, when, permits, denies}
use Rattle.st_law.proofs.Writing.{granting, test, input, thread, worker, operator, rest, trace, ids, arg, copies, reply, logged, only_if, name}

abbrev a_new_directory_and_barred_renames_input : Input
a_new_directory_and_barred_renames_input = input (record { mode = Enforce; inherit = false; aliasing = true; ids = Some (0, 0); workers = 1 })
    (policy "/bin/sh" (
    granting (Some 5) None (when FsRead (test "filename" op.Nsub "/") action.Permit) ∷ when FsRead (test "filename" op.Eq "/w/h") action.Permit ∷
    when FsRead (And (True) (True)) action.Permit ∷ denies (Rule.Call Rename) EEXIST ∷
    when (Rule.Call Rename) (test "filename" op.Eq "/w/new") (action.Deny EPERM) ∷ permits (Rule.Call Rename) ∷ permits (Rule.Call Chdir) ∷ []) ∷
    policy "/d/f" (
    when FsRead (And (True) (True)) action.Permit ∷ logged (permits (Rule.Call Symlink)) ∷ permits (Rule.Call Symlink) ∷ permits (Rule.Call Rename) ∷
    when (Rule.Call Chdir) (test "filename" op.Sub "f") action.Permit ∷ permits (Rule.Call Chdir) ∷ permits (Rule.Call GetEuid) ∷
    logged (permits (Rule.Call GetEuid)) ∷ logged (permits (Rule.Call GetEuid)) ∷ []) ∷ [])
    many_files
    (traced "/d/f" 5 1000 "/d" ∷ traced "/bin/sh" 5 1000 "/" ∷ [])
    (thread_in 2 (
    put 448 "/w" ++ put 456 "/q" ++ call Chdir 448 0 0 ∷ call Rename 448 456 0 ∷ call Symlink 456 448 0 ∷ put 352 "n" ++ call Lstat 352 0 0 ∷
    put 256 "#########.." ++ put 48 "/priv" ++ call Rename 265 48 0 ∷ []) ∷
    thread_in 1 (
    call Lstat 0 2052 0 ∷ put 544 "/tmp/e" ++ put 0 "/w/empty" ++ call Rename 544 0 0 ∷ call GetEuid 0 0 0 ∷ []) ∷ [])
    []

a_new_directory_and_barred_renames : trace a_new_directory_and_barred_renames_input (
    rest ∷ [])
    ≡ Some (
    Stored 1 56 30511 ∷ Stored 1 57 28975 ∷ Entered 1 Chdir (regs 448 0 0) Fast ∷
    Used 1 None Chdir (regs 448 0 0) (arg Filename 0 "/w" ∷ []) (ids 0 0 0 0) (Value 0) (Cwd (name "/w") ∷ []) ∷
    Entered 1 Rename (regs 448 456 0) (Barred 1) ∷ Denied 1 None EEXIST (cause.Filter 1) ∷ Entered 1 Symlink (regs 456 448 0) (Held 1) ∷
    Entered 2 Lstat (regs 0 2052 0) (Held 2) ∷ Claimed 1 1 ∷ Copied 1 0 57 28975 ∷ Copied 1 1 56 30511 ∷ Looked 1 1 (name "/w") Dir ∷
    Answered 1 (copies 1 2 (ids 0 0 0 0) "/bin/sh" (Rule.Call Symlink) Symlink (regs 456 448 0) (arg String 0 "/q" ∷ arg Filename 0 "/w" ∷ []))
    Unmatched true ∷
    Denied 1 (Some 1) EPERM NoFilter ∷ Stored 1 44 110 ∷ Entered 1 Lstat (regs 352 0 0) (Held 3) ∷ Claimed 1 2 ∷ Copied 2 0 0 0 ∷
    Faulted 2 ENOENT ∷ Denied 2 (Some 2) ENOENT cause.Fault ∷ Stored 2 68 111254424089647 ∷ Stored 2 0 8751743591039072047 ∷ Stored 2 1 0 ∷
    Entered 2 Rename (regs 544 0 0) Fast ∷
    Used 2 None Rename (regs 544 0 0) (arg Filename 0 "/tmp/e" ∷ arg Filename 1 "/w/empty" ∷ []) (ids 0 0 0 0) (Failed ENOENT) [] ∷
    Entered 2 GetEuid (regs 0 0 0) Fast ∷ Used 2 None GetEuid (regs 0 0 0) [] (ids 0 0 0 0) (Value 0) [] ∷ Ended 2 ∷ Claimed 1 3 ∷
    Copied 3 0 44 110 ∷ Looked 3 0 (name "/w/n") Missing ∷
    Answered 1 (copies 3 2 (ids 0 0 0 0) "/bin/sh" FsRead Lstat (regs 352 0 0) (arg Filename 0 "/w/n" ∷ [])) (Permit 3 (ids 0 0 0 0)) true ∷
    Used 1 (Some 3) Lstat (regs 352 0 0) (arg Filename 0 "/w/n" ∷ []) (ids 0 0 0 0) (Failed ENOENT) [] ∷ Stored 1 32 2531906049332683555 ∷
    Stored 1 33 3026467 ∷ Stored 1 6 508575248431 ∷ Entered 1 Rename (regs 265 48 0) (Barred 1) ∷ Denied 1 None EEXIST (cause.Filter 1) ∷
    Ended 1 ∷ [])
unfolding digits
a_new_directory_and_barred_renames = refl

abbrev a_link_is_read_and_addresses_are_faulty_input : Input
a_link_is_read_and_addresses_are_faulty_input = input (record { mode = Enforce; inherit = false; aliasing = true; ids = Some (0, 0); workers = 2 })
    (policy "/bin/noexec" (
    permits FsRead ∷ permits FsWrite ∷ permits (Rule.Call SetUid) ∷ permits (Rule.Call Socket) ∷ permits (Rule.Call Bind) ∷
    permits (Rule.Call Connect) ∷ []) ∷
    policy "/bin/sh" (
    when FsRead (test "filename" op.Match "/[a-z]/[!a-e]*") (action.Deny EPERM) ∷ denies FsWrite EEXIST ∷
    only_if (record { who = who.Group; cmp = cmp.Same; id = 1000 }) (permits FsWrite) ∷ when FsWrite (test "filename" op.Match "/w/*") action.Permit ∷
    permits (Rule.Call SetUid) ∷
    logged (granting (Some 0) (Some 0) (only_if (record { who = who.User; cmp = cmp.Same; id = 0 }) (permits (Rule.Call Bind)))) ∷
    when (Rule.Call Bind) (And (True) (True)) action.Permit ∷ when (Rule.Call Connect) (test "sockaddr" op.Match "inet-?[0.0.0.0]:80") action.Permit ∷
    permits (Rule.Call Connect) ∷ when (Rule.Call Connect) (And (True) (True)) action.Permit ∷ []) ∷ [])
    many_files
    (traced "/bin/sh" 5 5 "/w" ∷ traced "/bin/noexec" 0 0 "/w" ∷ [])
    (thread_in 1 (
    call Socket 3 2 0 ∷ Store 38 72058140840952336 ∷ call Bind 4 65536 0 ∷ call Bind 4 65536 0 ∷ call SetUid 4294967296 0 0 ∷ []) ∷
    thread_in 2 (
    put 544 "/d/rel" ++ call Readlink 544 0 1 ∷ put 0 "##/d/up/d/f" ++ call Mkdir 2 448 0 ∷ Store 56 4294902288 ∷ call Connect 1 448 0 ∷ []) ∷ [])
    (reply "/bin/noexec" (permits (Rule.Call GetPid)) ∷
    reply "/usr/bin/x" (logged (only_if (record { who = who.Group; cmp = cmp.Below; id = 1000 }) (denies FsRead EMFILE))) ∷
    reply "/bin/noexec" (granting (Some 4294967295) None (record {
      name = filter_name.Other (codes "ioctl");
      formula = Test
          (codes "filename") 3 op.Inpath (codes "x");
      action = action.Permit;
      grant = None;
      log = false;
      predicate = None;
    })) ∷
    reply "/bin/noexec" (logged (when (Rule.Call Open) (Or (Or
    (Or (Not (test "filename" op.Nsub "")) (Test (codes "filename") 0 op.Match ((47 ∷ 100 ∷ 47 ∷ 102 ∷ 92 ∷ []))))
    (test "filename" op.Nsub "/")) (And (test "filename" op.Eq "/nox/y") (test "filename" op.Inpath "/missing"))) (action.Deny EPERM))) ∷
    reply "/bin/sh" (granting (Some 0) None (when FsRead (test "filename" op.Match "") action.Permit)) ∷
    reply "/bin/a" (only_if (record { who = who.Group; cmp = cmp.Same; id = 5 }) (permits FsRead)) ∷
    reply "/d/f" (record {
      name = filter_name.Other (codes "__sysctl");
      formula = True;
      action = action.Deny EPERM;
      grant = None;
      log = false;
      predicate = None;
    }) ∷
    reply "/bin/sh" (granting (Some 67) (Some 1000) (only_if (record { who = who.User; cmp = cmp.Below; id = 0 }) (permits (Rule.Call Open)))) ∷
    reply "/bin/noexec" (record {
      name = filter_name.Other (codes "ioctl");
      formula = test "cmd" op.Match "x";
      action = action.Deny
          ENAMETOOLONG;
      grant = None;
      log = false;
      predicate = None;
    }) ∷
    reply "/bin/noexec" (when FsRead (test "filename" op.Sub "/d") action.Permit) ∷
    reply "/bin/sh" (record {
      name = filter_name.Other (codes "ioctl");
      formula = test "cmd" op.Neq "x";
      action = action.Permit;
      grant = None;
      log = false;
      predicate = None;
    }) ∷ [])

a_link_is_read_and_addresses_are_faulty : trace a_link_is_read_and_addresses_are_faulty_input (
    thread 1 1 ∷ worker 1 2 ∷ thread 2 3 ∷ thread 1 3 ∷ worker 1 2 ∷ thread 2 5 ∷ thread 1 2 ∷ worker 1 2 ∷ thread 2 2 ∷ thread 1 1 ∷
    thread 2 1 ∷ thread 1 3 ∷ [])
    ≡ Some (
    Entered 1 Socket (regs 3 2 0) (Held 1) ∷ Claimed 1 1 ∷
    Answered 1 (copies 1 1 (ids 0 0 0 0) "/bin/sh" (Rule.Call Socket) Socket (regs 3 2 0)
    (arg SockDom 0 "3" ∷ arg SockType 0 "SOCK_DGRAM" ∷ [])) Unmatched true ∷
    Stored 2 68 119182963205167 ∷ Entered 2 Readlink (regs 544 0 1) Fast ∷
    Used 2 None Readlink (regs 544 0 1) (arg Filename 0 "/d/rel" ∷ []) (ids 0 0 0 0) (Value 1) (Put 2 0 (codes "s") ∷ []) ∷
    Denied 1 (Some 1) EPERM NoFilter ∷ Stored 1 38 72058140840952336 ∷ Entered 1 Bind (regs 4 65536 0) (Held 2) ∷ Claimed 1 2 ∷
    Faulted 2 EFAULT ∷ Stored 2 0 3418360963578929955 ∷ Stored 2 1 6696804 ∷ Entered 2 Mkdir (regs 2 448 0) Fast ∷
    Used 2 None Mkdir (regs 2 448 0) (arg Filename 0 "/d/f" ∷ []) (ids 0 0 0 0) (Failed EEXIST) [] ∷ Stored 2 56 4294902288 ∷
    Denied 1 (Some 2) EFAULT cause.Fault ∷ Entered 1 Bind (regs 4 65536 0) (Held 3) ∷ Claimed 1 3 ∷ Faulted 3 EFAULT ∷
    Entered 2 Connect (regs 1 448 0) Fast ∷
    Used 2 None Connect (regs 1 448 0) (arg SockAddr 0 "inet-[0.0.0.0]:65535" ∷ []) (ids 0 0 0 0) (Failed EINVAL) [] ∷
    Denied 1 (Some 3) EFAULT cause.Fault ∷ Ended 2 ∷ Entered 1 SetUid (regs 4294967296 0 0) Fast ∷
    Used 1 None SetUid (regs 4294967296 0 0) (arg Uid 0 "4294967296" ∷ []) (ids 0 0 0 0) (Failed EINVAL) [] ∷ Ended 1 ∷ [])
unfolding digits
a_link_is_read_and_addresses_are_faulty = refl

abbrev a_denial_for_a_link_and_new_ids_under_four_workers_input : Input
a_denial_for_a_link_and_new_ids_under_four_workers_input = input (record { mode = AskText; inherit = false; aliasing = true; ids = None; workers = 4 })
    (policy "/bin/cat" (
    logged (permits FsRead) ∷ when FsWrite (test "filename" op.Sub "/") action.Permit ∷
    only_if (record { who = who.User; cmp = cmp.Same; id = 0 }) (permits (Rule.Call Link)) ∷
    logged (when (Rule.Call Chown) (test "filename" op.Match "/tmp/*") action.Permit) ∷ logged (permits (Rule.Call SetUid)) ∷
    permits (Rule.Call SetEgid) ∷ []) ∷ [])
    more_files
    (traced "/bin/cat" 0 0 "/d" ∷ untraced "/bin/evil" 0 0 "/" ∷ [])
    (thread_in 1 (
    put 64 "/d/f" ++ call Chown 64 7 0 ∷ []) ∷
    thread_in 1 (
    put 64 "/d/f" ++ put 128 "/d/f" ++ call Link 64 128 0 ∷ call SetEgid 0 0 0 ∷ call SetEuid 1000 0 0 ∷ call SetUid 1000 0 0 ∷
    put 128 "/d/f" ++ call Open 128 1024 420 ∷ []) ∷
    thread_in 2 (
    put 2048 "/d/f" ++ put 2112 "/d/secret" ++ put 2176 "/q0" ++ call Unlink 2048 0 0 ∷ call Symlink 2112 2048 0 ∷ put 2048 "/d/f" ++
    put 2112 "/d/secret" ++ put 2176 "/q1" ++ call Rename 2048 2176 0 ∷ call Symlink 2176 2048 0 ∷ put 2048 "/d/f" ++ put 2112 "/d/secret" ++
    put 2176 "/q2" ++ call Unlink 2048 0 0 ∷ call Symlink 2112 2048 0 ∷ []) ∷ [])
    (reply "/bin/cat" (logged (permits FsWrite)) ∷
    reply "/bin/cat" (when FsRead (Not (Not (Not (test "filename" op.Inpath "/w/h")))) action.Permit) ∷
    reply "/bin/cat" (when FsRead (test "filename" op.Match "/?/f") (action.Deny ENAMETOOLONG)) ∷ reply "/bin/cat" (permits FsWrite) ∷
    reply "/bin/cat" (when FsRead (And (Not (test "filename" op.Neq "/w/h"))
    (Test (codes "filename") 0 op.Match ((47 ∷ 119 ∷ 47 ∷ 92 ∷ 111 ∷ 119 ∷ 110 ∷ [])))) action.Permit) ∷
    reply "/bin/cat" (when FsRead (test "filename" op.Nsub "x") action.Permit) ∷
    reply "/bin/cat" (when FsRead (test "filename" op.Neq "/") action.Permit) ∷ reply "/bin/cat" (permits FsWrite) ∷ [])

a_denial_for_a_link_and_new_ids_under_four_workers : trace a_denial_for_a_link_and_new_ids_under_four_workers_input (
    thread 1 2 ∷ thread 2 3 ∷ worker 1 13 ∷ thread 3 16 ∷ thread 1 1 ∷ thread 2 1 ∷ thread 3 7 ∷ thread 1 1 ∷ thread 2 3 ∷ worker 3 2 ∷
    thread 2 2 ∷ worker 3 2 ∷ thread 2 3 ∷ worker 3 5 ∷ thread 2 2 ∷ thread 3 2 ∷ rest ∷ [])
    ≡ Some (
    Stored 1 8 1714381871 ∷ Entered 1 Chown (regs 64 7 0) (Held 1) ∷ Stored 2 8 1714381871 ∷ Stored 2 16 1714381871 ∷
    Entered 2 Link (regs 64 128 0) (Held 2) ∷ Claimed 1 1 ∷ Copied 1 0 8 1714381871 ∷ Looked 1 0 (name "/d") Dir ∷
    Looked 1 0 (name "/d/f") File ∷
    Answered 1 (copies 1 1 (ids 0 0 0 0) "/bin/cat" (Rule.Call Chown) Chown (regs 64 7 0)
    (arg Filename 0 "/d/f" ∷ arg Uid 0 "7" ∷ arg Gid 0 "0" ∷ [])) Unmatched true ∷
    Claimed 1 2 ∷ Copied 2 0 8 1714381871 ∷ Looked 2 0 (name "/d") Dir ∷ Looked 2 0 (name "/d/f") File ∷ Copied 2 1 16 1714381871 ∷
    Looked 2 1 (name "/d") Dir ∷ Looked 2 1 (name "/d/f") File ∷
    Answered 1 (copies 2 1 (ids 0 0 0 0) "/bin/cat" (Rule.Call Link) Link (regs 64 128 0) (arg Filename 0 "/d/f" ∷ arg Filename 1 "/d/f" ∷ []))
    (Permit 1 (ids 0 0 0 0)) true ∷
    Stored 3 256 1714381871 ∷ Stored 3 264 7310014432551068719 ∷ Stored 3 265 116 ∷ Stored 3 272 3174703 ∷
    Entered 3 Unlink (regs 2048 0 0) Untraced ∷
    Used 3 None Unlink (regs 2048 0 0) (arg Filename 0 "/d/f" ∷ []) (ids 0 0 0 0) (Value 0) (Removed (name "/d/f") ∷ []) ∷
    Entered 3 Symlink (regs 2112 2048 0) Untraced ∷
    Used 3 None Symlink (regs 2112 2048 0) (arg String 0 "/d/secret" ∷ arg Filename 0 "/d/f" ∷ []) (ids 0 0 0 0) (Value 0)
    (Made (name "/d/f") 38 (made.Link (codes "/d/secret")) 0 0 511 ∷ []) ∷
    Stored 3 256 1714381871 ∷ Stored 3 264 7310014432551068719 ∷ Stored 3 265 116 ∷ Stored 3 272 3240239 ∷
    Entered 3 Rename (regs 2048 2176 0) Untraced ∷
    Used 3 None Rename (regs 2048 2176 0) (arg Filename 0 "/d/f" ∷ arg Filename 1 "/q1" ∷ []) (ids 0 0 0 0) (Value 0)
    (Renamed (name "/d/f") (name "/q1") ∷ []) ∷
    Entered 3 Symlink (regs 2176 2048 0) Untraced ∷
    Used 3 None Symlink (regs 2176 2048 0) (arg String 0 "/q1" ∷ arg Filename 0 "/d/f" ∷ []) (ids 0 0 0 0) (Value 0)
    (Made (name "/d/f") 39 (made.Link (codes "/q1")) 0 0 511 ∷ []) ∷
    Denied 1 (Some 1) EPERM NoFilter ∷ Denied 2 (Some 2) ELOOP (cause.Link (name "/d/f")) ∷ Stored 3 256 1714381871 ∷
    Stored 3 264 7310014432551068719 ∷ Stored 3 265 116 ∷ Stored 3 272 3305775 ∷ Entered 3 Unlink (regs 2048 0 0) Untraced ∷
    Used 3 None Unlink (regs 2048 0 0) (arg Filename 0 "/d/f" ∷ []) (ids 0 0 0 0) (Value 0) (Removed (name "/d/f") ∷ []) ∷
    Entered 3 Symlink (regs 2112 2048 0) Untraced ∷ Ended 1 ∷ Entered 2 SetEgid (regs 0 0 0) Fast ∷
    Used 2 None SetEgid (regs 0 0 0) (arg Gid 0 "0" ∷ []) (ids 0 0 0 0) (Value 0) (SetIds (ids 0 0 0 0) ∷ []) ∷
    Entered 2 SetEuid (regs 1000 0 0) (Held 3) ∷ Claimed 3 3 ∷
    Answered 3 (copies 3 1 (ids 0 0 0 0) "/bin/cat" (Rule.Call SetEuid) SetEuid (regs 1000 0 0) (arg Uid 0 "1000" ∷ [])) Unmatched true ∷
    Denied 2 (Some 3) EPERM NoFilter ∷ Entered 2 SetUid (regs 1000 0 0) (Held 4) ∷ Claimed 3 4 ∷
    Answered 3 (copies 4 1 (ids 0 0 0 0) "/bin/cat" (Rule.Call SetUid) SetUid (regs 1000 0 0) (arg Uid 0 "1000" ∷ [])) (Permit 1 (ids 0 0 0 0)) true ∷
    Used 2 (Some 4) SetUid (regs 1000 0 0) (arg Uid 0 "1000" ∷ []) (ids 0 0 0 0) (Value 0) (SetIds (ids 1000 1000 0 0) ∷ []) ∷
    Stored 2 16 1714381871 ∷ Entered 2 Open (regs 128 1024 420) (Held 5) ∷ Claimed 3 5 ∷ Copied 5 0 16 1714381871 ∷
    Looked 5 0 (name "/d") Dir ∷ Looked 5 0 (name "/d/f") Missing ∷
    Answered 3 (copies 5 1 (ids 1000 1000 0 0) "/bin/cat" FsWrite Open (regs 128 1024 420) (arg Filename 0 "/d/f" ∷ []))
    (Permit 1 (ids 1000 1000 0 0)) true ∷
    Used 2 (Some 5) Open (regs 128 1024 420) (arg Filename 0 "/d/f" ∷ []) (ids 1000 1000 0 0) (Failed ENOENT) [] ∷ Ended 2 ∷
    Used 3 None Symlink (regs 2112 2048 0) (arg String 0 "/d/secret" ∷ arg Filename 0 "/d/f" ∷ []) (ids 0 0 0 0) (Value 0)
    (Made (name "/d/f") 40 (made.Link (codes "/d/secret")) 0 0 511 ∷ []) ∷
    Ended 3 ∷ [])
unfolding digits
a_denial_for_a_link_and_new_ids_under_four_workers = refl

abbrev replies_and_a_renewal_input : Input
replies_and_a_renewal_input = input (record { mode = AskText; inherit = false; aliasing = true; ids = None; workers = 1 })
    (policy "/bin/cat" (
    only_if (record { who = who.User; cmp = cmp.Same; id = 0 }) (permits FsRead) ∷
    only_if (record { who = who.User; cmp = cmp.Other; id = 67 }) (when FsWrite (Test (codes "filename") 0 op.Match ((47 ∷ 119 ∷ 47 ∷ 92 ∷ 111 ∷ 119 ∷ 110 ∷ []))) (action.Deny EPERM)) ∷
    logged (permits FsWrite) ∷ when (Rule.Call Link) (test "filename" op.Sub "/") action.Permit ∷ logged (permits (Rule.Call SetUid)) ∷
    logged (permits (Rule.Call SetEgid)) ∷ []) ∷ [])
    more_files
    (traced "/bin/cat" 0 0 "/tmp/e" ∷ untraced "/bin/evil" 0 0 "/" ∷ [])
    (thread_in 1 (
    put 0 "/w/own" ++ call Open 0 514 420 ∷ put 64 "/tmp/e/f" ++ call Access 64 4 0 ∷ put 64 "/tmp/f" ++ put 64 "/tmp/e/f" ++
    call Link 64 64 0 ∷ []) ∷
    thread_in 1 (
    call SetUid 1000 0 0 ∷ call SetEgid 1000 0 0 ∷ call SetEgid 1000 0 0 ∷ put 128 "/tmp/e/f" ++ []) ∷
    thread_in 1 (
    put 128 "/tmp/e" ++ put 64 "/tmp/e" ++ call Readlink 64 7 8 ∷ []) ∷
    thread_in 2 (
    put 2048 "/tmp/e" ++ put 2112 "/d/secret" ++ put 2176 "/q0" ++ call Unlink 2048 0 0 ∷ call Symlink 2112 2048 0 ∷ put 2048 "/tmp" ++
    put 2112 "/d/secret" ++ put 2176 "/q1" ++ call Open 2048 1538 0 ∷ []) ∷ [])
    (reply "/bin/cat" (permits FsWrite) ∷ reply "/bin/cat" (denies FsWrite EADDRINUSE) ∷ reply "/bin/cat" (permits FsRead) ∷
    reply "/bin/cat" (when FsWrite (test "filename" op.Match "") action.Permit) ∷
    reply "/bin/cat" (when (Rule.Call SetEgid) (test "gid" op.Nsub "?") action.Permit) ∷ reply "/bin/cat" (denies FsWrite EPERM) ∷
    reply "/bin/cat" (when (Rule.Call Chdir) (test "filename" op.Nsub "x") (action.Deny ESRCH)) ∷
    reply "/bin/cat" (when FsRead (test "filename" op.Nsub "s") action.Permit) ∷
    reply "/bin/cat" (when (Rule.Call GetPid) (Not (Or (And (True) (True)) (And (Or (True) (True)) (True)))) action.Permit) ∷
    reply "/bin/cat" (only_if (record { who = who.User; cmp = cmp.Same; id = 0 }) (permits FsRead)) ∷ [])

replies_and_a_renewal : trace replies_and_a_renewal_input (
    thread 1 1 ∷ thread 4 1 ∷ thread 1 1 ∷ thread 2 1 ∷ worker 1 1 ∷ thread 3 2 ∷ thread 4 1 ∷ worker 1 2 ∷ thread 4 2 ∷ worker 1 2 ∷
    thread 3 1 ∷ worker 1 2 ∷ thread 1 1 ∷ thread 2 1 ∷ thread 4 1 ∷ worker 1 1 ∷ thread 2 1 ∷ thread 4 1 ∷ worker 1 2 ∷ thread 4 3 ∷
    worker 1 1 ∷ thread 1 1 ∷ thread 4 1 ∷ worker 1 1 ∷ operator 1 ∷ worker 1 2 ∷ thread 3 2 ∷ thread 4 1 ∷ thread 2 1 ∷ thread 1 1 ∷
    thread 2 1 ∷ thread 1 1 ∷ thread 4 1 ∷ worker 1 2 ∷ thread 4 2 ∷ worker 1 1 ∷ thread 2 1 ∷ thread 4 1 ∷ worker 1 2 ∷ thread 2 2 ∷ rest ∷ [])
    ≡ Some (
    Stored 1 0 121459245545263 ∷ Stored 4 256 111254424089647 ∷ Entered 1 Open (regs 0 514 420) (Held 1) ∷
    Entered 2 SetUid (regs 1000 0 0) (Held 2) ∷ Claimed 1 1 ∷ Stored 3 16 111254424089647 ∷ Stored 3 8 111254424089647 ∷
    Stored 4 264 7310014432551068719 ∷ Copied 1 0 0 121459245545263 ∷ Looked 1 0 (name "/w") Dir ∷ Stored 4 265 116 ∷ Stored 4 272 3174703 ∷
    Looked 1 0 (name "/w/own") File ∷
    Answered 1 (copies 1 1 (ids 0 0 0 0) "/bin/cat" FsWrite Open (regs 0 514 420) (arg Filename 0 "/w/own" ∷ [])) (Refuse 1 EPERM) true ∷
    Entered 3 Readlink (regs 64 7 8) (Held 3) ∷ Claimed 1 2 ∷
    Answered 1 (copies 2 1 (ids 0 0 0 0) "/bin/cat" (Rule.Call SetUid) SetUid (regs 1000 0 0) (arg Uid 0 "1000" ∷ [])) (Permit 1 (ids 0 0 0 0)) true ∷
    Denied 1 (Some 1) EPERM (cause.Filter 1) ∷
    Used 2 (Some 2) SetUid (regs 1000 0 0) (arg Uid 0 "1000" ∷ []) (ids 0 0 0 0) (Value 0) (SetIds (ids 1000 1000 0 0) ∷ Renewed 3 4 ∷ []) ∷
    Entered 4 Unlink (regs 2048 0 0) Untraced ∷ Claimed 1 4 ∷ Entered 2 SetEgid (regs 1000 0 0) (Held 5) ∷
    Used 4 None Unlink (regs 2048 0 0) (arg Filename 0 "/tmp/e" ∷ []) (ids 0 0 0 0) (Failed EPERM) [] ∷ Copied 4 0 8 111254424089647 ∷
    Looked 4 0 (name "/tmp") Dir ∷ Entered 4 Symlink (regs 2112 2048 0) Untraced ∷
    Used 4 None Symlink (regs 2112 2048 0) (arg String 0 "/d/secret" ∷ arg Filename 0 "/tmp/e" ∷ []) (ids 0 0 0 0) (Failed EEXIST) [] ∷
    Stored 4 256 1886221359 ∷ Looked 4 0 (name "/tmp/e") Dir ∷ Stored 1 8 7363215170198139951 ∷ Stored 4 264 7310014432551068719 ∷
    Answered 1 (copies 4 1 (ids 1000 1000 0 0) "/bin/cat" FsRead Readlink (regs 64 7 8) (arg Filename 0 "/tmp/e" ∷ [])) Unmatched true ∷
    Replied 4 3 2 ∷ Claimed 1 5 ∷
    Answered 1 (copies 5 1 (ids 1000 1000 0 0) "/bin/cat" (Rule.Call SetEgid) SetEgid (regs 1000 0 0) (arg Gid 0 "1000" ∷ []))
    (Permit 1 (ids 1000 1000 0 0)) true ∷
    Used 3 (Some 4) Readlink (regs 64 7 8) (arg Filename 0 "/tmp/e" ∷ []) (ids 1000 1000 0 0) (Failed EINVAL) [] ∷ Ended 3 ∷ Stored 4 265 116 ∷
    Used 2 (Some 5) SetEgid (regs 1000 0 0) (arg Gid 0 "1000" ∷ []) (ids 1000 1000 0 0) (Failed EPERM) [] ∷ Stored 1 9 0 ∷
    Entered 2 SetEgid (regs 1000 0 0) (Held 6) ∷ Entered 1 Access (regs 64 4 0) (Held 7) ∷ Stored 4 272 3240239 ∷ Claimed 1 6 ∷
    Answered 1 (copies 6 1 (ids 1000 1000 0 0) "/bin/cat" (Rule.Call SetEgid) SetEgid (regs 1000 0 0) (arg Gid 0 "1000" ∷ []))
    (Permit 1 (ids 1000 1000 0 0)) true ∷
    Entered 4 Open (regs 2048 1538 0) Untraced ∷
    Used 4 None Open (regs 2048 1538 0) (arg Filename 0 "/tmp" ∷ []) (ids 0 0 0 0) (Failed EISDIR) [] ∷ Claimed 1 7 ∷
    Used 2 (Some 6) SetEgid (regs 1000 0 0) (arg Gid 0 "1000" ∷ []) (ids 1000 1000 0 0) (Failed EPERM) [] ∷ Ended 4 ∷
    Copied 7 0 8 7363215170198139951 ∷ Copied 7 0 9 0 ∷ Stored 2 16 7363215170198139951 ∷ Stored 2 17 0 ∷ Ended 2 ∷
    Looked 7 0 (name "/tmp") Dir ∷ Looked 7 0 (name "/tmp/e") Dir ∷ Looked 7 0 (name "/tmp/e/f") File ∷
    Answered 1 (copies 7 1 (ids 1000 1000 0 0) "/bin/cat" FsRead Access (regs 64 4 0) (arg Filename 0 "/tmp/e/f" ∷ [])) Unmatched true ∷
    Used 1 (Some 7) Access (regs 64 4 0) (arg Filename 0 "/tmp/e/f" ∷ []) (ids 1000 1000 0 0) (Value 0) [] ∷ Stored 1 8 112353935717423 ∷
    Stored 1 8 7363215170198139951 ∷ Stored 1 9 0 ∷ Entered 1 Link (regs 64 64 0) (Held 8) ∷ Claimed 1 8 ∷ Copied 8 0 8 7363215170198139951 ∷
    Copied 8 0 9 0 ∷ Looked 8 0 (name "/tmp") Dir ∷ Looked 8 0 (name "/tmp/e") Dir ∷ Looked 8 0 (name "/tmp/e/f") File ∷
    Copied 8 1 8 7363215170198139951 ∷ Copied 8 1 9 0 ∷ Looked 8 1 (name "/tmp") Dir ∷ Looked 8 1 (name "/tmp/e") Dir ∷
    Looked 8 1 (name "/tmp/e/f") File ∷
    Answered 1 (copies 8 1 (ids 1000 1000 0 0) "/bin/cat" (Rule.Call Link) Link (regs 64 64 0)
    (arg Filename 0 "/tmp/e/f" ∷ arg Filename 1 "/tmp/e/f" ∷ [])) (Permit 1 (ids 1000 1000 0 0)) true ∷
    Used 1 (Some 8) Link (regs 64 64 0) (arg Filename 0 "/tmp/e/f" ∷ arg Filename 1 "/tmp/e/f" ∷ []) (ids 1000 1000 0 0) (Failed EEXIST) [] ∷
    Ended 1 ∷ [])
unfolding digits
replies_and_a_renewal = refl

abbrev a_directory_renamed_under_held_names_input : Input
a_directory_renamed_under_held_names_input = input (record { mode = Enforce; inherit = false; aliasing = true; ids = None; workers = 1 })
    (policy "/bin/cat" (
    logged (when FsWrite (test "filename" op.Match "/tmp/*") action.Permit) ∷ when (Rule.Call Link) (test "filename" op.Sub "/") action.Permit ∷
    logged (permits (Rule.Call Chdir)) ∷ logged (permits (Rule.Call SetEgid)) ∷ []) ∷ [])
    more_files
    (traced "/bin/cat" 0 0 "/d" ∷ untraced "/bin/evil" 0 0 "/" ∷ [])
    (thread_in 1 (
    put 128 "/tmp/f" ++ call Chdir 128 0 8 ∷ put 0 "f" ++ put 128 "/tmp/f" ++ call Link 0 128 0 ∷ put 128 "e/f" ++ put 0 "/w/own" ++
    call Link 128 0 0 ∷ put 0 "/tmp/f" ++ call Mkdir 0 7 8 ∷ []) ∷
    thread_in 1 (
    call SetEgid 0 0 0 ∷ []) ∷
    thread_in 2 (
    put 2048 "/tmp" ++ put 2112 "/d/secret" ++ put 2176 "/q0" ++ call Unlink 2048 0 0 ∷ put 2048 "/tmp/f" ++ put 2112 "/d/secret" ++
    put 2176 "/q1" ++ call Unlink 2048 0 0 ∷ call Symlink 2112 2048 0 ∷ put 2048 "/tmp" ++ put 2112 "/d/secret" ++ put 2176 "/q2" ++
    call Rename 2048 2176 0 ∷ call Symlink 2176 2048 0 ∷ []) ∷ [])
    []

a_directory_renamed_under_held_names : trace a_directory_renamed_under_held_names_input (
    thread 3 6 ∷ thread 1 2 ∷ worker 1 5 ∷ thread 2 1 ∷ worker 1 2 ∷ thread 1 2 ∷ thread 3 8 ∷ thread 2 2 ∷ thread 1 2 ∷ worker 1 1 ∷
    thread 3 9 ∷ worker 1 7 ∷ thread 1 4 ∷ worker 1 4 ∷ thread 1 3 ∷ worker 1 6 ∷ thread 1 2 ∷ rest ∷ [])
    ≡ Some (
    Stored 3 256 1886221359 ∷ Stored 3 264 7310014432551068719 ∷ Stored 3 265 116 ∷ Stored 3 272 3174703 ∷
    Entered 3 Unlink (regs 2048 0 0) Untraced ∷
    Used 3 None Unlink (regs 2048 0 0) (arg Filename 0 "/tmp" ∷ []) (ids 0 0 0 0) (Failed EPERM) [] ∷ Stored 1 16 112353935717423 ∷
    Entered 1 Chdir (regs 128 0 8) (Held 1) ∷ Claimed 1 1 ∷ Copied 1 0 16 112353935717423 ∷ Looked 1 0 (name "/tmp") Dir ∷
    Looked 1 0 (name "/tmp/f") File ∷
    Answered 1 (copies 1 1 (ids 0 0 0 0) "/bin/cat" (Rule.Call Chdir) Chdir (regs 128 0 8) (arg Filename 0 "/tmp/f" ∷ []))
    (Permit 1 (ids 0 0 0 0)) true ∷
    Entered 2 SetEgid (regs 0 0 0) (Held 2) ∷ Claimed 1 2 ∷
    Answered 1 (copies 2 1 (ids 0 0 0 0) "/bin/cat" (Rule.Call SetEgid) SetEgid (regs 0 0 0) (arg Gid 0 "0" ∷ [])) (Permit 1 (ids 0 0 0 0)) true ∷
    Used 1 (Some 1) Chdir (regs 128 0 8) (arg Filename 0 "/tmp/f" ∷ []) (ids 0 0 0 0) (Failed ENOTDIR) [] ∷ Stored 1 0 102 ∷
    Stored 3 256 112353935717423 ∷ Stored 3 264 7310014432551068719 ∷ Stored 3 265 116 ∷ Stored 3 272 3240239 ∷
    Entered 3 Unlink (regs 2048 0 0) Untraced ∷
    Used 3 None Unlink (regs 2048 0 0) (arg Filename 0 "/tmp/f" ∷ []) (ids 0 0 0 0) (Value 0) (Removed (name "/tmp/f") ∷ []) ∷
    Entered 3 Symlink (regs 2112 2048 0) Untraced ∷
    Used 3 None Symlink (regs 2112 2048 0) (arg String 0 "/d/secret" ∷ arg Filename 0 "/tmp/f" ∷ []) (ids 0 0 0 0) (Value 0)
    (Made (name "/tmp/f") 38 (made.Link (codes "/d/secret")) 0 0 511 ∷ []) ∷
    Used 2 (Some 2) SetEgid (regs 0 0 0) (arg Gid 0 "0" ∷ []) (ids 0 0 0 0) (Value 0) (SetIds (ids 0 0 0 0) ∷ []) ∷ Ended 2 ∷
    Stored 1 16 112353935717423 ∷ Entered 1 Link (regs 0 128 0) (Held 3) ∷ Claimed 1 3 ∷ Stored 3 256 1886221359 ∷
    Stored 3 264 7310014432551068719 ∷ Stored 3 265 116 ∷ Stored 3 272 3305775 ∷ Entered 3 Rename (regs 2048 2176 0) Untraced ∷
    Used 3 None Rename (regs 2048 2176 0) (arg Filename 0 "/tmp" ∷ arg Filename 1 "/q2" ∷ []) (ids 0 0 0 0) (Value 0)
    (Renamed (name "/tmp") (name "/q2") ∷ []) ∷
    Entered 3 Symlink (regs 2176 2048 0) Untraced ∷
    Used 3 None Symlink (regs 2176 2048 0) (arg String 0 "/q2" ∷ arg Filename 0 "/tmp" ∷ []) (ids 0 0 0 0) (Value 0)
    (Made (name "/tmp") 39 (made.Link (codes "/q2")) 0 0 511 ∷ []) ∷
    Ended 3 ∷ Copied 3 0 0 102 ∷ Looked 3 0 (name "/d/f") File ∷ Copied 3 1 16 112353935717423 ∷
    Looked 3 1 (name "/tmp") (seen.Link (codes "/q2")) ∷ Looked 3 1 (name "/q2") Dir ∷ Looked 3 1 (name "/q2/f") (seen.Link (codes "/d/secret")) ∷
    Answered 1 (copies 3 1 (ids 0 0 0 0) "/bin/cat" (Rule.Call Link) Link (regs 0 128 0) (arg Filename 0 "/d/f" ∷ arg Filename 1 "/q2/f" ∷ []))
    (Permit 1 (ids 0 0 0 0)) true ∷
    Used 1 (Some 3) Link (regs 0 128 0) (arg Filename 0 "/d/f" ∷ arg Filename 1 "/q2/f" ∷ []) (ids 0 0 0 0) (Failed EEXIST) [] ∷
    Stored 1 16 6696805 ∷ Stored 1 0 121459245545263 ∷ Entered 1 Link (regs 128 0 0) (Held 4) ∷ Claimed 1 4 ∷ Copied 4 0 16 6696805 ∷
    Looked 4 0 (name "/d/e") Missing ∷ Faulted 4 ENOENT ∷ Denied 1 (Some 4) ENOENT cause.Fault ∷ Stored 1 0 112353935717423 ∷
    Entered 1 Mkdir (regs 0 7 8) (Held 5) ∷ Claimed 1 5 ∷ Copied 5 0 0 112353935717423 ∷ Looked 5 0 (name "/tmp") (seen.Link (codes "/q2")) ∷
    Looked 5 0 (name "/q2") Dir ∷ Looked 5 0 (name "/q2/f") (seen.Link (codes "/d/secret")) ∷
    Answered 1 (copies 5 1 (ids 0 0 0 0) "/bin/cat" FsWrite Mkdir (regs 0 7 8) (arg Filename 0 "/q2/f" ∷ [])) Unmatched true ∷
    Denied 1 (Some 5) EPERM NoFilter ∷ Ended 1 ∷ [])
unfolding digits
a_directory_renamed_under_held_names = refl

abbrev a_reply_and_many_denials_input : Input
a_reply_and_many_denials_input = input (record { mode = AskText; inherit = true; aliasing = true; ids = None; workers = 1 })
    []
    many_files
    (traced "/bin/noexec" 1000 1000 "/d/sub" ∷ traced "/usr/bin/x" 1000 1000 "/d" ∷ [])
    (thread_in 1 (
    put 96 "/d/rel" ++ call Unlink 96 0 0 ∷ put 144 "/tmp/m" ++ call Unlink 144 0 0 ∷ []) ∷
    thread_in 2 (
    call SetEuid 1000 0 0 ∷ call Readlink 496 8 20 ∷ put 448 "##/w/own" ++ put 448 "/tmp/l/g" ++ call Link 450 448 0 ∷ []) ∷
    thread_in 2 (
    call GetPid 0 0 0 ∷ call Open 784 3584 384 ∷ []) ∷
    thread_in 2 (
    call GetEuid 0 0 0 ∷ call Socket 2 3 0 ∷ Store 104 2417951248 ∷ call Bind 0 832 0 ∷ Store 122 72058140840952336 ∷ call Connect 4 976 0 ∷
    call Connect 4 976 0 ∷ call Connect 4 48 0 ∷ []) ∷ [])
    (reply "/bin/sh" (denies (Rule.Call Open) EISDIR) ∷ reply "/usr/bin/x" (permits FsRead) ∷
    reply "/usr/bin/x" (when FsRead (test "filename" op.Nsub "tmp") action.Permit) ∷ reply "/usr/bin/x" (permits (Rule.Call GetPid)) ∷
    reply "/bin/noexec" (when FsRead (test "filename" op.Match "/d") (action.Deny EPERM)) ∷ reply "/bin/noexec" (permits FsRead) ∷ [])

a_reply_and_many_denials : trace a_reply_and_many_denials_input (
    thread 3 1 ∷ thread 4 1 ∷ worker 1 4 ∷ thread 1 2 ∷ thread 2 1 ∷ thread 4 1 ∷ operator 1 ∷ thread 4 1 ∷ thread 3 2 ∷ worker 1 5 ∷
    thread 1 3 ∷ worker 1 2 ∷ thread 2 2 ∷ worker 1 2 ∷ thread 4 3 ∷ worker 1 3 ∷ thread 3 2 ∷ worker 1 5 ∷ thread 1 2 ∷ worker 1 3 ∷
    thread 2 6 ∷ worker 1 3 ∷ thread 4 1 ∷ worker 1 5 ∷ thread 2 2 ∷ thread 4 2 ∷ worker 1 3 ∷ thread 4 2 ∷ worker 1 3 ∷ thread 4 2 ∷
    worker 1 3 ∷ thread 4 2 ∷ [])
    ≡ Some (
    Entered 3 GetPid (regs 0 0 0) (Held 1) ∷ Entered 4 GetEuid (regs 0 0 0) (Held 2) ∷ Claimed 1 1 ∷
    Answered 1 (copies 1 2 (ids 1000 1000 1000 1000) "/usr/bin/x" (Rule.Call GetPid) GetPid (regs 0 0 0) []) Unmatched true ∷ Claimed 1 2 ∷
    Answered 1 (copies 2 2 (ids 1000 1000 1000 1000) "/usr/bin/x" (Rule.Call GetEuid) GetEuid (regs 0 0 0) []) Unmatched true ∷
    Stored 1 12 119182963205167 ∷ Entered 1 Unlink (regs 96 0 0) (Held 3) ∷ Entered 2 SetEuid (regs 1000 0 0) (Held 4) ∷
    Denied 4 (Some 2) EPERM NoFilter ∷ Replied 1 4 1 ∷ Entered 4 Socket (regs 2 3 0) (Held 5) ∷
    Used 3 (Some 1) GetPid (regs 0 0 0) [] (ids 1000 1000 1000 1000) (Value 2) [] ∷ Entered 3 Open (regs 784 3584 384) (Held 6) ∷ Claimed 1 3 ∷
    Copied 3 0 12 119182963205167 ∷ Looked 3 0 (name "/d") Dir ∷ Looked 3 0 (name "/d/rel") (seen.Link (codes "sub/../f")) ∷
    Answered 1 (copies 3 1 (ids 1000 1000 1000 1000) "/bin/noexec" FsWrite Unlink (regs 96 0 0) (arg Filename 0 "/d/rel" ∷ [])) Unmatched true ∷
    Denied 1 (Some 3) EPERM NoFilter ∷ Stored 1 18 120050517111855 ∷ Entered 1 Unlink (regs 144 0 0) (Held 7) ∷ Claimed 1 4 ∷
    Answered 1 (copies 4 2 (ids 1000 1000 1000 1000) "/usr/bin/x" (Rule.Call SetEuid) SetEuid (regs 1000 0 0) (arg Uid 0 "1000" ∷ [])) Unmatched
    true ∷
    Denied 2 (Some 4) EPERM NoFilter ∷ Entered 2 Readlink (regs 496 8 20) (Held 8) ∷ Claimed 1 5 ∷
    Answered 1 (copies 5 2 (ids 1000 1000 1000 1000) "/usr/bin/x" (Rule.Call Socket) Socket (regs 2 3 0)
    (arg SockDom 0 "AF_INET" ∷ arg SockType 0 "3" ∷ [])) Unmatched true ∷
    Denied 4 (Some 5) EPERM NoFilter ∷ Stored 4 104 2417951248 ∷ Entered 4 Bind (regs 0 832 0) (Held 9) ∷ Claimed 1 6 ∷ Copied 6 0 98 0 ∷
    Faulted 6 ENOENT ∷ Denied 3 (Some 6) ENOENT cause.Fault ∷ Ended 3 ∷ Claimed 1 7 ∷ Copied 7 0 18 120050517111855 ∷
    Looked 7 0 (name "/tmp") Dir ∷ Looked 7 0 (name "/tmp/m") Missing ∷
    Answered 1 (copies 7 1 (ids 1000 1000 1000 1000) "/bin/noexec" FsWrite Unlink (regs 144 0 0) (arg Filename 0 "/tmp/m" ∷ [])) Unmatched true ∷
    Denied 1 (Some 7) EPERM NoFilter ∷ Ended 1 ∷ Claimed 1 8 ∷ Copied 8 0 62 0 ∷ Faulted 8 ENOENT ∷ Denied 2 (Some 8) ENOENT cause.Fault ∷
    Stored 2 56 7959953116054364963 ∷ Stored 2 57 0 ∷ Stored 2 56 7435280460817462319 ∷ Stored 2 57 0 ∷
    Entered 2 Link (regs 450 448 0) (Held 10) ∷ Claimed 1 9 ∷ Copied 9 0 104 2417951248 ∷
    Answered 1 (copies 9 2 (ids 1000 1000 1000 1000) "/usr/bin/x" (Rule.Call Bind) Bind (regs 0 832 0)
    (arg SockAddr 0 "inet-[0.0.0.0]:8080" ∷ [])) Unmatched true ∷
    Denied 4 (Some 9) EPERM NoFilter ∷ Claimed 1 10 ∷ Copied 10 0 56 7435280460817462319 ∷ Copied 10 0 57 0 ∷
    Looked 10 0 (name "/d/mp") Missing ∷ Faulted 10 ENOENT ∷ Denied 2 (Some 10) ENOENT cause.Fault ∷ Ended 2 ∷ Stored 4 122 72058140840952336 ∷
    Entered 4 Connect (regs 4 976 0) (Held 11) ∷ Claimed 1 11 ∷ Copied 11 0 122 72058140840952336 ∷
    Answered 1 (copies 11 2 (ids 1000 1000 1000 1000) "/usr/bin/x" (Rule.Call Connect) Connect (regs 4 976 0)
    (arg SockAddr 0 "inet-[127.0.0.1]:80" ∷ [])) Unmatched true ∷
    Denied 4 (Some 11) EPERM NoFilter ∷ Entered 4 Connect (regs 4 976 0) (Held 12) ∷ Claimed 1 12 ∷ Copied 12 0 122 72058140840952336 ∷
    Answered 1 (copies 12 2 (ids 1000 1000 1000 1000) "/usr/bin/x" (Rule.Call Connect) Connect (regs 4 976 0)
    (arg SockAddr 0 "inet-[127.0.0.1]:80" ∷ [])) Unmatched true ∷
    Denied 4 (Some 12) EPERM NoFilter ∷ Entered 4 Connect (regs 4 48 0) (Held 13) ∷ Claimed 1 13 ∷ Copied 13 0 6 0 ∷ Faulted 13 EINVAL ∷
    Denied 4 (Some 13) EINVAL cause.Fault ∷ Ended 4 ∷ [])
unfolding digits
a_reply_and_many_denials = refl

abbrev renewals_and_cut_files_under_four_workers_input : Input
renewals_and_cut_files_under_four_workers_input = input (record { mode = AskText; inherit = true; aliasing = true; ids = None; workers = 4 })
    (policy "/bin/cat" (
    logged (permits FsRead) ∷ logged (permits FsWrite) ∷ logged (permits (Rule.Call Chdir)) ∷
    when (Rule.Call Chown) (test "gid" op.Inpath "0") action.Permit ∷
    only_if (record { who = who.User; cmp = cmp.Same; id = 0 }) (permits (Rule.Call Chown)) ∷ logged (permits (Rule.Call Truncate)) ∷
    logged (permits (Rule.Call SetEuid)) ∷ logged (permits (Rule.Call SetEgid)) ∷ []) ∷ [])
    more_files
    (traced "/bin/cat" 1000 1000 "/tmp/e" ∷ untraced "/bin/evil" 0 0 "/" ∷ [])
    (thread_in 1 (
    put 128 "/w/own" ++ call Open 128 1024 420 ∷ put 128 "/d/f" ++ call Chown 128 7 0 ∷ put 128 "/d/f" ++ call Lstat 128 4 8 ∷
    put 0 "/tmp/f" ++ call Mkdir 0 4 8 ∷ []) ∷
    thread_in 1 (
    put 128 "/d/f" ++ call Truncate 128 4 0 ∷ put 64 "/d/f" ++ call Chdir 64 0 0 ∷ put 0 "/d/sub/g" ++ call Chown 0 7 0 ∷ []) ∷
    thread_in 1 (
    call SetEuid 1000 0 0 ∷ call SetEgid 0 0 0 ∷ call SetEgid 1000 0 0 ∷ []) ∷
    thread_in 2 (
    put 2048 "/d/f" ++ put 2112 "/d/secret" ++ put 2176 "/q0" ++ call Open 2048 1538 0 ∷ put 2048 "/d" ++ put 2112 "/d/secret" ++
    put 2176 "/q1" ++ call Kill 1 9 0 ∷ put 2048 "/d/f" ++ put 2112 "/d/secret" ++ put 2176 "/q2" ++ call Open 2048 1538 0 ∷ []) ∷ [])
    (reply "/bin/cat" (denies FsWrite EEXIST) ∷ reply "/bin/cat" (permits FsRead) ∷
    reply "/bin/cat" (only_if (record { who = who.Group; cmp = cmp.Below; id = 5 }) (permits (Rule.Call Readlink))) ∷
    reply "/bin/cat" (permits FsRead) ∷ reply "/bin/cat" (when FsRead (test "filename" op.Inpath "/d/secret") action.Permit) ∷
    reply "/bin/cat" (when FsRead (test "filename" op.Match "/?/f") action.Permit) ∷ reply "/bin/cat" (permits (Rule.Call GetPid)) ∷ [])

renewals_and_cut_files_under_four_workers : trace renewals_and_cut_files_under_four_workers_input (
    thread 1 2 ∷ worker 3 5 ∷ thread 1 1 ∷ thread 3 1 ∷ thread 1 2 ∷ worker 3 2 ∷ thread 3 2 ∷ thread 2 2 ∷ worker 1 5 ∷ thread 1 3 ∷
    worker 1 1 ∷ worker 3 10 ∷ thread 1 3 ∷ worker 3 5 ∷ thread 1 2 ∷ worker 1 1 ∷ thread 3 2 ∷ worker 3 2 ∷ thread 3 2 ∷ worker 3 5 ∷
    thread 2 3 ∷ worker 3 5 ∷ thread 2 4 ∷ worker 3 7 ∷ thread 2 2 ∷ thread 4 19 ∷ rest ∷ [])
    ≡ Some (
    Stored 1 16 121459245545263 ∷ Entered 1 Open (regs 128 1024 420) (Held 1) ∷ Claimed 3 1 ∷ Copied 1 0 16 121459245545263 ∷
    Looked 1 0 (name "/w") Dir ∷ Looked 1 0 (name "/w/own") File ∷
    Answered 3 (copies 1 1 (ids 1000 1000 1000 1000) "/bin/cat" FsWrite Open (regs 128 1024 420) (arg Filename 0 "/w/own" ∷ []))
    (Permit 1 (ids 1000 1000 1000 1000)) true ∷
    Used 1 (Some 1) Open (regs 128 1024 420) (arg Filename 0 "/w/own" ∷ []) (ids 1000 1000 1000 1000) (Value 3) (Cut 12 0 ∷ []) ∷
    Entered 3 SetEuid (regs 1000 0 0) (Held 2) ∷ Stored 1 16 1714381871 ∷ Entered 1 Chown (regs 128 7 0) (Held 3) ∷ Claimed 3 2 ∷
    Answered 3 (copies 2 1 (ids 1000 1000 1000 1000) "/bin/cat" (Rule.Call SetEuid) SetEuid (regs 1000 0 0) (arg Uid 0 "1000" ∷ []))
    (Permit 1 (ids 1000 1000 1000 1000)) true ∷
    Used 3 (Some 2) SetEuid (regs 1000 0 0) (arg Uid 0 "1000" ∷ []) (ids 1000 1000 1000 1000) (Value 0)
    (SetIds (ids 1000 1000 1000 1000) ∷ Renewed 3 4 ∷ []) ∷
    Entered 3 SetEgid (regs 0 0 0) (Held 5) ∷ Stored 2 16 1714381871 ∷ Entered 2 Truncate (regs 128 4 0) (Held 6) ∷ Claimed 1 4 ∷
    Copied 4 0 16 1714381871 ∷ Looked 4 0 (name "/d") Dir ∷ Looked 4 0 (name "/d/f") File ∷
    Answered 1 (copies 4 1 (ids 1000 1000 1000 1000) "/bin/cat" (Rule.Call Chown) Chown (regs 128 7 0)
    (arg Filename 0 "/d/f" ∷ arg Uid 0 "7" ∷ arg Gid 0 "0" ∷ [])) (Permit 1 (ids 1000 1000 1000 1000)) true ∷
    Used 1 (Some 4) Chown (regs 128 7 0) (arg Filename 0 "/d/f" ∷ arg Uid 0 "7" ∷ arg Gid 0 "0" ∷ []) (ids 1000 1000 1000 1000) (Failed EPERM) [] ∷
    Stored 1 16 1714381871 ∷ Entered 1 Lstat (regs 128 4 8) (Held 7) ∷ Claimed 1 5 ∷ Claimed 3 6 ∷ Copied 6 0 16 1714381871 ∷
    Looked 6 0 (name "/d") Dir ∷ Looked 6 0 (name "/d/f") File ∷
    Answered 3 (copies 6 1 (ids 1000 1000 1000 1000) "/bin/cat" (Rule.Call Truncate) Truncate (regs 128 4 0) (arg Filename 0 "/d/f" ∷ []))
    (Permit 1 (ids 1000 1000 1000 1000)) true ∷
    Claimed 3 7 ∷ Copied 7 0 16 1714381871 ∷ Looked 7 0 (name "/d") Dir ∷ Looked 7 0 (name "/d/f") File ∷
    Answered 3 (copies 7 1 (ids 1000 1000 1000 1000) "/bin/cat" FsRead Lstat (regs 128 4 8) (arg Filename 0 "/d/f" ∷ []))
    (Permit 1 (ids 1000 1000 1000 1000)) true ∷
    Used 1 (Some 7) Lstat (regs 128 4 8) (arg Filename 0 "/d/f" ∷ []) (ids 1000 1000 1000 1000) (Failed EFAULT) [] ∷
    Stored 1 0 112353935717423 ∷ Entered 1 Mkdir (regs 0 4 8) (Held 8) ∷ Claimed 3 8 ∷ Copied 8 0 0 112353935717423 ∷
    Looked 8 0 (name "/tmp") Dir ∷ Looked 8 0 (name "/tmp/f") File ∷
    Answered 3 (copies 8 1 (ids 1000 1000 1000 1000) "/bin/cat" FsWrite Mkdir (regs 0 4 8) (arg Filename 0 "/tmp/f" ∷ []))
    (Permit 1 (ids 1000 1000 1000 1000)) true ∷
    Used 1 (Some 8) Mkdir (regs 0 4 8) (arg Filename 0 "/tmp/f" ∷ []) (ids 1000 1000 1000 1000) (Failed EEXIST) [] ∷ Ended 1 ∷
    Answered 1 (copies 5 1 (ids 1000 1000 1000 1000) "/bin/cat" (Rule.Call SetEgid) SetEgid (regs 0 0 0) (arg Gid 0 "0" ∷ []))
    (Permit 1 (ids 1000 1000 1000 1000)) true ∷
    Used 3 (Some 5) SetEgid (regs 0 0 0) (arg Gid 0 "0" ∷ []) (ids 1000 1000 1000 1000) (Failed EPERM) [] ∷
    Entered 3 SetEgid (regs 1000 0 0) (Held 9) ∷ Claimed 3 9 ∷
    Answered 3 (copies 9 1 (ids 1000 1000 1000 1000) "/bin/cat" (Rule.Call SetEgid) SetEgid (regs 1000 0 0) (arg Gid 0 "1000" ∷ []))
    (Permit 1 (ids 1000 1000 1000 1000)) true ∷
    Used 3 (Some 9) SetEgid (regs 1000 0 0) (arg Gid 0 "1000" ∷ []) (ids 1000 1000 1000 1000) (Value 0)
    (SetIds (ids 1000 1000 1000 1000) ∷ Renewed 6 10 ∷ []) ∷
    Ended 3 ∷ Claimed 3 10 ∷ Copied 10 0 16 1714381871 ∷ Looked 10 0 (name "/d") Dir ∷ Looked 10 0 (name "/d/f") File ∷
    Answered 3 (copies 10 1 (ids 1000 1000 1000 1000) "/bin/cat" (Rule.Call Truncate) Truncate (regs 128 4 0) (arg Filename 0 "/d/f" ∷ []))
    (Permit 1 (ids 1000 1000 1000 1000)) true ∷
    Used 2 (Some 10) Truncate (regs 128 4 0) (arg Filename 0 "/d/f" ∷ []) (ids 1000 1000 1000 1000) (Failed EACCES) [] ∷
    Stored 2 8 1714381871 ∷ Entered 2 Chdir (regs 64 0 0) (Held 11) ∷ Claimed 3 11 ∷ Copied 11 0 8 1714381871 ∷ Looked 11 0 (name "/d") Dir ∷
    Looked 11 0 (name "/d/f") File ∷
    Answered 3 (copies 11 1 (ids 1000 1000 1000 1000) "/bin/cat" (Rule.Call Chdir) Chdir (regs 64 0 0) (arg Filename 0 "/d/f" ∷ []))
    (Permit 1 (ids 1000 1000 1000 1000)) true ∷
    Used 2 (Some 11) Chdir (regs 64 0 0) (arg Filename 0 "/d/f" ∷ []) (ids 1000 1000 1000 1000) (Failed ENOTDIR) [] ∷
    Stored 2 0 7435269766395159599 ∷ Stored 2 1 0 ∷ Entered 2 Chown (regs 0 7 0) (Held 12) ∷ Claimed 3 12 ∷ Copied 12 0 0 7435269766395159599 ∷
    Copied 12 0 1 0 ∷ Looked 12 0 (name "/d") Dir ∷ Looked 12 0 (name "/d/sub") Dir ∷ Looked 12 0 (name "/d/sub/g") File ∷
    Answered 3 (copies 12 1 (ids 1000 1000 1000 1000) "/bin/cat" (Rule.Call Chown) Chown (regs 0 7 0)
    (arg Filename 0 "/d/sub/g" ∷ arg Uid 0 "7" ∷ arg Gid 0 "0" ∷ [])) (Permit 1 (ids 1000 1000 1000 1000)) true ∷
    Used 2 (Some 12) Chown (regs 0 7 0) (arg Filename 0 "/d/sub/g" ∷ arg Uid 0 "7" ∷ arg Gid 0 "0" ∷ []) (ids 1000 1000 1000 1000) (Failed EPERM) [] ∷
    Ended 2 ∷ Stored 4 256 1714381871 ∷ Stored 4 264 7310014432551068719 ∷ Stored 4 265 116 ∷ Stored 4 272 3174703 ∷
    Entered 4 Open (regs 2048 1538 0) Untraced ∷
    Used 4 None Open (regs 2048 1538 0) (arg Filename 0 "/d/f" ∷ []) (ids 0 0 0 0) (Value 3) (Cut 5 0 ∷ []) ∷ Stored 4 256 25647 ∷
    Stored 4 264 7310014432551068719 ∷ Stored 4 265 116 ∷ Stored 4 272 3240239 ∷ Entered 4 Kill (regs 1 9 0) Untraced ∷
    Used 4 None Kill (regs 1 9 0) (arg Pid 0 "1" ∷ arg Signum 0 "9" ∷ []) (ids 0 0 0 0) (Failed ESRCH) [] ∷ Stored 4 256 1714381871 ∷
    Stored 4 264 7310014432551068719 ∷ Stored 4 265 116 ∷ Stored 4 272 3305775 ∷ Entered 4 Open (regs 2048 1538 0) Untraced ∷
    Used 4 None Open (regs 2048 1538 0) (arg Filename 0 "/d/f" ∷ []) (ids 0 0 0 0) (Value 4) (Cut 5 0 ∷ []) ∷ Ended 4 ∷ [])
unfolding digits
renewals_and_cut_files_under_four_workers = refl

abbrev renewals_and_a_new_binary_with_the_old_policy_input : Input
renewals_and_a_new_binary_with_the_old_policy_input = input (record { mode = Enforce; inherit = true; aliasing = true; ids = None; workers = 1 })
    (policy "/bin/cat" (
    permits (Rule.Call Link) ∷ logged (permits (Rule.Call Execve)) ∷ logged (permits (Rule.Call SetUid)) ∷ logged (permits (Rule.Call SetEuid)) ∷
    logged (permits (Rule.Call SetEgid)) ∷ []) ∷ [])
    more_files
    (traced "/bin/cat" 0 0 "/tmp" ∷ untraced "/bin/evil" 0 0 "/" ∷ [])
    (thread_in 1 (
    put 0 "/d/f" ++ call Execve 0 6400 0 ∷ []) ∷
    thread_in 1 (
    call SetEgid 0 0 0 ∷ call SetEgid 0 0 0 ∷ call SetUid 0 0 0 ∷ []) ∷
    thread_in 1 (
    put 128 "/d/f" ++ put 64 "/d/f" ++ put 64 "f" ++ call Link 64 64 0 ∷ put 2000 "/tmp/e/f" ++ call Execve 2000 6400 0 ∷ call SetEuid 0 0 0 ∷
    call SetEgid 0 0 0 ∷ []) ∷
    thread_in 2 (
    put 2048 "/d" ++ put 2112 "/d/secret" ++ put 2176 "/q0" ++ call Unlink 2048 0 0 ∷ call Symlink 2112 2048 0 ∷ put 2048 "/d/f" ++
    put 2112 "/d/secret" ++ put 2176 "/q1" ++ call Chmod 2048 0 0 ∷ put 2048 "/d/f" ++ put 2112 "/d/secret" ++ put 2176 "/q2" ++
    call Unlink 2048 0 0 ∷ call Symlink 2112 2048 0 ∷ []) ∷ [])
    []

renewals_and_a_new_binary_with_the_old_policy : trace renewals_and_a_new_binary_with_the_old_policy_input (
    thread 2 1 ∷ thread 3 2 ∷ worker 1 1 ∷ thread 4 1 ∷ thread 3 1 ∷ thread 1 1 ∷ thread 4 1 ∷ thread 1 1 ∷ thread 4 1 ∷ worker 1 2 ∷
    thread 4 1 ∷ worker 1 2 ∷ thread 2 1 ∷ thread 4 1 ∷ worker 1 1 ∷ thread 3 1 ∷ worker 1 1 ∷ thread 3 3 ∷ thread 4 1 ∷ thread 2 1 ∷
    thread 4 2 ∷ worker 1 1 ∷ thread 3 1 ∷ thread 4 15 ∷ worker 1 5 ∷ thread 1 2 ∷ worker 1 2 ∷ thread 2 1 ∷ worker 1 1 ∷ thread 2 1 ∷
    worker 1 7 ∷ thread 3 2 ∷ thread 2 1 ∷ worker 1 2 ∷ thread 3 2 ∷ worker 1 2 ∷ thread 3 2 ∷ [])
    ≡ Some (
    Entered 2 SetEgid (regs 0 0 0) (Held 1) ∷ Stored 3 16 1714381871 ∷ Stored 3 8 1714381871 ∷ Claimed 1 1 ∷ Stored 4 256 25647 ∷
    Stored 3 8 102 ∷ Stored 1 0 1714381871 ∷ Stored 4 264 7310014432551068719 ∷ Entered 1 Execve (regs 0 6400 0) (Held 2) ∷ Stored 4 265 116 ∷
    Answered 1 (copies 1 1 (ids 0 0 0 0) "/bin/cat" (Rule.Call SetEgid) SetEgid (regs 0 0 0) (arg Gid 0 "0" ∷ [])) (Permit 1 (ids 0 0 0 0)) true ∷
    Claimed 1 2 ∷ Stored 4 272 3174703 ∷ Copied 2 0 0 1714381871 ∷ Looked 2 0 (name "/d") Dir ∷
    Used 2 (Some 1) SetEgid (regs 0 0 0) (arg Gid 0 "0" ∷ []) (ids 0 0 0 0) (Value 0) (SetIds (ids 0 0 0 0) ∷ Renewed 2 3 ∷ []) ∷
    Entered 4 Unlink (regs 2048 0 0) Untraced ∷ Claimed 1 3 ∷ Entered 3 Link (regs 64 64 0) Fast ∷ Copied 3 0 0 1714381871 ∷
    Used 3 None Link (regs 64 64 0) (arg Filename 0 "/tmp/f" ∷ arg Filename 1 "/tmp/f" ∷ []) (ids 0 0 0 0) (Failed EEXIST) [] ∷
    Stored 3 250 7363215170198139951 ∷ Stored 3 251 0 ∷
    Used 4 None Unlink (regs 2048 0 0) (arg Filename 0 "/d" ∷ []) (ids 0 0 0 0) (Failed EPERM) [] ∷ Entered 2 SetEgid (regs 0 0 0) (Held 4) ∷
    Entered 4 Symlink (regs 2112 2048 0) Untraced ∷
    Used 4 None Symlink (regs 2112 2048 0) (arg String 0 "/d/secret" ∷ arg Filename 0 "/d" ∷ []) (ids 0 0 0 0) (Failed EEXIST) [] ∷
    Looked 3 0 (name "/d") Dir ∷ Entered 3 Execve (regs 2000 6400 0) (Held 5) ∷ Stored 4 256 1714381871 ∷ Stored 4 264 7310014432551068719 ∷
    Stored 4 265 116 ∷ Stored 4 272 3240239 ∷ Entered 4 Chmod (regs 2048 0 0) Untraced ∷
    Used 4 None Chmod (regs 2048 0 0) (arg Filename 0 "/d/f" ∷ arg Mode 0 "0" ∷ []) (ids 0 0 0 0) (Value 0) (Moded 5 0 ∷ []) ∷
    Stored 4 256 1714381871 ∷ Stored 4 264 7310014432551068719 ∷ Stored 4 265 116 ∷ Stored 4 272 3305775 ∷
    Entered 4 Unlink (regs 2048 0 0) Untraced ∷
    Used 4 None Unlink (regs 2048 0 0) (arg Filename 0 "/d/f" ∷ []) (ids 0 0 0 0) (Value 0) (Removed (name "/d/f") ∷ []) ∷
    Entered 4 Symlink (regs 2112 2048 0) Untraced ∷
    Used 4 None Symlink (regs 2112 2048 0) (arg String 0 "/d/secret" ∷ arg Filename 0 "/d/f" ∷ []) (ids 0 0 0 0) (Value 0)
    (Made (name "/d/f") 38 (made.Link (codes "/d/secret")) 0 0 511 ∷ []) ∷
    Ended 4 ∷ Looked 3 0 (name "/d/f") (seen.Link (codes "/d/secret")) ∷ Looked 3 0 (name "/d") Dir ∷ Looked 3 0 (name "/d/secret") File ∷
    Copied 3 1 800 0 ∷
    Answered 1 (copies 3 1 (ids 0 0 0 0) "/bin/cat" (Rule.Call Execve) Execve (regs 0 6400 0) (arg Filename 0 "/d/secret" ∷ arg Argv 0 "" ∷ []))
    (Permit 1 (ids 0 0 0 0)) true ∷
    Used 1 (Some 3) Execve (regs 0 6400 0) (arg Filename 0 "/d/secret" ∷ arg Argv 0 "" ∷ []) (ids 0 0 0 0) (Failed EACCES) [] ∷ Ended 1 ∷
    Claimed 1 4 ∷
    Answered 1 (copies 4 1 (ids 0 0 0 0) "/bin/cat" (Rule.Call SetEgid) SetEgid (regs 0 0 0) (arg Gid 0 "0" ∷ [])) (Permit 1 (ids 0 0 0 0)) true ∷
    Used 2 (Some 4) SetEgid (regs 0 0 0) (arg Gid 0 "0" ∷ []) (ids 0 0 0 0) (Value 0) (SetIds (ids 0 0 0 0) ∷ Renewed 5 6 ∷ []) ∷ Claimed 1 6 ∷
    Entered 2 SetUid (regs 0 0 0) (Held 7) ∷ Copied 6 0 250 7363215170198139951 ∷ Copied 6 0 251 0 ∷ Looked 6 0 (name "/tmp") Dir ∷
    Looked 6 0 (name "/tmp/e") Dir ∷ Looked 6 0 (name "/tmp/e/f") File ∷ Copied 6 1 800 0 ∷
    Answered 1 (copies 6 1 (ids 0 0 0 0) "/bin/cat" (Rule.Call Execve) Execve (regs 2000 6400 0)
    (arg Filename 0 "/tmp/e/f" ∷ arg Argv 0 "" ∷ [])) (Permit 1 (ids 0 0 0 0)) true ∷
    Used 3 (Some 6) Execve (regs 2000 6400 0) (arg Filename 0 "/tmp/e/f" ∷ arg Argv 0 "" ∷ []) (ids 0 0 0 0) (Value 0)
    (Execed (codes "/tmp/e/f") 3 ∷ []) ∷
    Entered 3 SetEuid (regs 0 0 0) (Held 8) ∷ Ended 2 ∷ Claimed 1 8 ∷
    Answered 1 (copies 8 1 (ids 0 0 0 0) "/bin/cat" (Rule.Call SetEuid) SetEuid (regs 0 0 0) (arg Uid 0 "0" ∷ [])) (Permit 1 (ids 0 0 0 0)) true ∷
    Used 3 (Some 8) SetEuid (regs 0 0 0) (arg Uid 0 "0" ∷ []) (ids 0 0 0 0) (Value 0) (SetIds (ids 0 0 0 0) ∷ []) ∷
    Entered 3 SetEgid (regs 0 0 0) (Held 9) ∷ Claimed 1 9 ∷
    Answered 1 (copies 9 1 (ids 0 0 0 0) "/bin/cat" (Rule.Call SetEgid) SetEgid (regs 0 0 0) (arg Gid 0 "0" ∷ [])) (Permit 1 (ids 0 0 0 0)) true ∷
    Used 3 (Some 9) SetEgid (regs 0 0 0) (arg Gid 0 "0" ∷ []) (ids 0 0 0 0) (Value 0) (SetIds (ids 0 0 0 0) ∷ []) ∷ Ended 3 ∷ [])
unfolding digits
renewals_and_a_new_binary_with_the_old_policy = refl

abbrev a_renamed_directory_and_a_kill_under_three_workers_input : Input
a_renamed_directory_and_a_kill_under_three_workers_input = input (record { mode = Enforce; inherit = true; aliasing = false; ids = Some (4294967295, 1); workers = 3 })
    (policy "/bin/cat" (
    when (Rule.Call Readlink) (And (True) (True)) action.Permit ∷ when (Rule.Call Symlink) (And (True) (True)) action.Permit ∷
    permits (Rule.Call Execve) ∷ when (Rule.Call Kill) (And (True) (True)) action.Permit ∷ []) ∷ [])
    more_files
    (traced "/bin/cat" 0 0 "/" ∷ untraced "/bin/evil" 0 0 "/" ∷ [])
    (thread_in 1 (
    put 64 "/d/f" ++ call Access 64 0 0 ∷ []) ∷
    thread_in 1 (
    put 2000 "/tmp/e/f" ++ call Execve 2000 6400 0 ∷ put 128 "/d/f" ++ put 0 "/tmp/e" ++ call Symlink 128 0 0 ∷ put 0 "/tmp/e/f" ++
    call Readlink 0 4 8 ∷ call Kill 1 9 0 ∷ []) ∷
    thread_in 1 (
    put 0 "/d/f" ++ call Open 0 0 420 ∷ put 0 "/d/f" ++ call Truncate 0 4 8 ∷ []) ∷
    thread_in 2 (
    put 2048 "/d" ++ put 2112 "/d/secret" ++ put 2176 "/q0" ++ call Rename 2048 2176 0 ∷ call Mkdir 2048 493 0 ∷ put 2048 "/d/f" ++
    put 2112 "/d/secret" ++ put 2176 "/q1" ++ call Rename 2048 2176 0 ∷ call Symlink 2176 2048 0 ∷ put 2048 "/d/f" ++ put 2112 "/d/secret" ++
    put 2176 "/q2" ++ call Unlink 2048 0 0 ∷ call Symlink 2112 2048 0 ∷ []) ∷ [])
    []

a_renamed_directory_and_a_kill_under_three_workers : trace a_renamed_directory_and_a_kill_under_three_workers_input (
    thread 1 1 ∷ thread 4 3 ∷ thread 1 1 ∷ worker 1 5 ∷ thread 4 4 ∷ thread 1 2 ∷ thread 4 3 ∷ thread 2 1 ∷ thread 4 2 ∷ thread 2 5 ∷
    thread 3 1 ∷ thread 2 1 ∷ worker 3 6 ∷ thread 2 3 ∷ thread 4 3 ∷ thread 2 1 ∷ worker 2 7 ∷ thread 4 2 ∷ thread 2 1 ∷ thread 4 3 ∷
    thread 2 1 ∷ worker 1 2 ∷ thread 4 3 ∷ thread 2 2 ∷ thread 4 2 ∷ [])
    ≡ Some (
    Stored 1 8 1714381871 ∷ Stored 4 256 25647 ∷ Stored 4 264 7310014432551068719 ∷ Stored 4 265 116 ∷
    Entered 1 Access (regs 64 0 0) (Held 1) ∷ Claimed 1 1 ∷ Copied 1 0 8 1714381871 ∷ Looked 1 0 (name "/d") Dir ∷
    Looked 1 0 (name "/d/f") File ∷
    Answered 1 (copies 1 1 (ids 4294967295 4294967295 1 1) "/bin/cat" (Rule.Call Access) Access (regs 64 0 0) (arg Filename 0 "/d/f" ∷ []))
    Unmatched true ∷
    Stored 4 272 3174703 ∷ Entered 4 Rename (regs 2048 2176 0) Untraced ∷
    Used 4 None Rename (regs 2048 2176 0) (arg Filename 0 "/d" ∷ arg Filename 1 "/q0" ∷ []) (ids 0 0 0 0) (Value 0)
    (Renamed (name "/d") (name "/q0") ∷ []) ∷
    Entered 4 Mkdir (regs 2048 493 0) Untraced ∷ Denied 1 (Some 1) EPERM NoFilter ∷ Ended 1 ∷
    Used 4 None Mkdir (regs 2048 493 0) (arg Filename 0 "/d" ∷ []) (ids 0 0 0 0) (Value 0) (Made (name "/d") 38 made.Dir 0 0 493 ∷ []) ∷
    Stored 4 256 1714381871 ∷ Stored 4 264 7310014432551068719 ∷ Stored 2 250 7363215170198139951 ∷ Stored 4 265 116 ∷ Stored 4 272 3240239 ∷
    Stored 2 251 0 ∷ Entered 2 Execve (regs 2000 6400 0) Fast ∷
    Used 2 None Execve (regs 2000 6400 0) (arg Filename 0 "/tmp/e/f" ∷ arg Argv 0 "" ∷ []) (ids 4294967295 4294967295 1 1) (Value 0)
    (Execed (codes "/tmp/e/f") 3 ∷ []) ∷
    Stored 2 16 1714381871 ∷ Stored 2 0 111254424089647 ∷ Ended 3 ∷ Entered 2 Symlink (regs 128 0 0) (Held 2) ∷ Claimed 3 2 ∷
    Copied 2 0 16 1714381871 ∷ Copied 2 1 0 111254424089647 ∷ Looked 2 1 (name "/tmp") Dir ∷ Looked 2 1 (name "/tmp/e") Dir ∷
    Answered 3 (copies 2 1 (ids 4294967295 4294967295 1 1) "/bin/cat" (Rule.Call Symlink) Symlink (regs 128 0 0)
    (arg String 0 "/d/f" ∷ arg Filename 0 "/tmp/e" ∷ [])) (Permit 1 (ids 4294967295 4294967295 1 1)) true ∷
    Used 2 (Some 2) Symlink (regs 128 0 0) (arg String 0 "/d/f" ∷ arg Filename 0 "/tmp/e" ∷ []) (ids 4294967295 4294967295 1 1) (Failed EEXIST) [] ∷
    Stored 2 0 7363215170198139951 ∷ Stored 2 1 0 ∷ Entered 4 Rename (regs 2048 2176 0) Untraced ∷
    Used 4 None Rename (regs 2048 2176 0) (arg Filename 0 "/d/f" ∷ arg Filename 1 "/q1" ∷ []) (ids 0 0 0 0) (Failed ENOENT) [] ∷
    Entered 4 Symlink (regs 2176 2048 0) Untraced ∷ Entered 2 Readlink (regs 0 4 8) (Held 3) ∷ Claimed 2 3 ∷ Copied 3 0 0 7363215170198139951 ∷
    Copied 3 0 1 0 ∷ Looked 3 0 (name "/tmp") Dir ∷ Looked 3 0 (name "/tmp/e") Dir ∷ Looked 3 0 (name "/tmp/e/f") File ∷
    Answered 2 (copies 3 1 (ids 4294967295 4294967295 1 1) "/bin/cat" (Rule.Call Readlink) Readlink (regs 0 4 8)
    (arg Filename 0 "/tmp/e/f" ∷ [])) (Permit 1 (ids 4294967295 4294967295 1 1)) true ∷
    Used 4 None Symlink (regs 2176 2048 0) (arg String 0 "/q1" ∷ arg Filename 0 "/d/f" ∷ []) (ids 0 0 0 0) (Value 0)
    (Made (name "/d/f") 39 (made.Link (codes "/q1")) 0 0 511 ∷ []) ∷
    Stored 4 256 1714381871 ∷
    Used 2 (Some 3) Readlink (regs 0 4 8) (arg Filename 0 "/tmp/e/f" ∷ []) (ids 4294967295 4294967295 1 1) (Failed EINVAL) [] ∷
    Stored 4 264 7310014432551068719 ∷ Stored 4 265 116 ∷ Stored 4 272 3305775 ∷ Entered 2 Kill (regs 1 9 0) (Held 4) ∷ Claimed 1 4 ∷
    Answered 1 (copies 4 1 (ids 4294967295 4294967295 1 1) "/bin/cat" (Rule.Call Kill) Kill (regs 1 9 0)
    (arg Pid 0 "1" ∷ arg Signum 0 "9" ∷ [])) (Permit 1 (ids 4294967295 4294967295 1 1)) true ∷
    Entered 4 Unlink (regs 2048 0 0) Untraced ∷
    Used 4 None Unlink (regs 2048 0 0) (arg Filename 0 "/d/f" ∷ []) (ids 0 0 0 0) (Value 0) (Removed (name "/d/f") ∷ []) ∷
    Entered 4 Symlink (regs 2112 2048 0) Untraced ∷
    Used 2 (Some 4) Kill (regs 1 9 0) (arg Pid 0 "1" ∷ arg Signum 0 "9" ∷ []) (ids 4294967295 4294967295 1 1) (Value 0) (Dying 1 ∷ []) ∷
    Ended 2 ∷
    Used 4 None Symlink (regs 2112 2048 0) (arg String 0 "/d/secret" ∷ arg Filename 0 "/d/f" ∷ []) (ids 0 0 0 0) (Value 0)
    (Made (name "/d/f") 40 (made.Link (codes "/d/secret")) 0 0 511 ∷ []) ∷
    Ended 4 ∷ [])
unfolding digits
a_renamed_directory_and_a_kill_under_three_workers = refl
