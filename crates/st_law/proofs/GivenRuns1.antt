-- Runs on which two programs agree that were written independently from the same rules. Of the policies, only the filters are given that a
-- call of the run is tested against.
use Rattle.std.proofs.Common.{◌≡◌, true, false, [], ◌∷◌, ◌++◌, Some, None, refl, codes}
use Rattle.std.specs.Fmt.{digits}
use Rattle.st_base.specs.declared.errno.Errno.TheVariants.{ENOEXEC}
use Rattle.st_base.specs.declared.errno.Errno.TheVariants.{EINVAL, ELOOP, ENOSYS, EPERM, ENOENT, E2BIG, EBADF, EACCES, EEXIST, ENOTDIR, EISDIR}
use Rattle.st_calls.specs.declared.argument.Label.TheVariants.{Filename, String, Argv, Mode, Gid, Pid, Signum, SockAddr, Uid}
use Rattle.st_calls.specs.declared.call.SysCall.TheVariants.{Execve, Exit, Kill}
use Rattle.st_calls.specs.declared.call.SysCall.TheVariants.{GetPid, GetUid, SetUid, SetEuid, SetGid, SetEgid, Bind, Open, Close, Write, Dup, Stat}
use Rattle.st_calls.specs.declared.call.SysCall.TheVariants.{Access, Unlink, Link, Symlink, Rename, Mkdir, Rmdir, Chdir, Chmod, Chown, Truncate, Fork}
use Rattle.st_calls.specs.declared.judged.Verdict.TheVariants.{Permit, Refuse, Unmatched}
use Rattle.st_calls.specs.declared.rule.Rule.TheVariants.{FsRead, FsWrite}
use Rattle.st_calls.specs.declared.rule.Rule.TheVariants as Rule
use Rattle.st_filter.specs.Formula.{True, Not, And, Or, Test}
use Rattle.st_filter.specs.declared.filter.Action.TheVariants as action
use Rattle.st_filter.specs.declared.filter.Cmp.TheVariants as cmp
use Rattle.st_filter.specs.declared.filter.Op.TheVariants as op
use Rattle.st_filter.specs.declared.filter.Who.TheVariants as who
use Rattle.st_names.specs.declared.seen.SeenText.TheVariants.{Dir, File, Missing}
use Rattle.st_names.specs.declared.seen.SeenText.TheVariants as seen
use Rattle.st_model.specs.declared.object.NewKind.TheVariants as made
use Rattle.st_trace.specs.declared.entry.CallResult.TheVariants.{Value, Failed}
use Rattle.st_trace.specs.declared.entry.Cause.TheVariants as cause
use Rattle.st_trace.specs.declared.entry.Cause.TheVariants.{NoFilter}
use Rattle.st_trace.specs.declared.entry.Change.TheVariants.{Made, Forked, Dying, Linked, Renamed, Cut, Execed, Policy, Removed, Cwd}
use Rattle.st_trace.specs.declared.entry.Entry.TheVariants.{Stored, Entered, Claimed, Copied, Looked, Answered, Used, Denied, Ended, Learned}
use Rattle.st_trace.specs.declared.entry.Way.TheVariants.{Barred, Held, Untraced, Fast}
use Rattle.st_trace.specs.declared.start.Instr.TheVariants as instr
use Rattle.st_trace.specs.declared.start.Instr.TheVariants.{Store}
use Rattle.st_law.specs.declared.input.Input.{Input}
use Rattle.st_law.specs.declared.input.Mode.TheVariants.{Enforce, AskText, Learn}
use Rattle.st_law.proofs.Scripts.{many_files, more_files}
use Rattle.st_law.proofs.Writing.{traced, untraced, thread_in, forked_thread, put, regs, call, policy, when, permits, denies}
use Rattle.st_law.proofs.Writing.{granting, test, input, thread, worker, operator, rest, trace, ids, arg, copies, reply, logged, only_if, name}

abbrev a_name_learnt_while_another_process_tries_links_input : Input
a_name_learnt_while_another_process_tries_links_input = input (record { mode = Learn; inherit = false; aliasing = true; ids = None; workers = 2 })
    []
    more_files
    (traced "/bin/cat" 0 0 "/d" ∷ untraced "/bin/evil" 0 0 "/" ∷ [])
    (thread_in 1 (
    put 0 "/d/f" ++ call Rmdir 0 0 0 ∷ []) ∷
    thread_in 2 (
    put 2048 "/tmp/e" ++ put 2112 "/d/secret" ++ put 2176 "/q0" ++ call Unlink 2048 0 0 ∷ call Symlink 2112 2048 0 ∷ []) ∷ [])
    []

a_name_learnt_while_another_process_tries_links : trace a_name_learnt_while_another_process_tries_links_input (
    thread 1 1 ∷ thread 2 3 ∷ thread 1 1 ∷ worker 1 1 ∷ thread 2 2 ∷ worker 1 1 ∷ thread 2 4 ∷ worker 1 3 ∷ rest ∷ [])
    ≡ Some (
    Stored 1 0 1714381871 ∷ Stored 2 256 111254424089647 ∷ Stored 2 264 7310014432551068719 ∷ Stored 2 265 116 ∷
    Entered 1 Rmdir (regs 0 0 0) (Held 1) ∷ Claimed 1 1 ∷ Stored 2 272 3174703 ∷ Entered 2 Unlink (regs 2048 0 0) Untraced ∷
    Copied 1 0 0 1714381871 ∷ Used 2 None Unlink (regs 2048 0 0) (arg Filename 0 "/tmp/e" ∷ []) (ids 0 0 0 0) (Failed EPERM) [] ∷
    Entered 2 Symlink (regs 2112 2048 0) Untraced ∷
    Used 2 None Symlink (regs 2112 2048 0) (arg String 0 "/d/secret" ∷ arg Filename 0 "/tmp/e" ∷ []) (ids 0 0 0 0) (Failed EEXIST) [] ∷
    Ended 2 ∷ Looked 1 0 (name "/d") Dir ∷ Looked 1 0 (name "/d/f") File ∷
    Answered 1 (copies 1 1 (ids 0 0 0 0) "/bin/cat" FsWrite Rmdir (regs 0 0 0) (arg Filename 0 "/d/f" ∷ [])) Unmatched true ∷ Learned 1 1 ∷
    Used 1 (Some 1) Rmdir (regs 0 0 0) (arg Filename 0 "/d/f" ∷ []) (ids 0 0 0 0) (Failed ENOTDIR) [] ∷ Ended 1 ∷ [])
unfolding digits
a_name_learnt_while_another_process_tries_links = refl

abbrev barred_calls_and_a_kill_input : Input
barred_calls_and_a_kill_input = input (record { mode = Learn; inherit = false; aliasing = false; ids = None; workers = 1 })
    (policy "/bin/cat" (
    when (Rule.Call Chdir) (test "filename" op.Eq "/nox/y") action.Permit ∷
    when (Rule.Call Chdir) (test "filename" op.Match "/?/f") (action.Deny E2BIG) ∷ permits (Rule.Call Chdir) ∷ denies (Rule.Call Chmod) EPERM ∷
    permits (Rule.Call Chmod) ∷ []) ∷ [])
    more_files
    (traced "/bin/cat" 1000 1000 "/tmp/e" ∷ untraced "/bin/evil" 0 0 "/" ∷ [])
    (thread_in 1 (
    put 64 "/tmp/e/f" ++ call Chmod 64 7 8 ∷ put 0 "/tmp/e/f" ++ call Chmod 0 7 0 ∷ put 0 "/tmp/e/f" ++ call Chdir 0 4 0 ∷ put 64 "/tmp/e/f" ++
    call Mkdir 64 0 8 ∷ []) ∷
    thread_in 2 (
    put 2048 "/tmp/e/f" ++ put 2112 "/d/secret" ++ put 2176 "/q0" ++ call Kill 1 9 0 ∷ []) ∷ [])
    []

barred_calls_and_a_kill : trace barred_calls_and_a_kill_input (
    thread 1 11 ∷ thread 2 8 ∷ thread 1 1 ∷ rest ∷ [])
    ≡ Some (
    Stored 1 8 7363215170198139951 ∷ Stored 1 9 0 ∷ Entered 1 Chmod (regs 64 7 8) (Barred 1) ∷ Denied 1 None EPERM (cause.Filter 1) ∷
    Stored 1 0 7363215170198139951 ∷ Stored 1 1 0 ∷ Entered 1 Chmod (regs 0 7 0) (Barred 1) ∷ Denied 1 None EPERM (cause.Filter 1) ∷
    Stored 1 0 7363215170198139951 ∷ Stored 1 1 0 ∷ Entered 1 Chdir (regs 0 4 0) (Held 1) ∷ Stored 2 256 7363215170198139951 ∷ Stored 2 257 0 ∷
    Stored 2 264 7310014432551068719 ∷ Stored 2 265 116 ∷ Stored 2 272 3174703 ∷ Entered 2 Kill (regs 1 9 0) Untraced ∷
    Used 2 None Kill (regs 1 9 0) (arg Pid 0 "1" ∷ arg Signum 0 "9" ∷ []) (ids 0 0 0 0) (Value 0) (Dying 1 ∷ []) ∷ Ended 2 ∷ Ended 1 ∷ [])
unfolding digits
barred_calls_and_a_kill = refl

abbrev a_kill_before_the_first_call_input : Input
a_kill_before_the_first_call_input = input (record { mode = Enforce; inherit = false; aliasing = true; ids = None; workers = 8 })
    []
    more_files
    (traced "/bin/cat" 0 0 "/tmp" ∷ untraced "/bin/evil" 0 0 "/" ∷ [])
    (thread_in 1 (
    put 0 "/d/f" ++ call Chown 0 4 8 ∷ put 128 "/tmp/f" ++ call Mkdir 128 4 0 ∷ put 64 "/d/f" ++ call Chown 64 0 0 ∷ put 128 "/d/f" ++
    put 0 "/tmp/f" ++ call Symlink 128 0 0 ∷ []) ∷
    thread_in 1 (
    put 128 "/tmp/f" ++ call Unlink 128 4 0 ∷ []) ∷
    thread_in 2 (
    put 2048 "/tmp" ++ put 2112 "/d/secret" ++ put 2176 "/q0" ++ call Kill 1 9 0 ∷ []) ∷ [])
    []

a_kill_before_the_first_call : trace a_kill_before_the_first_call_input (
    thread 3 7 ∷ thread 2 1 ∷ thread 1 1 ∷ [])
    ≡ Some (
    Stored 3 256 1886221359 ∷ Stored 3 264 7310014432551068719 ∷ Stored 3 265 116 ∷ Stored 3 272 3174703 ∷
    Entered 3 Kill (regs 1 9 0) Untraced ∷
    Used 3 None Kill (regs 1 9 0) (arg Pid 0 "1" ∷ arg Signum 0 "9" ∷ []) (ids 0 0 0 0) (Value 0) (Dying 1 ∷ []) ∷ Ended 3 ∷ Ended 2 ∷
    Ended 1 ∷ [])
unfolding digits
a_kill_before_the_first_call = refl

abbrev an_untraced_process_forks_input : Input
an_untraced_process_forks_input = input (record { mode = Learn; inherit = false; aliasing = true; ids = None; workers = 1 })
    []
    many_files
    (traced "/bin/a" 0 0 "/gone" ∷ untraced "/d/f" 0 0 "/tmp" ∷ untraced "/bin/sh" 0 0 "/" ∷ [])
    (thread_in 3 (
    put 3400 "a" ++ Store 400 3400 ∷ Store 401 3400 ∷ Store 402 3400 ∷ Store 403 3400 ∷ Store 404 3400 ∷ Store 405 3400 ∷ Store 406 3400 ∷
    Store 407 3400 ∷ Store 408 3400 ∷ Store 409 3400 ∷ Store 410 3400 ∷ Store 411 3400 ∷ Store 412 3400 ∷ Store 413 3400 ∷ Store 414 3400 ∷
    call Execve 256 3200 0 ∷ put 256 "/d/secret" ++ call Open 256 0 0 ∷ instr.Fork 2 ∷ []) ∷
    forked_thread (
    call Dup 6 0 0 ∷ put 0 "#/c2" ++ call Mkdir 1 4095 0 ∷ []) ∷ [])
    []

an_untraced_process_forks : trace an_untraced_process_forks_input (
    thread 1 24 ∷ thread 2 6 ∷ thread 1 1 ∷ [])
    ≡ Some (
    Stored 1 425 97 ∷ Stored 1 400 3400 ∷ Stored 1 401 3400 ∷ Stored 1 402 3400 ∷ Stored 1 403 3400 ∷ Stored 1 404 3400 ∷ Stored 1 405 3400 ∷
    Stored 1 406 3400 ∷ Stored 1 407 3400 ∷ Stored 1 408 3400 ∷ Stored 1 409 3400 ∷ Stored 1 410 3400 ∷ Stored 1 411 3400 ∷ Stored 1 412 3400 ∷
    Stored 1 413 3400 ∷ Stored 1 414 3400 ∷ Entered 1 Execve (regs 256 3200 0) Untraced ∷
    Used 1 None Execve (regs 256 3200 0) [] (ids 0 0 0 0) (Failed ENOENT) [] ∷ Stored 1 32 7310014432551068719 ∷ Stored 1 33 116 ∷
    Entered 1 Open (regs 256 0 0) Untraced ∷ Used 1 None Open (regs 256 0 0) (arg Filename 0 "/d/secret" ∷ []) (ids 0 0 0 0) (Value 3) [] ∷
    Entered 1 Fork (regs 0 0 0) Untraced ∷ Used 1 None Fork (regs 0 0 0) [] (ids 0 0 0 0) (Value 4) (Forked 4 4 2 ∷ []) ∷
    Entered 2 Dup (regs 6 0 0) Untraced ∷ Used 2 None Dup (regs 6 0 0) [] (ids 0 0 0 0) (Failed EBADF) [] ∷ Stored 2 0 845360931 ∷
    Entered 2 Mkdir (regs 1 4095 0) Untraced ∷
    Used 2 None Mkdir (regs 1 4095 0) (arg Filename 0 "/c2" ∷ []) (ids 0 0 0 0) (Value 0) (Made (name "/c2") 35 made.Dir 0 0 511 ∷ []) ∷
    Ended 2 ∷ Ended 1 ∷ [])
unfolding digits
an_untraced_process_forks = refl

abbrev a_new_binary_with_its_own_policy_input : Input
a_new_binary_with_its_own_policy_input = input (record { mode = AskText; inherit = false; aliasing = true; ids = Some (4294967295, 1); workers = 8 })
    (policy "/bin/cat" (when FsRead (test "filename" op.Sub "/") action.Permit ∷ permits FsWrite ∷ permits (Rule.Call Execve) ∷ []) ∷
    policy "/tmp/e/f" (logged (permits FsRead) ∷ when (Rule.Call Execve) (test "filename" op.Sub "/") action.Permit ∷ []) ∷ [])
    more_files
    (traced "/bin/cat" 0 0 "/tmp/e" ∷ untraced "/bin/evil" 0 0 "/" ∷ [])
    (thread_in 1 (
    put 64 "/tmp/f" ++ call Open 64 2560 420 ∷ put 128 "/tmp/f" ++ call Access 128 0 0 ∷ []) ∷
    thread_in 1 (
    put 2000 "/tmp/e/f" ++ call Execve 2000 6400 0 ∷ []) ∷
    thread_in 2 (
    put 2048 "/tmp/f" ++ put 2112 "/d/secret" ++ put 2176 "/q0" ++ call Kill 1 9 0 ∷ []) ∷ [])
    (reply "/bin/cat" (only_if (record { who = who.User; cmp = cmp.Same; id = 0 }) (denies FsRead EPERM)) ∷
    reply "/bin/cat" (permits (Rule.Call GetPid)) ∷
    reply "/bin/cat" (when FsWrite (test "filename" op.Inpath "/missing") (action.Deny ENOSYS)) ∷
    reply "/bin/cat" (granting (Some 5) None (permits FsRead)) ∷
    reply "/bin/cat" (only_if (record { who = who.User; cmp = cmp.Below; id = 1000 })
    (when FsRead (Or (Or (test "filename" op.Nsub "/") (test "filename" op.Nsub "/d"))
    (And (test "filename" op.Sub "s") (test "filename" op.Match "/d/s*"))) (action.Deny EPERM))) ∷
    reply "/bin/cat" (permits (Rule.Call Exit)) ∷ reply "/bin/cat" (logged (permits (Rule.Call SetUid))) ∷ [])

a_new_binary_with_its_own_policy : trace a_new_binary_with_its_own_policy_input (
    thread 3 1 ∷ thread 1 4 ∷ thread 2 2 ∷ thread 3 1 ∷ thread 1 1 ∷ thread 2 3 ∷ [])
    ≡ Some (
    Stored 3 256 112353935717423 ∷ Stored 1 8 112353935717423 ∷ Entered 1 Open (regs 64 2560 420) Fast ∷
    Used 1 None Open (regs 64 2560 420) (arg Filename 0 "/tmp/f" ∷ []) (ids 4294967295 4294967295 1 1) (Failed EEXIST) [] ∷
    Stored 1 16 112353935717423 ∷ Stored 2 250 7363215170198139951 ∷ Stored 2 251 0 ∷ Stored 3 264 7310014432551068719 ∷
    Entered 1 Access (regs 128 0 0) (Held 1) ∷ Entered 2 Execve (regs 2000 6400 0) Fast ∷
    Used 2 None Execve (regs 2000 6400 0) (arg Filename 0 "/tmp/e/f" ∷ arg Argv 0 "" ∷ []) (ids 4294967295 4294967295 1 1) (Value 0)
    (Execed (codes "/tmp/e/f") 3 ∷ Policy (codes "/tmp/e/f") ∷ []) ∷
    Ended 2 ∷ [])
unfolding digits
a_new_binary_with_its_own_policy = refl

abbrev a_file_cut_and_renamed_before_the_check_input : Input
a_file_cut_and_renamed_before_the_check_input = input (record {
  mode = Enforce;
  inherit = true;
  aliasing = true;
  ids = Some
      (1000, 1000);
  workers = 1;
})
    (policy "/bin/cat" (when FsWrite (test "filename" op.Sub "/") action.Permit ∷ []) ∷ [])
    more_files
    (traced "/bin/cat" 0 0 "/tmp/e" ∷ untraced "/bin/evil" 0 0 "/" ∷ [])
    (thread_in 1 (
    put 0 "/d/f" ++ call Rmdir 0 4 8 ∷ []) ∷
    thread_in 2 (
    put 2048 "/d/f" ++ put 2112 "/d/secret" ++ put 2176 "/q0" ++ call Open 2048 1538 0 ∷ put 2048 "/d/f" ++ put 2112 "/d/secret" ++
    put 2176 "/q1" ++ call Rename 2048 2176 0 ∷ call Symlink 2176 2048 0 ∷ []) ∷ [])
    []

a_file_cut_and_renamed_before_the_check : trace a_file_cut_and_renamed_before_the_check_input (
    thread 2 15 ∷ thread 1 2 ∷ worker 1 5 ∷ thread 1 2 ∷ [])
    ≡ Some (
    Stored 2 256 1714381871 ∷ Stored 2 264 7310014432551068719 ∷ Stored 2 265 116 ∷ Stored 2 272 3174703 ∷
    Entered 2 Open (regs 2048 1538 0) Untraced ∷
    Used 2 None Open (regs 2048 1538 0) (arg Filename 0 "/d/f" ∷ []) (ids 0 0 0 0) (Value 3) (Cut 5 0 ∷ []) ∷ Stored 2 256 1714381871 ∷
    Stored 2 264 7310014432551068719 ∷ Stored 2 265 116 ∷ Stored 2 272 3240239 ∷ Entered 2 Rename (regs 2048 2176 0) Untraced ∷
    Used 2 None Rename (regs 2048 2176 0) (arg Filename 0 "/d/f" ∷ arg Filename 1 "/q1" ∷ []) (ids 0 0 0 0) (Value 0)
    (Renamed (name "/d/f") (name "/q1") ∷ []) ∷
    Entered 2 Symlink (regs 2176 2048 0) Untraced ∷
    Used 2 None Symlink (regs 2176 2048 0) (arg String 0 "/q1" ∷ arg Filename 0 "/d/f" ∷ []) (ids 0 0 0 0) (Value 0)
    (Made (name "/d/f") 38 (made.Link (codes "/q1")) 0 0 511 ∷ []) ∷
    Ended 2 ∷ Stored 1 0 1714381871 ∷ Entered 1 Rmdir (regs 0 4 8) (Held 1) ∷ Claimed 1 1 ∷ Copied 1 0 0 1714381871 ∷
    Looked 1 0 (name "/d") Dir ∷ Looked 1 0 (name "/d/f") (seen.Link (codes "/q1")) ∷
    Answered 1 (copies 1 1 (ids 1000 1000 1000 1000) "/bin/cat" FsWrite Rmdir (regs 0 4 8) (arg Filename 0 "/d/f" ∷ []))
    (Permit 1 (ids 1000 1000 1000 1000)) true ∷
    Used 1 (Some 1) Rmdir (regs 0 4 8) (arg Filename 0 "/d/f" ∷ []) (ids 1000 1000 1000 1000) (Failed ENOTDIR) [] ∷ Ended 1 ∷ [])
unfolding digits
a_file_cut_and_renamed_before_the_check = refl

abbrev a_barred_bind_and_a_second_name_for_a_file_input : Input
a_barred_bind_and_a_second_name_for_a_file_input = input (record { mode = Enforce; inherit = false; aliasing = true; ids = Some (0, 0); workers = 1 })
    (policy "/bin/cat" (
    when (Rule.Call Link) (test "filename" op.Inpath "/missing") (action.Deny EPERM) ∷ when (Rule.Call Link) (And (True) (True)) action.Permit ∷
    denies (Rule.Call Bind) ELOOP ∷ permits (Rule.Call Bind) ∷ []) ∷
    policy "/d/f" (permits (Rule.Call Link) ∷ when (Rule.Call Bind) (test "sockaddr" op.Match "inet-?[0.0.0.0]:80") (action.Deny EPERM) ∷ []) ∷
    policy "/usr/bin/x" (
    only_if (record { who = who.Group; cmp = cmp.Above; id = 1000 }) (denies (Rule.Call Link) EISDIR) ∷
    when (Rule.Call Link) (Test (codes "filename") 1 op.Sub ([])) action.Ask ∷ when (Rule.Call Link) (And (True) (True)) action.Permit ∷
    granting (Some 0) (Some 0) (permits (Rule.Call Bind)) ∷
    logged (granting None (Some 0) (when (Rule.Call Bind) (test "sockaddr" op.Inpath "inet-[0.0.0.0]:1023") action.Permit)) ∷
    when (Rule.Call Bind) (And (True) (True)) action.Permit ∷ []) ∷ [])
    many_files
    (traced "/bin/cat" 1000 1000 "/d/f" ∷ traced "/d/f" 1000 1000 "/d/sub" ∷ traced "/usr/bin/x" 0 0 "/d" ∷ [])
    (thread_in 1 (
    Store 6 72058143793676816 ∷ call Bind 4 48 0 ∷ put 48 "/bin/sh" ++ put 0 "/priv/new" ++ call Link 48 0 0 ∷ []) ∷ [])
    []

a_barred_bind_and_a_second_name_for_a_file : trace a_barred_bind_and_a_second_name_for_a_file_input (
    rest ∷ [])
    ≡ Some (
    Stored 1 6 72058143793676816 ∷ Entered 1 Bind (regs 4 48 0) (Barred 1) ∷ Denied 1 None ELOOP (cause.Filter 1) ∷
    Stored 1 6 29400045130965551 ∷ Stored 1 0 7308831430890647599 ∷ Stored 1 1 119 ∷ Entered 1 Link (regs 48 0 0) (Held 1) ∷ Claimed 1 1 ∷
    Copied 1 0 6 29400045130965551 ∷ Looked 1 0 (name "/bin") Dir ∷ Looked 1 0 (name "/bin/sh") File ∷ Copied 1 1 0 7308831430890647599 ∷
    Copied 1 1 1 119 ∷ Looked 1 1 (name "/priv") Dir ∷ Looked 1 1 (name "/priv/new") Missing ∷
    Answered 1 (copies 1 1 (ids 0 0 0 0) "/bin/cat" (Rule.Call Link) Link (regs 48 0 0)
    (arg Filename 0 "/bin/sh" ∷ arg Filename 1 "/priv/new" ∷ [])) (Permit 2 (ids 0 0 0 0)) true ∷
    Used 1 (Some 1) Link (regs 48 0 0) (arg Filename 0 "/bin/sh" ∷ arg Filename 1 "/priv/new" ∷ []) (ids 0 0 0 0) (Value 0)
    (Linked (name "/priv/new") 22 ∷ []) ∷
    Ended 1 ∷ [])
unfolding digits
a_barred_bind_and_a_second_name_for_a_file = refl

abbrev fast_calls_under_ids_of_the_options_input : Input
fast_calls_under_ids_of_the_options_input = input (record {
  mode = Enforce;
  inherit = false;
  aliasing = true;
  ids = Some
      (4294967295, 1);
  workers = 2;
})
    (policy "/bin/sh" (
    permits (Rule.Call Symlink) ∷ permits (Rule.Call GetUid) ∷ permits (Rule.Call SetEuid) ∷ permits (Rule.Call SetGid) ∷ []) ∷ [])
    many_files
    (traced "/bin/sh" 5 5 "/d/f" ∷ [])
    (thread_in 1 (
    call SetEuid 0 0 0 ∷ call SetGid 1000 0 0 ∷ put 48 "/bin/a" ++ call GetUid 48 0 0 ∷ put 144 "##/loop" ++ call Symlink 146 400 0 ∷ []) ∷ [])
    []

fast_calls_under_ids_of_the_options : trace fast_calls_under_ids_of_the_options_input (
    thread 1 11 ∷ rest ∷ [])
    ≡ Some (
    Entered 1 SetEuid (regs 0 0 0) Fast ∷
    Used 1 None SetEuid (regs 0 0 0) (arg Uid 0 "0" ∷ []) (ids 4294967295 4294967295 1 1) (Failed EPERM) [] ∷
    Entered 1 SetGid (regs 1000 0 0) Fast ∷
    Used 1 None SetGid (regs 1000 0 0) (arg Gid 0 "1000" ∷ []) (ids 4294967295 4294967295 1 1) (Failed EPERM) [] ∷ Stored 1 6 106856343757359 ∷
    Entered 1 GetUid (regs 48 0 0) Fast ∷ Used 1 None GetUid (regs 48 0 0) [] (ids 4294967295 4294967295 1 1) (Value 4294967295) [] ∷
    Stored 1 18 31647721738674979 ∷ Entered 1 Symlink (regs 146 400 0) Fast ∷
    Used 1 None Symlink (regs 146 400 0) [] (ids 4294967295 4294967295 1 1) (Failed ENOENT) [] ∷ Ended 1 ∷ [])
unfolding digits
fast_calls_under_ids_of_the_options = refl

abbrev two_held_threads_and_a_kill_input : Input
two_held_threads_and_a_kill_input = input (record { mode = AskText; inherit = true; aliasing = false; ids = Some (4294967295, 1); workers = 1 })
    (policy "/bin/cat" (when (Rule.Call Chmod) (test "filename" op.Sub "/") action.Permit ∷ []) ∷ [])
    more_files
    (traced "/bin/cat" 0 0 "/d" ∷ untraced "/bin/evil" 0 0 "/" ∷ [])
    (thread_in 1 (
    put 0 "/d/f" ++ call Chmod 0 0 8 ∷ put 128 "/d/f" ++ call Stat 128 7 0 ∷ []) ∷
    thread_in 1 (
    call SetEgid 0 0 0 ∷ call SetEgid 0 0 0 ∷ []) ∷
    thread_in 2 (
    put 2048 "/d/f" ++ put 2112 "/d/secret" ++ put 2176 "/q0" ++ call Kill 1 9 0 ∷ []) ∷ [])
    (reply "/bin/cat" (when (Rule.Call Open) (test "filename" op.Sub "tmp") action.Permit) ∷ reply "/bin/cat" (permits FsWrite) ∷
    reply "/bin/cat" (logged (when (Rule.Call Open) (test "filename" op.Nsub "x$HOM") action.Permit)) ∷
    reply "/bin/cat" (when FsWrite (test "filename" op.Neq "/bin/sh") action.Permit) ∷ [])

two_held_threads_and_a_kill : trace two_held_threads_and_a_kill_input (
    thread 1 2 ∷ thread 3 1 ∷ thread 2 1 ∷ thread 3 1 ∷ worker 1 7 ∷ thread 2 2 ∷ worker 1 1 ∷ thread 1 2 ∷ worker 1 1 ∷ thread 1 1 ∷
    worker 1 1 ∷ thread 3 2 ∷ worker 1 2 ∷ thread 3 1 ∷ worker 1 2 ∷ thread 1 1 ∷ thread 3 1 ∷ thread 2 1 ∷ thread 3 1 ∷ thread 1 1 ∷ [])
    ≡ Some (
    Stored 1 0 1714381871 ∷ Entered 1 Chmod (regs 0 0 8) (Held 1) ∷ Stored 3 256 1714381871 ∷ Entered 2 SetEgid (regs 0 0 0) (Held 2) ∷
    Stored 3 264 7310014432551068719 ∷ Claimed 1 1 ∷ Copied 1 0 0 1714381871 ∷ Looked 1 0 (name "/d") Dir ∷ Looked 1 0 (name "/d/f") File ∷
    Answered 1 (copies 1 1 (ids 4294967295 4294967295 1 1) "/bin/cat" (Rule.Call Chmod) Chmod (regs 0 0 8)
    (arg Filename 0 "/d/f" ∷ arg Mode 0 "0" ∷ [])) (Permit 1 (ids 4294967295 4294967295 1 1)) true ∷
    Claimed 1 2 ∷
    Answered 1 (copies 2 1 (ids 4294967295 4294967295 1 1) "/bin/cat" (Rule.Call SetEgid) SetEgid (regs 0 0 0) (arg Gid 0 "0" ∷ [])) Unmatched true ∷
    Denied 2 (Some 2) EPERM NoFilter ∷ Entered 2 SetEgid (regs 0 0 0) (Held 3) ∷ Claimed 1 3 ∷
    Used 1 (Some 1) Chmod (regs 0 0 8) (arg Filename 0 "/d/f" ∷ arg Mode 0 "0" ∷ []) (ids 4294967295 4294967295 1 1) (Failed EPERM) [] ∷
    Stored 1 16 1714381871 ∷
    Answered 1 (copies 3 1 (ids 4294967295 4294967295 1 1) "/bin/cat" (Rule.Call SetEgid) SetEgid (regs 0 0 0) (arg Gid 0 "0" ∷ [])) Unmatched true ∷
    Entered 1 Stat (regs 128 7 0) (Held 4) ∷ Claimed 1 4 ∷ Stored 3 265 116 ∷ Stored 3 272 3174703 ∷ Copied 4 0 16 1714381871 ∷
    Looked 4 0 (name "/d") Dir ∷ Entered 3 Kill (regs 1 9 0) Untraced ∷ Looked 4 0 (name "/d/f") File ∷
    Answered 1 (copies 4 1 (ids 4294967295 4294967295 1 1) "/bin/cat" (Rule.Call Stat) Stat (regs 128 7 0) (arg Filename 0 "/d/f" ∷ []))
    Unmatched true ∷
    Denied 1 (Some 4) EPERM NoFilter ∷
    Used 3 None Kill (regs 1 9 0) (arg Pid 0 "1" ∷ arg Signum 0 "9" ∷ []) (ids 0 0 0 0) (Value 0) (Dying 1 ∷ []) ∷ Ended 2 ∷ Ended 3 ∷
    Ended 1 ∷ [])
unfolding digits
two_held_threads_and_a_kill = refl

abbrev a_kill_while_a_name_is_looked_up_input : Input
a_kill_while_a_name_is_looked_up_input = input (record { mode = AskText; inherit = false; aliasing = true; ids = Some (4294967295, 1); workers = 1 })
    (policy "/bin/cat" (only_if (record { who = who.User; cmp = cmp.Same; id = 0 }) (permits (Rule.Call Link)) ∷ []) ∷ [])
    more_files
    (traced "/bin/cat" 0 0 "/tmp/e" ∷ untraced "/bin/evil" 0 0 "/" ∷ [])
    (thread_in 1 (
    put 128 "/tmp/f" ++ put 64 "/tmp/f" ++ call Link 128 64 0 ∷ put 0 "/tmp/f" ++ call Execve 0 6400 0 ∷
    put 64 "/tmp/f" ++ call Chmod 64 4 0 ∷ []) ∷
    thread_in 2 (
    put 2048 "/tmp/f" ++ put 2112 "/d/secret" ++ put 2176 "/q0" ++ call Rename 2048 2176 0 ∷ call Symlink 2176 2048 0 ∷ put 2048 "/tmp/f" ++
    put 2112 "/d/secret" ++ put 2176 "/q1" ++ call Rename 2048 2176 0 ∷ call Symlink 2176 2048 0 ∷ put 2048 "/tmp/f" ++ put 2112 "/d/secret" ++
    put 2176 "/q2" ++ call Kill 1 9 0 ∷ []) ∷ [])
    (reply "/bin/cat" (granting (Some 5) (Some 0) (only_if (record { who = who.User; cmp = cmp.Above; id = 1000 })
    (when FsRead (test "filename" op.Inpath "/tmp/m") action.Permit))) ∷
    reply "/bin/cat" (denies (Rule.Call GetPid) EPERM) ∷
    reply "/bin/cat" (only_if (record { who = who.Group; cmp = cmp.Same; id = 5 })
    (when (Rule.Call Chdir) (test "filename" op.Inpath "/lf") action.Permit)) ∷
    reply "/bin/cat" (when FsWrite (test "filename" op.Match "/[!d]*") action.Permit) ∷ reply "/bin/cat" (denies (Rule.Call GetPid) ENOEXEC) ∷
    reply "/bin/cat" (permits (Rule.Call GetPid)) ∷ [])

a_kill_while_a_name_is_looked_up : trace a_kill_while_a_name_is_looked_up_input (
    thread 1 2 ∷ thread 2 2 ∷ thread 1 1 ∷ thread 2 7 ∷ worker 1 1 ∷ thread 2 1 ∷ worker 1 1 ∷ thread 2 2 ∷ worker 1 1 ∷ thread 2 1 ∷
    worker 1 1 ∷ thread 2 3 ∷ worker 1 1 ∷ thread 2 6 ∷ thread 1 1 ∷ thread 2 1 ∷ rest ∷ [])
    ≡ Some (
    Stored 1 16 112353935717423 ∷ Stored 1 8 112353935717423 ∷ Stored 2 256 112353935717423 ∷ Stored 2 264 7310014432551068719 ∷
    Entered 1 Link (regs 128 64 0) (Held 1) ∷ Stored 2 265 116 ∷ Stored 2 272 3174703 ∷ Entered 2 Rename (regs 2048 2176 0) Untraced ∷
    Used 2 None Rename (regs 2048 2176 0) (arg Filename 0 "/tmp/f" ∷ arg Filename 1 "/q0" ∷ []) (ids 0 0 0 0) (Value 0)
    (Renamed (name "/tmp/f") (name "/q0") ∷ []) ∷
    Entered 2 Symlink (regs 2176 2048 0) Untraced ∷
    Used 2 None Symlink (regs 2176 2048 0) (arg String 0 "/q0" ∷ arg Filename 0 "/tmp/f" ∷ []) (ids 0 0 0 0) (Value 0)
    (Made (name "/tmp/f") 38 (made.Link (codes "/q0")) 0 0 511 ∷ []) ∷
    Stored 2 256 112353935717423 ∷ Claimed 1 1 ∷ Stored 2 264 7310014432551068719 ∷ Copied 1 0 16 112353935717423 ∷ Stored 2 265 116 ∷
    Stored 2 272 3240239 ∷ Looked 1 0 (name "/tmp") Dir ∷ Entered 2 Rename (regs 2048 2176 0) Untraced ∷
    Looked 1 0 (name "/tmp/f") (seen.Link (codes "/q0")) ∷
    Used 2 None Rename (regs 2048 2176 0) (arg Filename 0 "/tmp/f" ∷ arg Filename 1 "/q1" ∷ []) (ids 0 0 0 0) (Value 0)
    (Renamed (name "/tmp/f") (name "/q1") ∷ []) ∷
    Entered 2 Symlink (regs 2176 2048 0) Untraced ∷
    Used 2 None Symlink (regs 2176 2048 0) (arg String 0 "/q1" ∷ arg Filename 0 "/tmp/f" ∷ []) (ids 0 0 0 0) (Value 0)
    (Made (name "/tmp/f") 39 (made.Link (codes "/q1")) 0 0 511 ∷ []) ∷
    Looked 1 0 (name "/q0") File ∷ Stored 2 256 112353935717423 ∷ Stored 2 264 7310014432551068719 ∷ Stored 2 265 116 ∷ Stored 2 272 3305775 ∷
    Entered 2 Kill (regs 1 9 0) Untraced ∷
    Used 2 None Kill (regs 1 9 0) (arg Pid 0 "1" ∷ arg Signum 0 "9" ∷ []) (ids 0 0 0 0) (Value 0) (Dying 1 ∷ []) ∷ Ended 1 ∷ Ended 2 ∷ [])
unfolding digits
a_kill_while_a_name_is_looked_up = refl

abbrev a_denial_for_a_link_under_two_workers_input : Input
a_denial_for_a_link_under_two_workers_input = input (record { mode = AskText; inherit = false; aliasing = true; ids = None; workers = 2 })
    (policy "/bin/cat" (
    when FsRead (test "filename" op.Nsub "f") action.Permit ∷ permits FsRead ∷
    when (Rule.Call Chdir) (test "filename" op.Eq "/priv/x") (action.Deny ENOSYS) ∷
    when (Rule.Call Chdir) (test "filename" op.Match "/tmp/?") (action.Deny ENOEXEC) ∷
    when (Rule.Call Chdir) (test "filename" op.Inpath "/d/sub") action.Permit ∷ when (Rule.Call Truncate) (And (True) (True)) action.Permit ∷
    when (Rule.Call Execve) (test "argv" op.Sub "a") action.Permit ∷ []) ∷ [])
    more_files
    (traced "/bin/cat" 0 0 "/tmp/e" ∷ untraced "/bin/evil" 0 0 "/" ∷ [])
    (thread_in 1 (
    put 128 "f" ++ call Chdir 128 4 0 ∷ put 0 "/tmp/e" ++ call Open 0 0 420 ∷ []) ∷
    thread_in 1 (
    put 0 "/tmp/e" ++ call Truncate 0 7 8 ∷ put 2000 "/tmp/e/f" ++ call Execve 2000 6400 0 ∷ put 64 "/tmp/e" ++ put 128 "/tmp/e" ++
    call Link 64 128 0 ∷ []) ∷
    thread_in 2 (
    put 2048 "/tmp/e" ++ put 2112 "/d/secret" ++ put 2176 "/q0" ++ call Rename 2048 2176 0 ∷ call Symlink 2176 2048 0 ∷ put 2048 "/tmp" ++
    put 2112 "/d/secret" ++ put 2176 "/q1" ++ call Open 2048 1538 0 ∷ []) ∷ [])
    (reply "/bin/cat" (permits FsRead) ∷ [])

a_denial_for_a_link_under_two_workers : trace a_denial_for_a_link_under_two_workers_input (
    thread 1 2 ∷ thread 3 1 ∷ worker 1 4 ∷ thread 2 2 ∷ worker 1 5 ∷ thread 2 4 ∷ worker 1 8 ∷ thread 1 3 ∷ worker 1 5 ∷ thread 3 8 ∷
    thread 1 2 ∷ thread 2 3 ∷ thread 3 6 ∷ thread 2 1 ∷ worker 2 9 ∷ thread 2 2 ∷ rest ∷ [])
    ≡ Some (
    Stored 1 16 102 ∷ Entered 1 Chdir (regs 128 4 0) (Held 1) ∷ Stored 3 256 111254424089647 ∷ Claimed 1 1 ∷ Copied 1 0 16 102 ∷
    Looked 1 0 (name "/tmp/e/f") File ∷
    Answered 1 (copies 1 1 (ids 0 0 0 0) "/bin/cat" (Rule.Call Chdir) Chdir (regs 128 4 0) (arg Filename 0 "/tmp/e/f" ∷ [])) (Refuse 2 ENOEXEC) true ∷
    Stored 2 0 111254424089647 ∷ Entered 2 Truncate (regs 0 7 8) (Held 2) ∷ Claimed 1 2 ∷ Copied 2 0 0 111254424089647 ∷
    Looked 2 0 (name "/tmp") Dir ∷ Looked 2 0 (name "/tmp/e") Dir ∷
    Answered 1 (copies 2 1 (ids 0 0 0 0) "/bin/cat" (Rule.Call Truncate) Truncate (regs 0 7 8) (arg Filename 0 "/tmp/e" ∷ []))
    (Permit 1 (ids 0 0 0 0)) true ∷
    Used 2 (Some 2) Truncate (regs 0 7 8) (arg Filename 0 "/tmp/e" ∷ []) (ids 0 0 0 0) (Failed EISDIR) [] ∷ Stored 2 250 7363215170198139951 ∷
    Stored 2 251 0 ∷ Entered 2 Execve (regs 2000 6400 0) (Held 3) ∷ Claimed 1 3 ∷ Copied 3 0 250 7363215170198139951 ∷ Copied 3 0 251 0 ∷
    Looked 3 0 (name "/tmp") Dir ∷ Looked 3 0 (name "/tmp/e") Dir ∷ Looked 3 0 (name "/tmp/e/f") File ∷ Copied 3 1 800 0 ∷
    Answered 1 (copies 3 1 (ids 0 0 0 0) "/bin/cat" (Rule.Call Execve) Execve (regs 2000 6400 0)
    (arg Filename 0 "/tmp/e/f" ∷ arg Argv 0 "" ∷ [])) Unmatched true ∷
    Denied 1 (Some 1) ENOEXEC (cause.Filter 2) ∷ Stored 1 0 111254424089647 ∷ Entered 1 Open (regs 0 0 420) (Held 4) ∷ Claimed 1 4 ∷
    Copied 4 0 0 111254424089647 ∷ Looked 4 0 (name "/tmp") Dir ∷ Looked 4 0 (name "/tmp/e") Dir ∷
    Answered 1 (copies 4 1 (ids 0 0 0 0) "/bin/cat" FsRead Open (regs 0 0 420) (arg Filename 0 "/tmp/e" ∷ [])) (Permit 1 (ids 0 0 0 0)) true ∷
    Stored 3 264 7310014432551068719 ∷ Stored 3 265 116 ∷ Stored 3 272 3174703 ∷ Entered 3 Rename (regs 2048 2176 0) Untraced ∷
    Used 3 None Rename (regs 2048 2176 0) (arg Filename 0 "/tmp/e" ∷ arg Filename 1 "/q0" ∷ []) (ids 0 0 0 0) (Value 0)
    (Renamed (name "/tmp/e") (name "/q0") ∷ []) ∷
    Entered 3 Symlink (regs 2176 2048 0) Untraced ∷
    Used 3 None Symlink (regs 2176 2048 0) (arg String 0 "/q0" ∷ arg Filename 0 "/tmp/e" ∷ []) (ids 0 0 0 0) (Value 0)
    (Made (name "/tmp/e") 38 (made.Link (codes "/q0")) 0 0 511 ∷ []) ∷
    Stored 3 256 1886221359 ∷ Denied 1 (Some 4) ELOOP (cause.Link (name "/tmp/e")) ∷ Ended 1 ∷ Denied 2 (Some 3) EPERM NoFilter ∷
    Stored 2 8 111254424089647 ∷ Stored 2 16 111254424089647 ∷ Stored 3 264 7310014432551068719 ∷ Stored 3 265 116 ∷ Stored 3 272 3240239 ∷
    Entered 3 Open (regs 2048 1538 0) Untraced ∷
    Used 3 None Open (regs 2048 1538 0) (arg Filename 0 "/tmp" ∷ []) (ids 0 0 0 0) (Failed EISDIR) [] ∷ Ended 3 ∷
    Entered 2 Link (regs 64 128 0) (Held 5) ∷ Claimed 2 5 ∷ Copied 5 0 8 111254424089647 ∷ Looked 5 0 (name "/tmp") Dir ∷
    Looked 5 0 (name "/tmp/e") (seen.Link (codes "/q0")) ∷ Looked 5 0 (name "/q0") Dir ∷ Copied 5 1 16 111254424089647 ∷
    Looked 5 1 (name "/tmp") Dir ∷ Looked 5 1 (name "/tmp/e") (seen.Link (codes "/q0")) ∷
    Answered 2 (copies 5 1 (ids 0 0 0 0) "/bin/cat" (Rule.Call Link) Link (regs 64 128 0) (arg Filename 0 "/q0" ∷ arg Filename 1 "/tmp/e" ∷ []))
    Unmatched true ∷
    Denied 2 (Some 5) EPERM NoFilter ∷ Ended 2 ∷ [])
unfolding digits
a_denial_for_a_link_under_two_workers = refl

abbrev a_forked_child_and_descriptors_that_are_not_open_input : Input
a_forked_child_and_descriptors_that_are_not_open_input = input (record { mode = Enforce; inherit = false; aliasing = true; ids = None; workers = 1 })
    (policy "/bin/cat" (when (Rule.Call Close) (And (True) (True)) action.Permit ∷ []) ∷
    policy "/usr/bin/x" (
    when (Rule.Call Close) (And (And (True) (True)) (Not (True))) (action.Deny EPERM) ∷ permits (Rule.Call Close) ∷
    when (Rule.Call Close) (And (True) (True)) action.Permit ∷ []) ∷ [])
    []
    (traced "/bin/cat" 5 5 "/gone" ∷ untraced "/bin/cat" 5 1000 "/d/f" ∷ traced "/usr/bin/x" 1000 1000 "/d" ∷ [])
    (thread_in 2 (
    instr.Fork 3 ∷ []) ∷
    thread_in 1 (
    call Close 3 0 0 ∷ []) ∷
    forked_thread (
    put 2032 "/w/full/k" ++ call Open 2032 1 438 ∷ call Write 3 4094 16 ∷ call Write 4 1024 0 ∷ Store 266 1342177808 ∷ call Bind 3 2128 0 ∷
    put 2032 "/bin/sh" ++ Store 400 65536 ∷ call Execve 2032 3200 0 ∷ put 2080 "/../w/own" ++ call Open 2080 0 0 ∷ []) ∷ [])
    []

a_forked_child_and_descriptors_that_are_not_open : trace a_forked_child_and_descriptors_that_are_not_open_input (
    thread 1 3 ∷ thread 3 6 ∷ thread 2 1 ∷ thread 3 14 ∷ worker 1 2 ∷ thread 2 2 ∷ rest ∷ [])
    ≡ Some (
    Entered 1 Fork (regs 0 0 0) Untraced ∷ Used 1 None Fork (regs 0 0 0) [] (ids 5 5 1000 1000) (Value 4) (Forked 4 4 3 ∷ []) ∷ Ended 1 ∷
    Stored 3 254 3417225468748724015 ∷ Stored 3 255 107 ∷ Entered 3 Open (regs 2032 1 438) Untraced ∷
    Used 3 None Open (regs 2032 1 438) [] (ids 5 5 1000 1000) (Failed ENOENT) [] ∷ Entered 3 Write (regs 3 4094 16) Untraced ∷
    Used 3 None Write (regs 3 4094 16) [] (ids 5 5 1000 1000) (Failed EBADF) [] ∷ Entered 2 Close (regs 3 0 0) (Held 1) ∷
    Entered 3 Write (regs 4 1024 0) Untraced ∷ Used 3 None Write (regs 4 1024 0) [] (ids 5 5 1000 1000) (Failed EBADF) [] ∷
    Stored 3 266 1342177808 ∷ Entered 3 Bind (regs 3 2128 0) Untraced ∷
    Used 3 None Bind (regs 3 2128 0) (arg SockAddr 0 "inet-[0.0.0.0]:80" ∷ []) (ids 5 5 1000 1000) (Failed EBADF) [] ∷
    Stored 3 254 29400045130965551 ∷ Stored 3 400 65536 ∷ Entered 3 Execve (regs 2032 3200 0) Untraced ∷
    Used 3 None Execve (regs 2032 3200 0) [] (ids 5 5 1000 1000) (Failed ENOENT) [] ∷ Stored 3 260 8606149601867476527 ∷ Stored 3 261 110 ∷
    Entered 3 Open (regs 2080 0 0) Untraced ∷ Used 3 None Open (regs 2080 0 0) [] (ids 5 5 1000 1000) (Failed ENOENT) [] ∷ Ended 3 ∷
    Claimed 1 1 ∷ Answered 1 (copies 1 1 (ids 5 5 5 5) "/bin/cat" (Rule.Call Close) Close (regs 3 0 0) []) (Permit 1 (ids 5 5 5 5)) true ∷
    Used 2 (Some 1) Close (regs 3 0 0) [] (ids 5 5 5 5) (Failed EBADF) [] ∷ Ended 2 ∷ [])
unfolding digits
a_forked_child_and_descriptors_that_are_not_open = refl

abbrev names_learnt_in_a_new_directory_input : Input
names_learnt_in_a_new_directory_input = input (record { mode = Learn; inherit = false; aliasing = true; ids = None; workers = 1 })
    (policy "/usr/bin/x" (permits FsWrite ∷ permits FsWrite ∷ permits (Rule.Call Symlink) ∷ permits (Rule.Call Chdir) ∷ []) ∷ [])
    many_files
    (traced "/usr/bin/x" 1000 1000 "/tmp" ∷ [])
    (thread_in 1 (
    put 96 "/d/f" ++ call Access 96 8 0 ∷ put 448 "/d/sub" ++ put 456 "/q" ++ call Chdir 448 0 0 ∷ call Rename 448 456 0 ∷
    call Symlink 456 448 0 ∷ put 96 "own" ++ call Open 96 0 0 ∷ []) ∷ [])
    []

names_learnt_in_a_new_directory : trace names_learnt_in_a_new_directory_input (
    thread 1 2 ∷ worker 1 5 ∷ operator 1 ∷ thread 1 6 ∷ worker 1 7 ∷ operator 1 ∷ thread 1 5 ∷ worker 1 4 ∷ operator 1 ∷ thread 1 2 ∷ [])
    ≡ Some (
    Stored 1 12 1714381871 ∷ Entered 1 Access (regs 96 8 0) (Held 1) ∷ Claimed 1 1 ∷ Copied 1 0 12 1714381871 ∷ Looked 1 0 (name "/d") Dir ∷
    Looked 1 0 (name "/d/f") File ∷
    Answered 1 (copies 1 1 (ids 1000 1000 1000 1000) "/usr/bin/x" FsRead Access (regs 96 8 0) (arg Filename 0 "/d/f" ∷ [])) Unmatched true ∷
    Learned 1 1 ∷ Used 1 (Some 1) Access (regs 96 8 0) (arg Filename 0 "/d/f" ∷ []) (ids 1000 1000 1000 1000) (Failed EINVAL) [] ∷
    Stored 1 56 108256583181359 ∷ Stored 1 57 28975 ∷ Entered 1 Chdir (regs 448 0 0) Fast ∷
    Used 1 None Chdir (regs 448 0 0) (arg Filename 0 "/d/sub" ∷ []) (ids 1000 1000 1000 1000) (Value 0) (Cwd (name "/d/sub") ∷ []) ∷
    Entered 1 Rename (regs 448 456 0) (Held 2) ∷ Claimed 1 2 ∷ Copied 2 0 56 108256583181359 ∷ Looked 2 0 (name "/d") Dir ∷
    Looked 2 0 (name "/d/sub") Dir ∷ Copied 2 1 57 28975 ∷ Looked 2 1 (name "/q") Missing ∷
    Answered 1 (copies 2 1 (ids 1000 1000 1000 1000) "/usr/bin/x" (Rule.Call Rename) Rename (regs 448 456 0)
    (arg Filename 0 "/d/sub" ∷ arg Filename 1 "/q" ∷ [])) Unmatched true ∷
    Learned 2 1 ∷
    Used 1 (Some 2) Rename (regs 448 456 0) (arg Filename 0 "/d/sub" ∷ arg Filename 1 "/q" ∷ []) (ids 1000 1000 1000 1000) (Failed EACCES) [] ∷
    Entered 1 Symlink (regs 456 448 0) Fast ∷
    Used 1 None Symlink (regs 456 448 0) (arg String 0 "/q" ∷ arg Filename 0 "/d/sub" ∷ []) (ids 1000 1000 1000 1000) (Failed EEXIST) [] ∷
    Stored 1 12 7239535 ∷ Entered 1 Open (regs 96 0 0) (Held 3) ∷ Claimed 1 3 ∷ Copied 3 0 12 7239535 ∷
    Looked 3 0 (name "/d/sub/own") Missing ∷
    Answered 1 (copies 3 1 (ids 1000 1000 1000 1000) "/usr/bin/x" FsRead Open (regs 96 0 0) (arg Filename 0 "/d/sub/own" ∷ [])) Unmatched true ∷
    Learned 3 2 ∷ Used 1 (Some 3) Open (regs 96 0 0) (arg Filename 0 "/d/sub/own" ∷ []) (ids 1000 1000 1000 1000) (Failed ENOENT) [] ∷
    Ended 1 ∷ [])
unfolding digits
names_learnt_in_a_new_directory = refl

abbrev three_calls_learnt_under_three_workers_input : Input
three_calls_learnt_under_three_workers_input = input (record { mode = Learn; inherit = false; aliasing = true; ids = None; workers = 3 })
    []
    more_files
    (traced "/bin/cat" 1000 1000 "/" ∷ untraced "/bin/evil" 0 0 "/" ∷ [])
    (thread_in 1 (
    put 128 "/tmp/f" ++ call Open 128 1 420 ∷ put 128 "/tmp/f" ++ call Chown 128 4 0 ∷ []) ∷
    thread_in 1 (
    put 128 "/tmp/e/f" ++ call Chdir 128 0 8 ∷ put 64 "/tmp/f" ++ call Chdir 64 0 0 ∷ put 0 "/d/sub/g" ++ []) ∷
    thread_in 1 (
    call Exit 0 0 0 ∷ put 64 "/tmp/e/f" ++ call Chdir 64 0 0 ∷ []) ∷
    thread_in 2 (
    put 2048 "/tmp/f" ++ put 2112 "/d/secret" ++ put 2176 "/q0" ++ call Rename 2048 2176 0 ∷ call Symlink 2176 2048 0 ∷ put 2048 "/tmp/f" ++
    put 2112 "/d/secret" ++ put 2176 "/q1" ++ call Rename 2048 2176 0 ∷ call Symlink 2176 2048 0 ∷ put 2048 "/tmp" ++ put 2112 "/d/secret" ++
    put 2176 "/q2" ++ call Unlink 2048 0 0 ∷ call Symlink 2112 2048 0 ∷ []) ∷ [])
    []

three_calls_learnt_under_three_workers : trace three_calls_learnt_under_three_workers_input (
    thread 1 2 ∷ thread 3 1 ∷ worker 1 7 ∷ thread 4 12 ∷ thread 2 1 ∷ thread 4 2 ∷ thread 2 2 ∷ worker 1 7 ∷ thread 4 11 ∷ operator 3 ∷
    thread 3 2 ∷ thread 2 1 ∷ thread 1 1 ∷ rest ∷ [])
    ≡ Some (
    Stored 1 16 112353935717423 ∷ Entered 1 Open (regs 128 1 420) (Held 1) ∷ Entered 3 Exit (regs 0 0 0) (Held 2) ∷ Claimed 1 1 ∷
    Copied 1 0 16 112353935717423 ∷ Looked 1 0 (name "/tmp") Dir ∷ Looked 1 0 (name "/tmp/f") File ∷
    Answered 1 (copies 1 1 (ids 1000 1000 1000 1000) "/bin/cat" FsWrite Open (regs 128 1 420) (arg Filename 0 "/tmp/f" ∷ [])) Unmatched true ∷
    Claimed 1 2 ∷ Answered 1 (copies 2 1 (ids 1000 1000 1000 1000) "/bin/cat" (Rule.Call Exit) Exit (regs 0 0 0) []) Unmatched true ∷
    Stored 4 256 112353935717423 ∷ Stored 4 264 7310014432551068719 ∷ Stored 4 265 116 ∷ Stored 4 272 3174703 ∷
    Entered 4 Rename (regs 2048 2176 0) Untraced ∷
    Used 4 None Rename (regs 2048 2176 0) (arg Filename 0 "/tmp/f" ∷ arg Filename 1 "/q0" ∷ []) (ids 0 0 0 0) (Value 0)
    (Renamed (name "/tmp/f") (name "/q0") ∷ []) ∷
    Entered 4 Symlink (regs 2176 2048 0) Untraced ∷
    Used 4 None Symlink (regs 2176 2048 0) (arg String 0 "/q0" ∷ arg Filename 0 "/tmp/f" ∷ []) (ids 0 0 0 0) (Value 0)
    (Made (name "/tmp/f") 38 (made.Link (codes "/q0")) 0 0 511 ∷ []) ∷
    Stored 4 256 112353935717423 ∷ Stored 4 264 7310014432551068719 ∷ Stored 4 265 116 ∷ Stored 4 272 3240239 ∷
    Stored 2 16 7363215170198139951 ∷ Entered 4 Rename (regs 2048 2176 0) Untraced ∷
    Used 4 None Rename (regs 2048 2176 0) (arg Filename 0 "/tmp/f" ∷ arg Filename 1 "/q1" ∷ []) (ids 0 0 0 0) (Value 0)
    (Renamed (name "/tmp/f") (name "/q1") ∷ []) ∷
    Stored 2 17 0 ∷ Entered 2 Chdir (regs 128 0 8) (Held 3) ∷ Claimed 1 3 ∷ Copied 3 0 16 7363215170198139951 ∷ Copied 3 0 17 0 ∷
    Looked 3 0 (name "/tmp") Dir ∷ Looked 3 0 (name "/tmp/e") Dir ∷ Looked 3 0 (name "/tmp/e/f") File ∷
    Answered 1 (copies 3 1 (ids 1000 1000 1000 1000) "/bin/cat" (Rule.Call Chdir) Chdir (regs 128 0 8) (arg Filename 0 "/tmp/e/f" ∷ []))
    Unmatched true ∷
    Entered 4 Symlink (regs 2176 2048 0) Untraced ∷
    Used 4 None Symlink (regs 2176 2048 0) (arg String 0 "/q1" ∷ arg Filename 0 "/tmp/f" ∷ []) (ids 0 0 0 0) (Value 0)
    (Made (name "/tmp/f") 39 (made.Link (codes "/q1")) 0 0 511 ∷ []) ∷
    Stored 4 256 1886221359 ∷ Stored 4 264 7310014432551068719 ∷ Stored 4 265 116 ∷ Stored 4 272 3305775 ∷
    Entered 4 Unlink (regs 2048 0 0) Untraced ∷
    Used 4 None Unlink (regs 2048 0 0) (arg Filename 0 "/tmp" ∷ []) (ids 0 0 0 0) (Failed EPERM) [] ∷
    Entered 4 Symlink (regs 2112 2048 0) Untraced ∷
    Used 4 None Symlink (regs 2112 2048 0) (arg String 0 "/d/secret" ∷ arg Filename 0 "/tmp" ∷ []) (ids 0 0 0 0) (Failed EEXIST) [] ∷ Ended 4 ∷
    Learned 1 1 ∷ Learned 2 1 ∷ Learned 3 1 ∷ Used 3 (Some 2) Exit (regs 0 0 0) [] (ids 1000 1000 1000 1000) (Value 0) (Dying 1 ∷ []) ∷
    Ended 3 ∷ Ended 2 ∷ Ended 1 ∷ [])
unfolding digits
three_calls_learnt_under_three_workers = refl

abbrev names_removed_and_renamed_after_the_answer_input : Input
names_removed_and_renamed_after_the_answer_input = input (record {
  mode = Enforce;
  inherit = true;
  aliasing = true;
  ids = Some
      (1000, 1000);
  workers = 1;
})
    (policy "/bin/cat" (
    when (Rule.Call Chdir) (test "filename" op.Sub "/") action.Permit ∷ when (Rule.Call Execve) (test "filename" op.Sub "/") action.Permit ∷ []) ∷ [])
    more_files
    (traced "/bin/cat" 0 0 "/d" ∷ untraced "/bin/evil" 0 0 "/" ∷ [])
    (thread_in 1 (
    put 128 "/w/own" ++ call Execve 128 6400 0 ∷ put 0 "/tmp/e/f" ++ call Chdir 0 7 0 ∷ []) ∷
    thread_in 2 (
    put 2048 "/tmp" ++ put 2112 "/d/secret" ++ put 2176 "/q0" ++ call Rename 2048 2176 0 ∷ call Symlink 2176 2048 0 ∷ put 2048 "/tmp/f" ++
    put 2112 "/d/secret" ++ put 2176 "/q1" ++ call Unlink 2048 0 0 ∷ call Symlink 2112 2048 0 ∷ put 2048 "/d/f" ++ put 2112 "/d/secret" ++
    put 2176 "/q2" ++ call Rename 2048 2176 0 ∷ call Symlink 2176 2048 0 ∷ []) ∷ [])
    []

names_removed_and_renamed_after_the_answer : trace names_removed_and_renamed_after_the_answer_input (
    thread 1 2 ∷ worker 1 6 ∷ thread 2 10 ∷ thread 1 1 ∷ thread 2 15 ∷ thread 1 3 ∷ worker 1 8 ∷ thread 1 2 ∷ rest ∷ [])
    ≡ Some (
    Stored 1 16 121459245545263 ∷ Entered 1 Execve (regs 128 6400 0) (Held 1) ∷ Claimed 1 1 ∷ Copied 1 0 16 121459245545263 ∷
    Looked 1 0 (name "/w") Dir ∷ Looked 1 0 (name "/w/own") File ∷ Copied 1 1 800 0 ∷
    Answered 1 (copies 1 1 (ids 1000 1000 1000 1000) "/bin/cat" (Rule.Call Execve) Execve (regs 128 6400 0)
    (arg Filename 0 "/w/own" ∷ arg Argv 0 "" ∷ [])) (Permit 1 (ids 1000 1000 1000 1000)) true ∷
    Stored 2 256 1886221359 ∷ Stored 2 264 7310014432551068719 ∷ Stored 2 265 116 ∷ Stored 2 272 3174703 ∷
    Entered 2 Rename (regs 2048 2176 0) Untraced ∷
    Used 2 None Rename (regs 2048 2176 0) (arg Filename 0 "/tmp" ∷ arg Filename 1 "/q0" ∷ []) (ids 0 0 0 0) (Value 0)
    (Renamed (name "/tmp") (name "/q0") ∷ []) ∷
    Entered 2 Symlink (regs 2176 2048 0) Untraced ∷
    Used 2 None Symlink (regs 2176 2048 0) (arg String 0 "/q0" ∷ arg Filename 0 "/tmp" ∷ []) (ids 0 0 0 0) (Value 0)
    (Made (name "/tmp") 38 (made.Link (codes "/q0")) 0 0 511 ∷ []) ∷
    Stored 2 256 112353935717423 ∷ Stored 2 264 7310014432551068719 ∷
    Used 1 (Some 1) Execve (regs 128 6400 0) (arg Filename 0 "/w/own" ∷ arg Argv 0 "" ∷ []) (ids 1000 1000 1000 1000) (Failed EACCES) [] ∷
    Stored 2 265 116 ∷ Stored 2 272 3240239 ∷ Entered 2 Unlink (regs 2048 0 0) Untraced ∷
    Used 2 None Unlink (regs 2048 0 0) (arg Filename 0 "/q0/f" ∷ []) (ids 0 0 0 0) (Value 0) (Removed (name "/q0/f") ∷ []) ∷
    Entered 2 Symlink (regs 2112 2048 0) Untraced ∷
    Used 2 None Symlink (regs 2112 2048 0) (arg String 0 "/d/secret" ∷ arg Filename 0 "/q0/f" ∷ []) (ids 0 0 0 0) (Value 0)
    (Made (name "/q0/f") 39 (made.Link (codes "/d/secret")) 0 0 511 ∷ []) ∷
    Stored 2 256 1714381871 ∷ Stored 2 264 7310014432551068719 ∷ Stored 2 265 116 ∷ Stored 2 272 3305775 ∷
    Entered 2 Rename (regs 2048 2176 0) Untraced ∷
    Used 2 None Rename (regs 2048 2176 0) (arg Filename 0 "/d/f" ∷ arg Filename 1 "/q2" ∷ []) (ids 0 0 0 0) (Value 0)
    (Renamed (name "/d/f") (name "/q2") ∷ []) ∷
    Entered 2 Symlink (regs 2176 2048 0) Untraced ∷
    Used 2 None Symlink (regs 2176 2048 0) (arg String 0 "/q2" ∷ arg Filename 0 "/d/f" ∷ []) (ids 0 0 0 0) (Value 0)
    (Made (name "/d/f") 40 (made.Link (codes "/q2")) 0 0 511 ∷ []) ∷
    Ended 2 ∷ Stored 1 0 7363215170198139951 ∷ Stored 1 1 0 ∷ Entered 1 Chdir (regs 0 7 0) (Held 2) ∷ Claimed 1 2 ∷
    Copied 2 0 0 7363215170198139951 ∷ Copied 2 0 1 0 ∷ Looked 2 0 (name "/tmp") (seen.Link (codes "/q0")) ∷ Looked 2 0 (name "/q0") Dir ∷
    Looked 2 0 (name "/q0/e") Dir ∷ Looked 2 0 (name "/q0/e/f") File ∷
    Answered 1 (copies 2 1 (ids 1000 1000 1000 1000) "/bin/cat" (Rule.Call Chdir) Chdir (regs 0 7 0) (arg Filename 0 "/q0/e/f" ∷ []))
    (Permit 1 (ids 1000 1000 1000 1000)) true ∷
    Used 1 (Some 2) Chdir (regs 0 7 0) (arg Filename 0 "/q0/e/f" ∷ []) (ids 1000 1000 1000 1000) (Failed ENOTDIR) [] ∷ Ended 1 ∷ [])
unfolding digits
names_removed_and_renamed_after_the_answer = refl
