-- The audits of runs whose lines were worked out from the rules.
use Rattle.std.proofs.Common.{◌≡◌, ℕ, true, false, List, [], ◌∷◌, ◌++◌, Some, None, refl, codes}
use Rattle.std.specs.Fmt.{digits}
use Rattle.std.specs.Prelude.{Bool, Option}
use Rattle.st_base.specs.declared.errno.Errno.TheVariants.{ENOENT, EACCES}
use Rattle.st_calls.specs.declared.call.SysCall.TheVariants.{Execve, Fork, GetPid, Open, Rename}
use Rattle.st_calls.specs.declared.rule.Rule.TheVariants as Rule
use Rattle.st_calls.specs.declared.rule.Rule.TheVariants.{FsRead}
use Rattle.st_emulation.specs.declared.emulation.Emulation.{Emulation}
use Rattle.st_emulation.specs.declared.emulation.Emulation.TheVariants.{Native, Linux}
use Rattle.st_filter.specs.Formula.{FilterValue}
use Rattle.st_filter.specs.declared.filter.Action.TheVariants as action
use Rattle.st_filter.specs.declared.filter.Op.TheVariants as op
use Rattle.st_filter.specs.declared.set.Reply.{Reply}
use Rattle.st_trace.specs.declared.entry.Entry.{Entry}
use Rattle.st_trace.specs.declared.start.Instr.TheVariants as instr
use Rattle.st_law.specs.declared.input.Input.{Input}
use Rattle.st_law.specs.declared.input.Mode.TheVariants.{AskText, Enforce}
use Rattle.st_law.specs.declared.input.ScheduleLine.{ScheduleLine}
use Rattle.st_law.proofs.HeldRuns.{barred, etc_denied, etc_denier, maker, nameless, passwd_reader, rewriter}
use Rattle.st_law.proofs.LinkRuns.{linker, link_reader}
use Rattle.st_law.proofs.ProcessRuns.{killer, server, setter}
use Rattle.st_law.proofs.Scripts.{asking_input, cat_input, etc_files, opens, passwd_only, reads_only}
use Rattle.st_law.proofs.SessionRuns.{learner}
use Rattle.st_law.proofs.Writing.{call, denies, dir, file, forked_thread, granting, input, logged, permits, policy, put, reply, rest, test, thread, thread_in, trace, traced, when, worker}
use Rattle.st_audit.specs.AuditText.{audit}

-- the audit of what a schedule plays
abbrev audit_of : Input → Option (List Entry) → Emulation → List ℕ
audit_of i None emulation = []
audit_of i (Some entries) emulation = audit i entries emulation

abbrev pub audited : Input → List ScheduleLine → List ℕ
audited i lines = audit_of i (trace i lines) Native

-- ---- calls that the kernel answers by itself

fast_calls : audited (maker GetPid (permits (Rule.Call GetPid))) (rest ∷ []) ≡ codes "1.1 \"/bin/a\" native-getpid fast = 1\n1.1 \"/bin/a\" native-exit fast = 0\n"
unfolding digits
fast_calls = refl

a_barred_call : audited barred (rest ∷ []) ≡ codes "1.1 \"/bin/a\" native-getuid barred#1 = EPERM\n1.1 \"/bin/a\" native-exit fast = 0\n"
unfolding digits
a_barred_call = refl

-- ---- held calls

abbrev pub passwd_line : List ℕ
passwd_line = codes "1.1 \"/bin/cat\" native-fsread filename=\"/etc/passwd\" permit#1 = 3\n"

a_held_open : audited passwd_reader (rest ∷ []) ≡ passwd_line
unfolding digits
a_held_open = refl

rewritten_after_the_answer : audited rewriter (thread 1 3 ∷ worker 1 6 ∷ thread 2 2 ∷ rest ∷ []) ≡ passwd_line
unfolding digits
rewritten_after_the_answer = refl

a_torn_copy : audited rewriter (thread 1 3 ∷ worker 1 2 ∷ thread 2 2 ∷ rest ∷ []) ≡ codes "1.1 \"/bin/cat\" native-fsread filename=\"/etc/pasd\" nofilter = EPERM\n"
unfolding digits
a_torn_copy = refl

a_link_that_is_resolved : audited (link_reader (when FsRead (test "filename" op.Match "/etc/*") (action.Deny ENOENT) ∷ [])) (rest ∷ []) ≡ codes "1.1 \"/bin/cat\" native-fsread filename=\"/etc/passwd\" deny#1 = ENOENT\n"
unfolding digits
a_link_that_is_resolved = refl

a_link_that_is_met : audited linker (thread 1 2 ∷ worker 1 5 ∷ thread 2 7 ∷ rest ∷ []) ≡ codes "1.1 \"/bin/cat\" native-fsread filename=\"/tmp/f\" link \"/tmp/f\" = ELOOP\n"
unfolding digits
a_link_that_is_met = refl

killed_while_held : audited killer (thread 1 2 ∷ worker 1 4 ∷ thread 2 2 ∷ worker 1 1 ∷ rest ∷ []) ≡ []
unfolding digits
killed_while_held = refl

a_denial_first : audited etc_denier (rest ∷ []) ≡ codes "1.1 \"/bin/cat\" native-fsread filename=\"/etc/passwd\" deny#1 = EPERM\n"
unfolding digits
a_denial_first = refl

a_permit_first : audited (cat_input (passwd_only ∷ etc_denied ∷ []) etc_files (thread_in 1 (opens "/etc/passwd") ∷ [])) (rest ∷ []) ≡ passwd_line
unfolding digits
a_permit_first = refl

an_empty_name : audited nameless (rest ∷ []) ≡ codes "1.1 \"/bin/cat\" native-fsread fault = ENOENT\n"
unfolding digits
an_empty_name = refl

-- ---- identities and processes

elevated_bind : audited server (rest ∷ []) ≡
    codes "1.1 \"/bin/www\" native-socket fast = 3\n1.1 \"/bin/www\" native-socket fast = 4\n1.1 \"/bin/www\" native-bind sockaddr=\"inet-[0.0.0.0]:80\" permit#1 as 0:30 = 0\n1.1 \"/bin/www\" native-bind sockaddr=\"inet-[0.0.0.0]:81\" permit#2 = EACCES\n"
unfolding digits
elevated_bind = refl

set_id_renews : audited setter (thread 1 3 ∷ worker 1 6 ∷ thread 2 2 ∷ rest ∷ []) ≡
    codes "1.2 \"/bin/cat\" native-setuid fast = 0\n1.1 \"/bin/cat\" native-fsread filename=\"/etc/passwd\" nofilter = EPERM\n"
unfolding digits
set_id_renews = refl

-- a shell forks a child, which runs another binary
abbrev two_binaries : Bool → Input
two_binaries inherit = input (record { mode = Enforce; inherit = inherit; aliasing = true; ids = None; workers = 1 })
    (policy "/bin/sh" (permits (Rule.Call Fork) ∷ when (Rule.Call Execve) (test "filename" op.Eq "/bin/ls") action.Permit ∷ permits FsRead ∷ []) ∷
    policy "/bin/ls" (denies FsRead EACCES ∷ []) ∷ [])
    (dir "/bin" 0 0 493 ∷ file "/bin/ls" 0 0 493 (codes "ls") ∷ file "/x" 0 0 420 (codes "x") ∷ [])
    (traced "/bin/sh" 0 0 "/" ∷ [])
    (thread_in 1 (instr.Fork 2 ∷ []) ∷ forked_thread (put 0 "/bin/ls" ++ call Execve 0 64 0 ∷ opens "/x") ∷ []) []

child_and_new_binary : audited (two_binaries false) (rest ∷ []) ≡
    codes "1.1 \"/bin/sh\" native-fork fast = 2\n2.2 \"/bin/sh\" native-execve filename=\"/bin/ls\" argv=\"\" permit#1 = 0\n2.2 \"/bin/ls\" native-fsread barred#1 = EACCES\n"
unfolding digits
child_and_new_binary = refl

the_policy_is_kept : audited (two_binaries true) (rest ∷ []) ≡
    codes "1.1 \"/bin/sh\" native-fork fast = 2\n2.2 \"/bin/sh\" native-execve filename=\"/bin/ls\" argv=\"\" permit#1 = 0\n2.2 \"/bin/sh\" native-fsread fast = 3\n"
unfolding digits
the_policy_is_kept = refl

-- without aliases a call is judged and printed by its own name
abbrev unaliased : Input
unaliased = input (record { mode = Enforce; inherit = false; aliasing = false; ids = None; workers = 1 })
    (policy "/bin/cat" (permits (Rule.Call Open) ∷ []) ∷ []) etc_files (traced "/bin/cat" 1000 1000 "/" ∷ [])
    (thread_in 1 (opens "/etc/passwd") ∷ []) []

own_name : audited unaliased (rest ∷ []) ≡ codes "1.1 \"/bin/cat\" native-open fast = 3\n"
unfolding digits
own_name = refl

-- ---- the session

a_learnt_filter : audited learner (rest ∷ []) ≡ passwd_line
unfolding digits
a_learnt_filter = refl

abbrev asker : List Reply → Input
asker replies = asking_input AskText etc_files (thread_in 1 (opens "/etc/passwd") ∷ []) replies

abbrev motd_reply : Reply
motd_reply = reply "/bin/cat" (reads_only "/etc/motd")

a_second_reply : audited (asker (motd_reply ∷ reply "/bin/cat" passwd_only ∷ [])) (rest ∷ []) ≡ codes "1.1 \"/bin/cat\" native-fsread filename=\"/etc/passwd\" permit#2 = 3\n"
unfolding digits
a_second_reply = refl

no_reply_is_left : audited (asker (motd_reply ∷ [])) (rest ∷ []) ≡ codes "1.1 \"/bin/cat\" native-fsread filename=\"/etc/passwd\" nofilter = EPERM\n"
unfolding digits
no_reply_is_left = refl

a_logged_reply : audited (asker (motd_reply ∷ reply "/bin/cat" (logged (granting (Some 0) None passwd_only)) ∷ [])) (rest ∷ []) ≡
    codes "1.1 \"/bin/cat\" native-fsread filename=\"/etc/passwd\" permit#2 as 0:1000 = 3 log\n"
unfolding digits
a_logged_reply = refl

-- the filters of the session are numbered after those that were read, and have their own marks
abbrev asker_with_a_policy : Input
asker_with_a_policy = record (asker (reply "/bin/cat" passwd_only ∷ [])) { policies = record { read = policy "/bin/cat" (logged (granting (Some 7) None (reads_only "/etc/motd")) ∷ []) ∷ []; blocks = [] } }

after_those_read : audited asker_with_a_policy (rest ∷ []) ≡ codes "1.1 \"/bin/cat\" native-fsread filename=\"/etc/passwd\" permit#2 = 3\n"
unfolding digits
after_those_read = refl

-- ---- marks

abbrev reader_of : FilterValue → Input
reader_of filter = cat_input (filter ∷ []) etc_files (thread_in 1 (opens "/etc/passwd") ∷ [])

a_logged_permit : audited (reader_of (logged passwd_only)) (rest ∷ []) ≡ codes "1.1 \"/bin/cat\" native-fsread filename=\"/etc/passwd\" permit#1 = 3 log\n"
unfolding digits
a_logged_permit = refl

a_logged_denial : audited (reader_of (logged etc_denied)) (rest ∷ []) ≡ codes "1.1 \"/bin/cat\" native-fsread filename=\"/etc/passwd\" deny#1 = EPERM log\n"
unfolding digits
a_logged_denial = refl

-- a link is in the way, and the filter that permits asks for a mark
abbrev logged_linker : Input
logged_linker = record linker { policies = record { read = policy "/bin/cat" (logged (reads_only "/tmp/f") ∷ []) ∷ []; blocks = [] } }

a_logged_link : audited logged_linker (thread 1 2 ∷ worker 1 5 ∷ thread 2 7 ∷ rest ∷ []) ≡ codes "1.1 \"/bin/cat\" native-fsread filename=\"/tmp/f\" link \"/tmp/f\" = ELOOP log\n"
unfolding digits
a_logged_link = refl

-- nothing holds of this name, so no filter decides and none is marked
no_mark_without_a_filter : audited (cat_input (logged passwd_only ∷ []) etc_files (thread_in 1 (opens "/etc/spwd") ∷ [])) (rest ∷ []) ≡
    codes "1.1 \"/bin/cat\" native-fsread filename=\"/etc/spwd\" nofilter = EPERM\n"
unfolding digits
no_mark_without_a_filter = refl

-- ---- arguments

-- a call with two names, of which the second has an index
two_names : audited (cat_input (logged (permits (Rule.Call Rename)) ∷ []) etc_files (thread_in 1 (put 0 "/a" ++ put 8 "b\"" ++ call Rename 0 8 0 ∷ []) ∷ [])) (rest ∷ []) ≡
    codes "1.1 \"/bin/cat\" native-rename filename=\"/a\" filename[1]=\"/b\\\"\" permit#1 = ENOENT log\n"
unfolding digits
two_names = refl

-- ---- Linux

-- an error is its number there, after a sign
a_link_under_linux : audit_of linker (trace linker (thread 1 2 ∷ worker 1 5 ∷ thread 2 7 ∷ rest ∷ [])) Linux ≡
    codes "1.1 \"/bin/cat\" linux-fsread filename=\"/tmp/f\" link \"/tmp/f\" = -40\n"
unfolding digits
a_link_under_linux = refl

-- an error that has the same number there, and a value
errors_and_values_under_linux : audit_of barred (trace barred (rest ∷ [])) Linux ≡ codes "1.1 \"/bin/a\" linux-getuid barred#1 = -1\n1.1 \"/bin/a\" linux-exit fast = 0\n"
unfolding digits
errors_and_values_under_linux = refl
