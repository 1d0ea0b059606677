-- The texts of traces and schedules that were worked out from the rules.
use Rattle.std.proofs.Common.{◌≡◌, ℕ, true, false, List, [], ◌∷◌, ◌++◌, Some, None, refl, codes, replicate}
use Rattle.std.specs.Fmt.{digits}
use Rattle.std.specs.Prelude.{Option}
use Rattle.st_base.specs.declared.errno.Errno.TheVariants.{EPERM, ENOENT, EBADF}
use Rattle.st_calls.specs.declared.call.SysCall.TheVariants.{Close, GetPid}
use Rattle.st_calls.specs.declared.judged.Verdict.TheVariants.{Refuse, Unmatched}
use Rattle.st_calls.specs.declared.rule.Rule.TheVariants as Rule
use Rattle.st_model.specs.declared.object.NewKind.TheVariants as kind
use Rattle.st_names.specs.declared.seen.SeenText.TheVariants.{Missing, NotDir}
use Rattle.st_names.specs.declared.seen.SeenText.TheVariants as seen
use Rattle.st_trace.specs.declared.entry.CallResult.TheVariants.{Failed}
use Rattle.st_trace.specs.declared.entry.Cause.TheVariants as cause
use Rattle.st_trace.specs.declared.entry.Change.TheVariants as change
use Rattle.st_trace.specs.declared.entry.Choice.TheVariants as choice
use Rattle.st_trace.specs.declared.entry.Entry.{Entry}
use Rattle.st_trace.specs.declared.entry.Entry.TheVariants.{Answered, Denied, Entered, Faulted, Learned, Looked, Reloaded, Replied, Used}
use Rattle.st_trace.specs.declared.entry.Way.TheVariants.{Barred}
use Rattle.st_law.specs.declared.input.Input.{Input}
use Rattle.st_law.specs.declared.input.ScheduleLine.{ScheduleLine}
use Rattle.st_law.proofs.HeldRuns.{maker, passwd_reader}
use Rattle.st_law.proofs.LinkRuns.{linker}
use Rattle.st_law.proofs.ProcessRuns.{killer, setter}
use Rattle.st_law.proofs.SessionRuns.{learner}
use Rattle.st_law.proofs.Writing.{at_version, copies, ids, name, permits, regs, rest, thread, trace, worker}
use Rattle.st_report.specs.ChangeText.{changes_fields}
use Rattle.st_report.specs.ScheduleText.{schedule_text}
use Rattle.st_report.specs.TraceText.{trace_text}

-- the text of what a schedule plays
abbrev text_of : Option (List Entry) → List ℕ
text_of None = []
text_of (Some entries) = trace_text entries

abbrev traced : Input → List ScheduleLine → List ℕ
traced i lines = text_of (trace i lines)

-- ---- traces

fast_calls : traced (maker GetPid (permits (Rule.Call GetPid))) (rest ∷ []) ≡
    codes "entered 1 getpid 0 0 0 0 0 0 fast\nused 1 - getpid 0 0 0 0 0 0 ids 0 0 0 0 = 1\nentered 1 exit 0 0 0 0 0 0 fast\n" ++
    codes "used 1 - exit 0 0 0 0 0 0 ids 0 0 0 0 = 0, dying 1\nended 1\n"
unfolding digits
fast_calls = refl

a_held_open : traced passwd_reader (rest ∷ []) ≡
    codes "stored 1 0 8314049735936992559\nstored 1 1 6584179\nentered 1 open 0 0 0 0 0 0 held 1\nclaimed 1 1\n" ++
    codes "copied 1 0 0 8314049735936992559\ncopied 1 0 1 6584179\nlooked 1 0 \"/etc\" dir\nlooked 1 0 \"/etc/passwd\" file\n" ++
    codes "answered 1 1 pid 1 ids 1000 1000 1000 1000 policy \"/bin/cat\" rule native-fsread open 0 0 0 0 0 0 arg filename 0 \"/etc/passwd\" permit 1 ids 1000 1000 1000 1000 applied\n" ++
    codes "used 1 1 open 0 0 0 0 0 0 ids 1000 1000 1000 1000 arg filename 0 \"/etc/passwd\" = 3\nended 1\n"
unfolding digits
a_held_open = refl

a_link_that_is_met : traced linker (thread 1 2 ∷ worker 1 5 ∷ thread 2 7 ∷ rest ∷ []) ≡
    codes "stored 1 0 112353935717423\nentered 1 open 0 0 0 0 0 0 held 1\nclaimed 1 1\ncopied 1 0 0 112353935717423\nlooked 1 0 \"/tmp\" dir\nlooked 1 0 \"/tmp/f\" file\n" ++
    codes "answered 1 1 pid 1 ids 1000 1000 1000 1000 policy \"/bin/cat\" rule native-fsread open 0 0 0 0 0 0 arg filename 0 \"/tmp/f\" permit 1 ids 1000 1000 1000 1000 applied\n" ++
    codes "stored 2 0 112353935717423\nstored 2 1 8606505535274247471\nstored 2 2 100\nentered 2 unlink 0 0 0 0 0 0 untraced\n" ++
    codes "used 2 - unlink 0 0 0 0 0 0 ids 0 0 0 0 arg filename 0 \"/tmp/f\" = 0, removed \"/tmp/f\"\nentered 2 symlink 8 0 0 0 0 0 untraced\n" ++
    codes "used 2 - symlink 8 0 0 0 0 0 ids 0 0 0 0 arg string 0 \"/etc/spwd\" arg filename 0 \"/tmp/f\" = 0, made \"/tmp/f\" 4 link 0 0 777 \"/etc/spwd\"\n" ++
    codes "denied 1 1 ELOOP link \"/tmp/f\"\nended 1\nended 2\n"
unfolding digits
a_link_that_is_met = refl

a_stale_answer : traced killer (thread 1 2 ∷ worker 1 4 ∷ thread 2 2 ∷ worker 1 1 ∷ rest ∷ []) ≡
    codes "stored 1 0 112353935717423\nentered 1 open 0 0 0 0 0 0 held 1\nclaimed 1 1\ncopied 1 0 0 112353935717423\nlooked 1 0 \"/tmp\" dir\nlooked 1 0 \"/tmp/f\" file\n" ++
    codes "entered 2 kill 1 9 0 0 0 0 untraced\nused 2 - kill 1 9 0 0 0 0 ids 0 0 0 0 arg pid 0 \"1\" arg signum 0 \"9\" = 0, dying 1\n" ++
    codes "answered 1 1 pid 1 ids 1000 1000 1000 1000 policy \"/bin/cat\" rule native-fsread open 0 0 0 0 0 0 arg filename 0 \"/tmp/f\" permit 1 ids 1000 1000 1000 1000 stale\nended 1\nended 2\n"
unfolding digits
a_stale_answer = refl

ids_that_change : traced setter (thread 1 3 ∷ worker 1 6 ∷ thread 2 2 ∷ thread 2 1 ∷ worker 1 6 ∷ thread 1 1 ∷ []) ≡
    codes "stored 1 0 8314049735936992559\nstored 1 1 6584179\nentered 1 open 0 0 0 0 0 0 held 1\nclaimed 1 1\n" ++
    codes "copied 1 0 0 8314049735936992559\ncopied 1 0 1 6584179\nlooked 1 0 \"/etc\" dir\nlooked 1 0 \"/etc/passwd\" file\n" ++
    codes "answered 1 1 pid 1 ids 0 0 0 0 policy \"/bin/cat\" rule native-fsread open 0 0 0 0 0 0 arg filename 0 \"/etc/passwd\" permit 1 ids 0 0 0 0 applied\n" ++
    codes "entered 2 setuid 1000 0 0 0 0 0 fast\nused 2 - setuid 1000 0 0 0 0 0 ids 0 0 0 0 arg uid 0 \"1000\" = 0, setids 1000 1000 0 0, renewed 1 2\nended 2\n" ++
    codes "claimed 1 2\ncopied 2 0 0 8314049735936992559\ncopied 2 0 1 6584179\nlooked 2 0 \"/etc\" dir\nlooked 2 0 \"/etc/passwd\" file\n" ++
    codes "answered 1 2 pid 1 ids 1000 1000 0 0 policy \"/bin/cat\" rule native-fsread open 0 0 0 0 0 0 arg filename 0 \"/etc/passwd\" unmatched applied\ndenied 1 2 EPERM nofilter\n"
unfolding digits
ids_that_change = refl

a_learnt_filter : traced learner (thread 1 3 ∷ worker 1 6 ∷ rest ∷ []) ≡
    codes "stored 1 0 8314049735936992559\nstored 1 1 6584179\nentered 1 open 0 0 0 0 0 0 held 1\nclaimed 1 1\n" ++
    codes "copied 1 0 0 8314049735936992559\ncopied 1 0 1 6584179\nlooked 1 0 \"/etc\" dir\nlooked 1 0 \"/etc/passwd\" file\n" ++
    codes "answered 1 1 pid 1 ids 1000 1000 1000 1000 policy \"/bin/cat\" rule native-fsread open 0 0 0 0 0 0 arg filename 0 \"/etc/passwd\" unmatched applied\nlearned 1 1\n" ++
    codes "used 1 1 open 0 0 0 0 0 0 ids 1000 1000 1000 1000 arg filename 0 \"/etc/passwd\" = 3\nended 1\n"
unfolding digits
a_learnt_filter = refl

a_fault : trace_text (Faulted 7 ENOENT ∷ []) ≡ codes "faulted 7 ENOENT\n"
unfolding digits
a_fault = refl

-- what the runs above don't show of entries
each_entry : trace_text (
    Entered 2 Close (regs 3 0 0) (Barred 1) ∷ Looked 1 1 (name "/a/b") Missing ∷ Looked 1 0 (name "/a/b") NotDir ∷ Looked 1 0 (name "/a/b") (seen.Link (codes "../\"")) ∷
    Answered 2 (copies 9 3 (ids 1 2 3 4) "/bin/b" (Rule.Call Close) Close (regs 3 0 0) []) (Refuse 2 EBADF) true ∷
    Answered 1 (at_version 12 (copies 9 3 (ids 1 2 3 4) "/bin/b" (Rule.Call Close) Close (regs 3 0 0) [])) Unmatched false ∷
    Reloaded 2 12 true (change.Renewed 8 10 ∷ change.Renewed 9 11 ∷ []) ∷ Reloaded 2 1 true [] ∷ Reloaded 2 1 false [] ∷
    Replied 9 2 4 ∷ Learned 8 3 ∷ Used 2 None Close (regs 3 0 0) [] (ids 1 2 3 4) (Failed EBADF) [] ∷
    Denied 2 None EPERM (cause.Filter 1) ∷ Denied 2 (Some 9) ENOENT cause.Fault ∷ []) ≡
    codes "entered 2 close 3 0 0 0 0 0 barred 1\nlooked 1 1 \"/a/b\" missing\nlooked 1 0 \"/a/b\" notdir\nlooked 1 0 \"/a/b\" link \"../\\\"\"\n" ++
    codes "answered 2 9 pid 3 ids 1 2 3 4 policy \"/bin/b\" rule native-close close 3 0 0 0 0 0 refuse 2 EBADF applied\n" ++
    codes "answered 1 9 pid 3 ids 1 2 3 4 policy \"/bin/b\" version 12 rule native-close close 3 0 0 0 0 0 unmatched stale\n" ++
    codes "reloaded 2 12 done, renewed 8 10, renewed 9 11\nreloaded 2 1 done\nreloaded 2 1 refused\n" ++
    codes "replied 9 2 4\nlearned 8 3\nused 2 - close 3 0 0 0 0 0 ids 1 2 3 4 = EBADF\ndenied 2 - EPERM filter 1\ndenied 2 9 ENOENT fault\n"
unfolding digits
each_entry = refl

each_change : changes_fields (
    change.Made (name "/a") 5 kind.Dir 1 2 511 ∷ change.Made (name "/") 6 (kind.File (codes "x")) 0 0 8 ∷ change.Made (name "/l") 7 (kind.Link (codes "$")) 0 0 420 ∷
    change.Linked (name "/b") 6 ∷ change.Removed (name "/b") ∷ change.Renamed (name "/a") (name "/c") ∷ change.Written 6 3 (codes "az" ++ 10 ∷ 255 ∷ []) ∷
    change.Cut 6 0 ∷ change.Moded 6 0 ∷ change.Owned 6 3 4 ∷ change.Put 1 16 [] ∷ change.Forked 2 3 4 ∷ change.Execed (codes "/bin/ls") 5 ∷
    change.SetIds (ids 1 2 3 4) ∷ change.Cwd (name "/d/e") ∷ change.Dying 2 ∷ change.Renewed 3 4 ∷ change.Policy (codes "/bin/ls") ∷ []) ≡
    codes ", made \"/a\" 5 dir 1 2 777 \"\", made \"/\" 6 file 0 0 10 \"\", made \"/l\" 7 link 0 0 644 \"\\x24\"" ++
    codes ", linked \"/b\" 6, removed \"/b\", renamed \"/a\" \"/c\", written 6 3 617a0aff" ++
    codes ", cut 6 0, moded 6 0, owned 6 3 4, put 1 16 -, forked 2 3 4, execed \"/bin/ls\" 5" ++
    codes ", setids 1 2 3 4, cwd \"/d/e\", dying 2, renewed 3 4, policy \"/bin/ls\""
unfolding digits
each_change = refl

-- ---- schedules

one_thread : schedule_text (replicate 5 (choice.Thread 1)) ≡ codes "thread 1 5\n"
unfolding digits
one_thread = refl

neighbours : schedule_text (choice.Thread 1 ∷ choice.Thread 2 ∷ choice.Thread 2 ∷ choice.Worker 2 ∷ choice.Operator ∷ choice.Operator ∷ choice.Thread 2 ∷ []) ≡
    codes "thread 1\nthread 2 2\nworker 2\noperator 2\nthread 2\n"
unfolding digits
neighbours = refl
