-- Runs with reloads: the expected entries were derived from the rules. The calls of one binary are held, and an administrator's process
-- replaces the policy of a binary at each time in turn.
use Rattle.std.proofs.Common.{◌≡◌, ℕ, true, false, List, [], ◌∷◌, ◌++◌, Some, None, refl, get_or, codes}
use Rattle.std.specs.Fmt.{digits}
use Rattle.st_base.specs.declared.errno.Errno.TheVariants.{EPERM, ENOENT}
use Rattle.st_base.specs.declared.ids.Ids.{Ids}
use Rattle.st_calls.specs.declared.argument.Label.TheVariants.{Filename, Argv, Uid, Pid, Signum}
use Rattle.st_calls.specs.declared.call.SysCall.TheVariants.{Execve, GetPid, Kill, Open, SetUid}
use Rattle.st_calls.specs.declared.judged.Snapshot.{Snapshot}
use Rattle.st_calls.specs.declared.judged.Verdict.TheVariants.{Permit, Refuse, Unmatched}
use Rattle.st_calls.specs.declared.rule.Rule.TheVariants as Rule
use Rattle.st_calls.specs.declared.rule.Rule.TheVariants.{FsRead}
use Rattle.st_filter.specs.Formula.{True, Not, FilterValue}
use Rattle.st_filter.specs.declared.filter.Action.TheVariants as action
use Rattle.st_filter.specs.declared.set.BinaryPolicy.{BinaryPolicy}
use Rattle.st_names.specs.declared.seen.SeenText.TheVariants.{Dir, File}
use Rattle.st_trace.specs.declared.entry.CallResult.TheVariants.{Value}
use Rattle.st_trace.specs.declared.entry.Cause.TheVariants.{NoFilter}
use Rattle.st_trace.specs.declared.entry.Cause.TheVariants as cause
use Rattle.st_trace.specs.declared.entry.Change.{Change}
use Rattle.st_trace.specs.declared.entry.Change.TheVariants.{Dying, Execed, Policy, Renewed, SetIds}
use Rattle.st_trace.specs.declared.entry.Entry.{Entry}
use Rattle.st_trace.specs.declared.entry.Entry.TheVariants.{Stored, Entered, Claimed, Copied, Looked, Faulted, Answered, Used, Denied, Ended, Replied, Reloaded}
use Rattle.st_trace.specs.declared.entry.Way.TheVariants.{Fast, Barred, Held, Untraced}
use Rattle.st_trace.specs.declared.start.Instr.{Instr}
use Rattle.st_trace.specs.declared.start.Instr.TheVariants.{Reload}
use Rattle.st_trace.specs.declared.start.ProcessRow.{ProcessRow}
use Rattle.st_trace.specs.declared.start.ThreadRow.{ThreadRow}
use Rattle.st_law.specs.declared.input.Input.{Input}
use Rattle.st_law.specs.declared.input.Mode.TheVariants.{Enforce, AskText}
use Rattle.st_law.specs.Numbers.{numbered_in, drawn}
use Rattle.st_law.proofs.Scripts.{etc_files, passwd_only, passwd_copied, opens, root, user, cat_copies}
use Rattle.st_law.proofs.Writing.{name, file, traced, untraced, thread_in, put, regs, call, policy, when, permits, denies, logged, reply, plainly, input, with_blocks, thread, worker, operator, trace, ids, arg, copies, at_version}

-- ---- a call that is held, and an administrator

-- a permit and a denial that the kernel doesn't give by itself, and those that it does
abbrev pub permitting : FilterValue
permitting = logged (permits (Rule.Call GetPid))

abbrev pub refusing : FilterValue
refusing = logged (denies (Rule.Call GetPid) ENOENT)

abbrev pub asks_pid : Instr
asks_pid = call GetPid 0 0 0

abbrev pub administrator : ProcessRow
administrator = untraced "/bin/adm" 0 0 "/"

-- process 1 has this policy and asks for its number, process 2 has thread 2, and these threads follow
abbrev pub administered : List FilterValue → List BinaryPolicy → ProcessRow → List Instr → List ThreadRow → Input
administered filters blocks second body more = with_blocks blocks
    (input (plainly Enforce) (policy "/bin/a" filters ∷ []) [] (traced "/bin/a" 0 0 "/" ∷ second ∷ []) (thread_in 1 (asks_pid ∷ []) ∷ thread_in 2 body ∷ more) [])

-- the script's policy 1 refuses what the policy that was read permits
abbrev pub stricter : List BinaryPolicy
stricter = policy "/bin/a" (refusing ∷ []) ∷ []

abbrev pub reloader : Input
reloader = administered (permitting ∷ []) stricter administrator (Reload 1 ∷ []) []

-- the copies of the call of process 1, by number, ids and version
abbrev pub asks_as : ℕ → Ids → ℕ → Snapshot
asks_as q own version = at_version version (copies q 1 own "/bin/a" (Rule.Call GetPid) GetPid (regs 0 0 0) [])

abbrev pub asks : ℕ → ℕ → Snapshot
asks q version = asks_as q root version

abbrev pub held : ℕ → Entry
held q = Entered 1 GetPid (regs 0 0 0) (Held q)

abbrev pub made : ℕ → Entry
made q = Used 1 (Some q) GetPid (regs 0 0 0) [] root (Value 1) []

abbrev pub refused : ℕ → Entry
refused q = Denied 1 (Some q) ENOENT (cause.Filter 1)

-- ---- a reload at each time

abbrev pub reloaded_first : List Entry
reloaded_first = Reloaded 2 1 true [] ∷ held 1 ∷ Claimed 1 1 ∷ []

before_the_call : trace reloader (thread 2 1 ∷ thread 1 1 ∷ worker 1 2 ∷ thread 1 1 ∷ []) ≡ Some (
    reloaded_first ++ Answered 1 (asks 1 1) (Refuse 1 ENOENT) true ∷ refused 1 ∷ [])
before_the_call = refl

abbrev pub renewed : List Entry
renewed = held 1 ∷ Reloaded 2 1 true (Renewed 1 2 ∷ []) ∷ Claimed 1 2 ∷ []

before_the_claim : trace reloader (thread 1 1 ∷ thread 2 1 ∷ worker 1 2 ∷ thread 1 1 ∷ []) ≡ Some (
    renewed ++ Answered 1 (asks 2 1) (Refuse 1 ENOENT) true ∷ refused 2 ∷ [])
before_the_claim = refl

abbrev pub renewed_while_ready : List Entry
renewed_while_ready = held 1 ∷ Claimed 1 1 ∷ Reloaded 2 1 true (Renewed 1 2 ∷ []) ∷ []

while_a_worker_is_ready : trace reloader (thread 1 1 ∷ worker 1 1 ∷ thread 2 1 ∷ worker 1 3 ∷ thread 1 1 ∷ []) ≡ Some (
    renewed_while_ready ++ Answered 1 (asks 1 0) (Permit 1 root) false ∷ Claimed 1 2 ∷ Answered 1 (asks 2 1) (Refuse 1 ENOENT) true ∷ refused 2 ∷ [])
while_a_worker_is_ready = refl

abbrev pub permitted : List Entry
permitted = held 1 ∷ Claimed 1 1 ∷ Answered 1 (asks 1 0) (Permit 1 root) true ∷ []

abbrev pub renewed_late : List Entry
renewed_late = permitted ++ Reloaded 2 1 true (Renewed 1 2 ∷ []) ∷ []

between_answer_and_use : trace reloader (thread 1 1 ∷ worker 1 2 ∷ thread 2 1 ∷ worker 1 2 ∷ thread 1 1 ∷ []) ≡ Some (
    renewed_late ++ Claimed 1 2 ∷ Answered 1 (asks 2 1) (Refuse 1 ENOENT) true ∷ refused 2 ∷ [])
between_answer_and_use = refl

-- a thread waits for the new answer
waits_for_the_new_answer : trace reloader (thread 1 1 ∷ worker 1 2 ∷ thread 2 1 ∷ thread 1 1 ∷ []) ≡ None
waits_for_the_new_answer = refl

after_the_use : trace reloader (thread 1 1 ∷ worker 1 2 ∷ thread 1 1 ∷ thread 2 1 ∷ []) ≡ Some (permitted ++ made 1 ∷ Reloaded 2 1 true [] ∷ [])
after_the_use = refl

-- ---- which policy, and how often

-- a policy for another binary
abbrev pub other_binary : Input
other_binary = administered (permitting ∷ []) (policy "/bin/b" (refusing ∷ []) ∷ []) administrator (Reload 1 ∷ []) []

of_another_binary : trace other_binary (thread 1 1 ∷ thread 2 1 ∷ worker 1 2 ∷ thread 1 1 ∷ []) ≡ Some (
    held 1 ∷ Reloaded 2 1 true [] ∷ Claimed 1 1 ∷ Answered 1 (asks 1 0) (Permit 1 root) true ∷ made 1 ∷ [])
of_another_binary = refl

-- two policies for one binary
abbrev pub twice : Input
twice = administered (permitting ∷ []) (policy "/bin/a" (refusing ∷ []) ∷ policy "/bin/a" (permitting ∷ []) ∷ []) administrator (Reload 1 ∷ Reload 2 ∷ Reload 2 ∷ []) []

reloaded_twice : trace twice (thread 1 1 ∷ thread 2 2 ∷ worker 1 2 ∷ thread 1 1 ∷ []) ≡ Some (
    held 1 ∷ Reloaded 2 1 true (Renewed 1 2 ∷ []) ∷ Reloaded 2 2 true (Renewed 2 3 ∷ []) ∷
    Claimed 1 3 ∷ Answered 1 (asks 3 2) (Permit 1 root) true ∷ made 3 ∷ [])
reloaded_twice = refl

-- the policy that is in force already
reloaded_again : trace twice (thread 2 2 ∷ thread 1 1 ∷ thread 2 1 ∷ worker 1 2 ∷ []) ≡ Some (
    Reloaded 2 1 true [] ∷ Reloaded 2 2 true [] ∷ held 1 ∷ Reloaded 2 2 true (Renewed 1 2 ∷ []) ∷ Claimed 1 2 ∷ Answered 1 (asks 2 2) (Permit 1 root) true ∷ [])
reloaded_again = refl

-- a policy without filters
abbrev emptied : Input
emptied = administered (permitting ∷ []) (policy "/bin/a" [] ∷ []) administrator (Reload 1 ∷ []) []

an_empty_policy : trace emptied (thread 1 1 ∷ thread 2 1 ∷ worker 1 2 ∷ thread 1 1 ∷ []) ≡ Some (
    renewed ++ Answered 1 (asks 2 1) Unmatched true ∷ Denied 1 (Some 2) EPERM NoFilter ∷ [])
an_empty_policy = refl

-- a policy for a binary that had none
abbrev first_policy : Input
first_policy = with_blocks (policy "/bin/b" (refusing ∷ []) ∷ [])
    (input (plainly Enforce) [] [] (traced "/bin/b" 0 0 "/" ∷ administrator ∷ []) (thread_in 1 (asks_pid ∷ []) ∷ thread_in 2 (Reload 1 ∷ []) ∷ []) [])

a_first_policy : trace first_policy (thread 2 1 ∷ thread 1 1 ∷ worker 1 2 ∷ thread 1 1 ∷ []) ≡ Some (
    reloaded_first ++ Answered 1 (at_version 1 (copies 1 1 root "/bin/b" (Rule.Call GetPid) GetPid (regs 0 0 0) [])) (Refuse 1 ENOENT) true ∷ refused 1 ∷ [])
a_first_policy = refl

-- ---- who may reload

abbrev pub reloader_in : ProcessRow → Input
reloader_in second = administered (permitting ∷ []) stricter second (Reload 1 ∷ []) []

abbrev pub is_refused : List Entry
is_refused = held 1 ∷ Reloaded 2 1 false [] ∷ Claimed 1 1 ∷ Answered 1 (asks 1 0) (Permit 1 root) true ∷ made 1 ∷ []

by_a_traced_process : trace (reloader_in (traced "/bin/adm" 0 0 "/")) (thread 1 1 ∷ thread 2 1 ∷ worker 1 2 ∷ thread 1 1 ∷ []) ≡ Some is_refused
by_a_traced_process = refl

by_another_user : trace (reloader_in (untraced "/bin/adm" 5 0 "/")) (thread 1 1 ∷ thread 2 1 ∷ worker 1 2 ∷ thread 1 1 ∷ []) ≡ Some is_refused
by_another_user = refl

by_root_of_another_group : trace (reloader_in (untraced "/bin/adm" 0 5 "/")) (thread 1 1 ∷ thread 2 1 ∷ []) ≡ Some (held 1 ∷ Reloaded 2 1 true (Renewed 1 2 ∷ []) ∷ [])
by_root_of_another_group = refl

-- a refused reload is gone past
goes_on_after_a_refusal : trace (reloader_in (untraced "/bin/adm" 5 0 "/")) (thread 2 2 ∷ []) ≡ Some (Reloaded 2 1 false [] ∷ Ended 2 ∷ [])
goes_on_after_a_refusal = refl

-- ---- the kernel's own answers

-- process 1 makes its call twice
abbrev pub asks_twice : FilterValue → FilterValue → Input
asks_twice before after = with_blocks (policy "/bin/a" (after ∷ []) ∷ [])
    (input (plainly Enforce) (policy "/bin/a" (before ∷ []) ∷ []) [] (traced "/bin/a" 0 0 "/" ∷ administrator ∷ []) (thread_in 1 (asks_pid ∷ asks_pid ∷ []) ∷ thread_in 2 (Reload 1 ∷ []) ∷ []) [])

abbrev pub bars_anew : Input
bars_anew = asks_twice (denies (Rule.Call GetPid) EPERM) (denies (Rule.Call GetPid) ENOENT)

abbrev pub barred_then : List Entry
barred_then = Entered 1 GetPid (regs 0 0 0) (Barred 1) ∷ Reloaded 2 1 true [] ∷ []

a_barred_call_keeps_its_error : trace bars_anew (thread 1 1 ∷ thread 2 1 ∷ thread 1 3 ∷ []) ≡ Some (
    barred_then ++ Denied 1 None EPERM (cause.Filter 1) ∷ Entered 1 GetPid (regs 0 0 0) (Barred 1) ∷ Denied 1 None ENOENT (cause.Filter 1) ∷ [])
a_barred_call_keeps_its_error = refl

abbrev pub bars_later : Input
bars_later = asks_twice (permits (Rule.Call GetPid)) (denies (Rule.Call GetPid) ENOENT)

abbrev pub fast_then : List Entry
fast_then = Entered 1 GetPid (regs 0 0 0) Fast ∷ Reloaded 2 1 true [] ∷ []

abbrev pub made_fast : Entry
made_fast = Used 1 None GetPid (regs 0 0 0) [] root (Value 1) []

a_fast_call_is_made : trace bars_later (thread 1 1 ∷ thread 2 1 ∷ thread 1 3 ∷ []) ≡ Some (
    fast_then ++ made_fast ∷ Entered 1 GetPid (regs 0 0 0) (Barred 1) ∷ Denied 1 None ENOENT (cause.Filter 1) ∷ [])
a_fast_call_is_made = refl

-- ---- the session

-- the operator's reply refuses, and the new policy has one filter that doesn't hold
abbrev pub asking : Input
asking = with_blocks (policy "/bin/a" (when (Rule.Call GetPid) (Not True) action.Permit ∷ []) ∷ [])
    (input (plainly AskText) [] [] (traced "/bin/a" 0 0 "/" ∷ administrator ∷ []) (thread_in 1 (asks_pid ∷ []) ∷ thread_in 2 (Reload 1 ∷ []) ∷ []) (reply "/bin/a" refusing ∷ []))

abbrev pub replied_then : List Entry
replied_then =
    held 1 ∷ Claimed 1 1 ∷ Answered 1 (asks 1 0) Unmatched true ∷ Replied 1 1 1 ∷ Reloaded 2 1 true (Renewed 1 2 ∷ []) ∷
    Claimed 1 2 ∷ Answered 1 (asks 2 1) Unmatched true ∷ []

the_session_stays_and_follows : trace asking (thread 1 1 ∷ worker 1 2 ∷ operator 1 ∷ thread 2 1 ∷ worker 1 2 ∷ thread 1 1 ∷ []) ≡ Some (
    replied_then ++ Denied 1 (Some 2) ENOENT (cause.Filter 2) ∷ [])
the_session_stays_and_follows = refl

-- a question is judged again before it is asked again
a_question_is_renewed : trace asking (thread 1 1 ∷ worker 1 2 ∷ thread 2 1 ∷ worker 1 2 ∷ operator 1 ∷ []) ≡ Some (
    held 1 ∷ Claimed 1 1 ∷ Answered 1 (asks 1 0) Unmatched true ∷ Reloaded 2 1 true (Renewed 1 2 ∷ []) ∷
    Claimed 1 2 ∷ Answered 1 (asks 2 1) Unmatched true ∷ Replied 2 1 2 ∷ [])
a_question_is_renewed = refl

no_question_before_the_new_answer : trace asking (thread 1 1 ∷ worker 1 2 ∷ thread 2 1 ∷ operator 1 ∷ []) ≡ None
no_question_before_the_new_answer = refl

-- ---- several held calls

-- thread 3 of the same process, and thread 4 of another process with the same binary
abbrev pub crowd : Input
crowd = with_blocks stricter (input (plainly Enforce) (policy "/bin/a" (permitting ∷ []) ∷ []) [] (traced "/bin/a" 0 0 "/" ∷ administrator ∷ traced "/bin/a" 5 6 "/" ∷ traced "/bin/b" 0 0 "/" ∷ [])
    (thread_in 1 (asks_pid ∷ []) ∷ thread_in 2 (Reload 1 ∷ []) ∷ thread_in 1 (asks_pid ∷ []) ∷ thread_in 3 (asks_pid ∷ []) ∷ thread_in 4 (asks_pid ∷ []) ∷ []) [])

abbrev pub crowded : List Entry
crowded =
    Entered 4 GetPid (regs 0 0 0) (Held 1) ∷ Entered 5 GetPid (regs 0 0 0) (Held 2) ∷ Entered 3 GetPid (regs 0 0 0) (Held 3) ∷ held 4 ∷ []

-- the calls under the policy are renewed in the order of their threads, with their own ids
in_the_order_of_threads : trace crowd (thread 4 1 ∷ thread 5 1 ∷ thread 3 1 ∷ thread 1 1 ∷ thread 2 1 ∷ worker 1 8 ∷ []) ≡ Some (
    crowded ++ Reloaded 2 1 true (Renewed 4 5 ∷ Renewed 3 6 ∷ Renewed 1 7 ∷ []) ∷
    Claimed 1 2 ∷ Answered 1 (copies 2 4 root "/bin/b" (Rule.Call GetPid) GetPid (regs 0 0 0) []) Unmatched true ∷
    Claimed 1 5 ∷ Answered 1 (asks 5 1) (Refuse 1 ENOENT) true ∷
    Claimed 1 6 ∷ Answered 1 (asks 6 1) (Refuse 1 ENOENT) true ∷
    Claimed 1 7 ∷ Answered 1 (at_version 1 (copies 7 3 (ids 5 5 6 6) "/bin/a" (Rule.Call GetPid) GetPid (regs 0 0 0) [])) (Refuse 1 ENOENT) true ∷ [])
in_the_order_of_threads = refl

-- ---- with a call that sets ids, and with a kill

abbrev pub setter : Input
setter = administered (permitting ∷ permits (Rule.Call SetUid) ∷ []) stricter administrator (Reload 1 ∷ []) (thread_in 1 (call SetUid 7 0 0 ∷ []) ∷ [])

abbrev pub set_ids : Ids
set_ids = ids 7 7 0 0

abbrev pub setting : List Change → List Entry
setting changes = Entered 3 SetUid (regs 7 0 0) Fast ∷ Used 3 None SetUid (regs 7 0 0) (arg Uid 0 "7" ∷ []) root (Value 0) (SetIds set_ids ∷ changes) ∷ []

ids_are_set_first : trace setter (thread 1 1 ∷ thread 3 2 ∷ thread 2 1 ∷ worker 1 2 ∷ []) ≡ Some (
    held 1 ∷ (setting (Renewed 1 2 ∷ []) ++ Reloaded 2 1 true (Renewed 2 3 ∷ []) ∷ Claimed 1 3 ∷ Answered 1 (asks_as 3 set_ids 1) (Refuse 1 ENOENT) true ∷ []))
unfolding digits
ids_are_set_first = refl

-- the version stays in force over a renewal for other ids
ids_are_set_later : trace setter (thread 1 1 ∷ thread 2 1 ∷ thread 3 1 ∷ [])
    ≡ Some (held 1 ∷ Reloaded 2 1 true (Renewed 1 2 ∷ []) ∷ Entered 3 SetUid (regs 7 0 0) (Held 3) ∷ [])
ids_are_set_later = refl

-- a call that sets ids and is entered before the reload is made, and renews the call that the reload renewed
ids_are_set_around : trace setter (thread 1 1 ∷ thread 3 1 ∷ thread 2 1 ∷ thread 3 1 ∷ worker 1 2 ∷ []) ≡ Some (
    held 1 ∷ Entered 3 SetUid (regs 7 0 0) Fast ∷ Reloaded 2 1 true (Renewed 1 2 ∷ []) ∷
    Used 3 None SetUid (regs 7 0 0) (arg Uid 0 "7" ∷ []) root (Value 0) (SetIds set_ids ∷ Renewed 2 3 ∷ []) ∷
    Claimed 1 3 ∷ Answered 1 (asks_as 3 set_ids 1) (Refuse 1 ENOENT) true ∷ [])
unfolding digits
ids_are_set_around = refl

abbrev pub killer : Input
killer = administered (permitting ∷ []) stricter administrator (call Kill 1 9 0 ∷ Reload 1 ∷ []) []

abbrev pub killed : List Entry
killed = held 1 ∷ Entered 2 Kill (regs 1 9 0) Untraced ∷ Used 2 None Kill (regs 1 9 0) (arg Pid 0 "1" ∷ arg Signum 0 "9" ∷ []) root (Value 0) (Dying 1 ∷ []) ∷ []

-- the call of a dying thread isn't renewed
a_killed_call_is_not_renewed : trace killer (thread 1 1 ∷ thread 2 3 ∷ thread 1 1 ∷ []) ≡ Some (killed ++ Reloaded 2 1 true [] ∷ Ended 1 ∷ [])
unfolding digits
a_killed_call_is_not_renewed = refl

-- ---- a process that executes another binary

abbrev pub executer : Input
executer = with_blocks (policy "/bin/a" (refusing ∷ []) ∷ policy "/b" (refusing ∷ []) ∷ [])
    (input (plainly Enforce) (policy "/bin/a" (permits (Rule.Call Execve) ∷ []) ∷ policy "/b" (permitting ∷ []) ∷ []) (file "/b" 0 0 493 (1 ∷ []) ∷ [])
    (traced "/bin/a" 0 0 "/" ∷ administrator ∷ []) (thread_in 1 (put 0 "/b" ++ call Execve 0 64 0 ∷ asks_pid ∷ []) ∷ thread_in 2 (Reload 1 ∷ Reload 2 ∷ []) ∷ []) [])

-- its call is under the policy of the new binary
the_new_binary_counts : trace executer (thread 1 4 ∷ thread 2 2 ∷ []) ≡ Some (
    Stored 1 0 25135 ∷ Entered 1 Execve (regs 0 64 0) Fast ∷
    Used 1 None Execve (regs 0 64 0) (arg Filename 0 "/b" ∷ arg Argv 0 "" ∷ []) root (Value 0) (Execed (codes "/b") 3 ∷ Policy (codes "/b") ∷ []) ∷
    held 1 ∷ Reloaded 2 1 true [] ∷ Reloaded 2 2 true (Renewed 1 2 ∷ []) ∷ [])
the_new_binary_counts = refl

-- ---- a name

-- the reader of /etc/passwd with a policy that refuses each name
abbrev pub reader : Input
reader = with_blocks (policy "/bin/cat" (logged (denies FsRead ENOENT) ∷ []) ∷ [])
    (input (plainly Enforce) (policy "/bin/cat" (passwd_only ∷ []) ∷ []) etc_files (traced "/bin/cat" 1000 1000 "/" ∷ administrator ∷ [])
    (thread_in 1 (opens "/etc/passwd") ∷ thread_in 2 (Reload 1 ∷ []) ∷ []) [])

abbrev pub copied_again : List Entry
copied_again =
    Claimed 1 2 ∷ Copied 2 0 0 8314049735936992559 ∷ Copied 2 0 1 6584179 ∷ Looked 2 0 (name "/etc") Dir ∷ Looked 2 0 (name "/etc/passwd") File ∷
    Answered 1 (at_version 1 (cat_copies 2 user "/etc/passwd")) (Refuse 1 ENOENT) true ∷ Denied 1 (Some 2) ENOENT (cause.Filter 1) ∷ []

between_two_copied_words : trace reader (thread 1 3 ∷ worker 1 2 ∷ thread 2 1 ∷ worker 1 6 ∷ thread 1 1 ∷ []) ≡ Some (
    Stored 1 0 8314049735936992559 ∷ Stored 1 1 6584179 ∷ Entered 1 Open (regs 0 0 0) (Held 1) ∷ Claimed 1 1 ∷ Copied 1 0 0 8314049735936992559 ∷
    Reloaded 2 1 true (Renewed 1 2 ∷ []) ∷ copied_again)
between_two_copied_words = refl

a_permitted_name_is_refused : trace reader (thread 1 3 ∷ worker 1 6 ∷ thread 2 1 ∷ worker 1 6 ∷ thread 1 1 ∷ []) ≡ Some (
    passwd_copied ++ Answered 1 (cat_copies 1 user "/etc/passwd") (Permit 1 user) true ∷ Reloaded 2 1 true (Renewed 1 2 ∷ []) ∷ copied_again)
a_permitted_name_is_refused = refl

-- a name that is faulty
abbrev pub nameless : Input
nameless = with_blocks (policy "/bin/cat" (logged (permits FsRead) ∷ []) ∷ [])
    (input (plainly Enforce) [] [] (traced "/bin/cat" 0 0 "/" ∷ administrator ∷ []) (thread_in 1 (call Open 0 0 0 ∷ []) ∷ thread_in 2 (Reload 1 ∷ []) ∷ []) [])

abbrev pub faulted : List Entry
faulted = Entered 1 Open (regs 0 0 0) (Held 1) ∷ Claimed 1 1 ∷ Copied 1 0 0 0 ∷ Faulted 1 ENOENT ∷ []

-- a faulted call is renewed, too
a_fault_is_renewed : trace nameless (thread 1 1 ∷ worker 1 3 ∷ thread 2 1 ∷ worker 1 3 ∷ thread 1 1 ∷ []) ≡ Some (
    faulted ++ Reloaded 2 1 true (Renewed 1 2 ∷ []) ∷ Claimed 1 2 ∷ Copied 2 0 0 0 ∷ Faulted 2 ENOENT ∷ Denied 1 (Some 2) ENOENT cause.Fault ∷ [])
a_fault_is_renewed = refl

-- ---- numbers of a circle

-- drawings 1 and 2 are renewed twice in a circle of four numbers
abbrev pair : Input
pair = administered (permitting ∷ []) stricter administrator (Reload 1 ∷ Reload 1 ∷ []) (thread_in 1 (asks_pid ∷ []) ∷ [])

abbrev paired : (ℕ → ℕ) → List Entry
paired q =
    held (q 1) ∷ Entered 3 GetPid (regs 0 0 0) (Held (q 2)) ∷ Claimed 1 (q 1) ∷
    Reloaded 2 1 true (Renewed (q 1) (q 3) ∷ Renewed (q 2) (q 4) ∷ []) ∷ Reloaded 2 1 true (Renewed (q 3) (q 5) ∷ Renewed (q 4) (q 6) ∷ []) ∷ []

paired_by_drawings : trace pair (thread 1 1 ∷ thread 3 1 ∷ worker 1 1 ∷ thread 2 2 ∷ []) ≡ Some (paired (λ q. q))
paired_by_drawings = refl

-- the worker that is ready keeps number 1
paired_by_numbers : numbered_in 4 pair (paired (λ q. q)) ≡ paired (λ q. get_or (0 ∷ 1 ∷ 2 ∷ 3 ∷ 4 ∷ 2 ∷ 3 ∷ []) q 0)
paired_by_numbers = refl

the_drawings_of_the_pair : drawn (paired (λ q. get_or (0 ∷ 1 ∷ 2 ∷ 3 ∷ 4 ∷ 2 ∷ 3 ∷ []) q 0)) ≡ paired (λ q. q)
the_drawings_of_the_pair = refl
