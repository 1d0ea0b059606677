-- Small runs, each for one word of a definition: with another word in its place the run would differ.
use Rattle.std.proofs.Common.{◌≡◌, true, false, [], ◌∷◌, ◌++◌, Some, None, refl, codes}
use Rattle.std.specs.Fmt.{digits}
use Rattle.st_base.specs.declared.errno.Errno.TheVariants.{EEXIST}
use Rattle.st_calls.specs.declared.argument.Label.TheVariants.{Filename, Argv, Pid, Signum}
use Rattle.st_calls.specs.declared.call.SysCall.TheVariants.{Open, Fork, Execve, Exit, Kill, GetPid}
use Rattle.st_calls.specs.declared.judged.Verdict.TheVariants.{Unmatched}
use Rattle.st_calls.specs.declared.rule.Rule.TheVariants as Rule
use Rattle.st_calls.specs.declared.rule.Rule.TheVariants.{FsRead}
use Rattle.st_names.specs.declared.seen.SeenText.TheVariants.{Missing}
use Rattle.st_trace.specs.declared.entry.CallResult.TheVariants.{Value, Failed}
use Rattle.st_trace.specs.declared.entry.Change.TheVariants.{Forked, Execed, Dying, Policy}
use Rattle.st_trace.specs.declared.entry.Choice.TheVariants as choice
use Rattle.st_trace.specs.declared.entry.Entry.TheVariants.{Stored, Entered, Claimed, Copied, Looked, Answered, Used, Ended, Learned, Replied}
use Rattle.st_trace.specs.declared.entry.Way.TheVariants.{Fast, Held, Untraced}
use Rattle.st_trace.specs.declared.start.Instr.TheVariants as instr
use Rattle.st_law.specs.declared.input.Input.{Input}
use Rattle.st_law.specs.declared.input.Mode.TheVariants.{Enforce, Learn, AskText}
use Rattle.st_law.specs.declared.input.What.TheVariants.{Choose}
use Rattle.st_law.specs.Schedules.{BadLine, most_steps, played}
use Rattle.st_law.proofs.Writing.{dir, file, link, name, traced, untraced, thread_in, forked_thread, put, regs, call, policy, reply, input, plainly, thread, worker, operator, rest, trace, ids, arg, copies}
use Rattle.st_law.proofs.Scripts.{etc_files, passwd_only, opens, user, root, filename, cat_copies, opened, passwd_copied, judgements_of}

-- ---- replies, and what is learnt

-- a reply for another binary is skipped
abbrev asker : Input
asker = input (plainly AskText) [] etc_files (traced "/bin/cat" 1000 1000 "/" ∷ []) (thread_in 1 (opens "/etc/passwd") ∷ []) (reply "/bin/sh" passwd_only ∷ reply "/bin/cat" passwd_only ∷ [])

a_reply_is_for_its_binary : trace asker (rest ∷ []) ≡ Some (
    passwd_copied ++
    Answered 1 (cat_copies 1 user "/etc/passwd") Unmatched true ∷
    Replied 1 2 1 ∷
    opened 1 "/etc/passwd" user 3 ∷
    Ended 1 ∷ [])
a_reply_is_for_its_binary = refl

-- a learnt filter is for the policy of its call alone
abbrev learners : Input
learners = input (plainly Learn) [] etc_files (traced "/bin/cat" 1000 1000 "/" ∷ traced "/bin/sh" 1000 1000 "/" ∷ [])
    (thread_in 1 (opens "/etc/passwd") ∷ thread_in 2 (opens "/etc/passwd") ∷ []) []

learnt_for_its_policy : judgements_of (trace learners (rest ∷ [])) ≡
    Answered 1 (cat_copies 1 user "/etc/passwd") Unmatched true ∷
    Answered 1 (copies 2 2 user "/bin/sh" FsRead Open (regs 0 0 0) (filename "/etc/passwd")) Unmatched true ∷
    Learned 1 1 ∷
    opened 1 "/etc/passwd" user 3 ∷
    Learned 2 1 ∷
    Used 2 (Some 2) Open (regs 0 0 0) (filename "/etc/passwd") user (Value 3) [] ∷ []
learnt_for_its_policy = refl

-- from a call without arguments a plain permit is learnt
abbrev twice : Input
twice = input (plainly Learn) [] [] (traced "/bin/cat" 1000 1000 "/" ∷ []) (thread_in 1 (call GetPid 0 0 0 ∷ call GetPid 0 0 0 ∷ []) ∷ []) []

learnt_without_arguments : trace twice (rest ∷ []) ≡ Some (
    Entered 1 GetPid (regs 0 0 0) (Held 1) ∷
    Claimed 1 1 ∷
    Answered 1 (copies 1 1 user "/bin/cat" (Rule.Call GetPid) GetPid (regs 0 0 0) []) Unmatched true ∷
    Learned 1 1 ∷
    Used 1 (Some 1) GetPid (regs 0 0 0) [] user (Value 1) [] ∷
    Entered 1 GetPid (regs 0 0 0) Fast ∷
    Used 1 None GetPid (regs 0 0 0) [] user (Value 1) [] ∷
    Ended 1 ∷ [])
learnt_without_arguments = refl

-- the operator waits for an answer
the_operator_waits : trace twice (thread 1 1 ∷ operator 1 ∷ []) ≡ None
the_operator_waits = refl

-- the operator answers no question of a dying thread
abbrev killed_asking : Input
killed_asking = input (plainly Learn) [] [] (traced "/bin/cat" 1000 1000 "/" ∷ untraced "/bin/evil" 0 0 "/" ∷ []) (thread_in 1 (call GetPid 0 0 0 ∷ []) ∷ thread_in 2 (call Kill 1 9 0 ∷ []) ∷ []) []

a_question_ends_with_its_thread : trace killed_asking (thread 1 1 ∷ worker 1 2 ∷ thread 2 2 ∷ rest ∷ []) ≡ Some (
    Entered 1 GetPid (regs 0 0 0) (Held 1) ∷
    Claimed 1 1 ∷
    Answered 1 (copies 1 1 user "/bin/cat" (Rule.Call GetPid) GetPid (regs 0 0 0) []) Unmatched true ∷
    Entered 2 Kill (regs 1 9 0) Untraced ∷
    Used 2 None Kill (regs 1 9 0) (arg Pid 0 "1" ∷ arg Signum 0 "9" ∷ []) root (Value 0) (Dying 1 ∷ []) ∷
    Ended 1 ∷
    Ended 2 ∷ [])
unfolding digits
a_question_ends_with_its_thread = refl

-- ---- processes

-- a message with a fault isn't ready: once its thread is dying its worker is idle
abbrev killer : Input
killer = input (plainly Enforce) (policy "/bin/cat" (passwd_only ∷ []) ∷ []) etc_files (traced "/bin/cat" 1000 1000 "/" ∷ untraced "/bin/evil" 0 0 "/" ∷ [])
    (thread_in 1 (opens "/no/f") ∷ thread_in 2 (call Kill 1 9 0 ∷ []) ∷ []) []

killed_at_its_fault : trace killer (thread 1 2 ∷ worker 1 3 ∷ thread 2 2 ∷ rest ∷ []) ≡ Some (
    Stored 1 0 438882496047 ∷
    Entered 1 Open (regs 0 0 0) (Held 1) ∷
    Claimed 1 1 ∷
    Copied 1 0 0 438882496047 ∷
    Looked 1 0 (name "/no") Missing ∷
    Entered 2 Kill (regs 1 9 0) Untraced ∷
    Used 2 None Kill (regs 1 9 0) (arg Pid 0 "1" ∷ arg Signum 0 "9" ∷ []) root (Value 0) (Dying 1 ∷ []) ∷
    Ended 1 ∷
    Ended 2 ∷ [])
unfolding digits
killed_at_its_fault = refl

-- ids given by the options are for traced processes alone
abbrev given_ids : Input
given_ids = input (record { mode = Enforce; inherit = false; aliasing = true; ids = Some (30, 30); workers = 1 }) [] [] (untraced "/bin/evil" 5 6 "/" ∷ [])
    (thread_in 1 (call Exit 0 0 0 ∷ []) ∷ []) []

ids_of_an_untraced_process : trace given_ids (rest ∷ []) ≡ Some (
    Entered 1 Exit (regs 0 0 0) Untraced ∷
    Used 1 None Exit (regs 0 0 0) [] (ids 5 5 6 6) (Value 0) (Dying 1 ∷ []) ∷
    Ended 1 ∷ [])
ids_of_an_untraced_process = refl

-- the registers of the call say whether a link is followed: with O_CREAT and O_EXCL a last link isn't
abbrev exclusive_maker : Input
exclusive_maker = input (plainly Enforce) [] (link "/l" 0 0 "/x" ∷ []) (untraced "/bin/evil" 0 0 "/" ∷ []) (thread_in 1 (put 0 "/l" ++ call Open 0 2560 0 ∷ []) ∷ []) []

a_link_that_is_not_followed : trace exclusive_maker (rest ∷ []) ≡ Some (
    Stored 1 0 27695 ∷
    Entered 1 Open (regs 0 2560 0) Untraced ∷
    Used 1 None Open (regs 0 2560 0) (filename "/l") root (Failed EEXIST) [] ∷
    Ended 1 ∷ [])
a_link_that_is_not_followed = refl

-- a new binary takes the next space, and a child the one after it
abbrev forker : Input
forker = input (plainly Enforce) [] (dir "/bin" 0 0 493 ∷ file "/bin/ls" 0 0 493 (codes "ls") ∷ []) (untraced "/bin/sh" 0 0 "/" ∷ [])
    (thread_in 1 (put 0 "/bin/ls" ++ call Execve 0 64 0 ∷ instr.Fork 2 ∷ []) ∷ forked_thread [] ∷ []) []

a_fork_after_an_execve : trace forker (rest ∷ []) ≡ Some (
    Stored 1 0 32488573293388335 ∷
    Entered 1 Execve (regs 0 64 0) Untraced ∷
    Used 1 None Execve (regs 0 64 0) (arg Filename 0 "/bin/ls" ∷ arg Argv 0 "" ∷ []) root (Value 0)
    (Execed (codes "/bin/ls") 2 ∷ Policy (codes "/bin/ls") ∷ []) ∷
    Entered 1 Fork (regs 0 0 0) Untraced ∷
    Used 1 None Fork (regs 0 0 0) [] root (Value 2) (Forked 2 3 2 ∷ []) ∷
    Ended 1 ∷
    Ended 2 ∷ [])
a_fork_after_an_execve = refl

-- ---- schedules

-- a line outside the grammar is bad if all choices before it are enabled; a choice that isn't enabled makes its own line bad
a_line_outside_the_grammar : played given_ids (record { lines = rest ∷ []; bad = Some 4 }) ≡ BadLine 4
a_line_outside_the_grammar = refl

a_line_that_is_not_enabled : played given_ids (record { lines = record { what = Choose (choice.Worker 1); count = 1; line = 7 } ∷ []; bad = Some 9 }) ≡ BadLine 7
a_line_that_is_not_enabled = refl

-- the bound for three instructions without calls that set ids
steps_of_three_instructions : most_steps killer ≡ 40000
steps_of_three_instructions = refl
