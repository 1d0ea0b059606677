-- Runs of a reader of /etc/passwd: the expected entries were derived from the rules, and the machine's run has them.
use Rattle.std.proofs.Common.{◌≡◌, true, [], ◌∷◌, ◌++◌, Some, None, refl}
use Rattle.st_base.specs.declared.errno.Errno.TheVariants.{EPERM, ENOENT, EFAULT}
use Rattle.st_calls.specs.declared.call.SysCall.TheVariants.{Open, Exit, GetPid, GetUid}
use Rattle.st_calls.specs.declared.judged.Verdict.TheVariants.{Permit, Refuse, Unmatched}
use Rattle.st_calls.specs.declared.rule.Rule.TheVariants as Rule
use Rattle.st_calls.specs.declared.rule.Rule.TheVariants.{FsRead}
use Rattle.st_calls.specs.declared.call.SysCall.{SysCall}
use Rattle.st_filter.specs.Formula.{FilterValue}
use Rattle.st_filter.specs.declared.filter.Action.TheVariants as action
use Rattle.st_filter.specs.declared.filter.Op.TheVariants as op
use Rattle.st_names.specs.declared.seen.SeenText.TheVariants.{Missing, Dir, File}
use Rattle.st_trace.specs.declared.entry.CallResult.TheVariants.{Value}
use Rattle.st_trace.specs.declared.entry.Cause.TheVariants.{NoFilter}
use Rattle.st_trace.specs.declared.entry.Cause.TheVariants as cause
use Rattle.st_trace.specs.declared.entry.Change.TheVariants.{Dying}
use Rattle.st_trace.specs.declared.entry.Entry.TheVariants.{Stored, Entered, Claimed, Copied, Looked, Faulted, Answered, Used, Denied, Ended}
use Rattle.st_trace.specs.declared.entry.Way.TheVariants.{Fast, Barred, Held}
use Rattle.st_trace.specs.declared.start.Instr.TheVariants.{Store}
use Rattle.st_law.specs.declared.input.Input.{Input}
use Rattle.st_law.specs.declared.input.Mode.TheVariants.{Enforce}
use Rattle.st_law.proofs.Writing.{name, traced, thread_in, put, regs, call, policy, when, permits, denies, test, input, plainly, thread, worker, rest}
use Rattle.st_law.proofs.Writing.{trace}
use Rattle.st_law.proofs.Scripts.{etc_files, passwd_only, cat_input, opens, user, root, filename, cat_copies, opened, passwd_copied}

-- ---- calls that the kernel permits or refuses by itself

-- a thread that makes a call without arguments, and exits
abbrev pub maker : SysCall → FilterValue → Input
maker made filter = input (plainly Enforce) (policy "/bin/a" (filter ∷ permits (Rule.Call Exit) ∷ []) ∷ []) []
    (traced "/bin/a" 0 0 "/" ∷ []) (thread_in 1 (call made 0 0 0 ∷ call Exit 0 0 0 ∷ []) ∷ []) []

plain_permits : trace (maker GetPid (permits (Rule.Call GetPid))) (rest ∷ []) ≡ Some (
    Entered 1 GetPid (regs 0 0 0) Fast ∷
    Used 1 None GetPid (regs 0 0 0) [] root (Value 1) [] ∷
    Entered 1 Exit (regs 0 0 0) Fast ∷
    Used 1 None Exit (regs 0 0 0) [] root (Value 0) (Dying 1 ∷ []) ∷
    Ended 1 ∷ [])
plain_permits = refl

abbrev pub barred : Input
barred = maker GetUid (denies (Rule.Call GetUid) EPERM)

a_barred_call : trace barred (rest ∷ []) ≡ Some (
    Entered 1 GetUid (regs 0 0 0) (Barred 1) ∷
    Denied 1 None EPERM (cause.Filter 1) ∷
    Entered 1 Exit (regs 0 0 0) Fast ∷
    Used 1 None Exit (regs 0 0 0) [] root (Value 0) (Dying 1 ∷ []) ∷
    Ended 1 ∷ [])
a_barred_call = refl

-- ---- an open that is held

abbrev pub passwd_reader : Input
passwd_reader = cat_input (passwd_only ∷ []) etc_files (thread_in 1 (opens "/etc/passwd") ∷ [])

held_open_is_permitted : trace passwd_reader (rest ∷ []) ≡ Some (
    Stored 1 0 8314049735936992559 ∷
    Stored 1 1 6584179 ∷
    Entered 1 Open (regs 0 0 0) (Held 1) ∷
    Claimed 1 1 ∷
    Copied 1 0 0 8314049735936992559 ∷
    Copied 1 0 1 6584179 ∷
    Looked 1 0 (name "/etc") Dir ∷
    Looked 1 0 (name "/etc/passwd") File ∷
    Answered 1 (cat_copies 1 user "/etc/passwd") (Permit 1 user) true ∷
    Used 1 (Some 1) Open (regs 0 0 0) (filename "/etc/passwd") user (Value 3) [] ∷
    Ended 1 ∷ [])
held_open_is_permitted = refl

no_filter_decides : trace (cat_input (passwd_only ∷ []) etc_files (thread_in 1 (opens "/etc/spwd") ∷ [])) (rest ∷ []) ≡ Some (
    Stored 1 0 8606505535274247471 ∷
    Stored 1 1 100 ∷
    Entered 1 Open (regs 0 0 0) (Held 1) ∷
    Claimed 1 1 ∷
    Copied 1 0 0 8606505535274247471 ∷
    Copied 1 0 1 100 ∷
    Looked 1 0 (name "/etc") Dir ∷
    Looked 1 0 (name "/etc/spwd") File ∷
    Answered 1 (cat_copies 1 user "/etc/spwd") Unmatched true ∷
    Denied 1 (Some 1) EPERM NoFilter ∷
    Ended 1 ∷ [])
no_filter_decides = refl

-- ---- another thread overwrites the name

abbrev pub rewriter : Input
rewriter = cat_input (passwd_only ∷ []) etc_files (thread_in 1 (opens "/etc/passwd") ∷ thread_in 1 (put 0 "/etc/spwd") ∷ [])

-- the copied name is opened, not the one in memory at that time
rewritten_after_the_answer : trace rewriter (thread 1 3 ∷ worker 1 6 ∷ thread 2 2 ∷ rest ∷ []) ≡ Some (
    passwd_copied ++
    Answered 1 (cat_copies 1 user "/etc/passwd") (Permit 1 user) true ∷
    Stored 2 0 8606505535274247471 ∷
    Stored 2 1 100 ∷
    opened 1 "/etc/passwd" user 3 ∷
    Ended 1 ∷ Ended 2 ∷ [])
rewritten_after_the_answer = refl

-- rewritten between the two copied words: the torn copy is judged
torn_copy : trace rewriter (thread 1 3 ∷ worker 1 2 ∷ thread 2 2 ∷ rest ∷ []) ≡ Some (
    Stored 1 0 8314049735936992559 ∷
    Stored 1 1 6584179 ∷
    Entered 1 Open (regs 0 0 0) (Held 1) ∷
    Claimed 1 1 ∷
    Copied 1 0 0 8314049735936992559 ∷
    Stored 2 0 8606505535274247471 ∷
    Stored 2 1 100 ∷
    Ended 2 ∷
    Copied 1 0 1 100 ∷
    Looked 1 0 (name "/etc") Dir ∷
    Looked 1 0 (name "/etc/pasd") Missing ∷
    Answered 1 (cat_copies 1 user "/etc/pasd") Unmatched true ∷
    Denied 1 (Some 1) EPERM NoFilter ∷
    Ended 1 ∷ [])
torn_copy = refl

-- ---- the first filter that holds decides

abbrev pub etc_denied : FilterValue
etc_denied = when FsRead (test "filename" op.Match "/etc/*") (action.Deny EPERM)

-- the names under /etc are denied first, though a later filter permits this name
abbrev pub etc_denier : Input
etc_denier = cat_input (etc_denied ∷ passwd_only ∷ []) etc_files (thread_in 1 (opens "/etc/passwd") ∷ [])

a_denial_before_a_permit : trace etc_denier (rest ∷ []) ≡ Some (
    passwd_copied ++
    Answered 1 (cat_copies 1 user "/etc/passwd") (Refuse 1 EPERM) true ∷
    Denied 1 (Some 1) EPERM (cause.Filter 1) ∷
    Ended 1 ∷ [])
a_denial_before_a_permit = refl

a_permit_before_a_denial : trace (cat_input (passwd_only ∷ etc_denied ∷ []) etc_files (thread_in 1 (opens "/etc/passwd") ∷ [])) (rest ∷ [])
    ≡ Some (
    passwd_copied ++
    Answered 1 (cat_copies 1 user "/etc/passwd") (Permit 1 user) true ∷
    opened 1 "/etc/passwd" user 3 ∷
    Ended 1 ∷ [])
a_permit_before_a_denial = refl

-- ---- names that can't be copied

-- the text extends past the end of the memory
a_name_outside_the_memory : trace (
    cat_input (passwd_only ∷ []) etc_files (thread_in 1 (Store 8191 6989586621679009792 ∷ call Open 65535 0 0 ∷ []) ∷ []))
    (rest ∷ [])
    ≡ Some (
    Stored 1 8191 6989586621679009792 ∷
    Entered 1 Open (regs 65535 0 0) (Held 1) ∷
    Claimed 1 1 ∷
    Copied 1 0 8191 6989586621679009792 ∷
    Faulted 1 EFAULT ∷
    Denied 1 (Some 1) EFAULT cause.Fault ∷
    Ended 1 ∷ [])
a_name_outside_the_memory = refl

abbrev pub nameless : Input
nameless = cat_input (passwd_only ∷ []) etc_files (thread_in 1 (call Open 0 0 0 ∷ []) ∷ [])

an_empty_name : trace nameless (rest ∷ []) ≡ Some (
    Entered 1 Open (regs 0 0 0) (Held 1) ∷
    Claimed 1 1 ∷
    Copied 1 0 0 0 ∷
    Faulted 1 ENOENT ∷
    Denied 1 (Some 1) ENOENT cause.Fault ∷
    Ended 1 ∷ [])
an_empty_name = refl

-- ---- schedules

nothing_to_do : trace (input (plainly Enforce) [] [] [] [] []) (rest ∷ []) ≡ Some []
nothing_to_do = refl

-- no number waits for a worker yet
a_worker_without_a_number : trace passwd_reader (worker 1 1 ∷ rest ∷ []) ≡ None
a_worker_without_a_number = refl

a_thread_that_waits : trace passwd_reader (thread 1 3 ∷ thread 1 1 ∷ []) ≡ None
a_thread_that_waits = refl

-- a schedule may end before its run does
a_short_schedule : trace passwd_reader (thread 1 3 ∷ []) ≡ Some (
    Stored 1 0 8314049735936992559 ∷ Stored 1 1 6584179 ∷ Entered 1 Open (regs 0 0 0) (Held 1) ∷ [])
a_short_schedule = refl
