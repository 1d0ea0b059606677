-- The audits and the policies of runs that reload policies, whose lines were worked out from the rules.
use Rattle.std.proofs.Common.{◌≡◌, ℕ, List, [], ◌∷◌, ◌++◌, Some, None, refl, codes}
use Rattle.std.specs.Fmt.{digits}
use Rattle.std.specs.Prelude.{Option}
use Rattle.st_base.specs.declared.errno.Errno.TheVariants.{EACCES, ENOENT, EPERM}
use Rattle.st_calls.specs.declared.call.SysCall.TheVariants.{Close, GetUid}
use Rattle.st_calls.specs.declared.rule.Rule.TheVariants as Rule
use Rattle.st_calls.specs.declared.rule.Rule.TheVariants.{FsRead}
use Rattle.st_emulation.specs.declared.emulation.Emulation.TheVariants.{Native}
use Rattle.st_filter.specs.declared.set.BinaryPolicy.{BinaryPolicy}
use Rattle.st_trace.specs.declared.entry.Entry.{Entry}
use Rattle.st_trace.specs.declared.start.Instr.{Instr}
use Rattle.st_trace.specs.declared.start.Instr.TheVariants.{Reload}
use Rattle.st_law.specs.declared.input.Input.{Input}
use Rattle.st_law.specs.declared.input.Mode.{Mode}
use Rattle.st_law.specs.declared.input.Mode.TheVariants.{AskText, Enforce}
use Rattle.st_law.specs.declared.input.ScheduleLine.{ScheduleLine}
use Rattle.st_law.proofs.Scripts.{etc_files, opens, passwd_only, reads_only}
use Rattle.st_law.proofs.Writing.{call, denies, input, logged, operator, permits, plainly, policy, reply, rest, thread, thread_in, trace, traced, untraced, with_blocks, worker}
use Rattle.st_audit.specs.PolicyText.{policy_text}
use Rattle.st_audit.proofs.WorkedRows.{audited, passwd_line}

-- a traced process, whose thread may read one file, and another with this user, whose thread reloads policies
abbrev administered : Mode → List BinaryPolicy → ℕ → List Instr → List Instr → Input
administered mode blocks uid body reloads = with_blocks blocks (
    input (plainly mode) (policy "/bin/cat" (passwd_only ∷ []) ∷ []) etc_files (traced "/bin/cat" 1000 1000 "/" ∷ untraced "/bin/adm" uid 0 "/" ∷ [])
    (thread_in 1 body ∷ thread_in 2 reloads ∷ []) (reply "/bin/cat" (reads_only "/etc/spwd") ∷ []))

-- a policy that denies each file
abbrev tight : BinaryPolicy
tight = policy "/bin/cat" (logged (denies FsRead ENOENT) ∷ [])

abbrev tightened : ℕ → Input
tightened uid = administered Enforce (tight ∷ []) uid (opens "/etc/passwd") (Reload 1 ∷ [])

abbrev tight_line : List ℕ
tight_line = codes "1.1 \"/bin/cat\" native-fsread filename=\"/etc/passwd\" deny#1 = ENOENT log\n"

-- ---- held calls

-- the call was permitted when its policy is replaced: it is judged again
denied_after_the_answer : audited (tightened 0) (thread 1 3 ∷ worker 1 6 ∷ thread 2 1 ∷ rest ∷ []) ≡ tight_line
unfolding digits
denied_after_the_answer = refl

denied_before_the_claim : audited (tightened 0) (thread 1 3 ∷ thread 2 1 ∷ rest ∷ []) ≡ tight_line
unfolding digits
denied_before_the_claim = refl

made_before_the_reload : audited (tightened 0) (thread 1 3 ∷ worker 1 6 ∷ thread 1 1 ∷ thread 2 1 ∷ rest ∷ []) ≡ passwd_line
unfolding digits
made_before_the_reload = refl

-- a process without effective user 0 replaces nothing
refused_to_a_user : audited (tightened 5) (thread 1 3 ∷ worker 1 6 ∷ thread 2 1 ∷ rest ∷ []) ≡ passwd_line
unfolding digits
refused_to_a_user = refl

-- nor does a policy of another binary
another_binary : audited (administered Enforce (policy "/bin/ls" (logged (denies FsRead ENOENT) ∷ []) ∷ []) 0 (opens "/etc/passwd") (Reload 1 ∷ [])) (thread 1 3 ∷ worker 1 6 ∷ thread 2 1 ∷ rest ∷ []) ≡ passwd_line
unfolding digits
another_binary = refl

-- of two policies the one that is reloaded last is in force
reloaded_twice : audited (administered Enforce (tight ∷ policy "/bin/cat" (denies (Rule.Call Close) EPERM ∷ reads_only "/etc/spwd" ∷ logged passwd_only ∷ []) ∷ []) 0 (opens "/etc/passwd") (Reload 1 ∷ Reload 2 ∷ []))
    (thread 1 3 ∷ worker 1 6 ∷ thread 2 2 ∷ rest ∷ []) ≡ codes "1.1 \"/bin/cat\" native-fsread filename=\"/etc/passwd\" permit#2 = 3 log\n"
unfolding digits
reloaded_twice = refl

-- ---- calls that the kernel answers by itself

-- the first call is entered before the reload, the second after it
abbrev asks_twice : List BinaryPolicy → List BinaryPolicy → Input
asks_twice read blocks = with_blocks blocks (
    input (plainly Enforce) read etc_files (traced "/bin/cat" 1000 1000 "/" ∷ untraced "/bin/adm" 0 0 "/" ∷ []) (thread_in 1 (call GetUid 0 0 0 ∷ call GetUid 0 0 0 ∷ []) ∷ thread_in 2 (Reload 1 ∷ []) ∷ []) [])

barred_as_it_was_entered : audited (asks_twice (policy "/bin/cat" (denies (Rule.Call GetUid) EPERM ∷ []) ∷ []) (policy "/bin/cat" (denies (Rule.Call GetUid) EACCES ∷ []) ∷ [])) (thread 1 1 ∷ thread 2 1 ∷ rest ∷ []) ≡
    codes "1.1 \"/bin/cat\" native-getuid barred#1 = EPERM\n1.1 \"/bin/cat\" native-getuid barred#1 = EACCES\n"
unfolding digits
barred_as_it_was_entered = refl

fast_as_it_was_entered : audited (asks_twice (policy "/bin/cat" (permits (Rule.Call GetUid) ∷ []) ∷ []) (policy "/bin/cat" (denies (Rule.Call GetUid) EACCES ∷ []) ∷ [])) (thread 1 1 ∷ thread 2 1 ∷ rest ∷ []) ≡
    codes "1.1 \"/bin/cat\" native-getuid fast = 1000\n1.1 \"/bin/cat\" native-getuid barred#1 = EACCES\n"
unfolding digits
fast_as_it_was_entered = refl

-- ---- the session

-- the filters of the session follow those in force, and stay when these are replaced
abbrev asked : Input
asked = administered AskText (policy "/bin/cat" (reads_only "/a" ∷ reads_only "/b" ∷ []) ∷ []) 0 (opens "/etc/spwd" ++ opens "/etc/spwd") (Reload 1 ∷ [])

numbered_after_those_in_force : audited asked (thread 1 3 ∷ worker 1 6 ∷ operator 1 ∷ thread 1 4 ∷ thread 2 1 ∷ rest ∷ []) ≡
    codes "1.1 \"/bin/cat\" native-fsread filename=\"/etc/spwd\" permit#2 = EACCES\n1.1 \"/bin/cat\" native-fsread filename=\"/etc/spwd\" permit#3 = EACCES\n"
unfolding digits
numbered_after_those_in_force = refl

-- ---- the policies after a run

abbrev policies_of : Input → Option (List Entry) → List ℕ
policies_of i None = []
policies_of i (Some entries) = policy_text i entries Native

abbrev printed_policies : Input → List ScheduleLine → List ℕ
printed_policies i lines = policies_of i (trace i lines)

the_policy_in_force : printed_policies (tightened 0) (rest ∷ []) ≡ codes "Policy: /bin/cat, Emulation: native\nnative-fsread: deny[enoent] log\n"
unfolding digits
the_policy_in_force = refl

the_policy_that_was_read : printed_policies (tightened 5) (rest ∷ []) ≡ codes "Policy: /bin/cat, Emulation: native\nnative-fsread: filename eq \"/etc/passwd\" then permit\n"
unfolding digits
the_policy_that_was_read = refl

in_force_and_then_the_session : printed_policies asked (rest ∷ []) ≡
    codes "Policy: /bin/cat, Emulation: native\nnative-fsread: filename eq \"/a\" then permit\nnative-fsread: filename eq \"/b\" then permit\nnative-fsread: filename eq \"/etc/spwd\" then permit\n"
unfolding digits
in_force_and_then_the_session = refl

-- binaries without a policy that was read come after the others, in the order of their first reload
others_in_order : printed_policies (administered Enforce (policy "/bin/a" [] ∷ policy "/bin/z" (denies FsRead EPERM ∷ []) ∷ policy "/bin/z" [] ∷ []) 0 [] (Reload 2 ∷ Reload 1 ∷ Reload 3 ∷ [])) (rest ∷ []) ≡
    codes "Policy: /bin/cat, Emulation: native\nnative-fsread: filename eq \"/etc/passwd\" then permit\nPolicy: /bin/z, Emulation: native\nPolicy: /bin/a, Emulation: native\n"
unfolding digits
others_in_order = refl
