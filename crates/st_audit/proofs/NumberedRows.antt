-- The audits of traces in which a number comes again: what is recorded under it is never what was decided on the call that had it before.
use Prim.Native.String.{String}
use Rattle.std.proofs.Common.{◌≡◌, ℕ, true, false, List, [], ◌∷◌, ◌++◌, reverse, Some, None, refl, codes}
use Rattle.std.specs.Fmt.{digits}
use Rattle.std.specs.Prelude.{Bool, Option}
use Rattle.st_base.specs.declared.errno.Errno.TheVariants.{EPERM}
use Rattle.st_calls.specs.declared.argument.Label.TheVariants.{Uid}
use Rattle.st_calls.specs.declared.call.SysCall.TheVariants.{Open, SetUid}
use Rattle.st_calls.specs.declared.judged.Verdict.{Verdict}
use Rattle.st_calls.specs.declared.judged.Verdict.TheVariants.{Permit, Unmatched}
use Rattle.st_calls.specs.declared.rule.Rule.TheVariants as Rule
use Rattle.st_emulation.specs.declared.emulation.Emulation.TheVariants.{Native}
use Rattle.st_filter.specs.declared.filter.Cmp.TheVariants as cmp
use Rattle.st_filter.specs.declared.filter.Who.TheVariants as who
use Rattle.st_trace.specs.declared.entry.CallResult.TheVariants.{Value}
use Rattle.st_trace.specs.declared.entry.Cause.TheVariants.{NoFilter}
use Rattle.st_trace.specs.declared.entry.Change.{Change}
use Rattle.st_trace.specs.declared.entry.Change.TheVariants.{Renewed, SetIds}
use Rattle.st_trace.specs.declared.entry.Entry.{Entry}
use Rattle.st_trace.specs.declared.entry.Entry.TheVariants.{Entered, Claimed, Answered, Used, Denied, Reloaded}
use Rattle.st_trace.specs.declared.entry.Way.TheVariants.{Held}
use Rattle.st_law.specs.declared.input.Input.{Input}
use Rattle.st_law.specs.declared.input.Mode.TheVariants.{Enforce, Learn}
use Rattle.st_law.specs.Numbers.{drawings_at, numbered_in}
use Rattle.st_law.proofs.Scripts.{asking_input, cat_copies, cat_input, etc_files, filename, opens, passwd_only, user}
use Rattle.st_law.proofs.Writing.{arg, call, input, only_if, permits, plainly, policy, regs, rest, thread, thread_in, trace, traced, worker}
use Rattle.st_audit.specs.AuditText.{audit_by_number}
use Rattle.st_audit.specs.FromHistory.{audit_from_history}

-- ---- runs in a small circle of numbers

abbrev numbers_of : ℕ → Input → Option (List Entry) → List Entry
numbers_of circle i None = []
numbers_of circle i (Some entries) = numbered_in circle i entries

-- what is played in a circle of one number
abbrev played : Input → List Entry
played i = numbers_of 1 i (trace i (rest ∷ []))

-- a thread opens two files, of which it may open the first
abbrev reader : Input
reader = cat_input (passwd_only ∷ []) etc_files (thread_in 1 (opens "/etc/passwd" ++ opens "/etc/spwd") ∷ [])

abbrev reader_lines : List ℕ
reader_lines = codes "1.1 \"/bin/cat\" native-fsread filename=\"/etc/passwd\" permit#1 = 3\n1.1 \"/bin/cat\" native-fsread filename=\"/etc/spwd\" nofilter = EPERM\n"

-- both calls have number 1
number_1_comes_again : (drawings_at (reverse (played reader))).drawing_of 1 ≡ 2
unfolding digits
number_1_comes_again = refl

each_call_is_decided_for_itself : audit_from_history reader (played reader) Native ≡ reader_lines
unfolding digits
each_call_is_decided_for_itself = refl

so_says_the_law : audit_by_number reader (played reader) Native ≡ reader_lines
unfolding digits
so_says_the_law = refl

-- both filters that the session learns are from questions with number 1
abbrev learner : Input
learner = asking_input Learn etc_files (thread_in 1 (opens "/etc/passwd" ++ opens "/etc/spwd") ∷ []) []

abbrev learner_lines : List ℕ
learner_lines = codes "1.1 \"/bin/cat\" native-fsread filename=\"/etc/passwd\" permit#1 = 3\n1.1 \"/bin/cat\" native-fsread filename=\"/etc/spwd\" permit#2 = EACCES\n"

each_question_is_learnt : audit_from_history learner (played learner) Native ≡ learner_lines
unfolding digits
each_question_is_learnt = refl

-- a held open is renewed twice in a circle of two numbers: its first answer was under number 1, which its last drawing has too
abbrev setter : Input
setter = input (plainly Enforce)
    (policy "/bin/cat" (permits (Rule.Call SetUid) ∷ only_if (record { who = who.User; cmp = cmp.Same; id = 0 }) passwd_only ∷ []) ∷ [])
    etc_files (traced "/bin/cat" 0 0 "/" ∷ [])
    (thread_in 1 (opens "/etc/passwd") ∷ thread_in 1 (call SetUid 0 0 0 ∷ call SetUid 1000 0 0 ∷ []) ∷ []) []

abbrev renewed_twice : List Entry
renewed_twice = numbers_of 2 setter (trace setter (thread 1 3 ∷ worker 1 6 ∷ thread 2 2 ∷ worker 1 6 ∷ thread 2 2 ∷ rest ∷ []))

abbrev setter_lines : List ℕ
setter_lines = codes "1.2 \"/bin/cat\" native-setuid fast = 0\n1.2 \"/bin/cat\" native-setuid fast = 0\n1.1 \"/bin/cat\" native-fsread filename=\"/etc/passwd\" nofilter = EPERM\n"

number_1_is_that_of_the_third : (drawings_at (reverse renewed_twice)).drawing_of 1 ≡ 3
unfolding digits
number_1_is_that_of_the_third = refl

the_last_answer_decides : audit_from_history setter renewed_twice Native ≡ setter_lines
unfolding digits
the_last_answer_decides = refl

so_says_the_law_of_renewals : audit_by_number setter renewed_twice Native ≡ setter_lines
unfolding digits
so_says_the_law_of_renewals = refl

-- ---- what is recorded of a call that had the number before

abbrev opener : Input
opener = cat_input (passwd_only ∷ []) etc_files (thread_in 1 [] ∷ thread_in 1 [] ∷ thread_in 1 [] ∷ [])

abbrev enters : ℕ → ℕ → Entry
enters t n = Entered t Open (regs 0 0 0) (Held n)

abbrev answers : ℕ → ℕ → String → Verdict → Bool → Entry
answers w n text verdict applied = Answered w (cat_copies n user text) verdict applied

abbrev denied : ℕ → ℕ → Entry
denied t n = Denied t (Some n) EPERM NoFilter

abbrev used : ℕ → ℕ → String → Entry
used t n text = Used t (Some n) Open (regs 0 0 0) (filename text) user (Value 3) []

-- thread 3 sets ids, and so renews the calls that the others hold
abbrev sets_ids : List Change → Entry
sets_ids renewed = Used 3 None SetUid (regs 0 0 0) (arg Uid 0 "0" ∷ []) user (Value 0) (SetIds user ∷ renewed)

-- number 1 was answered, and the call is neither made nor denied
abbrev permitted : List Entry
permitted = enters 1 1 ∷ Claimed 1 1 ∷ answers 1 1 "/etc/passwd" (Permit 1 user) true ∷ []

as_it_was_permitted : audit_from_history opener (permitted ++ used 1 1 "/etc/passwd" ∷ []) Native ≡ codes "1.1 \"/bin/cat\" native-fsread filename=\"/etc/passwd\" permit#1 = 3\n"
unfolding digits
as_it_was_permitted = refl

-- a call draws number 1 again
drawn_again_and_made : audit_from_history opener (permitted ++ enters 2 1 ∷ used 2 1 "/etc/spwd" ∷ []) Native ≡ codes "1.2 \"/bin/cat\" native-fsread filename=\"/etc/spwd\" permit#0 = 3\n"
unfolding digits
drawn_again_and_made = refl

drawn_again_and_denied : audit_from_history opener (permitted ++ enters 2 1 ∷ denied 2 1 ∷ []) Native ≡ codes "1.2 \"/bin/cat\" native-fsread nofilter = EPERM\n"
unfolding digits
drawn_again_and_denied = refl

-- another number is drawn
another_is_drawn : audit_from_history opener (permitted ++ enters 2 2 ∷ used 1 1 "/etc/passwd" ∷ []) Native ≡ codes "1.1 \"/bin/cat\" native-fsread filename=\"/etc/passwd\" permit#1 = 3\n"
unfolding digits
another_is_drawn = refl

-- a renewal draws number 1 again
renewed_and_denied : audit_from_history opener (enters 2 2 ∷ permitted ++ sets_ids (Renewed 2 1 ∷ []) ∷ denied 2 1 ∷ []) Native ≡
    codes "1.3 \"/bin/cat\" native-setuid fast = 0\n1.2 \"/bin/cat\" native-fsread nofilter = EPERM\n"
unfolding digits
renewed_and_denied = refl

-- a reload draws number 1 again
reloaded_and_denied : audit_from_history opener (enters 2 2 ∷ permitted ++ Reloaded 3 1 true (Renewed 2 1 ∷ []) ∷ denied 2 1 ∷ []) Native ≡ codes "1.2 \"/bin/cat\" native-fsread nofilter = EPERM\n"
unfolding digits
reloaded_and_denied = refl

-- the answer of the other worker comes once number 1 means another call
a_late_answer : audit_from_history opener (
    enters 1 1 ∷ Claimed 1 1 ∷ sets_ids (Renewed 1 2 ∷ []) ∷ enters 2 1 ∷ Claimed 2 1 ∷ answers 2 1 "/etc/spwd" Unmatched true ∷ answers 1 1 "/etc/passwd" (Permit 1 user) false ∷ denied 2 1 ∷ []) Native ≡
    codes "1.3 \"/bin/cat\" native-setuid fast = 0\n1.2 \"/bin/cat\" native-fsread filename=\"/etc/spwd\" nofilter = EPERM\n"
unfolding digits
a_late_answer = refl
