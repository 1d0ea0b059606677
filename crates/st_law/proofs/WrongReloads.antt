-- Wrong rules of reloads: for each, a trace that it would give, and the proof that this trace isn't lawful. The wrong entry is the last. The
-- entries before it are a run, which the right rule continues with another entry.
use Rattle.std.proofs.Common.{◌≡◌, ℕ, true, false, List, [], ◌∷◌, ◌++◌, Option, Some, None, refl, sym, ap}
use Rattle.std.specs.Fmt.{digits}
use Rattle.std.specs.Prelude.{reverse}
use Rattle.std.proofs.lemmas.Option.{same_Some}
use Rattle.st_base.specs.declared.errno.Errno.{Errno}
use Rattle.st_base.specs.declared.errno.Errno.TheVariants.{EPERM, ENOENT}
use Rattle.st_calls.specs.declared.call.SysCall.TheVariants.{GetPid}
use Rattle.st_calls.specs.declared.judged.Snapshot.{Snapshot}
use Rattle.st_calls.specs.declared.judged.Verdict.TheVariants.{Permit, Refuse, Unmatched}
use Rattle.st_calls.specs.declared.rule.FastAnswer.TheVariants as answer
use Rattle.st_trace.specs.declared.entry.CallResult.{CallResult}
use Rattle.st_trace.specs.declared.entry.CallResult.TheVariants.{Value}
use Rattle.st_trace.specs.declared.entry.Cause.TheVariants.{NoFilter}
use Rattle.st_trace.specs.declared.entry.Cause.TheVariants as cause
use Rattle.st_trace.specs.declared.entry.Change.{Change}
use Rattle.st_trace.specs.declared.entry.Change.TheVariants.{Renewed}
use Rattle.st_trace.specs.declared.entry.Entry.TheVariants.{Entered, Answered, Used, Denied, Reloaded}
use Rattle.st_trace.specs.declared.entry.Way.{Way}
use Rattle.st_trace.specs.declared.entry.Way.TheVariants.{Fast, Barred, Untraced}
use Rattle.st_law.specs.History.{looking_back}
use Rattle.st_law.specs.Lawful.{Lawful}
use Rattle.st_law.specs.State.{decision_in}
use Rattle.st_law.specs.Threads.{PendingCall}
use Rattle.st_law.proofs.ReloadRuns.{asking, asks, bars_anew, bars_later, barred_then, crowd, crowded, fast_then, faulted, held, killed, killer, nameless, other_binary, permitted, reloader, reloader_in, renewed, renewed_late, renewed_while_ready, replied_then}
use Rattle.st_law.proofs.Scripts.{root}
use Rattle.st_law.proofs.Writing.{regs, traced, untraced}
use Rattle.st_law.proofs.WrongRuns.{not_empty, not_false, not_permit, not_true, not_unmatched, said_of, unequal}

-- two lists of changes differ if the first of each renews as another number
abbrev first_new : List Change → ℕ
first_new [] = 0
first_new (Renewed old new ∷ changes) = new
first_new (_ ∷ changes) = 0

abbrev first_old : List Change → ℕ
first_old [] = 0
first_old (Renewed old new ∷ changes) = old
first_old (_ ∷ changes) = 0

abbrev rest_of : List Change → List Change
rest_of [] = []
rest_of (c ∷ changes) = changes

-- ---- what is renewed

-- a reload renews nothing: of what waits, of what was answered, and of what was found faulty
renews_nothing : Lawful reloader (held 1 ∷ Reloaded 2 1 true [] ∷ []) → ⊥
renews_nothing l = not_empty (Renewed 1 2) [] l.0.changes_are

leaves_what_was_answered : Lawful reloader (permitted ++ Reloaded 2 1 true [] ∷ []) → ⊥
leaves_what_was_answered l = not_empty (Renewed 1 2) [] l.0.changes_are

leaves_what_is_faulty : Lawful nameless (faulted ++ Reloaded 2 1 true [] ∷ []) → ⊥
leaves_what_is_faulty l = not_empty (Renewed 1 2) [] l.0.changes_are

-- it renews calls of other binaries, too
renews_other_binaries : Lawful other_binary (held 1 ∷ Reloaded 2 1 true (Renewed 1 2 ∷ []) ∷ []) → ⊥
renews_other_binaries l = not_empty (Renewed 1 2) [] (sym l.0.changes_are)

-- it renews the call of a thread that was killed
renews_the_killed : Lawful killer (killed ++ Reloaded 2 1 true (Renewed 1 2 ∷ []) ∷ []) → ⊥
unfolding digits
renews_the_killed l = not_empty (Renewed 1 2) [] (sym l.0.changes_are)

-- it renews in the order of the numbers
renews_by_number : Lawful crowd (crowded ++ Reloaded 2 1 true (Renewed 1 5 ∷ Renewed 3 6 ∷ Renewed 4 7 ∷ []) ∷ []) → ⊥
renews_by_number l = unequal 1 4 refl (ap first_old l.0.changes_are)

-- it renews only one of the calls
renews_the_first_only : Lawful crowd (crowded ++ Reloaded 2 1 true (Renewed 4 5 ∷ []) ∷ []) → ⊥
renews_the_first_only l = not_empty (Renewed 3 6) (Renewed 1 7 ∷ []) (ap rest_of l.0.changes_are)

-- it gives a number that was given
renews_as_an_old_number : Lawful reloader (held 1 ∷ Reloaded 2 1 true (Renewed 1 1 ∷ []) ∷ []) → ⊥
renews_as_an_old_number l = unequal 1 2 refl (ap first_new l.0.changes_are)

-- ---- who may reload

done_by_a_traced_process : Lawful (reloader_in (traced "/bin/adm" 0 0 "/")) (Reloaded 2 1 true [] ∷ []) → ⊥
done_by_a_traced_process l = not_false l.0.done_is

done_by_another_user : Lawful (reloader_in (untraced "/bin/adm" 5 0 "/")) (Reloaded 2 1 true [] ∷ []) → ⊥
done_by_another_user l = not_false l.0.done_is

is_refused_to_root : Lawful reloader (Reloaded 2 1 false [] ∷ []) → ⊥
is_refused_to_root l = not_true l.0.done_is

-- a refused reload renews
renews_though_refused : Lawful (reloader_in (untraced "/bin/adm" 5 0 "/")) (held 1 ∷ Reloaded 2 1 false (Renewed 1 2 ∷ []) ∷ []) → ⊥
renews_though_refused l = not_empty (Renewed 1 2) [] (sym l.0.changes_are)

-- ---- judging

-- the policy that was read judges the renewed call
judges_as_it_was_read : Lawful reloader (renewed ++ Answered 1 (asks 2 1) (Permit 1 root) true ∷ []) → ⊥
judges_as_it_was_read l = not_permit 1 1 ENOENT root (sym l.0.verdict_is)

abbrev version_of : Snapshot → ℕ
version_of s = s.version

-- the copies of the renewed call have the old version
copies_the_old_version : Lawful reloader (renewed ++ Answered 1 (asks 2 0) (Permit 1 root) true ∷ []) → ⊥
copies_the_old_version l = unequal 1 0 refl (ap version_of (same_Some (asks 2 1) (asks 2 0) l.0.copies))

-- the worker that was ready answers by the new policy
answers_early_by_the_new_policy : Lawful reloader (renewed_while_ready ++ Answered 1 (asks 1 1) (Refuse 1 ENOENT) false ∷ []) → ⊥
answers_early_by_the_new_policy l = unequal 0 1 refl (ap version_of (same_Some (asks 1 0) (asks 1 1) l.0.copies))

-- an answer under the old version is applied
applies_the_old_answer : Lawful reloader (renewed_while_ready ++ Answered 1 (asks 1 0) (Permit 1 root) true ∷ []) → ⊥
applies_the_old_answer l = not_false l.0.applied_is

-- the call is made by the old answer, under the old number or the new one
made_under_the_old_number : (result : CallResult) (changes : List Change) → Lawful reloader (
    renewed_late ++ Used 1 (Some 1) GetPid (regs 0 0 0) [] root result changes ∷ []) → ⊥
made_under_the_old_number result changes l = unequal 2 1 refl l.0.held.number

made_under_the_new_number : (result : CallResult) (changes : List Change) → Lawful reloader (
    renewed_late ++ Used 1 (Some 2) GetPid (regs 0 0 0) [] root result changes ∷ []) → ⊥
made_under_the_new_number result changes l = not_true l.0.permitted.judged.answered

-- ---- the session

-- the filters of the session are lost
forgets_the_session : Lawful asking (replied_then ++ Denied 1 (Some 2) EPERM NoFilter ∷ []) → ⊥
forgets_the_session l = not_unmatched 2 ENOENT
    (said_of (decision_in asking (looking_back asking (reverse replied_then))) (asks 2 1) l.0.cause_is.0 (Refuse 2 ENOENT) Unmatched l.0.cause_is.1.copies refl l.0.cause_is.2)

number_of_filter : (n m : ℕ) (errno other : Errno) → Refuse n errno ≡ Refuse m other → n ≡ m
number_of_filter n m errno other e = cc

-- the filters of the session are counted from 1
counts_the_session_from_1 : Lawful asking (replied_then ++ Denied 1 (Some 2) ENOENT (cause.Filter 1) ∷ []) → ⊥
counts_the_session_from_1 l = unequal 2 1 refl (number_of_filter 2 1 ENOENT ENOENT
    (said_of (decision_in asking (looking_back asking (reverse replied_then))) (asks 2 1) l.0.cause_is.0 (Refuse 2 ENOENT) (Refuse 1 ENOENT) l.0.cause_is.1.copies refl l.0.cause_is.2))

-- ---- the kernel's own answers

refusals_differ : answer.Refuse EPERM ≡ answer.Refuse ENOENT → ⊥
refusals_differ e = cc

-- a barred call that is entered takes the new error
bars_with_the_new_error : Lawful bars_anew (barred_then ++ Denied 1 None ENOENT (cause.Filter 1) ∷ []) → ⊥
bars_with_the_new_error l = refusals_differ l.0.refused

abbrev way_in : Option PendingCall → Way
way_in None = Untraced
way_in (Some entered) = entered.way

fast_or_barred : Fast ≡ Barred 1 → ⊥
fast_or_barred e = cc

-- a fast call that is entered takes the new answer
denies_a_fast_call : (errno : Errno) → Lawful bars_later (fast_then ++ Denied 1 None errno (cause.Filter 1) ∷ []) → ⊥
denies_a_fast_call errno l = fast_or_barred (ap way_in l.0.entered.1)

refuses_itself : answer.Refuse ENOENT ≡ answer.Permit → ⊥
refuses_itself e = cc

-- the kernel's own answers stay those of the old policy
enters_by_the_old_answer : Lawful bars_later (fast_then ++ Used 1 None GetPid (regs 0 0 0) [] root (Value 1) [] ∷ Entered 1 GetPid (regs 0 0 0) Fast ∷ []) → ⊥
enters_by_the_old_answer l = refuses_itself l.0.way_is.1
