-- Wrong rules: for each, a trace that it would give, and the proof that this trace isn't lawful. The wrong entry is the last. The entries
-- before it are a run, which the right rule continues with another entry.
use native.Mathlib.Omega.{arith}
use Rattle.std.proofs.Common.{◌≡◌, ℕ, true, false, List, [], ◌∷◌, ◌++◌, Option, Some, None, refl, codes, ◌⊎◌, inl, inr, suc, sym, ap, ◌∙◌, ◌==◌}
use Rattle.std.specs.Fmt.{digits}
use Rattle.std.specs.Prelude.{Bool, map, length, take, reverse, replicate, sum_by, drop}
use Rattle.std.proofs.lemmas.Option.{same_Some}
use Rattle.std.proofs.lemmas.Bool.{eq-eqb}
use Rattle.st_base.specs.declared.errno.Errno.TheVariants.{EPERM, ENOENT, EACCES, ELOOP}
use Rattle.st_base.specs.declared.ids.Ids.{Ids}
use Rattle.st_base.specs.declared.errno.Errno.{Errno}
use Rattle.st_calls.specs.declared.argument.Label.TheVariants.{Filename, Uid, Pid, Signum}
use Rattle.st_calls.specs.declared.call.SysCall.TheVariants.{Open, Exit, Kill, GetPid, GetUid, SetUid, Bind}
use Rattle.st_calls.specs.declared.judged.Verdict.TheVariants.{Permit, Refuse, Unmatched}
use Rattle.st_calls.specs.declared.rule.Rule.TheVariants as Rule
use Rattle.st_calls.specs.declared.rule.Rule.TheVariants.{FsRead}
use Rattle.st_calls.specs.declared.argument.ArgText.{ArgText}
use Rattle.st_calls.specs.declared.judged.Snapshot.{Snapshot}
use Rattle.st_calls.specs.declared.rule.FastAnswer.TheVariants as answer
use Rattle.st_filter.specs.Formula.{True, Not}
use Rattle.st_filter.specs.declared.filter.Action.TheVariants as action
use Rattle.st_filter.specs.declared.filter.Cmp.TheVariants as cmp
use Rattle.st_filter.specs.declared.filter.Who.TheVariants as who
use Rattle.st_names.specs.declared.seen.SeenText.TheVariants.{Missing, Dir, File}
use Rattle.st_names.specs.declared.seen.SeenText.TheVariants as seen
use Rattle.st_trace.specs.declared.entry.CallResult.TheVariants.{Value, Failed}
use Rattle.st_trace.specs.declared.entry.Cause.TheVariants.{NoFilter}
use Rattle.st_trace.specs.declared.entry.Cause.TheVariants as cause
use Rattle.st_trace.specs.declared.entry.Change.TheVariants.{Removed, SetIds, Dying, Renewed}
use Rattle.st_trace.specs.declared.entry.Entry.TheVariants.{Stored, Entered, Claimed, Copied, Looked, Faulted, Answered, Used, Denied, Ended, Learned, Replied}
use Rattle.st_trace.specs.declared.entry.Way.TheVariants.{Fast, Barred, Held, Untraced}
use Rattle.st_trace.specs.declared.entry.Entry.{Entry}
use Rattle.st_trace.specs.declared.entry.CallResult.{CallResult}
use Rattle.st_trace.specs.declared.entry.Change.{Change}
use Rattle.st_law.specs.declared.input.Input.{Input}
use Rattle.st_law.specs.declared.input.Mode.TheVariants.{Learn, AskText}
use Rattle.st_law.specs.History.{looking_back}
use Rattle.st_law.specs.Lawful.{Lawful}
use Rattle.st_law.specs.State.{decision_in, filter_count, is_reply_left}
use Rattle.st_law.specs.Threads.{PendingCall}
use Rattle.st_law.proofs.Writing.{name, link, thread_in, regs, call, permits, logged, only_if, granting, thread, worker, operator, trace, ids, arg}
use Rattle.st_law.proofs.Writing.{copies, reply, when}
use Rattle.st_law.proofs.HeldRuns.{rewriter, etc_denier, barred, nameless, maker}
use Rattle.st_law.proofs.LinkRuns.{linker, tmp_permitted, tmp_linked}
use Rattle.st_law.proofs.ProcessRuns.{killer, setter, set_ids, root_permitted, server, bound, bound_again, www, port}
use Rattle.st_law.proofs.SessionRuns.{learner}
use Rattle.st_law.proofs.Scripts.{etc_files, tmp_dir, passwd_only, cat_input, asking_input, opens, user, root, filename, cat_copies, opened, passwd_copied}

-- ---- impossible equalities

pub not_true : false ≡ true → ⊥
not_true e = cc

pub not_false : true ≡ false → ⊥
not_false e = cc

pub unequal : (m n : ℕ) → (m == n) ≡ false → m ≡ n → ⊥
unequal m n d e = let t : (m == n) ≡ true = eq-eqb m n e in cc

not_none : {A : Type 0} (a : A) → Some a ≡ None → ⊥
not_none a e = cc

pub not_empty : {A : Type 0} (a : A) (more : List A) → [] ≡ a ∷ more → ⊥
not_empty a more e = cc

pub not_permit : (n m : ℕ) (errno : Errno) (granted : Ids) → Refuse n errno ≡ Permit m granted → ⊥
not_permit n m errno granted e = cc

pub not_unmatched : (n : ℕ) (errno : Errno) → Refuse n errno ≡ Unmatched → ⊥
not_unmatched n errno e = cc

permit_decides : (n : ℕ) (granted : Ids) → Permit n granted ≡ Unmatched → ⊥
permit_decides n granted e = cc

-- the copies of a number are these, so what holds of the copies found holds of these
pub said_of : {R : Type 0} (said : Snapshot → R) (s u : Snapshot) (v w : R) → Some s ≡ Some u → said s ≡ v → said u ≡ w → v ≡ w
said_of said s u v w e is so = sym is ∙ ap said (same_Some s u e) ∙ so

-- ---- the use of a name

-- a link is put in place after the check
abbrev linked_late : List Entry
linked_late = tmp_permitted ++ tmp_linked

meets_the_link : trace linker (thread 1 2 ∷ worker 1 5 ∷ thread 2 7 ∷ thread 1 1 ∷ [])
    ≡ Some (linked_late ++ Denied 1 (Some 1) ELOOP (cause.Link (name "/tmp/f")) ∷ [])
meets_the_link = refl

-- the call follows the link, with any result and changes
follows_the_link : (result : CallResult) (changes : List Change) → Lawful linker (
    linked_late ++ Used 1 (Some 1) Open (regs 0 0 0) (filename "/tmp/f") user result changes ∷ []) → ⊥
follows_the_link result changes l = not_none (name "/tmp/f") l.0.unlinked

-- two lists of arguments differ if their texts have different lengths in total
other_text : (s u : Snapshot) (args : List ArgText) → (sum_by (λ a. length a.text) args == sum_by (λ a. length a.text) s.parts) ≡ false →
    Some s ≡ Some u → args ≡ u.parts → ⊥
other_text s u args differ e are = unequal (sum_by (λ a. length a.text) args) (sum_by (λ a. length a.text) s.parts) differ
    (ap (sum_by (λ a. length a.text)) (are ∙ ap (λ x. x.parts) (sym (same_Some s u e))))

-- the name is rewritten after the answer
abbrev rewritten_late : List Entry
rewritten_late =
    passwd_copied ++
    Answered 1 (cat_copies 1 user "/etc/passwd") (Permit 1 user) true ∷
    Stored 2 0 8606505535274247471 ∷ Stored 2 1 100 ∷ []

uses_the_copy : trace rewriter (thread 1 3 ∷ worker 1 6 ∷ thread 2 2 ∷ thread 1 1 ∷ [])
    ≡ Some (rewritten_late ++ opened 1 "/etc/passwd" user 3 ∷ [])
uses_the_copy = refl

-- the call reads its name from memory again
reads_the_name_again : (result : CallResult) (changes : List Change) → Lawful rewriter (
    rewritten_late ++ Used 1 (Some 1) Open (regs 0 0 0) (filename "/etc/spwd") user result changes ∷ []) → ⊥
reads_the_name_again result changes l =
    other_text (cat_copies 1 user "/etc/passwd") l.0.copies (filename "/etc/spwd") refl l.0.permitted.judged.copies l.0.args_are

-- ---- copying

-- the first word of a name is copied, and then both words are rewritten
abbrev half_copied : List Entry
half_copied =
    Stored 1 0 8314049735936992559 ∷ Stored 1 1 6584179 ∷ Entered 1 Open (regs 0 0 0) (Held 1) ∷ Claimed 1 1 ∷
    Copied 1 0 0 8314049735936992559 ∷
    Stored 2 0 8606505535274247471 ∷ Stored 2 1 100 ∷ []

copies_the_word_of_now : trace rewriter (thread 1 3 ∷ worker 1 2 ∷ thread 2 2 ∷ worker 1 1 ∷ [])
    ≡ Some (half_copied ++ Copied 1 0 1 100 ∷ [])
copies_the_word_of_now = refl

-- a word is copied from the memory as it was when the call was entered
copies_the_old_word : Lawful rewriter (half_copied ++ Copied 1 0 1 6584179 ∷ []) → ⊥
copies_the_old_word l = unequal 6584179 100 refl l.0.word_is

abbrev claimed : List Entry
claimed = Stored 1 0 8314049735936992559 ∷ Stored 1 1 6584179 ∷ Entered 1 Open (regs 0 0 0) (Held 1) ∷ Claimed 1 1 ∷ []

copies_the_first_word : trace rewriter (thread 1 3 ∷ worker 1 2 ∷ []) ≡ Some (claimed ++ Copied 1 0 0 8314049735936992559 ∷ [])
copies_the_first_word = refl

-- a word is copied from the memory as it was at the beginning
copies_zeros : Lawful rewriter (claimed ++ Copied 1 0 0 0 ∷ []) → ⊥
copies_zeros l = unequal 0 8314049735936992559 refl l.0.word_is

-- ---- stale answers

-- the thread is killed after all its words and lookups are taken
abbrev killed : List Entry
killed =
    Stored 1 0 112353935717423 ∷ Entered 1 Open (regs 0 0 0) (Held 1) ∷ Claimed 1 1 ∷ Copied 1 0 0 112353935717423 ∷
    Looked 1 0 (name "/tmp") Dir ∷ Looked 1 0 (name "/tmp/f") File ∷
    Entered 2 Kill (regs 1 9 0) Untraced ∷
    Used 2 None Kill (regs 1 9 0) (arg Pid 0 "1" ∷ arg Signum 0 "9" ∷ []) root (Value 0) (Dying 1 ∷ []) ∷ []

answers_too_late_for_the_thread : trace killer (thread 1 2 ∷ worker 1 4 ∷ thread 2 2 ∷ worker 1 1 ∷ [])
    ≡ Some (killed ++ Answered 1 (cat_copies 1 user "/tmp/f") (Permit 1 user) false ∷ [])
unfolding digits
answers_too_late_for_the_thread = refl

-- the answer is applied though the thread is dying
counts_for_a_dying_thread : Lawful killer (killed ++ Answered 1 (cat_copies 1 user "/tmp/f") (Permit 1 user) true ∷ []) → ⊥
counts_for_a_dying_thread l = not_false l.0.applied_is

-- ids are set: each other held call is renewed
abbrev ids_set : List Change → List Entry
ids_set changes =
    Entered 2 SetUid (regs 1000 0 0) Fast ∷
    Used 2 None SetUid (regs 1000 0 0) (arg Uid 0 "1000" ∷ []) root (Value 0) (SetIds set_ids ∷ changes) ∷ []

-- the ids are set after all words are copied
abbrev renewed_early : List Entry
renewed_early = passwd_copied ++ ids_set (Renewed 1 2 ∷ [])

answers_too_late_for_the_number : trace setter (thread 1 3 ∷ worker 1 5 ∷ thread 2 2 ∷ worker 1 1 ∷ [])
    ≡ Some (renewed_early ++ Answered 1 (cat_copies 1 root "/etc/passwd") (Permit 1 root) false ∷ [])
unfolding digits
answers_too_late_for_the_number = refl

-- the answer is applied though it is for the old number
counts_for_an_old_number : Lawful setter (renewed_early ++ Answered 1 (cat_copies 1 root "/etc/passwd") (Permit 1 root) true ∷ []) → ⊥
counts_for_an_old_number l = not_false l.0.applied_is

-- the ids are set after the answer
abbrev renewed : List Entry
renewed = root_permitted ++ ids_set (Renewed 1 2 ∷ [])

is_judged_again : trace setter (thread 1 3 ∷ worker 1 6 ∷ thread 2 2 ∷ worker 1 1 ∷ []) ≡ Some (renewed ++ Claimed 1 2 ∷ [])
unfolding digits
is_judged_again = refl

-- the thread goes on by the old answer under the old number
goes_on_under_the_old_number : (result : CallResult) (changes : List Change) → Lawful setter (
    renewed ++ Used 1 (Some 1) Open (regs 0 0 0) (filename "/etc/passwd") root result changes ∷ []) → ⊥
goes_on_under_the_old_number result changes l = unequal 2 1 refl l.0.held.number

-- the thread goes on by the old answer under the new number
goes_on_under_the_new_number : (result : CallResult) (changes : List Change) → Lawful setter (
    renewed ++ Used 1 (Some 2) Open (regs 0 0 0) (filename "/etc/passwd") root result changes ∷ []) → ⊥
goes_on_under_the_new_number result changes l = not_true l.0.permitted.judged.answered

-- the ids are set while the open waits for a worker
abbrev waiting : List Entry
waiting = Stored 1 0 8314049735936992559 ∷ Stored 1 1 6584179 ∷ Entered 1 Open (regs 0 0 0) (Held 1) ∷ []

renews_what_waits : trace setter (thread 1 3 ∷ thread 2 2 ∷ []) ≡ Some (waiting ++ ids_set (Renewed 1 2 ∷ []))
unfolding digits
renews_what_waits = refl

-- nothing is renewed
renews_nothing : Lawful setter (waiting ++ ids_set []) → ⊥
unfolding digits
renews_nothing l = not_empty (Renewed 1 2) [] (ap (drop 1) l.0.outcome.1.changes_are)

-- ---- filters

-- two filters hold of a name, and the first refuses it
abbrev denied : List Entry
denied = passwd_copied ++ Answered 1 (cat_copies 1 user "/etc/passwd") (Refuse 1 EPERM) true ∷ []

the_first_filter_decides : trace etc_denier (thread 1 3 ∷ worker 1 6 ∷ thread 1 1 ∷ [])
    ≡ Some (denied ++ Denied 1 (Some 1) EPERM (cause.Filter 1) ∷ [])
the_first_filter_decides = refl

-- the last filter that holds decides: in the answer
answers_by_the_last_filter : Lawful etc_denier (
    passwd_copied ++ Answered 1 (cat_copies 1 user "/etc/passwd") (Permit 2 user) true ∷ []) → ⊥
answers_by_the_last_filter l = not_permit 1 2 EPERM user (sym l.0.verdict_is)

-- the last filter that holds decides: when the call is made
uses_by_the_last_filter : (result : CallResult) (changes : List Change) → Lawful etc_denier (
    denied ++ Used 1 (Some 1) Open (regs 0 0 0) (filename "/etc/passwd") user result changes ∷ []) → ⊥
uses_by_the_last_filter result changes l = not_permit 1 l.0.permitted.filter EPERM user
    (said_of (decision_in etc_denier (looking_back etc_denier (reverse denied))) (cat_copies 1 user "/etc/passwd") l.0.copies
    (Refuse 1 EPERM) (Permit l.0.permitted.filter user) l.0.permitted.judged.copies refl l.0.permitted.permitted)

same_ids : (n m : ℕ) (granted other : Ids) → Permit n granted ≡ Permit m other → granted ≡ other
same_ids n m granted other e = cc

-- equal permits grant equal ids
euid_of : (n m : ℕ) (granted other : Ids) → Permit n granted ≡ Permit m other → granted.euid ≡ other.euid
euid_of n m granted other e = ap (λ x. x.euid) (same_ids n m granted other e)

-- a bind is made as root, and the next is permitted without a grant
abbrev bound_twice : List Entry
bound_twice = bound ++ bound_again

the_grant_is_over : trace server (thread 1 7 ∷ worker 1 3 ∷ thread 1 2 ∷ worker 1 3 ∷ thread 1 1 ∷ [])
    ≡ Some (bound_twice ++ Used 1 (Some 2) Bind (regs 4 8 16) (port "inet-[0.0.0.0]:81") www (Failed EACCES) [] ∷ [])
unfolding digits
the_grant_is_over = refl

-- ids that were granted to one call are kept for the next
keeps_the_grant : (result : CallResult) (changes : List Change) → Lawful server (
    bound_twice ++
    Used 1 (Some 2) Bind (regs 4 8 16) (port "inet-[0.0.0.0]:81") (ids 30 0 30 30) result changes ∷ []) → ⊥
unfolding digits
keeps_the_grant result changes l = unequal 30 0 refl
    (euid_of 2 l.0.permitted.filter www (ids 30 0 30 30)
    (said_of (decision_in server (looking_back server (reverse bound_twice)))
    (copies 2 1 www "/bin/www" (Rule.Call Bind) Bind (regs 4 8 16) (port "inet-[0.0.0.0]:81")) l.0.copies
    (Permit 2 www) (Permit l.0.permitted.filter (ids 30 0 30 30)) l.0.permitted.judged.copies refl l.0.permitted.permitted))

-- the first bind waits for its answer
abbrev bind_copied : List Entry
bind_copied = take 9 bound

a_user_is_granted : trace server (thread 1 7 ∷ worker 1 3 ∷ []) ≡ Some (
    bind_copied ++
    Answered 1 (copies 1 1 www "/bin/www" (Rule.Call Bind) Bind (regs 3 0 16) (port "inet-[0.0.0.0]:80")) (Permit 1 (ids 30 0 30 30)) true ∷ [])
unfolding digits
a_user_is_granted = refl

-- a grant of a user alone grants the group too
grants_the_group_too : Lawful server (
    bind_copied ++
    Answered 1 (copies 1 1 www "/bin/www" (Rule.Call Bind) Bind (regs 3 0 16) (port "inet-[0.0.0.0]:80")) (Permit 1 (ids 30 0 30 0)) true ∷ []) → ⊥
unfolding digits
grants_the_group_too l = unequal 0 30 refl (ap (λ x. x.egid) (same_ids 1 1 (ids 30 0 30 0) (ids 30 0 30 30) l.0.verdict_is))

-- ---- learning

-- a call that no filter decides is a question
abbrev asked : List Entry
asked = passwd_copied ++ Answered 1 (cat_copies 1 user "/etc/passwd") Unmatched true ∷ []

learns_the_next_number : trace learner (thread 1 3 ∷ worker 1 6 ∷ operator 1 ∷ []) ≡ Some (asked ++ Learned 1 1 ∷ [])
learns_the_next_number = refl

-- the learnt filter has a wrong number
learns_a_wrong_number : Lawful learner (asked ++ Learned 1 2 ∷ []) → ⊥
learns_a_wrong_number l =
    let count : Snapshot → ℕ = filter_count learner (looking_back learner (reverse asked)) in
    unequal 2 1 refl (l.0.asked.number ∙ ap suc (sym
    (said_of count (cat_copies 1 user "/etc/passwd") l.0.copies 0 (count l.0.copies) l.0.asked.copies refl refl)))

-- a name that is a link is opened and learnt, and then the name that it leads to is opened
abbrev both_opener : Input
both_opener = asking_input Learn (etc_files ++ tmp_dir ∷ link "/tmp/l" 0 0 "/etc/passwd" ∷ [])
    (thread_in 1 (opens "/tmp/l" ++ opens "/etc/passwd") ∷ []) []

abbrev both_answered : List Entry
both_answered =
    Stored 1 0 118951005484079 ∷ Entered 1 Open (regs 0 0 0) (Held 1) ∷ Claimed 1 1 ∷ Copied 1 0 0 118951005484079 ∷
    Looked 1 0 (name "/tmp") Dir ∷ Looked 1 0 (name "/tmp/l") (seen.Link (codes "/etc/passwd")) ∷
    Looked 1 0 (name "/etc") Dir ∷ Looked 1 0 (name "/etc/passwd") File ∷
    Answered 1 (cat_copies 1 user "/etc/passwd") Unmatched true ∷ Learned 1 1 ∷ opened 1 "/etc/passwd" user 3 ∷
    Stored 1 0 8314049735936992559 ∷ Stored 1 1 6584179 ∷ Entered 1 Open (regs 0 0 0) (Held 2) ∷ Claimed 1 2 ∷
    Copied 2 0 0 8314049735936992559 ∷ Copied 2 0 1 6584179 ∷
    Looked 2 0 (name "/etc") Dir ∷ Looked 2 0 (name "/etc/passwd") File ∷
    Answered 1 (cat_copies 2 user "/etc/passwd") Unmatched true ∷ []

the_learnt_name_is_permitted : trace both_opener (thread 1 2 ∷ worker 1 7 ∷ operator 1 ∷ thread 1 4 ∷ worker 1 6 ∷ thread 1 1 ∷ [])
    ≡ Some (both_answered ++ opened 2 "/etc/passwd" user 4 ∷ [])
the_learnt_name_is_permitted = refl

-- the first name is learnt as it was written, so that the second is a question
learns_the_name_as_written : Lawful both_opener (both_answered ++ Learned 2 2 ∷ []) → ⊥
learns_the_name_as_written l = not_true l.0.asked.question

-- the first name is learnt as it was written, so that the second is denied
denies_the_name_as_written : Lawful both_opener (both_answered ++ Denied 1 (Some 2) EPERM NoFilter ∷ []) → ⊥
denies_the_name_as_written l = permit_decides 1 user
    (said_of (decision_in both_opener (looking_back both_opener (reverse both_answered))) (cat_copies 2 user "/etc/passwd")
    l.0.cause_is.0 (Permit 1 user) Unmatched l.0.cause_is.1.copies refl l.0.cause_is.2)

-- ---- denials

-- each denial says that no filter decides: here although a filter refuses
hides_the_filter : Lawful etc_denier (denied ++ Denied 1 (Some 1) EPERM NoFilter ∷ []) → ⊥
hides_the_filter l = not_unmatched 1 EPERM
    (said_of (decision_in etc_denier (looking_back etc_denier (reverse denied))) (cat_copies 1 user "/etc/passwd") l.0.cause_is.0
    (Refuse 1 EPERM) Unmatched l.0.cause_is.1.copies refl l.0.cause_is.2)

tells_the_bar : trace barred (thread 1 2 ∷ []) ≡ Some (Entered 1 GetUid (regs 0 0 0) (Barred 1) ∷ Denied 1 None EPERM (cause.Filter 1) ∷ [])
tells_the_bar = refl

filter_decides : (n : ℕ) → NoFilter ≡ cause.Filter n → ⊥
filter_decides n e = cc

-- here although a call is barred
hides_the_bar : Lawful barred (Entered 1 GetUid (regs 0 0 0) (Barred 1) ∷ Denied 1 None EPERM NoFilter ∷ []) → ⊥
hides_the_bar l = filter_decides 1 l.0.cause_is

-- here although a name is faulty
abbrev faulted : List Entry
faulted = Entered 1 Open (regs 0 0 0) (Held 1) ∷ Claimed 1 1 ∷ Copied 1 0 0 0 ∷ Faulted 1 ENOENT ∷ []

tells_the_fault : trace nameless (thread 1 1 ∷ worker 1 3 ∷ thread 1 1 ∷ []) ≡ Some (faulted ++ Denied 1 (Some 1) ENOENT cause.Fault ∷ [])
tells_the_fault = refl

hides_the_fault : Lawful nameless (faulted ++ Denied 1 (Some 1) EPERM NoFilter ∷ []) → ⊥
hides_the_fault l = not_none ENOENT l.0.cause_is.1.unfaulted

-- neither of two false alternatives holds
neither : {A : Type 0} {left : List A} {P : Type 0} (dying : Bool) → dying ≡ false → (a : A) → left ≡ a ∷ [] → (dying ≡ true) ⊎ ((left ≡ []) × P) → ⊥
neither dying d a f (inl e) = cc
neither dying d a f (inr e) = let g = e.0 in cc

goes_on_after_a_denial : trace barred (thread 1 3 ∷ []) ≡ Some (
    Entered 1 GetUid (regs 0 0 0) (Barred 1) ∷ Denied 1 None EPERM (cause.Filter 1) ∷ Entered 1 Exit (regs 0 0 0) Fast ∷ [])
goes_on_after_a_denial = refl

-- a thread ends after its first denial
ends_after_a_denial : Lawful barred (
    Entered 1 GetUid (regs 0 0 0) (Barred 1) ∷ Denied 1 None EPERM (cause.Filter 1) ∷ Ended 1 ∷ []) → ⊥
ends_after_a_denial l = neither false refl (call Exit 0 0 0) refl l.0.over

-- ---- ways

permits_itself : answer.Permit ≡ answer.Ask → ⊥
permits_itself e = cc

asks : answer.Ask ≡ answer.Permit → ⊥
asks e = cc

-- each call is held
holds_each_call : Lawful (maker GetPid (permits (Rule.Call GetPid))) (Entered 1 GetPid (regs 0 0 0) (Held 1) ∷ []) → ⊥
holds_each_call l = permits_itself l.0.way_is.2

-- first filters that log, that have a predicate, and that have a grant
abbrev logging : Input
logging = maker GetPid (logged (permits (Rule.Call GetPid)))

abbrev asking : Input
asking = maker GetPid (only_if (record { who = who.User; cmp = cmp.Same; id = 0 }) (permits (Rule.Call GetPid)))

abbrev granting_ids : Input
granting_ids = maker GetPid (granting (Some 5) None (permits (Rule.Call GetPid)))

such_calls_are_held : map (λ i. trace i (thread 1 1 ∷ [])) (logging ∷ asking ∷ granting_ids ∷ []) ≡
    replicate 3 (Some (Entered 1 GetPid (regs 0 0 0) (Held 1) ∷ []))
such_calls_are_held = refl

-- a call with such a filter is fast
is_fast_and_logs : Lawful logging (Entered 1 GetPid (regs 0 0 0) Fast ∷ []) → ⊥
is_fast_and_logs l = asks l.0.way_is.1

is_fast_and_asks_for_ids : Lawful asking (Entered 1 GetPid (regs 0 0 0) Fast ∷ []) → ⊥
is_fast_and_asks_for_ids l = asks l.0.way_is.1

is_fast_and_grants_ids : Lawful granting_ids (Entered 1 GetPid (regs 0 0 0) Fast ∷ []) → ⊥
is_fast_and_grants_ids l = asks l.0.way_is.1

-- ---- lookups

abbrev copied_name : List Entry
copied_name = claimed ++ Copied 1 0 0 8314049735936992559 ∷ Copied 1 0 1 6584179 ∷ []

sees_a_directory : trace rewriter (thread 1 3 ∷ worker 1 4 ∷ []) ≡ Some (copied_name ++ Looked 1 0 (name "/etc") Dir ∷ [])
sees_a_directory = refl

not_file : File ≡ Dir → ⊥
not_file e = cc

not_missing : Missing ≡ Dir → ⊥
not_missing e = cc

-- a file or nothing is seen in place of the directory
sees_a_file : Lawful rewriter (copied_name ++ Looked 1 0 (name "/etc") File ∷ []) → ⊥
sees_a_file l = not_file l.0.seen_is

sees_nothing : Lawful rewriter (copied_name ++ Looked 1 0 (name "/etc") Missing ∷ []) → ⊥
sees_nothing l = not_missing l.0.seen_is

-- ---- the record of a call

abbrev value_of : CallResult → ℕ
value_of (Value n) = n
value_of (Failed errno) = 0

abbrev plain : Input
plain = maker GetPid (permits (Rule.Call GetPid))

shows_its_process : trace plain (thread 1 2 ∷ []) ≡ Some (Entered 1 GetPid (regs 0 0 0) Fast ∷ Used 1 None GetPid (regs 0 0 0) [] root (Value 1) [] ∷ [])
shows_its_process = refl

-- a fast call is made under other ids, or gives another number
made_under_other_ids : Lawful plain (Entered 1 GetPid (regs 0 0 0) Fast ∷ Used 1 None GetPid (regs 0 0 0) [] user (Value 1) [] ∷ []) → ⊥
made_under_other_ids l = unequal 1000 0 refl (ap (λ x. x.euid) l.0.identity)

gives_another_number : Lawful plain (Entered 1 GetPid (regs 0 0 0) Fast ∷ Used 1 None GetPid (regs 0 0 0) [] root (Value 2) [] ∷ []) → ⊥
gives_another_number l = unequal 2 1 refl (ap value_of l.0.outcome.1.result_is)

-- a held call gives another descriptor, or makes a change that isn't its own
gives_another_descriptor : Lawful rewriter (rewritten_late ++ opened 1 "/etc/passwd" user 4 ∷ []) → ⊥
gives_another_descriptor l = unequal 4 3 refl (ap value_of l.0.outcome.result_is)

removes_what_it_opens : Lawful rewriter (
    rewritten_late ++ Used 1 (Some 1) Open (regs 0 0 0) (filename "/etc/passwd") user (Value 3) (Removed (name "/etc/passwd") ∷ []) ∷ []) → ⊥
removes_what_it_opens l = not_empty (Removed (name "/etc/passwd")) [] (sym l.0.outcome.changes_are)

-- a call whose name is faulty records its name
abbrev fast_nameless : Input
fast_nameless = cat_input (permits FsRead ∷ []) etc_files (thread_in 1 (call Open 0 0 0 ∷ []) ∷ [])

shows_no_faulty_name : trace fast_nameless (thread 1 2 ∷ []) ≡ Some (Entered 1 Open (regs 0 0 0) Fast ∷ Used 1 None Open (regs 0 0 0) [] user (Failed ENOENT) [] ∷ [])
shows_no_faulty_name = refl

shows_a_faulty_name : Lawful fast_nameless (Entered 1 Open (regs 0 0 0) Fast ∷ Used 1 None Open (regs 0 0 0) (filename "/x") user (Failed ENOENT) [] ∷ []) → ⊥
shows_a_faulty_name l = not_empty (arg Filename 0 "/x") [] (sym l.0.outcome.args_are)

-- ---- denials with other errors

not_eacces : EACCES ≡ EPERM → ⊥
not_eacces e = cc

not_eperm : EPERM ≡ ELOOP → ⊥
not_eperm e = cc

abbrev undecided : Input
undecided = maker GetPid (when (Rule.Call GetPid) (Not True) action.Permit)

abbrev unmatched : List Entry
unmatched = Entered 1 GetPid (regs 0 0 0) (Held 1) ∷ Claimed 1 1 ∷ Answered 1 (copies 1 1 root "/bin/a" (Rule.Call GetPid) GetPid (regs 0 0 0) []) Unmatched true ∷ []

denies_with_eperm : trace undecided (thread 1 1 ∷ worker 1 2 ∷ thread 1 1 ∷ []) ≡ Some (unmatched ++ Denied 1 (Some 1) EPERM NoFilter ∷ [])
denies_with_eperm = refl

denies_with_another_error : Lawful undecided (unmatched ++ Denied 1 (Some 1) EACCES NoFilter ∷ []) → ⊥
denies_with_another_error l = not_eacces l.0.cause_is.4

denies_a_link_with_another_error : Lawful linker (linked_late ++ Denied 1 (Some 1) EPERM (cause.Link (name "/tmp/f")) ∷ []) → ⊥
denies_a_link_with_another_error l = not_eperm l.0.cause_is.4

-- ---- ends

-- neither of two alternatives holds while a call is pending
unended : {A : Type 0} {P : Type 0} (dying : Bool) → dying ≡ false → (a : A) (pending : Option A) → pending ≡ Some a → (dying ≡ true) ⊎ (P × (pending ≡ None)) → ⊥
unended dying d a pending e (inl x) = cc
unended dying d a pending e (inr x) = let none = x.1 in cc

-- a thread ends while its last call waits for an answer
ends_with_a_call_pending : Lawful nameless (Entered 1 Open (regs 0 0 0) (Held 1) ∷ Ended 1 ∷ []) → ⊥
ends_with_a_call_pending l =
    let waiting : PendingCall = record { call = Open; regs = regs 0 0 0; way = Held 1; child = 0 } in unended false refl waiting (Some waiting) refl l.0.over

-- ---- the operator

-- the script has two replies for one question
abbrev two_replies : Input
two_replies = asking_input AskText etc_files (thread_in 1 (opens "/etc/passwd") ∷ []) (reply "/bin/cat" passwd_only ∷ reply "/bin/cat" passwd_only ∷ [])

gives_the_first_reply : trace two_replies (thread 1 3 ∷ worker 1 6 ∷ operator 1 ∷ []) ≡ Some (asked ++ Replied 1 1 1 ∷ [])
gives_the_first_reply = refl

abbrev left_in : Input → ℕ → Snapshot → Bool
left_in i r s = is_reply_left i (looking_back i (reverse asked)) s.policy s.rule r

-- the second reply is given first
gives_a_later_reply : Lawful two_replies (asked ++ Replied 1 2 1 ∷ []) → ⊥
gives_a_later_reply l = not_false (said_of (left_in two_replies 1) (cat_copies 1 user "/etc/passwd") l.0.copies true false
    l.0.asked.copies refl (l.0.first 1 (omega arith) (omega arith)))

-- a reply for another binary is given
abbrev other_reply : Input
other_reply = asking_input AskText etc_files (thread_in 1 (opens "/etc/passwd") ∷ []) (reply "/bin/sh" passwd_only ∷ reply "/bin/cat" passwd_only ∷ [])

gives_the_reply_of_its_binary : trace other_reply (thread 1 3 ∷ worker 1 6 ∷ operator 1 ∷ []) ≡ Some (asked ++ Replied 1 2 1 ∷ [])
gives_the_reply_of_its_binary = refl

gives_a_reply_of_another_binary : Lawful other_reply (asked ++ Replied 1 1 1 ∷ []) → ⊥
gives_a_reply_of_another_binary l = not_true (said_of (left_in other_reply 1) (cat_copies 1 user "/etc/passwd") l.0.copies false true
    l.0.asked.copies refl l.0.there)

-- the operator learns where it has to reply, and replies where it has to learn
not_learning : AskText ≡ Learn → ⊥
not_learning e = cc

not_asking : Learn ≡ AskText → ⊥
not_asking e = cc

learns_where_it_replies : Lawful two_replies (asked ++ Learned 1 1 ∷ []) → ⊥
learns_where_it_replies l = not_learning l.0.mode

replies_where_it_learns : Lawful learner (asked ++ Replied 1 1 1 ∷ []) → ⊥
replies_where_it_learns l = not_asking l.0.mode
