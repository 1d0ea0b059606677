-- Races: the other thread's steps are inserted after each number of entries of the first thread's call in turn. What is judged, and how
-- calls end, was derived from the rules.
use Rattle.std.proofs.Common.{◌≡◌, ℕ, true, List, [], ◌∷◌, ◌++◌, Some, None, refl, ◌+◌}
use Rattle.std.specs.Fmt.{digits}
use Rattle.std.specs.Prelude.{Option, map, filter, take, replicate, not, ◌==◌}
use Rattle.st_base.specs.declared.errno.Errno.TheVariants.{EPERM, ENOENT, ELOOP}
use Rattle.st_calls.specs.declared.argument.Label.TheVariants.{Uid}
use Rattle.st_calls.specs.declared.call.SysCall.TheVariants.{SetUid}
use Rattle.st_calls.specs.declared.judged.Verdict.TheVariants.{Permit, Unmatched}
use Rattle.st_trace.specs.declared.entry.CallResult.TheVariants.{Value}
use Rattle.st_trace.specs.declared.entry.Cause.TheVariants.{NoFilter}
use Rattle.st_trace.specs.declared.entry.Cause.TheVariants as cause
use Rattle.st_trace.specs.declared.entry.Change.TheVariants.{SetIds, Renewed}
use Rattle.st_trace.specs.declared.entry.Entry.TheVariants.{Faulted, Answered, Used, Denied}
use Rattle.st_trace.specs.declared.entry.Choice.{Choice}
use Rattle.st_trace.specs.declared.entry.Choice.TheVariants as choice
use Rattle.st_trace.specs.declared.entry.Entry.{Entry}
use Rattle.st_trace.specs.declared.entry.Change.{Change}
use Rattle.st_law.specs.declared.input.ScheduleLine.{ScheduleLine}
use Rattle.st_law.specs.Threads.{thread_of}
use Rattle.st_law.proofs.Writing.{name, regs, line, rest, trace, arg}
use Rattle.st_law.proofs.HeldRuns.{rewriter}
use Rattle.st_law.proofs.LinkRuns.{linker}
use Rattle.st_law.proofs.ProcessRuns.{killer, setter, set_ids}
use Rattle.st_law.proofs.Scripts.{user, root, cat_copies, opened, calls_of, judgements_of, entry_count}

-- the first `count` of these choices, then the others, then the first enabled choice, again and again
abbrev put_in_after : List Choice → List Choice → ℕ → List ScheduleLine
put_in_after alone others count = map (λ c. line c 1) (take count alone ++ others) ++ rest ∷ []

-- thread 1 stores `stores` words and enters its call, a worker judges it in `steps` steps, and thread 1 makes it and ends
abbrev alone : ℕ → ℕ → List Choice
alone stores steps = replicate (stores + 1) (choice.Thread 1) ++ replicate steps (choice.Worker 1) ++ replicate 2 (choice.Thread 1)

-- `count` steps of thread 2
abbrev other : ℕ → List Choice
other count = replicate count (choice.Thread 2)

-- the entries that thread 2 didn't make
abbrev without_other : List Entry → List Entry
without_other entries = filter (λ e. not (thread_of e == 2)) entries

-- ---- the name is rewritten

abbrev rewritten_after : ℕ → List Entry
rewritten_after count = judgements_of (trace rewriter (put_in_after (alone 2 6) (other 2) count))

-- rewritten before the first store, or after the last word is copied: the first thread's name is judged
the_name_is_not_rewritten_in_time : map rewritten_after (0 ∷ 6 ∷ 7 ∷ 8 ∷ 9 ∷ 10 ∷ 11 ∷ []) ≡
    replicate 7 (Answered 1 (cat_copies 1 user "/etc/passwd") (Permit 1 user) true ∷ opened 1 "/etc/passwd" user 3 ∷ [])
the_name_is_not_rewritten_in_time = refl

-- rewritten between the stores: words of both names are judged
the_stores_are_mixed : map rewritten_after (1 ∷ []) ≡
    replicate 1 (Answered 1 (cat_copies 1 user "/etc/spwswd") Unmatched true ∷ Denied 1 (Some 1) EPERM NoFilter ∷ [])
the_stores_are_mixed = refl

-- rewritten after the stores, before a word is copied: the other thread's name is judged
the_name_is_rewritten_before_it_is_copied : map rewritten_after (2 ∷ 3 ∷ 4 ∷ []) ≡
    replicate 3 (Answered 1 (cat_copies 1 user "/etc/spwd") Unmatched true ∷ Denied 1 (Some 1) EPERM NoFilter ∷ [])
the_name_is_rewritten_before_it_is_copied = refl

-- rewritten between the copied words: the copy is torn
the_copy_is_torn : map rewritten_after (5 ∷ []) ≡
    replicate 1 (Answered 1 (cat_copies 1 user "/etc/pasd") Unmatched true ∷ Denied 1 (Some 1) EPERM NoFilter ∷ [])
the_copy_is_torn = refl

-- ---- a link is put in place

abbrev linked_after : ℕ → List Entry
linked_after count = without_other (judgements_of (trace linker (put_in_after (alone 1 5) (other 7) count)))

-- before the file is looked up: the link is resolved, and leads to a directory that is missing
the_link_is_looked_at : map linked_after (0 ∷ 1 ∷ 2 ∷ 3 ∷ 4 ∷ 5 ∷ []) ≡
    replicate 6 (Faulted 1 ENOENT ∷ Denied 1 (Some 1) ENOENT cause.Fault ∷ [])
the_link_is_looked_at = refl

-- after the file is looked up, before the call is made: the link is in the way
the_link_is_met : map linked_after (6 ∷ 7 ∷ []) ≡
    replicate 2 (Answered 1 (cat_copies 1 user "/tmp/f") (Permit 1 user) true ∷ Denied 1 (Some 1) ELOOP (cause.Link (name "/tmp/f")) ∷ [])
the_link_is_met = refl

-- after the call is made
the_link_is_late : map linked_after (8 ∷ 9 ∷ []) ≡
    replicate 2 (Answered 1 (cat_copies 1 user "/tmp/f") (Permit 1 user) true ∷ opened 1 "/tmp/f" user 3 ∷ [])
the_link_is_late = refl

-- ---- the process is killed

abbrev killed_after : ℕ → Option (List Entry)
killed_after count = trace killer (put_in_after (alone 1 5) (other 2) count)

-- before the call is made: it is neither made nor denied
no_call_is_made : map (λ n. without_other (calls_of (killed_after n))) (0 ∷ 1 ∷ 2 ∷ 3 ∷ 4 ∷ 5 ∷ 6 ∷ 7 ∷ []) ≡ replicate 8 []
no_call_is_made = refl

-- besides the entries before it: its own two, and two that end the threads; once all words are copied, also an answer
entries_of_the_killed : map (λ n. entry_count (killed_after n)) (0 ∷ 1 ∷ 2 ∷ 3 ∷ 4 ∷ 5 ∷ 6 ∷ 7 ∷ []) ≡
    4 ∷ 5 ∷ 6 ∷ 7 ∷ 8 ∷ 9 ∷ 11 ∷ 11 ∷ []
entries_of_the_killed = refl

the_kill_is_late : map (λ n. without_other (calls_of (killed_after n))) (8 ∷ 9 ∷ []) ≡ replicate 2 (opened 1 "/tmp/f" user 3 ∷ [])
the_kill_is_late = refl

entries_where_the_kill_is_late : map (λ n. entry_count (killed_after n)) (8 ∷ 9 ∷ []) ≡ 12 ∷ 12 ∷ []
entries_where_the_kill_is_late = refl

-- ---- ids are set

abbrev set_after : ℕ → List Entry
set_after count = calls_of (trace setter (put_in_after (alone 2 6) (other 2) count))

-- the call that sets ids, with these changes
abbrev setting : List Change → Entry
setting changes = Used 2 None SetUid (regs 1000 0 0) (arg Uid 0 "1000" ∷ []) root (Value 0) changes

-- before the open is held: nothing is renewed
ids_are_set_before : map set_after (0 ∷ 1 ∷ 2 ∷ []) ≡
    replicate 3 (setting (SetIds set_ids ∷ []) ∷ Denied 1 (Some 1) EPERM NoFilter ∷ [])
unfolding digits
ids_are_set_before = refl

-- while the open is held: it is renewed, and judged with the new ids
ids_are_set_while_held : map set_after (3 ∷ 4 ∷ 5 ∷ 6 ∷ 7 ∷ 8 ∷ 9 ∷ []) ≡
    replicate 7 (setting (SetIds set_ids ∷ Renewed 1 2 ∷ []) ∷ Denied 1 (Some 2) EPERM NoFilter ∷ [])
unfolding digits
ids_are_set_while_held = refl

-- after the open is made
ids_are_set_after : map set_after (10 ∷ 11 ∷ []) ≡
    replicate 2 (opened 1 "/etc/passwd" root 3 ∷ setting (SetIds set_ids ∷ []) ∷ [])
unfolding digits
ids_are_set_after = refl
