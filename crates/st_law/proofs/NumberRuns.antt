-- Small circles of numbers, computed: each check is for one word of a definition, and would fail with another word in its place.
use Rattle.std.proofs.Common.{◌≡◌, get_or, refl}
use Rattle.std.specs.Fmt.{digits}
use Rattle.std.specs.List.{range_with_len}
use Rattle.std.specs.Prelude.{ℕ, suc, ◌+◌, Bool, true, false, ◌||◌, ◌==◌, if◌then◌else◌, List, [], ◌∷◌, map, length, Option, Some, None}
use Rattle.st_base.specs.declared.errno.Errno.TheVariants.{E2BIG, EPERM}
use Rattle.st_calls.specs.declared.argument.Label.TheVariants.{Uid}
use Rattle.st_calls.specs.declared.call.SysCall.TheVariants.{GetPid, Open, SetUid}
use Rattle.st_calls.specs.declared.judged.Snapshot.{Snapshot}
use Rattle.st_calls.specs.declared.judged.Verdict.TheVariants.{Permit, Unmatched}
use Rattle.st_calls.specs.declared.rule.Rule.TheVariants as Rule
use Rattle.st_names.specs.declared.seen.SeenText.TheVariants.{Dir}
use Rattle.st_trace.specs.declared.entry.CallResult.TheVariants.{Value}
use Rattle.st_trace.specs.declared.entry.Cause.TheVariants.{NoFilter}
use Rattle.st_trace.specs.declared.entry.Change.{Change}
use Rattle.st_trace.specs.declared.entry.Change.TheVariants.{Renewed, SetIds}
use Rattle.st_trace.specs.declared.entry.Entry.{Entry}
use Rattle.st_trace.specs.declared.entry.Entry.TheVariants.{Stored, Entered, Claimed, Copied, Looked, Faulted, Answered, Used, Denied, Ended, Learned, Replied}
use Rattle.st_trace.specs.declared.entry.Way.TheVariants.{Fast, Held}
use Rattle.st_law.specs.declared.input.Input.{Input}
use Rattle.st_law.specs.declared.input.ScheduleLine.{ScheduleLine}
use Rattle.st_law.specs.declared.input.Mode.TheVariants.{Enforce}
use Rattle.st_law.specs.Numbers.{Numbers, next_number, numbers_after, numbered_in, drawn}
use Rattle.st_law.proofs.Scripts.{root}
use Rattle.st_law.proofs.Writing.{traced, thread_in, regs, call, policy, permits, logged, input, plainly, name, thread, worker, rest, trace, arg, copies}

-- ---- the search

-- whether a number is among these
abbrev is_among : List ℕ → ℕ → Bool
is_among [] n = false
is_among (m ∷ more) n = n == m || is_among more n

abbrev next_of_five : List ℕ → ℕ → ℕ
next_of_five taken last = next_number 5 (is_among taken) last

the_search_begins_after_the_last : map (next_of_five []) (0 ∷ 1 ∷ 2 ∷ 3 ∷ 4 ∷ 5 ∷ []) ≡ 1 ∷ 2 ∷ 3 ∷ 4 ∷ 5 ∷ 1 ∷ []
the_search_begins_after_the_last = refl

the_search_skips_what_is_taken : map (next_of_five (2 ∷ 3 ∷ 5 ∷ [])) (0 ∷ 1 ∷ 2 ∷ 3 ∷ 4 ∷ 5 ∷ []) ≡ 1 ∷ 4 ∷ 4 ∷ 4 ∷ 1 ∷ 1 ∷ []
the_search_skips_what_is_taken = refl

the_last_number_is_tried_at_the_end : map (next_of_five (1 ∷ 2 ∷ 4 ∷ 5 ∷ [])) (0 ∷ 1 ∷ 2 ∷ 3 ∷ 4 ∷ 5 ∷ []) ≡ 3 ∷ 3 ∷ 3 ∷ 3 ∷ 3 ∷ 3 ∷ []
the_last_number_is_tried_at_the_end = refl

no_number_is_left : map (next_of_five (1 ∷ 2 ∷ 3 ∷ 4 ∷ 5 ∷ [])) (0 ∷ 1 ∷ 2 ∷ 3 ∷ 4 ∷ 5 ∷ []) ≡ 0 ∷ 0 ∷ 0 ∷ 0 ∷ 0 ∷ 0 ∷ []
no_number_is_left = refl

-- ---- the changes of one entry, in a circle of five numbers of which three are in use

-- the drawings 1, 2 and 3 are in use, with these numbers
abbrev three : ℕ → ℕ → ℕ → Numbers
three a b c = record {
  last = 3;
  number_of = λ q. if q == 1 then a else if q == 2 then b else if q == 3 then c else 0;
  in_use = is_among (1 ∷ 2 ∷ 3 ∷ []);
}

-- the renewals of these drawings in order, as this drawing, the next one and so on
abbrev renewing : ℕ → List ℕ → List Change
renewing next [] = []
renewing next (old ∷ more) = Renewed old next ∷ renewing (suc next) more

abbrev making_as : Option ℕ → List Change → Entry
making_as seq changes = Used 1 seq GetPid [] [] root (Value 0) changes

abbrev making : List Change → Entry
making changes = making_as None changes

-- the numbers that renewals of these drawings draw, if workers keep those drawings
abbrev drawing_as : Option ℕ → List ℕ → Numbers → List ℕ → List ℕ
drawing_as seq kept numbers order =
    map (numbers_after 5 (is_among kept) numbers (making_as seq (renewing (suc numbers.last) order))).number_of (range_with_len (suc numbers.last) (length order))

abbrev drawing_with : List ℕ → Numbers → List ℕ → List ℕ
drawing_with kept numbers order = drawing_as None kept numbers order

abbrev orders : List (List ℕ)
orders = (1 ∷ 2 ∷ 3 ∷ []) ∷ (1 ∷ 3 ∷ 2 ∷ []) ∷ (2 ∷ 1 ∷ 3 ∷ []) ∷ (2 ∷ 3 ∷ 1 ∷ []) ∷ (3 ∷ 1 ∷ 2 ∷ []) ∷ (3 ∷ 2 ∷ 1 ∷ []) ∷ []

-- a renewed drawing keeps its number from its own new one, and leaves it to the next
a_replaced_number_is_free_for_the_next : map (drawing_with [] (three 1 2 3)) orders
    ≡ (4 ∷ 5 ∷ 1 ∷ []) ∷ (4 ∷ 5 ∷ 1 ∷ []) ∷ (4 ∷ 5 ∷ 1 ∷ []) ∷ (4 ∷ 5 ∷ 2 ∷ []) ∷ (4 ∷ 5 ∷ 1 ∷ []) ∷ (4 ∷ 5 ∷ 2 ∷ []) ∷ []
a_replaced_number_is_free_for_the_next = refl

numbers_above_are_in_use : map (drawing_with [] (three 4 5 3)) orders
    ≡ (1 ∷ 2 ∷ 4 ∷ []) ∷ (1 ∷ 2 ∷ 3 ∷ []) ∷ (1 ∷ 2 ∷ 4 ∷ []) ∷ (1 ∷ 2 ∷ 3 ∷ []) ∷ (1 ∷ 2 ∷ 3 ∷ []) ∷ (1 ∷ 2 ∷ 3 ∷ []) ∷ []
numbers_above_are_in_use = refl

numbers_at_the_end_and_the_begin_are_in_use : map (drawing_with [] (three 5 1 2)) orders
    ≡ (3 ∷ 4 ∷ 5 ∷ []) ∷ (3 ∷ 4 ∷ 5 ∷ []) ∷ (3 ∷ 4 ∷ 5 ∷ []) ∷ (3 ∷ 4 ∷ 1 ∷ []) ∷ (3 ∷ 4 ∷ 5 ∷ []) ∷ (3 ∷ 4 ∷ 1 ∷ []) ∷ []
numbers_at_the_end_and_the_begin_are_in_use = refl

-- the caller, which renews the others, has drawing 1
the_caller_keeps_its_number : map (drawing_as (Some 1) [] (three 1 4 5)) ((2 ∷ 3 ∷ []) ∷ (3 ∷ 2 ∷ []) ∷ []) ≡ (2 ∷ 3 ∷ []) ∷ (2 ∷ 3 ∷ []) ∷ []
the_caller_keeps_its_number = refl

-- a worker that is ready keeps drawing 1, 2 or 3
the_first_is_kept : map (drawing_with (1 ∷ []) (three 1 2 3)) orders
    ≡ (4 ∷ 5 ∷ 2 ∷ []) ∷ (4 ∷ 5 ∷ 3 ∷ []) ∷ (4 ∷ 5 ∷ 2 ∷ []) ∷ (4 ∷ 5 ∷ 2 ∷ []) ∷ (4 ∷ 5 ∷ 3 ∷ []) ∷ (4 ∷ 5 ∷ 2 ∷ []) ∷ []
the_first_is_kept = refl

the_second_is_kept : map (drawing_with (2 ∷ []) (three 1 2 3)) orders
    ≡ (4 ∷ 5 ∷ 1 ∷ []) ∷ (4 ∷ 5 ∷ 1 ∷ []) ∷ (4 ∷ 5 ∷ 1 ∷ []) ∷ (4 ∷ 5 ∷ 3 ∷ []) ∷ (4 ∷ 5 ∷ 1 ∷ []) ∷ (4 ∷ 5 ∷ 3 ∷ []) ∷ []
the_second_is_kept = refl

two_are_kept : map (drawing_with (1 ∷ 2 ∷ []) (three 1 2 3)) orders
    ≡ (4 ∷ 5 ∷ 0 ∷ []) ∷ (4 ∷ 5 ∷ 3 ∷ []) ∷ (4 ∷ 5 ∷ 0 ∷ []) ∷ (4 ∷ 5 ∷ 3 ∷ []) ∷ (4 ∷ 5 ∷ 3 ∷ []) ∷ (4 ∷ 5 ∷ 3 ∷ []) ∷ []
two_are_kept = refl

-- ---- twice round

-- the drawings of an order of the last three that were made
abbrev last_three : ℕ → List ℕ → List ℕ
last_three first order = map (λ q. first + q) order

-- the last three drawings that were made are in use, and are renewed in this order
abbrev all_renewed : List ℕ → ℕ → Numbers → Numbers
all_renewed order first numbers = numbers_after 5 (is_among []) (record numbers { in_use = is_among (last_three first (0 ∷ 1 ∷ 2 ∷ [])) }) (making (renewing (first + 3) (last_three first order)))

-- the numbers of fifteen drawings, of which three are in use at a time, by the order in which they are renewed
abbrev twice_round : List ℕ → List ℕ
twice_round order = map (all_renewed order 10 (all_renewed order 7 (all_renewed order 4 (all_renewed order 1 (three 1 2 3))))).number_of (range_with_len 1 15)

renewed_twice_round : map twice_round ((0 ∷ 1 ∷ 2 ∷ []) ∷ (0 ∷ 2 ∷ 1 ∷ []) ∷ (1 ∷ 0 ∷ 2 ∷ []) ∷ (1 ∷ 2 ∷ 0 ∷ []) ∷ (2 ∷ 0 ∷ 1 ∷ []) ∷ (2 ∷ 1 ∷ 0 ∷ []) ∷ [])
    ≡ (1 ∷ 2 ∷ 3 ∷ 4 ∷ 5 ∷ 1 ∷ 2 ∷ 3 ∷ 4 ∷ 5 ∷ 1 ∷ 2 ∷ 3 ∷ 4 ∷ 5 ∷ []) ∷
    (1 ∷ 2 ∷ 3 ∷ 4 ∷ 5 ∷ 1 ∷ 2 ∷ 3 ∷ 4 ∷ 5 ∷ 1 ∷ 2 ∷ 3 ∷ 4 ∷ 5 ∷ []) ∷
    (1 ∷ 2 ∷ 3 ∷ 4 ∷ 5 ∷ 1 ∷ 2 ∷ 3 ∷ 4 ∷ 5 ∷ 1 ∷ 2 ∷ 3 ∷ 4 ∷ 5 ∷ []) ∷
    (1 ∷ 2 ∷ 3 ∷ 4 ∷ 5 ∷ 2 ∷ 3 ∷ 5 ∷ 1 ∷ 2 ∷ 4 ∷ 5 ∷ 1 ∷ 3 ∷ 4 ∷ []) ∷
    (1 ∷ 2 ∷ 3 ∷ 4 ∷ 5 ∷ 1 ∷ 2 ∷ 3 ∷ 4 ∷ 5 ∷ 1 ∷ 2 ∷ 3 ∷ 4 ∷ 5 ∷ []) ∷
    (1 ∷ 2 ∷ 3 ∷ 4 ∷ 5 ∷ 2 ∷ 3 ∷ 1 ∷ 2 ∷ 4 ∷ 5 ∷ 1 ∷ 2 ∷ 3 ∷ 5 ∷ []) ∷ []
renewed_twice_round = refl

-- ---- from numbers to drawings

abbrev of_number : ℕ → Snapshot
of_number n = copies n 1 root "/bin/a" (Rule.Call GetPid) GetPid [] []

abbrev enters : ℕ → Entry
enters n = Entered 1 GetPid [] (Held n)

-- a number means the drawing that drew it last
a_number_comes_again : drawn (enters 1 ∷ enters 2 ∷ Claimed 1 1 ∷ enters 1 ∷ Claimed 1 1 ∷ Claimed 1 2 ∷ [])
    ≡ enters 1 ∷ enters 2 ∷ Claimed 1 1 ∷ enters 3 ∷ Claimed 1 3 ∷ Claimed 1 2 ∷ []
a_number_comes_again = refl

-- the number of no drawing means none
a_number_of_no_drawing : drawn (Claimed 1 1 ∷ enters 1 ∷ Claimed 1 2 ∷ []) ≡ Claimed 1 0 ∷ enters 1 ∷ Claimed 1 0 ∷ []
a_number_of_no_drawing = refl

-- an old number means its last drawing before the entry, whatever the entry draws
old_numbers_are_those_before_the_entry : drawn (enters 1 ∷ enters 2 ∷ making (Renewed 1 3 ∷ Renewed 2 1 ∷ Renewed 3 4 ∷ []) ∷ Claimed 1 1 ∷ Claimed 1 3 ∷ Claimed 1 4 ∷ [])
    ≡ enters 1 ∷ enters 2 ∷ making (Renewed 1 3 ∷ Renewed 2 4 ∷ Renewed 0 5 ∷ []) ∷ Claimed 1 4 ∷ Claimed 1 3 ∷ Claimed 1 5 ∷ []
old_numbers_are_those_before_the_entry = refl

-- each kind of entry that names a message
each_kind_of_entry : drawn (
    enters 7 ∷ Claimed 1 7 ∷ Copied 7 2 3 4 ∷ Looked 7 2 (name "/d") Dir ∷ Faulted 7 E2BIG ∷ Answered 2 (of_number 7) Unmatched true ∷
    Used 1 (Some 7) GetPid [] [] root (Value 0) [] ∷ Denied 1 (Some 7) EPERM NoFilter ∷ Replied 7 8 9 ∷ Learned 7 9 ∷
    Stored 7 7 7 ∷ Entered 7 GetPid [] Fast ∷ Ended 7 ∷ Used 7 None GetPid [] [] root (Value 7) [] ∷ [])
    ≡
    enters 1 ∷ Claimed 1 1 ∷ Copied 1 2 3 4 ∷ Looked 1 2 (name "/d") Dir ∷ Faulted 1 E2BIG ∷ Answered 2 (of_number 1) Unmatched true ∷
    Used 1 (Some 1) GetPid [] [] root (Value 0) [] ∷ Denied 1 (Some 1) EPERM NoFilter ∷ Replied 1 8 9 ∷ Learned 1 9 ∷
    Stored 7 7 7 ∷ Entered 7 GetPid [] Fast ∷ Ended 7 ∷ Used 7 None GetPid [] [] root (Value 7) [] ∷ []
each_kind_of_entry = refl

-- ---- a run in a circle of five numbers

-- thread 1 sets ids again and again, and so renews the calls that the others hold
abbrev setters : Input
setters = input (record { mode = Enforce; inherit = false; aliasing = true; ids = None; workers = 3 })
    (policy "/bin/a" (logged (permits (Rule.Call SetUid)) ∷ []) ∷ []) [] (traced "/bin/a" 0 0 "/" ∷ [])
    (thread_in 1 (call SetUid 0 0 0 ∷ call SetUid 0 0 0 ∷ call SetUid 0 0 0 ∷ []) ∷
    thread_in 1 (call GetPid 0 0 0 ∷ []) ∷ thread_in 1 (call GetPid 0 0 0 ∷ []) ∷ []) []

-- worker 1 keeps drawing 1 until drawing 8 is made, and worker 2 keeps drawing 5 to the end
abbrev keeping : List ScheduleLine
keeping =
    thread 2 1 ∷ thread 3 1 ∷ worker 1 1 ∷ thread 1 1 ∷ worker 2 4 ∷ thread 1 2 ∷ worker 3 2 ∷ worker 2 1 ∷ worker 3 2 ∷ thread 1 1 ∷ worker 1 1 ∷
    thread 1 1 ∷ rest ∷ []

abbrev asks : ℕ → Snapshot
asks q = copies q 1 root "/bin/a" (Rule.Call GetPid) GetPid (regs 0 0 0) []

abbrev sets : ℕ → Snapshot
sets q = copies q 1 root "/bin/a" (Rule.Call SetUid) SetUid (regs 0 0 0) (arg Uid 0 "0" ∷ [])

abbrev setting : ℕ → List Change → Entry
setting q renewed = Used 1 (Some q) SetUid (regs 0 0 0) (arg Uid 0 "0" ∷ []) root (Value 0) (SetIds root ∷ renewed)

-- the entries of the run, whose nine drawings have these names
abbrev entries : (ℕ → ℕ) → List Entry
entries q =
    Entered 2 GetPid (regs 0 0 0) (Held (q 1)) ∷
    Entered 3 GetPid (regs 0 0 0) (Held (q 2)) ∷
    Claimed 1 (q 1) ∷
    Entered 1 SetUid (regs 0 0 0) (Held (q 3)) ∷
    Claimed 2 (q 2) ∷
    Answered 2 (asks (q 2)) Unmatched true ∷
    Claimed 2 (q 3) ∷
    Answered 2 (sets (q 3)) (Permit 1 root) true ∷
    setting (q 3) (Renewed (q 1) (q 4) ∷ Renewed (q 2) (q 5) ∷ []) ∷
    Entered 1 SetUid (regs 0 0 0) (Held (q 6)) ∷
    Claimed 3 (q 4) ∷
    Answered 3 (asks (q 4)) Unmatched true ∷
    Claimed 2 (q 5) ∷
    Claimed 3 (q 6) ∷
    Answered 3 (sets (q 6)) (Permit 1 root) true ∷
    setting (q 6) (Renewed (q 4) (q 7) ∷ Renewed (q 5) (q 8) ∷ []) ∷
    Answered 1 (asks (q 1)) Unmatched false ∷
    Entered 1 SetUid (regs 0 0 0) (Held (q 9)) ∷
    Claimed 1 (q 7) ∷
    Answered 1 (asks (q 7)) Unmatched true ∷
    Denied 2 (Some (q 7)) EPERM NoFilter ∷
    Ended 2 ∷
    Claimed 1 (q 8) ∷
    Answered 1 (asks (q 8)) Unmatched true ∷
    Denied 3 (Some (q 8)) EPERM NoFilter ∷
    Ended 3 ∷
    Claimed 1 (q 9) ∷
    Answered 1 (sets (q 9)) (Permit 1 root) true ∷
    setting (q 9) [] ∷
    Ended 1 ∷
    Answered 2 (asks (q 5)) Unmatched false ∷ []

abbrev drawings : ℕ → ℕ
drawings q = q

-- drawing 6 skips number 1, which worker 1 keeps, and drawing 9 skips number 5, which worker 2 keeps
abbrev numbers : ℕ → ℕ
numbers q = get_or (0 ∷ 1 ∷ 2 ∷ 3 ∷ 4 ∷ 5 ∷ 2 ∷ 3 ∷ 4 ∷ 1 ∷ []) q 0

the_run_by_drawings : trace setters keeping ≡ Some (entries drawings)
unfolding digits
the_run_by_drawings = refl

the_run_by_numbers : numbered_in 5 setters (entries drawings) ≡ entries numbers
unfolding digits
the_run_by_numbers = refl

the_drawings_of_its_numbers : drawn (entries numbers) ≡ entries drawings
unfolding digits
the_drawings_of_its_numbers = refl

-- a call that is held renews the calls of the others
abbrev setting_first : (ℕ → ℕ) → List Entry
setting_first q =
    Entered 1 SetUid (regs 0 0 0) (Held (q 1)) ∷
    Entered 2 GetPid (regs 0 0 0) (Held (q 2)) ∷
    Entered 3 GetPid (regs 0 0 0) (Held (q 3)) ∷
    Claimed 1 (q 1) ∷
    Answered 1 (sets (q 1)) (Permit 1 root) true ∷
    setting (q 1) (Renewed (q 2) (q 4) ∷ Renewed (q 3) (q 5) ∷ []) ∷ []

setting_first_by_drawings : trace setters (thread 1 1 ∷ thread 2 1 ∷ thread 3 1 ∷ worker 1 2 ∷ thread 1 1 ∷ []) ≡ Some (setting_first drawings)
unfolding digits
setting_first_by_drawings = refl

-- drawing 5 skips number 1, which is the call's own, and takes number 2, which was replaced
setting_first_by_numbers : numbered_in 4 setters (setting_first drawings) ≡ setting_first (λ q. get_or (0 ∷ 1 ∷ 2 ∷ 3 ∷ 4 ∷ 2 ∷ []) q 0)
unfolding digits
setting_first_by_numbers = refl

-- a drawing that wasn't made has the number 0
no_number_for_no_drawing : numbered_in 5 setters (Claimed 1 7 ∷ []) ≡ Claimed 1 0 ∷ []
no_number_for_no_drawing = refl

-- ---- a worker that isn't ready keeps nothing

-- a call whose name has to be copied, and another call, are renewed in a circle of four numbers; a call of another process isn't
abbrev copier : Input
copier = input (plainly Enforce) (policy "/bin/a" (permits (Rule.Call SetUid) ∷ []) ∷ []) [] (traced "/bin/a" 0 0 "/" ∷ traced "/bin/b" 0 0 "/" ∷ [])
    (thread_in 1 (call Open 0 0 0 ∷ []) ∷ thread_in 1 (call GetPid 0 0 0 ∷ []) ∷ thread_in 1 (call SetUid 0 0 0 ∷ call SetUid 0 0 0 ∷ []) ∷
    thread_in 2 (call GetPid 0 0 0 ∷ []) ∷ []) []

abbrev set_fast : List Change → Entry
set_fast renewed = Used 3 None SetUid (regs 0 0 0) (arg Uid 0 "0" ∷ []) root (Value 0) (SetIds root ∷ renewed)

abbrev copying : (ℕ → ℕ) → List Entry
copying q =
    Entered 1 Open (regs 0 0 0) (Held (q 1)) ∷
    Claimed 1 (q 1) ∷
    Entered 4 GetPid (regs 0 0 0) (Held (q 2)) ∷
    Entered 2 GetPid (regs 0 0 0) (Held (q 3)) ∷
    Entered 3 SetUid (regs 0 0 0) Fast ∷
    set_fast (Renewed (q 1) (q 4) ∷ Renewed (q 3) (q 5) ∷ []) ∷
    Entered 3 SetUid (regs 0 0 0) Fast ∷
    set_fast (Renewed (q 4) (q 6) ∷ Renewed (q 5) (q 7) ∷ []) ∷ []

copied_by_drawings : trace copier (thread 1 1 ∷ worker 1 1 ∷ thread 4 1 ∷ thread 2 1 ∷ thread 3 4 ∷ []) ≡ Some (copying drawings)
unfolding digits
copied_by_drawings = refl

-- drawing 5 takes number 1, which no worker keeps, and drawing 6 skips number 2, which is live
copied_by_numbers : numbered_in 4 copier (copying drawings) ≡ copying (λ q. get_or (0 ∷ 1 ∷ 2 ∷ 3 ∷ 4 ∷ 1 ∷ 3 ∷ 4 ∷ []) q 0)
unfolding digits
copied_by_numbers = refl
