-- What a run requires of its input doesn't depend on the flags of opens.
use Rattle.std.proofs.Common.{◌≡◌, ◌≤◌, ◌<◌, ◌↔◌, ◌+◌, ◌^◌, ℕ, zero, suc, Bool, cond, List, [], ◌∷◌, length, get_or, map, fold, Option, Some, None, refl, sym, ap, subst, ◌∙◌}
use Rattle.std.proofs.Math.ListN.{get_or-map}
use Rattle.std.proofs.lemmas.List.{length-map}
use Rattle.std.proofs.lemmas.List.Elements.{All-map}
use Rattle.std.proofs.lemmas.Option.{slice_get-map}
use Rattle.std.specs.List.{All}
use Rattle.std.specs.Prelude.{option_map, slice_get, sum_by, count_by}
use Rattle.st_base.specs.Numbered.{item_at_number}
use Rattle.st_trace.specs.declared.start.Instr.{Instr}
use Rattle.st_trace.specs.declared.start.Instr.TheVariants.{Store, Call, Fork, Reload}
use Rattle.st_trace.specs.declared.start.Start.{Start}
use Rattle.st_trace.specs.declared.start.ThreadRow.{ThreadRow}
use Rattle.st_law.specs.declared.input.Input.{Input}
use Rattle.st_law.specs.Inputs.{CanStart, IsStartable, IsInstruction, HasProcess}
use Rattle.st_law.specs.Processes.{process_count}
use Rattle.st_law.specs.Threads.{owner_of_row, first_owner}
use Rattle.st_reached.specs.Scripts.{IsBounded, IsInMemory, starts_by_row, starts_of, is_start_of}
use Rattle.st_reached.specs.Runnable.{CanRun}
use Rattle.st_linux.specs.Native.{native_instruction, native_row, to_native}

-- ---- lists whose items are replaced

all_to : {X Y : Type 0} (P : X → Type 0) (Q : Y → Type 0) (f : X → Y) → ((x : X) → P x → Q (f x)) → (xs : List X) → All P xs → All Q (map f xs)
all_to P Q f each xs all = All-map Q f xs (λ k x within. each _ (all k x within))

all_from : {X Y : Type 0} (P : X → Type 0) (Q : Y → Type 0) (f : X → Y) → ((x : X) → Q (f x) → P x) → (xs : List X) → All Q (map f xs) → All P xs
all_from P Q f each xs all k x within =
    each (get_or xs k x) (subst Q (get_or-map f xs k x) (all k (f x) (subst (λ n. k < n) (sym (length-map xs f)) within)))

fold-map : {X Y : Type 0} {A : Type 0} (step : A → Y → A) (f : X → Y) (a : A) (xs : List X) → fold step a (map f xs) ≡ fold (λ b x. step b (f x)) a xs
fold-map step f a [] = refl
fold-map step f a (x ∷ xs) = fold-map step f (step a (f x)) xs

-- a sum over replaced items, where none counts for more or less than before
sum_kept : {X : Type 0} (g : X → ℕ) (f : X → X) → ((x : X) → g (f x) ≡ g x) → (xs : List X) → sum_by g (map f xs) ≡ sum_by g xs
sum_kept g f same xs = fold-map (λ a x. a + g x) f 0 xs ∙ ap (λ h. sum_by h xs) (λ k x. same x k)

count_kept : {X : Type 0} (p : X → Bool) (f : X → X) → ((x : X) → p (f x) ≡ p x) → (xs : List X) → count_by p (map f xs) ≡ count_by p xs
count_kept p f same xs = sum_kept (λ x. cond (p x) 1 0) f (λ x. ap (λ b. cond b 1 0) (same x)) xs

-- what is read of the item with a number, where it is the same of a replaced item
item_kept : {X A : Type 0} (read : Option X → A) (f : X → X) → ((o : Option X) → read (option_map f o) ≡ read o) → (xs : List X) (n : ℕ) →
    read (item_at_number (map f xs) n) ≡ read (item_at_number xs n)
item_kept read f same xs zero = refl
item_kept read f same xs (suc k) = ap read (slice_get-map f xs k) ∙ same (slice_get xs k)

-- ---- threads

same_owner : (o : Option ThreadRow) → owner_of_row (option_map native_row o) ≡ owner_of_row o
same_owner None = refl
same_owner (Some row) = refl

same_row : (o : Option ThreadRow) → starts_by_row (option_map native_row o) ≡ starts_by_row o
same_row None = refl
same_row (Some row) = refl

same_start : (t : ℕ) (instr : Instr) → is_start_of t (native_instruction instr) ≡ is_start_of t instr
same_start t (Store place word) = refl
same_start t (Call call regs) = refl
same_start t (Fork child) = refl
same_start t (Reload n) = refl

same_starts : (start : Start) (t : ℕ) → starts_of (to_native start) t ≡ starts_of start t
same_starts start t =
    ap (λ n. n + sum_by (λ row. count_by (is_start_of t) row.body) (map native_row start.threads)) (item_kept starts_by_row native_row same_row start.threads t) ∙
    ap (λ n. starts_by_row (item_at_number start.threads t) + n)
    (sum_kept (λ row. count_by (is_start_of t) row.body) native_row (λ row. count_kept (is_start_of t) native_instruction (same_start t) row.body) start.threads)

-- ---- instructions

in_memory_to : (instr : Instr) → IsInMemory instr → IsInMemory (native_instruction instr)
in_memory_to (Store place word) is = is
in_memory_to (Call call regs) is = tt
in_memory_to (Fork child) is = tt
in_memory_to (Reload n) is = tt

in_memory_from : (instr : Instr) → IsInMemory (native_instruction instr) → IsInMemory instr
in_memory_from (Store place word) is = is
in_memory_from (Call call regs) is = tt
in_memory_from (Fork child) is = tt
in_memory_from (Reload n) is = tt

-- the input with its start made native
abbrev pub native_input : Input → Input
native_input i = record i { start = to_native i.start }

same_count : (start : Start) → length (to_native start).threads ≡ length start.threads
same_count start = length-map start.threads native_row

instruction_to : (i : Input) (instr : Instr) → IsInstruction i instr → IsInstruction (native_input i) (native_instruction instr)
instruction_to i (Store place word) is = tt
instruction_to i (Call call regs) is = is
instruction_to i (Fork child) is = (is.0, subst (λ n. child ≤ n) (sym (same_count i.start)) is.1)
instruction_to i (Reload n) is = is

instruction_from : (i : Input) (instr : Instr) → IsInstruction (native_input i) (native_instruction instr) → IsInstruction i instr
instruction_from i (Store place word) is = tt
instruction_from i (Call call regs) is = is
instruction_from i (Fork child) is = (is.0, subst (λ n. child ≤ n) (same_count i.start) is.1)
instruction_from i (Reload n) is = is

-- ---- inputs

startable_to : (i : Input) → IsStartable i → IsStartable (native_input i)
startable_to i is = record {
  some_worker = is.some_worker;
  few_workers = is.few_workers;
  few_threads = subst (λ n. n ≤ 64) (sym (same_count i.start)) is.few_threads;
  processes = all_to (λ row. HasProcess (process_count i) row.process) (λ row. HasProcess (process_count i) row.process) native_row (λ row has. has) i.start.threads is.processes;
  bodies = all_to (λ row. All (IsInstruction i) row.body) (λ row. All (IsInstruction (native_input i)) row.body) native_row
      (λ row all. all_to (IsInstruction i) (IsInstruction (native_input i)) native_instruction (instruction_to i) row.body all) i.start.threads is.bodies;
  replies = is.replies;
  targets = is.targets;
}

startable_from : (i : Input) → IsStartable (native_input i) → IsStartable i
startable_from i is = record {
  some_worker = is.some_worker;
  few_workers = is.few_workers;
  few_threads = subst (λ n. n ≤ 64) (same_count i.start) is.few_threads;
  processes = all_from (λ row. HasProcess (process_count i) row.process) (λ row. HasProcess (process_count i) row.process) native_row (λ row has. has) i.start.threads is.processes;
  bodies = all_from (λ row. All (IsInstruction i) row.body) (λ row. All (IsInstruction (native_input i)) row.body) native_row
      (λ row all. all_from (IsInstruction i) (IsInstruction (native_input i)) native_instruction (instruction_from i) row.body all) i.start.threads is.bodies;
  replies = is.replies;
  targets = is.targets;
}

pub startable_kept : (i : Input) → IsStartable i ↔ IsStartable (native_input i)
startable_kept i = (startable_to i, startable_from i)

owner_kept : (i : Input) (t : ℕ) → first_owner (native_input i) t ≡ first_owner i t
owner_kept i t = item_kept owner_of_row native_row same_owner i.start.threads t

can_start_to : (i : Input) → CanStart i → CanStart (native_input i)
can_start_to i can = record {
  tree = can.tree;
  few_processes = can.few_processes;
  few_threads = subst (λ n. n < 2 ^ 31) (sym (same_count i.start)) can.few_threads;
  owners = λ t. subst (λ n. n ≤ process_count i) (sym (owner_kept i t)) (can.owners t);
  short = can.short;
}

can_start_from : (i : Input) → CanStart (native_input i) → CanStart i
can_start_from i can = record {
  tree = can.tree;
  few_processes = can.few_processes;
  few_threads = subst (λ n. n < 2 ^ 31) (same_count i.start) can.few_threads;
  owners = λ t. subst (λ n. n ≤ process_count i) (owner_kept i t) (can.owners t);
  short = can.short;
}

pub can_start_kept : (i : Input) → CanStart i ↔ CanStart (native_input i)
can_start_kept i = (can_start_to i, can_start_from i)

same_length : (start : Start) → sum_by (λ row. length row.body) (to_native start).threads ≡ sum_by (λ row. length row.body) start.threads
same_length start = sum_kept (λ row. length row.body) native_row (λ row. length-map row.body native_instruction) start.threads

bounded_to : (start : Start) → IsBounded start → IsBounded (to_native start)
bounded_to start is = record {
  few_instructions = subst (λ n. n ≤ 4096) (sym (same_length start)) is.few_instructions;
  few_processes = is.few_processes;
  stores = all_to (λ row. All IsInMemory row.body) (λ row. All IsInMemory row.body) native_row
      (λ row all. all_to IsInMemory IsInMemory native_instruction in_memory_to row.body all) start.threads is.stores;
  starts = λ t. subst (λ n. n ≤ 1) (sym (same_starts start t)) (is.starts t);
}

bounded_from : (start : Start) → IsBounded (to_native start) → IsBounded start
bounded_from start is = record {
  few_instructions = subst (λ n. n ≤ 4096) (same_length start) is.few_instructions;
  few_processes = is.few_processes;
  stores = all_from (λ row. All IsInMemory row.body) (λ row. All IsInMemory row.body) native_row
      (λ row all. all_from IsInMemory IsInMemory native_instruction in_memory_from row.body all) start.threads is.stores;
  starts = λ t. subst (λ n. n ≤ 1) (same_starts start t) (is.starts t);
}

pub bounded_kept : (start : Start) → IsBounded start ↔ IsBounded (to_native start)
bounded_kept start = (bounded_to start, bounded_from start)

can_run_to : (i : Input) → CanRun i → CanRun (native_input i)
can_run_to i can = record {
  startable = startable_to i can.startable;
  system = can_start_to i can.system;
  bounded = bounded_to i.start can.bounded;
  ungranted = can.ungranted;
  replies = can.replies;
}

can_run_from : (i : Input) → CanRun (native_input i) → CanRun i
can_run_from i can = record {
  startable = startable_from i can.startable;
  system = can_start_from i can.system;
  bounded = bounded_from i.start can.bounded;
  ungranted = can.ungranted;
  replies = can.replies;
}

pub can_run_kept : (i : Input) → CanRun i ↔ CanRun (native_input i)
can_run_kept i = (can_run_to i, can_run_from i)
