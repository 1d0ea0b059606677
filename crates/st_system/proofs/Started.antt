-- The parts that a run starts with represent the first state of the law's machine.
use native.Mathlib.Omega.{arith}
use Rattle.std.proofs.Common.{◌≡◌, ◌≤◌, ◌<◌, ◌∙◌, ℕ, zero, suc, Bool, false, cond, List, [], ◌∷◌, length, Option, Some, None, inl, inr, refl, ap, subst, sym}
use Rattle.std.proofs.Math.ListN.{get_or-eq_default}
use Rattle.std.proofs.lemmas.Bool.{and_from, and_parts, cases_lt, le-leb, leb-true, lt-leb, ne_eqb}
use Rattle.std.specs.List.{fold}
use Rattle.std.specs.Prelude.{nat_le, slice_get}
use Rattle.st_memory.specs.Memory.{Memories, is_space_live}
use Rattle.st_model.specs.Descriptors.{Table}
use Rattle.st_model.specs.Process.{Process}
use Rattle.st_model.specs.Processes.{Processes, IsPid, no_process, next_pid, process_at, thread_at}
use Rattle.st_model.specs.Tree.{Tree, root_only}
use Rattle.st_trace.specs.declared.start.ProcessRow.{ProcessRow}
use Rattle.st_law.specs.declared.input.Input.{Input}
use Rattle.st_law.specs.Machine.{first_state, first_thread}
use Rattle.st_law.specs.Processes.{first_process, process_count, process_of_row, tree_with_row}
use Rattle.st_law.specs.State.{thread_count}
use Rattle.st_law.specs.Threads.{first_owner, owner_of_row}
use Rattle.st_law.proofs.Laws.{all_at}
use Rattle.st_system.specs.Start.{first_thread_of, AreFirst, HaveStarted}
use Rattle.st_law.specs.Inputs.{CanStart}
use Rattle.st_system.specs.System.{HasOwner, IsAmong, IsSystem, IsThreadState, IsValidSystem, Parts}
use Rattle.st_system.proofs.Short.{IsShort}

-- no item has an index after the last
beyond : {X : Type 0} (items : List X) (k : ℕ) → length items ≤ k → slice_get items k ≡ None
beyond [] k past = refl
beyond (x ∷ items) zero past = absurd (omega (arith, past))
beyond (x ∷ items) (suc k) past = beyond items k (omega (arith, past))

-- an index below the length has an item
inside : {X : Type 0} (items : List X) (k : ℕ) → k < length items → (x : X) × (slice_get items k ≡ Some x)
inside [] k low = absurd (omega (arith, low))
inside (x ∷ items) zero low = (x, refl)
inside (x ∷ items) (suc k) low = inside items k (omega (arith, low))

module _ (i : Input) (tree : Tree) (table : Table) (first processes : Processes) (memories : Memories) (tree_is : tree ≡ fold tree_with_row root_only i.start.tree)
    (x : AreFirst i (process_count i) table first memories) (y : HaveStarted i (thread_count i) first processes) (start : CanStart i) where
  abbrev parts : Parts
  parts = record { tree = tree; descriptors = table; processes = processes; memories = memories }

  next : next_pid processes ≡ suc (process_count i)
  next = ap (λ rows. next_pid (record { rows = rows; threads = processes.threads })) y.rows ∙ x.next

  same_row : (p : ℕ) → process_at processes p ≡ process_at first p
  same_row p = ap (λ rows. process_at (record { rows = rows; threads = processes.threads }) p) y.rows

  -- each process, whether it exists or not
  process_is : (p : ℕ) → first_process i p ≡ process_at processes p
  process_is zero = refl
  process_is (suc k) = elim (cases_lt k (process_count i)) [
    | inl inside ↦ sym (same_row (suc k) ∙ x.rows (suc k) (omega arith) (omega (arith, inside)))
    | inr past ↦ ap (process_of_row i (suc k)) (beyond i.start.processes k past) ∙ sym (get_or-eq_default processes.rows no_process (let n = next in omega (arith, past, n)))
  ]

  -- the directory of a process by its row, if it has one
  row_short : (p k : ℕ) (o : Option ProcessRow) → slice_get i.start.processes k ≡ o → IsShort (process_of_row i p o).cwd
  row_short p k None e = omega arith
  row_short p k (Some row) e = all_at (λ each. IsShort each.cwd) i.start.processes k row start.short e

  first_short : (p : ℕ) → IsShort (first_process i p).cwd
  first_short zero = omega arith
  first_short (suc k) = row_short (suc k) k (slice_get i.start.processes k) refl

  own_space : (p : ℕ) → 1 ≤ p → p ≤ process_count i → (process_at processes p).space ≡ p
  own_space zero low high = absurd (omega (arith, low))
  own_space (suc k) low high =
      let row = inside i.start.processes k (omega (arith, high)) in
      ap (λ (process : Process). process.space) (sym (process_is (suc k)) ∙ ap (process_of_row i (suc k)) row.1)

  among_pids : (p : ℕ) → IsPid processes p → (1 ≤ p) × (p ≤ process_count i)
  among_pids p is = let n = next in let low = is.0 in let high = is.1 in (omega (arith, low), omega (arith, high, n))

  is_pid : (p : ℕ) → 1 ≤ p → p ≤ process_count i → IsPid processes p
  is_pid p low high = let n = next in (omega (arith, low), omega (arith, high, n))

  -- ---- threads

  -- a thread of the script, by its number's index
  none_later : (t : ℕ) → thread_count i < t → first_owner i t ≡ 0
  none_later zero past = absurd (omega (arith, past))
  none_later (suc k) past = ap owner_of_row (beyond i.start.threads k (omega (arith, past)))

  started : (t : ℕ) → t ≤ thread_count i → thread_at processes t ≡ first_thread_of (first_owner i t)
  started t low = y.threads t ∙ ap (λ b. cond b (first_thread_of (first_owner i t)) None) (le-leb t (thread_count i) low)

  unstarted : (t : ℕ) → thread_count i < t → thread_at processes t ≡ None
  unstarted t past = y.threads t ∙ ap (λ b. cond b (first_thread_of (first_owner i t)) None) (lt-leb t (thread_count i) past)

  module _ (t : ℕ) where
    row_of : (owner : ℕ) → first_owner i t ≡ owner → IsThreadState (first_thread_of owner) (first_thread i t)
    row_of zero e = (e, refl)
    row_of (suc p) e = subst (λ (b : Bool). IsThreadState (cond b None (Some (record { pid = suc p; ended = false }))) (first_thread i t)) (sym (ne_eqb (suc p) 0 (λ z. omega (arith, z)))) (e, refl)

    thread_is : IsThreadState (thread_at processes t) (first_thread i t)
    thread_is = elim (cases_lt (thread_count i) t) [
      | inl past ↦ subst (λ o. IsThreadState o (first_thread i t)) (sym (unstarted t past)) (none_later t past, refl)
      | inr low ↦ subst (λ o. IsThreadState o (first_thread i t)) (sym (started t low)) (row_of (first_owner i t) refl)
    ]

    among_of : (owner : ℕ) → first_owner i t ≡ owner → t ≤ thread_count i → IsAmong (thread_count i) t (first_thread_of owner)
    among_of zero e low = tt
    among_of (suc p) e low = subst (λ (b : Bool). IsAmong (thread_count i) t (cond b None (Some (record { pid = suc p; ended = false })))) (sym (ne_eqb (suc p) 0 (λ z. omega (arith, z)))) (positive t e, low) where
      positive : (u : ℕ) → first_owner i u ≡ suc p → 1 ≤ u
      positive zero e = absurd cc
      positive (suc u) e = omega arith

    thread_among : IsAmong (thread_count i) t (thread_at processes t)
    thread_among = elim (cases_lt (thread_count i) t) [
      | inl past ↦ subst (IsAmong (thread_count i) t) (sym (unstarted t past)) tt
      | inr low ↦ subst (IsAmong (thread_count i) t) (sym (started t low)) (among_of (first_owner i t) refl low)
    ]

    owner_of : (owner : ℕ) → owner ≤ process_count i → HasOwner processes (first_thread_of owner)
    owner_of zero low = tt
    owner_of (suc p) low = subst (λ (b : Bool). HasOwner processes (cond b None (Some (record { pid = suc p; ended = false })))) (sym (ne_eqb (suc p) 0 (λ z. omega (arith, z)))) (is_pid (suc p) (omega arith) low)

    owner_is : HasOwner processes (thread_at processes t)
    owner_is = elim (cases_lt (thread_count i) t) [
      | inl past ↦ subst (HasOwner processes) (sym (unstarted t past)) tt
      | inr low ↦ subst (HasOwner processes) (sym (started t low)) (owner_of (first_owner i t) (start.owners t))
    ]

  pub whole_first : IsValidSystem parts
  whole_first = record {
    ordered = y.ordered;
    owners = owner_is;
    ready = λ p is. let at = among_pids p is in record {
      table = x.has p ∙ and_from _ _ (le-leb 1 p at.0) (le-leb p (process_count i) at.1);
      process = is;
      space = ap (λ s. is_space_live memories s) (own_space p at.0 at.1) ∙ x.live p at.0 at.1;
      real = x.real tree;
    };
    tables = λ p has. let both = and_parts (nat_le 1 p) (nat_le p (process_count i)) (sym (x.has p) ∙ has) in is_pid p (leb-true 1 p both.0) (leb-true p (process_count i) both.1);
    apart = λ p q is other same. let low = among_pids p is in let high = among_pids q other in sym (own_space p low.0 low.1) ∙ same ∙ own_space q high.0 high.1;
    short = λ p. subst (λ (process : Process). IsShort process.cwd) (process_is p) (first_short p);
  }

  pub system_first : IsSystem i (first_state i) parts
  system_first = record {
    tree = sym tree_is;
    descriptors = sym x.table_is;
    processes = process_is;
    next_process = sym next;
    memory = λ s b kept. sym (x.zeros s b);
    next_space = sym x.next_space_is;
    threads = thread_is;
    among = thread_among;
  }
