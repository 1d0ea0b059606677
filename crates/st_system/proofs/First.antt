-- The processes that a run starts with, one after the other.
use native.Mathlib.Omega.{arith}
use Rattle.std.proofs.Common.{◌≡◌, ◌≤◌, ◌∙◌, ℕ, zero, suc, ◌+◌, true, cond, ◌&&◌, ◌==◌, [], ◌∷◌, ◌++◌, length, Some, get_or, inl, inr, refl, ap, subst, sym}
use Rattle.std.proofs.Math.ListN.{get_or-append}
use Rattle.std.proofs.Math.Seq.{get_or-append_seam}
use Rattle.std.proofs.lemmas.Bool.{cases_eq, eq-eqb, ne_eqb}
use Rattle.std.proofs.lemmas.List.Sums.{fold-append}
use Rattle.std.specs.List.{fold, range_with_len}
use Rattle.std.specs.Prelude.{nat_le, slice_get}
use Rattle.st_fds.specs.Table.{ChangesTable}
use Rattle.st_memory.specs.Memory.{Memories, byte_in, is_space_live, next_space, ChangesLive}
use Rattle.st_model.specs.DescriptorCalls.{table_after_start}
use Rattle.st_model.specs.Descriptors.{Table}
use Rattle.st_model.specs.Process.{Process}
use Rattle.st_model.specs.Processes.{Processes, no_process, next_pid, process_at, processes_after_start}
use Rattle.st_request.specs.Ready.{AreValidOpenFiles}
use Rattle.st_request.proofs.Stay.{started_real}
use Rattle.st_trace.specs.declared.start.ProcessRow.{ProcessRow}
use Rattle.st_law.specs.declared.input.Input.{Input}
use Rattle.st_law.specs.Processes.{first_process, no_descriptors, process_of_row}
use Rattle.st_system.specs.Start.{process_at_start, AreFirst}

-- one more number after those from a on
range_more : (a n : ℕ) → range_with_len a (suc n) ≡ range_with_len a n ++ (a + n) ∷ []
range_more a zero = ap (λ x. x ∷ []) (omega arith)
range_more a (suc n) = ap (λ xs. a ∷ xs) (range_more (a + 1) n) ∙ ap (λ x. a ∷ (range_with_len (a + 1) n ++ x ∷ [])) (omega arith)

-- the same for the numbers from 1 on
range_one_more : (k : ℕ) → range_with_len 1 (suc k) ≡ range_with_len 1 k ++ suc k ∷ []
range_one_more k = range_more 1 k ∙ ap (λ x. range_with_len 1 k ++ x ∷ []) (omega arith)

-- one more number is among those from 1 on
within_more : (k p : ℕ) → cond (p == suc k) true (nat_le 1 p && nat_le p k) ≡ (nat_le 1 p && nat_le p (suc k))
within_more k p = grind (arith)

module _ (i : Input) (k : ℕ) (row : ProcessRow) (table : Table) (processes : Processes) (memories : Memories) (x : AreFirst i k table processes memories)
    (here : slice_get i.start.processes k ≡ Some row) where
  abbrev process : Process
  process = process_at_start i.options.ids (suc k) row

  count : length processes.rows ≡ k
  count = let next = x.next in omega (arith, next)

  row_before : (p : ℕ) → 1 ≤ p → p ≤ k → process_at (processes_after_start processes process) p ≡ process_at processes p
  row_before zero low high = refl
  row_before (suc q) low high = get_or-append processes.rows (process ∷ []) no_process q (let c = count in omega (arith, high, c))

  row_now : process_at (processes_after_start processes process) (suc k) ≡ process
  row_now = ap (λ n. get_or (processes.rows ++ process ∷ []) n no_process) (sym count) ∙ get_or-append_seam processes.rows process [] no_process

  first_now : first_process i (suc k) ≡ process
  first_now = ap (process_of_row i (suc k)) here

  rows : (p : ℕ) → 1 ≤ p → p ≤ suc k → process_at (processes_after_start processes process) p ≡ first_process i p
  rows p low high = elim (cases_eq p (suc k)) [
    | inl e ↦ ap (process_at (processes_after_start processes process)) e ∙ row_now ∙ sym first_now ∙ ap (first_process i) (sym e)
    | inr ne ↦ row_before p low (omega (arith, high, ne)) ∙ x.rows p low (omega (arith, high, ne))
  ]

  pub one_more : (table_new : Table) (new : Processes) (memories_new : Memories) → table_new ≡ table_after_start table (next_pid processes) → ChangesTable table (next_pid processes) true table_new
      → new ≡ processes_after_start processes process → next_pid new ≡ suc (next_pid processes) → next_space memories_new ≡ suc (next_space memories)
      → ChangesLive memories (next_space memories) true memories_new → ((s b : ℕ) → byte_in memories_new s b ≡ byte_in memories s b) → AreFirst i (suc k) table_new new memories_new
  one_more table_new new memories_new is_table tables is_new pids spaces lives bytes = record {
    table_is = is_table ∙ ap (table_after_start table) x.next ∙ ap (λ t. table_after_start t (suc k)) x.table_is
        ∙ sym (ap (fold table_after_start no_descriptors) (range_one_more k) ∙ fold-append table_after_start no_descriptors (range_with_len 1 k) (suc k ∷ []));
    has = λ p. tables p ∙ (λ j. cond (p == x.next j) true (x.has p j)) ∙ within_more k p;
    real = λ tree. subst (AreValidOpenFiles tree) (sym is_table) (started_real tree table (next_pid processes) (x.real tree));
    next = pids ∙ ap suc x.next;
    rows = λ p low high. ap (λ q. process_at q p) is_new ∙ rows p low high;
    threads = ap (λ (q : Processes). q.threads) is_new ∙ x.threads;
    next_space_is = spaces ∙ ap suc x.next_space_is;
    live = λ s low high. lives s ∙ live_of s low high;
    zeros = λ s b. bytes s b ∙ x.zeros s b;
  } where
    live_of : (s : ℕ) → 1 ≤ s → s ≤ suc k → cond (s == next_space memories) true (is_space_live memories s) ≡ true
    live_of s low high = elim (cases_eq s (next_space memories)) [
      | inl e ↦ ap (λ b. cond b true (is_space_live memories s)) (eq-eqb s (next_space memories) e)
      | inr ne ↦ ap (λ b. cond b true (is_space_live memories s)) (ne_eqb s (next_space memories) ne) ∙ x.live s low (let next = x.next_space_is in omega (arith, high, ne, next))
    ]
