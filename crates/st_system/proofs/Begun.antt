-- The threads that a run starts with, one after the other.
use native.Mathlib.Omega.{arith}
use Rattle.std.proofs.Common.{◌≡◌, ◌<◌, ◌∙◌, ℕ, zero, suc, false, cond, ◌==◌, [], Option, Some, None, inl, inr, refl, ap, subst, sym}
use Rattle.std.proofs.lemmas.Bool.{cases_eq, eq-eqb, ne_eqb}
use Rattle.std.proofs.lemmas.Cmp.{nat_cmp_total}
use Rattle.std.specs.List.Sorted.{IsStrictlySortedBy}
use Rattle.std.specs.Option.{option_map}
use Rattle.std.specs.Ordering.{nat_cmp}
use Rattle.std.specs.Prelude.{nat_le, slice_get, unwrap_or, Result, Ok, Err, OnOk}
use Rattle.st_model.specs.Processes.{Processes, StartedThread, next_pid, pid_of, processes_after_begin, thread_at}
use Rattle.st_model.proofs.Ordered.{sorted-insert_entry}
use Rattle.st_procs.specs.Laws.{AreOrdered}
use Rattle.st_trace.specs.declared.start.ThreadRow.{ThreadRow}
use Rattle.st_law.specs.declared.input.Input.{Input}
use Rattle.st_law.specs.Threads.{first_owner, owner_of_row}
use Rattle.st_system.specs.Start.{first_thread_of, HaveStarted}

-- a thread that hasn't started isn't found
pub not_found : (o : Option StartedThread) → option_map (λ (thread : StartedThread). thread.pid) o ≡ None → o ≡ None
not_found None e = refl
not_found (Some thread) e = absurd cc

-- threads are still in order after one more has started
pub ordered_begin : (processes : Processes) (tid pid : ℕ) → AreOrdered processes → AreOrdered (processes_after_begin processes tid pid)
ordered_begin processes tid pid ordered = sorted-insert_entry nat_cmp nat_cmp_total processes.threads tid (record { pid = pid; ended = false }) ordered

-- threads are still in order after a result that is no error
pub ordered_ok : {A E : Type 0} (result : Result A E) (old new : Processes) (tid pid : ℕ) → OnOk result (new ≡ processes_after_begin old tid pid) → OnOk result (AreOrdered old → AreOrdered new)
ordered_ok (Ok a) old new tid pid is = λ ordered. subst AreOrdered (sym is) (ordered_begin old tid pid ordered)
ordered_ok (Err e) old new tid pid is = tt

-- the process of a thread by its row
pub owner_of_place : (i : Input) (k : ℕ) (row : ThreadRow) → slice_get i.start.threads k ≡ Some row → unwrap_or row.process 0 ≡ first_owner i (suc k)
owner_of_place i k row here = ap owner_of_row (sym here)

-- numbers of processes that were below the next number still are
pub below_next : (before after : Processes) (p : ℕ) → after.rows ≡ before.rows → p < next_pid before → p < next_pid after
below_next before after p rows low = subst (λ rows. p < next_pid (record { rows = rows; threads = after.threads })) (sym rows) low

up_to : (k t : ℕ) (o : Option StartedThread) → cond (t == suc k) o (cond (nat_le t k) o None) ≡ cond (nat_le t (suc k)) o None
up_to k t o = grind (arith)

empty_ordered : IsStrictlySortedBy nat_cmp []
unfolding IsStrictlySortedBy
empty_ordered = tt

-- before the first thread has started
pub none_started : (i : Input) (processes : Processes) → processes.threads ≡ [] → HaveStarted i 0 processes processes
none_started i processes none = record {
  rows = refl;
  ordered = subst (λ threads. AreOrdered (record { rows = processes.rows; threads = threads })) (sym none) empty_ordered;
  threads = λ t. ap (λ threads. thread_at (record { rows = processes.rows; threads = threads }) t) none ∙ nothing t;
} where
  nothing : (t : ℕ) → None ≡ cond (nat_le t 0) (first_thread_of (first_owner i t)) None
  nothing zero = refl
  nothing (suc t) = grind (arith)

-- no thread with a greater number has started
pub unstarted : (i : Input) (k : ℕ) (before after : Processes) → HaveStarted i k before after → pid_of after (suc k) ≡ None
unstarted i k before after x = ap (option_map (λ (thread : StartedThread). thread.pid)) (x.threads (suc k) ∙ beyond) where
  beyond : cond (nat_le (suc k) k) (first_thread_of (first_owner i (suc k))) None ≡ None
  beyond = grind (arith)

pub one_more : (i : Input) (k owner : ℕ) (before after new : Processes) → HaveStarted i k before after → owner ≡ first_owner i (suc k) → new.rows ≡ after.rows → (AreOrdered after → AreOrdered new)
    → ((t : ℕ) → thread_at new t ≡ cond (t == suc k) (first_thread_of owner) (thread_at after t)) → HaveStarted i (suc k) before new
one_more i k owner before after new x is rows ordered threads = record {
  rows = rows ∙ x.rows;
  ordered = ordered x.ordered;
  threads = λ t. threads t ∙ at t;
} where
  at : (t : ℕ) → cond (t == suc k) (first_thread_of owner) (thread_at after t) ≡ cond (nat_le t (suc k)) (first_thread_of (first_owner i t)) None
  at t = elim (cases_eq t (suc k)) [
    | inl e ↦ ap (λ b. cond b (first_thread_of owner) (thread_at after t)) (eq-eqb t (suc k) e) ∙ ap first_thread_of (is ∙ ap (first_owner i) (sym e))
        ∙ sym (sym (up_to k t (first_thread_of (first_owner i t))) ∙ ap (λ b. cond b (first_thread_of (first_owner i t)) (cond (nat_le t k) (first_thread_of (first_owner i t)) None)) (eq-eqb t (suc k) e))
    | inr ne ↦ ap (λ b. cond b (first_thread_of owner) (thread_at after t)) (ne_eqb t (suc k) ne) ∙ x.threads t
        ∙ sym (sym (up_to k t (first_thread_of (first_owner i t))) ∙ ap (λ b. cond b (first_thread_of (first_owner i t)) (cond (nat_le t k) (first_thread_of (first_owner i t)) None)) (ne_eqb t (suc k) ne))
  ]
