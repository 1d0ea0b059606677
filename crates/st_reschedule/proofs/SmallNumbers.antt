-- The threads and workers of a run have small numbers.
use Rattle.std.proofs.Common.{◌≡◌, ℕ, ◌<◌, ◌^◌, ◌==◌, ◌||◌, Bool, true, false, cond, List, [], ◌∷◌, length, reverse, Some, None, refl, ap, sym, subst, ◌∙◌, arith}
use Rattle.std.proofs.lemmas.Bool.{and_parts, eqb-false, leb-true}
use Rattle.std.proofs.lemmas.List.{reverse-append}
use Rattle.std.proofs.lemmas.List.Elements.{All-from_recursion}
use Rattle.std.specs.List.{AllByRecursion}
use Rattle.std.specs.Prelude.{nat_le, nat_lt}
use Rattle.st_base.proofs.Each.{each-parts}
use Rattle.st_trace.specs.declared.entry.Choice.{Choice}
use Rattle.st_trace.specs.declared.entry.Choice.TheVariants.{Thread, Worker, Operator}
use Rattle.st_trace.specs.declared.entry.Entry.{Entry}
use Rattle.st_trace.specs.declared.entry.Entry.TheVariants.{Ended}
use Rattle.st_law.specs.declared.input.Input.{Input}
use Rattle.st_law.specs.Inputs.{IsStartable, IsThread}
use Rattle.st_law.specs.Machine.{entry_of, history, run, running_entry, state_at, thread_entry, turn_entry, worker_entry}
use Rattle.st_law.specs.State.{State, is_worker, worker_at}
use Rattle.st_law.proofs.Invariant.{Invariant}
use Rattle.st_law.proofs.Laws.{invariant_of, lawful_history}
use Rattle.st_law.proofs.Ties.{state-is}
use Rattle.st_report.proofs.PlayedAgain.{AreEnabled, enabled_of_run}
use Rattle.st_reschedule.specs.Asked.{HasSmallNumber, HaveSmallNumbers}

-- a property of all elements of a reversed list is a property of all elements of the list
each-turned : {A : Type 0} (P : A → Type 0) (xs : List A) → AllByRecursion P (reverse xs) → AllByRecursion P xs
each-turned P [] all = tt
each-turned P (x ∷ xs) all =
    let parts : AllByRecursion P (reverse xs) × AllByRecursion P (x ∷ []) = each-parts P (reverse xs) (x ∷ []) (subst (AllByRecursion P) (reverse-append (x ∷ []) xs) all) in
    (parts.1.0, each-turned P xs parts.0)

module _ (i : Input) (startable : IsStartable i) where
  -- a thread that has started is one of the script's
  thread_small : (st : State) → Invariant i st → (t : ℕ) (e : Entry) → thread_entry i st t ≡ Some e → (b : Bool) → ((st.threads t).owner == 0) ≡ b → t < 2 ^ 32
  thread_small st inv t e enabled true f =
      let none : thread_entry i st t ≡ None = ap (λ b. cond (b || (st.threads t).ended) None (cond (st.threads t).dying (Some (Ended t)) (running_entry i st t (st.threads t).pending))) f in
      let clash : None ≡ Some e = sym none ∙ enabled in absurd (cc)
  thread_small st inv t e enabled false f =
      let there : IsThread i t = inv.started t (eqb-false (st.threads t).owner 0 f) in
      let high = there.1 in let few = startable.few_threads in omega (arith, high, few)

  worker_small : (st : State) (w : ℕ) (e : Entry) → worker_entry i st w ≡ Some e → (b : Bool) → is_worker i w ≡ b → w < 2 ^ 32
  worker_small st w e enabled true f =
      let high = leb-true w i.options.workers (and_parts (nat_lt 0 w) (nat_le w i.options.workers) f).1 in
      let few = startable.few_workers in omega (arith, high, few)
  worker_small st w e enabled false f =
      let none : worker_entry i st w ≡ None = ap (λ b. cond b (turn_entry i st w (worker_at st w)) None) f in
      let clash : None ≡ Some e = sym none ∙ enabled in absurd (cc)

  enabled_small : (st : State) → Invariant i st → (c : Choice) (e : Entry) → entry_of i st c ≡ Some e → HasSmallNumber c
  enabled_small st inv (Thread t) e enabled = thread_small st inv t e enabled ((st.threads t).owner == 0) refl
  enabled_small st inv (Worker w) e enabled = worker_small st w e enabled (is_worker i w) refl
  enabled_small st inv Operator e enabled = tt

  reached : (choices : List Choice) → Invariant i (state_at i (history i choices))
  reached choices = subst (Invariant i) (sym (state-is i (history i choices))) (invariant_of i startable (history i choices) (lawful_history i startable choices))

  all_small : (choices : List Choice) → AreEnabled i choices → AllByRecursion HasSmallNumber choices
  all_small [] enabled = tt
  all_small (c ∷ choices) enabled = (enabled_small (state_at i (history i choices)) (reached choices) c enabled.0.0 enabled.0.1, all_small choices enabled.1)

  -- the choices of a run, each enabled at its turn
  pub small_numbers : (choices : List Choice) → length (run i choices) ≡ length choices → HaveSmallNumbers choices
  small_numbers choices e = All-from_recursion HasSmallNumber choices (each-turned HasSmallNumber choices (all_small (reverse choices) (enabled_of_run i choices e)))
