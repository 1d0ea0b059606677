-- After the choices that `rest` gives, no choice is enabled.
use native.Mathlib.Omega.{arith}
use Rattle.std.proofs.Common.{◌≡◌, ◌≤◌, ◌<◌, ℕ, zero, suc, ◌+◌, Bool, true, false, cond, ◌||◌, ◌==◌, List, [], ◌∷◌, ◌++◌, reverse, Option, Some, None, refl, sym, ap, subst, ◌∙◌}
use Rattle.std.specs.Prelude.{nat_lt, nat_le}
use Rattle.std.proofs.lemmas.Bool.{eqb-true, eqb-false, eq-eqb, and_parts, ltb-true, leb-true}
use Rattle.std.proofs.lemmas.List.{reverse-append}
use Rattle.st_trace.specs.declared.entry.Choice.{Choice}
use Rattle.st_trace.specs.declared.entry.Choice.TheVariants as choice
use Rattle.st_trace.specs.declared.entry.Entry.{Entry}
use Rattle.st_trace.specs.declared.entry.Entry.TheVariants.{Ended}
use Rattle.st_law.specs.declared.input.Input.{Input}
use Rattle.st_law.specs.History.{looking_back}
use Rattle.st_law.specs.Inputs.{IsThread, IsStartable}
use Rattle.st_law.specs.Laws.{IsRested}
use Rattle.st_law.specs.Lawful.{IsLawful, IsLawfulBack}
use Rattle.st_law.specs.Machine.{thread_entry, running_entry, turn_entry, state_after, state_at, entry_of, history_with, history, state_of_run, IsSettled}
use Rattle.st_law.specs.Schedules.{EnabledChoice, choice_or, first_enabled_of, first_enabled, rest_on, rest_from, most_steps}
use Rattle.st_law.specs.State.{State, thread_count, is_worker, worker_at}
use Rattle.st_law.proofs.Copies.{copies_of}
use Rattle.st_law.proofs.EndOfRuns.{bound_of}
use Rattle.st_law.proofs.Invariant.{Invariant}
use Rattle.st_law.proofs.Laws.{invariant_of, lawful_step, lawful_history}
use Rattle.st_law.proofs.Learning.{session_plain}
use Rattle.st_law.proofs.LesseningAnswers.{lessens}
use Rattle.st_law.proofs.Potential.{steps_left}
use Rattle.st_law.proofs.Steps.{Says}
use Rattle.st_law.proofs.Ties.{state-is}
use Rattle.st_law.proofs.Whole.{whole_of}

-- ---- the first choice that is enabled

-- a choice that is found is enabled; if none is found, none of those that were tried is enabled
abbrev IsFound : Input → State → EnabledChoice → Type 0
IsFound i st found = entry_of i st found.choice ≡ Some found.entry

module _ (i : Input) (st : State) where
  found_or : (c : Choice) (o : Option Entry) (other : Option EnabledChoice) → entry_of i st c ≡ o → ((found : EnabledChoice) → other ≡ Some found → IsFound i st found) → (found : EnabledChoice) → choice_or c o other ≡ Some found → IsFound i st found
  found_or c None other e rest = rest
  found_or c (Some entry) other e rest = λ found f. subst (IsFound i st) (same found f) e where
    same : (found : EnabledChoice) → Some (record { choice = c; entry = entry }) ≡ Some found → record { choice = c; entry = entry } ≡ found
    same found f = cc

  found_of : (of : ℕ → Choice) (n count : ℕ) (other : Option EnabledChoice) → ((found : EnabledChoice) → other ≡ Some found → IsFound i st found) → (found : EnabledChoice) → first_enabled_of of i st n count other ≡ Some found → IsFound i st found
  found_of of n zero other rest = rest
  found_of of n (suc count) other rest = found_or (of n) (entry_of i st (of n)) (first_enabled_of of i st (suc n) count other) refl (found_of of (suc n) count other rest)

  none_found : (found : EnabledChoice) → None ≡ Some found → IsFound i st found
  none_found found e = cc

  pub first_found : (found : EnabledChoice) → first_enabled i st ≡ Some found → IsFound i st found
  first_found = found_of choice.Thread 1 (thread_count i) _ (found_of choice.Worker 1 i.options.workers _ (found_or choice.Operator (entry_of i st choice.Operator) None refl none_found))

  both_none : (c : Choice) (o : Option Entry) (other : Option EnabledChoice) → choice_or c o other ≡ None → (o ≡ None) × (other ≡ None)
  both_none c None other e = (refl, e)
  both_none c (Some entry) other e = cc

  none_of : (of : ℕ → Choice) (n count : ℕ) (other : Option EnabledChoice) → first_enabled_of of i st n count other ≡ None → ((p : ℕ) → n ≤ p → p < n + count → entry_of i st (of p) ≡ None) × (other ≡ None)
  none_of of n zero other e = ((λ p low high. absurd (omega (arith, low, high))), e)
  none_of of n (suc count) other e =
      let here : (entry_of i st (of n) ≡ None) × (first_enabled_of of i st (suc n) count other ≡ None) = both_none (of n) (entry_of i st (of n)) (first_enabled_of of i st (suc n) count other) e in
      let rest : ((p : ℕ) → suc n ≤ p → p < suc n + count → entry_of i st (of p) ≡ None) × (other ≡ None) = none_of of (suc n) count other here.1 in
      ((λ p low high. by p low high (n == p) refl here.0 rest.0), rest.1) where
        by : (p : ℕ) → n ≤ p → p < n + suc count → (b : Bool) → (n == p) ≡ b → entry_of i st (of n) ≡ None → ((p : ℕ) → suc n ≤ p → p < suc n + count → entry_of i st (of p) ≡ None) → entry_of i st (of p) ≡ None
        by p low high true f first later = subst (λ m. entry_of i st (of m) ≡ None) (eqb-true n p f) first
        by p low high false f first later = let differ = eqb-false n p f in later p (omega (arith, low, differ)) (omega (arith, high))

  -- a thread that hasn't started, and a worker that doesn't exist, have no step
  unstarted : (t : ℕ) → (st.threads t).owner ≡ 0 → thread_entry i st t ≡ None
  unstarted t e = ap (λ b. cond (b || (st.threads t).ended) None (cond (st.threads t).dying (Some (Ended t)) (running_entry i st t (st.threads t).pending))) (eq-eqb (st.threads t).owner 0 e)

  -- if no first choice is found, no choice is enabled
  pub none_enabled : Invariant i st → first_enabled i st ≡ None → IsSettled i st
  none_enabled inv e =
      let threads = none_of choice.Thread 1 (thread_count i) _ e in
      let workers = none_of choice.Worker 1 i.options.workers _ threads.1 in
      let operator = both_none choice.Operator (entry_of i st choice.Operator) None workers.1 in
      by threads.0 workers.0 operator.0 where
        by : ((p : ℕ) → 1 ≤ p → p < 1 + thread_count i → entry_of i st (choice.Thread p) ≡ None) → ((p : ℕ) → 1 ≤ p → p < 1 + i.options.workers → entry_of i st (choice.Worker p) ≡ None) → entry_of i st choice.Operator ≡ None → (c : Choice) → entry_of i st c ≡ None
        by threads workers operator (choice.Thread t) = thread ((st.threads t).owner == 0) refl where
          thread : (b : Bool) → ((st.threads t).owner == 0) ≡ b → thread_entry i st t ≡ None
          thread true f = unstarted t (eqb-true (st.threads t).owner 0 f)
          thread false f = let there : IsThread i t = inv.started t (eqb-false (st.threads t).owner 0 f) in let high = there.1 in threads t there.0 (omega (arith, high))
        by threads workers operator (choice.Worker w) = worker (is_worker i w) refl where
          worker : (b : Bool) → is_worker i w ≡ b → entry_of i st (choice.Worker w) ≡ None
          worker true f = let parts = and_parts (nat_lt 0 w) (nat_le w i.options.workers) f in
              let low = ltb-true 0 w parts.0 in let high = leb-true w i.options.workers parts.1 in workers w (omega (arith, low)) (omega (arith, high))
          worker false f = ap (λ b. cond b (turn_entry i st w (worker_at st w)) None) f
        by threads workers operator choice.Operator = operator

-- ---- `rest`

module _ (i : Input) (startable : IsStartable i) where
  run_of : (made : List Choice) (c : Choice) → history i (reverse (made ++ c ∷ [])) ≡ history_with (history i (reverse made)) (entry_of i (state_of_run i made) c)
  run_of made c = ap (history i) (reverse-append made (c ∷ []))

  -- the invariant of a run
  inv_of : (made : List Choice) → Invariant i (state_of_run i made)
  inv_of made = subst (Invariant i) (sym (state-is i (history i (reverse made)))) (invariant_of i startable (history i (reverse made)) (lawful_history i startable (reverse made)))

  lawful_entry : (made : List Choice) (c : Choice) (e : Entry) → entry_of i (state_of_run i made) c ≡ Some e → IsLawful i (looking_back i (history i (reverse made))) e
  lawful_entry made c e enabled = subst (Says (IsLawful i (looking_back i (history i (reverse made))))) enabled (lawful_step i startable (history i (reverse made)) c (lawful_history i startable (reverse made)))

  -- the entry of the first choice leaves at least one step less
  found_less : (made : List Choice) (found : EnabledChoice) → first_enabled i (state_of_run i made) ≡ Some found → steps_left i (state_after i (looking_back i (history i (reverse made))) found.entry) + 1 ≤ steps_left i (looking_back i (history i (reverse made)))
  found_less made found e =
      let lawful : IsLawfulBack i (history i (reverse made)) = lawful_history i startable (reverse made) in
      lessens i (looking_back i (history i (reverse made))) (whole_of i startable (history i (reverse made)) lawful) (copies_of i startable (history i (reverse made)) lawful) startable.few_threads (session_plain i startable (history i (reverse made))) found.entry
      (lawful_entry made found.choice found.entry (first_found i (state_of_run i made) found e))

  -- after the first choice the history has its entry
  found_history : (made : List Choice) (found : EnabledChoice) → first_enabled i (state_of_run i made) ≡ Some found → history i (reverse (made ++ found.choice ∷ [])) ≡ found.entry ∷ history i (reverse made)
  found_history made found e = run_of made found.choice ∙ ap (history_with (history i (reverse made))) (first_found i (state_of_run i made) found e)

  rested_at : (made : List Choice) → first_enabled i (state_of_run i made) ≡ None → IsRested i (record { choices = made; state = state_of_run i made })
  rested_at made e = record { reached = refl; settled = none_enabled i (state_of_run i made) (inv_of made) e }

  rest_over : (made : List Choice) → steps_left i (looking_back i (history i (reverse made))) ≤ 0 → (o : Option EnabledChoice) → first_enabled i (state_of_run i made) ≡ o → IsRested i (record { choices = made; state = state_of_run i made })
  rest_over made few None e = rested_at made e
  rest_over made few (Some found) e = let less = found_less made found e in absurd (omega (arith, less, few))

  rest_further : (count : ℕ) (made : List Choice) → steps_left i (looking_back i (history i (reverse made))) ≤ suc count → ((next : List Choice) → steps_left i (looking_back i (history i (reverse next))) ≤ count → IsRested i (rest_from count i (state_of_run i next) next)) → (o : Option EnabledChoice) → first_enabled i (state_of_run i made) ≡ o → IsRested i (rest_on (record { choices = made; state = state_of_run i made }) (λ found. rest_from count i (state_after i (state_of_run i made) found.entry) (made ++ found.choice ∷ [])) o)
  rest_further count made few rest None e = rested_at made e
  rest_further count made few rest (Some found) e =
      let same : history i (reverse (made ++ found.choice ∷ [])) ≡ found.entry ∷ history i (reverse made) = found_history made found e in
      let less = found_less made found e in
      let left : steps_left i (looking_back i (history i (reverse (made ++ found.choice ∷ [])))) ≡ steps_left i (looking_back i (found.entry ∷ history i (reverse made))) = ap (λ h. steps_left i (looking_back i h)) same in
      subst (λ st. IsRested i (rest_from count i st (made ++ found.choice ∷ []))) (ap (state_at i) same) (rest (made ++ found.choice ∷ []) (omega (arith, less, few, left)))

  rest_ends : (count : ℕ) (made : List Choice) → steps_left i (looking_back i (history i (reverse made))) ≤ count → IsRested i (rest_from count i (state_of_run i made) made)
  rest_ends zero made few = rest_over made few (first_enabled i (state_of_run i made)) refl
  rest_ends (suc count) made few = rest_further count made few (rest_ends count) (first_enabled i (state_of_run i made)) refl

  -- after the choices that `rest` gives no choice is enabled, whatever was played before and however many more choices it may make
  pub rest_settles : (made : List Choice) (count : ℕ) → most_steps i ≤ count → IsRested i (rest_from count i (state_of_run i made) made)
  rest_settles made count enough = rest_ends count made (let bound = bound_of i startable (history i (reverse made)) (lawful_history i startable (reverse made)) in omega (arith, bound, enough))
