-- The end of a thread, and of its process if this was the last thread.
use native.Mathlib.Omega.{arith}
use Rattle.std.proofs.Common.{◌≡◌, ◌≢◌, ◌≤◌, ◌∙◌, ℕ, ◌+◌, Bool, true, false, cond, not, ◌&&◌, ◌||◌, ◌==◌, Option, Some, None, refl, ap, subst, sym, inl, inr}
use Rattle.std.proofs.lemmas.Bool.{true≢false, and_parts, cases_eq, eq-eqb, eqb-true, eqb-false, ne_eqb, false_from_ne_true, not-true}
use Rattle.std.specs.Prelude.{◌↔◌, IsTrue, is_some}
use Rattle.std.specs.Option.{option_map}
use Rattle.st_model.specs.DescriptorCalls.{table_after_close_all}
use Rattle.st_model.specs.Descriptors.{Table}
use Rattle.st_model.specs.Processes.{Processes, StartedThread, has_not_ended, is_running, next_pid, pid_of, process_at, thread_at}
use Rattle.st_procs.specs.Laws.{IsLast, ThreadEnds}
use Rattle.st_trace.specs.declared.entry.Entry.TheVariants.{Ended}
use Rattle.st_law.specs.declared.input.Input.{Input}
use Rattle.st_law.specs.Machine.{state_after}
use Rattle.st_law.specs.State.{State, ThreadState, is_last_thread, is_running_in, thread_count, table_after}
use Rattle.st_law.proofs.Least.{least, NoneOf}
use Rattle.st_system.specs.System.{IsAmong, IsSystem, IsThreadState, Parts}

-- a thread that has started, by the row of one that runs
running_row : (o : Option StartedThread) (row : ThreadState) (p : ℕ) → p ≢ 0 → IsThreadState o row → row.owner ≡ p → row.ended ≡ false → (option_map (λ (thread : StartedThread). thread.pid) o ≡ Some p) × (has_not_ended o ≡ true)
running_row None row p ne x owner ended = absurd (ne (sym owner ∙ x.0))
running_row (Some thread) row p ne x owner ended = (ap Some (sym x.0 ∙ owner), ap not (sym x.1 ∙ ended))

row_of : (o : Option StartedThread) (row : ThreadState) (p : ℕ) → IsThreadState o row → option_map (λ (thread : StartedThread). thread.pid) o ≡ Some p → (row.owner ≡ p) × (row.ended ≡ not (has_not_ended o))
row_of None row p x is = absurd cc
row_of (Some thread) row p x is = (x.0 ∙ cc, x.1 ∙ twice thread.ended) where
  twice : (b : Bool) → b ≡ not (not b)
  twice true = refl
  twice false = refl

known_some : (count t p : ℕ) (o : Option StartedThread) → IsAmong count t o → option_map (λ (thread : StartedThread). thread.pid) o ≡ Some p → (1 ≤ t) × (t ≤ count)
known_some count t p None x is = absurd cc
known_some count t p (Some thread) x is = x

both_true : (a b c : Bool) → a ≡ true → b ≡ true → c ≡ true → ((a && b) && c) ≡ true
both_true true true true x y z = refl
both_true true true false x y z = z
both_true true false c x y z = absurd (true≢false (sym y))
both_true false b c x y z = absurd (true≢false (sym x))

ended_row : (t u : ℕ) (b : Bool) → (t == u) ≡ b → (before : Bool) → (b || before) ≡ cond b true before
ended_row t u true e before = refl
ended_row t u false e before = refl

module _ (i : Input) (st : State) (parts : Parts) (x : IsSystem i st parts) (t p : ℕ) (is : pid_of parts.processes t ≡ Some p) (there : p ≢ 0) where
  owner : (st.threads t).owner ≡ p
  owner = (row_of (thread_at parts.processes t) (st.threads t) p (x.threads t) is).0

  abbrev others : ℕ → Bool
  others u = is_running_in st (st.threads t).owner u && not (u == t)

  -- if another thread runs, this wasn't the last
  not_last : (u : ℕ) → others u ≡ true → IsLast parts.processes t → ⊥
  not_last u found last =
      let outer = and_parts (is_running_in st (st.threads t).owner u) (not (u == t)) found in
      let inner = and_parts ((st.threads u).owner == (st.threads t).owner) (not (st.threads u).ended) outer.0 in
      let runs = running_row (thread_at parts.processes u) (st.threads u) p there (x.threads u) (eqb-true (st.threads u).owner (st.threads t).owner inner.0 ∙ owner) (not-true (st.threads u).ended inner.1) in
      true≢false (sym runs.1 ∙ last u (eqb-false u t (not-true (u == t) outer.1)) (runs.0 ∙ sym is))

  last_if_none : NoneOf others 1 (1 + thread_count i) → IsLast parts.processes t
  last_if_none none u ne same = false_from_ne_true (is_running parts.processes u) (λ runs.
      let row = row_of (thread_at parts.processes u) (st.threads u) p (x.threads u) (same ∙ is) in
      let at = known_some (thread_count i) u p (thread_at parts.processes u) (x.among u) (same ∙ is) in
      let low = at.0 in let high = at.1 in
      true≢false (sym (both_true ((st.threads u).owner == (st.threads t).owner) (not (st.threads u).ended) (not (u == t))
      (eq-eqb (st.threads u).owner (st.threads t).owner (row.0 ∙ sym owner)) (ap not (row.1 ∙ ap not runs)) (ap not (ne_eqb u t ne)))
      ∙ none u low (omega (arith, high))))

  -- whether the thread was the last
  last_is : (r : Bool) → (IsTrue r ↔ IsLast parts.processes t) → r ≡ is_last_thread i st t
  last_is r iff = least (λ o. r ≡ not (is_some o)) others 1 (thread_count i)
      (λ u f. false_from_ne_true r (λ holds. not_last u f.holds (iff.0 holds)))
      (λ none. iff.1 (last_if_none none))

  -- the descriptors after the end
  table : (r : Bool) → (IsTrue r ↔ IsLast parts.processes t) → (new : Table) → new ≡ cond r (table_after_close_all parts.descriptors p) parts.descriptors → table_after i st (Ended t) ≡ new
  table r iff new is_new = (λ k. cond (sym (last_is r iff) k) (table_after_close_all (x.descriptors k) (owner k)) (x.descriptors k)) ∙ sym is_new

  -- each thread's row after the end
  module _ (new : Processes) (ends : ThreadEnds parts.processes t new) where
    own : (o : Option StartedThread) → thread_at parts.processes t ≡ o → IsThreadState o (st.threads t) → IsThreadState (option_map (λ (thread : StartedThread). record thread { ended = true }) o) ((state_after i st (Ended t)).threads t)
    own None e y = absurd (let none : option_map (λ (thread : StartedThread). thread.pid) (thread_at parts.processes t) ≡ None = ap (option_map (λ (thread : StartedThread). thread.pid)) e in cc)
    own (Some thread) e y = (y.0, ap (λ b. b || (st.threads t).ended) (eq-eqb t t refl))

    other : (u : ℕ) → u ≢ t → (o : Option StartedThread) → IsThreadState o (st.threads u) → IsThreadState o ((state_after i st (Ended t)).threads u)
    other u ne None y = (y.0, ap (λ b. b || (st.threads u).ended) (ne_eqb t u (λ e. ne (sym e))) ∙ y.1)
    other u ne (Some thread) y = (y.0, ap (λ b. b || (st.threads u).ended) (ne_eqb t u (λ e. ne (sym e))) ∙ y.1)

    row : (u : ℕ) → IsThreadState (thread_at new u) ((state_after i st (Ended t)).threads u)
    row u = elim (cases_eq u t) [
      | inl e ↦ subst (λ v. IsThreadState (thread_at new v) ((state_after i st (Ended t)).threads v)) (sym e)
          (subst (λ o. IsThreadState o ((state_after i st (Ended t)).threads t)) (sym (ends t ∙ ap (λ b. cond b (option_map (λ (thread : StartedThread). record thread { ended = true }) (thread_at parts.processes t)) (thread_at parts.processes t)) (eq-eqb t t refl)))
          (own (thread_at parts.processes t) refl (x.threads t)))
      | inr ne ↦ subst (λ o. IsThreadState o ((state_after i st (Ended t)).threads u)) (sym (ends u ∙ ap (λ b. cond b (option_map (λ (thread : StartedThread). record thread { ended = true }) (thread_at parts.processes t)) (thread_at parts.processes u)) (ne_eqb u t ne)))
          (other u ne (thread_at parts.processes u) (x.threads u))
    ]

    among_of : (u : ℕ) (b : Bool) (o : Option StartedThread) → IsAmong (thread_count i) u o → (mine : Option StartedThread) → (b ≡ true → IsAmong (thread_count i) u mine)
        → IsAmong (thread_count i) u (cond b (option_map (λ (thread : StartedThread). record thread { ended = true }) mine) o)
    among_of u true o y None z = tt
    among_of u true o y (Some thread) z = z refl
    among_of u false o y mine z = y

    pub ended : (r : Bool) → (IsTrue r ↔ IsLast parts.processes t) → (table_new : Table) → table_new ≡ cond r (table_after_close_all parts.descriptors p) parts.descriptors
        → new.rows ≡ parts.processes.rows → IsSystem i (state_after i st (Ended t)) (record { tree = parts.tree; descriptors = table_new; processes = new; memories = parts.memories })
    ended r iff table_new is_table rows = record {
      tree = x.tree;
      descriptors = table r iff table_new is_table;
      processes = λ q. x.processes q ∙ ap (λ rows. process_at (record { rows = rows; threads = new.threads }) q) (sym rows);
      next_process = x.next_process ∙ ap (λ rows. next_pid (record { rows = rows; threads = new.threads })) (sym rows);
      memory = x.memory;
      next_space = x.next_space;
      threads = row;
      among = λ u. subst (IsAmong (thread_count i) u) (sym (ends u)) (among_of u (u == t) (thread_at parts.processes u) (x.among u) (thread_at parts.processes t)
          (λ e. subst (λ v. IsAmong (thread_count i) v (thread_at parts.processes t)) (sym (eqb-true u t e)) (x.among t)));
    }
