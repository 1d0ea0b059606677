-- A thread starts once, if its script can start it in at most one way: so a fork starts a thread that hasn't started.
use native.Mathlib.Omega.{arith}
use Rattle.std.proofs.Common.{◌≡◌, ◌≢◌, ◌≤◌, ℕ, suc, ◌+◌, Bool, true, false, cond, ◌&&◌, ◌==◌, List, [], ◌∷◌, Option, Some, None, refl, sym, ap, subst, ◌∙◌}
use Rattle.std.proofs.lemmas.Bool.{eq-eqb, eqb-true, ne_eqb}
use Rattle.std.specs.Prelude.{is_some, unwrap_or}
use Rattle.st_base.specs.Numbered.{item_at_number}
use Rattle.st_base.specs.declared.ids.Ids.{Ids}
use Rattle.st_calls.specs.declared.argument.ArgText.{ArgText}
use Rattle.st_calls.specs.declared.call.SysCall.{SysCall}
use Rattle.st_calls.specs.declared.call.SysCall.TheVariants as calls
use Rattle.st_effects.specs.Changes.{owner_after, owner_after_change}
use Rattle.st_effects.specs.Processes.{is_other_of, policy_changes, renewals}
use Rattle.st_trace.specs.Instructions.{IsCallOf}
use Rattle.st_trace.specs.declared.entry.Change.{Change}
use Rattle.st_trace.specs.declared.entry.Change.TheVariants.{Forked, Execed, SetIds}
use Rattle.st_trace.specs.declared.entry.Choice.{Choice}
use Rattle.st_trace.specs.declared.entry.Way.{Way}
use Rattle.st_trace.specs.declared.start.Instr.{Instr}
use Rattle.st_trace.specs.declared.start.Instr.TheVariants.{Store, Call, Fork, Reload}
use Rattle.st_trace.specs.declared.start.ThreadRow.{ThreadRow}
use Rattle.st_law.specs.declared.input.Input.{Input}
use Rattle.st_law.specs.Inputs.{IsStartable, IsThread}
use Rattle.st_law.specs.Machine.{first_state, state_of_run}
use Rattle.st_law.specs.State.{State, child_of_pending, held_from, is_held_under, reload_changes, request_of, system_of, thread_count}
use Rattle.st_law.specs.Threads.{PendingCall, child_of_next, owner_of_row}
use Rattle.st_law.proofs.Invariant.{Fine, HasChild, IfPending, Invariant}
use Rattle.st_law.proofs.QuietChanges.{owner_quiet}
use Rattle.st_law.proofs.Renewals.{renewals_same}
use Rattle.st_law.proofs.Shapes.{Shape, quiet, forked, execed, renewed}
use Rattle.st_law.proofs.Sums.{total_drop}
use Rattle.st_law.proofs.UsedShapes.{used_shape}
use Rattle.st_reached.specs.Reached.{ForksStartNew}
use Rattle.st_reached.specs.Scripts.{StartOnce, is_start_of, starts_by_row, starts_of}
use Rattle.st_reached.proofs.Reached.{reached_run}
use Rattle.st_reached.proofs.Spending.{Spends, all_of, left_of, of_pending, of_thread, spent_most}

-- 1 if a thread has started, by its process, otherwise 0
abbrev started_by : ℕ → ℕ
started_by owner = cond (owner == 0) 0 1

started_most : (owner : ℕ) → started_by owner ≤ 1
started_most owner = by (owner == 0) where
  by : (b : Bool) → cond b 0 1 ≤ 1
  by true = omega arith
  by false = omega arith

unstarted : (owner : ℕ) → started_by owner ≤ 0 → owner ≡ 0
unstarted owner low = by (owner == 0) refl low where
  by : (b : Bool) → (owner == 0) ≡ b → cond b 0 1 ≤ 0 → owner ≡ 0
  by true is low = eqb-true owner 0 is
  by false is low = absurd (omega (arith, low))

-- 1 if true, otherwise 0
abbrev one_if : Bool → ℕ
one_if b = cond b 1 0

-- ---- the starts of thread c

module _ (c : ℕ) where
  abbrev worth : Instr → ℕ
  worth x = one_if (is_start_of c x)

  abbrev call_worth : PendingCall → ℕ
  call_worth entered = one_if (entered.child == c)

  abbrev started : State → ℕ
  started st = started_by (st.threads c).owner

  -- ---- a call that is made starts the thread if it forks it

  module _ (i : Input) (st : State) (u : ℕ) (regs : List ℕ) (args : List ArgText) (ids : Ids) (call : SysCall) (entered : PendingCall) (pending : (st.threads u).pending ≡ Some entered) where
    abbrev owner : ℕ
    owner = (st.threads c).owner

    abbrev StartsOne : List Change → Type 0
    StartsOne changes = started_by (owner_after c owner changes) ≤ started_by owner + call_worth entered

    same_starts : (changes : List Change) → owner_after c owner changes ≡ owner → StartsOne changes
    same_starts changes same = let kept : started_by (owner_after c owner changes) ≡ started_by owner = ap started_by same in omega (arith, kept)

    fork_by : (b : Bool) → (entered.child == c) ≡ b → started_by (cond (b && owner == 0) st.next_process owner) ≤ started_by owner + one_if b
    fork_by true is = let most = started_most (cond (owner == 0) st.next_process owner) in omega (arith, most)
    fork_by false is = omega arith

    fork_starts : StartsOne (Forked st.next_process st.next_space (child_of_pending (st.threads u).pending) ∷ [])
    fork_starts = subst (λ o. StartsOne (Forked st.next_process st.next_space (child_of_pending o) ∷ [])) (sym pending) (fork_by (entered.child == c) refl)

    exec_starts : (binary : List ℕ) (inherit : Bool) → StartsOne (Execed binary st.next_space ∷ policy_changes inherit binary)
    exec_starts binary true = omega arith
    exec_starts binary false = omega arith

    shape_starts : (changes : List Change) → Shape (system_of i st) (request_of i st u regs args ids) call changes → StartsOne changes
    shape_starts changes (quiet x) = same_starts changes (owner_quiet c owner changes x)
    shape_starts changes (forked is e) = subst StartsOne (sym e) fork_starts
    shape_starts changes (execed binary e) = subst StartsOne (sym e) (exec_starts binary i.options.inherit)
    shape_starts changes (renewed set sets e) = subst StartsOne (sym e) (same_starts (SetIds set ∷ renewals (st.threads u).owner u (suc st.posted) (held_from st 1 (thread_count i)))
        (renewals_same (is_other_of (st.threads u).owner u) (owner_after_change c) (λ o old fresh. refl) owner (suc st.posted) (held_from st 1 (thread_count i))))

  -- ---- an instruction is worth what its call is

  module _ (there : c ≢ 0) where
    none_worth : one_if (0 == c) + 0 ≤ 0
    none_worth = let none : one_if (0 == c) ≡ 0 = ap one_if (ne_eqb 0 c (λ same. there (sym same))) in omega (arith, none)

    entered_worth : (x : Instr) (later : List Instr) (call : SysCall) (regs : List ℕ) (way : Way) → IsCallOf x call regs → call_worth (record { call = call; regs = regs; way = way; child = child_of_next (x ∷ later) }) + 0 ≤ worth x
    entered_worth (Store place word) later call regs way makes = absurd makes
    entered_worth (Call own own_regs) later call regs way makes = none_worth
    entered_worth (Fork child) later call regs way makes = omega arith
    entered_worth (Reload n) later call regs way makes = absurd makes

    reload_starts : (i : Input) (st : State) (n : ℕ) (done : Bool) → owner_after c (st.threads c).owner (reload_changes i st n done) ≡ (st.threads c).owner
    reload_starts i st n true = renewals_same (is_held_under i st n) (owner_after_change c) (λ o old fresh. refl) (st.threads c).owner (suc st.posted) (held_from st 1 (thread_count i))
    reload_starts i st n false = refl

    starts_spent : (i : Input) → Spends worth call_worth i started
    starts_spent i = record {
      entering = 0;
      entered = entered_worth;
      enters = λ st u call regs way. omega arith;
      still = λ st e none unentered. ap (λ changes. started_by (owner_after c (st.threads c).owner changes)) none;
      used = λ st u seq call regs args ids result changes entered pending same y. shape_starts i st u regs args ids call entered pending changes (used_shape i st u call regs args ids result changes seq y);
      reloaded = λ st u n done changes y.
          let same : started_by (owner_after c (st.threads c).owner changes) ≡ started_by (st.threads c).owner = ap started_by (ap (owner_after c (st.threads c).owner) y.changes_are ∙ reload_starts i st n done) in omega (arith, same);
    }

  -- ---- at first

  row_starts : (o : Option ThreadRow) → started_by (owner_of_row o) ≤ starts_by_row o
  row_starts None = omega arith
  row_starts (Some row) = by row.process where
    by : (process : Option ℕ) → started_by (unwrap_or process 0) ≤ cond (is_some process) 1 0
    by None = omega arith
    by (Some p) = started_most p

  first_starts : (i : Input) → started (first_state i) + all_of worth call_worth i.start.threads ≤ starts_of i.start c
  first_starts i = let row = row_starts (item_at_number i.start.threads c) in omega (arith, row)

  -- ---- a pending fork of the thread

  module _ (i : Input) (st : State) (inv : Invariant i st) (t : ℕ) (entered : PendingCall) (pending : (st.threads t).pending ≡ Some entered) where
    -- the thread of the fork is one of the script
    owner_there : IsThread i t
    owner_there = let fine : Fine st t entered = subst (IfPending (Fine st t)) pending (inv.fine t) in inv.started t fine.started

    here_left : entered.child ≡ c → 0 + 1 ≤ of_thread worth call_worth (st.threads t)
    here_left is =
        let one : call_worth entered ≡ 1 = ap one_if (eq-eqb entered.child c is) in
        let own : of_pending worth call_worth (st.threads t).pending ≡ call_worth entered = ap (of_pending worth call_worth) pending in
        omega (arith, one, own)

    some_left : entered.child ≡ c → 1 ≤ left_of worth call_worth i st
    some_left is =
        let low = owner_there.0 in
        let high = owner_there.1 in
        let sums = total_drop (λ n. 0) (λ n. of_thread worth call_worth (st.threads n)) 1 (thread_count i) t 1 (λ n from to. omega arith) low (omega (arith, high)) (here_left is) in
        omega (arith, sums)

-- ---- every run

module _ (i : Input) (startable : IsStartable i) (once : StartOnce i.start) (choices : List Choice) where
  abbrev reached : State
  reached = state_of_run i choices

  new_child : (t : ℕ) (entered : PendingCall) → (reached.threads t).pending ≡ Some entered → entered.call ≡ calls.Fork → (reached.threads entered.child).owner ≡ 0
  new_child t entered pending is =
      let inv : Invariant i reached = (reached_run i startable choices).whole.calls in
      let child : HasChild i entered = subst (IfPending (HasChild i)) pending (inv.children t) in
      let there : IsThread i entered.child = child.child is in
      let c : ℕ = entered.child in
      let low = there.0 in
      let most = spent_most (worth c) (call_worth c) i startable (started c) (starts_spent c (λ none. omega (arith, none, low)) i) choices in
      let first = first_starts c i in
      let one = once c in
      let some = some_left c i reached inv t entered pending refl in
      unstarted (reached.threads c).owner (omega (arith, most, first, one, some))

  -- a pending fork names a thread that hasn't started
  pub forks_start_new : ForksStartNew reached
  forks_start_new = record { child = new_child }
