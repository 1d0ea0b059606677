-- What each kind of changes leaves of threads, processes and numbers.
use native.Mathlib.Omega.{arith}
use Rattle.std.proofs.Common.{◌≡◌, ◌≢◌, ◌<◌, ℕ, suc, Bool, true, false, cond, not, ◌&&◌, ◌||◌, ◌==◌, List, [], ◌∷◌, Option, refl, sym, ap, subst, ◌∙◌}
use Rattle.std.proofs.lemmas.Bool.{eqb-true, ne_eqb, and_right, or_parts}
use Rattle.st_base.specs.declared.ids.Ids.{Ids}
use Rattle.st_calls.specs.declared.argument.ArgText.{ArgText}
use Rattle.st_calls.specs.declared.call.SysCall.{SysCall}
use Rattle.st_effects.specs.Changes.{process_after}
use Rattle.st_effects.specs.Processes.{policy_changes}
use Rattle.st_trace.specs.declared.entry.CallResult.{CallResult}
use Rattle.st_trace.specs.declared.entry.Change.{Change}
use Rattle.st_trace.specs.declared.entry.Change.TheVariants.{Forked, Execed, Policy}
use Rattle.st_law.specs.declared.input.Input.{Input}
use Rattle.st_law.specs.Inputs.{IsThread}
use Rattle.st_law.specs.State.{State, process_in}
use Rattle.st_law.proofs.Invariant.{Invariant}
use Rattle.st_law.proofs.QuietChanges.{mute_of, mute_of_quiet, owner_quiet, next_quiet, ids_quiet, policy_quiet}
use Rattle.st_law.proofs.Shapes.{AreQuiet}
use Rattle.st_law.proofs.UsedKept.{IsOpenSeq, new, Keeps, mute_keeps}

module _ (i : Input) (st : State) (inv : Invariant i st) (u : ℕ) (seq : Option ℕ) (open_seq : IsOpenSeq st u seq) (call : SysCall) (regs : List ℕ) (args : List ArgText) (ids : Ids) (result : CallResult) where
  abbrev after : List Change → State
  after changes = new i st inv u seq open_seq call regs args ids result changes

  abbrev Kept : List Change → Type 0
  Kept changes = Keeps i st inv u seq open_seq call regs args ids result changes

  m : ℕ
  m = (st.threads u).owner

  -- ---- changes that leave processes

  module _ (changes : List Change) (quiet : AreQuiet changes) where
    same_owner : (t : ℕ) → ((after changes).threads t).owner ≡ (st.threads t).owner
    same_owner t = owner_quiet t (st.threads t).owner changes quiet

    pub quiet_keeps : Kept changes
    quiet_keeps = mute_keeps i st inv u seq open_seq call regs args ids result changes (mute_of_quiet changes quiet)
        (λ t there. inv.started t (λ none. there (same_owner t ∙ none)))
        (λ t. let low = inv.owners t in let same = same_owner t in let next = next_quiet st.next_process changes quiet in omega (arith, low, same, next))
        (λ t there. same_owner t)
        (λ t there differ undying. policy_quiet st.processes (st.threads u).owner ((after changes).threads t).owner changes quiet ∙ ap (λ p. (st.processes p).policy) (same_owner t))
        (λ t there differ undying. ids_quiet st.processes (st.threads u).owner ((after changes).threads t).owner changes quiet ∙ ap (λ p. (st.processes p).ids) (same_owner t))

  -- ---- a fork

  module _ (child : ℕ) (there : IsThread i child) where
    abbrev fork : List Change
    fork = Forked st.next_process st.next_space child ∷ []

    fork_started : (t : ℕ) (b : Bool) → (child == t && (st.threads t).owner == 0) ≡ b → cond b st.next_process (st.threads t).owner ≢ 0 → IsThread i t
    fork_started t true e owned = subst (IsThread i) (eqb-true child t (first_true (child == t) ((st.threads t).owner == 0) e)) there where
      first_true : (a b : Bool) → (a && b) ≡ true → a ≡ true
      first_true true b f = refl
      first_true false b f = cc
    fork_started t false e owned = inv.started t owned

    fork_owners : (t : ℕ) (b : Bool) → cond b st.next_process (st.threads t).owner < suc st.next_process
    fork_owners t true = omega arith
    fork_owners t false = let low = inv.owners t in omega (arith, low)

    fork_owner : (t : ℕ) → (st.threads t).owner ≢ 0 → ((after fork).threads t).owner ≡ (st.threads t).owner
    fork_owner t owned = ap (λ b. cond b st.next_process (st.threads t).owner) (and_right (child == t) ((st.threads t).owner == 0) (ne_eqb (st.threads t).owner 0 owned))

    fork_process : (t : ℕ) → (st.threads t).owner ≢ 0 → process_in (after fork) t ≡ process_in st t
    fork_process t owned = ap (λ p. process_after st.processes (st.threads u).owner p fork) (fork_owner t owned)
        ∙ ap (λ b. cond b (record (st.processes (st.threads u).owner) { space = st.next_space }) (process_in st t)) (ne_eqb st.next_process (st.threads t).owner (λ same. let low = inv.owners t in omega (arith, same, low)))

    pub fork_keeps : Kept fork
    fork_keeps = mute_keeps i st inv u seq open_seq call regs args ids result fork (mute_of (Forked st.next_process st.next_space child) tt, tt)
        (λ t owned. fork_started t (child == t && (st.threads t).owner == 0) refl owned)
        (λ t. fork_owners t (child == t && (st.threads t).owner == 0))
        (λ t owned. fork_owner t owned)
        (λ t owned differ undying. ap (λ p. p.policy) (fork_process t owned))
        (λ t owned differ undying. ap (λ p. p.ids) (fork_process t owned))

  -- ---- an execve

  module _ (binary : List ℕ) where
    -- a thread is of another process: those of this process are dying, except the caller
    elsewhere : (t : ℕ) (dying : Bool) → t ≢ u → (dying || ((st.threads u).owner == (st.threads t).owner && not (u == t))) ≡ false → ((st.threads u).owner == (st.threads t).owner) ≡ false
    elsewhere t dying differ e =
        unlike ((st.threads u).owner == (st.threads t).owner) (u == t) (ne_eqb u t (λ same. differ (sym same))) ((or_parts dying ((st.threads u).owner == (st.threads t).owner && not (u == t)) e).1) where
          unlike : (a b : Bool) → b ≡ false → (a && not b) ≡ false → a ≡ false
          unlike true true f e = cc
          unlike true false f e = cc
          unlike false b f e = refl

    exec_process : (inherit : Bool) (p : ℕ) → ((st.threads u).owner == p) ≡ false → process_after st.processes (st.threads u).owner p (Execed binary st.next_space ∷ policy_changes inherit binary) ≡ st.processes p
    exec_process true p e = ap (λ b. cond b (record (st.processes p) { space = st.next_space }) (st.processes p)) e
    exec_process false p e = (λ k. cond (e k) (record (cond (e k) (record (st.processes p) { space = st.next_space }) (st.processes p)) { policy = binary }) (cond (e k) (record (st.processes p) { space = st.next_space }) (st.processes p)))

    pub exec_keeps : (inherit : Bool) → Kept (Execed binary st.next_space ∷ policy_changes inherit binary)
    exec_keeps true = mute_keeps i st inv u seq open_seq call regs args ids result (Execed binary st.next_space ∷ []) (mute_of (Execed binary st.next_space) tt, tt)
        inv.started inv.owners (λ t owned. refl)
        (λ t owned differ undying. ap (λ p. p.policy) (exec_process true (st.threads t).owner (elsewhere t (st.threads t).dying differ undying)))
        (λ t owned differ undying. ap (λ p. p.ids) (exec_process true (st.threads t).owner (elsewhere t (st.threads t).dying differ undying)))
    exec_keeps false = mute_keeps i st inv u seq open_seq call regs args ids result (Execed binary st.next_space ∷ Policy binary ∷ [])
        (mute_of (Execed binary st.next_space) tt, (mute_of (Policy binary) tt, tt))
        inv.started inv.owners (λ t owned. refl)
        (λ t owned differ undying. ap (λ p. p.policy) (exec_process false (st.threads t).owner (elsewhere t (st.threads t).dying differ undying)))
        (λ t owned differ undying. ap (λ p. p.ids) (exec_process false (st.threads t).owner (elsewhere t (st.threads t).dying differ undying)))
