-- The system after a call on processes, ids and sockets.
use native.Mathlib.Omega.{arith}
use Rattle.std.proofs.Common.{◌≡◌, ◌≢◌, ◌≤◌, ◌<◌, ◌∙◌, ◌⊎◌, ℕ, suc, Bool, true, false, cond, not, ◌&&◌, ◌==◌, List, [], ◌∷◌, Option, Some, None, inl, inr, refl, ap, subst, sym}
use Rattle.std.proofs.lemmas.Bool.{cases_eq, cases_lt, eq-eqb, le-leb, lt-leb, ne_eqb}
use Rattle.std.specs.Prelude.{nat_lt}
use Rattle.st_base.specs.Errno.{first_error}
use Rattle.st_base.specs.declared.errno.Errno.{Errno}
use Rattle.st_base.specs.declared.ids.Ids.{Ids}
use Rattle.st_calls.specs.declared.call.SysCall.{SysCall}
use Rattle.st_calls.specs.declared.call.SysCall.TheVariants.{Fork, Exit, Kill, GetPid, GetUid, GetEuid, SetUid, SetEuid, SetGid, SetEgid, Socket, Bind, Connect}
use Rattle.st_memory.specs.Memory.{Memories, byte_in, next_space}
use Rattle.st_memory.specs.Memory as spaces
use Rattle.st_model.specs.Descriptors.{Table, has_table}
use Rattle.st_model.specs.Process.{Process}
use Rattle.st_model.specs.Processes.{Processes, StartedThread, IsPid, next_pid, pid_of, process_at, thread_at}
use Rattle.st_model.specs.Tree.{Tree}
use Rattle.st_procs.specs.Laws.{AreOrdered}
use Rattle.st_effects.specs.Changes.{next_process_after, next_space_after, owner_after, process_after, tree_after}
use Rattle.st_effects.specs.Effect.{effect}
use Rattle.st_effects.specs.System.{Outcome, Request, System, unless_error, unless_refused}
use Rattle.st_trace.specs.declared.entry.CallResult.{CallResult}
use Rattle.st_trace.specs.declared.entry.Change.{Change}
use Rattle.st_trace.specs.declared.entry.Change.TheVariants.{Dying, Forked, SetIds}
use Rattle.st_exec_sys.specs.Changes.{AreEndings, AreSetIdsOnly, has_table_after, is_live_after, thread_after_changes}
use Rattle.st_exec_sys.specs.Execution.{IsProcessCallExecuted}
use Rattle.st_exec_sys.proofs.Left.{LeaveRest, endings_leave, ids_leave, processes_stay, space_left}
use Rattle.st_request.specs.Outcome.{with_tree}
use Rattle.st_request.specs.Ready.{IsReady}
use Rattle.st_request.specs.declared.outcome.Outcome as outcomes
use Rattle.st_exec_fs.proofs.Changed.{Each}
use Rattle.st_law.specs.State.{ThreadState, thread_count}
use Rattle.st_system.specs.Steps.{IsOnProcesses}
use Rattle.st_system.specs.System.{HasOwner, IsAmong, IsThreadState, IsValidSystem, Parts, is_given_up}
use Rattle.st_system.proofs.Begun.{not_found}
use Rattle.st_system.proofs.After.{IsLeft, bare_system}
use Rattle.st_system.proofs.Kept.{with_owner}
use Rattle.st_system.proofs.Memory.{live_low}
use Rattle.st_system.proofs.Short.{IsShort, IsShortMove, short_after}

-- ---- changes that start nothing: dying threads, or ids that are set

abbrev AreQuiet : List Change → Type 0
AreQuiet changes = AreEndings changes ⊎ AreSetIdsOnly changes

-- the changes of an outcome start nothing
record IsQuiet (outcome : Outcome) : Type 0 where
  changes : AreQuiet outcome.changes

module _ (system : System) where
  unless_error_quiet : (o : Option Errno) (outcome : Outcome) → IsQuiet outcome → IsQuiet (unless_error system o outcome)
  unless_error_quiet None outcome x = x
  unless_error_quiet (Some errno) outcome x = record { changes = inl tt }

  -- a call that is refused changes nothing
  unless : (reasons : List (Option Errno)) (outcome : Outcome) → IsQuiet outcome → IsQuiet (unless_refused system reasons outcome)
  unless reasons outcome x = unless_error_quiet (first_error reasons) outcome x

none : (result : CallResult) (table : Table) → IsQuiet (record { result = result; changes = []; descriptors = table })
none result table = record { changes = inl tt }

sets : (result : CallResult) (ids : Ids) (table : Table) → IsQuiet (record { result = result; changes = SetIds ids ∷ []; descriptors = table })
sets result ids table = record { changes = inr tt }

ends : (result : CallResult) (b : Bool) (pid : ℕ) (table : Table) → IsQuiet (record { result = result; changes = cond b [] (Dying pid ∷ []); descriptors = table })
ends result true pid table = record { changes = inl tt }
ends result false pid table = record { changes = inl tt }

-- what these changes leave unchanged
record Leaves (changes : List Change) : Type 0 where
  rest : LeaveRest changes
  space : (processes : Processes) (m p : ℕ) → (process_after (process_at processes) m p changes).space ≡ (process_at processes p).space
  tree : (tree : Tree) → tree_after tree changes ≡ tree
  short : Each IsShortMove changes

endings_tree : (changes : List Change) → AreEndings changes → (tree : Tree) → tree_after tree changes ≡ tree
endings_tree [] x tree = refl
endings_tree (Dying pid ∷ changes) x tree = endings_tree changes x tree
endings_tree (change ∷ changes) x tree = absurd x

endings_short : (changes : List Change) → AreEndings changes → Each IsShortMove changes
endings_short [] x = tt
endings_short (Dying pid ∷ changes) x = (tt, endings_short changes x)
endings_short (change ∷ changes) x = absurd x

ids_tree : (changes : List Change) → AreSetIdsOnly changes → (tree : Tree) → tree_after tree changes ≡ tree
ids_tree [] x tree = refl
ids_tree (SetIds ids ∷ changes) x tree = ids_tree changes x tree
ids_tree (change ∷ changes) x tree = absurd x

ids_short : (changes : List Change) → AreSetIdsOnly changes → Each IsShortMove changes
ids_short [] x = tt
ids_short (SetIds ids ∷ changes) x = (tt, ids_short changes x)
ids_short (change ∷ changes) x = absurd x

quiet_leave : (changes : List Change) → AreQuiet changes → Leaves changes
quiet_leave changes (inl x) = record {
  rest = endings_leave changes x;
  space = λ processes m p. ap (λ (process : Process). process.space) (sym ((processes_stay changes processes m x).processes p));
  tree = endings_tree changes x;
  short = endings_short changes x;
}
quiet_leave changes (inr x) = record {
  rest = ids_leave changes x;
  space = λ processes m p. space_left (process_at processes) m p changes x;
  tree = ids_tree changes x;
  short = ids_short changes x;
}

module _ (parts : Parts) (request : Request) where
  -- a call on processes forks, or starts nothing
  quiet_changes : (call : SysCall) → IsOnProcesses call → (call ≡ Fork) ⊎ IsQuiet (effect (bare_system parts) call request)
  quiet_changes Fork on = inl refl
  quiet_changes Exit on = inr (record { changes = inl tt })
  quiet_changes Kill on = inr (search (unless, ends))
  quiet_changes GetPid on = inr (record { changes = inl tt })
  quiet_changes GetUid on = inr (record { changes = inl tt })
  quiet_changes GetEuid on = inr (record { changes = inl tt })
  quiet_changes SetUid on = inr (search (unless, sets))
  quiet_changes SetEuid on = inr (search (unless, sets))
  quiet_changes SetGid on = inr (search (unless, sets))
  quiet_changes SetEgid on = inr (search (unless, sets))
  quiet_changes Socket on = inr (search (unless, none))
  quiet_changes Bind on = inr (search (unless, none))
  quiet_changes Connect on = inr (search (unless, none))
  quiet_changes call on = absurd on

-- ---- the parts after the call

module _ (parts : Parts) (x : IsValidSystem parts) (request : Request) (there : IsPid parts.processes request.pid) (given : outcomes.Outcome) (table : Table) (processes : Processes) (memories : Memories) where
  abbrev new : Parts
  new = record { tree = parts.tree; descriptors = table; processes = processes; memories = memories }

  abbrev Made : SysCall → Type 0
  Made call = IsProcessCallExecuted call request given parts.descriptors parts.processes parts.memories table processes memories

  abbrev StaysReady : Type 0
  StaysReady = (tree : Tree) (pid : ℕ) → IsReady tree parts.descriptors parts.processes parts.memories pid → IsReady tree table processes memories pid

  abbrev ChildReady : Type 0
  ChildReady = (tree : Tree) → IsReady tree parts.descriptors parts.processes parts.memories request.pid → IsReady tree table processes memories (next_pid parts.processes)

  -- ---- a call that starts nothing

  module _ (call : SysCall) (done : Made call) (ordered : AreOrdered parts.processes → AreOrdered processes) (ready : StaysReady) (quiet : AreQuiet given.changes) where
    leave : Leaves given.changes
    leave = quiet_leave given.changes quiet

    next_same : next_pid processes ≡ next_pid parts.processes
    next_same = done.processes.next ∙ leave.rest.next (next_pid parts.processes)

    pid_before : (p : ℕ) → IsPid processes p → IsPid parts.processes p
    pid_before p is = (is.0, subst (λ n. p < n) next_same is.1)

    pid_now : (p : ℕ) → IsPid parts.processes p → IsPid processes p
    pid_now p is = (is.0, subst (λ n. p < n) (sym next_same) is.1)

    same_thread : (t : ℕ) → thread_at processes t ≡ thread_at parts.processes t
    same_thread t = done.processes.threads t ∙ leave.rest.threads t (thread_at parts.processes t)

    owner_now : (o : Option StartedThread) → HasOwner parts.processes o → HasOwner processes o
    owner_now None x = tt
    owner_now (Some thread) x = pid_now thread.pid x

    same_space : (p : ℕ) → (process_at processes p).space ≡ (process_at parts.processes p).space
    same_space p = ap (λ (process : Process). process.space) (done.processes.processes p) ∙ leave.space parts.processes request.pid p

    same_table : (p : ℕ) → has_table table p ≡ has_table parts.descriptors p
    same_table p = done.tables p ∙ leave.rest.tables p (has_table parts.descriptors p)

    whole_quiet : IsValidSystem new
    whole_quiet = record {
      ordered = ordered x.ordered;
      owners = λ t. subst (HasOwner processes) (sym (same_thread t)) (owner_now (thread_at parts.processes t) (x.owners t));
      ready = λ p is. ready parts.tree p (x.ready p (pid_before p is));
      tables = λ p has. pid_now p (x.tables p (sym (same_table p) ∙ has));
      apart = λ p q is other same. x.apart p q (pid_before p is) (pid_before q other) (sym (same_space p) ∙ same ∙ same_space q);
      short = λ p. subst (λ (process : Process). IsShort process.cwd) (sym (done.processes.processes p)) (short_after (process_at parts.processes) x.short request.pid p given.changes leave.short);
    }

    left_quiet : IsLeft call request given parts new
    left_quiet = record {
      outcome = λ system none. done.outcome (with_tree system parts.tree) none;
      tree = sym (leave.tree parts.tree);
      processes = done.processes.processes;
      next_process = done.processes.next;
      next_space = done.memories.next;
      memory = λ s b kept. done.memories.bytes s b;
      kept = λ s kept. (λ k. nat_lt s (sym (done.memories.next ∙ leave.rest.spaces (next_space parts.memories)) k) && not (sym (done.memories.live s ∙ leave.rest.live s (spaces.is_space_live parts.memories s)) k)) ∙ kept;
      threads = λ t row other y owner ended. subst (λ o. IsThreadState o other) (sym (same_thread t)) (with_owner (thread_at parts.processes t) row other y (owner ∙ leave.rest.owners t row.owner) ended);
      among = λ i child t y. subst (IsAmong (thread_count i) t) (sym (same_thread t)) y;
    }

  -- ---- a fork

  module _ (done : Made Fork) (ordered : AreOrdered parts.processes → AreOrdered processes) (ready : StaysReady) (child : ChildReady) (unstarted : pid_of parts.processes request.child ≡ None) where
    abbrev pid : ℕ
    pid = next_pid parts.processes

    abbrev space : ℕ
    space = next_space parts.memories

    shape : given.changes ≡ Forked pid space request.child ∷ []
    shape = ap (λ o. o.changes) (done.outcome (bare_system parts) refl)

    next_now : next_pid processes ≡ suc pid
    next_now = done.processes.next ∙ ap (next_process_after pid) shape

    pid_then : (p : ℕ) → IsPid parts.processes p → IsPid processes p
    pid_then p is = let low = is.0 in let high = is.1 in let n = next_now in (omega (arith, low), omega (arith, high, n))

    child_there : IsPid processes pid
    child_there = let n = next_now in (omega arith, omega (arith, n))

    -- a process is the child, or existed before
    either_pid : (p : ℕ) → IsPid processes p → (p ≡ pid) ⊎ IsPid parts.processes p
    either_pid p is = elim (cases_eq p pid) [
      | inl e ↦ inl e
      | inr ne ↦ let low = is.0 in let high = is.1 in let n = next_now in inr (omega (arith, low), omega (arith, high, n, ne))
    ]

    -- ---- threads

    thread_is : (t : ℕ) → thread_at processes t ≡ cond (t == request.child) (Some (record { pid = pid; ended = false })) (thread_at parts.processes t)
    thread_is t = done.processes.threads t ∙ ap (thread_after_changes t (thread_at parts.processes t)) shape

    own_thread : thread_at processes request.child ≡ Some (record { pid = pid; ended = false })
    own_thread = thread_is request.child ∙ ap (λ b. cond b (Some (record { pid = pid; ended = false })) (thread_at parts.processes request.child)) (eq-eqb request.child request.child refl)

    other_thread : (t : ℕ) → t ≢ request.child → thread_at processes t ≡ thread_at parts.processes t
    other_thread t ne = thread_is t ∙ ap (λ b. cond b (Some (record { pid = pid; ended = false })) (thread_at parts.processes t)) (ne_eqb t request.child ne)

    none_before : thread_at parts.processes request.child ≡ None
    none_before = not_found (thread_at parts.processes request.child) unstarted

    owner_then : (o : Option StartedThread) → HasOwner parts.processes o → HasOwner processes o
    owner_then None x = tt
    owner_then (Some thread) x = pid_then thread.pid x

    owners : (t : ℕ) → HasOwner processes (thread_at processes t)
    owners t = elim (cases_eq t request.child) [
      | inl e ↦ subst (HasOwner processes) (sym (ap (thread_at processes) e ∙ own_thread)) child_there
      | inr ne ↦ subst (HasOwner processes) (sym (other_thread t ne)) (owner_then (thread_at parts.processes t) (x.owners t))
    ]

    follows : (t : ℕ) (row other : ThreadState) → IsThreadState (thread_at parts.processes t) row → other.owner ≡ owner_after t row.owner given.changes → other.ended ≡ row.ended → IsThreadState (thread_at processes t) other
    follows t row other y owner ended = elim (cases_eq t request.child) [
      | inl e ↦
          let before : IsThreadState None row = subst (λ o. IsThreadState o row) (ap (thread_at parts.processes) e ∙ none_before) y in
          subst (λ o. IsThreadState o other) (sym (ap (thread_at processes) e ∙ own_thread))
          (owner ∙ ap (owner_after t row.owner) shape ∙ (λ k. cond (eq-eqb request.child t (sym e) k && eq-eqb row.owner 0 before.0 k) pid row.owner), ended ∙ before.1)
      | inr ne ↦ subst (λ o. IsThreadState o other) (sym (other_thread t ne))
          (with_owner (thread_at parts.processes t) row other y (owner ∙ ap (owner_after t row.owner) shape ∙ ap (λ b. cond (b && row.owner == 0) pid row.owner) (ne_eqb request.child t (λ e. ne (sym e)))) ended)
    ]

    among : (count : ℕ) → (1 ≤ request.child) × (request.child ≤ count) → (t : ℕ) → IsAmong count t (thread_at parts.processes t) → IsAmong count t (thread_at processes t)
    among count is t y = elim (cases_eq t request.child) [
      | inl e ↦ subst (IsAmong count t) (sym (ap (thread_at processes) e ∙ own_thread)) (subst (λ u. (1 ≤ u) × (u ≤ count)) (sym e) is)
      | inr ne ↦ subst (IsAmong count t) (sym (other_thread t ne)) y
    ]

    -- ---- memories

    space_is : (p : ℕ) → (process_at processes p).space ≡ cond (pid == p) space (process_at parts.processes p).space
    space_is p = ap (λ (process : Process). process.space) (done.processes.processes p ∙ ap (process_after (process_at parts.processes) request.pid p) shape) ∙ by (pid == p) where
      by : (b : Bool) → (cond b (record (process_at parts.processes request.pid) { space = space }) (process_at parts.processes p)).space ≡ cond b space (process_at parts.processes p).space
      by true = refl
      by false = refl

    old_space : (p : ℕ) → IsPid parts.processes p → (process_at processes p).space ≡ (process_at parts.processes p).space
    old_space p is = space_is p ∙ ap (λ b. cond b space (process_at parts.processes p).space) (ne_eqb pid p (λ e. let high = is.1 in omega (arith, e, high)))

    child_space : (p : ℕ) → p ≡ pid → (process_at processes p).space ≡ space
    child_space p e = space_is p ∙ ap (λ b. cond b space (process_at parts.processes p).space) (eq-eqb pid p (sym e))

    -- a memory that existed before isn't the child's
    new_space : (p : ℕ) → IsPid parts.processes p → (process_at parts.processes p).space ≢ space
    new_space p is same = let low = live_low parts.memories (process_at parts.processes p).space (x.ready p is).space in omega (arith, same, low)

    apart : (p q : ℕ) → IsPid processes p → IsPid processes q → (process_at processes p).space ≡ (process_at processes q).space → p ≡ q
    apart p q is other same = elim (either_pid p is) [
      | inl e ↦ elim (either_pid q other) [
        | inl f ↦ e ∙ sym f
        | inr before ↦ absurd (new_space q before (sym (old_space q before) ∙ sym same ∙ child_space p e))
      ]
      | inr first ↦ elim (either_pid q other) [
        | inl f ↦ absurd (new_space p first (sym (old_space p first) ∙ same ∙ child_space q f))
        | inr second ↦ x.apart p q first second (sym (old_space p first) ∙ same ∙ old_space q second)
      ]
    ]

    kept : (s : ℕ) → is_given_up memories s ≡ false → is_given_up parts.memories s ≡ false
    kept s is = elim (cases_lt s space) [
      | inl low ↦
          let live : spaces.is_space_live memories s ≡ spaces.is_space_live parts.memories s = done.memories.live s ∙ ap (is_live_after s (spaces.is_space_live parts.memories s)) shape ∙ ap (λ b. cond b true (spaces.is_space_live parts.memories s)) (ne_eqb s space (λ e. omega (arith, e, low))) in
          let next : next_space memories ≡ suc space = done.memories.next ∙ ap (next_space_after space) shape in
          ap (λ b. b && not (spaces.is_space_live parts.memories s)) (le-leb (suc s) space (omega (arith, low)) ∙ sym (ap (nat_lt s) next ∙ le-leb (suc s) (suc space) (omega (arith, low))))
          ∙ ap (λ b. nat_lt s (next_space memories) && not b) (sym live) ∙ is
      | inr past ↦ ap (λ b. b && not (spaces.is_space_live parts.memories s)) (lt-leb (suc s) space (omega (arith, past)))
    ]

    -- ---- all parts after a fork

    has_now : (p : ℕ) → has_table table p ≡ true → IsPid processes p
    has_now p has = elim (cases_eq p pid) [
      | inl e ↦ subst (IsPid processes) (sym e) child_there
      | inr ne ↦ pid_then p (x.tables p (sym (done.tables p ∙ ap (has_table_after p (has_table parts.descriptors p)) shape ∙ ap (λ b. cond b true (has_table parts.descriptors p)) (ne_eqb p pid ne)) ∙ has))
    ]

    ready_now : (p : ℕ) → (p ≡ pid) ⊎ IsPid parts.processes p → IsReady parts.tree table processes memories p
    ready_now p (inl e) = subst (IsReady parts.tree table processes memories) (sym e) (child parts.tree (x.ready request.pid there))
    ready_now p (inr is) = ready parts.tree p (x.ready p is)

    whole_fork : IsValidSystem new
    whole_fork = record {
      ordered = ordered x.ordered;
      owners = owners;
      ready = λ p is. ready_now p (either_pid p is);
      tables = has_now;
      apart = apart;
      short = λ p. subst (λ (process : Process). IsShort process.cwd) (sym (done.processes.processes p)) (short_after (process_at parts.processes) x.short request.pid p given.changes (subst (Each IsShortMove) (sym shape) (tt, tt)));
    }

    left_fork : IsLeft Fork request given parts new
    left_fork = record {
      outcome = λ system none. done.outcome (with_tree system parts.tree) none;
      tree = sym (ap (tree_after parts.tree) shape);
      processes = done.processes.processes;
      next_process = done.processes.next;
      next_space = done.memories.next;
      memory = λ s b kept. done.memories.bytes s b;
      kept = kept;
      threads = follows;
      among = λ i is. among (thread_count i) is;
    }

  -- ---- any of the calls

  module _ (call : SysCall) (on : IsOnProcesses call) (done : Made call) (ordered : AreOrdered parts.processes → AreOrdered processes) (ready : StaysReady) (child : call ≡ Fork → ChildReady)
      (unstarted : call ≡ Fork → pid_of parts.processes request.child ≡ None) where
    shape_of : (call ≡ Fork) ⊎ AreQuiet given.changes
    shape_of = elim (quiet_changes parts request call on) [
      | inl e ↦ inl e
      | inr quiet ↦ inr (subst AreQuiet (sym (ap (λ o. o.changes) (done.outcome (bare_system parts) refl))) quiet.changes)
    ]

    whole_by : (call ≡ Fork) ⊎ AreQuiet given.changes → IsValidSystem new
    whole_by (inl e) = whole_fork (subst Made e done) ordered ready (child e) (unstarted e)
    whole_by (inr quiet) = whole_quiet call done ordered ready quiet

    pub whole_processes : IsValidSystem new
    whole_processes = whole_by shape_of

    left_by : (call ≡ Fork) ⊎ AreQuiet given.changes → IsLeft call request given parts new
    left_by (inl e) = subst (λ c. IsLeft c request given parts new) (sym e) (left_fork (subst Made e done) ordered ready (child e) (unstarted e))
    left_by (inr quiet) = left_quiet call done ordered ready quiet

    pub left_processes : IsLeft call request given parts new
    left_processes = left_by shape_of
