-- The system after a binary was executed.
use native.Mathlib.Omega.{arith}
use Rattle.std.proofs.Common.{◌≡◌, ◌≢◌, ◌≤◌, ◌<◌, ◌∙◌, ◌⊎◌, ℕ, zero, suc, Bool, true, false, cond, not, ◌&&◌, ◌==◌, List, [], ◌∷◌, ◌++◌, length, Option, Some, None, inl, inr, refl, ap, subst, sym}
use Rattle.std.proofs.Math.ListN.{get_or-append}
use Rattle.std.proofs.lemmas.Bool.{true≢false, cases_eq, cases_lt, eq-eqb, le-leb, lt-leb, ne_eqb}
use Rattle.std.proofs.lemmas.List.{get_or-set_other, get_or-set_same, length-append, length-set}
use Rattle.std.specs.Prelude.{is_some, nat_lt}
use Rattle.st_base.specs.declared.errno.Errno.{Errno}
use Rattle.st_calls.specs.declared.call.SysCall.TheVariants.{Execve}
use Rattle.st_memory.specs.Memory.{Memories, byte_in, is_space_live, next_space}
use Rattle.st_model.specs.Process.{Process}
use Rattle.st_model.specs.Processes.{Processes, StartedThread, IsPid, next_pid, process_at, thread_at}
use Rattle.st_model.specs.Tree.{Tree}
use Rattle.st_procs.specs.Laws.{AreOrdered}
use Rattle.st_effects.specs.Changes.{memory_after, next_process_after, next_space_after, owner_after, process_after, tree_after}
use Rattle.st_effects.specs.Effect.{effect}
use Rattle.st_effects.specs.NameTests.{Object, on_found}
use Rattle.st_effects.specs.Processes.{execve_outcome, policy_changes}
use Rattle.st_effects.specs.System.{Outcome, Request, System, success, unless_error}
use Rattle.st_trace.specs.declared.entry.Change.{Change}
use Rattle.st_trace.specs.declared.entry.Change.TheVariants.{Execed}
use Rattle.st_exec_objects.specs.Execution.{AreSpacesAfter, is_live_after}
use Rattle.st_request.specs.Outcome.{outcome_of, with_descriptors, with_memories, with_processes, with_tree}
use Rattle.st_request.specs.Processes.{AreProcessesAfter}
use Rattle.st_request.specs.declared.outcome.Outcome as outcomes
use Rattle.st_exec_fs.proofs.Changed.{Each}
use Rattle.st_law.specs.State.{thread_count}
use Rattle.st_system.specs.System.{HasOwner, IsAmong, IsThreadState, IsValidSystem, Parts, is_given_up}
use Rattle.st_system.proofs.After.{IsLeft, bare_system}
use Rattle.st_system.proofs.Kept.{with_owner}
use Rattle.st_system.proofs.Memory.{live_low}
use Rattle.st_system.proofs.Short.{IsShort, IsShortMove, short_after}

-- ---- the changes: none, or those of a new binary and memory

abbrev IsExec : ℕ → Bool → List Change → Type 0
IsExec next inherit changes = (changes ≡ []) ⊎ ((binary : List ℕ) × (changes ≡ Execed binary next ∷ policy_changes inherit binary))

module _ (system : System) (request : Request) where
  abbrev Fits : Outcome → Type 0
  Fits outcome = IsExec system.next_space request.inherit outcome.changes

  unless : (o : Option Errno) (outcome : Outcome) → Fits outcome → Fits (unless_error system o outcome)
  unless None outcome x = x
  unless (Some errno) outcome x = inl refl

  on : (outcome : Object → Outcome) → ((object : Object) → Fits (outcome object)) → (o : Option Object) → Fits (on_found system outcome o)
  on outcome x None = inl refl
  on outcome x (Some object) = x object

  gone : (binary : List ℕ) → Fits (success system 0 (Execed binary system.next_space ∷ policy_changes request.inherit binary))
  gone binary = inr (binary, refl)

  exec_changes : Fits (effect system Execve request)
  exec_changes = search (unless, on, gone)

-- what these changes leave unchanged
record LeavesRest (changes : List Change) : Type 0 where
  tree : (tree : Tree) → tree_after tree changes ≡ tree
  process : (n : ℕ) → next_process_after n changes ≡ n
  owner : (t n : ℕ) → owner_after t n changes ≡ n
  short : Each IsShortMove changes

none_leave : LeavesRest []
none_leave = record { tree = λ tree. refl; process = λ n. refl; owner = λ t n. refl; short = tt }

gone_leave : (next : ℕ) (inherit : Bool) (binary : List ℕ) → LeavesRest (Execed binary next ∷ policy_changes inherit binary)
gone_leave next true binary = record { tree = λ tree. refl; process = λ n. refl; owner = λ t n. refl; short = (tt, tt) }
gone_leave next false binary = record { tree = λ tree. refl; process = λ n. refl; owner = λ t n. refl; short = (tt, (tt, tt)) }

leave_rest : (next : ℕ) (inherit : Bool) (changes : List Change) → IsExec next inherit changes → LeavesRest changes
leave_rest next inherit changes (inl none) = subst LeavesRest (sym none) none_leave
leave_rest next inherit changes (inr both) = subst LeavesRest (sym both.1) (gone_leave next inherit both.0)

space_by : (b : Bool) (binary : List ℕ) (next : ℕ) (before : Process)
    → (cond b (record (cond b (record before { space = next }) before) { policy = binary }) (cond b (record before { space = next }) before)).space ≡ cond b next before.space
space_by true binary next before = refl
space_by false binary next before = refl

space_of_two : (b : Bool) (next : ℕ) (before : Process) → (cond b (record before { space = next }) before).space ≡ cond b next before.space
space_of_two true next before = refl
space_of_two false next before = refl

-- the memory of a process after these changes
gone_space : (processes : ℕ → Process) (m p next : ℕ) (inherit : Bool) (binary : List ℕ) → (process_after processes m p (Execed binary next ∷ policy_changes inherit binary)).space ≡ cond (m == p) next (processes p).space
gone_space processes m p next true binary = space_of_two (m == p) next (processes p)
gone_space processes m p next false binary = space_by (m == p) binary next (processes p)

-- ---- memories, after one is made and one is given up

-- a memory that isn't given up wasn't given up before, and is another one
kept_left : (old new : Memories) (own s : ℕ) → is_space_live old own ≡ true → next_space new ≡ suc (next_space old) → is_space_live new s ≡ cond (s == own) false (cond (s == next_space old) true (is_space_live old s)) → is_given_up new s ≡ false
    → (s ≢ own) × (is_given_up old s ≡ false)
kept_left old new own s live more lives kept = (mine, before (cases_lt s (next_space old))) where
  low : own < next_space old
  low = live_low old own live

  mine : s ≡ own → ⊥
  mine e =
      let gone : is_space_live new s ≡ false = lives ∙ ap (λ b. cond b false (cond (s == next_space old) true (is_space_live old s))) (eq-eqb s own e) in
      true≢false (sym (ap (λ b. b && not (is_space_live new s)) (ap (nat_lt s) more ∙ le-leb (suc s) (suc (next_space old)) (omega (arith, low, e))) ∙ ap not gone) ∙ kept)

  before : (s < next_space old) ⊎ (next_space old ≤ s) → is_given_up old s ≡ false
  before (inr past) = ap (λ b. b && not (is_space_live old s)) (lt-leb (suc s) (next_space old) (omega (arith, past)))
  before (inl inside) =
      let same : is_space_live new s ≡ is_space_live old s = lives
      ∙ ap (λ b. cond b false (cond (s == next_space old) true (is_space_live old s))) (ne_eqb s own mine)
      ∙ ap (λ b. cond b true (is_space_live old s)) (ne_eqb s (next_space old) (λ e. absurd (omega (arith, inside, e)))) in
      ap (λ b. b && not (is_space_live old s)) (le-leb (suc s) (next_space old) inside)
      ∙ ap not (sym same)
      ∙ sym (ap (λ b. b && not (is_space_live new s)) (ap (nat_lt s) more ∙ le-leb (suc s) (suc (next_space old)) (omega (arith, inside))))
      ∙ kept

gone_lives : (own s next : ℕ) (b inherit : Bool) (binary : List ℕ) → is_live_after own s b (Execed binary next ∷ policy_changes inherit binary) ≡ cond (s == own) false (cond (s == next) true b)
gone_lives own s next b true binary = refl
gone_lives own s next b false binary = refl

gone_next : (n next : ℕ) (inherit : Bool) (binary : List ℕ) → next_space_after n (Execed binary next ∷ policy_changes inherit binary) ≡ suc next
gone_next n next true binary = refl
gone_next n next false binary = refl

-- ---- the parts after the call

module _ (parts : Parts) (x : IsValidSystem parts) (request : Request) (pid_there : IsPid parts.processes request.pid) (given : outcomes.Outcome) (processes : Processes) (memories : Memories)
    (outcome : (system : System) → outcome_of given system.descriptors ≡ execve_outcome (with_tree (with_memories system parts.memories) parts.tree) request)
    (after : AreProcessesAfter parts.processes request.pid given.changes processes)
    (spaces : AreSpacesAfter (process_at parts.processes request.pid).space parts.memories given.changes memories)
    (bytes : (s b : ℕ) → s ≢ (process_at parts.processes request.pid).space → byte_in memories s b ≡ memory_after (process_at parts.processes request.pid).space (byte_in parts.memories) given.changes s b)
    (ready : is_space_live memories (process_at processes request.pid).space ≡ true)
    (lives : (s : ℕ) → s ≢ (process_at parts.processes request.pid).space → is_space_live parts.memories s ≡ true → is_space_live memories s ≡ true) where
  abbrev new : Parts
  new = record { tree = parts.tree; descriptors = parts.descriptors; processes = processes; memories = memories }

  abbrev own : ℕ
  own = (process_at parts.processes request.pid).space

  own_live : is_space_live parts.memories own ≡ true
  own_live = (x.ready request.pid pid_there).space

  shape : IsExec (next_space parts.memories) request.inherit given.changes
  shape = subst (IsExec (next_space parts.memories) request.inherit) (sym (ap (λ o. o.changes) (outcome (bare_system parts)))) (exec_changes (bare_system parts) request)

  rest : LeavesRest given.changes
  rest = leave_rest (next_space parts.memories) request.inherit given.changes shape

  pid_before : (p : ℕ) → IsPid processes p → IsPid parts.processes p
  pid_before p is = (is.0, subst (λ n. p < n) after.next is.1)

  pid_now : (p : ℕ) → IsPid parts.processes p → IsPid processes p
  pid_now p is = (is.0, subst (λ n. p < n) (sym after.next) is.1)

  same_thread : (t : ℕ) → thread_at processes t ≡ thread_at parts.processes t
  same_thread t = ap (λ threads. thread_at (record { rows = parts.processes.rows; threads = threads }) t) after.threads

  owner_now : (o : Option StartedThread) → HasOwner parts.processes o → HasOwner processes o
  owner_now None x = tt
  owner_now (Some thread) x = pid_now thread.pid x

  -- the memory of another process is unchanged
  other_by : (p : ℕ) → p ≢ request.pid → IsExec (next_space parts.memories) request.inherit given.changes → (process_at processes p).space ≡ (process_at parts.processes p).space
  other_by p ne (inl none) = ap (λ (process : Process). process.space) (after.processes p ∙ ap (process_after (process_at parts.processes) request.pid p) none)
  other_by p ne (inr both) = ap (λ (process : Process). process.space) (after.processes p ∙ ap (process_after (process_at parts.processes) request.pid p) both.1)
      ∙ gone_space (process_at parts.processes) request.pid p (next_space parts.memories) request.inherit both.0
      ∙ ap (λ b. cond b (next_space parts.memories) (process_at parts.processes p).space) (ne_eqb request.pid p (λ e. ne (sym e)))

  other_space : (p : ℕ) → p ≢ request.pid → (process_at processes p).space ≡ (process_at parts.processes p).space
  other_space p ne = other_by p ne shape

  -- the memory of the process is no other process's
  own_by : (q : ℕ) → IsPid parts.processes q → IsExec (next_space parts.memories) request.inherit given.changes → (process_at processes request.pid).space ≡ (process_at parts.processes q).space → request.pid ≡ q
  own_by q is (inl none) same = x.apart request.pid q pid_there is
      (sym (ap (λ (process : Process). process.space) (after.processes request.pid ∙ ap (process_after (process_at parts.processes) request.pid request.pid) none)) ∙ same)
  own_by q is (inr both) same =
      let at : (process_at processes request.pid).space ≡ next_space parts.memories =
      ap (λ (process : Process). process.space) (after.processes request.pid ∙ ap (process_after (process_at parts.processes) request.pid request.pid) both.1)
      ∙ gone_space (process_at parts.processes) request.pid request.pid (next_space parts.memories) request.inherit both.0
      ∙ ap (λ b. cond b (next_space parts.memories) (process_at parts.processes request.pid).space) (eq-eqb request.pid request.pid refl) in
      let low = live_low parts.memories (process_at parts.processes q).space (x.ready q is).space in
      absurd (omega (arith, at, same, low))

  apart : (p q : ℕ) → IsPid processes p → IsPid processes q → (process_at processes p).space ≡ (process_at processes q).space → p ≡ q
  apart p q is other same = elim (cases_eq p request.pid) [
    | inl e ↦ elim (cases_eq q request.pid) [
      | inl f ↦ e ∙ sym f
      | inr differs ↦ e ∙ own_by q (pid_before q other) shape (ap (λ r. (process_at processes r).space) (sym e) ∙ same ∙ other_space q differs)
    ]
    | inr ne ↦ elim (cases_eq q request.pid) [
      | inl f ↦ sym (f ∙ own_by p (pid_before p is) shape (ap (λ r. (process_at processes r).space) (sym f) ∙ sym same ∙ other_space p ne))
      | inr differs ↦ x.apart p q (pid_before p is) (pid_before q other) (sym (other_space p ne) ∙ same ∙ other_space q differs)
    ]
  ]

  live : (p : ℕ) → IsPid processes p → is_space_live memories (process_at processes p).space ≡ true
  live p is = elim (cases_eq p request.pid) [
    | inl e ↦ ap (λ r. is_space_live memories (process_at processes r).space) e ∙ ready
    | inr ne ↦ ap (is_space_live memories) (other_space p ne)
        ∙ lives (process_at parts.processes p).space (λ same. ne (x.apart p request.pid (pid_before p is) pid_there same)) (x.ready p (pid_before p is)).space
  ]

  pub whole_binary : IsValidSystem new
  whole_binary = record {
    ordered = subst (λ threads. AreOrdered (record { rows = processes.rows; threads = threads })) (sym after.threads) x.ordered;
    owners = λ t. subst (HasOwner processes) (sym (same_thread t)) (owner_now (thread_at parts.processes t) (x.owners t));
    ready = λ p is. let r = x.ready p (pid_before p is) in record { table = r.table; process = is; space = live p is; real = r.real };
    tables = λ p has. pid_now p (x.tables p has);
    apart = apart;
    short = λ p. subst (λ (process : Process). IsShort process.cwd) (sym (after.processes p)) (short_after (process_at parts.processes) x.short request.pid p given.changes rest.short);
  }

  -- ---- memories

  record Spaces : Type 0 where
    next : next_space memories ≡ next_space_after (next_space parts.memories) given.changes
    kept : (s : ℕ) → is_given_up memories s ≡ false → is_given_up parts.memories s ≡ false
    memory : (s b : ℕ) → is_given_up memories s ≡ false → byte_in memories s b ≡ memory_after own (byte_in parts.memories) given.changes s b

  spaces_by : IsExec (next_space parts.memories) request.inherit given.changes → Spaces
  spaces_by (inl none) =
      let same : memories ≡ parts.memories = spaces.none none in record {
        next = spaces.next;
        kept = λ s there. ap (λ m. is_given_up m s) (sym same) ∙ there;
        memory = λ s b there. ap (λ m. byte_in m s b) same ∙ sym (ap (λ changes. memory_after own (byte_in parts.memories) changes s b) none);
      }
  spaces_by (inr both) =
      let more : next_space memories ≡ suc (next_space parts.memories) = spaces.next ∙ ap (next_space_after (next_space parts.memories)) both.1 ∙ gone_next (next_space parts.memories) (next_space parts.memories) request.inherit both.0 in
      let lives : (s : ℕ) → is_space_live memories s ≡ cond (s == own) false (cond (s == next_space parts.memories) true (is_space_live parts.memories s)) =
      λ s. spaces.live s ∙ ap (is_live_after own s (is_space_live parts.memories s)) both.1 ∙ gone_lives own s (next_space parts.memories) (is_space_live parts.memories s) request.inherit both.0 in
      let kept : (s : ℕ) → is_given_up memories s ≡ false → (s ≢ own) × (is_given_up parts.memories s ≡ false) = λ s there. kept_left parts.memories memories own s own_live more (lives s) there in record {
        next = spaces.next;
        kept = λ s there. (kept s there).1;
        memory = λ s b there. bytes s b (kept s there).0;
      }

  pub left_binary : IsLeft Execve request given parts new
  left_binary = record {
    outcome = λ system none. outcome (with_descriptors (with_processes system parts.processes) parts.descriptors);
    tree = sym (rest.tree parts.tree);
    processes = after.processes;
    next_process = after.next ∙ sym (rest.process (next_pid parts.processes));
    next_space = (spaces_by shape).next;
    memory = (spaces_by shape).memory;
    kept = (spaces_by shape).kept;
    threads = λ t row other y owner ended. subst (λ o. IsThreadState o other) (sym (same_thread t)) (with_owner (thread_at parts.processes t) row other y (owner ∙ rest.owner t row.owner) ended);
    among = λ i child t y. subst (IsAmong (thread_count i) t) (sym (same_thread t)) y;
  }
