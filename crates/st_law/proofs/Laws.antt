-- The law of every run.
use native.Mathlib.Omega.{arith}
use Rattle.std.proofs.Common.{◌≡◌, ◌≢◌, ◌<◌, ℕ, zero, suc, List, [], ◌∷◌, ◌++◌, reverse, Option, Some, None, refl, sym, subst}
use Rattle.std.specs.Prelude.{slice_get}
use Rattle.std.specs.List.{All}
use Rattle.std.proofs.lemmas.List.{reverse-append, reverse-reverse}
use Rattle.std.proofs.lemmas.Option.{slice_get_within, get_or_from_slice_get}
use Rattle.st_trace.specs.declared.entry.Choice.{Choice}
use Rattle.st_trace.specs.declared.entry.Choice.TheVariants as choice
use Rattle.st_trace.specs.declared.entry.Entry.{Entry}
use Rattle.st_trace.specs.declared.start.ThreadRow.{ThreadRow}
use Rattle.st_law.specs.declared.input.Input.{Input}
use Rattle.st_law.specs.History.{looking_back}
use Rattle.st_law.specs.Inputs.{HasProcess, IsThread, IsInstruction, IsStartable}
use Rattle.st_law.specs.Lawful.{IsLawful, IsLawfulBack, Lawful}
use Rattle.st_law.specs.Machine.{first_state, state_at, entry_of, history_with, history, run}
use Rattle.st_law.specs.Processes.{process_count}
use Rattle.st_law.specs.State.{State}
use Rattle.st_law.specs.Threads.{History, first_owner, body_of, body_of_row, owner_of_row}
use Rattle.st_law.proofs.Invariant.{Invariant}
use Rattle.st_law.proofs.Preserved.{following}
use Rattle.st_law.proofs.Steps.{Says}
use Rattle.st_law.proofs.ThreadSteps.{thread_step}
use Rattle.st_law.proofs.Ties.{state-is}
use Rattle.st_law.proofs.WorkerSteps.{worker_step, operator_step}

-- ---- the beginning

-- a property of all items holds of each
pub all_at : {X : Type 0} (P : X → Type 0) (xs : List X) (k : ℕ) (x : X) → All P xs → slice_get xs k ≡ Some x → P x
all_at P xs k x all e = subst P (get_or_from_slice_get xs k x x e) (all k x (slice_get_within xs k x e))

owner_within : (count : ℕ) (o : Option ℕ) → HasProcess count o → owner_of_row (Some (record { process = o; body = [] })) < suc count
owner_within count None x = omega arith
owner_within count (Some p) x = let high = x.1 in omega (arith, high)

module _ (i : Input) (startable : IsStartable i) where
  started_at : (k : ℕ) (o : Option ThreadRow) → slice_get i.start.threads k ≡ o → owner_of_row o ≢ 0 → IsThread i (suc k)
  started_at k None e owned = absurd (owned refl)
  started_at k (Some row) e owned = let low = slice_get_within i.start.threads k row e in (omega arith, omega (arith, low))

  started : (t : ℕ) → first_owner i t ≢ 0 → IsThread i t
  started zero owned = absurd (owned refl)
  started (suc k) owned = started_at k (slice_get i.start.threads k) refl owned

  body_at : (k : ℕ) (o : Option ThreadRow) → slice_get i.start.threads k ≡ o → All (IsInstruction i) (body_of_row o)
  body_at k None e = λ j d low. absurd (omega (arith, low))
  body_at k (Some row) e = all_at (λ each. All (IsInstruction i) each.body) i.start.threads k row startable.bodies e

  bodies : (t : ℕ) → All (IsInstruction i) (body_of i t)
  bodies zero = λ j d low. absurd (omega (arith, low))
  bodies (suc k) = body_at k (slice_get i.start.threads k) refl

  owner_at : (k : ℕ) (o : Option ThreadRow) → slice_get i.start.threads k ≡ o → owner_of_row o < suc (process_count i)
  owner_at k None e = omega arith
  owner_at k (Some row) e = owner_within (process_count i) row.process (all_at (λ each. HasProcess (process_count i) each.process) i.start.threads k row startable.processes e)

  owners : (t : ℕ) → first_owner i t < suc (process_count i)
  owners zero = omega arith
  owners (suc k) = owner_at k (slice_get i.start.threads k) refl

  pub at_first : Invariant i (first_state i)
  at_first = record { started = started; bodies = bodies; children = λ t. tt; owners = owners; heads = λ q high. refl; closed = λ q high. refl; fine = λ t. tt }

  -- ---- every lawful history

  -- the invariant holds after a lawful history
  pub invariant_of : (h : History) → IsLawfulBack i h → Invariant i (looking_back i h)
  invariant_of [] lawful = at_first
  invariant_of (e ∷ h) lawful = following i (looking_back i h) (invariant_of h lawful.1) e lawful.0

  step_of : (st : State) (c : Choice) → Invariant i st → Says (IsLawful i st) (entry_of i st c)
  step_of st (choice.Thread t) inv = thread_step i st t inv
  step_of st (choice.Worker w) inv = worker_step i st w
  step_of st choice.Operator inv = operator_step i st

  -- each step of the machine after a lawful history is lawful
  pub lawful_step : (h : History) (c : Choice) → IsLawfulBack i h → Says (IsLawful i (looking_back i h)) (entry_of i (state_at i h) c)
  lawful_step h c lawful = subst (λ st. Says (IsLawful i (looking_back i h)) (entry_of i st c)) (sym (state-is i h)) (step_of (looking_back i h) c (invariant_of h lawful))

  lawful_more : (h : History) (o : Option Entry) → IsLawfulBack i h → Says (IsLawful i (looking_back i h)) o → IsLawfulBack i (history_with h o)
  lawful_more h None lawful says = lawful
  lawful_more h (Some e) lawful says = (says, lawful)

  pub lawful_history : (choices : List Choice) → IsLawfulBack i (history i choices)
  lawful_history [] = tt
  lawful_history (c ∷ cs) = lawful_more (history i cs) (entry_of i (state_at i (history i cs)) c) (lawful_history cs) (lawful_step (history i cs) c (lawful_history cs))

-- every run is lawful
pub run_lawful : (i : Input) → IsStartable i → (choices : List Choice) → Lawful i (run i choices)
run_lawful i startable choices = subst (IsLawfulBack i) (sym (reverse-reverse (history i (reverse choices)))) (lawful_history i startable (reverse choices))

-- ---- prefixes

after_front : (i : Input) (later earlier : History) → IsLawfulBack i (later ++ earlier) → IsLawfulBack i earlier
after_front i [] earlier lawful = lawful
after_front i (e ∷ later) earlier lawful = after_front i later earlier lawful.1

-- every prefix of a lawful trace is lawful
pub prefix_lawful : (i : Input) (front rest : List Entry) → Lawful i (front ++ rest) → Lawful i front
prefix_lawful i front rest lawful = after_front i (reverse rest) (reverse front) (subst (IsLawfulBack i) (reverse-append front rest) lawful)
