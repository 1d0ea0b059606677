-- All invariants of a state that a run reaches, together, to be carried from entry to entry.
use Rattle.std.proofs.Common.{◌≡◌, ℕ, List, [], ◌∷◌, reverse, Some, sym, subst}
use Rattle.st_trace.specs.declared.entry.Choice.{Choice}
use Rattle.st_trace.specs.declared.entry.Choice.TheVariants as choice
use Rattle.st_trace.specs.declared.entry.Entry.{Entry}
use Rattle.st_law.specs.declared.input.Input.{Input}
use Rattle.st_law.specs.History.{looking_back}
use Rattle.st_law.specs.Inputs.{IsStartable}
use Rattle.st_law.specs.Lawful.{IsLawful, IsLawfulBack}
use Rattle.st_law.specs.Machine.{first_state, state_after, state_at, entry_of, history, state_of_run}
use Rattle.st_law.specs.State.{State, is_live}
use Rattle.st_law.specs.Threads.{History}
use Rattle.st_law.proofs.HeldCalls.{IsHolder}
use Rattle.st_law.proofs.Invariant.{IsOpen}
use Rattle.st_law.proofs.Laws.{lawful_history}
use Rattle.st_law.proofs.HeldRenewals.{open_of}
use Rattle.st_law.proofs.Steps.{Says}
use Rattle.st_law.proofs.ThreadSteps.{thread_step}
use Rattle.st_law.proofs.Ties.{state-is}
use Rattle.st_law.proofs.Whole.{Whole, whole_after, whole_of}
use Rattle.st_law.proofs.WorkerSteps.{worker_step, operator_step}
use Rattle.st_reached.specs.Reached.{AllHeldLive, LiveNumbersAreOwn, life_after}
use Rattle.st_reached.proofs.Life.{life_later}
use Rattle.st_reached.proofs.OwnedKept.{owned_first, owned_after}
use Rattle.st_reached.proofs.Owning.{held_lives}

-- all invariants of the state after a lawful history, and that each live number is its thread's own
pub record Reached (i : Input) (st : State) : Type 0 where
  pub whole : Whole i st
  pub owned : LiveNumbersAreOwn st

-- ---- from entry to entry

pub reached_first : (i : Input) → IsStartable i → Reached i (first_state i)
reached_first i startable = record { whole = whole_of i startable [] tt; owned = owned_first i }

module _ (i : Input) (st : State) (reached : Reached i st) where
  pub reached_after : (e : Entry) → IsLawful i st e → Reached i (state_after i st e)
  reached_after e lawful = record { whole = whole_after i st reached.whole e lawful; owned = owned_after i st reached.whole.calls reached.owned e lawful }

  step_by : (c : Choice) → Says (IsLawful i st) (entry_of i st c)
  step_by (choice.Thread t) = thread_step i st t reached.whole.calls
  step_by (choice.Worker w) = worker_step i st w
  step_by choice.Operator = operator_step i st

  -- the entry that a choice adds is lawful
  pub lawful_entry : (c : Choice) (e : Entry) → entry_of i st c ≡ Some e → IsLawful i st e
  lawful_entry c e is = subst (Says (IsLawful i st)) is (step_by c)

  pub reached_more : (c : Choice) (e : Entry) → entry_of i st c ≡ Some e → Reached i (state_after i st e)
  reached_more c e is = reached_after e (lawful_entry c e is)

  -- which numbers are live after the entry that a choice adds
  pub life_more : (c : Choice) (e : Entry) → entry_of i st c ≡ Some e → (other : ℕ) → is_live (state_after i st e) other ≡ life_after st e other
  life_more c e is other = life_later i st reached.whole.calls reached.owned other e (lawful_entry c e is)

  -- the number of a held call is live, and its message is that of the thread
  pub held_live : AllHeldLive st
  held_live = record {
    held = λ t entered first pending way undying.
        let holder : IsHolder st t = record { entered = entered; pending = pending; first = first; way = way; undying = undying } in
        let is_open : IsOpen st t entered.call entered.regs = open_of i st reached.whole.calls t holder in
        record { live = held_lives i st reached.whole.calls t holder; head = is_open.head; posted = is_open.posted; own = is_open.own.tid_is };
  }

-- ---- every run

module _ (i : Input) (startable : IsStartable i) where
  pub reached_back : (h : History) → IsLawfulBack i h → Reached i (looking_back i h)
  reached_back [] lawful = reached_first i startable
  reached_back (e ∷ h) lawful = reached_after i (looking_back i h) (reached_back h lawful.1) e lawful.0

  pub reached_at : (choices : List Choice) → Reached i (state_at i (history i choices))
  reached_at choices = subst (Reached i) (sym (state-is i (history i choices))) (reached_back (history i choices) (lawful_history i startable choices))

  pub reached_run : (choices : List Choice) → Reached i (state_of_run i choices)
  reached_run choices = reached_at (reverse choices)
