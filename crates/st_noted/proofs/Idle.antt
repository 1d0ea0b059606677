-- A worker that isn't there is idle.
use Rattle.std.proofs.Common.{◌≡◌, ℕ, Bool, true, false, cond, None, refl}
use Rattle.st_trace.specs.declared.entry.Choice.TheVariants.{Worker}
use Rattle.st_law.proofs.Asked.{workers}
use Rattle.st_law.specs.declared.input.Input.{Input}
use Rattle.st_law.specs.Machine.{entry_of, turn_entry}
use Rattle.st_law.specs.Meaning.{IsWorker}
use Rattle.st_law.specs.State.{State, is_worker, worker_at}

pub nobody_idle : (i : Input) (st : State) (w : ℕ) → (IsWorker i w → ⊥) → entry_of i st (Worker w) ≡ None
nobody_idle i st w nobody = by (is_worker i w) refl where
  by : (b : Bool) → is_worker i w ≡ b → cond b (turn_entry i st w (worker_at st w)) None ≡ None
  by true there = absurd (nobody ((workers i w).0 there))
  by false none = refl
