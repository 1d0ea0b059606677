-- A thread that has started has a row and a process.
use Rattle.std.proofs.Common.{◌≡◌, ◌≢◌, ◌≤◌, ◌-◌, ◌∙◌, ℕ, not, Bool, true, false, get_or, [], Option, Some, None, refl, sym, subst}
use Rattle.std.specs.Option.{option_map}
use Rattle.std.specs.Prelude.{IsSome}
use Rattle.st_base.specs.Numbered.{item_at_number}
use Rattle.st_model.specs.Processes.{StartedThread, has_not_ended, is_running, pid_of, thread_at}
use Rattle.st_law.specs.State.{State, thread_count}
use Rattle.st_system.specs.System.{IsAmong, IsThreadState}
use Rattle.st_workers.proofs.Turns.{item_here}
use Rattle.st_decide.specs.Machine.{Refines, Running}
use Rattle.st_threads.specs.Thread.{ThreadRow, first_row}

not_ended : (b : Bool) → b ≡ false → not b ≡ true
not_ended true e = cc
not_ended false e = refl

module _ (m : Running) (st : State) (is : Refines m st) (t : ℕ) (started : (st.threads t).owner ≢ 0) where
  -- a thread that has started is one of the script's
  pub row_there : (row : ThreadRow) × (item_at_number m.threads t ≡ Some row)
  row_there = by (thread_at m.system.processes t) (is.system.threads t) (is.system.among t) where
    by : (o : Option StartedThread) → IsThreadState o (st.threads t) → IsAmong (thread_count m.input) t o → (row : ThreadRow) × (item_at_number m.threads t ≡ Some row)
    by None x among = absurd (started x.0)
    by (Some thread) x among = (get_or m.threads (t - 1) (first_row []), item_here m.threads t (first_row []) among.0 (subst (λ (n : ℕ). t ≤ n) (sym is.count) among.1))

  -- a thread that has started has a process
  pub pid_there : IsSome (pid_of m.system.processes t)
  pid_there = by (thread_at m.system.processes t) (is.system.threads t) where
    by : (o : Option StartedThread) → IsThreadState o (st.threads t) → IsSome (option_map (λ (thread : StartedThread). thread.pid) o)
    by None x = absurd (started x.0)
    by (Some thread) x = refl

  -- a thread that has started runs while it hasn't ended
  pub runs : (st.threads t).ended ≡ false → is_running m.system.processes t ≡ true
  runs unended = by (thread_at m.system.processes t) (is.system.threads t) where
    by : (o : Option StartedThread) → IsThreadState o (st.threads t) → has_not_ended o ≡ true
    by None x = absurd (started x.0)
    by (Some thread) x = not_ended thread.ended (sym x.1 ∙ unended)
