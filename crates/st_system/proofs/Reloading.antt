-- A reload changes nothing in the system: its changes are renewals.
use Rattle.std.proofs.Common.{◌∙◌, ℕ, suc, Bool, true, false, List, refl}
use Rattle.st_effects.specs.Changes.{next_process_after_change, next_space_after_change, owner_after_change, process_after_change, tree_after_change}
use Rattle.st_model.specs.Processes.{thread_at}
use Rattle.st_trace.specs.declared.entry.Change.{Change}
use Rattle.st_trace.specs.declared.entry.Entry.TheVariants.{Reloaded}
use Rattle.st_law.specs.declared.input.Input.{Input}
use Rattle.st_law.specs.Machine.{state_after}
use Rattle.st_law.specs.State.{State, held_from, is_held_under, reload_changes, thread_count}
use Rattle.st_system.specs.System.{IsSystem, Parts}
use Rattle.st_system.proofs.Kept.{with_owner}
use Rattle.st_system.proofs.Renewing.{are_renewals, fold_same, AreRenewals}

of_reload : (i : Input) (st : State) (n : ℕ) (done : Bool) → AreRenewals (reload_changes i st n done)
of_reload i st n true = are_renewals (is_held_under i st n) (suc st.posted) (held_from st 1 (thread_count i))
of_reload i st n false = tt

-- the system represents the state after a reload
pub reloaded : (i : Input) (st : State) (parts : Parts) → IsSystem i st parts → (t n : ℕ) (done : Bool) → IsSystem i (state_after i st (Reloaded t n done (reload_changes i st n done))) parts
reloaded i st parts x t n done =
    let changes : List Change = reload_changes i st n done in
    let are : AreRenewals changes = of_reload i st n done in
    record {
      tree = fold_same tree_after_change (λ tree old new. refl) st.tree changes are ∙ x.tree;
      descriptors = x.descriptors;
      processes = λ p. fold_same (process_after_change st.processes (st.threads t).owner p) (λ process old new. refl) (st.processes p) changes are ∙ x.processes p;
      next_process = fold_same next_process_after_change (λ next old new. refl) st.next_process changes are ∙ x.next_process;
      memory = x.memory;
      next_space = fold_same next_space_after_change (λ next old new. refl) st.next_space changes are ∙ x.next_space;
      threads = λ u. with_owner (thread_at parts.processes u) (st.threads u) ((state_after i st (Reloaded t n done changes)).threads u) (x.threads u)
          (fold_same (owner_after_change u) (λ owner old new. refl) (st.threads u).owner changes are) refl;
      among = x.among;
    }
