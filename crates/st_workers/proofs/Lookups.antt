-- The name that a worker looks at.
use Rattle.std.proofs.Common.{◌≡◌, ◌≤◌, ◌∙◌, ℕ, length, IfOk, IfSome, Result, Ok, Err, Some, ap, subst}
use Rattle.st_effects.specs.Progress.{Look, Progress}
use Rattle.st_lookaside.specs.Slot.{part_next, slot_progress, Slot}
use Rattle.st_lookaside.specs.Slots.{slot_at}
use Rattle.st_model.specs.Tree.{look}
use Rattle.st_names.specs.Name.{Components}
use Rattle.st_trace.specs.declared.entry.Entry.TheVariants as entry
use Rattle.st_law.specs.Machine.{worker_entry}
use Rattle.st_law.specs.State.{is_live, State}
use Rattle.st_law.specs.declared.input.Input.{Input}
use Rattle.st_workers.specs.Refinement.{RepresentsMessages, AreValidWorkers}
use Rattle.st_workers.specs.Tasks.{task_of}
use Rattle.st_workers.specs.UnderWay.{turn_of_worker, UnderWay}
use Rattle.st_workers.specs.declared.task.Task.TheVariants as task
use Rattle.st_workers.specs.declared.turn.Turn.TheVariants.{Working}
use Rattle.st_workers.proofs.Filled.{known}
use Rattle.st_workers.proofs.Tasks.{look_is, working_entry_is, working_slot, worker_there}
use Rattle.st_workers.proofs.Turns.{number_within}

same_name : (p : Progress) (part : ℕ) (a b : Components) → p ≡ Look part a → p ≡ Look (part_next p) b → p ≡ Look part b
same_name p part a b first second = second ∙ ap (λ (r : Progress). Look (part_next r) b) first

module _ (kept : UnderWay) (w drawing : ℕ) (working : turn_of_worker kept w ≡ Some (Working drawing)) (whole : AreValidWorkers kept) where
  slot : (slot : Slot) × (slot_at kept.slots drawing ≡ Some slot)
  slot = working_slot kept whole w drawing working

  -- the name is that of the law's machine
  pub name_entry : (name : Components) → IfSome (slot_at kept.slots drawing) (λ slot. slot_progress slot ≡ Look (part_next (slot_progress slot)) name) → (i : Input) (st : State) (q part : ℕ) → RepresentsMessages i st (is_live st) kept
      → task_of kept w ≡ task.Look q part → worker_entry i st w ≡ Some (entry.Looked q part name (look st.tree name))
  name_entry name found i st q part is e =
      let asked = look_is kept w drawing slot.0 working slot.1 q part e in
      let here : slot_progress slot.0 ≡ Look part name =
      same_name (slot_progress slot.0) part asked.1 name asked.2 (known (slot_at kept.slots drawing) (λ s. slot_progress s ≡ Look (part_next (slot_progress s)) name) slot.0 slot.1 found) in
      let within : (1 ≤ w) × (w ≤ length kept.turns) = number_within kept.turns w (Working drawing) working in
      working_entry_is i st kept w is (worker_there i st (is_live st) kept w within.0 (subst (λ (n : ℕ). w ≤ n) whole.count within.1) is) drawing slot.0 (Look part name) working slot.1 here
      ∙ ap (λ (n : ℕ). Some (entry.Looked n part name (look st.tree name))) asked.0

pub if_ok : {A E : Type 0} (r : Result A E) (P Q : A → Type 0) → ((x : A) → P x → Q x) → IfOk r P → IfOk r Q
if_ok (Ok x) P Q f p = f x p
if_ok (Err e) P Q f p = p
