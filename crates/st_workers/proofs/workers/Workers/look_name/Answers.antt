use Rattle.std.proofs.Common.{◌≡◌, ◌∙◌, IfSome, IsSome, List, ap, sym, subst}
use Rattle.st_effects.specs.Progress.{Look}
use Rattle.st_law.specs.State.{is_live}
use Rattle.st_lookaside.specs.Slot.{part_next, slot_progress, IsLookNext, Slot}
use Rattle.st_lookaside.specs.Slots.{slot_at}
use Rattle.st_names.specs.Name.{Components}
use Rattle.st_workers.specs.Refinement.{RepresentsMessages, AreValidWorkers, SameWorkersState}
use Rattle.st_workers.specs.Tasks.{task_of, IsLook}
use Rattle.st_workers.specs.UnderWay.{turn_of_worker, UnderWay}
use Rattle.st_workers.proofs.Lookups.{if_ok, name_entry}
use Rattle.st_workers.proofs.Tasks.{look_slot}
use Rattle.st_workers.specs.Numbers.{AreNumbered}
use Rattle.st_workers.proofs.workers.Workers.look_name.Goals as goal

abbrev asked : goal.After-next_name-arg-1 → UnderWay
asked c = record { calls = c.self.inside.messages; slots = c.self.inside.slots; turns = c.self.inside.turns.items }

slot : (c : goal.After-next_name-arg-1) → IsSome (slot_at (asked c).slots c.drawing_at-drawing.result) × IfSome (slot_at (asked c).slots c.drawing_at-drawing.result) (λ slot. IsLookNext (slot_progress slot))
slot c = look_slot (asked c) c.args.worker c.drawing_at-drawing.result c.self.invariant.0 (ap (λ (k : UnderWay). turn_of_worker k c.args.worker) c.self.view_is ∙ c.drawing_at-drawing.ensures)
    (subst (λ (k : UnderWay). IsLook (task_of k c.args.worker)) (sym c.self.view_is) c.requires)

pub next_name-requires-clause-slot : goal.next_name-requires-clause-slot
next_name-requires-clause-slot c = (slot c).0

pub next_name-requires-clause-next : goal.next_name-requires-clause-next
next_name-requires-clause-next c = (slot c).1

abbrev old : goal.After-next_name → UnderWay
old c = record { calls = c.self.inside.messages; slots = c.self.inside.slots; turns = c.self.inside.turns.items }

abbrev new : goal.After-next_name → UnderWay
new c = record { calls = c.self.inside.messages; slots = c.next_name.new.self; turns = c.self.inside.turns.items }

same : (c : goal.After-next_name) → new c ≡ old c
same c = ap (λ (l : List Slot). record { calls = c.self.inside.messages; slots = l; turns = c.self.inside.turns.items }) c.next_name.ensures.same

pub invariant_of-self : goal.invariant_of-self
invariant_of-self c = subst (λ (k : UnderWay). AreValidWorkers k × AreNumbered k) (sym (same c)) c.self.invariant

pub returns-clause-stands : goal.returns-clause-stands
returns-clause-stands c = subst (λ (k : UnderWay). SameWorkersState c.args.self.now k) (sym (same c ∙ c.self.view_is)) (λ i messages turns alive posted is. is)

pub returns-clause-task : goal.returns-clause-task
returns-clause-task c = ap (λ (k : UnderWay). task_of k c.args.worker) (same c ∙ c.self.view_is)

pub returns-clause-law : goal.returns-clause-law
returns-clause-law c =
    if_ok c.next_name.result (λ (name : Components). IfSome (slot_at (old c).slots c.drawing_at-drawing.result) (λ slot. slot_progress slot ≡ Look (part_next (slot_progress slot)) name)) _
    (λ name found i st drawing part kept asked.
    name_entry (old c) c.args.worker c.drawing_at-drawing.result (ap (λ (k : UnderWay). turn_of_worker k c.args.worker) c.self.view_is ∙ c.drawing_at-drawing.ensures) c.self.invariant.0 name found i st drawing part
    (subst (λ (k : UnderWay). RepresentsMessages i st (is_live st) k) (sym c.self.view_is) kept) (ap (λ (k : UnderWay). task_of k c.args.worker) c.self.view_is ∙ asked)) c.next_name.ensures.name
