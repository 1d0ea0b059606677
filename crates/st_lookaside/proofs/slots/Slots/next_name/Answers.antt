use Rattle.std.proofs.Common.{◌≡◌, ap}
use Rattle.std.proofs.lemmas.Result.{IfOk-weaker}
use Rattle.st_effects.specs.Progress.{Look}
use Rattle.st_names.specs.Name.{Components}
use Rattle.st_lookaside.specs.Slot as slot
use Rattle.st_lookaside.specs.Slot.{part_next, slot_progress, IsLookNext}
use Rattle.st_lookaside.proofs.Numbers.{asked_of, is_there, is_used, kept_set, known_of, same_slots}
use Rattle.st_lookaside.proofs.slots.Slots.next_name.Goals as goal

pub key_of-requires : goal.key_of-requires
key_of-requires c = record { ascending = c.self.invariant.ascending; some = is_there c.self.inside.slab c.self.inside.keys.items c.args.self.now c.self.invariant c.self.view_is c.args.drawing c.requires.slot }

pub index_mut-slot-requires : goal.index_mut-slot-requires
index_mut-slot-requires c = is_used c.self.inside.slab c.self.inside.keys.items c.args.self.now c.self.invariant c.self.view_is c.args.drawing c.key_of.result c.key_of.ensures

pub next_name-requires : goal.next_name-requires
next_name-requires c = asked_of c.self.inside.slab c.self.inside.keys.items c.args.self.now c.self.invariant c.self.view_is c.args.drawing c.key_of.result c.key_of.ensures c.index_mut-slot.result.now c.index_mut-slot.ensures.value (λ s. IsLookNext (slot_progress s)) c.requires.next

pub invariant_of-self : goal.invariant_of-self
invariant_of-self c = kept_set c.self.inside.slab c.self.inside.keys.items c.args.self.now c.self.invariant c.self.view_is c.args.drawing c.key_of.result c.key_of.ensures c.index_mut-slot.result.now c.index_mut-slot.ensures.value c.next_name.new.self (ap (λ (s : slot.Slot). s.head.drawing) c.next_name.ensures.same)

pub returns-clause-name : goal.returns-clause-name
returns-clause-name c = IfOk-weaker c.next_name.result _ _ (λ (name : Components). known_of c.self.inside.slab c.self.inside.keys.items c.args.self.now c.self.invariant c.self.view_is c.args.drawing c.key_of.result c.key_of.ensures c.index_mut-slot.result.now c.index_mut-slot.ensures.value (λ s. slot_progress s ≡ Look (part_next (slot_progress s)) name)) c.next_name.ensures.name

pub returns-clause-same : goal.returns-clause-same
returns-clause-same c = same_slots c.self.inside.slab c.self.inside.keys.items c.args.self.now c.self.invariant c.self.view_is c.args.drawing c.key_of.result c.key_of.ensures c.index_mut-slot.result.now c.index_mut-slot.ensures.value c.next_name.new.self c.next_name.ensures.same
