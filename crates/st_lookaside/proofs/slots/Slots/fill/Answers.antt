use Rattle.std.proofs.Common.{◌≡◌, ap, refl}
use Rattle.st_lookaside.specs.Slot as slot
use Rattle.st_lookaside.specs.Slot.{after_word, next_need, slot_progress, IsInOrder, IsWordNext}
use Rattle.st_lookaside.proofs.Numbers.{asked_of, is_there, is_used, kept_set, known_changed, known_of}
use Rattle.st_lookaside.proofs.slots.Slots.fill.Goals as goal

pub key_of-requires : goal.key_of-requires
key_of-requires c = record { ascending = c.self.invariant.ascending; some = is_there c.self.inside.slab c.self.inside.keys.items c.args.self.now c.self.invariant c.self.view_is c.args.drawing c.requires.slot }

pub index_mut-slot-requires : goal.index_mut-slot-requires
index_mut-slot-requires c = is_used c.self.inside.slab c.self.inside.keys.items c.args.self.now c.self.invariant c.self.view_is c.args.drawing c.key_of.result c.key_of.ensures

pub fill-requires : goal.fill-requires
fill-requires c = asked_of c.self.inside.slab c.self.inside.keys.items c.args.self.now c.self.invariant c.self.view_is c.args.drawing c.key_of.result c.key_of.ensures c.index_mut-slot.result.now c.index_mut-slot.ensures.value (λ s. IsWordNext (slot_progress s)) c.requires.next

pub invariant_of-self : goal.invariant_of-self
invariant_of-self c = kept_set c.self.inside.slab c.self.inside.keys.items c.args.self.now c.self.invariant c.self.view_is c.args.drawing c.key_of.result c.key_of.ensures c.index_mut-slot.result.now c.index_mut-slot.ensures.value c.fill.new.self (ap (λ (s : slot.Slot). s.head.drawing) c.fill.ensures.slot)

pub returns-clause-slot : goal.returns-clause-slot
returns-clause-slot c = known_changed c.self.inside.slab c.self.inside.keys.items c.args.self.now c.self.invariant c.self.view_is c.args.drawing c.key_of.result c.key_of.ensures c.index_mut-slot.result.now c.index_mut-slot.ensures.value (λ s. after_word s c.args.word) c.fill.new.self c.fill.ensures.slot refl

pub returns-clause-order : goal.returns-clause-order
returns-clause-order c = known_of c.self.inside.slab c.self.inside.keys.items c.args.self.now c.self.invariant c.self.view_is c.args.drawing c.key_of.result c.key_of.ensures c.index_mut-slot.result.now c.index_mut-slot.ensures.value IsInOrder c.fill.ensures.order

pub returns-clause-next : goal.returns-clause-next
returns-clause-next c = known_of c.self.inside.slab c.self.inside.keys.items c.args.self.now c.self.invariant c.self.view_is c.args.drawing c.key_of.result c.key_of.ensures c.index_mut-slot.result.now c.index_mut-slot.ensures.value (λ s. c.fill.result ≡ next_need (slot_progress (after_word s c.args.word))) c.fill.ensures.next
