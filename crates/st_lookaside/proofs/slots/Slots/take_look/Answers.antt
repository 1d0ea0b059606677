use Rattle.std.proofs.Common.{◌≡◌, ap, refl}
use Rattle.std.proofs.lemmas.Result.{IfOk-weaker}
use Rattle.st_names.specs.Seen.{seen_text}
use Rattle.st_lookaside.specs.Slot.{after_look, next_need, slot_progress, IsInOrder, IsLookNext}
use Rattle.st_lookaside.specs.declared.head.Head.{Head}
use Rattle.st_lookaside.specs.declared.slot.Next.{Next}
use Rattle.st_lookaside.proofs.Numbers.{asked_of, is_there, is_used, kept_set, known_changed, known_of}
use Rattle.st_lookaside.proofs.Turns.{on_ok}
use Rattle.st_lookaside.proofs.slots.Slots.take_look.Goals as goal

pub key_of-requires : goal.key_of-requires
key_of-requires c = record { ascending = c.self.invariant.ascending; some = is_there c.self.inside.slab c.self.inside.keys.items c.args.self.now c.self.invariant c.self.view_is c.args.drawing c.requires.slot }

pub index_mut-slot-requires : goal.index_mut-slot-requires
index_mut-slot-requires c = is_used c.self.inside.slab c.self.inside.keys.items c.args.self.now c.self.invariant c.self.view_is c.args.drawing c.key_of.result c.key_of.ensures

pub take_look-requires : goal.take_look-requires
take_look-requires c = asked_of c.self.inside.slab c.self.inside.keys.items c.args.self.now c.self.invariant c.self.view_is c.args.drawing c.key_of.result c.key_of.ensures c.index_mut-slot.result.now c.index_mut-slot.ensures.value (λ s. IsLookNext (slot_progress s)) c.requires.next

pub invariant_of-self : goal.invariant_of-self
invariant_of-self c = kept_set c.self.inside.slab c.self.inside.keys.items c.args.self.now c.self.invariant c.self.view_is c.args.drawing c.key_of.result c.key_of.ensures c.index_mut-slot.result.now c.index_mut-slot.ensures.value c.take_look.new.self (ap (λ (h : Head). h.drawing) c.take_look.ensures.head)

pub returns-clause-slot : goal.returns-clause-slot
returns-clause-slot c = on_ok c.take_look.result _ _ (λ is. known_changed c.self.inside.slab c.self.inside.keys.items c.args.self.now c.self.invariant c.self.view_is c.args.drawing c.key_of.result c.key_of.ensures c.index_mut-slot.result.now c.index_mut-slot.ensures.value (λ s. after_look s (seen_text c.args.seen)) c.take_look.new.self is refl) c.take_look.ensures.slot

pub returns-clause-order : goal.returns-clause-order
returns-clause-order c = known_of c.self.inside.slab c.self.inside.keys.items c.args.self.now c.self.invariant c.self.view_is c.args.drawing c.key_of.result c.key_of.ensures c.index_mut-slot.result.now c.index_mut-slot.ensures.value IsInOrder c.take_look.ensures.order

pub returns-clause-next : goal.returns-clause-next
returns-clause-next c = IfOk-weaker c.take_look.result _ _ (λ (next : Next). known_of c.self.inside.slab c.self.inside.keys.items c.args.self.now c.self.invariant c.self.view_is c.args.drawing c.key_of.result c.key_of.ensures c.index_mut-slot.result.now c.index_mut-slot.ensures.value (λ s. next ≡ next_need (slot_progress (after_look s (seen_text c.args.seen))))) c.take_look.ensures.next
