use Rattle.std.proofs.Common.{◌≡◌, ap, Some}
use Rattle.slab.specs.Slab.{with_value}
use Rattle.st_lookaside.specs.Slot as slot
use Rattle.st_lookaside.specs.Slot.{after_look, after_word}
use Rattle.st_lookaside.specs.Slots.{slots_of, ChangesSlot}
use Rattle.st_lookaside.specs.declared.head.Head.{Head}
use Rattle.st_lookaside.proofs.Numbers.{changed_to, is_there, is_used, kept_set, known_of, now_changed}
use Rattle.st_lookaside.proofs.slots.Slots.take_back.Goals as goal

pub key_of-requires : goal.key_of-requires
key_of-requires c = record { ascending = c.self.invariant.ascending; some = is_there c.self.inside.slab c.self.inside.keys.items c.args.self.now c.self.invariant c.self.view_is c.args.drawing c.requires }

pub index_mut-slot-requires : goal.index_mut-slot-requires
index_mut-slot-requires c = is_used c.self.inside.slab c.self.inside.keys.items c.args.self.now c.self.invariant c.self.view_is c.args.drawing c.key_of.result c.key_of.ensures

pub invariant_of-self : goal.invariant_of-self
invariant_of-self c = kept_set c.self.inside.slab c.self.inside.keys.items c.args.self.now c.self.invariant c.self.view_is c.args.drawing c.key_of.result c.key_of.ensures c.index_mut-slot.result.now c.index_mut-slot.ensures.value c.take_back.new.self (ap (λ (h : Head). h.drawing) c.take_back.ensures.head)

pub returns-clause-only : goal.returns-clause-only
returns-clause-only c =
    let changed = now_changed c.self.inside.slab c.self.inside.keys.items c.args.self.now c.self.invariant c.self.view_is c.args.drawing c.key_of.result c.key_of.ensures c.index_mut-slot.result.now c.index_mut-slot.ensures.value c.take_back.new.self (ap (λ (h : Head). h.drawing) c.take_back.ensures.head) in
    known_of c.self.inside.slab c.self.inside.keys.items c.args.self.now c.self.invariant c.self.view_is c.args.drawing c.key_of.result c.key_of.ensures c.index_mut-slot.result.now c.index_mut-slot.ensures.value (λ was. (after : slot.Slot) × (after.head ≡ was.head) × ChangesSlot c.args.self.now c.args.drawing (Some after) (slots_of (with_value c.self.inside.slab c.key_of.result c.take_back.new.self) c.self.inside.keys.items))
    (c.take_back.new.self, c.take_back.ensures.head, changed)

pub returns-clause-word : goal.returns-clause-word
returns-clause-word c = λ before word order next found.
    changed_to c.self.inside.slab c.self.inside.keys.items c.args.self.now c.self.invariant c.self.view_is c.args.drawing c.key_of.result c.key_of.ensures c.index_mut-slot.result.now c.index_mut-slot.ensures.value (after_word before word) before c.take_back.new.self found (c.take_back.ensures.word before word order next) (ap (λ (h : Head). h.drawing) c.take_back.ensures.head)

pub returns-clause-look : goal.returns-clause-look
returns-clause-look c = λ before seen order next found.
    changed_to c.self.inside.slab c.self.inside.keys.items c.args.self.now c.self.invariant c.self.view_is c.args.drawing c.key_of.result c.key_of.ensures c.index_mut-slot.result.now c.index_mut-slot.ensures.value (after_look before seen) before c.take_back.new.self found (c.take_back.ensures.look before seen order next) (ap (λ (h : Head). h.drawing) c.take_back.ensures.head)
