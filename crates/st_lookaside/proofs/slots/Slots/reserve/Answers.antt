use Rattle.std.proofs.Common.{◌∙◌, List, Some, ap, sym, subst}
use Rattle.std.specs.List.{insert}
use Rattle.slab.specs.Slab.{Slab}
use Rattle.st_lookaside.specs.Slot as slot
use Rattle.st_lookaside.specs.Slot.{new_slot}
use Rattle.st_lookaside.specs.Slots.{slots_of, ChangesSlot, HasSlots}
use Rattle.st_lookaside.specs.declared.slots.SlotKey.{SlotKey}
use Rattle.st_lookaside.proofs.Numbers.{kept_insert, kept_roomier, is_free, now_inserted}
use Rattle.st_lookaside.proofs.slots.Slots.reserve.Goals as goal

pub gap_of-place-requires-clause-free : goal.gap_of-place-requires-clause-free
gap_of-place-requires-clause-free c = is_free c.self.inside.slab c.self.inside.keys.items c.args.self.now c.self.invariant c.self.view_is c.args.head.drawing c.requires.free

pub invariant_of-self-in_default : goal.invariant_of-self-in_default
invariant_of-self-in_default c =
    subst (λ (slab : Slab slot.Slot). HasSlots slab c.reserve.new.self.items) (sym c.in_default.ensures.err)
    (subst (λ (keys : List SlotKey). HasSlots (record c.self.inside.slab { capacity = c.insert.new.self.capacity }) keys) (sym c.reserve.ensures.items)
    (kept_roomier c.self.inside.slab c.self.inside.keys.items c.insert.new.self.capacity c.self.invariant))

pub returns-in_default-clause-err : goal.returns-in_default-clause-err
returns-in_default-clause-err c =
    ap (λ (slab : Slab slot.Slot). slots_of slab c.reserve.new.self.items) c.in_default.ensures.err
    ∙ ap (λ (keys : List SlotKey). slots_of c.self.inside.slab keys) c.reserve.ensures.items ∙ c.self.view_is

pub invariant_of-self-2 : goal.invariant_of-self-2
invariant_of-self-2 c =
    let key : SlotKey = record { drawing = c.args.head.drawing; key = c.in-Ok.key } in
    subst (λ (keys : List SlotKey). HasSlots c.insert.new.self keys)
    (sym (c.put_in.ensures ∙ ap (λ (keys : List SlotKey). insert keys c.gap_of-place.result key) c.reserve.ensures.items))
    (kept_insert c.self.inside.slab c.self.inside.keys.items c.args.self.now c.self.invariant c.self.view_is c.args.head.drawing c.gap_of-place.result c.gap_of-place.ensures c.insert.new.self c.in-Ok.key c.in-Ok.ensures.was_vacant c.in_ok-slot.slot c.in-Ok.ensures.updates (ap (λ (s : slot.Slot). s.head.drawing) c.in_ok-slot.ensures) c.in-Ok.ensures.len)

pub returns-clause-ok : goal.returns-clause-ok
returns-clause-ok c =
    let key : SlotKey = record { drawing = c.args.head.drawing; key = c.in-Ok.key } in
    subst (λ (keys : List SlotKey). ChangesSlot c.args.self.now c.args.head.drawing (Some (new_slot c.args.head)) (slots_of c.insert.new.self keys))
    (sym (c.put_in.ensures ∙ ap (λ (keys : List SlotKey). insert keys c.gap_of-place.result key) c.reserve.ensures.items))
    (subst (λ (s : slot.Slot). ChangesSlot c.args.self.now c.args.head.drawing (Some s) (slots_of c.insert.new.self (insert c.self.inside.keys.items c.gap_of-place.result key))) c.in_ok-slot.ensures
    (now_inserted c.self.inside.slab c.self.inside.keys.items c.args.self.now c.self.invariant c.self.view_is c.args.head.drawing c.gap_of-place.result c.gap_of-place.ensures c.insert.new.self c.in-Ok.key c.in-Ok.ensures.was_vacant c.in_ok-slot.slot c.in-Ok.ensures.updates (ap (λ (s : slot.Slot). s.head.drawing) c.in_ok-slot.ensures)))
