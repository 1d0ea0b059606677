use Rattle.std.proofs.Common.{◌∙◌, List, ap, sym, subst}
use Rattle.std.specs.List.{insert}
use Rattle.slab.specs.Slab.{with_value}
use Rattle.st_lookaside.specs.Slot as slot
use Rattle.st_lookaside.specs.Slot.{renewed}
use Rattle.st_lookaside.specs.Slots.{key_at, slots_of, AreAscending, HasSlots, IsGap, RenewsSlot}
use Rattle.st_lookaside.specs.declared.slots.SlotKey.{SlotKey}
use Rattle.st_lookaside.proofs.Numbers.{free_of, gone, has_key, known_of, others_ascending, kept_renew, renewed_key, renews}
use Rattle.st_lookaside.proofs.slots.Slots.renew.Goals as goal

pub unreachable-requires : goal.unreachable-requires
unreachable-requires c = gone c.self.inside.slab c.self.inside.keys.items c.args.self.now c.self.invariant c.self.view_is c.args.old c.in_default.field-0 c.in_default.ensures.missing c.requires.slot

pub index_mut-slot-requires : goal.index_mut-slot-requires
index_mut-slot-requires c = has_key c.self.inside.slab c.self.inside.keys.items c.args.self.now c.self.invariant c.self.view_is c.args.old c.in-Ok.place c.in-Ok.ensures.found c.take_out-key.result c.take_out-key.ensures.value

pub gap_of-place-requires-clause-ascending : goal.gap_of-place-requires-clause-ascending
gap_of-place-requires-clause-ascending c = subst AreAscending (sym c.take_out-key.ensures.items) (others_ascending c.self.inside.slab c.self.inside.keys.items c.args.self.now c.self.invariant c.self.view_is c.args.old c.in-Ok.place c.in-Ok.ensures.found c.take_out-key.result c.take_out-key.ensures.value)

pub gap_of-place-requires-clause-free : goal.gap_of-place-requires-clause-free
gap_of-place-requires-clause-free c =
    ap (λ (keys : List SlotKey). key_at keys c.args.new.drawing) c.take_out-key.ensures.items
    ∙ free_of c.self.inside.slab c.self.inside.keys.items c.args.self.now c.self.invariant c.self.view_is c.args.old c.in-Ok.place c.in-Ok.ensures.found c.take_out-key.result c.take_out-key.ensures.value c.args.new.drawing c.requires.free

pub invariant_of-self : goal.invariant_of-self
invariant_of-self c =
    let key : SlotKey = record { drawing = c.args.new.drawing; key = c.take_out-key.result } in
    subst (λ (keys : List SlotKey). HasSlots (with_value c.self.inside.slab c.take_out-key.result c.renew.new.self) keys)
    (sym (c.put_in.ensures ∙ ap (λ (keys : List SlotKey). insert keys c.gap_of-place.result key) c.take_out-key.ensures.items))
    (kept_renew c.self.inside.slab c.self.inside.keys.items c.args.self.now c.self.invariant c.self.view_is c.args.old c.in-Ok.place c.in-Ok.ensures.found c.take_out-key.result c.take_out-key.ensures.value c.index_mut-slot.result.now c.renew.new.self c.index_mut-slot.ensures.value c.args.new.drawing c.gap_of-place.result (subst (λ (keys : List SlotKey). IsGap keys c.args.new.drawing c.gap_of-place.result) c.take_out-key.ensures.items c.gap_of-place.ensures) (ap (λ (s : slot.Slot). s.head.drawing) c.renew.ensures))

pub returns : goal.returns
returns c =
    let key : SlotKey = record { drawing = c.args.new.drawing; key = c.take_out-key.result } in
    let after : List slot.Slot = slots_of (with_value c.self.inside.slab c.take_out-key.result c.renew.new.self) c.put_in.new.keys.items in
    known_of c.self.inside.slab c.self.inside.keys.items c.args.self.now c.self.invariant c.self.view_is c.args.old c.take_out-key.result (renewed_key c.self.inside.slab c.self.inside.keys.items c.args.self.now c.self.invariant c.self.view_is c.args.old c.in-Ok.place c.in-Ok.ensures.found c.take_out-key.result c.take_out-key.ensures.value) c.index_mut-slot.result.now c.index_mut-slot.ensures.value
    (λ s. RenewsSlot c.args.self.now c.args.old c.args.new.drawing (renewed s c.args.new.drawing c.args.new.seq c.args.renewal) after)
    (subst (λ (s : slot.Slot). RenewsSlot c.args.self.now c.args.old c.args.new.drawing s after) c.renew.ensures
    (subst (λ (keys : List SlotKey). RenewsSlot c.args.self.now c.args.old c.args.new.drawing c.renew.new.self (slots_of (with_value c.self.inside.slab c.take_out-key.result c.renew.new.self) keys))
    (sym (c.put_in.ensures ∙ ap (λ (keys : List SlotKey). insert keys c.gap_of-place.result key) c.take_out-key.ensures.items))
    (renews c.self.inside.slab c.self.inside.keys.items c.args.self.now c.self.invariant c.self.view_is c.args.old c.in-Ok.place c.in-Ok.ensures.found c.take_out-key.result c.take_out-key.ensures.value c.index_mut-slot.result.now c.renew.new.self c.index_mut-slot.ensures.value c.args.new.drawing c.gap_of-place.result (subst (λ (keys : List SlotKey). IsGap keys c.args.new.drawing c.gap_of-place.result) c.take_out-key.ensures.items c.gap_of-place.ensures) (ap (λ (s : slot.Slot). s.head.drawing) c.renew.ensures))))
