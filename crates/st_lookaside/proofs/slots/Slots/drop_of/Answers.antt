use Rattle.std.proofs.Common.{None, sym, subst, List}
use Rattle.st_lookaside.specs.Slots.{slots_of, ChangesSlot, HasSlots}
use Rattle.st_lookaside.specs.declared.slots.SlotKey.{SlotKey}
use Rattle.st_lookaside.proofs.Numbers.{gone, has_key, kept_remove, now_removed}
use Rattle.st_lookaside.proofs.slots.Slots.drop_of.Goals as goal

pub unreachable-requires : goal.unreachable-requires
unreachable-requires c = gone c.self.inside.slab c.self.inside.keys.items c.args.self.now c.self.invariant c.self.view_is c.args.drawing c.in_default.field-0 c.in_default.ensures.missing c.requires

pub remove-requires : goal.remove-requires
remove-requires c = has_key c.self.inside.slab c.self.inside.keys.items c.args.self.now c.self.invariant c.self.view_is c.args.drawing c.in-Ok.place c.in-Ok.ensures.found c.take_out-key.result c.take_out-key.ensures.value

pub invariant_of-self : goal.invariant_of-self
invariant_of-self c =
    let d : SlotKey = record { drawing = c.args.drawing; key = c.take_out-key.result } in
    subst (λ (keys : List SlotKey). HasSlots c.remove.new.self keys) (sym c.take_out-key.ensures.items)
    (kept_remove c.self.inside.slab c.self.inside.keys.items c.args.self.now c.self.invariant c.self.view_is c.args.drawing c.in-Ok.place c.in-Ok.ensures.found c.take_out-key.result d (c.take_out-key.ensures.value d) c.remove.new.self c.remove.ensures.updates c.remove.ensures.len)

pub returns : goal.returns
returns c =
    let d : SlotKey = record { drawing = c.args.drawing; key = c.take_out-key.result } in
    subst (λ (keys : List SlotKey). ChangesSlot c.args.self.now c.args.drawing None (slots_of c.remove.new.self keys)) (sym c.take_out-key.ensures.items)
    (now_removed c.self.inside.slab c.self.inside.keys.items c.args.self.now c.self.invariant c.self.view_is c.args.drawing c.in-Ok.place c.in-Ok.ensures.found c.take_out-key.result d (c.take_out-key.ensures.value d) c.remove.new.self c.remove.ensures.updates)
