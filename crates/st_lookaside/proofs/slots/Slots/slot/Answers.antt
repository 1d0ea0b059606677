use Rattle.st_lookaside.proofs.Numbers.{found_now, is_there, is_used}
use Rattle.st_lookaside.proofs.slots.Slots.slot.Goals as goal

pub key_of-requires : goal.key_of-requires
key_of-requires c = record { ascending = c.self.invariant.ascending; some = is_there c.self.inside.slab c.self.inside.keys.items c.args.self.now c.self.invariant c.self.view_is c.args.drawing c.requires }

pub index-requires : goal.index-requires
index-requires c = is_used c.self.inside.slab c.self.inside.keys.items c.args.self.now c.self.invariant c.self.view_is c.args.drawing c.key_of.result c.key_of.ensures

pub returns : goal.returns
returns c = found_now c.self.inside.slab c.self.inside.keys.items c.args.self.now c.self.invariant c.self.view_is c.args.drawing c.key_of.result c.key_of.ensures c.index.result.now c.index.ensures
