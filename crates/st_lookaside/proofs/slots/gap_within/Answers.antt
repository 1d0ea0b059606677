use Rattle.std.proofs.Common.{◌∙◌, get_or, sym}
use Rattle.std.proofs.lemmas.Option.{none-some}
use Rattle.st_lookaside.specs.declared.slots.SlotKey.{SlotKey}
use Rattle.st_lookaside.proofs.Keys.{found_at}
use Rattle.st_lookaside.proofs.slots.gap_within.Goals as goal

pub unreachable-requires : goal.unreachable-requires
unreachable-requires c =
    let any : SlotKey = record { drawing = 0; key = 0 } in
    none-some (get_or c.args.keys.now.items c.in_default.field-0 any).key (sym c.requires.free ∙ found_at c.args.keys.now.items c.requires.ascending c.args.drawing c.in_default.field-0 c.in_default.ensures.found any)
