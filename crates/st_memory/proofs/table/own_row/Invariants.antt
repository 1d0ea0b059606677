use Rattle.std.proofs.Common.{length}
use Rattle.slab.specs.Slab.{HasRoomFor}
use Rattle.st_memory.specs.Pages.{AreCopies, IsOwned}
use Rattle.st_memory.proofs.table.own_row.Given as goal

-- the copies that are left are still to be put in place, and there is room for them
abbrev pub invariant-loop-index : goal.invariant-loop-index
invariant-loop-index l = record {
  room : HasRoomFor l.pages (length l.copies.items);
  copies : AreCopies l.fn.pages l.row l.first l.end l.copies.items;
  owned : IsOwned l.fn.pages l.row l.first l.end l.copies.items l.pages l.owned;
}

abbrev pub decreases-loop-index : goal.decreases-loop-index
decreases-loop-index l = length l.copies.items
