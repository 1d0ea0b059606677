use Rattle.std.proofs.Common.{◌≡◌, length, take}
use Rattle.st_memory.specs.Pages.{IsFreshRow}
use Rattle.st_memory.specs.declared.table.TheConstants.{SPACE_PAGES}
use Rattle.st_memory.proofs.table.insert_zeros.Given as goal

-- the pages so far have been added
abbrev pub invariant-loop-index : goal.invariant-loop-index
invariant-loop-index l = record {
  size : length l.row ≡ SPACE_PAGES;
  so_far : IsFreshRow l.initial.pages (take l.index l.row) l.pages;
}
