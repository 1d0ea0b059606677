use Rattle.st_memory.specs.Pages.{AreCopies, IsRestAlone}
use Rattle.st_memory.proofs.table.copies_of_shared.Given as goal

-- the shared pages so far have been copied
abbrev pub invariant-loop-index : goal.invariant-loop-index
invariant-loop-index l = record {
  copies : AreCopies l.pages l.row l.first l.end l.copies.items;
  rest : IsRestAlone l.pages l.row l.first l.index l.copies.items;
}
