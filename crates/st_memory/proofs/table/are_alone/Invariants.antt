use Rattle.st_memory.specs.Pages.{AreAlone}
use Rattle.st_memory.proofs.table.are_alone.Given as goal

-- no page so far is shared
abbrev pub invariant-loop-index : goal.invariant-loop-index
invariant-loop-index l = AreAlone l.pages l.row l.first l.index
