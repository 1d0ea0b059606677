use Rattle.std.proofs.Common.{take}
use Rattle.st_memory.specs.Pages.{ArePagesAdded}
use Rattle.st_memory.proofs.table.share.Given as goal

-- the pages so far have been counted
abbrev pub invariant-loop-number : goal.invariant-loop-number
invariant-loop-number l = ArePagesAdded l.initial.pages (take l.number-index l.numbers) l.pages
