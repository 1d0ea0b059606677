use Rattle.std.proofs.Common.{take}
use Rattle.st_memory.specs.Pages.{ArePagesReleased}
use Rattle.st_memory.proofs.table.release.Given as goal

-- the pages so far have been released
abbrev pub invariant-loop-number : goal.invariant-loop-number
invariant-loop-number l = ArePagesReleased l.initial.pages (take l.number-index l.numbers) l.pages
