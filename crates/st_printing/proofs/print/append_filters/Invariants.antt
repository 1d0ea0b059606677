use Rattle.std.proofs.Common.{◌≡◌, ◌++◌, take}
use Rattle.st_lex.specs.Pieces.{print}
use Rattle.st_printing.specs.Canon.{rows_pieces}
use Rattle.st_printing.proofs.print.append_filters.Given as goal

-- the rows so far are appended to the text
abbrev pub invariant-loop-filter : goal.invariant-loop-filter
invariant-loop-filter l = l.out ≡ l.initial.out ++ print (rows_pieces (take l.filter-index l.filters) l.emulation)
