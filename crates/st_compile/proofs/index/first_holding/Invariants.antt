use Rattle.std.proofs.Common.{◌≡◌}
use Rattle.st_compile.proofs.Holding.{IsFirstSoFar}
use Rattle.st_compile.proofs.index.first_holding.Given as goal

-- the first of those that ask for the text of one of the arguments so far
abbrev pub invariant-loop-part : goal.invariant-loop-part
invariant-loop-part l = record {
  items : l.part-items ≡ l.copies.parts;
  first : IsFirstSoFar l.copies l.filters l.part-index l.first;
}
