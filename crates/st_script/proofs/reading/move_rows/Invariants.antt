use Rattle.std.proofs.Common.{◌≡◌}
use Rattle.std.specs.Vec.Iter.{into_iter_items}
use Rattle.st_script.specs.Reading.{with_rows}
use Rattle.st_script.proofs.reading.move_rows.Given as goal

-- the lines that are left give the answer
abbrev pub invariant-loop-line : goal.invariant-loop-line
invariant-loop-line l = with_rows l.start (into_iter_items l.line-iterator) ≡ with_rows l.initial.start l.fn.lines.items
