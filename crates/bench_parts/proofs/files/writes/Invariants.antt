use Rattle.st_tree.specs.Refusals.{IsFile}
use Rattle.bench_parts.proofs.files.writes.Given as goal

abbrev pub invariant-loop : goal.invariant-loop
invariant-loop l = IsFile l.tree l.obj
