use Rattle.st_lex.proofs.Scans.{Faults}
use Rattle.st_lex.proofs.lexer.inner_fault.Given as goal

abbrev pub invariant-loop-index : goal.invariant-loop-index
invariant-loop-index l = Faults l.escaped l.bytes l.index
