use Rattle.st_lex.proofs.Scans.{Closes}
use Rattle.st_fields.proofs.words.closing_len.Given as goal

abbrev pub invariant-loop-index : goal.invariant-loop-index
invariant-loop-index l = Closes l.escaped l.bytes l.index
