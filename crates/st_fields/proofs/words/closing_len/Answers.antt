use Rattle.std.proofs.Common.{sym, arith}
use Rattle.st_lex.proofs.Scans.{Closes-start, Closes-after, Closes-plain, Closes-newline, Closes-quote}
use Rattle.st_fields.proofs.words.closing_len.Goals as goal
use Rattle.st_fields.proofs.words.closing_len.Goals.{then-escaped, else-escaped+else-byte-eq34}

pub loop-index-init : goal.loop-index-init
loop-index-init c = Closes-start c.args.bytes.now

pub returns-then-byte-eq10-clause-is : goal.returns-then-byte-eq10-clause-is
returns-then-byte-eq10-clause-is c = sym (Closes-newline c.loop-index.escaped c.args.bytes.now c.loop-index.index (omega arith) c.if-byte-eq10.true c.loop-index.invariant)

pub returns-then-byte-eq34-clause-is : goal.returns-then-byte-eq34-clause-is
returns-then-byte-eq34-clause-is c = sym (Closes-quote c.loop-index.escaped c.args.bytes.now c.loop-index.index (omega arith) c.if-byte-eq34.true c.if-escaped.false c.loop-index.invariant)

pub loop-index-preserved : goal.loop-index-preserved
loop-index-preserved c =
    elim c.if-escaped.branch [
      | then-escaped w ↦ Closes-after c.loop-index.escaped c.if-escaped.escaped c.args.bytes.now c.loop-index.index (omega arith) c.if-byte-eq10.false w.if-escaped.true w.escaped-is c.loop-index.invariant
      | else-escaped+else-byte-eq34 w ↦ Closes-plain c.loop-index.escaped c.if-escaped.escaped c.args.bytes.now c.loop-index.index (omega arith) c.if-byte-eq10.false w.if-byte-eq34.false w.if-escaped.false w.escaped-is c.loop-index.invariant
    ]
