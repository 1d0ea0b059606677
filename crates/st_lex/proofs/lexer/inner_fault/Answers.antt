use Rattle.std.proofs.Common.{sym, arith, ◌+◌, ◌∙◌, ap}
use Rattle.std.proofs.lemmas.List.{take_rest}
use Rattle.st_lex.specs.Quoted.{is_byte_escape}
use Rattle.st_lex.proofs.Scans.{Faults-start, Faults-after, Faults-plain, Faults-zero, Faults-quote}
use Rattle.st_lex.proofs.lexer.inner_fault.Goals as goal
use Rattle.st_lex.proofs.lexer.inner_fault.Goals.{then-escaped+else-byte-eq120, else-byte-eq120-via-then-byte-eq120+else-not-is_byte_escape, else-byte-eq120-via-else-byte-eq120, else-escaped+else-byte-eq34}

pub loop-index-init : goal.loop-index-init
loop-index-init c = Faults-start c.args.bytes.now

pub returns-then-byte-eq0-clause-is : goal.returns-then-byte-eq0-clause-is
returns-then-byte-eq0-clause-is c = sym (Faults-zero c.loop-index.escaped c.args.bytes.now c.loop-index.index (omega arith) c.if-byte-eq0.true c.loop-index.invariant)

pub returns-then-byte-eq34-clause-is : goal.returns-then-byte-eq34-clause-is
returns-then-byte-eq34-clause-is c = sym (Faults-quote c.loop-index.escaped c.args.bytes.now c.loop-index.index (omega arith) c.if-byte-eq34.true c.if-escaped.false c.loop-index.invariant)

pub loop-index-preserved : goal.loop-index-preserved
loop-index-preserved c =
    elim c.if-escaped.branch [
      | then-escaped+else-byte-eq120 w ↦ elim w.else-byte-eq120.branch [
        | else-byte-eq120-via-then-byte-eq120+else-not-is_byte_escape v ↦ Faults-after c.loop-index.escaped c.if-escaped.escaped c.args.bytes.now c.loop-index.index (omega arith) c.if-byte-eq0.false (λ _. sym (ap is_byte_escape (take_rest c.args.bytes.now (c.loop-index.index + 1))) ∙ sym v.is_byte_escape.ensures ∙ v.if-not-is_byte_escape.false) w.if-escaped.true w.escaped-is c.loop-index.invariant
        | else-byte-eq120-via-else-byte-eq120 v ↦ Faults-after c.loop-index.escaped c.if-escaped.escaped c.args.bytes.now c.loop-index.index (omega arith) c.if-byte-eq0.false (λ h. absurd (v.if-byte-eq120.false h)) w.if-escaped.true w.escaped-is c.loop-index.invariant
      ]
      | else-escaped+else-byte-eq34 w ↦ Faults-plain c.loop-index.escaped c.if-escaped.escaped c.args.bytes.now c.loop-index.index (omega arith) c.if-byte-eq0.false w.if-byte-eq34.false w.if-escaped.false w.escaped-is c.loop-index.invariant
    ]
