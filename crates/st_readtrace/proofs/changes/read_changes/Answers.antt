use Rattle.std.proofs.Common.{◌≡◌, ◌≢◌, ℕ, ◌+◌, ◌-◌, List, [], ap, sym, subst, ◌∙◌, arith}
use Rattle.st_trace.specs.declared.entry.Change.{Change}
use Rattle.st_readtrace.specs.Changes.{changes_at, changes_from}
use Rattle.st_fields.specs.Reads.{Fails}
use Rattle.st_fields.proofs.Loops.{gives_none, not_empty, with_front}
use Rattle.st_readtrace.proofs.ChangeLoops.{changes-end, changes-fault, changes-go_on, changes-left}
use Rattle.st_readtrace.proofs.changes.read_changes.Goals as goal

pub returns-then-is_empty : goal.returns-then-is_empty
returns-then-is_empty c =
    ap (λ (n : ℕ). changes_from n c.args.fields.now) (sym c.len-most.ensures)
    ∙ changes-end c.loop.changes (c.len-most.result - c.loop.counter) c.loop.fields _ (c.is_empty.ensures.0 c.if-is_empty.true) c.loop.invariant

pub returns-in_err-read_next_change : goal.returns-in_err-read_next_change
returns-in_err-read_next_change c =
    let some : c.loop.fields ≢ [] = not_empty c.is_empty.result c.loop.fields c.is_empty.ensures c.if-is_empty.false in
    let fails : Fails c.in_err-read_next_change.field-0.0 (changes_from c.len-most.result c.args.fields.now) =
    changes-fault c.in_err-read_next_change.field-0.0 c.loop.changes c.len-most.result c.loop.counter c.loop.fields _ (omega arith) some c.in_err-read_next_change.ensures c.loop.invariant in
    gives_none c.in_err-read_next_change.field-0.0 c.from_residual.result (changes_at c.args.fields.now) c.from_residual.ensures.0 c.from_residual.ensures.1
    (subst (λ (n : ℕ). Fails c.in_err-read_next_change.field-0.0 (changes_from n c.args.fields.now)) c.len-most.ensures fails)

pub loop-preserved : goal.loop-preserved
loop-preserved c =
    let some : c.loop.fields ≢ [] = not_empty c.is_empty.result c.loop.fields c.is_empty.ensures c.if-is_empty.false in
    subst (λ (changes : List Change). with_front changes (changes_from (c.len-most.result - (c.loop.counter + 1)) c.read_next_change.new.fields) ≡ changes_from c.len-most.result c.args.fields.now) (sym c.in_ok-push.ensures.ok)
    (changes-go_on c.loop.changes c.len-most.result c.loop.counter c.loop.fields c.in_ok-read_next_change.field-0 c.read_next_change.new.fields _ (omega arith) some c.in_ok-read_next_change.ensures c.loop.invariant)

pub returns-then-is_empty-2 : goal.returns-then-is_empty-2
returns-then-is_empty-2 c =
    ap (λ (n : ℕ). changes_from n c.args.fields.now) (sym c.len-most.ensures)
    ∙ changes-end c.loop.changes (c.len-most.result - c.loop.counter) c.loop.fields _ (c.is_empty-2.ensures.0 c.if-is_empty-2.true) c.loop.invariant

pub returns-else-is_empty-2 : goal.returns-else-is_empty-2
returns-else-is_empty-2 c =
    let some : c.loop.fields ≢ [] = not_empty c.is_empty-2.result c.loop.fields c.is_empty-2.ensures c.if-is_empty-2.false in
    ap (λ (n : ℕ). changes_from n c.args.fields.now) (sym c.len-most.ensures)
    ∙ changes-left c.loop.changes c.len-most.result c.loop.counter c.loop.fields _ (omega arith) some c.loop.invariant
