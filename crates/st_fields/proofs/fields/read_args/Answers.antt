use Rattle.std.proofs.Common.{◌≡◌, ℕ, ◌+◌, ◌-◌, true, List, codes, nat_eq, ap, sym, subst, ◌∙◌, arith}
use Rattle.std.specs.List.{starts_with}
use Rattle.st_calls.specs.declared.argument.ArgText.{ArgText}
use Rattle.st_fields.specs.Fields.{args_at, args_from}
use Rattle.st_fields.specs.Reads.{Fails}
use Rattle.st_fields.proofs.Loops.{args-done, args-end, args-fault, args-go_on, read_fails, with_args}
use Rattle.st_fields.proofs.fields.read_args.Goals as goal

pub returns-then-not-begins : goal.returns-then-not-begins
returns-then-not-begins c =
    ap (λ (n : ℕ). args_from n c.args.fields.now) (sym c.len-most.ensures)
    ∙ args-end c.loop.args (c.len-most.result - c.loop.counter) c.loop.fields _ (sym c.begins.ensures ∙ c.if-not-begins.true) c.loop.invariant

pub returns-in_err-read_arg : goal.returns-in_err-read_arg
returns-in_err-read_arg c =
    let begins : starts_with nat_eq c.loop.fields (codes " arg ") ≡ true = sym c.begins.ensures ∙ c.if-not-begins.false in
    let fails : Fails c.in_err-read_arg.field-0.0 (args_from c.len-most.result c.args.fields.now) =
    args-fault c.in_err-read_arg.field-0.0 c.loop.args c.len-most.result c.loop.counter c.loop.fields _ (omega arith) begins c.in_err-read_arg.ensures c.loop.invariant in
    read_fails c.in_err-read_arg.field-0.0 c.from_residual.result (args_at c.args.fields.now) c.read_arg.new.fields c.from_residual.ensures.0 c.from_residual.ensures.1
    (subst (λ (n : ℕ). Fails c.in_err-read_arg.field-0.0 (args_from n c.args.fields.now)) c.len-most.ensures fails)

pub loop-preserved : goal.loop-preserved
loop-preserved c =
    let begins : starts_with nat_eq c.loop.fields (codes " arg ") ≡ true = sym c.begins.ensures ∙ c.if-not-begins.false in
    subst (λ (args : List ArgText). with_args args (args_from (c.len-most.result - (c.loop.counter + 1)) c.read_arg.new.fields) ≡ args_from c.len-most.result c.args.fields.now) (sym c.in_ok-push.ensures.ok)
    (args-go_on c.loop.args c.len-most.result c.loop.counter c.loop.fields c.in_ok-read_arg.field-0 c.read_arg.new.fields _ (omega arith) begins c.in_ok-read_arg.ensures c.loop.invariant)

pub returns : goal.returns
returns c =
    ap (λ (n : ℕ). args_from n c.args.fields.now) (sym c.len-most.ensures)
    ∙ args-done c.loop.args c.len-most.result c.loop.counter c.loop.fields _ (omega arith) c.loop.invariant
