use Rattle.std.proofs.Common.{◌≡◌, ◌+◌, ◌∙◌, ap, sym, subst, length, rules, arith}
use Rattle.st_calls.specs.Argument.{args_of}
use Rattle.st_effects.specs.Progress.{ArgRequest}
use Rattle.st_arguments.specs.Parts.{surroundings}
use Rattle.st_arguments.proofs.InOrder.{come_on, come_ready, come_stuck, item_read, HasCome}
use Rattle.st_arguments.proofs.arguments.texts.Goals as goal

pub returns-in_err-argument-clause-fault : goal.returns-in_err-argument-clause-fault
returns-in_err-argument-clause-fault c = λ errno h.
    let specs : c.args_of-spec-items.result.now ≡ args_of c.args.asked.now.rule = c.args_of-spec-items.ensures ∙ ap (λ (asked : ArgRequest). args_of asked.rule) c.asked.view_is in
    let read = item_read c.args_of-spec-items.result.now (args_of c.args.asked.now.rule) c.loop-spec.spec-index _ specs c.loop-spec-test.true in
    come_stuck c.args.asked.now (surroundings c.args.tree.now c.args.spaces.now c.args.space) c.loop-spec.spec-index c.loop-spec.args c.loop-spec.invariant _ errno read.0 read.1
    (c.argument.ensures.fault errno (search (rules, c, h)))

pub loop-spec-preserved : goal.loop-spec-preserved
loop-spec-preserved c =
    let specs : c.args_of-spec-items.result.now ≡ args_of c.args.asked.now.rule = c.args_of-spec-items.ensures ∙ ap (λ (asked : ArgRequest). args_of asked.rule) c.asked.view_is in
    let read = item_read c.args_of-spec-items.result.now (args_of c.args.asked.now.rule) c.loop-spec.spec-index _ specs c.loop-spec-test.true in
    subst (HasCome c.args.asked.now (surroundings c.args.tree.now c.args.spaces.now c.args.space) (c.loop-spec.spec-index + 1)) (sym c.in_ok-push.ensures.ok)
    (come_on c.args.asked.now (surroundings c.args.tree.now c.args.spaces.now c.args.space) c.loop-spec.spec-index c.loop-spec.args c.loop-spec.invariant _ c.in_ok-argument.field-0 read.0 read.1 c.in_ok-argument.ensures.arg)

pub returns-clause-args : goal.returns-clause-args
returns-clause-args c =
    let specs : c.args_of-spec-items.result.now ≡ args_of c.args.asked.now.rule = c.args_of-spec-items.ensures ∙ ap (λ (asked : ArgRequest). args_of asked.rule) c.asked.view_is in
    let l = ap length specs in
    come_ready c.args.asked.now (surroundings c.args.tree.now c.args.spaces.now c.args.space) c.loop-spec.spec-index c.loop-spec.args c.loop-spec.invariant (omega (arith, l, c.loop-spec-test.false, c.loop-spec.auto.spec-index-end))
