use Rattle.std.proofs.Common.{◌≡◌, ◌+◌, ◌∷◌, ◌++◌, [], ◌∙◌, ap, sym, length, length-append, drop, ℕ, rules}
use Rattle.std.specs.List.{zip}
use Rattle.std.proofs.lemmas.Iterator.{YieldsList-from_slice, YieldsList-from_zip}
use Rattle.std.proofs.lemmas.Iterator.Consumers.{YieldsList-at, YieldsList-turn}
use Rattle.st_calls.specs.Argument.{args_of}
use Rattle.st_arguments.proofs.FirstMet.{first_met, met_here, met_is, met_on}
use Rattle.st_arguments.proofs.links.link_met.Goals as goal

pub loop-spec-init : goal.loop-spec-init
loop-spec-init c = met_is c.args.tree.now c.args.call c.args.regs.now (args_of c.args.rule) c.args.args.now

pub returns-in-Some-2 : goal.returns-in-Some-2
returns-in-Some-2 c =
    let turn = YieldsList-turn (YieldsList-at c.into_iter-spec-iterator.ensures.into_iter_gives (YieldsList-from_zip (YieldsList-from_slice (args_of c.args.rule) (search (rules, c))) (YieldsList-from_slice c.args.args.now (search (rules, c))))) c.loop-spec.yielded c.loop-spec.spec-iterator c.loop-spec.yielded_by c.next.result c.next.new.self (c.in-Some.spec, c.in-Some.arg) c.in-Some.is c.next.ensures.steps in
    sym (c.loop-spec.invariant ∙ met_here c.args.tree.now c.args.call c.args.regs.now (zip (args_of c.args.rule) c.args.args.now) (length c.loop-spec.yielded) (c.in-Some.spec.now, c.in-Some.arg.now) c.in-Some-2.link turn.0 turn.1 (search (rules, c)))

pub loop-spec-preserved : goal.loop-spec-preserved
loop-spec-preserved c =
    let turn = YieldsList-turn (YieldsList-at c.into_iter-spec-iterator.ensures.into_iter_gives (YieldsList-from_zip (YieldsList-from_slice (args_of c.args.rule) (search (rules, c))) (YieldsList-from_slice c.args.args.now (search (rules, c))))) c.loop-spec.yielded c.loop-spec.spec-iterator c.loop-spec.yielded_by c.next.result c.next.new.self (c.in-Some.spec, c.in-Some.arg) c.in-Some.is c.next.ensures.steps in
    let more : length (c.loop-spec.yielded ++ (c.in-Some.spec, c.in-Some.arg) ∷ []) ≡ length c.loop-spec.yielded + 1 = length-append c.loop-spec.yielded ((c.in-Some.spec, c.in-Some.arg) ∷ []) in
    c.loop-spec.invariant
    ∙ met_on c.args.tree.now c.args.call c.args.regs.now (zip (args_of c.args.rule) c.args.args.now) (length c.loop-spec.yielded) (c.in-Some.spec.now, c.in-Some.arg.now) turn.0 turn.1 (search (rules, c))
    ∙ ap (λ (n : ℕ). first_met c.args.tree.now c.args.call c.args.regs.now (drop n (zip (args_of c.args.rule) c.args.args.now))) (sym more)
