use Rattle.std.proofs.Common.{◌∙◌, arith, suc, length, refl, ap, sym, subst, ◌+◌}
use Rattle.st_decide.specs.Holding.{is_same_rule, message_held}
use Rattle.st_waking.proofs.Awake.{IsWokenTo, all_woken, marked, nothing_held, passed}
use Rattle.st_waking.proofs.waking.wake_alike.Goals as goal
use Rattle.st_waking.proofs.waking.wake_alike.Goals.{then-holds_alike, else-holds_alike}

pub loop-tid-init : goal.loop-tid-init
loop-tid-init c = record {
  from = c.requires.from;
  end = let count = c.thread_count-tid-end.ensures.threads in omega (arith, count);
  so_far = record { count = refl; before = λ place asleep. asleep; woken = λ place below asleep. c.requires.before (suc place) (omega arith) below; others = λ place asleep other. asleep };
}

pub loop-tid-preserved : goal.loop-tid-preserved
loop-tid-preserved c = record {
  from = omega arith;
  end = c.loop-tid.invariant.end;
  so_far = elim c.if-holds_alike.branch [
    | then-holds_alike w ↦ subst (IsWokenTo (λ t. is_same_rule c.args.message.now (message_held c.args.machine.now t)) (c.loop-tid.tid + 1) c.args.asleep.now) (sym w.asleep-is)
        (marked (λ t. is_same_rule c.args.message.now (message_held c.args.machine.now t)) c.loop-tid.tid c.args.asleep.now c.loop-tid.asleep c.loop-tid.invariant.so_far
        (sym c.holds_alike.ensures ∙ w.if-holds_alike.true) w.mark_awake.new.asleep w.mark_awake.ensures.count w.mark_awake.ensures.before w.mark_awake.ensures.awake w.mark_awake.ensures.others)
    | else-holds_alike w ↦ subst (IsWokenTo (λ t. is_same_rule c.args.message.now (message_held c.args.machine.now t)) (c.loop-tid.tid + 1) c.args.asleep.now) (sym w.asleep-is)
        (passed (λ t. is_same_rule c.args.message.now (message_held c.args.machine.now t)) c.loop-tid.tid c.args.asleep.now c.loop-tid.asleep c.loop-tid.invariant.so_far (sym c.holds_alike.ensures ∙ w.if-holds_alike.false))
  ];
}

pub returns-clause-woken : goal.returns-clause-woken
returns-clause-woken c = λ place asleep. all_woken (λ t. is_same_rule c.args.message.now (message_held c.args.machine.now t)) c.loop-tid.tid c.args.asleep.now c.loop-tid.asleep c.loop-tid.invariant.so_far (length c.args.machine.now.threads) (let end = c.loop-tid.invariant.end in let over = c.loop-tid-test.false in omega (arith, end, over))
    (λ k beyond. ap (is_same_rule c.args.message.now) (nothing_held c.args.machine.now k beyond)) place asleep
