use Rattle.std.proofs.Common.{◌≡◌, ◌+◌, ◌-◌, arith}
use Rattle.st_names.proofs.Spelled.{is_last_slash, no_last_slash}
use Rattle.st_names.proofs.name.last_slash.Goals as goal

pub returns-then-text-at-eq47-clause-last : goal.returns-then-text-at-eq47-clause-last
returns-then-text-at-eq47-clause-last c =
    let next : c.loop-at.at - 1 + 1 ≡ c.loop-at.at = omega arith in
    is_last_slash c.args.text.now (c.loop-at.at - 1) c.requires (omega arith) c.if-text-at-eq47.true (rw next c.loop-at.invariant.1)

pub returns-clause-last : goal.returns-clause-last
returns-clause-last c =
    let end : c.loop-at.at ≡ 0 = omega arith in
    no_last_slash c.args.text.now c.requires (rw end at c.loop-at.invariant.1)
