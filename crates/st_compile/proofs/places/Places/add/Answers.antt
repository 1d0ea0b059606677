use Rattle.st_compile.proofs.Rows.{gains_then}
use Rattle.st_compile.proofs.places.Places.add.Goals as goal

pub push_at-requires : goal.push_at-requires
push_at-requires c = (c.args.policy.now, c.in_ok-row.ensures.room)

pub returns-clause-ok : goal.returns-clause-ok
returns-clause-ok c = gains_then c.args.self.now c.reserve.new.self c.push_at.new.self c.args.policy.now c.args.place c.reserve.ensures.kept (c.push_at.ensures.gains c.args.policy.now c.in_ok-row.ensures.room)
