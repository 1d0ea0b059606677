use Rattle.st_compile.proofs.Tables.{answers_read}
use Rattle.st_compile.proofs.table.FastTable.build.Goals as goal

pub returns : goal.returns
returns c = answers_read c.args.policies.now c.in_ok-table.table c.in_ok-table.ensures
