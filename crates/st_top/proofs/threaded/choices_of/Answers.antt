use Rattle.st_top.proofs.ThreadedRuns.{whole}
use Rattle.st_top.proofs.threaded.choices_of.Goals as goal

pub returns-clause-whole : goal.returns-clause-whole
returns-clause-whole c = whole c.some_choice_is_enabled.ensures c.args.kernel.now c.schedule.ensures.enabled
