use Rattle.st_replay.proofs.Lawful.{prefix_lawful}
use Rattle.st_replay.proofs.law.every_prefix_of_a_trace_is_lawful.Goals as goal

pub returns : goal.returns
returns c = prefix_lawful
