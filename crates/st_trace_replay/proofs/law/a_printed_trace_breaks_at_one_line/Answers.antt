use Rattle.st_trace_replay.proofs.Breaking.{some_replayed}
use Rattle.st_trace_replay.proofs.Outcomes.{one_replayed}
use Rattle.st_trace_replay.proofs.law.a_printed_trace_breaks_at_one_line.Goals as goal

pub returns-clause-one : goal.returns-clause-one
returns-clause-one c = one_replayed

pub returns-clause-some : goal.returns-clause-some
returns-clause-some c = some_replayed
