use Rattle.st_replay.proofs.Lawful.{trace_law}
use Rattle.st_replay.proofs.law.a_trace_is_lawful_where_each_choice_adds_its_entry.Goals as goal

pub returns : goal.returns
returns c = trace_law
