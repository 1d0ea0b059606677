use Rattle.st_trace_replay.proofs.Printed.{printed_lawful}
use Rattle.st_trace_replay.proofs.law.what_is_printed_of_a_lawful_trace_is_lawful.Goals as goal

pub returns : goal.returns
returns c = printed_lawful
