use Rattle.std.proofs.lemmas.Grind.{flat_map-append}
use Rattle.st_report.specs.TraceText.{entry_line}
use Rattle.st_report.proofs.trace.a_trace_is_printed_in_order.Goals as goal

pub returns : goal.returns
returns c = flat_map-append entry_line
