use Rattle.std.proofs.Common.{◌≡◌, ◌++◌, length}
use Rattle.st_report.specs.TraceText.{trace_text}
use Rattle.st_readtrace.specs.Lines.{closed}
use Rattle.st_written.specs.Written.{AreEntries}
use Rattle.st_readtrace.proofs.trace.read_trace.Given as goal

-- the text is that of the entries so far, and the rest; each was a line
abbrev pub invariant-loop-entry : goal.invariant-loop-entry
invariant-loop-entry l = record {
  are : AreEntries l.entries;
  text : closed l.text ≡ trace_text l.entries ++ l.reader.text;
  lines : l.reader.lines ≡ length l.entries;
}

abbrev pub decreases-loop-entry : goal.decreases-loop-entry
decreases-loop-entry l = length l.reader.text
