use Rattle.std.proofs.Common.{length}
use Rattle.st_trace_replay.specs.Steps.{IsReplayedTo}
use Rattle.st_trace_replay.proofs.text.first_unlawful_line.Given as goal

-- the lines before are those of the trace so far
abbrev pub invariant-loop-added : goal.invariant-loop-added
invariant-loop-added l = IsReplayedTo l.input l.text l.reader l.replay

abbrev pub decreases-loop-added : goal.decreases-loop-added
decreases-loop-added l = length l.reader.text
