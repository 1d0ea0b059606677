use Rattle.std.proofs.Common.{subst}
use Rattle.st_trace_replay.specs.Steps.{IsNextLine}
use Rattle.st_trace_replay.specs.declared.text.NextLine.{NextLine}
use Rattle.st_trace_replay.proofs.Lines.{broken_at, few_lines}
use Rattle.st_trace_replay.proofs.text.first_unlawful_line.Goals as goal

pub replay_line-requires : goal.replay_line-requires
replay_line-requires l = few_lines l.args.input.now l.args.text.now l.loop-added.reader l.loop-added.replay l.loop-added.invariant l.requires.within

pub returns-in-Unlawful : goal.returns-in-Unlawful
returns-in-Unlawful c =
    broken_at c.args.input.now c.args.text.now c.loop-added.reader c.replay_line.new.reader c.loop-added.replay c.replay_line.new.replay c.in-Unlawful.line c.loop-added.invariant
    (subst (λ (next : NextLine). IsNextLine next c.loop-added.reader c.replay_line.new.reader c.loop-added.replay c.replay_line.new.replay) c.in-Unlawful.is c.in_ok-replay_line.ensures)
