use Rattle.std.proofs.Common.{arith, rules, ◌+◌}
use Rattle.st_generator.specs.Script.{round_lines}
use Rattle.st_generator.proofs.Pieces.{piece_appended}
use Rattle.st_generator.proofs.script.append_rounds.Goals as goal

pub loop-round-preserved : goal.loop-round-preserved
loop-round-preserved c =
    let x = c.loop-round in
    record {
      within = search rules;
      text = piece_appended (round_lines c.args.thread) 0 x.round x.round (x.round + 1) c.args.text.now x.text c.append_round.new.text (omega arith) (omega arith) x.invariant.text c.in_ok-append_round.ensures;
    }
