use Rattle.std.proofs.Common.{arith, rules, ◌+◌, ◌-◌}
use Rattle.st_generator.specs.Script.{thread_lines}
use Rattle.st_generator.proofs.Pieces.{piece_appended}
use Rattle.st_generator.proofs.script.append_threads.Goals as goal

pub loop-thread-preserved : goal.loop-thread-preserved
loop-thread-preserved c =
    let x = c.loop-thread in
    record {
      from = omega arith;
      within = search rules;
      text = piece_appended (thread_lines c.args.rounds) 1 (x.thread - 1) x.thread (x.thread + 1 - 1) c.args.text.now x.text c.append_thread.new.text (omega (arith, x.invariant.from)) (omega (arith, x.invariant.from)) x.invariant.text c.in_ok-append_thread.ensures;
    }
