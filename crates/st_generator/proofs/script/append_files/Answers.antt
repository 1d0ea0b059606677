use Rattle.std.proofs.Common.{arith, rules, ◌+◌}
use Rattle.st_generator.specs.Script.{file_row}
use Rattle.st_generator.proofs.Pieces.{piece_appended}
use Rattle.st_generator.proofs.script.append_files.Goals as goal

pub loop-number-preserved : goal.loop-number-preserved
loop-number-preserved c =
    let x = c.loop-number in
    record {
      within = search rules;
      text = piece_appended file_row 0 x.number x.number (x.number + 1) c.args.text.now x.text c.append_file.new.text (omega arith) (omega arith) x.invariant.text c.in_ok-append_file.ensures;
    }
