use Rattle.std.proofs.Common.{sym, subst}
use Rattle.st_command.specs.declared.command.Command.{Command}
use Rattle.st_reading.specs.Ends.{EndsReading}
use Rattle.st_reading.proofs.Meanings.{one_meaning}
use Rattle.st_reading.proofs.Refusals.{answers_meaning}
use Rattle.st_reading.proofs.reading.read_command.Goals as goal

pub returns-in-Step-clause-complete : goal.returns-in-Step-clause-complete
returns-in-Step-clause-complete g c known quiet outcome go m =
    answers_meaning (g.F.Files.contents c.args.files.now) c.args.command.now (g.F.Files.faults c.args.files.now) (g.F.Files.faults c.read_step.new.files) (g.F.Files.asked c.args.files.now) (g.F.Files.asked c.read_step.new.files) c.read_step.result
    (λ a b u v p q. one_meaning (g.F.Files.contents c.args.files.now) c.args.command.now known a b u v p q)
    (subst (λ (command : Command). EndsReading (g.F.Files.contents c.args.files.now) command (g.F.Files.faults c.args.files.now) (g.F.Files.faults c.read_step.new.files) (g.F.Files.asked c.args.files.now) (g.F.Files.asked c.read_step.new.files) c.read_step.result)
    (sym c.in-Step.is) c.read_step.ensures.ends) quiet outcome go m

pub returns-in-Replay-clause-complete : goal.returns-in-Replay-clause-complete
returns-in-Replay-clause-complete g c known quiet outcome go m =
    answers_meaning (g.F.Files.contents c.args.files.now) c.args.command.now (g.F.Files.faults c.args.files.now) (g.F.Files.faults c.read_replay.new.files) (g.F.Files.asked c.args.files.now) (g.F.Files.asked c.read_replay.new.files) c.read_replay.result
    (λ a b u v p q. one_meaning (g.F.Files.contents c.args.files.now) c.args.command.now known a b u v p q)
    (subst (λ (command : Command). EndsReading (g.F.Files.contents c.args.files.now) command (g.F.Files.faults c.args.files.now) (g.F.Files.faults c.read_replay.new.files) (g.F.Files.asked c.args.files.now) (g.F.Files.asked c.read_replay.new.files) c.read_replay.result)
    (sym c.in-Replay.is) c.read_replay.ensures.ends) quiet outcome go m

pub returns-in-Check-clause-complete : goal.returns-in-Check-clause-complete
returns-in-Check-clause-complete g c known quiet outcome go m =
    answers_meaning (g.F.Files.contents c.args.files.now) c.args.command.now (g.F.Files.faults c.args.files.now) (g.F.Files.faults c.read_check.new.files) (g.F.Files.asked c.args.files.now) (g.F.Files.asked c.read_check.new.files) c.read_check.result
    (λ a b u v p q. one_meaning (g.F.Files.contents c.args.files.now) c.args.command.now known a b u v p q)
    (subst (λ (command : Command). EndsReading (g.F.Files.contents c.args.files.now) command (g.F.Files.faults c.args.files.now) (g.F.Files.faults c.read_check.new.files) (g.F.Files.asked c.args.files.now) (g.F.Files.asked c.read_check.new.files) c.read_check.result)
    (sym c.in-Check.is) c.read_check.ensures.ends) quiet outcome go m
