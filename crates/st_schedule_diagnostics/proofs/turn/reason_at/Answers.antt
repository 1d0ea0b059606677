use Rattle.st_reading.proofs.Runnable.{ready}
use Rattle.st_schedule_diagnostics.proofs.turn.reason_at.Goals as goal

pub reason_in-requires : goal.reason_in-requires
reason_in-requires g c =
    ready (g.F.Files.contents c.args.files.now) c.args.command.now (g.F.Files.asked c.args.files.now) (g.F.Files.asked c.read_command.new.files) c.in_ok-input.field-0 c.in_ok-input.ensures.ends c.in-Run.input c.in-Run.schedule c.in-Run.is
    c.what_is_meant_to_run_can_run.ensures c.requires.limits
