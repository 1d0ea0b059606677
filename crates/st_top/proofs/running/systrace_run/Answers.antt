use Rattle.std.proofs.Common.{sym, ◌∙◌}
use Rattle.st_top.proofs.RunEndings.{policy_refused, run_ended_as, threads_written, unreadable}
use Rattle.st_top.proofs.running.systrace_run.Goals as goal

pub returns-in-Ok-Some-clause-complete : goal.returns-in-Ok-Some-clause-complete
returns-in-Ok-Some-clause-complete g c = λ known quiet sink_quiet outcome go comes.
    run_ended_as c.args.words.now (g.F.Files.contents c.args.files.now) c.in-Ok-Some.threaded (g.F.Files.faults c.args.files.now) (g.F.Files.faults c.prepare_run.new.files) (g.F.Files.asked c.args.files.now) (g.F.Files.asked c.prepare_run.new.files)
    (g.S.Sink.faults c.args.out.now) (g.S.Sink.faults c.write_made.new.out) (g.S.Sink.written c.args.out.now) (g.S.Sink.written c.write_made.new.out)
    c.prepare_run.result c.write_made.result (sym c.in-Ok-Some.ensures.is ∙ c.in-Ok-Some.field-0-is) c.prepare_run.ensures.prepares c.write_made.ensures.written quiet sink_quiet known outcome go comes

pub returns-in-Ok-Some-clause-policy : goal.returns-in-Ok-Some-clause-policy
returns-in-Ok-Some-clause-policy g c =
    policy_refused c.args.words.now (g.F.Files.contents c.args.files.now) c.in-Ok-Some.threaded (g.F.Files.faults c.args.files.now) (g.F.Files.faults c.prepare_run.new.files) (g.F.Files.asked c.args.files.now) (g.F.Files.asked c.prepare_run.new.files)
    (g.S.Sink.faults c.args.out.now) (g.S.Sink.faults c.write_made.new.out) (g.S.Sink.written c.args.out.now) (g.S.Sink.written c.write_made.new.out)
    c.prepare_run.result c.write_made.result (sym c.in-Ok-Some.ensures.is ∙ c.in-Ok-Some.field-0-is) c.prepare_run.ensures.prepares c.write_made.ensures.written

pub returns-in-Ok-Some-clause-read_fault : goal.returns-in-Ok-Some-clause-read_fault
returns-in-Ok-Some-clause-read_fault g c =
    unreadable c.args.words.now (g.F.Files.contents c.args.files.now) c.in-Ok-Some.threaded (g.F.Files.faults c.args.files.now) (g.F.Files.faults c.prepare_run.new.files) (g.F.Files.asked c.args.files.now) (g.F.Files.asked c.prepare_run.new.files)
    (g.S.Sink.faults c.args.out.now) (g.S.Sink.faults c.write_made.new.out) (g.S.Sink.written c.args.out.now) (g.S.Sink.written c.write_made.new.out)
    c.prepare_run.result c.write_made.result (sym c.in-Ok-Some.ensures.is ∙ c.in-Ok-Some.field-0-is) c.prepare_run.ensures.prepares c.write_made.ensures.written

pub returns-in-Ok-Some-clause-run : goal.returns-in-Ok-Some-clause-run
returns-in-Ok-Some-clause-run g c =
    threads_written c.args.words.now (g.F.Files.contents c.args.files.now) c.in-Ok-Some.threaded (g.F.Files.faults c.args.files.now) (g.F.Files.faults c.prepare_run.new.files) (g.F.Files.asked c.args.files.now) (g.F.Files.asked c.prepare_run.new.files)
    (g.S.Sink.faults c.args.out.now) (g.S.Sink.faults c.write_made.new.out) (g.S.Sink.written c.args.out.now) (g.S.Sink.written c.write_made.new.out)
    c.prepare_run.result c.write_made.result (sym c.in-Ok-Some.ensures.is ∙ c.in-Ok-Some.field-0-is) c.prepare_run.ensures.prepares c.write_made.ensures.written
