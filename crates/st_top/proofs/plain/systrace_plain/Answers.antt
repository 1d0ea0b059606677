use Rattle.std.proofs.Common.{sym, ◌∙◌}
use Rattle.st_top.proofs.Endings.{replay_written, run_written}
use Rattle.st_top.proofs.GenEndings.{ended_generated}
use Rattle.st_top.proofs.Outcomes.{ended_as}
use Rattle.st_top.proofs.plain.systrace_plain.Goals as goal

pub returns-in-Ok-Some-clause-complete : goal.returns-in-Ok-Some-clause-complete
returns-in-Ok-Some-clause-complete g c = λ known quiet sink_quiet outcome go comes.
    ended_as (g.F.Files.contents c.args.files.now) (g.F.Files.faults c.args.files.now) (g.F.Files.faults c.serve.new.files) (g.F.Files.asked c.args.files.now) (g.F.Files.asked c.serve.new.files)
    (g.S.Sink.faults c.args.out.now) (g.S.Sink.faults c.serve.new.out) (g.S.Sink.written c.args.out.now) (g.S.Sink.written c.serve.new.out)
    c.in-Ok-Some.command c.serve.result c.serve.ensures.ends quiet sink_quiet c.args.words.now (sym c.in-Ok-Some.ensures.is ∙ c.in-Ok-Some.field-0-is) known outcome go comes

pub returns-in-Some-clause-complete : goal.returns-in-Some-clause-complete
returns-in-Some-clause-complete g c = λ known quiet sink_quiet outcome go comes.
    ended_generated c.args.words.now c.in-Some.rounds (sym c.in-Some.ensures.is) (g.S.Sink.faults c.args.out.now) (g.S.Sink.faults c.serve_generated.new.out)
    (g.S.Sink.written c.args.out.now) (g.S.Sink.written c.serve_generated.new.out) c.serve_generated.result c.serve_generated.ensures.ends sink_quiet
    (g.F.Files.contents c.args.files.now) outcome go comes

pub returns-in-Ok-Some-clause-step : goal.returns-in-Ok-Some-clause-step
returns-in-Ok-Some-clause-step g c =
    run_written c.args.words.now (g.F.Files.contents c.args.files.now) c.in-Ok-Some.command (g.F.Files.faults c.args.files.now) (g.F.Files.faults c.serve.new.files) (g.F.Files.asked c.args.files.now) (g.F.Files.asked c.serve.new.files)
    (g.S.Sink.faults c.args.out.now) (g.S.Sink.faults c.serve.new.out) (g.S.Sink.written c.args.out.now) (g.S.Sink.written c.serve.new.out)
    c.serve.result (sym c.in-Ok-Some.ensures.is ∙ c.in-Ok-Some.field-0-is) c.serve.ensures.ends

pub returns-in-Ok-Some-clause-replay : goal.returns-in-Ok-Some-clause-replay
returns-in-Ok-Some-clause-replay g c =
    replay_written c.args.words.now (g.F.Files.contents c.args.files.now) c.in-Ok-Some.command (g.F.Files.faults c.args.files.now) (g.F.Files.faults c.serve.new.files) (g.F.Files.asked c.args.files.now) (g.F.Files.asked c.serve.new.files)
    (g.S.Sink.faults c.args.out.now) (g.S.Sink.faults c.serve.new.out) (g.S.Sink.written c.args.out.now) (g.S.Sink.written c.serve.new.out)
    c.serve.result (sym c.in-Ok-Some.ensures.is ∙ c.in-Ok-Some.field-0-is) c.serve.ensures.ends
