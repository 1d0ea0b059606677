use Rattle.std.proofs.Common.{◌≡◌, List, length, ℕ, ap, arith, subst}
use Rattle.st_command.specs.declared.given.Print.{Print}
use Rattle.st_emulation.specs.declared.emulation.Emulation.{Emulation}
use Rattle.st_reading.specs.Ends.{as_meaning}
use Rattle.st_reading.specs.Meaning.{Means}
use Rattle.st_reading.specs.declared.reading.Reading.{Reading}
use Rattle.st_top.specs.Ends.{ReplayShown, RunShown}
use Rattle.st_top.specs.Outcome.{print_of}
use Rattle.st_reading.proofs.Runnable.{can_replay, ready, replay_meant, run_meant}
use Rattle.st_top.proofs.Preparing.{printed_ready, replay_ready, shown_ready}
use Rattle.st_top.proofs.plain.prepare.Goals as goal

pub text_of_run-requires : goal.text_of_run-requires
text_of_run-requires g c =
    ready (g.F.Files.contents c.args.files.now) c.args.command.now (g.F.Files.asked c.args.files.now) (g.F.Files.asked c.read_command.new.files) c.in_ok-input.field-0 c.in_ok-input.ensures.ends c.in-Run.input c.in-Run.schedule c.in-Run.is
    c.what_is_meant_to_run_can_run.ensures c.requires.limits

pub returns-in-Run-clause-prepares : goal.returns-in-Run-clause-prepares
returns-in-Run-clause-prepares g c =
    shown_ready (g.F.Files.contents c.args.files.now) (g.F.Files.faults c.args.files.now) (g.F.Files.faults c.read_command.new.files) (g.F.Files.asked c.args.files.now) (g.F.Files.asked c.read_command.new.files)
    c.args.command.now c.in-Run.input c.in-Run.schedule
    (ready (g.F.Files.contents c.args.files.now) c.args.command.now (g.F.Files.asked c.args.files.now) (g.F.Files.asked c.read_command.new.files) c.in_ok-input.field-0 c.in_ok-input.ensures.ends c.in-Run.input c.in-Run.schedule c.in-Run.is
    c.what_is_meant_to_run_can_run.ensures c.requires.limits).startable
    (run_meant (g.F.Files.contents c.args.files.now) c.args.command.now (g.F.Files.asked c.args.files.now) (g.F.Files.asked c.read_command.new.files) c.in_ok-input.field-0 c.in_ok-input.ensures.ends c.in-Run.input c.in-Run.schedule c.in-Run.is)
    c.in_ok-input.ensures.ends.1 c.text_of_run.result
    (subst (λ (emulation : Emulation). RunShown (print_of c.args.command.now) c.in-Run.input c.in-Run.schedule emulation c.text_of_run.result) c.emulation_asked.ensures
    (subst (λ (print : Print). RunShown print c.in-Run.input c.in-Run.schedule c.emulation_asked.result c.text_of_run.result) c.print_of.ensures c.text_of_run.ensures))

pub returns-in-Text-clause-prepares : goal.returns-in-Text-clause-prepares
returns-in-Text-clause-prepares g c =
    printed_ready (g.F.Files.contents c.args.files.now) (g.F.Files.faults c.args.files.now) (g.F.Files.faults c.read_command.new.files) (g.F.Files.asked c.args.files.now) (g.F.Files.asked c.read_command.new.files)
    c.args.command.now c.in-Text.text (subst (λ (read : Reading). Means (g.F.Files.contents c.args.files.now) c.args.command.now (as_meaning read)) c.in-Text.is c.in_ok-input.ensures.ends.0) c.in_ok-input.ensures.ends.1

pub text_of_replay-requires-clause-can_run : goal.text_of_replay-requires-clause-can_run
text_of_replay-requires-clause-can_run g c =
    (can_replay c.what_is_meant_to_be_replayed_can_run.ensures (g.F.Files.contents c.args.files.now) c.args.command.now c.in-Replay.input c.in-Replay.trace c.requires.limits
    (replay_meant (g.F.Files.contents c.args.files.now) c.args.command.now (g.F.Files.asked c.args.files.now) (g.F.Files.asked c.read_command.new.files) c.in_ok-input.field-0 c.in_ok-input.ensures.ends c.in-Replay.input c.in-Replay.trace c.in-Replay.is)).0

pub text_of_replay-requires-clause-within : goal.text_of_replay-requires-clause-within
text_of_replay-requires-clause-within g c =
    let short = (can_replay c.what_is_meant_to_be_replayed_can_run.ensures (g.F.Files.contents c.args.files.now) c.args.command.now c.in-Replay.input c.in-Replay.trace c.requires.limits
    (replay_meant (g.F.Files.contents c.args.files.now) c.args.command.now (g.F.Files.asked c.args.files.now) (g.F.Files.asked c.read_command.new.files) c.in_ok-input.field-0 c.in_ok-input.ensures.ends c.in-Replay.input c.in-Replay.trace c.in-Replay.is)).1 in
    let same : length c.bytes.result.now ≡ length c.in-Replay.trace = ap (λ (bytes : List ℕ). length bytes) c.bytes.ensures in
    omega (arith, short, same)

pub returns-in-Replay-clause-prepares : goal.returns-in-Replay-clause-prepares
returns-in-Replay-clause-prepares g c =
    replay_ready (g.F.Files.contents c.args.files.now) (g.F.Files.faults c.args.files.now) (g.F.Files.faults c.read_command.new.files) (g.F.Files.asked c.args.files.now) (g.F.Files.asked c.read_command.new.files)
    c.args.command.now c.in-Replay.input c.in-Replay.trace
    (replay_meant (g.F.Files.contents c.args.files.now) c.args.command.now (g.F.Files.asked c.args.files.now) (g.F.Files.asked c.read_command.new.files) c.in_ok-input.field-0 c.in_ok-input.ensures.ends c.in-Replay.input c.in-Replay.trace c.in-Replay.is)
    c.in_ok-input.ensures.ends.1 c.text_of_replay.result
    (subst (λ (bytes : List ℕ). ReplayShown c.in-Replay.input bytes c.text_of_replay.result) c.bytes.ensures c.text_of_replay.ensures)
