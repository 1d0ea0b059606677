use Rattle.std.proofs.Common.{◌≡◌, List, length, ℕ, ap, arith}
use Rattle.st_reading.proofs.Runnable.{can_replay, replay_meant}
use Rattle.st_trace_diagnostics.proofs.trace_fault.message_at.Goals as goal

pub message_of-requires-clause-can_run : goal.message_of-requires-clause-can_run
message_of-requires-clause-can_run g c =
    (can_replay c.what_is_meant_to_be_replayed_can_run.ensures (g.F.Files.contents c.args.files.now) c.args.command.now c.in-Replay.input c.in-Replay.trace c.requires.limits
    (replay_meant (g.F.Files.contents c.args.files.now) c.args.command.now (g.F.Files.asked c.args.files.now) (g.F.Files.asked c.read_command.new.files) c.in_ok-input.field-0 c.in_ok-input.ensures.ends c.in-Replay.input c.in-Replay.trace c.in-Replay.is)).0

pub message_of-requires-clause-within : goal.message_of-requires-clause-within
message_of-requires-clause-within g c =
    let short = (can_replay c.what_is_meant_to_be_replayed_can_run.ensures (g.F.Files.contents c.args.files.now) c.args.command.now c.in-Replay.input c.in-Replay.trace c.requires.limits
    (replay_meant (g.F.Files.contents c.args.files.now) c.args.command.now (g.F.Files.asked c.args.files.now) (g.F.Files.asked c.read_command.new.files) c.in_ok-input.field-0 c.in_ok-input.ensures.ends c.in-Replay.input c.in-Replay.trace c.in-Replay.is)).1 in
    let same : length c.bytes.result.now ≡ length c.in-Replay.trace = ap (λ (bytes : List ℕ). length bytes) c.bytes.ensures in
    omega (arith, short, same)
