use Rattle.std.proofs.Common.{length, refl, subst, sym}
use Rattle.std.proofs.lemmas.Option.{slice_get_read}
use Rattle.st_replay.specs.declared.entries.Mismatch.{Mismatch}
use Rattle.st_replay.specs.declared.whole.Replayed.TheVariants.{Broken}
use Rattle.st_replay.specs.Replays.{IsReplayed, IsReplayFault}
use Rattle.st_replay.proofs.Replaying.{broken}
use Rattle.st_replay.proofs.whole.replay_trace.Goals as goal

pub returns-in-Err-NotLawful : goal.returns-in-Err-NotLawful
returns-in-Err-NotLawful c =
    let entries = c.args.entries.now in
    let e = c.index-entries-at.result in
    let fault = subst (λ f. IsReplayFault c.loop-at.replay e f c.entry.new.self) c.in-Err-NotLawful.field-0-is c.in-Err-NotLawful.ensures.fault in
    subst (λ (m : Mismatch). IsReplayed c.args.input.now entries (Broken c.loop-at.at m)) (sym c.in-Err-NotLawful.mismatch-is)
    (broken c.args.input.now entries c.loop-at.at e c.in-Err-NotLawful.mismatch c.loop-at.replay c.entry.new.self c.loop-at.invariant.taken c.loop-at.invariant.lawful
    (slice_get_read entries (length entries) c.loop-at.at e refl c.loop-at-test.true c.index-entries-at.is) fault)
