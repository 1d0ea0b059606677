use Rattle.std.proofs.Common.{◌≡◌}
use Rattle.st_replay.specs.Replays.{first_entries}
use Rattle.st_replay.specs.Told.{IsLawfulSoFar}
use Rattle.st_replay.proofs.whole.replay_trace.Given as goal

-- the entries before this one were taken
abbrev pub invariant-loop-at : goal.invariant-loop-at
invariant-loop-at l = record {
  taken : l.replay ≡ first_entries l.input l.entries l.at;
  lawful : IsLawfulSoFar l.replay;
}
