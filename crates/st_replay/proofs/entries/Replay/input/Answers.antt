use Rattle.std.proofs.Common.{subst}
use Rattle.st_replay.specs.Told.{IsLawfulSoFar}
use Rattle.st_replay.proofs.Following.{so_far_lawful}
use Rattle.st_replay.proofs.entries.Replay.input.Goals as goal

pub returns-clause-lawful : goal.returns-clause-lawful
returns-clause-lawful c = subst IsLawfulSoFar c.self.view_is (so_far_lawful c.self.inside.kernel c.self.invariant)
