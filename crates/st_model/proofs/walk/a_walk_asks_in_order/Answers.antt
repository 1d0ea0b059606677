use Rattle.std.proofs.Common.{refl}
use Rattle.st_model.proofs.Walks.{walk_stays, walk_short}
use Rattle.st_model.proofs.walk.a_walk_asks_in_order.Goals as goal

pub returns : goal.returns
returns c = record {
  finished = walk_stays;
  up = λ done rest n lookups follow. refl;
  short = walk_short;
}
