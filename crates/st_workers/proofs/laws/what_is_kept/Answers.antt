use Rattle.std.proofs.Common.{refl}
use Rattle.st_workers.proofs.Closing.{closing_is_not_kept}
use Rattle.st_workers.proofs.Threads.{others_have_no_drawing}
use Rattle.st_workers.proofs.laws.what_is_kept.Goals as goal

pub returns-clause-life : goal.returns-clause-life
returns-clause-life c = record {
  claimed = λ w p i st q. refl;
  copied = λ p part place word i st q. refl;
  looked = λ p part name seen i st q. refl;
  faulted = λ p errno i st q. refl;
  answered = λ w s v applied i st q. refl;
}

pub returns-clause-closing : goal.returns-clause-closing
returns-clause-closing c = closing_is_not_kept

pub returns-clause-threads : goal.returns-clause-threads
returns-clause-threads c = others_have_no_drawing
