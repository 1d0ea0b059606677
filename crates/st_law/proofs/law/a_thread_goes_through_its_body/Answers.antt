use Rattle.st_law.proofs.Begun.{goes_through}
use Rattle.st_law.proofs.law.a_thread_goes_through_its_body.Goals as goal

pub returns : goal.returns
returns c = goes_through
