use Rattle.st_law.specs.Machine.{state_of_run}
use Rattle.st_reached.proofs.Reached.{reached_run}
use Rattle.st_reached.proofs.StillKept.{still_more}
use Rattle.st_reached.proofs.law.what_stays_still.Goals as goal

pub returns : goal.returns
returns c = λ input startable choices choice e is t still other calm. still_more input (state_of_run input choices) (reached_run input startable choices) t still choice e is other calm
