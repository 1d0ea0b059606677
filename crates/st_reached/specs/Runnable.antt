-- What has to hold of an input for a run to start with it: all that the machine that runs requires, and that the readers ensure.
use Rattle.st_law.specs.declared.input.Input.{Input}
use Rattle.st_law.specs.Inputs.{CanStart, IsStartable}
use Rattle.st_reached.specs.Grants.{AllUngranted, RepliesUngranted}
use Rattle.st_reached.specs.Scripts.{IsBounded}

-- an input that the machine can run: it is startable, its system can be built, its script isn't too long, and neither its policies nor its
-- replies grant ids for setting ids
pub record CanRun (i : Input) : Type 0 where
  pub startable : IsStartable i
  pub system : CanStart i
  pub bounded : IsBounded i.start
  pub ungranted : AllUngranted i.policies
  pub replies : RepliesUngranted i.replies
