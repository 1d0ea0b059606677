use Rattle.st_learn.proofs.Deciding.{decides_alike}
use Rattle.st_learn.proofs.law.learnt_policies_decide_alike.Goals as goal

pub returns : goal.returns
returns c = λ policies versions changed session s plain own are. decides_alike policies versions changed session s plain are own
