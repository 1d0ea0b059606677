use Rattle.st_law.specs.History.{looking_back}
use Rattle.st_reached.proofs.InUse.{live_or_kept, used_before, used_made}
use Rattle.st_reached.proofs.NumbersBack.{few_at_reload, few_at_renewal, few_in_use, named_used}
use Rattle.st_reached.proofs.Reached.{reached_back}
use Rattle.st_reached.proofs.law.few_drawings_are_in_use.Goals as goal

pub returns-clause-few : goal.returns-clause-few
returns-clause-few c = few_in_use

pub returns-clause-renewals : goal.returns-clause-renewals
returns-clause-renewals c = few_at_renewal

pub returns-clause-reloads : goal.returns-clause-reloads
returns-clause-reloads c = few_at_reload

pub returns-clause-made : goal.returns-clause-made
returns-clause-made c = λ input startable h lawful q used. used_made input (looking_back input h) (reached_back input startable h lawful) q used

pub returns-clause-named : goal.returns-clause-named
returns-clause-named c = λ input startable h e lawful q names. named_used input (looking_back input h) (reached_back input startable h lawful.1) q e lawful.0 names

pub returns-clause-ends : goal.returns-clause-ends
returns-clause-ends c = λ input startable h e lawful q low used. used_before input (looking_back input h) (reached_back input startable h lawful.1) q low e lawful.0 used

pub returns-clause-kept : goal.returns-clause-kept
returns-clause-kept c = live_or_kept
