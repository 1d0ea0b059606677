use Rattle.st_system.proofs.Fit.{held_fit, step_fit}
use Rattle.st_system.proofs.laws.arguments_are_fit.Goals as goal

pub returns-clause-unheld : goal.returns-clause-unheld
returns-clause-unheld c = step_fit

pub returns-clause-held : goal.returns-clause-held
returns-clause-held c = held_fit
