use Rattle.st_law.proofs.Standing.{read_decides, session_grows, decision_stands}
use Rattle.st_law.proofs.law.a_decision_is_final.Goals as goal

pub returns-clause-read : goal.returns-clause-read
returns-clause-read c = read_decides

pub returns-clause-grows : goal.returns-clause-grows
returns-clause-grows c = session_grows

pub returns-clause-stays : goal.returns-clause-stays
returns-clause-stays c = decision_stands
