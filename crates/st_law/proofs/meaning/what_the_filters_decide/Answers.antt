use Rattle.st_law.proofs.Asked as asked
use Rattle.st_law.proofs.meaning.what_the_filters_decide.Goals as goal

pub returns-clause-read : goal.returns-clause-read
returns-clause-read c = asked.read_decides

pub returns-clause-session : goal.returns-clause-session
returns-clause-session c = asked.session_decides

pub returns-clause-count : goal.returns-clause-count
returns-clause-count c = asked.count
