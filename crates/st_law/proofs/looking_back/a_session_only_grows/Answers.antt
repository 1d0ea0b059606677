use Rattle.st_law.proofs.SessionHistory as history
use Rattle.st_law.proofs.looking_back.a_session_only_grows.Goals as goal

pub returns-clause-session : goal.returns-clause-session
returns-clause-session c = history.session

pub returns-clause-replied : goal.returns-clause-replied
returns-clause-replied c = history.replied

pub returns-clause-changed : goal.returns-clause-changed
returns-clause-changed c = history.changed
