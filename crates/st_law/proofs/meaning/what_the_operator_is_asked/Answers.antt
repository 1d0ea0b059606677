use Rattle.st_law.proofs.Asked as asked
use Rattle.st_law.proofs.meaning.what_the_operator_is_asked.Goals as goal

pub returns-clause-question : goal.returns-clause-question
returns-clause-question c = asked.question

pub returns-clause-reply : goal.returns-clause-reply
returns-clause-reply c = asked.reply
