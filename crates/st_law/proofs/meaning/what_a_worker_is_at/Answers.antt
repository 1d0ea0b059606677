use Rattle.st_law.proofs.Asked as asked
use Rattle.st_law.proofs.meaning.what_a_worker_is_at.Goals as goal

pub returns-clause-number : goal.returns-clause-number
returns-clause-number c = asked.worker

pub returns-clause-word : goal.returns-clause-word
returns-clause-word c = asked.word

pub returns-clause-workers : goal.returns-clause-workers
returns-clause-workers c = asked.workers

pub returns-clause-copies : goal.returns-clause-copies
returns-clause-copies c = asked.copies
