use Rattle.st_law.proofs.ThreadHistory as history
use Rattle.st_law.proofs.looking_back.a_thread_is_its_history.Goals as goal

pub returns-clause-started : goal.returns-clause-started
returns-clause-started c = history.started

pub returns-clause-not_started : goal.returns-clause-not_started
returns-clause-not_started c = history.not_started

pub returns-clause-started_once : goal.returns-clause-started_once
returns-clause-started_once c = history.started_once

pub returns-clause-left : goal.returns-clause-left
returns-clause-left c = history.left

pub returns-clause-pending : goal.returns-clause-pending
returns-clause-pending c = history.pending

pub returns-clause-answer : goal.returns-clause-answer
returns-clause-answer c = history.answer

pub returns-clause-number : goal.returns-clause-number
returns-clause-number c = history.number

pub returns-clause-dying : goal.returns-clause-dying
returns-clause-dying c = history.dying

pub returns-clause-ended : goal.returns-clause-ended
returns-clause-ended c = history.ended
