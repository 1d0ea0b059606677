use Rattle.st_law.proofs.MessageHistory as history
use Rattle.st_law.proofs.looking_back.a_message_is_its_history.Goals as goal

pub returns-clause-head : goal.returns-clause-head
returns-clause-head c = history.head

pub returns-clause-posted : goal.returns-clause-posted
returns-clause-posted c = history.posted

pub returns-clause-claimed : goal.returns-clause-claimed
returns-clause-claimed c = history.claimed

pub returns-clause-words : goal.returns-clause-words
returns-clause-words c = history.words

pub returns-clause-lookups : goal.returns-clause-lookups
returns-clause-lookups c = history.lookups

pub returns-clause-fault : goal.returns-clause-fault
returns-clause-fault c = history.fault

pub returns-clause-answered : goal.returns-clause-answered
returns-clause-answered c = history.answered

pub returns-clause-closed : goal.returns-clause-closed
returns-clause-closed c = history.closed

pub returns-clause-turn : goal.returns-clause-turn
returns-clause-turn c = history.turn
