use Rattle.st_reschedule.proofs.ReadAgain.{choices_read, enabled_again, lines_read, played_twice}
use Rattle.st_reschedule.proofs.SmallNumbers.{small_numbers}
use Rattle.st_reschedule.proofs.law.a_printed_schedule_is_read_again.Goals as goal

pub returns-clause-lines : goal.returns-clause-lines
returns-clause-lines c = lines_read

pub returns-clause-choices : goal.returns-clause-choices
returns-clause-choices c = choices_read

pub returns-clause-numbers : goal.returns-clause-numbers
returns-clause-numbers c = small_numbers

pub returns-clause-enabled : goal.returns-clause-enabled
returns-clause-enabled c = enabled_again

pub returns-clause-played : goal.returns-clause-played
returns-clause-played c = played_twice
