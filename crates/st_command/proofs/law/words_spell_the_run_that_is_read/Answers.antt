use Rattle.st_command.proofs.Commands.{run_spelled_exactly}
use Rattle.st_command.proofs.law.words_spell_the_run_that_is_read.Goals as goal

pub returns : goal.returns
returns c = run_spelled_exactly
