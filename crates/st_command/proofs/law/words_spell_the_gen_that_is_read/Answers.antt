use Rattle.st_command.proofs.Commands.{gen_spelled_exactly}
use Rattle.st_command.proofs.law.words_spell_the_gen_that_is_read.Goals as goal

pub returns : goal.returns
returns c = gen_spelled_exactly
