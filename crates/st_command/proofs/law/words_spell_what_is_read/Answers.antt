use Rattle.st_command.proofs.Commands.{spelled_exactly}
use Rattle.st_command.proofs.law.words_spell_what_is_read.Goals as goal

pub returns : goal.returns
returns c = spelled_exactly
