use Rattle.st_command.proofs.Commands.{run_alone, gen_alone}
use Rattle.st_command.proofs.law.words_spell_one_command.Goals as goal

pub returns-clause-run : goal.returns-clause-run
returns-clause-run c = run_alone

pub returns-clause-rounds : goal.returns-clause-rounds
returns-clause-rounds c = gen_alone
