use Rattle.st_law.proofs.Playing.{enabled_at_its_turn}
use Rattle.st_law.proofs.law.each_choice_of_a_schedule_is_enabled.Goals as goal

pub returns : goal.returns
returns c = enabled_at_its_turn
