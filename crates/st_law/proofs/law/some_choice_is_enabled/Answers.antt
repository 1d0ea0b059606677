use Rattle.st_law.proofs.Progressing.{never_stuck}
use Rattle.st_law.proofs.law.some_choice_is_enabled.Goals as goal

pub returns : goal.returns
returns c = never_stuck
