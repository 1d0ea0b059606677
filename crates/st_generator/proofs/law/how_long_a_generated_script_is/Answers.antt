use Rattle.st_generator.proofs.Lengths.{script_short}
use Rattle.st_generator.proofs.law.how_long_a_generated_script_is.Goals as goal

pub returns : goal.returns
returns c = script_short
