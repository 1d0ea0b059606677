use Rattle.st_script.proofs.Bounded.{script_is_bounded}
use Rattle.st_script.proofs.reading.what_is_read_is_bounded.Goals as goal

pub returns : goal.returns
returns c = script_is_bounded
