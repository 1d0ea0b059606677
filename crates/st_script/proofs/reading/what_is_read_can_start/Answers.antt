use Rattle.st_script.proofs.Startable.{script_can_start}
use Rattle.st_script.proofs.reading.what_is_read_can_start.Goals as goal

pub returns : goal.returns
returns c = script_can_start
