-- The results of the calls that set ids.
use Rattle.std.specs.Prelude.{Option, Some, None}
use Rattle.std.specs.declared.result.Result.{Result}
use Rattle.std.specs.declared.result.Result.TheVariants.{Ok, Err}
use Rattle.st_base.specs.declared.errno.Errno.{Errno}
use Rattle.st_base.specs.declared.ids.Ids.{Ids}

-- a call that is refused with an error, or returns ids
abbrev pub set_ids_result : Option Errno → Ids → Result Ids Errno
set_ids_result None ids = Ok ids
set_ids_result (Some errno) ids = Err errno
