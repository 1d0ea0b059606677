-- The processes that a signal can be sent to.
use Rattle.std.specs.Prelude.{ℕ, Option, Some, None, if◌then◌else◌}
use Rattle.st_model.specs.Processes.{Processes, is_process_live}

-- the process with a number, if it exists and hasn't ended
abbrev pub number_of_live : Processes → ℕ → Option ℕ
number_of_live processes number = if is_process_live processes number then Some number else None
