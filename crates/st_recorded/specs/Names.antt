-- What a name of a run stands for, before a call picks it.
use Rattle.std.specs.Prelude.{false, [], None}
use Rattle.atomic_table.specs.Seated.{TableId}
use Rattle.st_law.specs.declared.input.Input.{Input}
use Rattle.st_law.specs.declared.input.Mode.TheVariants.{Enforce}

-- an input of a script without rows; a call picks another
abbrev pub no_input : Input
no_input = record {
  policies = record { read = []; blocks = [] };
  start = record { users = []; groups = []; tree = []; processes = []; threads = [] };
  replies = [];
  options = record { mode = Enforce; inherit = false; aliasing = false; ids = None; workers = 0 };
}

-- a queue of nothing; a call picks another
abbrev pub no_queue : TableId
no_queue = record { words = 0; slots = 0; views_name = 0; atom = 0; block = 0; offset = 0; slot_names = [] }
