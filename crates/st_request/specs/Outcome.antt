-- The system that calls are made over, from the parts that are stored, and the whole outcome of a call.
use Rattle.std.specs.Prelude.{Result, Ok, Err}
use Rattle.st_base.specs.declared.errno.Errno.{Errno}
use Rattle.st_model.specs.Descriptors.{Table}
use Rattle.st_model.specs.Processes.{Processes, process_at, is_process_live, next_pid}
use Rattle.st_model.specs.Tree.{Tree}
use Rattle.st_memory.specs.Memory.{Memories, byte_in, next_space}
use Rattle.st_effects.specs.System as effects
use Rattle.st_request.specs.declared.outcome.Outcome.{Outcome}

-- a system with this tree
abbrev pub with_tree : effects.System → Tree → effects.System
with_tree system tree = record system { tree = tree }

-- a system with these descriptors
abbrev pub with_descriptors : effects.System → Table → effects.System
with_descriptors system descriptors = record system { descriptors = descriptors }

-- a system with these processes
abbrev pub with_processes : effects.System → Processes → effects.System
with_processes system processes =
    record system { processes = process_at processes; is_live = is_process_live processes; next_process = next_pid processes }

-- a system with these memories
abbrev pub with_memories : effects.System → Memories → effects.System
with_memories system memories = record system { memory = byte_in memories; next_space = next_space memories }

-- a system with all of these parts; what is left are the held calls and the number of the next message
abbrev pub assembled_system : effects.System → Tree → Table → Processes → Memories → effects.System
assembled_system system tree descriptors processes memories =
    with_tree (with_descriptors (with_processes (with_memories system memories) processes) descriptors) tree

-- the whole outcome, from a call's result and changes and the descriptors after it
abbrev pub outcome_of : Outcome → Table → effects.Outcome
outcome_of outcome descriptors = record { result = outcome.result; changes = outcome.changes; descriptors = descriptors }

-- a call fails if a test did, otherwise it has this outcome
abbrev pub unless_err : {T : Type 0} → effects.System → Result T Errno → (T → effects.Outcome) → effects.Outcome
unless_err system (Ok given) outcome = outcome given
unless_err system (Err errno) outcome = effects.failure system errno
