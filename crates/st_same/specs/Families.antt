-- The entries and changes that are compared by one function.
use Rattle.std.specs.Prelude.{Bool, true, false}
use Rattle.st_trace.specs.declared.entry.Change.{Change}
use Rattle.st_trace.specs.declared.entry.Change.TheVariants.{Made, Linked, Removed, Renamed, Written, Cut, Moded, Owned, Put, Forked, Execed, SetIds, Cwd, Dying, Renewed, Policy}
use Rattle.st_trace.specs.declared.entry.Entry.{Entry}
use Rattle.st_trace.specs.declared.entry.Entry.TheVariants.{Stored, Entered, Claimed, Copied, Looked, Faulted, Answered, Replied, Learned, Used, Denied, Ended, Reloaded}

-- whether a change is one of names in the file tree
abbrev pub is_of_names : Change → Bool
is_of_names (Made name obj kind uid gid mode) = true
is_of_names (Linked name obj) = true
is_of_names (Removed name) = true
is_of_names (Renamed old new) = true
is_of_names _ = false

-- whether a change is one of an object or a memory
abbrev pub is_of_content : Change → Bool
is_of_content (Written obj at bytes) = true
is_of_content (Cut obj len) = true
is_of_content (Moded obj mode) = true
is_of_content (Owned obj uid gid) = true
is_of_content (Put space at bytes) = true
is_of_content _ = false

-- whether a change is one of processes or messages
abbrev pub is_of_processes : Change → Bool
is_of_processes (Forked pid space tid) = true
is_of_processes (Execed binary space) = true
is_of_processes (SetIds ids) = true
is_of_processes (Cwd name) = true
is_of_processes (Dying pid) = true
is_of_processes (Renewed old new) = true
is_of_processes (Policy binary) = true
is_of_processes _ = false

-- whether an entry is one of an instruction
abbrev pub is_of_instruction : Entry → Bool
is_of_instruction (Stored t place word) = true
is_of_instruction (Entered t call regs way) = true
is_of_instruction (Reloaded t n done changes) = true
is_of_instruction _ = false

-- whether an entry is one of a call that is made
abbrev pub is_of_call : Entry → Bool
is_of_call (Used t seq call regs args ids result changes) = true
is_of_call _ = false

-- whether a call is denied or a thread ends with an entry
abbrev pub is_of_end : Entry → Bool
is_of_end (Denied t seq errno cause) = true
is_of_end (Ended t) = true
is_of_end _ = false

-- whether an entry is one of a worker that copies or looks
abbrev pub is_of_copy : Entry → Bool
is_of_copy (Copied q part place word) = true
is_of_copy (Looked q part name seen) = true
is_of_copy _ = false

-- whether an entry is another one of a worker
abbrev pub is_of_worker : Entry → Bool
is_of_worker (Claimed w q) = true
is_of_worker (Faulted q errno) = true
is_of_worker (Answered w s v applied) = true
is_of_worker _ = false

-- whether an entry is one of the operator
abbrev pub is_of_operator : Entry → Bool
is_of_operator (Replied q reply n) = true
is_of_operator (Learned q n) = true
is_of_operator _ = false
