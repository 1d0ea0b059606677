-- Processes, memory and the file tree as functions of the history.
use Rattle.std.specs.Prelude.{ℕ, suc, Bool, [], ◌∷◌, length, Option, Some, None}
use Rattle.std.specs.List.{fold, range_with_len}
use Rattle.st_base.specs.Numbered.{item_at_number}
use Rattle.st_base.specs.Ids.{identity}
use Rattle.st_base.specs.declared.ids.Ids.{Ids}
use Rattle.st_model.specs.DescriptorCalls.{table_after_start}
use Rattle.st_model.specs.Descriptors.{Table}
use Rattle.st_model.specs.Memory.{memory_after_store}
use Rattle.st_model.specs.Process.{Process}
use Rattle.st_model.specs.Processes.{no_process}
use Rattle.st_model.specs.Tree.{Tree, root_only, add_object, node_of_new}
use Rattle.st_effects.specs.Changes.{tree_after, memory_after, process_after, next_process_after, next_space_after}
use Rattle.st_trace.specs.declared.entry.Entry.{Entry}
use Rattle.st_trace.specs.declared.entry.Entry.TheVariants.{Stored, Used}
use Rattle.st_trace.specs.declared.start.ProcessRow.{ProcessRow}
use Rattle.st_trace.specs.declared.start.TreeRow.{TreeRow}
use Rattle.st_law.specs.declared.input.Input.{Input}
use Rattle.st_law.specs.Threads.{History, changes_of, thread_of, owner_at}

-- ---- what the rows of the script say

-- the ids of a process, by its row; the options may give other ids to each traced process
abbrev pub first_ids : Option (ℕ × ℕ) → Bool → ℕ → ℕ → Ids
first_ids None traced uid gid = identity uid gid
first_ids (Some given) Bool.false uid gid = identity uid gid
first_ids (Some given) Bool.true uid gid = identity given.0 given.1

-- a process, by its number and row; its space has its number
abbrev pub process_of_row : Input → ℕ → Option ProcessRow → Process
process_of_row i p None = no_process
process_of_row i p (Some row) = record {
  traced = row.traced;
  policy = row.binary;
  ids = first_ids i.options.ids row.traced row.uid row.gid;
  cwd = row.cwd;
  space = p;
}

-- a process before the first entry
abbrev pub first_process : Input → ℕ → Process
first_process i p = process_of_row i p (item_at_number i.start.processes p)

-- how many processes the script has
abbrev pub process_count : Input → ℕ
process_count i = length i.start.processes

-- the tree with the object of one more row
abbrev pub tree_with_row : Tree → TreeRow → Tree
tree_with_row tree row = add_object tree row.name (node_of_new row.new)

-- the tree before the first entry: the root, and an object for each row, in order
abbrev pub first_tree : Input → Tree
first_tree i = fold tree_with_row root_only i.start.tree

-- no descriptors
abbrev pub no_descriptors : Table
no_descriptors = record { processes = []; files = [] }

-- the descriptors before the first entry: each process has the console three times
abbrev pub first_descriptors : Input → Table
first_descriptors i = fold table_after_start no_descriptors (range_with_len 1 (process_count i))

-- ---- what each entry does to memory

-- the memory after an entry, by the space of the entry's thread
abbrev pub memory_after_entry : ℕ → (ℕ → ℕ → ℕ) → Entry → ℕ → ℕ → ℕ
memory_after_entry own before (Stored t place word) = memory_after_store before own place word
memory_after_entry own before (Used t seq call regs args ids result changes) = memory_after own before changes
memory_after_entry own before _ = before

-- ---- looking back

-- the process of a number
abbrev pub process_at : Input → History → ℕ → Process
process_at i [] p = first_process i p
process_at i (e ∷ h) p = process_after (process_at i h) (owner_at i h (thread_of e)) p (changes_of e)

-- the number that the next process has
abbrev pub next_process_at : Input → History → ℕ
next_process_at i [] = suc (process_count i)
next_process_at i (e ∷ h) = next_process_after (next_process_at i h) (changes_of e)

-- the number that the next space has
abbrev pub next_space_at : Input → History → ℕ
next_space_at i [] = suc (process_count i)
next_space_at i (e ∷ h) = next_space_after (next_space_at i h) (changes_of e)

-- the number of a thread's space
abbrev pub space_at : Input → History → ℕ → ℕ
space_at i h t = (process_at i h (owner_at i h t)).space

-- byte b of space s: what the last entry that writes it gave it, 0 before
abbrev pub byte_at : Input → History → ℕ → ℕ → ℕ
byte_at i [] s b = 0
byte_at i (e ∷ h) s b = memory_after_entry (space_at i h (thread_of e)) (byte_at i h) e s b

-- the file tree
abbrev pub tree_at : Input → History → Tree
tree_at i [] = first_tree i
tree_at i (e ∷ h) = tree_after (tree_at i h) (changes_of e)
