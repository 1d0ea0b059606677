-- How changes alter the tree, memory, a process, a thread and the next numbers, each part by itself.
use Rattle.std.specs.Prelude.{ℕ, suc, ◌==◌, ◌&&◌, ◌||◌, not, if◌then◌else◌, Bool, List}
use Rattle.std.specs.List.{fold}
use Rattle.st_model.specs.Memory.{memory_after_put}
use Rattle.st_model.specs.Process.{Process}
use Rattle.st_model.specs.Tree.{Tree, node_of_kind, add_object, link_object, remove_name, rename, write_object, cut_object, set_mode, set_owner}
use Rattle.st_trace.specs.declared.entry.Change.{Change}
use Rattle.st_trace.specs.declared.entry.Change.TheVariants.{Made, Linked, Removed, Renamed, Written, Cut, Moded, Owned, Put, Forked, Execed, SetIds, Cwd, Dying, Renewed, Policy}

-- the tree after a change
abbrev pub tree_after_change : Tree → Change → Tree
tree_after_change tree (Made name obj kind uid gid mode) = add_object tree name (node_of_kind kind uid gid mode)
tree_after_change tree (Linked name obj) = link_object tree name obj
tree_after_change tree (Removed name) = remove_name tree name
tree_after_change tree (Renamed old new) = rename tree old new
tree_after_change tree (Written obj at bytes) = write_object tree obj at bytes
tree_after_change tree (Cut obj len) = cut_object tree obj len
tree_after_change tree (Moded obj mode) = set_mode tree obj mode
tree_after_change tree (Owned obj uid gid) = set_owner tree obj uid gid
tree_after_change tree _ = tree

-- the tree after changes
abbrev pub tree_after : Tree → List Change → Tree
tree_after tree changes = fold tree_after_change tree changes

-- memory after a change that a process with this space makes; a child's memory is a copy of the memory of this space
abbrev pub memory_after_change : ℕ → (ℕ → ℕ → ℕ) → Change → ℕ → ℕ → ℕ
memory_after_change own before (Put space at bytes) = memory_after_put before space at bytes
memory_after_change own before (Forked pid space tid) = λ s b. if s == space then before own b else before s b
memory_after_change own before _ = before

-- memory after changes that a process with this space makes
abbrev pub memory_after : ℕ → (ℕ → ℕ → ℕ) → List Change → ℕ → ℕ → ℕ
memory_after own before changes = fold (memory_after_change own) before changes

-- process p after a change that process m makes; a child has its parent's row except for its space
abbrev pub process_after_change : (ℕ → Process) → ℕ → ℕ → Process → Change → Process
process_after_change processes m p before (Forked pid space tid) =
    if pid == p then record (processes m) { space = space } else before
process_after_change processes m p before (Execed binary space) = if m == p then record before { space = space } else before
process_after_change processes m p before (SetIds ids) = if m == p then record before { ids = ids } else before
process_after_change processes m p before (Cwd name) = if m == p then record before { cwd = name } else before
process_after_change processes m p before (Policy binary) = if m == p then record before { policy = binary } else before
process_after_change processes m p before _ = before

-- process p after changes that process m makes
abbrev pub process_after : (ℕ → Process) → ℕ → ℕ → List Change → Process
process_after processes m p changes = fold (process_after_change processes m p) (processes p) changes

-- the process of thread t after a change, 0 before it starts; a thread starts once
abbrev pub owner_after_change : ℕ → ℕ → Change → ℕ
owner_after_change t before (Forked pid space tid) = if tid == t && before == 0 then pid else before
owner_after_change t before _ = before

-- the process of thread t after changes, 0 before it starts
abbrev pub owner_after : ℕ → ℕ → List Change → ℕ
owner_after t before changes = fold (owner_after_change t) before changes

-- whether thread t, of process p, is dying after a change that thread u of process m makes
abbrev pub dying_after_change : ℕ → ℕ → ℕ → ℕ → Bool → Change → Bool
dying_after_change t p u m before (Dying pid) = before || pid == p
dying_after_change t p u m before (Execed binary space) = before || (m == p && not (u == t))
dying_after_change t p u m before _ = before

-- whether thread t, of process p, is dying after changes that thread u of process m makes
abbrev pub dying_after : ℕ → ℕ → ℕ → ℕ → Bool → List Change → Bool
dying_after t p u m before changes = fold (dying_after_change t p u m) before changes

-- the number of a held call after a change
abbrev pub seq_after_change : ℕ → Change → ℕ
seq_after_change before (Renewed old new) = if old == before then new else before
seq_after_change before _ = before

-- the number of a held call after changes
abbrev pub seq_after : ℕ → List Change → ℕ
seq_after before changes = fold seq_after_change before changes

-- the number of the next process after a change
abbrev pub next_process_after_change : ℕ → Change → ℕ
next_process_after_change before (Forked pid space tid) = suc pid
next_process_after_change before _ = before

-- the number of the next process after changes
abbrev pub next_process_after : ℕ → List Change → ℕ
next_process_after before changes = fold next_process_after_change before changes

-- the number of the next space after a change
abbrev pub next_space_after_change : ℕ → Change → ℕ
next_space_after_change before (Forked pid space tid) = suc space
next_space_after_change before (Execed binary space) = suc space
next_space_after_change before _ = before

-- the number of the next space after changes
abbrev pub next_space_after : ℕ → List Change → ℕ
next_space_after before changes = fold next_space_after_change before changes

-- the number of the next message after a change
abbrev pub next_seq_after_change : ℕ → Change → ℕ
next_seq_after_change before (Renewed old new) = suc new
next_seq_after_change before _ = before

-- the number of the next message after changes
abbrev pub next_seq_after : ℕ → List Change → ℕ
next_seq_after before changes = fold next_seq_after_change before changes
