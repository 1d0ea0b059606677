-- How each of the sixteen changes alters the tree, memory, processes, threads and numbers, and what it doesn't change.
use Rattle.std.proofs.Common.{◌≡◌, ℕ, Bool, true, false, List, [], ◌∷◌, ◌++◌, map, refl, codes, replicate, ◌+◌, ◌*◌, ◌==◌}
use Rattle.st_base.specs.Ids.{identity}
use Rattle.st_names.specs.Name.{Components, components_of}
use Rattle.st_model.specs.Process.{Process}
use Rattle.st_model.specs.Tree.{Tree, Node, root_node}
use Rattle.st_model.specs.declared.object.Kind.{Kind}
use Rattle.st_model.specs.declared.object.Kind.TheVariants as object_kind
use Rattle.st_effects.specs.Changes.{tree_after_change, tree_after, memory_after_change, memory_after, process_after_change, process_after, owner_after_change, owner_after, dying_after_change, dying_after, seq_after_change, seq_after, next_process_after_change, next_process_after, next_space_after_change, next_space_after, next_seq_after_change, next_seq_after}
use Rattle.st_trace.specs.declared.entry.Change.{Change}
use Rattle.st_trace.specs.declared.entry.Change.TheVariants.{Made, Linked, Removed, Renamed, Written, Cut, Moded, Owned, Put, Forked, Execed, SetIds, Cwd, Dying, Renewed, Policy}
use Rattle.st_model.specs.declared.object.NewKind.TheVariants as made

abbrev named : List ℕ → Components
named text = components_of text

-- the changes by what they alter: the tree, memory, the row of a process, whether threads are dying, numbers
abbrev of_tree : List Change
of_tree =
    Made (named (codes "/new")) 6 (made.File []) 1 2 420 ∷ Linked (named (codes "/new")) 3 ∷ Removed (named (codes "/ab")) ∷
    Renamed (named (codes "/a")) (named (codes "/b")) ∷ Written 4 0 (1 ∷ []) ∷ Cut 4 0 ∷ Moded 4 0 ∷ Owned 4 8 9 ∷ []

abbrev of_memory : List Change
of_memory = Put 1 8 (1 ∷ []) ∷ Put 2 0 (2 ∷ []) ∷ []

abbrev of_row : List Change
of_row = SetIds (identity 5 5) ∷ Cwd (named (codes "/a")) ∷ Policy (codes "/bin/c") ∷ []

abbrev of_ends : List Change
of_ends = Dying 1 ∷ Dying 2 ∷ []

abbrev of_numbers : List Change
of_numbers = Renewed 1 9 ∷ Renewed 2 1 ∷ []

abbrev of_new_memory : List Change
of_new_memory = Execed (codes "/bin/b") 1 ∷ Execed (codes "/bin/b") 2 ∷ []

abbrev of_fork : List Change
of_fork = Forked 5 7 12 ∷ []

-- A tree with /a, /a/b, /a/b/c, /ab and /c, whose objects are 2, 3, 4, 5 and again 5.
abbrev node : Kind → ℕ → ℕ → ℕ → List ℕ → Node
node kind uid gid mode content = record { kind = kind; uid = uid; gid = gid; mode = mode; content = content }

abbrev directory : Node
directory = node object_kind.Dir 1 2 493 []

abbrev file_with : List ℕ → Node
file_with content = node object_kind.File 4 5 420 content

abbrev other : Node
other = node object_kind.File 6 7 384 (codes "xyz")

abbrev all_named : List (List ℕ × ℕ) → List (Components × ℕ)
all_named entries = map (λ entry. (components_of entry.0, entry.1)) entries

abbrev names : List (Components × ℕ)
names = all_named ((codes "/a", 2) ∷ (codes "/a/b", 3) ∷ (codes "/a/b/c", 4) ∷ (codes "/ab", 5) ∷ (codes "/c", 5) ∷ [])

abbrev small : Tree
small = record { names = names; objects = root_node ∷ directory ∷ directory ∷ file_with (codes "abc") ∷ other ∷ [] }

-- the tree with other names, with one more object, and with another file as object 4
abbrev with_names : List (List ℕ × ℕ) → Tree
with_names entries = record small { names = all_named entries }

abbrev with_made : Node → Tree
with_made made = record {
  names = all_named ((codes "/a", 2) ∷ (codes "/a/b", 3) ∷ (codes "/a/b/c", 4) ∷ (codes "/a/new", 6) ∷ (codes "/ab", 5) ∷
      (codes "/c", 5) ∷ []);
  objects = small.objects ++ made ∷ [];
}

abbrev with_file : Node → Tree
with_file file = record small { objects = root_node ∷ directory ∷ directory ∷ file ∷ other ∷ [] }

-- a new object has the next number, its kind, owner, group and mode, and is empty except for a link's target
made_changes : map (λ kind. tree_after_change small (Made (named (codes "/a/new")) 6 kind 8 9 420)) (made.Dir ∷ made.File [] ∷
    made.Link (codes "to") ∷ [])
    ≡ with_made (node object_kind.Dir 8 9 420 []) ∷ with_made (node object_kind.File 8 9 420 []) ∷
    with_made (node object_kind.Link 8 9 420 (codes "to")) ∷ []
made_changes = refl

-- an object gets one more name
linked_changes : tree_after_change small (Linked (named (codes "/aa")) 4)
    ≡ with_names ((codes "/a", 2) ∷ (codes "/a/b", 3) ∷ (codes "/a/b/c", 4) ∷ (codes "/aa", 4) ∷ (codes "/ab", 5) ∷
    (codes "/c", 5) ∷ [])
linked_changes = refl

-- a name is removed; its object stays, whether it has another name or none
removed_changes : tree_after_change small (Removed (named (codes "/ab"))) ∷ tree_after_change small (Removed (named (codes "/a/b/c"))) ∷ []
    ≡ with_names ((codes "/a", 2) ∷ (codes "/a/b", 3) ∷ (codes "/a/b/c", 4) ∷ (codes "/c", 5) ∷ []) ∷
    with_names ((codes "/a", 2) ∷ (codes "/a/b", 3) ∷ (codes "/ab", 5) ∷ (codes "/c", 5) ∷ []) ∷ []
removed_changes = refl

-- the names below a directory move with it; a name that only begins with the same letters stays, and so does another name of an
-- object
renamed_changes : tree_after_change small (Renamed (named (codes "/a")) (named (codes "/b"))) ∷
    tree_after_change small (Renamed (named (codes "/a/b")) (named (codes "/x"))) ∷
    tree_after_change small (Renamed (named (codes "/ab")) (named (codes "/a/b/d"))) ∷ []
    ≡ with_names ((codes "/ab", 5) ∷ (codes "/b", 2) ∷ (codes "/b/b", 3) ∷ (codes "/b/b/c", 4) ∷ (codes "/c", 5) ∷ []) ∷
    with_names ((codes "/a", 2) ∷ (codes "/ab", 5) ∷ (codes "/c", 5) ∷ (codes "/x", 3) ∷ (codes "/x/c", 4) ∷ []) ∷
    with_names ((codes "/a", 2) ∷ (codes "/a/b", 3) ∷ (codes "/a/b/c", 4) ∷ (codes "/a/b/d", 5) ∷ (codes "/c", 5) ∷ []) ∷ []
renamed_changes = refl

-- bytes of one object: within it, across its end, after a gap of zeros
written_changes : tree_after_change small (Written 4 1 (8 ∷ [])) ∷ tree_after_change small (Written 4 2 (8 ∷ 9 ∷ [])) ∷
    tree_after_change small (Written 4 5 (8 ∷ [])) ∷ tree_after_change small (Written 4 0 (7 ∷ 8 ∷ 9 ∷ [])) ∷ []
    ≡ with_file (file_with (97 ∷ 8 ∷ 99 ∷ [])) ∷ with_file (file_with (97 ∷ 98 ∷ 8 ∷ 9 ∷ [])) ∷
    with_file (file_with (97 ∷ 98 ∷ 99 ∷ 0 ∷ 0 ∷ 8 ∷ [])) ∷ with_file (file_with (7 ∷ 8 ∷ 9 ∷ [])) ∷ []
written_changes = refl

-- a file gets shorter, keeps its length, or is extended by zeros
cut_changes : map (λ len. tree_after_change small (Cut 4 len)) (0 ∷ 1 ∷ 3 ∷ 5 ∷ [])
    ≡ map (λ content. with_file (file_with content)) ([] ∷ codes "a" ∷ codes "abc" ∷ (97 ∷ 98 ∷ 99 ∷ 0 ∷ 0 ∷ []) ∷ [])
cut_changes = refl

-- one object's mode alone changes, or its owner and group alone
moded_and_owned_changes : tree_after_change small (Moded 4 511) ∷ tree_after_change small (Owned 4 8 9) ∷ []
    ≡ with_file (node object_kind.File 4 5 511 (codes "abc")) ∷ with_file (node object_kind.File 8 9 420 (codes "abc")) ∷ []
moded_and_owned_changes = refl

tree_stays : map (tree_after_change small) (of_memory ++ of_row ++ of_ends ++ of_numbers ++ of_new_memory ++
    of_fork) ≡ replicate 12 small
tree_stays = refl

-- changes one after the other, in order: a replaced object is removed first; a new file is written
trees_after : tree_after small [] ∷ tree_after small (Removed (named (codes "/ab")) ∷
    Renamed (named (codes "/a")) (named (codes "/ab")) ∷ []) ∷
    tree_after small (Made (named (codes "/a/new")) 6 (made.File []) 8 9 420 ∷ Written 6 0 (codes "z") ∷ Moded 6 511 ∷ []) ∷ []
    ≡ small ∷ with_names ((codes "/ab", 2) ∷ (codes "/ab/b", 3) ∷ (codes "/ab/b/c", 4) ∷ (codes "/c", 5) ∷ []) ∷
    with_made (node object_kind.File 8 9 511 (codes "z")) ∷ []
trees_after = refl

-- Byte b of memory s is 1,000 s + b before.
abbrev memory : ℕ → ℕ → ℕ
memory s b = 1000 * s + b

-- bytes of memory, each by its space and its offset
abbrev bytes_at : (ℕ → ℕ → ℕ) → List (ℕ × ℕ) → List ℕ
bytes_at memory places = map (λ place. memory place.0 place.1) places

abbrev put_places : List (ℕ × ℕ)
put_places = (2, 7) ∷ (2, 8) ∷ (2, 9) ∷ (2, 10) ∷ (1, 8) ∷ (1, 9) ∷ (3, 8) ∷ []

-- only the bytes in the range change, in the space that the change names, whatever the caller's own space is
put_changes : bytes_at (memory_after_change 1 memory (Put 2 8 (7 ∷ 6 ∷ []))) put_places ∷
    bytes_at (memory_after_change 2 memory (Put 2 8 (7 ∷ 6 ∷ []))) put_places ∷ []
    ≡ replicate 2 (2007 ∷ 7 ∷ 6 ∷ 2010 ∷ 1008 ∷ 1009 ∷ 3008 ∷ [])
put_changes = refl

-- the child's memory is a copy of its parent's memory; the parent's memory doesn't change, nor does any other
forked_copies : bytes_at (memory_after_change 3 memory (Forked 5 7 12)) ((7, 0) ∷ (7, 65535) ∷ (3, 0) ∷ (3, 65535) ∷ (5, 0) ∷
    (12, 0) ∷ (1, 0) ∷ (8, 0) ∷ [])
    ≡ 3000 ∷ 68535 ∷ 3000 ∷ 68535 ∷ 5000 ∷ 12000 ∷ 1000 ∷ 8000 ∷ []
forked_copies = refl

memory_stays : map (λ change. bytes_at (memory_after_change 1 memory change) ((1, 0) ∷ (1, 8) ∷ (2, 0) ∷ (5, 8) ∷ (7, 8) ∷ []))
    (of_tree ++ of_row ++ of_ends ++ of_numbers ++ of_new_memory) ≡ replicate 17 (1000 ∷ 1008 ∷ 2000 ∷ 5008 ∷ 7008 ∷ [])
memory_stays = refl

-- changes in order: the later of two bytes remains, and a copy has only bytes that were put before it
memories_after : map (λ changes. bytes_at (memory_after 1 memory changes) ((1, 8) ∷ (7, 8) ∷ []))
    ([] ∷ (Put 1 8 (5 ∷ []) ∷ Put 1 8 (6 ∷ []) ∷ []) ∷ (Put 1 8 (5 ∷ []) ∷ Forked 5 7 12 ∷ []) ∷
    (Forked 5 7 12 ∷ Put 1 8 (5 ∷ []) ∷ []) ∷ [])
    ≡ (1008 ∷ 7008 ∷ []) ∷ (6 ∷ 7008 ∷ []) ∷ (5 ∷ 5 ∷ []) ∷ (5 ∷ 1008 ∷ []) ∷ []
memories_after = refl

-- Process 1 is traced and all others aren't; all other data of a process depend on its number.
abbrev process : Bool → ℕ → ℕ → Process
process traced p space = record { traced = traced; policy = p ∷ []; ids = identity p (p + 100); cwd = (p ∷ []) ∷ []; space = space }

abbrev processes : ℕ → Process
processes p = process (p == 1) p (p + 20)

-- the processes 1, 2, 5, 7 and 12 after a change that this process makes
abbrev five_after : ℕ → Change → List Process
five_after m change = map (λ p. process_after_change processes m p (processes p) change) (1 ∷ 2 ∷ 5 ∷ 7 ∷ 12 ∷ [])

abbrev one : Process
one = process true 1 21

abbrev with_first : Process → List Process
with_first first = first ∷ process false 2 22 ∷ process false 5 25 ∷ process false 7 27 ∷ process false 12 32 ∷ []

-- a child has its parent's row except for its memory, which is new; it is traced if its parent is
forked_child : five_after 1 (Forked 5 7 12) ∷ five_after 2 (Forked 5 7 12) ∷ []
    ≡ (one ∷ process false 2 22 ∷ process true 1 7 ∷ process false 7 27 ∷ process false 12 32 ∷ []) ∷
    (one ∷ process false 2 22 ∷ process false 2 7 ∷ process false 7 27 ∷ process false 12 32 ∷ []) ∷ []
forked_child = refl

-- the calling process has the new memory, ids, directory or policy, and all else as before; no other process changes
row_changes : map (five_after 1) (Execed (codes "/bin/b") 30 ∷ SetIds (identity 5 6) ∷ Cwd (named (codes "/a")) ∷
    Policy (codes "/bin/c") ∷ [])
    ≡ with_first (record one { space = 30 }) ∷ with_first (record one { ids = identity 5 6 }) ∷
    with_first (record one { cwd = named (codes "/a") }) ∷
    with_first (record one { policy = codes "/bin/c" }) ∷ []
row_changes = refl

-- changes made by another process don't alter process 1
row_changes_of_another : map (λ change. process_after_change processes 2 1 one change) (of_row ++ of_new_memory ++
    of_fork) ≡ replicate 6 one
row_changes_of_another = refl

row_stays : map (five_after 1) (of_tree ++ of_memory ++ of_ends ++ of_numbers) ≡ replicate 14 (with_first one)
row_stays = refl

-- changes in order: a new binary's memory and then its policy; the later of two changes remains
rows_after : map (process_after processes 1 1) ([] ∷ (Execed (codes "/bin/b") 30 ∷ Policy (codes "/bin/b") ∷ []) ∷
    (SetIds (identity 5 6) ∷ of_row) ∷ []) ++
    process_after processes 1 5 (Forked 5 7 12 ∷ []) ∷ process_after processes 1 2 of_row ∷ []
    ≡ one ∷ record one { space = 30; policy = codes "/bin/b" } ∷
    record one { ids = identity 5 5; cwd = named (codes "/a"); policy = codes "/bin/c" } ∷
    process true 1 7 ∷ process false 2 22 ∷ []
rows_after = refl

-- the thread that a fork starts belongs to the child; every other thread keeps its process or has none, and so does a thread that
-- has already started
owners : map (λ t. owner_after_change t 0 (Forked 5 7 12)) (12 ∷ 5 ∷ 7 ∷ 1 ∷ []) ++ map (λ t. owner_after_change t 3 (Forked 5 7 12)) (12 ∷
    5 ∷ 7 ∷ 1 ∷ []) ++
    map (λ t. owner_after t 0 (Forked 5 7 12 ∷ Forked 6 8 13 ∷ Forked 7 9 12 ∷ [])) (12 ∷ 13 ∷ 14 ∷ [])
    ≡ 5 ∷ 0 ∷ 0 ∷ 0 ∷ 3 ∷ 3 ∷ 3 ∷ 3 ∷ 5 ∷ 6 ∷ 0 ∷ []
owners = refl

owner_stays : map (owner_after_change 1 3) (of_tree ++ of_memory ++ of_row ++ of_ends ++ of_numbers ++ of_new_memory) ++
    owner_after 1 3 of_row ∷ []
    ≡ replicate 20 3
owner_stays = refl

-- Threads 1 and 2 belong to process 1, and thread 3 to process 2; none is dying before. Whether each is dying after a change of thread 1.
abbrev ends_after : Change → List Bool
ends_after change = dying_after_change 1 1 1 1 false change ∷ dying_after_change 2 1 1 1 false change ∷
    dying_after_change 3 2 1 1 false change ∷ []

-- all threads of the process that ends are dying, and no others, whichever process makes the change
dying_ends : map ends_after (Dying 1 ∷ Dying 2 ∷ Dying 3 ∷ []) ≡ (true ∷ true ∷ false ∷ []) ∷ (false ∷ false ∷ true ∷ []) ∷
    (false ∷ false ∷ false ∷ []) ∷ []
dying_ends = refl

-- a new binary makes the other threads of its process dying, but neither the calling thread nor threads of other processes
execed_ends : ends_after (Execed (codes "/bin/b") 3) ∷
    (dying_after_change 1 1 3 2 false (Execed (codes "/bin/b") 3) ∷ dying_after_change 3 2 3 2 false (Execed (codes "/bin/b") 1) ∷ []) ∷ []
    ≡ (false ∷ true ∷ false ∷ []) ∷ (false ∷ false ∷ []) ∷ []
execed_ends = refl

nothing_ends : map ends_after (of_tree ++ of_memory ++ of_row ++ of_numbers ++ of_fork) ≡ replicate 16 (false ∷ false ∷ false ∷ [])
nothing_ends = refl

-- a dying thread stays dying, after every change
dying_stays : map (dying_after_change 1 1 1 1 true) (of_tree ++ of_memory ++ of_row ++ of_ends ++ of_numbers ++ of_new_memory ++
    of_fork) ≡ replicate 20 true
dying_stays = refl

all_dying_after : dying_after 3 2 1 1 false (Dying 2 ∷ Policy (codes "/bin/c") ∷ []) ∷
    dying_after 3 2 1 1 false (Policy (codes "/bin/c") ∷ Dying 1 ∷ Dying 2 ∷ []) ∷
    dying_after 3 2 1 1 false [] ∷ [] ≡ true ∷ true ∷ false ∷ []
all_dying_after = refl

-- a renewed message has its new number, every other message keeps its number
renewed_number : map (λ number. seq_after_change number (Renewed 4 9)) (4 ∷ 5 ∷ 9 ∷ 0 ∷ []) ++
    map (λ number. seq_after number (SetIds (identity 5 5) ∷ Renewed 5 9 ∷ Renewed 8 10 ∷ [])) (4 ∷ 5 ∷ 8 ∷ [])
    ≡ 9 ∷ 5 ∷ 9 ∷ 0 ∷ 4 ∷ 9 ∷ 10 ∷ []
renewed_number = refl

number_stays : map (seq_after_change 1) (of_tree ++ of_memory ++ of_row ++ of_ends ++ of_new_memory ++ of_fork) ≡ replicate 18 1
number_stays = refl

-- the next numbers come after the numbers that were used
next_process_after_fork : next_process_after_change 5 (Forked 5 7 12) ∷ next_process_after_change 0 (Forked 5 7 12) ∷
    next_process_after 5 (Forked 5 7 12 ∷ Forked 6 8 13 ∷ []) ∷ [] ≡ 6 ∷ 6 ∷ 7 ∷ []
next_process_after_fork = refl

next_space_after_calls : map (next_space_after_change 7) (Forked 5 7 12 ∷ Execed (codes "/bin/b") 7 ∷ []) ++
    map (next_space_after_change 0) (Forked 5 7 12 ∷ Execed (codes "/bin/b") 7 ∷ []) ++
    next_space_after 7 (Execed (codes "/bin/b") 7 ∷ Policy (codes "/bin/b") ∷ []) ∷ []
    ≡ 8 ∷ 8 ∷ 8 ∷ 8 ∷ 8 ∷ []
next_space_after_calls = refl

next_number_after_renewals : next_seq_after_change 9 (Renewed 4 9) ∷ next_seq_after_change 0 (Renewed 4 9) ∷
    next_seq_after 9 (SetIds (identity 5 5) ∷ Renewed 5 9 ∷ Renewed 8 10 ∷ []) ∷ [] ≡ 10 ∷ 10 ∷ 11 ∷ []
next_number_after_renewals = refl

next_process_stays : map (next_process_after_change 5) (of_tree ++ of_memory ++ of_row ++ of_ends ++ of_numbers ++
    of_new_memory) ≡ replicate 19 5
next_process_stays = refl

next_space_stays : map (next_space_after_change 7) (of_tree ++ of_memory ++ of_row ++ of_ends ++ of_numbers) ≡ replicate 17 7
next_space_stays = refl

next_number_stays : map (next_seq_after_change 9) (of_tree ++ of_memory ++ of_row ++ of_ends ++ of_new_memory ++
    of_fork) ≡ replicate 18 9
next_number_stays = refl
