-- A system for the examples: three users, objects with all kinds of permission, links, an object with two names, descriptors of
-- every kind, three processes and held calls. The calls of the table are computed over it.
use Rattle.std.proofs.Common.{ℕ, Bool, true, false, List, [], ◌∷◌, ◌++◌, map, Some, None, replicate, codes, ◌==◌, if◌then◌else◌, ◌||◌, ◌%◌, ◌+◌, length, ◌-◌}
use Rattle.st_model.specs.Descriptors.{Table}
use Rattle.st_base.specs.Ids.{identity}
use Rattle.st_base.specs.declared.ids.Ids.{Ids}
use Rattle.st_model.specs.declared.open_file.FileKind.{FileKind}
use Rattle.st_model.specs.declared.open_file.FileKind.TheVariants as file
use Rattle.st_model.specs.declared.open_file.OpenFile.{OpenFile}
use Rattle.st_calls.specs.declared.argument.ArgText.{ArgText}
use Rattle.st_calls.specs.declared.argument.Label.TheVariants.{Filename}
use Rattle.st_calls.specs.declared.call.SysCall.{SysCall}
use Rattle.st_names.specs.Name.{components_of}
use Rattle.st_model.specs.Tree.{Tree, root_node, root_only, add_object, link_object}
use Rattle.st_model.specs.declared.object.Kind.{Kind}
use Rattle.st_model.specs.declared.object.Kind.TheVariants as object_kind
use Rattle.st_effects.specs.Effect.{effect}
use Rattle.st_effects.specs.System.{System, Outcome}
use Rattle.st_trace.specs.declared.entry.CallResult.{CallResult}
use Rattle.st_trace.specs.declared.entry.Change.{Change}

-- an object of the world: its name, kind, owner, group, mode (in decimal) and content
abbrev with_object : Tree → List ℕ → Kind → ℕ → ℕ → ℕ → List ℕ → Tree
with_object tree name kind uid gid mode content =
    add_object tree (components_of name) (record { kind = kind; uid = uid; gid = gid; mode = mode; content = content })

-- Objects are numbered from 2 in this order. After each is its mode in octal.
abbrev pub open_tree : Tree
open_tree =
    let t2 = with_object root_only (codes "/d") object_kind.Dir 0 0 493 [] in  -- 2: 755
    let t3 = with_object t2 (codes "/d/f") object_kind.File 0 0 420 (codes "abc") in  -- 3: 644
    let t4 = with_object t3 (codes "/p") object_kind.Dir 0 0 448 [] in  -- 4: 700, root's alone
    let t5 = with_object t4 (codes "/p/x") object_kind.File 0 0 511 (codes "x") in  -- 5: 777
    let t6 = with_object t5 (codes "/w") object_kind.Dir 0 0 511 [] in  -- 6: 777, everybody's
    let t7 = with_object t6 (codes "/w/e") object_kind.File 1000 1000 493 [] in  -- 7: 755, empty
    let t8 = with_object t7 (codes "/w/l") object_kind.Link 1000 1000 511 (codes "nowhere") in  -- 8: 777
    let t9 = with_object t8 (codes "/w/r") object_kind.Dir 1000 1000 511 [] in  -- 9: 777, empty
    let t10 = with_object t9 (codes "/w/n") object_kind.Dir 1000 1000 511 [] in  -- 10: 777, has one entry
    let t11 = with_object t10 (codes "/w/n/c") object_kind.File 1000 1000 493 (codes "code") in  -- 11: 755
    with_object t11 (codes "/s") object_kind.Dir 0 0 457 []  -- 12: 711, all may search, root may write

-- files whose three permissions differ, in a directory that all may search and only root may write
abbrev pub tree : Tree
tree =
    let t13 = with_object open_tree (codes "/s/owner") object_kind.File 1000 2000 63 (codes "1") in  -- 13: 077, its owner may nothing
    let t14 = with_object t13 (codes "/s/group") object_kind.File 2000 1000 32 (codes "22") in  -- 14: 040, its group may read
    let t15 = with_object t14 (codes "/s/others") object_kind.File 0 0 2 (codes "333") in  -- 15: 002, others may write
    let t16 = with_object t15 (codes "/s/run") object_kind.File 2000 2000 1 (codes "4444") in  -- 16: 001, others may execute
    let t17 = with_object t16 (codes "/s/keep") object_kind.File 1000 1000 128 (codes "55555") in  -- 17: 200, its owner may write
    let t18 = with_object t17 (codes "/z") object_kind.Dir 1000 1000 384 [] in  -- 18: 600, nobody but root may search
    let t19 = with_object t18 (codes "/z/k") object_kind.File 1000 1000 511 (codes "k") in  -- 19: 777
    let t20 = with_object t19 (codes "/q") object_kind.Dir 1000 1000 320 [] in  -- 20: 500, its owner may search and not write
    let t21 = with_object t20 (codes "/q/v") object_kind.File 1000 1000 420 (codes "v") in  -- 21: 644
    let t22 = with_object t21 (codes "/q/t") object_kind.Dir 1000 1000 511 [] in  -- 22: 777, empty
    let t23 = with_object t22 (codes "/q/u") object_kind.Dir 1000 1000 511 [] in  -- 23: 777, has one entry
    let t24 = with_object t23 (codes "/q/u/y") object_kind.File 1000 1000 420 (codes "y") in  -- 24: 644
    let t25 = with_object t24 (codes "/d/l") object_kind.Link 0 0 511 (codes "f") in  -- 25: 777, in a directory of root
    link_object t25 (components_of (codes "/w/h")) 7  -- /w/h and /w/e are one object

-- the same tree after 4,096 objects were made
abbrev pub full_tree : Tree
full_tree = record tree { objects = tree.objects ++ replicate (4096 - length tree.objects) root_node }

-- the same tree when one more object can be made
abbrev pub nearly_full_tree : Tree
nearly_full_tree = record tree { objects = tree.objects ++ replicate (4095 - length tree.objects) root_node }

abbrev console : OpenFile
console = record { kind = file.Console; read = true; write = true; append = false; offset = 0 }

abbrev opened_for : Bool → Bool → Bool → ℕ → FileKind → OpenFile
opened_for read write append offset kind = record { kind = kind; read = read; write = write; append = append; offset = offset }

-- Open files, numbered from 0.
abbrev files : List OpenFile
files =
    console ∷  -- 0
    opened_for true false false 1 (file.Node 3) ∷  -- 1: /d/f for reading, at byte 1
    opened_for true false false 0 (file.Node 2) ∷  -- 2: the directory /d
    opened_for true true false 0 (file.Socket None false) ∷  -- 3: a socket
    opened_for true true false 0 (file.Socket (Some 80) true) ∷  -- 4: a socket that is bound and connected
    opened_for false true false 65534 (file.Node 3) ∷  -- 5: /d/f for writing, near the greatest length
    opened_for false true true 1 (file.Node 3) ∷  -- 6: /d/f for appending, at byte 1
    opened_for true true false 2 (file.Node 3) ∷  -- 7: /d/f for both, at byte 2
    opened_for true true false 0 (file.Socket (Some 2000) false) ∷  -- 8: a socket that is bound
    opened_for true true false 0 (file.Socket (Some 90) false) ∷  -- 9: a socket of process 3
    []

-- Descriptors 0 to 7 of process 1 refer to the open files 0 to 7, its descriptor 8 is free, 9 refers to the open file 8, and 10 to the
-- open file 1, which it shares with its descriptor 1 and with descriptor 1 of process 3. All its others are free. Process 2 has all 64
-- descriptors open. Process 3 has 0, 1 and 2 open.
abbrev pub descriptors : Table
descriptors = record {
  processes =
      (1, Some 0 ∷ Some 1 ∷ Some 2 ∷ Some 3 ∷ Some 4 ∷ Some 5 ∷ Some 6 ∷ Some 7 ∷ None ∷ Some 8 ∷ Some 1 ∷ replicate 53 None) ∷
      (2, Some 1 ∷ Some 2 ∷ Some 3 ∷ replicate 61 (Some 0)) ∷
      (3, Some 0 ∷ Some 1 ∷ Some 9 ∷ replicate 61 None) ∷ [];
  files = files;
}

-- the user whose calls are computed, another user, root, and four different ids
abbrev pub user : Ids
user = identity 1000 1000

abbrev pub other_user : Ids
other_user = identity 2000 2000

abbrev pub root : Ids
root = identity 0 0

abbrev pub mixed : Ids
mixed = record { ruid = 1000; euid = 2000; rgid = 3000; egid = 4000 }

-- Processes 1, 2 and 3 are live: the user's, root's, and another user's that runs as the user. Process 4 has ended. Each has the memory
-- with its own number, except for process 3, whose memory is 6. Byte b of memory s is (b + s) mod 256.
abbrev pub ids_of : ℕ → Ids
ids_of pid =
    if pid == 1 then user
    else if pid == 2 then root
    else record { ruid = 2000; euid = 1000; rgid = 2000; egid = 1000 }

abbrev pub world : System
world = record {
  tree = tree;
  memory = λ s b. (b + s) % 256;
  descriptors = descriptors;
  processes = λ p. record { traced = true; policy = codes "/bin/a"; ids = ids_of p; cwd = components_of (codes "/w"); space = if p == 3 then 6 else p };
  is_live = λ p. p == 1 || (p == 2 || p == 3);
  next_process = 5;
  next_space = 7;
  next_number = 9;
  held = record { tid = 1; pid = 1; number = 4 } ∷ record { tid = 2; pid = 1; number = 5 } ∷ record { tid = 3; pid = 2; number = 6 } ∷
      record { tid = 4; pid = 1; number = 8 } ∷ record { tid = 6; pid = 3; number = 7 } ∷ [];
}

abbrev pub full_world : System
full_world = record world { tree = full_tree }

abbrev pub nearly_full_world : System
nearly_full_world = record world { tree = nearly_full_tree }

abbrev filename : List ℕ → ArgText
filename text = record { label = Filename; index = 0; text = text }

-- a call of thread 1 of this process under these ids, with these texts as its arguments and these registers
abbrev pub made : System → ℕ → Ids → SysCall → List (List ℕ) → List ℕ → Outcome
made system pid ids call texts regs =
    effect system call (record { tid = 1; pid = pid; ids = ids; regs = regs; args = map filename texts; child = 5; inherit = false })

-- the result of each of some calls of process 1 under these ids
abbrev pub results_for : Ids → SysCall → List (List (List ℕ) × List ℕ) → List CallResult
results_for ids call tries = map (λ each. (made world 1 ids call each.0 each.1).result) tries

-- the result of each of some calls of process 1 for the user, another user, and root
abbrev pub results : SysCall → List (List (List ℕ) × List ℕ) → List CallResult
results = results_for user

abbrev pub other_results : SysCall → List (List (List ℕ) × List ℕ) → List CallResult
other_results = results_for other_user

abbrev pub root_results : SysCall → List (List (List ℕ) × List ℕ) → List CallResult
root_results = results_for root

-- the changes of a call of process 1 that the user makes
abbrev pub changes : SysCall → List (List ℕ) → List ℕ → List Change
changes call texts regs = (made world 1 user call texts regs).changes
