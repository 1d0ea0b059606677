-- Examples of the call open, computed from the table of calls: its refusals in order, the effects of its flags, and the owner of a new
-- file.
use Rattle.std.proofs.Common.{◌≡◌, ℕ, Bool, true, false, List, [], ◌∷◌, ◌++◌, map, Some, None, refl, codes, replicate}
use Rattle.std.specs.Prelude.{◌^◌, ◌-◌, take, drop}
use Rattle.st_base.specs.Ids.{identity}
use Rattle.st_base.specs.declared.errno.Errno.TheVariants.{ENOENT, EBADF, EACCES, EEXIST, ENOTDIR, EISDIR, EINVAL, EMFILE, ENOSPC}
use Rattle.st_base.specs.declared.ids.Ids.{Ids}
use Rattle.st_model.specs.declared.open_file.FileKind.TheVariants as file
use Rattle.st_model.specs.declared.open_file.OpenFile.{OpenFile}
use Rattle.st_calls.specs.declared.call.SysCall.{SysCall}
use Rattle.st_calls.specs.declared.call.SysCall.TheVariants.{Open, Close, Read, Write}
use Rattle.st_names.specs.Name.{components_of}
use Rattle.st_model.specs.Tree.{Tree, add_object}
use Rattle.st_model.specs.declared.object.Kind.{Kind}
use Rattle.st_model.specs.declared.object.Kind.TheVariants as object_kind
use Rattle.st_effects.specs.System.{System}
use Rattle.st_trace.specs.declared.entry.CallResult.{CallResult}
use Rattle.st_trace.specs.declared.entry.CallResult.TheVariants.{Value, Failed}
use Rattle.st_trace.specs.declared.entry.Change.TheVariants.{Made, Cut}
use Rattle.st_model.specs.declared.object.NewKind.TheVariants as kind
use Rattle.st_effects.proofs.World.{world, full_world, nearly_full_world, descriptors, user, root, mixed, made, results, other_results, root_results, results_for, changes}
use Rattle.st_effects.proofs.Outcomes.{file_for, led_to, with_new, table_with, done, failed, after_calls, results_in}

-- If two adjacent reasons in the order both hold, the first is the result. O_WRONLY is 1, O_RDWR 2, O_APPEND 8, O_CREAT 0x200,
-- O_TRUNC 0x400 and O_EXCL 0x800.

-- the table of process 2 is full; the tests in order: no such access, no free descriptor, the walk
open_with_all_taken : results_in world 2 user Open (
    (codes "/no/x" ∷ [], 0 ∷ 3 ∷ 0 ∷ []) ∷
    (codes "/d/f" ∷ [], 0 ∷ 3 ∷ 0 ∷ []) ∷
    (codes "/no/x" ∷ [], 0 ∷ 0 ∷ 0 ∷ []) ∷
    (codes "/d/f/x" ∷ [], 0 ∷ 0 ∷ 0 ∷ []) ∷
    (codes "/p/x" ∷ [], 0 ∷ 0 ∷ 0 ∷ []) ∷
    (codes "/w/new" ∷ [], 0 ∷ 0x201 ∷ 0 ∷ []) ∷
    (codes "/d/f" ∷ [], 0 ∷ 0 ∷ 0 ∷ []) ∷ [])
    ≡ Failed EINVAL ∷ Failed EINVAL ∷ Failed EMFILE ∷ Failed EMFILE ∷ Failed EMFILE ∷ Failed EMFILE ∷ Failed EMFILE ∷ []
open_with_all_taken = refl

-- both access bits together are an error before the walk, whatever the other bits are
open_without_access : results Open (
    (codes "/no/x" ∷ [], 0 ∷ 3 ∷ 0 ∷ []) ∷
    (codes "/d/f" ∷ [], 0 ∷ 3 ∷ 0 ∷ []) ∷
    (codes "/d/f" ∷ [], 0 ∷ 7 ∷ 0 ∷ []) ∷
    (codes "/w/new" ∷ [], 0 ∷ 0x203 ∷ 0 ∷ []) ∷
    (codes "/d/f" ∷ [], 0 ∷ (2 ^ 64 - 1) ∷ 0 ∷ []) ∷
    (codes "/d/f" ∷ [], 0 ∷ 4 ∷ 0 ∷ []) ∷ [])
    ≡ Failed EINVAL ∷ Failed EINVAL ∷ Failed EINVAL ∷ Failed EINVAL ∷ Failed EINVAL ∷ Value 8 ∷ []
open_without_access = refl

-- the first proper prefix that is missing, is no directory, or may not be searched decides, before all tests of the name's own object
open_walks : results Open (
    (codes "/no/x" ∷ [], 0 ∷ 0x200 ∷ 0 ∷ []) ∷
    (codes "/d/f/x" ∷ [], 0 ∷ 0 ∷ 0 ∷ []) ∷
    (codes "/d/f/x" ∷ [], 0 ∷ 0x201 ∷ 0 ∷ []) ∷
    (codes "/d/f/no/x" ∷ [], 0 ∷ 0 ∷ 0 ∷ []) ∷
    (codes "/no/f/x" ∷ [], 0 ∷ 0 ∷ 0 ∷ []) ∷
    (codes "/w/l/x" ∷ [], 0 ∷ 0 ∷ 0 ∷ []) ∷
    (codes "/p/x" ∷ [], 0 ∷ 0xa00 ∷ 0 ∷ []) ∷
    (codes "/p/no" ∷ [], 0 ∷ 0 ∷ 0 ∷ []) ∷
    (codes "/p/no/x" ∷ [], 0 ∷ 0 ∷ 0 ∷ []) ∷
    (codes "/z/k" ∷ [], 0 ∷ 0 ∷ 0 ∷ []) ∷
    (codes "/q/v" ∷ [], 0 ∷ 0 ∷ 0 ∷ []) ∷ [])
    ≡ Failed ENOENT ∷ Failed ENOTDIR ∷ Failed ENOTDIR ∷ Failed ENOTDIR ∷ Failed ENOENT ∷ Failed ENOTDIR ∷ Failed EACCES ∷
    Failed EACCES ∷ Failed EACCES ∷ Failed EACCES ∷ Value 8 ∷ []
open_walks = refl

-- others may not search /q, and root may search all directories
open_searches_by_ids : other_results Open ((codes "/q/v" ∷ [], 0 ∷ 0 ∷ 0 ∷ []) ∷ []) ++
    root_results Open ((codes "/q/v" ∷ [], 0 ∷ 0 ∷ 0 ∷ []) ∷ (codes "/z/k" ∷ [], 0 ∷ 0 ∷ 0 ∷ []) ∷ (
      codes "/p/x" ∷ [],
      0 ∷ 0 ∷
          0 ∷ [],
    ) ∷ [])
    ≡ Failed EACCES ∷ Value 8 ∷ Value 8 ∷ Value 8 ∷ []
open_searches_by_ids = refl

-- a name without an object: it isn't to be made, its directory may not be written, the tree is full, or it is made
open_missing : results_in full_world 1 user Open (
    (codes "/d/new" ∷ [], 0 ∷ 0 ∷ 0 ∷ []) ∷
    (codes "/d/new" ∷ [], 0 ∷ 0xc09 ∷ 0 ∷ []) ∷
    (codes "/w/new" ∷ [], 0 ∷ 0 ∷ 0 ∷ []) ∷
    (codes "/d/new" ∷ [], 0 ∷ 0x200 ∷ 0 ∷ []) ∷
    (codes "/q/new" ∷ [], 0 ∷ 0x200 ∷ 0 ∷ []) ∷
    (codes "/new" ∷ [], 0 ∷ 0x200 ∷ 0 ∷ []) ∷
    (codes "/w/new" ∷ [], 0 ∷ 0x200 ∷ 0 ∷ []) ∷
    (codes "/w/e" ∷ [], 0 ∷ 0x200 ∷ 0 ∷ []) ∷ []) ++
    results Open (
    (codes "/d/new" ∷ [], 0 ∷ 0 ∷ 0 ∷ []) ∷
    (codes "/d/new" ∷ [], 0 ∷ 0xa00 ∷ 0 ∷ []) ∷
    (codes "/s/new" ∷ [], 0 ∷ 0x200 ∷ 0 ∷ []) ∷
    (codes "/w/new" ∷ [], 0 ∷ 0x200 ∷ 0 ∷ []) ∷
    (codes "/w/n/new" ∷ [], 0 ∷ 0x200 ∷ 0 ∷ []) ∷ [])
    ≡ Failed ENOENT ∷ Failed ENOENT ∷ Failed ENOENT ∷ Failed EACCES ∷ Failed EACCES ∷ Failed EACCES ∷ Failed ENOSPC ∷ Value 8 ∷
    Failed ENOENT ∷ Failed EACCES ∷ Failed EACCES ∷ Value 8 ∷ Value 8 ∷ []
open_missing = refl

-- root may write every directory, including the root directory
open_missing_as_root : root_results Open (
    (codes "/new" ∷ [], 0 ∷ 0x200 ∷ 0 ∷ []) ∷
    (codes "/d/new" ∷ [], 0 ∷ 0x200 ∷ 0 ∷ []) ∷
    (codes "/z/new" ∷ [], 0 ∷ 0x200 ∷ 0 ∷ []) ∷
    (codes "/q/new" ∷ [], 0 ∷ 0 ∷ 0 ∷ []) ∷ [])
    ≡ Value 8 ∷ Value 8 ∷ Value 8 ∷ Failed ENOENT ∷ []
open_missing_as_root = refl

-- object 4,096 is the last that is made
open_makes_the_last : (made nearly_full_world 1 user Open (codes "/w/new" ∷ []) (0 ∷ 0x200 ∷ 420 ∷ [])).changes
    ≡ Made (components_of (codes "/w/new")) 4096 (kind.File []) 1000 1000 420 ∷ []
open_makes_the_last = refl

-- a name with an object: it should have been new, it is a directory, it may not be opened with this access
open_present : results Open (
    (codes "/p" ∷ [], 0 ∷ 0xa01 ∷ 0 ∷ []) ∷
    (codes "/w" ∷ [], 0 ∷ 0xa00 ∷ 0 ∷ []) ∷
    (codes "/d/f" ∷ [], 0 ∷ 0xa01 ∷ 0 ∷ []) ∷
    (codes "/w/e" ∷ [], 0 ∷ 0xe02 ∷ 0 ∷ []) ∷
    (codes "/w/l" ∷ [], 0 ∷ 0xa00 ∷ 0 ∷ []) ∷
    (codes "/p" ∷ [], 0 ∷ 1 ∷ 0 ∷ []) ∷
    (codes "/p" ∷ [], 0 ∷ 2 ∷ 0 ∷ []) ∷
    (codes "/p" ∷ [], 0 ∷ 0x400 ∷ 0 ∷ []) ∷
    (codes "/w" ∷ [], 0 ∷ 1 ∷ 0 ∷ []) ∷
    (codes "/w" ∷ [], 0 ∷ 2 ∷ 0 ∷ []) ∷
    (codes "/w" ∷ [], 0 ∷ 0x400 ∷ 0 ∷ []) ∷
    (codes "/p" ∷ [], 0 ∷ 0 ∷ 0 ∷ []) ∷
    (codes "/d/f" ∷ [], 0 ∷ 1 ∷ 0 ∷ []) ∷ [])
    ≡ Failed EEXIST ∷ Failed EEXIST ∷ Failed EEXIST ∷ Failed EEXIST ∷ Failed EEXIST ∷ Failed EISDIR ∷ Failed EISDIR ∷
    Failed EISDIR ∷
    Failed EISDIR ∷ Failed EISDIR ∷ Failed EISDIR ∷ Failed EACCES ∷ Failed EACCES ∷ []
open_present = refl

-- O_CREAT or O_EXCL alone, and a directory opened for reading, are no error
open_of_what_is_there : results Open (
    (codes "/d/f" ∷ [], 0 ∷ 0x200 ∷ 0 ∷ []) ∷
    (codes "/d/f" ∷ [], 0 ∷ 0x800 ∷ 0 ∷ []) ∷
    (codes "/d" ∷ [], 0 ∷ 0 ∷ 0 ∷ []) ∷
    (codes "/d" ∷ [], 0 ∷ 0x200 ∷ 0 ∷ []) ∷
    (codes "/d" ∷ [], 0 ∷ 8 ∷ 0 ∷ []) ∷
    (codes "/" ∷ [], 0 ∷ 0 ∷ 0 ∷ []) ∷ [])
    ≡ replicate 6 (Value 8)
open_of_what_is_there = refl

-- the ways to open a file: for reading, for writing, for both, and truncated for reading, for writing, for both
abbrev ways : List ℕ → List (List (List ℕ) × List ℕ)
ways name = map (λ flags. (name ∷ [], 0 ∷ flags ∷ 0 ∷ [])) (0 ∷ 1 ∷ 2 ∷ 0x400 ∷ 0x401 ∷ 0x402 ∷ [])

abbrev all_six : List CallResult
all_six = replicate 6 (Value 8)

abbrev none_of_six : List CallResult
none_of_six = replicate 6 (Failed EACCES)

-- a file with only read permission is opened for reading, and not truncated; a file with only write permission is opened for writing,
-- also truncated
abbrev read_alone : List CallResult
read_alone = Value 8 ∷ replicate 5 (Failed EACCES)

abbrev write_alone : List CallResult
write_alone = Failed EACCES ∷ Value 8 ∷ Failed EACCES ∷ Failed EACCES ∷ Value 8 ∷ Failed EACCES ∷ []

abbrev third_user : Ids
third_user = identity 3000 3000

-- only the owner's bits count for the owner, the group's for another member of the group, the others' for all others; root has every
-- access
open_by_owner : results Open (ways (codes "/s/owner")) ∷ other_results Open (ways (codes "/s/owner")) ∷
    results_for third_user Open (ways (codes "/s/owner")) ∷ root_results Open (ways (codes "/s/owner")) ∷ []
    ≡ none_of_six ∷ all_six ∷ all_six ∷ all_six ∷ []
open_by_owner = refl

open_by_group : results Open (ways (codes "/s/group")) ∷ other_results Open (ways (codes "/s/group")) ∷
    results_for third_user Open (ways (codes "/s/group")) ∷ root_results Open (ways (codes "/s/group")) ∷ []
    ≡ read_alone ∷ none_of_six ∷ none_of_six ∷ all_six ∷ []
open_by_group = refl

open_by_others : results Open (ways (codes "/s/others")) ∷ other_results Open (ways (codes "/s/others")) ∷
    results_for third_user Open (ways (codes "/s/others")) ∷ root_results Open (ways (codes "/s/others")) ∷ []
    ≡ write_alone ∷ write_alone ∷ write_alone ∷ all_six ∷ []
open_by_others = refl

open_of_owners_files : results Open (ways (codes "/s/keep")) ∷ other_results Open (ways (codes "/s/keep")) ∷
    results Open (ways (codes "/s/run")) ∷ results Open (ways (codes "/q/v")) ∷ results Open (ways (codes "/d/f")) ∷ []
    ≡ write_alone ∷ none_of_six ∷ none_of_six ∷ all_six ∷ read_alone ∷ []
open_of_owners_files = refl

-- both effective ids count, and the real ids don't: real user 1000 is the owner, who has no access
open_by_effective_ids : results_for mixed Open (ways (codes "/s/owner")) ∷
    results_for (record third_user { egid = 1000 }) Open (ways (codes "/s/group")) ∷
    results_for (record third_user { rgid = 1000 }) Open (ways (codes "/s/group")) ∷
    results_for (record third_user { ruid = 0 }) Open (ways (codes "/s/group")) ∷
    results_for (record third_user { euid = 0 }) Open (ways (codes "/s/group")) ∷ []
    ≡ all_six ∷ read_alone ∷ none_of_six ∷ none_of_six ∷ all_six ∷ []
open_by_effective_ids = refl

abbrev with_team : Tree → List ℕ → Kind → ℕ → Tree
with_team tree name kind mode =
    add_object tree (components_of name) (record { kind = kind; uid = 5; gid = 1000; mode = mode; content = [] })

-- the world with a file that only its group may write, a directory that only its group may search, with a file in it that all may open,
-- and a directory that all but its owner may search and only its group may write
abbrev team_world : System
team_world =
    let writable = with_team world.tree (codes "/w/team") object_kind.File 16 in
    let searchable = with_team (with_team writable (codes "/team") object_kind.Dir 8) (codes "/team/f") object_kind.File 511 in
    record world { tree = with_team searchable (codes "/club") object_kind.Dir 25 }

-- the user is in the group; another user is in it by the effective group and not by the real group
abbrev of_group : List (List (List ℕ) × List ℕ) → List (List CallResult)
of_group tries = map (λ ids. results_in team_world 1 ids Open tries)
    (user ∷ third_user ∷ record third_user { egid = 1000 } ∷ record third_user { rgid = 1000 } ∷ root ∷ [])

open_by_effective_group : of_group (ways (codes "/w/team")) ≡ write_alone ∷ none_of_six ∷ write_alone ∷ none_of_six ∷ all_six ∷ []
open_by_effective_group = refl

walk_and_make_by_effective_group :
    of_group ((codes "/team/f" ∷ [], 0 ∷ 0 ∷ 0 ∷ []) ∷ (codes "/club/new" ∷ [], 0 ∷ 0x200 ∷ 0 ∷ []) ∷ [])
    ≡ (Value 8 ∷ Value 8 ∷ []) ∷ (Failed EACCES ∷ Failed EACCES ∷ []) ∷ (Value 8 ∷ Value 8 ∷ []) ∷
    (Failed EACCES ∷ Failed EACCES ∷ []) ∷ (Value 8 ∷ Value 8 ∷ []) ∷ []
walk_and_make_by_effective_group = refl

-- the open file that a call of the user with these flags opens
abbrev files_of : List ℕ → List ℕ → List (List OpenFile)
files_of name tries = map (λ flags. drop 10 (made world 1 user Open (name ∷ []) (0 ∷ flags ∷ 0 ∷ [])).descriptors.files) tries

abbrev of_v : Bool → Bool → Bool → List OpenFile
of_v read write append = file_for read write append 0 (file.Node 21) ∷ []

-- open for reading, for writing, for both, each without and with append
open_accesses : files_of (codes "/q/v") (0 ∷ 1 ∷ 2 ∷ 8 ∷ 9 ∷ 10 ∷ [])
    ≡ of_v true false false ∷ of_v false true false ∷ of_v true true false ∷ of_v true false true ∷ of_v false true true ∷
    of_v true true true ∷ []
open_accesses = refl

-- O_CREAT, O_TRUNC, O_EXCL, some of them together, and every other bit don't change the access; the last line has all bits but those
-- of the access and O_EXCL, so that it appends
open_other_flags : files_of (codes "/q/v") (0x200 ∷ 0x400 ∷ 0x800 ∷ 0x601 ∷ 0xc02 ∷ 0x609 ∷ 4 ∷ 0x10 ∷ 0x100 ∷ 0x1000 ∷
    (2 ^ 64 - 0x804) ∷ [])
    ≡ of_v true false false ∷ of_v true false false ∷ of_v true false false ∷ of_v false true false ∷ of_v true true false ∷
    of_v false true true ∷ of_v true false false ∷ of_v true false false ∷ of_v true false false ∷ of_v true false false ∷
    of_v true false true ∷ []
open_other_flags = refl

-- an existing file: the least free descriptor refers to a new open file at offset 0; no other descriptor or open file changes
open_gives : made world 1 user Open (codes "/d/f" ∷ []) (0 ∷ 0 ∷ 0 ∷ [])
    ≡ done 8 [] (table_with (led_to 8 (Some 10)) (with_new (file_for true false false 0 (file.Node 3))))
open_gives = refl

-- a directory, and a file by another of its names
open_gives_objects : (made world 1 root Open (codes "/p" ∷ []) (0 ∷ 0 ∷ [])).descriptors ∷
    (made world 1 user Open (codes "/w/h" ∷ []) (0 ∷ 2 ∷ [])).descriptors ∷ []
    ≡ table_with (led_to 8 (Some 10)) (with_new (file_for true false false 0 (file.Node 4))) ∷
    table_with (led_to 8 (Some 10)) (with_new (file_for true true false 0 (file.Node 7))) ∷ []
open_gives_objects = refl

abbrev open_v : SysCall × List (List ℕ) × List ℕ
open_v = (Open, codes "/q/v" ∷ [], 0 ∷ 0 ∷ 0 ∷ [])

abbrev reader_of_v : OpenFile
reader_of_v = file_for true false false 0 (file.Node 21)

-- the next open gets the next free descriptor, and an open file of its own
open_twice : (after_calls world (open_v ∷ open_v ∷ [])).descriptors
    ≡ table_with (take 11 (led_to 8 (Some 10)) ++ Some 11 ∷ replicate 52 None) (with_new reader_of_v ++ reader_of_v ∷ [])
open_twice = refl

-- a descriptor that was closed is used again
open_after_close : (after_calls world ((Close, [], 2 ∷ []) ∷ open_v ∷ [])).descriptors
    ≡ table_with (led_to 2 (Some 10)) (with_new reader_of_v)
open_after_close = refl

-- process 3 has its own descriptors
open_of_another_process : made world 3 user Open (codes "/q/v" ∷ []) (0 ∷ 1 ∷ 0 ∷ [])
    ≡ done 3 [] (record {
      processes = take 2 descriptors.processes ++ (3, Some 0 ∷ Some 1 ∷ Some 9 ∷ Some 10 ∷ replicate 60 None) ∷ [];
      files = with_new (file_for false true false 0 (file.Node 21));
    })
open_of_another_process = refl

-- a new file: the change, and the open file of a new object
open_makes : made world 1 user Open (codes "/w/new" ∷ []) (0 ∷ 0x202 ∷ 420 ∷ [])
    ≡ done 8 (Made (components_of (codes "/w/new")) 26 (kind.File []) 1000 1000 420 ∷ [])
    (table_with (led_to 8 (Some 10)) (with_new (file_for true true false 0 (file.Node 26))))
open_makes = refl

-- a new file isn't truncated, its own mode needn't permit the access, and O_EXCL may be set
open_makes_by_flags : changes Open (codes "/w/new" ∷ []) (0 ∷ 0x601 ∷ 0 ∷ []) ∷ changes Open (codes "/w/new" ∷ []) (0 ∷ 0xe0a ∷
    0 ∷ []) ∷
    changes Open (codes "/w/new" ∷ []) (0 ∷ 0x200 ∷ 0 ∷ []) ∷ []
    ≡ replicate 3 (Made (components_of (codes "/w/new")) 26 (kind.File []) 1000 1000 0 ∷ [])
open_makes_by_flags = refl

-- a mode keeps its low nine bits
open_keeps_nine_bits : map (λ mode. changes Open (codes "/w/new" ∷ []) (0 ∷ 0x200 ∷ mode ∷ [])) (511 ∷ 512 ∷ 4095 ∷
    (2 ^ 64 - 1) ∷ 2468 ∷ [])
    ≡ map (λ mode. Made (components_of (codes "/w/new")) 26 (kind.File []) 1000 1000 mode ∷ []) (511 ∷ 0 ∷ 511 ∷ 511 ∷ 420 ∷ [])
open_keeps_nine_bits = refl

-- a new file belongs to the effective ids
open_makes_for_effective_ids : (made world 1 mixed Open (codes "/w/new" ∷ []) (0 ∷ 0x200 ∷ 420 ∷ [])).changes
    ≡ Made (components_of (codes "/w/new")) 26 (kind.File []) 2000 4000 420 ∷ []
open_makes_for_effective_ids = refl

-- an existing file is truncated exactly with O_TRUNC, even if it is already empty; O_CREAT makes no difference
open_cuts : map (λ flags. changes Open (codes "/q/v" ∷ []) (0 ∷ flags ∷ 0 ∷ [])) (0 ∷ 1 ∷ 2 ∷ 0x200 ∷ 0x808 ∷ 0x400 ∷ 0x401 ∷
    0x602 ∷ 0xc09 ∷ [])
    ≡ [] ∷ [] ∷ [] ∷ [] ∷ [] ∷ (Cut 21 0 ∷ []) ∷ (Cut 21 0 ∷ []) ∷ (Cut 21 0 ∷ []) ∷ (Cut 21 0 ∷ []) ∷ []
open_cuts = refl

open_cuts_empty : changes Open (codes "/w/e" ∷ []) (0 ∷ 0x601 ∷ 511 ∷ []) ≡ Cut 7 0 ∷ []
open_cuts_empty = refl

-- a refused open changes nothing
open_refused_changes_nothing : made world 1 user Open (codes "/d/f" ∷ []) (0 ∷ 0x401 ∷ 0 ∷ []) ∷
    made full_world 1 user Open (codes "/w/new" ∷ []) (0 ∷ 0x200 ∷ 0 ∷ []) ∷
    made world 1 user Open (codes "/w/l" ∷ []) (0 ∷ 0xa00 ∷ 0 ∷ []) ∷ [] ≡ failed EACCES ∷ failed ENOSPC ∷ failed EEXIST ∷ []
open_refused_changes_nothing = refl

-- a file of the user is opened with these flags, then read or written
abbrev opened_so : ℕ → System
opened_so flags = after_calls world ((Open, codes "/q/v" ∷ [], 0 ∷ flags ∷ 0 ∷ []) ∷ [])

abbrev read_after : ℕ → CallResult
read_after flags = (made (opened_so flags) 1 user Read [] (8 ∷ 8 ∷ 2 ∷ [])).result

abbrev write_after : ℕ → CallResult
write_after flags = (made (opened_so flags) 1 user Write [] (8 ∷ 8 ∷ 2 ∷ [])).result

-- the file isn't open for the other access, although the user has permission for both
open_for_one_access : map read_after (0 ∷ 1 ∷ 2 ∷ []) ++ map write_after (0 ∷ 1 ∷ 2 ∷ [])
    ≡ Value 1 ∷ Failed EBADF ∷ Value 1 ∷ Failed EBADF ∷ Value 2 ∷ Value 2 ∷ []
open_for_one_access = refl
