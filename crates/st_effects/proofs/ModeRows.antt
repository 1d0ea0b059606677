-- Examples of calls that change an object: chmod, chown and truncate.
use Rattle.std.proofs.Common.{◌≡◌, [], ◌∷◌, ◌++◌, refl, codes, map, Some}
use Rattle.std.specs.Prelude.{◌^◌, ◌-◌}
use Rattle.st_base.specs.declared.errno.Errno.TheVariants.{EPERM, ENOENT, EACCES, ENOTDIR, EISDIR, EINVAL}
use Rattle.st_calls.specs.declared.call.SysCall.TheVariants.{Chmod, Chown, Truncate}
use Rattle.st_names.specs.Name.{components_of}
use Rattle.st_model.specs.Tree.{node_of}
use Rattle.st_model.specs.declared.object.Kind.TheVariants as object_kind
use Rattle.st_trace.specs.declared.entry.Change.TheVariants.{Moded, Owned, Cut}
use Rattle.st_effects.proofs.Tries.{Answer, refused, gives, tree_by, with_mode}
use Rattle.st_effects.proofs.World.{world, user, other_user, root, mixed}

-- the tests in order: the walk, a missing name, a user who is neither the owner nor root; write permission or membership in the group
-- isn't enough
chmod_in_order : Answer world user Chmod (
    refused "/no/x" (0 ∷ []) ENOENT ∷
    refused "/d/f/x" (0 ∷ []) ENOTDIR ∷
    refused "/p/x" (0 ∷ []) EACCES ∷
    refused "/p/y" (0 ∷ []) EACCES ∷
    refused "/z/k" (0 ∷ []) EACCES ∷
    refused "/d/x" (0 ∷ []) ENOENT ∷
    refused "/w/x" (0 ∷ []) ENOENT ∷
    refused "/d/f" (420 ∷ []) EPERM ∷
    refused "/w" (511 ∷ []) EPERM ∷
    refused "/" (493 ∷ []) EPERM ∷
    refused "/s/others" (2 ∷ []) EPERM ∷
    refused "/s/group" (32 ∷ []) EPERM ∷
    refused "/s/run" (0 ∷ []) EPERM ∷ [])
chmod_in_order = refl

-- the owner may set the mode, whatever the mode is; a mode keeps its low nine bits
chmod_of_the_owner : Answer world user Chmod (
    gives "/w/e" (493 ∷ []) 0 (Moded 7 493 ∷ []) ∷
    gives "/w/h" (0 ∷ []) 0 (Moded 7 0 ∷ []) ∷
    gives "/w/e" (511 ∷ []) 0 (Moded 7 511 ∷ []) ∷
    gives "/w/e" (512 ∷ []) 0 (Moded 7 0 ∷ []) ∷
    gives "/w/e" (2541 ∷ []) 0 (Moded 7 493 ∷ []) ∷
    gives "/w/e" ((2 ^ 64 - 1) ∷ []) 0 (Moded 7 511 ∷ []) ∷
    gives "/s/owner" (448 ∷ []) 0 (Moded 13 448 ∷ []) ∷
    gives "/q/v" (63 ∷ []) 0 (Moded 21 63 ∷ []) ∷
    gives "/z" (448 ∷ []) 0 (Moded 18 448 ∷ []) ∷
    gives "/w/l" (1 ∷ []) 0 (Moded 8 1 ∷ []) ∷ [])
chmod_of_the_owner = refl

chmod_by_root : Answer world root Chmod (
    refused "/p/y" (0 ∷ []) ENOENT ∷
    gives "/d/f" (1 ∷ []) 0 (Moded 3 1 ∷ []) ∷
    gives "/" (511 ∷ []) 0 (Moded 1 511 ∷ []) ∷
    gives "/z/k" (4 ∷ []) 0 (Moded 19 4 ∷ []) ∷ [])
chmod_by_root = refl

-- the effective user counts, not the real one
chmod_by_the_effective_user : Answer world mixed Chmod (
    refused "/s/keep" (0 ∷ []) EPERM ∷
    gives "/s/group" (0 ∷ []) 0 (Moded 14 0 ∷ []) ∷ [])
chmod_by_the_effective_user = refl

chmod_as_root : Answer world (record user { euid = 0 }) Chmod (gives "/d/f" (0 ∷ []) 0 (Moded 3 0 ∷ []) ∷ [])
chmod_as_root = refl

chmod_of_root_as_another : Answer world (record root { euid = 1000 }) Chmod (
    refused "/d/f" (0 ∷ []) EPERM ∷
    gives "/s/keep" (0 ∷ []) 0 (Moded 17 0 ∷ []) ∷ [])
chmod_of_root_as_another = refl

-- the object has the mode under both its names, and nothing else changes; the same for another object
modes_after : map (λ name. node_of (tree_by user Chmod ("/w/e" ∷ []) (24 ∷ 932 ∷ [])) (components_of name)) (codes "/w/e" ∷ codes "/w/h" ∷ codes "/w/n/c" ∷ []) ≡
    Some (record { kind = object_kind.File; uid = 1000; gid = 1000; mode = 420; content = [] }) ∷
    Some (record { kind = object_kind.File; uid = 1000; gid = 1000; mode = 420; content = [] }) ∷
    Some (record { kind = object_kind.File; uid = 1000; gid = 1000; mode = 493; content = codes "code" }) ∷ []
modes_after = refl

-- the tests in order: an id that is too large, the walk, a missing name, any user but root, the owner included
chown_in_order : Answer world user Chown (
    refused "/no/x" (2 ^ 32 ∷ 0 ∷ []) EINVAL ∷
    refused "/no/x" (0 ∷ 2 ^ 32 ∷ []) EINVAL ∷
    refused "/p/x" (2 ^ 32 ∷ 2 ^ 32 ∷ []) EINVAL ∷
    refused "/d/f/x" ((2 ^ 64 - 1) ∷ 0 ∷ []) EINVAL ∷
    refused "/d/x" (0 ∷ (2 ^ 64 - 1) ∷ []) EINVAL ∷
    refused "/w/e" (2 ^ 32 ∷ 0 ∷ []) EINVAL ∷
    refused "/no/x" (0 ∷ 0 ∷ []) ENOENT ∷
    refused "/d/f/x" (0 ∷ 0 ∷ []) ENOTDIR ∷
    refused "/p/x" (0 ∷ 0 ∷ []) EACCES ∷
    refused "/p/y" (0 ∷ 0 ∷ []) EACCES ∷
    refused "/z/k" (0 ∷ 0 ∷ []) EACCES ∷
    refused "/d/x" (0 ∷ 0 ∷ []) ENOENT ∷
    refused "/w/x" (0 ∷ 0 ∷ []) ENOENT ∷
    refused "/d/f" (0 ∷ 0 ∷ []) EPERM ∷
    refused "/w/e" (5 ∷ 6 ∷ []) EPERM ∷
    refused "/w/e" (1000 ∷ 1000 ∷ []) EPERM ∷
    refused "/" (0 ∷ 0 ∷ []) EPERM ∷ [])
chown_in_order = refl

chown_by_root : Answer world root Chown (
    refused "/w/e" (2 ^ 32 ∷ 0 ∷ []) EINVAL ∷
    refused "/w/e" (0 ∷ 2 ^ 32 ∷ []) EINVAL ∷
    refused "/p/y" (0 ∷ 0 ∷ []) ENOENT ∷
    refused "/p/x/y" (0 ∷ 0 ∷ []) ENOTDIR ∷
    gives "/w/e" ((2 ^ 32 - 1) ∷ (2 ^ 32 - 1) ∷ []) 0 (Owned 7 (2 ^ 32 - 1) (2 ^ 32 - 1) ∷ []) ∷
    gives "/w/h" (5 ∷ 6 ∷ []) 0 (Owned 7 5 6 ∷ []) ∷
    gives "/z/k" (1000 ∷ 1000 ∷ []) 0 (Owned 19 1000 1000 ∷ []) ∷
    gives "/w/l" (5 ∷ 6 ∷ []) 0 (Owned 8 5 6 ∷ []) ∷
    gives "/" (5 ∷ 6 ∷ []) 0 (Owned 1 5 6 ∷ []) ∷ [])
chown_by_root = refl

-- the effective user counts, not the real one, and the group doesn't
chown_as_root : Answer world (record user { euid = 0 }) Chown (gives "/d/f" (5 ∷ 6 ∷ []) 0 (Owned 3 5 6 ∷ []) ∷ [])
chown_as_root = refl

chown_of_root_as_another : Answer world (record root { euid = 1000 }) Chown (refused "/w/e" (5 ∷ 6 ∷ []) EPERM ∷ [])
chown_of_root_as_another = refl

owners_after : map (λ name. node_of (tree_by root Chown ("/w/n/c" ∷ []) (24 ∷ 5 ∷ 6 ∷ [])) (components_of name)) (codes "/w/n/c" ∷ codes "/w/e" ∷ []) ≡
    Some (record { kind = object_kind.File; uid = 5; gid = 6; mode = 493; content = codes "code" }) ∷
    Some (record { kind = object_kind.File; uid = 1000; gid = 1000; mode = 493; content = [] }) ∷ []
owners_after = refl

-- the tests in order: the length, the walk, a missing name, a directory, a file that may not be written
truncate_in_order : Answer world user Truncate (
    refused "/no/x" (65537 ∷ []) EINVAL ∷
    refused "/d/f/x" (65537 ∷ []) EINVAL ∷
    refused "/p/x" (65537 ∷ []) EINVAL ∷
    refused "/d/x" (65537 ∷ []) EINVAL ∷
    refused "/d" (65537 ∷ []) EINVAL ∷
    refused "/d/f" (65537 ∷ []) EINVAL ∷
    refused "/w/e" (65537 ∷ []) EINVAL ∷
    refused "/w/e" ((2 ^ 64 - 1) ∷ []) EINVAL ∷
    refused "/no/x" (9 ∷ []) ENOENT ∷
    refused "/d/f/x" (9 ∷ []) ENOTDIR ∷
    refused "/p/x" (9 ∷ []) EACCES ∷
    refused "/p/y" (9 ∷ []) EACCES ∷
    refused "/z/k" (9 ∷ []) EACCES ∷
    refused "/d/x" (9 ∷ []) ENOENT ∷
    refused "/w/x" (9 ∷ []) ENOENT ∷
    refused "/d" (9 ∷ []) EISDIR ∷
    refused "/w" (0 ∷ []) EISDIR ∷
    refused "/" (0 ∷ []) EISDIR ∷
    refused "/d/f" (9 ∷ []) EACCES ∷ [])
truncate_in_order = refl

-- write permission on the file is needed, and none on its directory; the new length may be the present one
truncate_cuts : Answer world user Truncate (
    refused "/s/owner" (0 ∷ []) EACCES ∷
    refused "/s/group" (0 ∷ []) EACCES ∷
    refused "/s/run" (0 ∷ []) EACCES ∷
    gives "/s/keep" (2 ∷ []) 0 (Cut 17 2 ∷ []) ∷
    gives "/s/others" (3 ∷ []) 0 (Cut 15 3 ∷ []) ∷
    gives "/q/v" (0 ∷ []) 0 (Cut 21 0 ∷ []) ∷
    gives "/w/e" (65536 ∷ []) 0 (Cut 7 65536 ∷ []) ∷
    gives "/w/h" (0 ∷ []) 0 (Cut 7 0 ∷ []) ∷ [])
truncate_cuts = refl

truncate_by_root : Answer world root Truncate (
    refused "/d" (0 ∷ []) EISDIR ∷
    refused "/d/f" (65537 ∷ []) EINVAL ∷
    gives "/d/f" (1 ∷ []) 0 (Cut 3 1 ∷ []) ∷
    gives "/s/run" (65536 ∷ []) 0 (Cut 16 65536 ∷ []) ∷ [])
truncate_by_root = refl

-- the effective user counts: with mode 022 others and the group may write, and the owner may not
truncate_by_the_effective_user : Answer (with_mode 17 18) mixed Truncate (gives "/s/keep" (0 ∷ []) 0 (Cut 17 0 ∷ []) ∷ [])
truncate_by_the_effective_user = refl

truncate_of_the_owner : Answer (with_mode 17 18) user Truncate (refused "/s/keep" (0 ∷ []) EACCES ∷ [])
truncate_of_the_owner = refl

truncate_by_another_user : Answer world other_user Truncate (
    refused "/s/keep" (0 ∷ []) EACCES ∷
    refused "/s/group" (0 ∷ []) EACCES ∷
    gives "/s/others" (0 ∷ []) 0 (Cut 15 0 ∷ []) ∷ [])
truncate_by_another_user = refl

-- the first bytes stay; an extension is zeros
lengths_after : map (λ len. node_of (tree_by root Truncate ("/s/keep" ∷ []) (24 ∷ len ∷ [])) (components_of (codes "/s/keep"))) (0 ∷ 2 ∷ 5 ∷ 7 ∷ []) ≡
    Some (record { kind = object_kind.File; uid = 1000; gid = 1000; mode = 128; content = [] }) ∷
    Some (record { kind = object_kind.File; uid = 1000; gid = 1000; mode = 128; content = codes "55" }) ∷
    Some (record { kind = object_kind.File; uid = 1000; gid = 1000; mode = 128; content = codes "55555" }) ∷
    Some (record { kind = object_kind.File; uid = 1000; gid = 1000; mode = 128; content = codes "55555" ++ (0 ∷ 0 ∷ []) }) ∷ []
lengths_after = refl
