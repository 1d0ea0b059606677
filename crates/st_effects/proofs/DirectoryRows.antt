-- Examples of calls on directories: mkdir, rmdir and chdir.
use Rattle.std.proofs.Common.{◌≡◌, [], ◌∷◌, refl, codes, map, Some, None}
use Rattle.std.specs.Prelude.{◌^◌, ◌-◌}
use Rattle.st_base.specs.declared.errno.Errno.TheVariants.{ENOENT, EACCES, EEXIST, ENOTDIR, EINVAL, ENOSPC, ENOTEMPTY}
use Rattle.st_calls.specs.declared.call.SysCall.TheVariants.{Mkdir, Rmdir, Chdir}
use Rattle.st_names.specs.Name.{components_of}
use Rattle.st_model.specs.Tree.{node_of, object_of, size_of}
use Rattle.st_model.specs.declared.object.Kind.TheVariants as object_kind
use Rattle.st_effects.specs.Changes.{process_after}
use Rattle.st_trace.specs.declared.entry.Change.TheVariants.{Made, Removed, Cwd}
use Rattle.st_model.specs.declared.object.NewKind.TheVariants as kind
use Rattle.st_effects.proofs.Tries.{Answer, refused, gives, tree_by, with_mode}
use Rattle.st_effects.proofs.World.{world, full_world, nearly_full_world, user, other_user, root, mixed, changes}

-- the walk is tested first, then whether the name has an object, then whether its directory may be written
mkdir_in_order : Answer world user Mkdir (
    refused "/no/y" (493 ∷ []) ENOENT ∷
    refused "/d/f/y" (493 ∷ []) ENOTDIR ∷
    refused "/p/y" (493 ∷ []) EACCES ∷
    refused "/p/x" (493 ∷ []) EACCES ∷
    refused "/z/k" (493 ∷ []) EACCES ∷
    refused "/d/f" (493 ∷ []) EEXIST ∷
    refused "/d" (493 ∷ []) EEXIST ∷
    refused "/w/e" (493 ∷ []) EEXIST ∷
    refused "/w/r" (493 ∷ []) EEXIST ∷
    refused "/w/l" (493 ∷ []) EEXIST ∷
    refused "/" (493 ∷ []) EEXIST ∷
    refused "/d/y" (493 ∷ []) EACCES ∷
    refused "/q/y" (493 ∷ []) EACCES ∷
    refused "/y" (493 ∷ []) EACCES ∷ [])
mkdir_in_order = refl

-- the last test is whether the tree is full
mkdir_in_a_full_tree : Answer full_world user Mkdir (
    refused "/no/y" (493 ∷ []) ENOENT ∷
    refused "/w/e" (493 ∷ []) EEXIST ∷
    refused "/d/y" (493 ∷ []) EACCES ∷
    refused "/w/y" (493 ∷ []) ENOSPC ∷ [])
mkdir_in_a_full_tree = refl

mkdir_in_a_nearly_full_tree : Answer nearly_full_world user Mkdir (
    gives "/w/y" (493 ∷ []) 0 (Made (components_of (codes "/w/y")) 4096 kind.Dir 1000 1000 493 ∷ []) ∷ [])
mkdir_in_a_nearly_full_tree = refl

-- a mode keeps its low nine bits
mkdir_modes : Answer world user Mkdir (
    gives "/w/y" (493 ∷ []) 0 (Made (components_of (codes "/w/y")) 26 kind.Dir 1000 1000 493 ∷ []) ∷
    gives "/w/y" (0 ∷ []) 0 (Made (components_of (codes "/w/y")) 26 kind.Dir 1000 1000 0 ∷ []) ∷
    gives "/w/y" (511 ∷ []) 0 (Made (components_of (codes "/w/y")) 26 kind.Dir 1000 1000 511 ∷ []) ∷
    gives "/w/y" (512 ∷ []) 0 (Made (components_of (codes "/w/y")) 26 kind.Dir 1000 1000 0 ∷ []) ∷
    gives "/w/y" (1005 ∷ []) 0 (Made (components_of (codes "/w/y")) 26 kind.Dir 1000 1000 493 ∷ []) ∷
    gives "/w/y" ((2 ^ 64 - 1) ∷ []) 0 (Made (components_of (codes "/w/y")) 26 kind.Dir 1000 1000 511 ∷ []) ∷
    gives "/w/n/y" (448 ∷ []) 0 (Made (components_of (codes "/w/n/y")) 26 kind.Dir 1000 1000 448 ∷ []) ∷ [])
mkdir_modes = refl

-- the directory belongs to the effective ids
mkdir_owner : Answer world mixed Mkdir (
    gives "/w/y" (493 ∷ []) 0 (Made (components_of (codes "/w/y")) 26 kind.Dir 2000 4000 493 ∷ []) ∷ [])
mkdir_owner = refl

mkdir_by_root : Answer world root Mkdir (
    refused "/p/x" (493 ∷ []) EEXIST ∷
    gives "/y" (493 ∷ []) 0 (Made (components_of (codes "/y")) 26 kind.Dir 0 0 493 ∷ []) ∷
    gives "/q/y" (493 ∷ []) 0 (Made (components_of (codes "/q/y")) 26 kind.Dir 0 0 493 ∷ []) ∷ [])
mkdir_by_root = refl

-- the new directory is empty, and its parent has one more entry
directory_made : node_of (tree_by mixed Mkdir ("/w/n/y" ∷ []) (24 ∷ 448 ∷ [])) (components_of (codes "/w/n/y")) ≡
    Some (record { kind = object_kind.Dir; uid = 2000; gid = 4000; mode = 448; content = [] })
directory_made = refl

sizes_with_the_directory : map (size_of (tree_by root Mkdir ("/w/n/y" ∷ []) (24 ∷ 448 ∷ []))) (26 ∷ 10 ∷ 6 ∷ []) ≡ 0 ∷ 2 ∷ 5 ∷ []
sizes_with_the_directory = refl

-- the tests in order: the root, the walk, a missing name, an object that is no directory, the directory above it, and its entries
rmdir_in_order : Answer world user Rmdir (
    refused "/" [] EINVAL ∷
    refused "/no/x" [] ENOENT ∷
    refused "/d/f/x" [] ENOTDIR ∷
    refused "/p/x" [] EACCES ∷
    refused "/p/y" [] EACCES ∷
    refused "/z/k" [] EACCES ∷
    refused "/d/x" [] ENOENT ∷
    refused "/w/x" [] ENOENT ∷
    refused "/d/f" [] ENOTDIR ∷
    refused "/d/l" [] ENOTDIR ∷
    refused "/w/e" [] ENOTDIR ∷
    refused "/w/l" [] ENOTDIR ∷
    refused "/w/n/c" [] ENOTDIR ∷
    refused "/q/u" [] EACCES ∷
    refused "/d" [] EACCES ∷
    refused "/q/t" [] EACCES ∷
    refused "/w/n" [] ENOTEMPTY ∷
    gives "/w/r" [] 0 (Removed (components_of (codes "/w/r")) ∷ []) ∷ [])
rmdir_in_order = refl

-- the directory's owner and its own mode don't matter
rmdir_by_another_user : Answer (with_mode 9 0) other_user Rmdir (
    gives "/w/r" [] 0 (Removed (components_of (codes "/w/r")) ∷ []) ∷
    refused "/q/t" [] EACCES ∷ [])
rmdir_by_another_user = refl

rmdir_by_root : Answer world root Rmdir (
    refused "/" [] EINVAL ∷
    refused "/d" [] ENOTEMPTY ∷
    refused "/q/u" [] ENOTEMPTY ∷
    refused "/p/x" [] ENOTDIR ∷
    refused "/p/y" [] ENOENT ∷
    gives "/q/t" [] 0 (Removed (components_of (codes "/q/t")) ∷ []) ∷ [])
rmdir_by_root = refl

directory_removed : map (λ name. object_of (tree_by root Rmdir ("/w/r" ∷ []) (24 ∷ [])) (components_of name)) (codes "/w/r" ∷ codes "/w" ∷ codes "/w/n" ∷ []) ≡
    None ∷ Some 6 ∷ Some 10 ∷ []
directory_removed = refl

-- the tests in order: the walk, a missing name, an object that is no directory, search permission
chdir_in_order : Answer world user Chdir (
    refused "/no/x" [] ENOENT ∷
    refused "/d/f/x" [] ENOTDIR ∷
    refused "/p/x" [] EACCES ∷
    refused "/p/y" [] EACCES ∷
    refused "/d/x" [] ENOENT ∷
    refused "/no" [] ENOENT ∷
    refused "/d/f" [] ENOTDIR ∷
    refused "/s/keep" [] ENOTDIR ∷
    refused "/w/e" [] ENOTDIR ∷
    refused "/w/l" [] ENOTDIR ∷
    refused "/p" [] EACCES ∷
    refused "/z" [] EACCES ∷ [])
chdir_in_order = refl

-- search permission is enough: neither read nor write permission is needed
chdir_moves : Answer world user Chdir (
    gives "/" [] 0 (Cwd [] ∷ []) ∷
    gives "/d" [] 0 (Cwd (components_of (codes "/d")) ∷ []) ∷
    gives "/s" [] 0 (Cwd (components_of (codes "/s")) ∷ []) ∷
    gives "/q" [] 0 (Cwd (components_of (codes "/q")) ∷ []) ∷
    gives "/q/u" [] 0 (Cwd (components_of (codes "/q/u")) ∷ []) ∷ [])
chdir_moves = refl

chdir_of_another_user : Answer world other_user Chdir (
    refused "/q" [] EACCES ∷
    refused "/q/u" [] EACCES ∷
    refused "/z" [] EACCES ∷
    gives "/w/r" [] 0 (Cwd (components_of (codes "/w/r")) ∷ []) ∷ [])
chdir_of_another_user = refl

-- the group's bits decide for members of the directory's group, here in mode 010, and the owner's bits for the owner
chdir_of_a_member : Answer (with_mode 18 8) (record other_user { egid = 1000 }) Chdir (
    gives "/z" [] 0 (Cwd (components_of (codes "/z")) ∷ []) ∷ [])
chdir_of_a_member = refl

chdir_of_the_owner : Answer (with_mode 18 8) user Chdir (refused "/z" [] EACCES ∷ [])
chdir_of_the_owner = refl

chdir_of_root : Answer world root Chdir (
    gives "/p" [] 0 (Cwd (components_of (codes "/p")) ∷ []) ∷
    gives "/z" [] 0 (Cwd (components_of (codes "/z")) ∷ []) ∷
    refused "/z/k" [] ENOTDIR ∷ [])
chdir_of_root = refl

-- the process has the new directory, and no other process changes
directories_after : map (λ pid. (process_after world.processes 1 pid (changes Chdir (codes "/q/u" ∷ []) (24 ∷ []))).cwd) (1 ∷ 3 ∷ []) ≡
    components_of (codes "/q/u") ∷ components_of (codes "/w") ∷ []
directories_after = refl
