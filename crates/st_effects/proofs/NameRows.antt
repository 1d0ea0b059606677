-- Examples of calls that add, rename and remove names: unlink, link, symlink and rename.
use Rattle.std.proofs.Common.{◌≡◌, [], ◌∷◌, refl, codes, map, Some, None}
use Rattle.st_base.specs.declared.errno.Errno.TheVariants.{EPERM, ENOENT, EACCES, EEXIST, ENOTDIR, EISDIR, EINVAL, ENOSPC, ENOTEMPTY}
use Rattle.st_calls.specs.declared.call.SysCall.TheVariants.{Unlink, Link, Symlink, Rename}
use Rattle.st_names.specs.Name.{components_of}
use Rattle.st_model.specs.Tree.{add_object, node_of, object_of, root_node}
use Rattle.st_effects.specs.System.{System}
use Rattle.st_trace.specs.declared.entry.Change.TheVariants.{Made, Linked, Removed, Renamed}
use Rattle.st_model.specs.declared.object.Kind.TheVariants as object_kind
use Rattle.st_model.specs.declared.object.NewKind.TheVariants as kind
use Rattle.st_effects.proofs.Tries.{Answer, refused, gives, refused_both, gives_both, tree_by}
use Rattle.st_effects.proofs.World.{world, full_world, nearly_full_world, user, other_user, root, mixed}

-- the tests in order: the walk, a missing name, the name's directory that may not be written, an object that is a directory
unlink_in_order : Answer world user Unlink (
    refused "/no/x" [] ENOENT ∷
    refused "/d/f/x" [] ENOTDIR ∷
    refused "/p/x" [] EACCES ∷
    refused "/p/y" [] EACCES ∷
    refused "/z/k" [] EACCES ∷
    refused "/d/x" [] ENOENT ∷
    refused "/w/x" [] ENOENT ∷
    refused "/q/t" [] EACCES ∷
    refused "/d" [] EACCES ∷
    refused "/d/f" [] EACCES ∷
    refused "/q/v" [] EACCES ∷
    refused "/w/n" [] EPERM ∷
    refused "/w/r" [] EPERM ∷
    refused "/" [] EPERM ∷ [])
unlink_in_order = refl

-- the object's owner doesn't matter, and a link itself is removed
unlink_by_another_user : Answer world other_user Unlink (
    gives "/w/e" [] 0 (Removed (components_of (codes "/w/e")) ∷ []) ∷
    gives "/w/l" [] 0 (Removed (components_of (codes "/w/l")) ∷ []) ∷
    gives "/w/n/c" [] 0 (Removed (components_of (codes "/w/n/c")) ∷ []) ∷
    refused "/q/v" [] EACCES ∷ [])
unlink_by_another_user = refl

unlink_by_root : Answer world root Unlink (
    refused "/d" [] EPERM ∷
    refused "/q/t" [] EPERM ∷
    gives "/d/f" [] 0 (Removed (components_of (codes "/d/f")) ∷ []) ∷
    gives "/z/k" [] 0 (Removed (components_of (codes "/z/k")) ∷ []) ∷ [])
unlink_by_root = refl

-- the name is removed, and the object's other name and all other names stay
unlinked : map (λ name. object_of (tree_by root Unlink ("/w/e" ∷ []) (24 ∷ [])) (components_of name))
    (codes "/w/e" ∷ codes "/w/h" ∷ codes "/w" ∷ codes "/w/l" ∷ []) ≡ None ∷ Some 7 ∷ Some 6 ∷ Some 8 ∷ []
unlinked = refl

-- the tests in order, whatever the new name is: the walk to the old name, whether it is missing, whether it is a directory
link_old_name : Answer world user Link (
    refused_both "/no/x" "/d/f/y" ENOENT ∷
    refused_both "/d/f/x" "/no/y" ENOTDIR ∷
    refused_both "/p/x" "/no/y" EACCES ∷
    refused_both "/p/y" "/w/y" EACCES ∷
    refused_both "/p" "/no/y" EPERM ∷
    refused_both "/w/x" "/d/f/y" ENOENT ∷
    refused_both "/w/x" "/w/e" ENOENT ∷
    refused_both "/w/x" "/w/y" ENOENT ∷
    refused_both "/w/n" "/d/f/y" EPERM ∷
    refused_both "/w/n" "/no/y" EPERM ∷
    refused_both "/w/n" "/w/e" EPERM ∷
    refused_both "/w/n" "/d/y" EPERM ∷
    refused_both "/w/n" "/w/y" EPERM ∷
    refused_both "/" "/w/y" EPERM ∷ [])
link_old_name = refl

-- then the walk to the new name, whether it has an object, and whether its directory may be written
link_new_name : Answer world user Link (
    refused_both "/w/e" "/no/y" ENOENT ∷
    refused_both "/w/e" "/d/f/y" ENOTDIR ∷
    refused_both "/w/e" "/p/y" EACCES ∷
    refused_both "/w/e" "/p/x" EACCES ∷
    refused_both "/w/e" "/z/k" EACCES ∷
    refused_both "/w/e" "/d/f" EEXIST ∷
    refused_both "/w/e" "/d" EEXIST ∷
    refused_both "/w/e" "/w/l" EEXIST ∷
    refused_both "/w/e" "/w/r" EEXIST ∷
    refused_both "/w/e" "/w/h" EEXIST ∷
    refused_both "/w/e" "/w/e" EEXIST ∷
    refused_both "/w/e" "/" EEXIST ∷
    refused_both "/w/e" "/d/y" EACCES ∷
    refused_both "/w/e" "/q/y" EACCES ∷
    refused_both "/w/e" "/y" EACCES ∷ [])
link_new_name = refl

-- neither the object nor the directory of its old name has to be writable; a link itself gets another name
link_gives : Answer world user Link (
    gives_both "/w/e" "/w/y" (Linked (components_of (codes "/w/y")) 7 ∷ []) ∷
    gives_both "/w/h" "/w/n/y" (Linked (components_of (codes "/w/n/y")) 7 ∷ []) ∷
    gives_both "/d/f" "/w/y" (Linked (components_of (codes "/w/y")) 3 ∷ []) ∷
    gives_both "/q/v" "/w/y" (Linked (components_of (codes "/w/y")) 21 ∷ []) ∷
    gives_both "/w/l" "/w/y" (Linked (components_of (codes "/w/y")) 8 ∷ []) ∷ [])
link_gives = refl

link_by_root : Answer world root Link (
    refused_both "/w/n" "/w/y" EPERM ∷
    refused_both "/w/e" "/d/f" EEXIST ∷
    gives_both "/w/e" "/d/y" (Linked (components_of (codes "/d/y")) 7 ∷ []) ∷
    gives_both "/p/x" "/y" (Linked (components_of (codes "/y")) 5 ∷ []) ∷ [])
link_by_root = refl

-- no object is made, so that the call succeeds in a full tree
link_in_a_full_tree : Answer full_world user Link (
    gives_both "/w/e" "/w/y" (Linked (components_of (codes "/w/y")) 7 ∷ []) ∷ [])
link_in_a_full_tree = refl

linked : map (λ name. object_of (tree_by root Link ("/d/f" ∷ "/w/y" ∷ []) (24 ∷ 48 ∷ [])) (components_of name))
    (codes "/d/f" ∷ codes "/w/y" ∷ codes "/w/n" ∷ []) ≡ Some 3 ∷ Some 3 ∷ Some 10 ∷ []
linked = refl

-- the tests in order: an empty text, the walk, a name that has an object, and a directory that may not be written
symlink_in_order : Answer world user Symlink (
    refused_both "" "/d/f/y" ENOENT ∷
    refused_both "" "/p/y" ENOENT ∷
    refused_both "" "/w/e" ENOENT ∷
    refused_both "" "/d/y" ENOENT ∷
    refused_both "" "/w/y" ENOENT ∷
    refused_both "t" "/no/y" ENOENT ∷
    refused_both "t" "/d/f/y" ENOTDIR ∷
    refused_both "t" "/p/y" EACCES ∷
    refused_both "t" "/p/x" EACCES ∷
    refused_both "t" "/d/f" EEXIST ∷
    refused_both "t" "/w/e" EEXIST ∷
    refused_both "t" "/w/l" EEXIST ∷
    refused_both "t" "/" EEXIST ∷
    refused_both "t" "/d/y" EACCES ∷
    refused_both "t" "/q/y" EACCES ∷ [])
symlink_in_order = refl

-- the last test is whether the tree is full
symlink_in_a_full_tree : Answer full_world user Symlink (
    refused_both "" "/w/y" ENOENT ∷
    refused_both "t" "/no/y" ENOENT ∷
    refused_both "t" "/w/e" EEXIST ∷
    refused_both "t" "/d/y" EACCES ∷
    refused_both "t" "/w/y" ENOSPC ∷ [])
symlink_in_a_full_tree = refl

symlink_in_a_nearly_full_tree : Answer nearly_full_world user Symlink (
    gives_both "t" "/w/y" (Made (components_of (codes "/w/y")) 4096 (kind.Link (codes "t")) 1000 1000 511 ∷ []) ∷ [])
symlink_in_a_nearly_full_tree = refl

-- a new link has the next number, the target unchanged, the effective ids and mode 777
symlink_makes : Answer world mixed Symlink (
    gives_both "../t/" "/w/y" (Made (components_of (codes "/w/y")) 26 (kind.Link (codes "../t/")) 2000 4000 511 ∷ []) ∷
    gives_both "/" "/w/n/y" (Made (components_of (codes "/w/n/y")) 26 (kind.Link (codes "/")) 2000 4000 511 ∷ []) ∷ [])
symlink_makes = refl

symlinked : node_of (tree_by mixed Symlink ("t" ∷ "/w/y" ∷ []) (24 ∷ 48 ∷ [])) (components_of (codes "/w/y")) ≡
    Some (record { kind = object_kind.Link; uid = 2000; gid = 4000; mode = 511; content = codes "t" })
symlinked = refl

-- the tests in order: the walk to the old name, whether it is missing, the walk to the new name
rename_walks : Answer world user Rename (
    refused_both "/no/x" "/d/f/y" ENOENT ∷
    refused_both "/d/f/x" "/no/y" ENOTDIR ∷
    refused_both "/p/x" "/no/y" EACCES ∷
    refused_both "/p/y" "/w/y" EACCES ∷
    refused_both "/w/x" "/d/f/y" ENOENT ∷
    refused_both "/w/x" "/p/y" ENOENT ∷
    refused_both "/w/x" "/" ENOENT ∷
    refused_both "/w/x" "/w/x" ENOENT ∷
    refused_both "/w/x" "/w/y" ENOENT ∷
    refused_both "/w/e" "/no/y" ENOENT ∷
    refused_both "/w/e" "/d/f/y" ENOTDIR ∷
    refused_both "/w/e" "/p/y" EACCES ∷
    refused_both "/w/e" "/p/x" EACCES ∷
    refused_both "/w/e" "/w/e/y" ENOTDIR ∷
    refused_both "/" "/no/y" ENOENT ∷
    refused_both "/" "/d/f/y" ENOTDIR ∷
    refused_both "/p" "/p/y" EACCES ∷ [])
rename_walks = refl

-- then the root and a name below the old name, before all tests of the directories
rename_of_the_root_and_below_itself : Answer world user Rename (
    refused_both "/" "/" EINVAL ∷
    refused_both "/" "/w/y" EINVAL ∷
    refused_both "/" "/d" EINVAL ∷
    refused_both "/w/e" "/" EINVAL ∷
    refused_both "/d" "/" EINVAL ∷
    refused_both "/d" "/d/y" EINVAL ∷
    refused_both "/d" "/d/f" EINVAL ∷
    refused_both "/w/n" "/w/n/c" EINVAL ∷
    refused_both "/w/n" "/w/n/y" EINVAL ∷
    refused_both "/w" "/w/n/y" EINVAL ∷ [])
rename_of_the_root_and_below_itself = refl

-- two names of one object: nothing changes, and no permission is tested
rename_of_one_object : Answer world user Rename (
    gives_both "/w/e" "/w/h" [] ∷
    gives_both "/w/h" "/w/e" [] ∷
    gives_both "/w/e" "/w/e" [] ∷
    gives_both "/w/n" "/w/n" [] ∷
    gives_both "/w/l" "/w/l" [] ∷
    gives_both "/d/f" "/d/f" [] ∷
    gives_both "/d" "/d" [] ∷ [])
rename_of_one_object = refl

-- the directories of both names have to be writable; this is tested before the object of the new name
rename_directories : Answer world user Rename (
    refused_both "/q/v" "/w/y" EACCES ∷
    refused_both "/d/f" "/w/y" EACCES ∷
    refused_both "/w" "/y" EACCES ∷
    refused_both "/w/e" "/q/y" EACCES ∷
    refused_both "/w/e" "/d/y" EACCES ∷
    refused_both "/w/e" "/y" EACCES ∷
    refused_both "/q/v" "/w/e" EACCES ∷
    refused_both "/w/e" "/q/v" EACCES ∷
    refused_both "/q/t" "/w/e" EACCES ∷
    refused_both "/w/n" "/q/v" EACCES ∷
    refused_both "/q/v" "/w/r" EACCES ∷
    refused_both "/w/e" "/q/t" EACCES ∷
    refused_both "/q/t" "/w/n" EACCES ∷
    refused_both "/w/r" "/q/u" EACCES ∷ [])
rename_directories = refl

-- the world with an empty directory added in /w/n
abbrev deeper_world : System
deeper_world = record world { tree = add_object world.tree (components_of (codes "/w/n/s")) root_node }

-- a directory replaces only an empty directory, and no other object replaces a directory; whether a file is empty doesn't matter
rename_of_other_kinds : Answer deeper_world user Rename (
    refused_both "/w/n" "/w/e" ENOTDIR ∷
    refused_both "/w/r" "/w/l" ENOTDIR ∷
    refused_both "/w/r" "/w/n/c" ENOTDIR ∷
    refused_both "/w/e" "/w/n" EISDIR ∷
    refused_both "/w/l" "/w/n" EISDIR ∷
    refused_both "/w/e" "/w/r" EISDIR ∷
    refused_both "/w/l" "/w/r" EISDIR ∷
    refused_both "/w/n/c" "/w/n" EISDIR ∷
    refused_both "/w/r" "/w/n" ENOTEMPTY ∷
    refused_both "/w/n/s" "/w/n" ENOTEMPTY ∷ [])
rename_of_other_kinds = refl

rename_by_root : Answer world root Rename (
    refused_both "/q/t" "/q/u" ENOTEMPTY ∷
    refused_both "/d" "/q/v" ENOTDIR ∷
    refused_both "/q/v" "/d" EISDIR ∷
    refused_both "/d" "/d/y" EINVAL ∷
    gives_both "/d/f" "/p/y" (Renamed (components_of (codes "/d/f")) (components_of (codes "/p/y")) ∷ []) ∷
    gives_both "/z/k" "/d/f" (Removed (components_of (codes "/d/f")) ∷ Renamed (components_of (codes "/z/k")) (components_of (codes "/d/f")) ∷ []) ∷
    gives_both "/d" "/q/t" (Removed (components_of (codes "/q/t")) ∷ Renamed (components_of (codes "/d")) (components_of (codes "/q/t")) ∷ []) ∷
    gives_both "/d" "/y" (Renamed (components_of (codes "/d")) (components_of (codes "/y")) ∷ []) ∷ [])
rename_by_root = refl

-- the object with the new name is removed first; the components of a name count, not its bytes
rename_gives : Answer world user Rename (
    gives_both "/w/e" "/w/y" (Renamed (components_of (codes "/w/e")) (components_of (codes "/w/y")) ∷ []) ∷
    gives_both "/w/n" "/w/nn" (Renamed (components_of (codes "/w/n")) (components_of (codes "/w/nn")) ∷ []) ∷
    gives_both "/w/n" "/w/r/n" (Renamed (components_of (codes "/w/n")) (components_of (codes "/w/r/n")) ∷ []) ∷
    gives_both "/w/n/c" "/w/y" (Renamed (components_of (codes "/w/n/c")) (components_of (codes "/w/y")) ∷ []) ∷
    gives_both "/w/e" "/w/n/c" (Removed (components_of (codes "/w/n/c")) ∷ Renamed (components_of (codes "/w/e")) (components_of (codes "/w/n/c")) ∷ []) ∷
    gives_both "/w/e" "/w/l" (Removed (components_of (codes "/w/l")) ∷ Renamed (components_of (codes "/w/e")) (components_of (codes "/w/l")) ∷ []) ∷
    gives_both "/w/l" "/w/h" (Removed (components_of (codes "/w/h")) ∷ Renamed (components_of (codes "/w/l")) (components_of (codes "/w/h")) ∷ []) ∷
    gives_both "/w/n" "/w/r" (Removed (components_of (codes "/w/r")) ∷ Renamed (components_of (codes "/w/n")) (components_of (codes "/w/r")) ∷ []) ∷ [])
rename_gives = refl

rename_in_a_full_tree : Answer full_world user Rename (
    gives_both "/w/e" "/w/y" (Renamed (components_of (codes "/w/e")) (components_of (codes "/w/y")) ∷ []) ∷ [])
rename_in_a_full_tree = refl

-- the names below move along, with their objects' numbers, and no old name is left
renamed : map (λ name. object_of (tree_by root Rename ("/w/n" ∷ "/w/r" ∷ []) (24 ∷ 48 ∷ [])) (components_of name))
    (codes "/w/r" ∷ codes "/w/r/c" ∷ codes "/w/n" ∷ codes "/w/n/c" ∷ codes "/w/e" ∷ []) ≡ Some 10 ∷ Some 11 ∷ None ∷ None ∷ Some 7 ∷ []
renamed = refl

renamed_to_a_longer_name : map (λ name. object_of (tree_by root Rename ("/w" ∷ "/q/u/ww" ∷ []) (24 ∷ 48 ∷ [])) (components_of name))
    (codes "/q/u/ww" ∷ codes "/q/u/ww/n/c" ∷ codes "/q/u/ww/h" ∷ codes "/q/u/y" ∷ codes "/w" ∷ codes "/w/n/c" ∷ []) ≡
    Some 6 ∷ Some 11 ∷ Some 7 ∷ Some 24 ∷ None ∷ None ∷ []
renamed_to_a_longer_name = refl

-- another name of the replaced object keeps that object
renamed_over_one_of_two_names : map (λ name. object_of (tree_by root Rename ("/w/l" ∷ "/w/h" ∷ []) (24 ∷ 48 ∷ [])) (components_of name))
    (codes "/w/h" ∷ codes "/w/e" ∷ codes "/w/l" ∷ []) ≡ Some 8 ∷ Some 7 ∷ None ∷ []
renamed_over_one_of_two_names = refl
