-- Examples of walks and looks, and the results that the definitions give for them.
use Rattle.std.proofs.Common.{◌≡◌, ℕ, true, false, List, [], ◌∷◌, ◌++◌, Some, refl, replicate, codes}
use Rattle.st_base.specs.declared.errno.Errno.TheVariants.{ENOENT, ENOTDIR, ELOOP, ENAMETOOLONG}
use Rattle.st_names.specs.Name.{components_of, printed_name}
use Rattle.st_model.specs.Tree.{Tree, Node, root_only, add_object, object_of, node_of, look}
use Rattle.st_model.specs.declared.object.Kind.TheVariants as object_kind
use Rattle.st_model.specs.Walk.{Name, Next, Fault, start_walk, resolve}
use Rattle.st_names.specs.declared.seen.SeenText.TheVariants.{Missing, NotDir, Dir, File, Link}

parts_of_text : components_of (codes "/a//./b/..") ≡ codes "a" ∷ codes "b" ∷ codes ".." ∷ []
parts_of_text = refl

printed_root : printed_name [] ≡ codes "/"
printed_root = refl

printed : printed_name (codes "etc" ∷ codes "passwd" ∷ []) ≡ codes "/etc/passwd"
printed = refl

-- ---- walks by the results of looks

abbrev etc : List (List ℕ)
etc = codes "etc" ∷ []

abbrev passwd : List (List ℕ)
passwd = codes "etc" ∷ codes "passwd" ∷ []

asks_first : start_walk (codes "/etc/passwd") [] true [] ≡ Next etc
asks_first = refl

asks_second : start_walk (codes "/etc/passwd") [] true (Dir ∷ []) ≡ Next passwd
asks_second = refl

finds_file : start_walk (codes "/etc/passwd") [] true (Dir ∷ File ∷ []) ≡ Name passwd
finds_file = refl

keeps_missing : start_walk (codes "passwd") etc true (Missing ∷ []) ≡ Name passwd
keeps_missing = refl

missing_directory : start_walk (codes "/etc/passwd") [] true (Missing ∷ []) ≡ Fault ENOENT
missing_directory = refl

below_file : start_walk (codes "/etc/passwd/") [] true (File ∷ []) ≡ Fault ENOTDIR
below_file = refl

after_no_directory : start_walk (codes "/etc/passwd") [] true (NotDir ∷ []) ≡ Fault ENOTDIR
after_no_directory = refl

up_at_root : start_walk (codes "/../..") passwd true [] ≡ Name []
up_at_root = refl

up_from_file : start_walk (codes "/etc/passwd/..") [] true (Dir ∷ File ∷ []) ≡ Fault ENOTDIR
up_from_file = refl

up_from_directory : start_walk (codes "../etc/.") passwd true (Dir ∷ []) ≡ Name (codes "etc" ∷ codes "etc" ∷ [])
up_from_directory = refl

trailing_slash : start_walk (codes "/l/./") [] false (Link (codes "etc") ∷ []) ≡ Name (codes "l" ∷ [])
trailing_slash = refl

up_after_link : start_walk (codes "/l/..") [] false (Link (codes "etc") ∷ Dir ∷ []) ≡ Name []
up_after_link = refl

link_to_nothing : start_walk (codes "/etc/l") [] true (Dir ∷ Link (codes ".") ∷ []) ≡ Name etc
link_to_nothing = refl

link_to_root : start_walk (codes "/etc/l/x") [] true (Dir ∷ Link (codes "/") ∷ []) ≡ Next (codes "x" ∷ [])
link_to_root = refl

empty_text : start_walk [] etc true [] ≡ Fault ENOENT
empty_text = refl

part_of_256 : start_walk (codes "/../" ++ replicate 256 97) etc true [] ≡ Fault ENAMETOOLONG
part_of_256 = refl

part_of_255 : start_walk (replicate 255 97) [] true (Missing ∷ []) ≡ Name (replicate 255 97 ∷ [])
part_of_255 = refl

long_name : start_walk (codes "a") (replicate 255 97 ∷ replicate 255 97 ∷ replicate 255 97 ∷ replicate 255 97 ∷ []) true (Missing ∷ []) ≡ Fault ENAMETOOLONG
long_name = refl

links_32 : start_walk (codes "l") [] true (replicate 32 (Link (codes "l"))) ≡ Next (codes "l" ∷ [])
links_32 = refl

links_33 : start_walk (codes "l") [] true (replicate 33 (Link (codes "l"))) ≡ Fault ELOOP
links_33 = refl

-- ---- looks at a tree

abbrev directory : Node
directory = record { kind = object_kind.Dir; uid = 0; gid = 0; mode = 493; content = [] }

abbrev file : Node
file = record { kind = object_kind.File; uid = 0; gid = 0; mode = 420; content = codes "root" }

abbrev link_to : List ℕ → Node
link_to target = record { kind = object_kind.Link; uid = 0; gid = 0; mode = 511; content = target }

abbrev tree : Tree
tree = add_object (add_object (add_object (add_object root_only etc directory) passwd file) (codes "l" ∷ []) (link_to (codes "etc"))) (codes "m" ∷ []) (link_to (codes "/m"))

third : object_of tree passwd ≡ Some 3
third = refl

third_node : node_of tree passwd ≡ Some file
third_node = refl

look_at_root : look root_only [] ≡ Dir
look_at_root = refl

look_at_file : look tree passwd ≡ File
look_at_file = refl

look_at_missing : look tree (codes "etc" ∷ codes "group" ∷ []) ≡ Missing
look_at_missing = refl

look_below_file : look tree (codes "etc" ∷ codes "passwd" ∷ codes "a" ∷ codes "b" ∷ []) ≡ NotDir
look_below_file = refl

look_below_missing : look tree (codes "usr" ∷ codes "bin" ∷ []) ≡ Missing
look_below_missing = refl

look_below_link : look tree (codes "l" ∷ codes "passwd" ∷ []) ≡ NotDir
look_below_link = refl

look_at_link : look tree (codes "l" ∷ []) ≡ Link (codes "etc")
look_at_link = refl

-- ---- names resolved in it

link_in_middle : resolve tree [] (codes "/l/passwd") false ≡ Name passwd
link_in_middle = refl

link_at_end : resolve tree [] (codes "/l") true ≡ Name etc
link_at_end = refl

link_kept : resolve tree etc (codes "../l") false ≡ Name (codes "l" ∷ [])
link_kept = refl

link_to_itself : resolve tree [] (codes "m") true ≡ Fault ELOOP
link_to_itself = refl

new_name : resolve tree etc (codes "group") true ≡ Name (codes "etc" ∷ codes "group" ∷ [])
new_name = refl
