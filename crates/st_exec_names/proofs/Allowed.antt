-- Changes of names that the tree doesn't refuse, because the tests of a call come first.
use Rattle.std.proofs.Common.{◌≡◌, ◌∙◌, ap, refl, ℕ, Bool, true, false, List, [], ◌∷◌, length, Option, Some, None, is_some, nat_le, nat_lt}
use Rattle.std.specs.Prelude.{◌↔◌, IsTrue}
use Rattle.st_base.specs.Errno.{error_if, first_error}
use Rattle.st_base.specs.declared.errno.Errno.{Errno}
use Rattle.st_base.specs.declared.errno.Errno.TheVariants.{ENOENT, ENOTDIR, EEXIST, EINVAL, ENOSPC, ENOTEMPTY, EPERM}
use Rattle.st_base.specs.declared.ids.Ids.{Ids}
use Rattle.st_names.specs.Name.{Components, is_root}
use Rattle.st_names.specs.declared.seen.SeenText.{SeenText}
use Rattle.st_model.specs.declared.limits.TheConstants.{MOST_OBJECTS}
use Rattle.st_model.specs.declared.object.Kind.{Kind}
use Rattle.st_model.specs.declared.object.Kind.TheVariants as kind
use Rattle.st_model.specs.Tree.{Tree, entry_count, is_directory, node_at, node_with_number, object_of, seen_of, seen_of_kind}
use Rattle.st_tree.specs.Refusals.{has_entries, is_not_dir, link_refused, no_object, remove_refused, IsObjectNumber}
use Rattle.st_model.specs.Adding.{add_refused, is_missing, is_no_directory, no_directory, place_refused}
use Rattle.st_effects.specs.NameTests.{walk_error}
use Rattle.st_exec_names.proofs.Looked.{holder_looked, looked}
use Rattle.st_exec_objects.proofs.Objects.{numbered}

-- ---- tests as the code makes them

pub no_root : (name : Components) (root : Bool) → (IsTrue root ↔ (name ≡ [])) → root ≡ false → is_root name ≡ false
no_root [] root is false_is =
    let yes : root ≡ true = is.1 refl in
    cc
no_root (part ∷ rest) root is false_is = refl

pub nothing : (object : Option ℕ) (some : Bool) → some ≡ is_some object → some ≡ false → object ≡ None
nothing None some is false_is = refl
nothing (Some number) some is false_is = cc

-- ---- names

-- why nothing is found, by what is seen
abbrev unseen : SeenText → Option Errno
unseen seen = first_error (error_if (is_missing seen) ENOENT ∷ error_if (is_not_dir seen) ENOTDIR ∷ [])

kind_seen : (kind : Kind) (content : List ℕ) → unseen (seen_of_kind kind content) ≡ None
kind_seen kind.Dir content = refl
kind_seen kind.File content = refl
kind_seen kind.Link content = refl

-- a name that a walk reaches, and that has an object, isn't found missing
pub object_there : (tree : Tree) (ids : Ids) (name : Components) (number : ℕ) → walk_error tree ids name ≡ None → object_of tree name ≡ Some number → IsObjectNumber tree number → no_object tree name ≡ None
object_there tree ids name number walked found made =
    ap unseen (looked tree ids name walked ∙ ap (λ object. seen_of (node_at tree object)) found ∙ ap seen_of (numbered tree number made))
    ∙ kind_seen (node_with_number tree number).kind (node_with_number tree number).content

-- a name that a walk reaches, other than the root's, has a directory
pub directory_there : (tree : Tree) (ids : Ids) (name : Components) → walk_error tree ids name ≡ None → is_root name ≡ false → no_directory tree name ≡ None
directory_there tree ids [] walked named = cc
directory_there tree ids (part ∷ rest) walked named =
    ap (λ seen. first_error (error_if (is_missing seen) ENOENT ∷ error_if (is_no_directory seen) ENOTDIR ∷ [])) (holder_looked tree ids part rest walked)

-- a name that a walk reaches, and that no object has, is free
pub place_free : (tree : Tree) (ids : Ids) (name : Components) → walk_error tree ids name ≡ None → object_of tree name ≡ None → place_refused tree name ≡ None
place_free tree ids [] walked none = cc
place_free tree ids (part ∷ rest) walked none =
    ap (λ directory. first_error (directory ∷ error_if (is_some (object_of tree (part ∷ rest))) EEXIST ∷ [])) (directory_there tree ids (part ∷ rest) walked refl)
    ∙ ap (λ object. first_error (error_if (is_some object) EEXIST ∷ [])) none

-- the root is a directory, so an object that isn't one has another name
pub plain_named : (tree : Tree) (name : Components) (number : ℕ) → is_directory (node_with_number tree 1).kind ≡ true → object_of tree name ≡ Some number → is_directory (node_with_number tree number).kind ≡ false → is_root name ≡ false
plain_named tree [] number root found plain =
    let one : 1 ≡ number = cc in
    let clash : is_directory (node_with_number tree 1).kind ≡ false = ap (λ n. is_directory (node_with_number tree n).kind) one ∙ plain in
    cc
plain_named tree (part ∷ rest) number root found plain = refl

-- ---- changes

-- a name without entries below it
pub removable : (tree : Tree) (ids : Ids) (name : Components) (number : ℕ) → is_root name ≡ false → walk_error tree ids name ≡ None → object_of tree name ≡ Some number → IsObjectNumber tree number → entry_count tree number ≡ 0
    → remove_refused tree name ≡ None
removable tree ids name number named walked found made bare =
    ap (λ root. first_error (error_if root EINVAL ∷ no_object tree name ∷ error_if (has_entries tree (object_of tree name)) ENOTEMPTY ∷ [])) named
    ∙ ap (λ object. first_error (object ∷ error_if (has_entries tree (object_of tree name)) ENOTEMPTY ∷ [])) (object_there tree ids name number walked found made)
    ∙ ap (λ object. first_error (error_if (has_entries tree object) ENOTEMPTY ∷ [])) found
    ∙ ap (λ count. first_error (error_if (nat_lt 0 count) ENOTEMPTY ∷ [])) bare

-- the name of a new object
pub addable : (tree : Tree) (name : Components) → place_refused tree name ≡ None → nat_le MOST_OBJECTS (length tree.objects) ≡ false → add_refused tree name ≡ None
addable tree name free room =
    ap (λ place. first_error (place ∷ error_if (nat_le MOST_OBJECTS (length tree.objects)) ENOSPC ∷ [])) free
    ∙ ap (λ full. first_error (error_if full ENOSPC ∷ [])) room

-- one more name of an object that isn't a directory
pub linkable : (tree : Tree) (name : Components) (number : ℕ) → place_refused tree name ≡ None → is_directory (node_with_number tree number).kind ≡ false → link_refused tree number name ≡ None
linkable tree name number free plain =
    ap (λ place. first_error (place ∷ error_if (is_directory (node_with_number tree number).kind) EPERM ∷ [])) free
    ∙ ap (λ directory. first_error (error_if directory EPERM ∷ [])) plain
