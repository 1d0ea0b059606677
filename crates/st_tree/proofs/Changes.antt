-- How changes of the objects change the tree.
use Rattle.std.proofs.Common.{◌≡◌, ◌≢◌, ap, refl, sym, ◌∙◌, subst, ℕ, zero, suc, ◌<◌, ◌≤◌, Bool, true, false, List, [], ◌∷◌, ◌++◌, map, length, Option, Some, None, Vec, Global, arith}
use Rattle.std.proofs.lemmas.Bool.{true≢false}
use Rattle.std.proofs.lemmas.List.{length-append, length-map, map-append, with_items_is}
use Rattle.std.specs.Vec.{with_items}
use Rattle.std.proofs.lemmas.Option.{none-some, slice_get-map}
use Rattle.std.specs.BTreeMap.{is_at}
use Rattle.std.specs.Cmp.Lexicographic.{slice_cmp}
use Rattle.std.specs.List.{flat_map}
use Rattle.std.specs.List.Sorted.{IsStrictlySortedBy}
use Rattle.std.specs.Map.{keys_of, lookup}
use Rattle.std.specs.Option.{option_and_then, option_map}
use Rattle.std.specs.Ordering.{nat_cmp}
use Rattle.std.specs.Prelude.{if◌then◌else◌, slice_get}
use Rattle.st_names.specs.Name.{Components, last_part, parent}
use Rattle.st_model.specs.Tree.{Node, Tree, add_object, is_prefix, sorted_names, is_directory, link_object, with_prefix_replaced, remove_name, root_node, root_only, with_name, without_name}
use Rattle.st_tree.specs.Objects.{dirs_of, entries_at, entries_of_body, is_dir_at, is_dir_of, object_node, tree_of, IsNumber, IsValidTree}
use Rattle.st_tree.specs.Paths.{AreDirectories, Entries, dir_entry, object_from, names_under, with_entry, without_entry}
use Rattle.st_tree.specs.Reached.{IsEmpty, IsFree, IsRenamePlan, Replaces}
use Rattle.st_tree.specs.Refusals.{tree_after_rename}
use Rattle.st_tree.specs.declared.object.Object.{Object}
use Rattle.st_tree.specs.declared.places.RenamePlan.{RenamePlan}
use Rattle.st_tree.proofs.Flat.{same_names_under}
use Rattle.st_tree.proofs.Leads.{same_directories}
use Rattle.st_tree.proofs.Moves.{directories-added, directories-linked, directories-removed}
use Rattle.st_tree.proofs.Names.{names-added, names-linked, names-removed, names-renamed}
use Rattle.st_tree.proofs.Renames.{directories-renamed, with_moved}
use Rattle.st_tree.proofs.Renamings.{way_apart}
use Rattle.st_tree.proofs.Reasons.{parent-last_part}
use Rattle.st_model.specs.declared.limits.TheConstants.{MOST_OBJECTS}

-- ---- which objects are directories

-- the nodes determine which objects are directories
dir_of_node : Option Node → Bool
dir_of_node None = false
dir_of_node (Some node) = is_directory node.kind

dir_of_object : (at : Option Object) → is_dir_at at ≡ dir_of_node (option_map object_node at)
unfolding dir_of_node
dir_of_object None = refl
dir_of_object (Some object) = refl

dir_in : List Node → ℕ → Bool
dir_in nodes zero = false
dir_in nodes (suc before) = dir_of_node (slice_get nodes before)

dir_by_nodes : (objects : List Object) (number : ℕ) → is_dir_of objects number ≡ dir_in (map object_node objects) number
unfolding dir_in
dir_by_nodes objects zero = refl
dir_by_nodes objects (suc before) = dir_of_object (slice_get objects before) ∙ ap dir_of_node (sym (slice_get-map object_node objects before))

pub dirs_kept : (old new : List Object) → map object_node new ≡ map object_node old → (number : ℕ) → is_dir_of new number ≡ is_dir_of old number
dirs_kept old new nodes number = dir_by_nodes new number ∙ ap (λ (ns : List Node). dir_in ns number) nodes ∙ sym (dir_by_nodes old number)

pub same_count : (old new : List Object) → map object_node new ≡ map object_node old → length new ≡ length old
same_count old new nodes = sym (length-map new object_node) ∙ ap length nodes ∙ length-map old object_node

-- ---- names that are linked, removed and renamed

-- the objects represent this tree
pub record Makes (objects : List Object) (tree : Tree) : Type 0 where
  pub whole : IsValidTree objects
  pub view : tree_of objects ≡ tree

-- changes of entries alone
module _ (old new : List Object) (whole : IsValidTree old) (nodes : map object_node new ≡ map object_node old) where
  pub made_after : (after : ℕ → Entries) (names : List (Components × ℕ)) → ((number : ℕ) → dirs_of new number ≡ after number) → AreDirectories (length old) (is_dir_of old) after → names_under (length old) after 1 ≡ names
      → Makes new (record { names = names; objects = (tree_of old).objects })
  unfolding tree_of
  made_after after names entries are is =
      let count : length new ≡ length old = same_count old new nodes in
      let dirs : dirs_of new ≡ after = λ i number. entries number i in
      let names_are : names_under (length new) (dirs_of new) 1 ≡ names = ap (λ (n : ℕ). names_under n (dirs_of new) 1) count ∙ ap (λ (d : ℕ → Entries). names_under (length old) d 1) dirs ∙ is in
      record {
        whole = record {
          directories = subst (λ (n : ℕ). AreDirectories n (is_dir_of new) (dirs_of new)) (sym count) (same_directories (dirs_kept old new nodes) entries are);
          few = omega (arith, whole.few, count);
        };
        view = λ i. record { names = names_are i; objects = nodes i };
      }

  -- no entry changes, and the tree stays the same
  pub made_again : ((number : ℕ) → dirs_of new number ≡ dirs_of old number) → Makes new (tree_of old)
  unfolding tree_of
  made_again same = made_after (dirs_of old) (tree_of old).names same whole.directories refl

  -- an object gets one more name
  pub made_linked : (name : Components) (holder held : ℕ) → IsFree old name holder → IsNumber old held → is_dir_of old held ≡ false
      → ((number : ℕ) → dirs_of new number ≡ with_entry (dirs_of old) holder (last_part name) held number)
      → Makes new (link_object (tree_of old) name held)
  unfolding tree_of
  made_linked name holder held free is plain entries =
      let above : 1 < held = above_root held is plain in
      let plainly : is_dir_of old held ≢ true = λ dir. true≢false (sym dir ∙ plain) in
      let dirs = whole.directories in
      made_after (with_entry (dirs_of old) holder (last_part name) held) (with_name (tree_of old).names name held) entries
      (directories-linked dirs (parent name) (last_part name) free.place free.dir free.free held above is.1 plainly)
      (names-linked dirs (parent name) (last_part name) free.place free.dir free.free held above is.1 plainly ∙ ap (λ (n : Components). with_name (tree_of old).names n held) (parent-last_part name free.named)) where
        above_by : (held : ℕ) → 1 ≤ held → is_dir_of old held ≡ false → (held ≡ 1 → ⊥) → 1 < held
        above_by held low plain differs = omega (arith, low, differs)

        above_root : (held : ℕ) → IsNumber old held → is_dir_of old held ≡ false → 1 < held
        above_root held is plain = above_by held is.0 plain (λ root. true≢false (sym (ap (is_dir_of old) root ∙ whole.directories.root) ∙ plain))

  -- a name is removed
  pub made_removed : (name : Components) (holder : ℕ) → IsEmpty old name holder
      → ((number : ℕ) → dirs_of new number ≡ without_entry (dirs_of old) holder (last_part name) number)
      → Makes new (remove_name (tree_of old) name)
  unfolding tree_of
  made_removed name holder empty entries =
      let taken = empty.1.0 in
      let dirs = whole.directories in
      made_after (without_entry (dirs_of old) holder (last_part name)) (without_name (tree_of old).names name) entries
      (directories-removed dirs (parent name) (last_part name) taken.place taken.taken empty.1.1)
      (names-removed dirs (parent name) (last_part name) taken.place taken.taken empty.1.1 ∙ ap (without_name (tree_of old).names) (parent-last_part name taken.named))

  -- an object is renamed, and replaces the object with the new name
  pub made_renamed : (name other : Components) (way : RenamePlan) → IsRenamePlan old name other way
      → ((number : ℕ) → dirs_of new number ≡ without_entry (with_entry (dirs_of old) way.to (last_part other) way.obj) way.from (last_part name) number)
      → Makes new (tree_after_rename (tree_of old) name other)
  unfolding tree_of
  made_renamed name other way is entries =
      let taken = is.taken in
      let from_is : parent name ++ last_part name ∷ [] ≡ name = parent-last_part name taken.named in
      let to_is : parent other ++ last_part other ∷ [] ≡ other = parent-last_part other is.named in
      let apart : is_prefix (parent name ++ last_part name ∷ []) (parent other ++ last_part other ∷ []) ≡ false =
      ap (λ (n : Components). is_prefix n (parent other ++ last_part other ∷ [])) from_is ∙ ap (is_prefix name) to_is ∙ way_apart old whole name other way is in
      let dirs = whole.directories in
      let bare : (number : ℕ) → dir_entry (dirs_of old) way.to (last_part other) ≡ Some number → dirs_of old number ≡ [] = λ number there. (subst (Replaces old way.obj) there is.free).1 in
      let moves : Components → Components → List (Components × ℕ) = λ a b. sorted_names (map (λ named. (with_prefix_replaced a b named.0, named.1)) (without_name (tree_of old).names b)) in
      let names : names_under (length old) (with_moved (dirs_of old) way.from (last_part name) way.to (last_part other) way.obj) 1 ≡ moves name other =
      names-renamed dirs (parent name) (last_part name) taken.place taken.taken (parent other) (last_part other) is.place is.dir bare apart
      ∙ ap (λ (a : Components). moves a (parent other ++ last_part other ∷ [])) from_is ∙ ap (moves name) to_is in
      made_after (with_moved (dirs_of old) way.from (last_part name) way.to (last_part other) way.obj) (tree_after_rename (tree_of old) name other).names entries
      (directories-renamed dirs (parent name) (last_part name) taken.place taken.taken (parent other) (last_part other) is.place is.dir bare apart)
      (names ∙ sym (ap (λ (one : Bool). if one then (tree_of old).names else moves name other) is.differ))

-- ---- a new object

push_entries : (objects : List Object) (object : Object) (before : ℕ) → entries_of_body object.body ≡ [] → entries_at (slice_get (objects ++ object ∷ []) before) ≡ entries_at (slice_get objects before)
push_entries [] object zero none = none
push_entries [] object (suc before) none = refl
push_entries (first ∷ objects) object zero none = refl
push_entries (first ∷ objects) object (suc before) none = push_entries objects object before none

pub push_dirs : (objects : List Object) (object : Object) (number : ℕ) → entries_of_body object.body ≡ [] → dirs_of (objects ++ object ∷ []) number ≡ dirs_of objects number
push_dirs objects object zero none = refl
push_dirs objects object (suc before) none = push_entries objects object before none

push_before : (objects : List Object) (object : Object) (before : ℕ) → before < length objects → slice_get (objects ++ object ∷ []) before ≡ slice_get objects before
push_before [] object before inside = absurd (omega (arith, inside))
push_before (first ∷ objects) object zero inside = refl
push_before (first ∷ objects) object (suc before) inside = push_before objects object before (omega (arith, inside))

push_dir : (objects : List Object) (object : Object) (number : ℕ) → number ≤ length objects → is_dir_of (objects ++ object ∷ []) number ≡ is_dir_of objects number
push_dir objects object zero inside = refl
push_dir objects object (suc before) inside = ap is_dir_at (push_before objects object before (omega (arith, inside)))

-- a new object is added under a new name
pub made_added : (old new : List Object) (object : Object) → IsValidTree old → length old < MOST_OBJECTS → map object_node new ≡ map object_node old → (name : Components) (holder : ℕ) → IsFree old name holder
    → ((number : ℕ) → dirs_of new number ≡ with_entry (dirs_of old) holder (last_part name) (suc (length old)) number) → entries_of_body object.body ≡ []
    → Makes (new ++ object ∷ []) (add_object (tree_of old) name (object_node object))
unfolding tree_of
made_added old new object whole room nodes name holder free entries none =
    let all : List Object = new ++ object ∷ [] in
    let count : length all ≡ suc (length old) = omega (arith, length-append new (object ∷ []), same_count old new nodes) in
    let counted : length (map object_node old) ≡ length old = length-map old object_node in
    let nodes_are : map object_node all ≡ map object_node old ++ object_node object ∷ [] = map-append object_node new (object ∷ []) ∙ ap (λ (ns : List Node). ns ++ object_node object ∷ []) nodes in
    let dirs : (number : ℕ) → dirs_of all number ≡ with_entry (dirs_of old) holder (last_part name) (suc (length old)) number = λ number. push_dirs new object number none ∙ entries number in
    let kept : (number : ℕ) → number ≤ length old → is_dir_of all number ≡ is_dir_of old number =
    λ number inside. push_dir new object number (omega (arith, inside, same_count old new nodes)) ∙ dirs_kept old new nodes number in
    let are = whole.directories in
    let after : ℕ → Entries = with_entry (dirs_of old) holder (last_part name) (suc (length old)) in
    let names_are : names_under (length all) (dirs_of all) 1 ≡ with_name (tree_of old).names name (suc (length (map object_node old))) =
    ap (λ (n : ℕ). names_under n (dirs_of all) 1) count
    ∙ same_names_under (dirs_of all) after dirs (suc (length old)) 1
    ∙ names-added are (parent name) (last_part name) free.place free.dir free.free
    ∙ ap (λ (n : Components). with_name (tree_of old).names n (suc (length old))) (parent-last_part name free.named)
    ∙ ap (λ (n : ℕ). with_name (tree_of old).names name (suc n)) (sym counted) in
    record {
      whole = record {
        directories = subst (λ (n : ℕ). AreDirectories n (is_dir_of all) (dirs_of all)) (sym count) (same_directories (λ number. refl) dirs (directories-added are (parent name) (last_part name) free.place free.dir free.free kept));
        few = omega (arith, count, room);
      };
      view = λ i. record { names = names_are i; objects = nodes_are i };
    }

-- ---- objects in the vector that contains them

-- the objects are written back into their vector
pub written : (objects : Vec Object Global) (new : List Object) (old tree : Tree) (change : Tree → Tree) → length new ≡ length objects.items → old ≡ tree → Makes new (change old) → Makes (with_items objects new).items (change tree)
written objects new old tree change count is makes =
    subst (λ (items : List Object). Makes items (change tree)) (sym (with_items_is objects new (count ∙ sym objects.ok.0)))
    (subst (λ (t : Tree). Makes new (change t)) is makes)

pub written_removed : (objects : Vec Object Global) (found at new : List Object) (tree : Tree) (name : Components) (holder : ℕ) (part : List ℕ) → IsValidTree objects.items → tree_of objects.items ≡ tree → found ≡ objects.items → at ≡ objects.items
    → IsEmpty found name holder → part ≡ last_part name → map object_node new ≡ map object_node at → ((number : ℕ) → dirs_of new number ≡ without_entry (dirs_of at) holder part number)
    → Makes (with_items objects new).items (remove_name tree name)
written_removed objects found at new tree name holder part whole view found_is at_is empty part_is nodes entries =
    let nodes_are : map object_node new ≡ map object_node objects.items = nodes ∙ ap (map object_node) at_is in
    written objects new (tree_of objects.items) tree (λ t. remove_name t name) (same_count objects.items new nodes_are) view
    (made_removed objects.items new whole nodes_are name holder (subst (λ (os : List Object). IsEmpty os name holder) found_is empty)
    (λ number. entries number ∙ ap (λ (p : List ℕ). without_entry (dirs_of at) holder p number) part_is ∙ ap (λ (os : List Object). without_entry (dirs_of os) holder (last_part name) number) at_is))

-- the same if nothing changes
pub written_same : (objects : Vec Object Global) (old at new : List Object) (tree : Tree) → IsValidTree old → tree_of old ≡ tree → objects.items ≡ old → at ≡ old → map object_node new ≡ map object_node at → ((number : ℕ) → dirs_of new number ≡ dirs_of at number)
    → Makes (with_items objects new).items tree
written_same objects old at new tree whole view items at_is nodes dirs =
    let nodes_are : map object_node new ≡ map object_node old = nodes ∙ ap (map object_node) at_is in
    written objects new (tree_of old) tree (λ t. t) (same_count old new nodes_are ∙ sym (ap length items)) view
    (made_again old new whole nodes_are (λ number. dirs number ∙ ap (λ (os : List Object). dirs_of os number) at_is))

module _ (object : Object) (node : object_node object ≡ root_node) (none : entries_of_body object.body ≡ []) where
  -- ---- the tree with the root alone

  no_dirs : (number : ℕ) → dirs_of (object ∷ []) number ≡ []
  no_dirs zero = refl
  no_dirs (suc zero) = none
  no_dirs (suc (suc number)) = refl

  no_entry : (number : ℕ) (part : List ℕ) → dir_entry (dirs_of (object ∷ [])) number part ≡ None
  no_entry number part = ap (lookup (is_at (slice_cmp nat_cmp part))) (no_dirs number)

  leads_nowhere : (part : List ℕ) (rest : Components) → object_from (dirs_of (object ∷ [])) 1 (part ∷ rest) ≡ None
  leads_nowhere part rest = ap (option_and_then (λ number. object_from (dirs_of (object ∷ [])) number rest)) (no_entry 1 part)

  only_root : (number : ℕ) (name other : Components) → object_from (dirs_of (object ∷ [])) 1 name ≡ Some number → object_from (dirs_of (object ∷ [])) 1 other ≡ Some number → name ≡ other
  only_root number [] [] led led_too = refl
  only_root number [] (part ∷ rest) led led_too = absurd (none-some number (sym (leads_nowhere part rest) ∙ led_too))
  only_root number (part ∷ rest) other led led_too = absurd (none-some number (sym (leads_nowhere part rest) ∙ led))

  -- the root alone represents the tree `root_only`
  pub root_tree : Makes (object ∷ []) root_only
  unfolding tree_of IsStrictlySortedBy
  root_tree =
      let nodes : object_node object ∷ [] ≡ root_node ∷ [] = ap (λ (n : Node). n ∷ []) node in
      let names : names_under 1 (dirs_of (object ∷ [])) 1 ≡ [] =
      ap (flat_map (λ held. (held.0 ∷ [], held.1) ∷ map (λ named. (held.0 ∷ named.0, named.1)) (names_under 0 (dirs_of (object ∷ [])) held.1))) none in
      record {
        whole = record {
          directories = record {
            root = ap (λ (n : Node). is_directory n.kind) node;
            made = omega arith;
            sorted = λ number. subst (λ (entries : Entries). IsStrictlySortedBy (slice_cmp nat_cmp) (keys_of entries)) (sym (no_dirs number)) tt;
            numbered = λ number part held is. absurd (none-some held (sym (no_entry number part) ∙ is));
            only = λ number plain. no_dirs number;
            single = λ number name other dir led led_too. only_root number name other led led_too;
            lost = λ number unled. no_dirs number;
          };
          few = omega arith;
        };
        view = λ i. record { names = names i; objects = nodes i };
      }
