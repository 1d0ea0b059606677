-- Changes of one object that don't change its entries.
use Rattle.std.proofs.Common.{◌≡◌, ap, refl, sym, ◌∙◌, subst, ℕ, zero, suc, ◌-◌, List, [], ◌∷◌, map, length, get_or, set, arith}
use Rattle.std.proofs.Math.Seq.{map-set_same}
use Rattle.std.proofs.lemmas.List.{length-set, map-set}
use Rattle.std.specs.Prelude.{slice_get}
use Rattle.st_model.specs.Tree.{Node, Tree, is_directory, node_with_number, set_mode, set_owner, with_node}
use Rattle.st_tree.specs.Nodes.{with_content}
use Rattle.st_tree.specs.Objects.{dirs_of, entries_at, entries_of_body, is_dir_at, is_dir_of, kind_of_body, object_node, tree_of, IsValidTree}
use Rattle.st_tree.specs.Paths.{AreDirectories, names_under}
use Rattle.st_tree.specs.Refusals.{IsObjectNumber}
use Rattle.st_tree.specs.declared.object.Object.{Object}
use Rattle.st_tree.proofs.Changes.{Makes, made_again}
use Rattle.st_tree.proofs.Flat.{same_names_under}
use Rattle.st_tree.proofs.Leads.{same_directories}
use Rattle.st_tree.proofs.Trees.{made_within, node_at_number}

-- all entries stay the same if those of the changed object do
set_entries : (objects : List Object) (i j : ℕ) (object d : Object) → entries_of_body object.body ≡ entries_of_body (get_or objects i d).body → entries_at (slice_get (set objects i object) j) ≡ entries_at (slice_get objects j)
set_entries [] i j object d same = refl
set_entries (first ∷ objects) zero zero object d same = same
set_entries (first ∷ objects) zero (suc j) object d same = refl
set_entries (first ∷ objects) (suc i) zero object d same = refl
set_entries (first ∷ objects) (suc i) (suc j) object d same = set_entries objects i j object d same

-- the same objects are directories if the changed object keeps its kind
set_dir : (objects : List Object) (i j : ℕ) (object d : Object) → kind_of_body object.body ≡ kind_of_body (get_or objects i d).body → is_dir_at (slice_get (set objects i object) j) ≡ is_dir_at (slice_get objects j)
set_dir [] i j object d same = refl
set_dir (first ∷ objects) zero zero object d same = ap is_directory same
set_dir (first ∷ objects) zero (suc j) object d same = refl
set_dir (first ∷ objects) (suc i) zero object d same = refl
set_dir (first ∷ objects) (suc i) (suc j) object d same = set_dir objects i j object d same

module _ (objects : List Object) (whole : IsValidTree objects) (tree : Tree) (view : tree_of objects ≡ tree) (number : ℕ) (before object : Object) (read : before ≡ get_or objects (number - 1) before) (entries : entries_of_body object.body ≡ entries_of_body before.body) where
  dirs_kept : (other : ℕ) → dirs_of (set objects (number - 1) object) other ≡ dirs_of objects other
  dirs_kept zero = refl
  dirs_kept (suc j) = set_entries objects (number - 1) j object before (entries ∙ ap (λ (o : Object). entries_of_body o.body) read)

  -- the object has the same node as before
  pub updated_same : object_node object ≡ object_node before → Makes (set objects (number - 1) object) tree
  updated_same same =
      subst (Makes (set objects (number - 1) object)) view
      (made_again objects (set objects (number - 1) object) whole (map-set_same object_node objects (number - 1) object before (same ∙ ap object_node read)) dirs_kept)

  -- the object has another node of the same kind
  pub updated : (node : Node) → object_node object ≡ node → kind_of_body object.body ≡ kind_of_body before.body → Makes (set objects (number - 1) object) (with_node tree number node)
  unfolding tree_of
  updated node node_is kind =
      let new : List Object = set objects (number - 1) object in
      let count : length new ≡ length objects = length-set objects (number - 1) object in
      let names : names_under (length new) (dirs_of new) 1 ≡ names_under (length objects) (dirs_of objects) 1 =
      ap (λ (n : ℕ). names_under n (dirs_of new) 1) count ∙ same_names_under (dirs_of new) (dirs_of objects) dirs_kept (length objects) 1 in
      let nodes : map object_node new ≡ set (map object_node objects) (number - 1) node = map-set object_node objects (number - 1) object ∙ ap (set (map object_node objects) (number - 1)) node_is in
      subst (λ (t : Tree). Makes new (with_node t number node)) view (record {
        whole = record {
          directories = subst (λ (n : ℕ). AreDirectories n (is_dir_of new) (dirs_of new)) (sym count) (same_directories (dir_by kind) dirs_kept whole.directories);
          few = omega (arith, count, whole.few);
        };
        view = λ i. record { names = names i; objects = nodes i };
      }) where
        dir_by : kind_of_body object.body ≡ kind_of_body before.body → (other : ℕ) → is_dir_of (set objects (number - 1) object) other ≡ is_dir_of objects other
        dir_by kind zero = refl
        dir_by kind (suc j) = set_dir objects (number - 1) j object before (kind ∙ ap (λ (o : Object). kind_of_body o.body) read)

module _ (objects : List Object) (whole : IsValidTree objects) (tree : Tree) (view : tree_of objects ≡ tree) (number : ℕ) (before : Object) (read : before ≡ get_or objects (number - 1) before) (made : IsObjectNumber tree number) where
  -- the object's node in the tree
  pub node_before : node_with_number tree number ≡ object_node before
  node_before = ap (λ (t : Tree). node_with_number t number) (sym view) ∙ node_at_number objects number before (made_within objects tree number view made) read

  pub mode_set : (mode : ℕ) → Makes (set objects (number - 1) (record before { mode = mode })) (set_mode tree number mode)
  mode_set mode = updated objects whole tree view number before (record before { mode = mode }) read refl _ (ap (λ (node : Node). record node { mode = mode }) (sym node_before)) refl

  pub owner_set : (uid gid : ℕ) → Makes (set objects (number - 1) (record before { uid = uid; gid = gid })) (set_owner tree number uid gid)
  owner_set uid gid = updated objects whole tree view number before (record before { uid = uid; gid = gid }) read refl _ (ap (λ (node : Node). record node { uid = uid; gid = gid }) (sym node_before)) refl

  -- the function `f` is applied to the object's content
  pub content_set : (object : Object) (f : List ℕ → List ℕ) → object_node object ≡ with_content (object_node before) (f (object_node before).content) → entries_of_body object.body ≡ entries_of_body before.body
      → Makes (set objects (number - 1) object) (with_node tree number (with_content (node_with_number tree number) (f (node_with_number tree number).content)))
  content_set object f is entries =
      updated objects whole tree view number before object read entries _ (is ∙ ap (λ (node : Node). with_content node (f node.content)) (sym node_before)) (ap (λ (node : Node). node.kind) is)
