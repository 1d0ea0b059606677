-- The objects of lines without a fault can be created one after the other.
use Rattle.std.proofs.Common.{◌≡◌, ◌≢◌, ◌⊎◌, inl, inr, ℕ, zero, suc, ◌<◌, Bool, true, false, ◌||◌, if◌then◌else◌, nat_le, List, [], ◌∷◌, ◌++◌, length, take, drop, slice_get, Option, Some, None, refl, sym, ap, ◌∙◌, subst, arith, append_assoc, length-append}
use Rattle.std.proofs.lemmas.Bool.{leb-false, lt-leb}
use Rattle.std.proofs.lemmas.List.{append-nil}
use Rattle.std.proofs.lemmas.List.Folds.{list_any-append}
use Rattle.std.proofs.lemmas.Slice.Eq.{bytes_eq-Decides}
use Rattle.std.specs.List.{filter_map, fold}
use Rattle.std.specs.Prelude.{is_some}
use Rattle.std.specs.Str.{bytes_eq}
use Rattle.st_base.specs.Errno.{error_if, first_error}
use Rattle.st_base.specs.declared.errno.Errno.TheVariants.{EEXIST, ENOENT, ENOSPC, ENOTDIR}
use Rattle.st_law.specs.Processes.{tree_with_row}
use Rattle.st_model.proofs.Objects.{names_kept, node_added, objects_kept}
use Rattle.st_model.specs.Tree.{Node, Tree, add_object, is_directory as is_directory_kind, look, look_along, node_at, node_of, node_of_new, object_of, root_only, seen_of, seen_of_kind, seen_through}
use Rattle.st_model.specs.declared.limits.TheConstants.{MOST_OBJECTS}
use Rattle.st_model.specs.declared.object.Kind.{Kind}
use Rattle.st_model.specs.declared.object.Kind.TheVariants as object_kind
use Rattle.st_model.specs.declared.object.NewKind.{NewKind}
use Rattle.st_model.specs.declared.object.NewKind.TheVariants as kind
use Rattle.st_model.specs.declared.object.NewNode.{NewNode}
use Rattle.st_names.proofs.Spelled.{parts_some}
use Rattle.st_names.specs.Name.{Components, last_part, parent, parts_after}
use Rattle.st_names.specs.declared.seen.SeenText.{SeenText}
use Rattle.st_names.specs.declared.seen.SeenText.TheVariants.{NotDir, Dir}
use Rattle.st_script_faults.specs.Faults.{WholeScript}
use Rattle.st_script_names.specs.Names.{Name, Names, directory_of, is_name_among, is_known_directory, no_names, with_object, with_says}
use Rattle.st_script_names.specs.declared.limits.TheConstants.{MOST_TREE_ROWS}
use Rattle.st_statements.specs.declared.statement.ScriptLine.{ScriptLine}
use Rattle.st_statements.specs.declared.statement.Statement.TheVariants as says
use Rattle.st_trace.specs.declared.start.TreeRow.{TreeRow}
use Rattle.st_tree.proofs.Reasons.{parent-last_part}
use Rattle.st_model.specs.Adding.{add_refused, is_missing, is_no_directory}
use Rattle.st_script.proofs.Said.{AreSaid}
use Rattle.st_script.specs.Reading.{object_name, object_said}
use Rattle.st_script.proofs.Counted.{NoFault, AtEnd, After, added, not_false, or_left, or_right}
use Rattle.st_script.proofs.Slashes.{IsSlashed, directory_parts, normal_slashed, same_text, slashed_parts}

-- ---- what is seen of a name after one more object

-- there is an object, and it is seen as a directory
pub record IsSeen (o : Option Node) (rest : SeenText) : Type 0 where
  pub node : Node
  pub there : o ≡ Some node
  pub following : rest ≡ Dir
  pub passes : (x : SeenText) → seen_through o x ≡ x

seen_here : (o : Option Node) → seen_of o ≡ Dir → (node : Node) × (o ≡ Some node)
seen_here None e = absurd (cc)
seen_here (Some node) e = (node, refl)

passes_kind : (k : Kind) (content : List ℕ) (x : SeenText) → seen_of_kind k content ≡ Dir → (if is_directory_kind k then x else NotDir) ≡ x
passes_kind object_kind.Dir content x e = refl
passes_kind object_kind.File content x e = absurd (cc)
passes_kind object_kind.Link content x e = absurd (cc)

passes : (o : Option Node) (x : SeenText) → seen_of o ≡ Dir → seen_through o x ≡ x
passes None x e = absurd (cc)
passes (Some node) x e = passes_kind node.kind node.content x e

through_by : (node : Node) (rest : SeenText) (b : Bool) → is_directory_kind node.kind ≡ b → (if b then rest else NotDir) ≡ Dir → IsSeen (Some node) rest
through_by node rest true is e = record { node = node; there = refl; following = e; passes = λ x. ap (λ b. if b then x else NotDir) is }
through_by node rest false is e = absurd (cc)

seen_after : (o : Option Node) (rest : SeenText) → seen_through o rest ≡ Dir → IsSeen o rest
seen_after None rest e = absurd (cc)
seen_after (Some node) rest e = through_by node rest (is_directory_kind node.kind) refl e

-- a name that no object has is given to a new object
module _ (tree : Tree) (name : Components) (node : Node) (free : object_of tree name ≡ None) where
  abbrev more : Tree
  more = add_object tree name node

  node_kept : (done : Components) (old : Node) → node_of tree done ≡ Some old → node_of more done ≡ Some old
  node_kept done old is = kept (object_of tree done) refl is where
    kept : (o : Option ℕ) → object_of tree done ≡ o → node_at tree o ≡ Some old → node_of more done ≡ Some old
    kept None here is = absurd (cc)
    kept (Some n) here is =
        let differs : done ≢ name = λ same. let clash : Some n ≡ None = sym here ∙ ap (object_of tree) same ∙ free in cc in
        ap (node_at more) (names_kept tree name done node differs ∙ here) ∙ objects_kept tree name node old n is

  pub look_kept : (done rest : Components) → look_along tree done rest ≡ Dir → look_along more done rest ≡ Dir
  look_kept done [] is =
      let here = seen_here (node_of tree done) is in
      ap seen_of (node_kept done here.0 here.1) ∙ sym (ap seen_of here.1) ∙ is
  look_kept done (part ∷ rest) is =
      let s = seen_after (node_of tree done) (look_along tree (done ++ part ∷ []) rest) is in
      let still : node_of more done ≡ node_of tree done = node_kept done s.node s.there ∙ sym s.there in
      ap (λ o. seen_through o (look_along more (done ++ part ∷ []) rest)) still ∙ s.passes (look_along more (done ++ part ∷ []) rest) ∙ look_kept (done ++ part ∷ []) rest s.following

-- what is seen of a name in a directory is the name's object
look_pushed : (tree : Tree) (done front : Components) (part : List ℕ) → look_along tree done front ≡ Dir → look_along tree done (front ++ part ∷ []) ≡ seen_of (node_of tree ((done ++ front) ++ part ∷ []))
look_pushed tree done [] part is =
    passes (node_of tree done) (seen_of (node_of tree (done ++ part ∷ []))) is ∙ ap (λ (d : Components). seen_of (node_of tree (d ++ part ∷ []))) (sym (append-nil done))
look_pushed tree done (first ∷ front) part is =
    let s = seen_after (node_of tree done) (look_along tree (done ++ first ∷ []) front) is in
    s.passes (look_along tree (done ++ first ∷ []) (front ++ part ∷ [])) ∙ look_pushed tree (done ++ first ∷ []) front part s.following
    ∙ ap (λ (d : Components). seen_of (node_of tree (d ++ part ∷ []))) (append_assoc done (first ∷ []) front)

look_made : (tree : Tree) (name : Components) (node : Node) → 0 < length name → look tree (parent name) ≡ Dir → object_of tree name ≡ None → look (add_object tree name node) name ≡ seen_of (Some node)
look_made tree name node some is free =
    let more = add_object tree name node in
    let whole : parent name ++ last_part name ∷ [] ≡ name = parent-last_part name some in
    let named : name ≢ [] = λ e. let none : 0 < 0 = subst (λ (n : Components). 0 < length n) e some in absurd (omega (arith, none)) in
    ap (look more) (sym whole) ∙ look_pushed more [] (parent name) (last_part name) (look_kept tree name node free [] (parent name) is)
    ∙ ap (λ (n : Components). seen_of (node_of more n)) whole ∙ ap seen_of (node_added tree name node named)

not_refused : (tree : Tree) (name : Components) → look tree (parent name) ≡ Dir → object_of tree name ≡ None → length tree.objects < MOST_OBJECTS → add_refused tree name ≡ None
not_refused tree name is free few =
    let count : nat_le MOST_OBJECTS (length tree.objects) ≡ false = lt-leb MOST_OBJECTS (length tree.objects) few in
    λ k. first_error (first_error (first_error (error_if (is_missing (is k)) ENOENT ∷ error_if (is_no_directory (is k)) ENOTDIR ∷ []) ∷ error_if (is_some (free k)) EEXIST ∷ []) ∷ error_if (count k) ENOSPC ∷ [])

-- ---- the tree of the rows above

-- a tree has the paths that rows defined, and no others
record Stands (above : Names) (tree : Tree) : Type 0 where
  pub objects : length tree.objects ≡ suc (length above.paths)
  pub root : look tree [] ≡ Dir
  pub free : (path : List ℕ) → IsSlashed path → is_name_among above.paths path ≡ false → object_of tree (object_name path) ≡ None
  pub directories : (path : List ℕ) → is_name_among above.directories path ≡ true → look tree (parts_after path) ≡ Dir

none_yet : (name : Components) → 0 < length name → object_of root_only name ≡ None
none_yet [] some = absurd (omega (arith, some))
none_yet (part ∷ name) some = refl

stands_first : Stands no_names root_only
stands_first = record {
  objects = refl;
  root = refl;
  free = λ path is none. none_yet (object_name path) (parts_some (drop 1 path));
  directories = λ path has. absurd (cc);
}

there : (above : Names) (tree : Tree) → Stands above tree → (path : List ℕ) → is_known_directory above.directories path ≡ true → look tree (parts_after path) ≡ Dir
there above tree s [] has = s.root
there above tree s (byte ∷ bytes) has = s.directories (byte ∷ bytes) has

parent_there : (above : Names) (tree : Tree) → Stands above tree → (path : List ℕ) → IsSlashed path → is_known_directory above.directories (directory_of path) ≡ true → look tree (parent (object_name path)) ≡ Dir
parent_there above tree s path is has = ap (look tree) (sym (directory_parts path is)) ∙ there above tree s (directory_of path) has

recorded_by : (b c : Bool) → (b || (c || false)) ≡ true → (b ≡ true) ⊎ (c ≡ true)
recorded_by true c e = inl refl
recorded_by false true e = inr refl
recorded_by false false e = absurd (cc)

recorded_in : (names : List Name) (name other : Name) (b : Bool) → is_name_among (if b then names else names ++ name ∷ []) other ≡ true → (is_name_among names other ≡ true) ⊎ (other ≡ name)
recorded_in names name other true has = inl has
recorded_in names name other false has =
    elim (recorded_by (is_name_among names other) (bytes_eq other name) (sym (list_any-append (bytes_eq other) names (name ∷ [])) ∙ has)) [
      | inl old ↦ inl old
      | inr same ↦ inr ((bytes_eq-Decides other name).0 same)
    ]

unrecorded_in : (names : List Name) (name other : Name) (b : Bool) → b ≡ false → is_name_among (if b then names else names ++ name ∷ []) other ≡ false → (is_name_among names other ≡ false) × (other ≢ name)
unrecorded_in names name other true e none = absurd (cc)
unrecorded_in names name other false e none =
    let both : (is_name_among names other || (bytes_eq other name || false)) ≡ false = sym (list_any-append (bytes_eq other) names (name ∷ [])) ∙ none in
    let differs : bytes_eq other name ≡ false = or_left (bytes_eq other name) false (or_right (is_name_among names other) (bytes_eq other name || false) both) in
    (or_left (is_name_among names other) (bytes_eq other name || false) both, λ same. let is = (bytes_eq-Decides other name).1 same in let clash : true ≡ false = sym is ∙ differs in cc)

seen_new : (new : NewNode) (k : NewKind) → new.kind ≡ k → k ≡ kind.Dir → seen_of (Some (node_of_new new)) ≡ Dir
seen_new new k is dir = let e : new.kind ≡ kind.Dir = is ∙ dir in ap (λ (made : NewKind). seen_of (Some (node_of_new (record { kind = made; uid = new.uid; gid = new.gid; mode = new.mode })))) e

module _ (above : Names) (tree : Tree) (path : List ℕ) (new : NewNode) (s : Stands above tree) (is : IsSlashed path) (has : is_known_directory above.directories (directory_of path) ≡ true) (none : is_name_among above.paths path ≡ false) where
  abbrev name : Components
  name = object_name path

  abbrev grown : Tree
  grown = add_object tree name (node_of_new new)

  is_free : object_of tree name ≡ None
  is_free = s.free path is none

  seen_in : look tree (parent name) ≡ Dir
  seen_in = parent_there above tree s path is has

  kept_there : (other : List ℕ) → is_name_among above.directories other ≡ true → look grown (parts_after other) ≡ Dir
  kept_there other recorded = look_kept tree name (node_of_new new) is_free [] (parts_after other) (s.directories other recorded)

  directories_more : (k : NewKind) → new.kind ≡ k → (other : List ℕ) → is_name_among (with_object above.directories path k) other ≡ true → look grown (parts_after other) ≡ Dir
  directories_more kind.Dir kind_is other recorded =
      elim (recorded_in above.directories path other (is_name_among above.directories path) recorded) [
        | inl old ↦ kept_there other old
        | inr same ↦ ap (λ (p : List ℕ). look grown (parts_after p)) same ∙ ap (look grown) (slashed_parts path is) ∙ look_made tree name (node_of_new new) (parts_some (drop 1 path)) seen_in is_free ∙ seen_new new kind.Dir kind_is refl
      ]
  directories_more (kind.File content) kind_is other recorded = kept_there other recorded
  directories_more (kind.Link target) kind_is other recorded = kept_there other recorded

  stands_more : Stands (with_says above (Some (says.Object path new))) grown
  stands_more = record {
    objects = let one = length-append tree.objects (node_of_new new ∷ []) in let count = added above.paths path (is_name_among above.paths path) none in let so_far = s.objects in omega (arith, one, count, so_far);
    root = look_kept tree name (node_of_new new) is_free [] [] s.root;
    free = λ other slashed unrecorded.
        let apart = unrecorded_in above.paths path other (is_name_among above.paths path) none unrecorded in
        names_kept tree name (object_name other) (node_of_new new) (λ same. apart.1 (same_text other path slashed is same)) ∙ s.free other slashed apart.0;
    directories = directories_more new.kind refl;
  }

  can_be_made : nat_le MOST_TREE_ROWS (length above.paths) ≡ false → add_refused tree name ≡ None
  can_be_made few = let room : length above.paths < MOST_TREE_ROWS = leb-false MOST_TREE_ROWS (length above.paths) few in let count = s.objects in not_refused tree name seen_in is_free (omega (arith, room, count))

-- ---- row by row

-- rows can be put into a tree, each after the rows before it
abbrev StandAlong : Tree → List TreeRow → Type 0
StandAlong tree [] = Unit {0}
StandAlong tree (row ∷ rows) = (add_refused tree row.name ≡ None) × StandAlong (tree_with_row tree row) rows

stand : (whole : WholeScript) (above : Names) (lines : List ScriptLine) → NoFault whole above lines → AreSaid lines → (tree : Tree) → Stands above tree → StandAlong tree (filter_map (λ line. object_said line.says) lines)
stand whole above _ (AtEnd _) said tree s = tt
stand whole above _ (After _ n (says.Object path new) lines ok rest) said tree s =
    let slashed : IsSlashed path = normal_slashed path said.0 in
    let has : is_known_directory above.directories (directory_of path) ≡ true = not_false (is_known_directory above.directories (directory_of path)) ok.known in (
      can_be_made above tree path new s slashed has ok.new (or_left _ _ ok.few),
      stand whole (with_says above (Some (says.Object path new))) lines rest said.1 (add_object tree (object_name path) (node_of_new new)) (stands_more above tree path new s slashed has ok.new),
    )
stand whole above _ (After _ n t lines ok rest) said tree s =
    stand whole (with_says above (Some t)) lines rest said.1 tree (record { objects = s.objects; root = s.root; free = s.free; directories = s.directories })

along : (tree : Tree) (rows : List TreeRow) → StandAlong tree rows → (k : ℕ) (row : TreeRow) → slice_get rows k ≡ Some row → add_refused (fold tree_with_row tree (take k rows)) row.name ≡ None
along tree [] all k row is = absurd (cc)
along tree (first ∷ rows) all zero row is = let same : first ≡ row = cc in subst (λ (r : TreeRow). add_refused tree r.name ≡ None) same all.0
along tree (first ∷ rows) all (suc k) row is = along (tree_with_row tree first) rows all.1 k row is

pub objects_stand : (whole : WholeScript) (lines : List ScriptLine) → NoFault whole no_names lines → AreSaid lines →
    (k : ℕ) (row : TreeRow) → slice_get (filter_map (λ line. object_said line.says) lines) k ≡ Some row → add_refused (fold tree_with_row root_only (take k (filter_map (λ line. object_said line.says) lines))) row.name ≡ None
objects_stand whole lines ok said = along root_only (filter_map (λ line. object_said line.says) lines) (stand whole no_names lines ok said root_only stands_first)
