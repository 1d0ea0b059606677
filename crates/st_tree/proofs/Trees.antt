-- The tree that the objects represent: looks at its names, and its objects.
use Rattle.std.proofs.Common.{◌≡◌, ap, refl, subst, sym, ◌∙◌, ℕ, zero, suc, ◌-◌, Bool, true, false, List, [], ◌∷◌, ◌++◌, length, get_or, Option, Some, None, Result, Ok, Err, IfOk, option_and_then, arith}
use Rattle.std.proofs.lemmas.Bool.{true≢false}
use Rattle.std.proofs.lemmas.List.{get_or-map, length-map}
use Rattle.std.proofs.lemmas.Option.{slice_get-map}
use Rattle.std.specs.Option.{option_map}
use Rattle.std.specs.Result.{result_ok}
use Rattle.std.specs.Prelude.{◌↔◌, IfSome, IsNone, is_some, if◌then◌else◌}
use Rattle.st_names.specs.Name.{Components}
use Rattle.st_model.specs.Tree.{Node, Tree, entry_count, is_directory, look, look_along, node_at, node_with_number, node_of_number, object_of, root_node, seen_through, seen_of, seen_of_kind, size_of_kind, size_of}
use Rattle.st_names.specs.declared.seen.SeenText.{SeenText}
use Rattle.st_names.specs.declared.seen.SeenText.TheVariants as seen
use Rattle.st_tree.specs.Objects.{content_of_body, dirs_of, is_dir_of, is_dir_at, entries_of_body, kind_of_body, object_node, tree_of, IsNumber, IsValidTree}
use Rattle.st_base.specs.Numbered.{item_at_number}
use Rattle.st_tree.specs.Paths.{dir_entry, object_from, names_under}
use Rattle.st_tree.specs.Reached.{and_then_from, object_or_gap, gap_or_entry}
use Rattle.st_tree.specs.Refusals.{is_absent, IsObjectNumber}
use Rattle.st_tree.specs.declared.object.Body.{Body}
use Rattle.st_tree.specs.declared.object.Body.TheVariants.{Dir, File, Link}
use Rattle.st_tree.specs.declared.object.Object.{Object}
use Rattle.st_tree.specs.declared.places.Gap.{Gap}
use Rattle.st_tree.specs.declared.places.Gap.TheVariants.{Missing, NotDir}
use Rattle.st_tree.proofs.Flat.{entries_counted, leads-append, object_reached}
use Rattle.st_tree.proofs.Leads.{leads_end}
use Rattle.st_tree.proofs.Numbers.{dirs_at, is_dir_at_number, numbered-get}
use Rattle.st_tree.proofs.Ways.{entry_within, leads_reached, reached_within}

-- ---- names, and objects by their numbers

pub names_made : (objects : List Object) → (tree_of objects).names ≡ names_under (length objects) (dirs_of objects) 1
unfolding tree_of
names_made objects = refl

pub count_made : (objects : List Object) → length (tree_of objects).objects ≡ length objects
unfolding tree_of
count_made objects = length-map objects object_node

-- a name's object is the object to which the name leads
pub object_led : (objects : List Object) → IsValidTree objects → (name : Components) → object_of (tree_of objects) name ≡ object_from (dirs_of objects) 1 name
object_led objects whole name = object_reached (length objects) (is_dir_of objects) (dirs_of objects) whole.directories (tree_of objects) (names_made objects) name

pub numbered_made : (objects : List Object) (number : ℕ) → node_of_number (tree_of objects) number ≡ option_map object_node (item_at_number objects number)
unfolding tree_of
numbered_made objects zero = refl
numbered_made objects (suc before) = slice_get-map object_node objects before

pub node_at_number : (objects : List Object) (number : ℕ) (object : Object) → IsNumber objects number → object ≡ get_or objects (number - 1) object → node_with_number (tree_of objects) number ≡ object_node object
unfolding tree_of
node_at_number objects number object is read = get_or-map object_node objects (number - 1) object root_node (omega (arith, is.0, is.1)) ∙ ap object_node (sym read)

pub entries_at_number : (objects : List Object) (number : ℕ) → IsValidTree objects → entry_count (tree_of objects) number ≡ length (dirs_of objects number)
entries_at_number objects number whole = entries_counted (length objects) (is_dir_of objects) (dirs_of objects) whole.directories number (tree_of objects) (names_made objects)

pub size_at_number : (objects : List Object) (number : ℕ) (object : Object) → IsValidTree objects → IsNumber objects number → object ≡ get_or objects (number - 1) object
    → size_of (tree_of objects) number ≡ size_of_kind (object_node object).kind (length (entries_of_body object.body)) (object_node object).content
size_at_number objects number object whole is read =
    ap (λ (node : Node). size_of_kind node.kind (entry_count (tree_of objects) number) node.content) (node_at_number objects number object is read)
    ∙ ap (λ (count : ℕ). size_of_kind (object_node object).kind count (object_node object).content) (entries_at_number objects number whole ∙ ap length (dirs_at objects number object object is read))

-- ---- looks at names

-- the result of a look, by the object that is reached or the reason why none is
abbrev pub seen_reached : List Object → Result ℕ Gap → SeenText
seen_reached objects (Ok number) = seen_of (option_map object_node (item_at_number objects number))
seen_reached objects (Err Missing) = seen.Missing
seen_reached objects (Err NotDir) = seen.NotDir

look_lost : (tree : Tree) (done rest : Components) → object_of tree done ≡ None → look_along tree done rest ≡ seen.Missing
look_lost tree done [] none = ap (λ (o : Option ℕ). seen_of (node_at tree o)) none
look_lost tree done (part ∷ rest) none = ap (λ (o : Option ℕ). seen_through (node_at tree o) (look_along tree (done ++ part ∷ []) rest)) none

step_seen : (objects : List Object) (rest : Components) (dir : Bool) (found : Option ℕ) (following : SeenText) → (found ≡ None → following ≡ seen.Missing) → ((number : ℕ) → found ≡ Some number → following ≡ seen_reached objects (object_or_gap objects number rest))
    → (if dir then following else seen.NotDir) ≡ seen_reached objects (and_then_from (gap_or_entry dir found) (λ number. object_or_gap objects number rest))
step_seen objects rest false found following none some = refl
step_seen objects rest true None following none some = none refl
step_seen objects rest true (Some number) following none some = some number refl

object_seen : (objects : List Object) (rest : Components) (at : Option Object) (found : Option ℕ) (following : SeenText) → is_some at ≡ true → (found ≡ None → following ≡ seen.Missing) → ((number : ℕ) → found ≡ Some number → following ≡ seen_reached objects (object_or_gap objects number rest))
    → seen_through (option_map object_node at) following ≡ seen_reached objects (and_then_from (gap_or_entry (is_dir_at at) found) (λ number. object_or_gap objects number rest))
object_seen objects rest None found following there none some = absurd (true≢false (sym there))
object_seen objects rest (Some object) found following there none some = step_seen objects rest (is_directory (kind_of_body object.body)) found following none some

pub is_there : (objects : List Object) (number : ℕ) → IsNumber objects number → is_some (item_at_number objects number) ≡ true
is_there [] number is = absurd (omega (arith, is.0, is.1))
is_there (object ∷ objects) number is = ap is_some (numbered-get (object ∷ objects) number object is)

look_on : (objects : List Object) → IsValidTree objects → (done rest : Components) (at : ℕ) → IsNumber objects at → object_from (dirs_of objects) 1 done ≡ Some at → look_along (tree_of objects) done rest ≡ seen_reached objects (object_or_gap objects at rest)
look_on objects whole done [] at is led =
    ap (λ (o : Option ℕ). seen_of (node_at (tree_of objects) o)) (object_led objects whole done ∙ led) ∙ ap seen_of (numbered_made objects at)
look_on objects whole done (part ∷ rest) at is led =
    let following : SeenText = look_along (tree_of objects) (done ++ part ∷ []) rest in
    ap (λ (o : Option ℕ). seen_through (node_at (tree_of objects) o) following) (object_led objects whole done ∙ led)
    ∙ ap (λ (o : Option Node). seen_through o following) (numbered_made objects at)
    ∙ object_seen objects rest (item_at_number objects at) (dir_entry (dirs_of objects) at part) following (is_there objects at is)
    (λ none. look_lost (tree_of objects) (done ++ part ∷ []) rest (object_led objects whole (done ++ part ∷ []) ∙ leads_end (dirs_of objects) 1 at done part led ∙ none))
    (λ number some. look_on objects whole (done ++ part ∷ []) rest number (entry_within objects at number part whole some) (leads_end (dirs_of objects) 1 at done part led ∙ some))

pub root_is : (objects : List Object) → IsValidTree objects → IsNumber objects 1
root_is objects whole = (omega arith, whole.directories.made)

-- a look at a name is a look at what is reached by the name
pub look_reached : (objects : List Object) → IsValidTree objects → (name : Components) → look (tree_of objects) name ≡ seen_reached objects (object_or_gap objects 1 name)
look_reached objects whole name = look_on objects whole [] name 1 (root_is objects whole) refl

pub look_found : (objects : List Object) → IsValidTree objects → (name : Components) (number : ℕ) (object : Object) → Ok number ≡ object_or_gap objects 1 name → IsNumber objects number → object ≡ get_or objects (number - 1) object
    → look (tree_of objects) name ≡ seen_of_kind (object_node object).kind (object_node object).content
look_found objects whole name number object found is read =
    look_reached objects whole name ∙ ap (seen_reached objects) (sym found) ∙ ap (λ (at : Option Object). seen_of (option_map object_node at)) (numbered-get objects number object is ∙ ap Some (sym read))

pub look_gap : (objects : List Object) → IsValidTree objects → (name : Components) (gap : Gap) → Err gap ≡ object_or_gap objects 1 name → look (tree_of objects) name ≡ seen_reached objects (Err gap)
look_gap objects whole name gap lost = look_reached objects whole name ∙ ap (seen_reached objects) (sym lost)

-- ---- names without an object

body_seen : (body : Body) → is_absent (seen_of_kind (kind_of_body body) (content_of_body body)) ≡ false
body_seen (Dir entries) = refl
body_seen (File content) = refl
body_seen (Link target) = refl

kind_seen : (at : Option Object) → is_some at ≡ true → is_absent (seen_of (option_map object_node at)) ≡ false
kind_seen None there = absurd (true≢false (sym there))
kind_seen (Some object) there = body_seen object.body

-- a look sees no object exactly when the name leads to no object
lost_reached : (objects : List Object) (found : Result ℕ Gap) → IfOk found (IsNumber objects) → (result_ok found ≡ None) ↔ (is_absent (seen_reached objects found) ≡ true)
lost_reached objects (Ok number) is = (λ e. cc, λ e. absurd (true≢false (sym e ∙ kind_seen (item_at_number objects number) (is_there objects number is))))
lost_reached objects (Err Missing) is = (λ e. refl, λ e. refl)
lost_reached objects (Err NotDir) is = (λ e. refl, λ e. refl)

pub look_lost_reached : (objects : List Object) → IsValidTree objects → (name : Components) → (object_of (tree_of objects) name ≡ None) ↔ (is_absent (look (tree_of objects) name) ≡ true)
look_lost_reached objects whole name =
    let found : Result ℕ Gap = object_or_gap objects 1 name in
    let both = lost_reached objects found (reached_within objects whole 1 name (root_is objects whole)) in
    let leads : object_of (tree_of objects) name ≡ result_ok found = object_led objects whole name ∙ sym (leads_reached objects whole 1 name) in
    let sees : look (tree_of objects) name ≡ seen_reached objects found = look_reached objects whole name in
    (λ none. ap is_absent sees ∙ both.0 (sym leads ∙ none), λ lost. leads ∙ both.1 (ap is_absent (sym sees) ∙ lost))

pub object_found : (objects : List Object) → IsValidTree objects → (name : Components) → object_of (tree_of objects) name ≡ result_ok (object_or_gap objects 1 name)
object_found objects whole name = object_led objects whole name ∙ sym (leads_reached objects whole 1 name)

-- ---- numbers of objects in a tree

-- the number of an object of the tree is the number of a stored object
pub made_within : (objects : List Object) (tree : Tree) (number : ℕ) → tree_of objects ≡ tree → IsObjectNumber tree number → IsNumber objects number
made_within objects tree number is made = (made.0, omega (arith, made.1, count_made objects, ap (λ (t : Tree). length t.objects) is))

pub within_made : (objects : List Object) (tree : Tree) (number : ℕ) → tree_of objects ≡ tree → IsNumber objects number → IsObjectNumber tree number
within_made objects tree number is inside = (inside.0, omega (arith, inside.1, count_made objects, ap (λ (t : Tree). length t.objects) is))

pub none_lost : (objects : List Object) → IsValidTree objects → (tree : Tree) (name : Components) (found : Option ℕ) → tree_of objects ≡ tree → found ≡ object_of tree name → IsNone found ↔ (is_absent (look tree name) ≡ true)
none_lost objects whole tree name found is object = subst (λ (t : Tree). found ≡ object_of t name → IsNone found ↔ (is_absent (look t name) ≡ true)) is (by found) object where
  by : (found : Option ℕ) → found ≡ object_of (tree_of objects) name → IsNone found ↔ (is_absent (look (tree_of objects) name) ≡ true)
  by None object = (λ none. (look_lost_reached objects whole name).0 (sym object), λ lost. refl)
  by (Some number) object = (
    λ none. absurd (true≢false none),
    λ lost.
        let none : object_of (tree_of objects) name ≡ None = (look_lost_reached objects whole name).1 lost in
        let clash : Some number ≡ None = object ∙ none in
        cc,
  )

pub some_made : (objects : List Object) (tree : Tree) (found : Result ℕ Gap) → tree_of objects ≡ tree → IfOk found (IsNumber objects) → IfSome (result_ok found) (IsObjectNumber tree)
some_made objects tree (Ok number) is inside = within_made objects tree number is inside
some_made objects tree (Err gap) is inside = tt

-- ---- one more component

-- the object of a component in a name's object is the object of the longer name
pub child_led : (objects : List Object) → IsValidTree objects → (tree : Tree) → tree_of objects ≡ tree → (name : Components) (at : ℕ) (part : List ℕ) → object_of tree name ≡ Some at
    → dir_entry (dirs_of objects) at part ≡ object_of tree (name ++ part ∷ [])
child_led objects whole tree is name at part found =
    let led : object_from (dirs_of objects) 1 name ≡ Some at = sym (object_led objects whole name) ∙ ap (λ (t : Tree). object_of t name) is ∙ found in
    sym (ap (λ (t : Tree). object_of t (name ++ part ∷ [])) (sym is) ∙ object_led objects whole (name ++ part ∷ []) ∙ leads_end (dirs_of objects) 1 at name part led)

-- if a name has no object, no longer name has an object
pub lost_below : (objects : List Object) → IsValidTree objects → (tree : Tree) → tree_of objects ≡ tree → (name rest : Components) → object_of tree name ≡ None → object_of tree (name ++ rest) ≡ None
lost_below objects whole tree is name rest none =
    ap (λ (t : Tree). object_of t (name ++ rest)) (sym is) ∙ object_led objects whole (name ++ rest) ∙ leads-append (dirs_of objects) 1 name rest
    ∙ ap (option_and_then (λ number. object_from (dirs_of objects) number rest)) (sym (object_led objects whole name) ∙ ap (λ (t : Tree). object_of t name) is ∙ none)

-- the object of a component exists
pub child_made : (objects : List Object) → IsValidTree objects → (tree : Tree) → tree_of objects ≡ tree → (at : ℕ) (part : List ℕ) (held : Option ℕ) → held ≡ dir_entry (dirs_of objects) at part → IfSome held (IsObjectNumber tree)
child_made objects whole tree is at part None entry = tt
child_made objects whole tree is at part (Some number) entry = within_made objects tree number is (entry_within objects at number part whole (sym entry))

-- ---- directories, and objects that are no directories

-- the root is a directory
pub root_directory : (objects : List Object) → IsValidTree objects → (tree : Tree) → tree_of objects ≡ tree → is_directory (node_with_number tree 1).kind ≡ true
root_directory [] whole tree is = absurd (omega (arith, whole.directories.made))
root_directory (first ∷ objects) whole tree is =
    let number : IsNumber (first ∷ objects) 1 = root_is (first ∷ objects) whole in
    ap (λ (t : Tree). is_directory (node_with_number t 1).kind) (sym is)
    ∙ ap (λ (node : Node). is_directory node.kind) (node_at_number (first ∷ objects) 1 first number refl)
    ∙ sym (is_dir_at_number (first ∷ objects) 1 first first number refl) ∙ whole.directories.root

-- an object that is no directory has no entries
pub plain_bare : (objects : List Object) → IsValidTree objects → (tree : Tree) → tree_of objects ≡ tree → (number : ℕ) (object : Object) → IsNumber objects number → object ≡ get_or objects (number - 1) object
    → is_directory (object_node object).kind ≡ false → entry_count tree number ≡ 0
plain_bare objects whole tree is number object made read plain =
    ap (λ (t : Tree). entry_count t number) (sym is) ∙ entries_at_number objects number whole
    ∙ ap length (whole.directories.only number (λ dir. true≢false (sym dir ∙ is_dir_at_number objects number object object made read ∙ plain)))
