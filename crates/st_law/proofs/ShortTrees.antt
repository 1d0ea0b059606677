-- Trees whose links have short targets, and how changes keep this: by the kind of each object, and the content of each link.
use native.Mathlib.Omega.{arith}
use Rattle.std.proofs.Common.{◌≡◌, ◌≤◌, ℕ, zero, suc, ◌+◌, ◌-◌, false, List, [], ◌∷◌, ◌++◌, length, slice_get, slice_index_or, slice_set, Option, Some, None, refl, sym, subst, ◌∙◌}
use Rattle.std.specs.List.{All, fold}
use Rattle.st_names.specs.Name.{Components}
use Rattle.st_model.specs.Tree.{Tree, Node, node_of_kind, kind_of_new, content_of_new, root_node, node_at, node_with_number, object_of, bytes_after_write, bytes_after_cut}
use Rattle.st_model.specs.declared.limits.TheConstants.{LONGEST_TEXT}
use Rattle.st_model.specs.declared.object.Kind.{Kind}
use Rattle.st_model.specs.declared.object.Kind.TheVariants as object_kind
use Rattle.st_model.specs.declared.object.NewKind.{NewKind}
use Rattle.st_model.specs.declared.object.NewKind.TheVariants as made
use Rattle.st_effects.specs.Changes.{tree_after_change, tree_after}
use Rattle.st_effects.specs.Names.{is_link}
use Rattle.st_effects.specs.NameTests.{Object, object_with, object_numbered, object_at}
use Rattle.st_trace.specs.declared.entry.Change.{Change}
use Rattle.st_trace.specs.declared.entry.Change.TheVariants.{Made, Linked, Removed, Renamed, Written, Cut, Moded, Owned, Put, Forked, Execed, SetIds, Cwd, Dying, Renewed, Policy}
use Rattle.st_trace.specs.declared.start.TreeRow.{TreeRow}
use Rattle.st_law.specs.Arguments.{is_link_node, is_link_at}
use Rattle.st_law.specs.Inputs.{HasShortTarget}
use Rattle.st_law.specs.Processes.{tree_with_row}
use Rattle.st_law.proofs.Shapes.{Each}

-- ---- objects

-- a link's content isn't too long
abbrev pub IsShortContent : Kind → List ℕ → Type 0
IsShortContent object_kind.Dir content = Unit {0}
IsShortContent object_kind.File content = Unit {0}
IsShortContent object_kind.Link content = length content ≤ LONGEST_TEXT

-- each of these objects that is a link has a content that isn't too long
abbrev pub AreShort : List Node → Type 0
AreShort [] = Unit {0}
AreShort (node ∷ nodes) = IsShortContent node.kind node.content × AreShort nodes

-- every object of the tree that is a link has a content of at most 255 bytes
abbrev pub HasShortLinks : Tree → Type 0
HasShortLinks tree = AreShort tree.objects

-- the object at this index exists, and is no link
abbrev pub IsPlainAt : List Node → ℕ → Type 0
IsPlainAt [] place = ⊥
IsPlainAt (node ∷ nodes) zero = is_link node.kind ≡ false
IsPlainAt (node ∷ nodes) (suc place) = IsPlainAt nodes place

-- the object of this number, counted from 1, exists and is no link
abbrev pub IsPlain : List Node → ℕ → Type 0
IsPlain nodes number = IsPlainAt nodes (number - 1)

-- an object that is no link may have any content
any_content : (kind : Kind) (content : List ℕ) → is_link kind ≡ false → IsShortContent kind content
any_content object_kind.Dir content plain = tt
any_content object_kind.File content plain = tt
any_content object_kind.Link content plain = cc

-- an object made with a short target is short
short_made : (kind : NewKind) → HasShortTarget kind → IsShortContent (kind_of_new kind) (content_of_new kind)
short_made made.Dir short = tt
short_made (made.File content) short = tt
short_made (made.Link target) short = short

-- one more object
short_push : (nodes : List Node) (node : Node) → AreShort nodes → IsShortContent node.kind node.content → AreShort (nodes ++ node ∷ [])
short_push [] node all here = (here, tt)
short_push (first ∷ nodes) node all here = (all.0, short_push nodes node all.1 here)

-- an object that existed before stays no link
plain_push : (nodes : List Node) (node : Node) (place : ℕ) → IsPlainAt nodes place → IsPlainAt (nodes ++ node ∷ []) place
plain_push [] node place plain = absurd plain
plain_push (first ∷ nodes) node zero plain = plain
plain_push (first ∷ nodes) node (suc place) plain = plain_push nodes node place plain

-- the new object is no link if its kind is none
plain_last : (nodes : List Node) (node : Node) → is_link node.kind ≡ false → IsPlainAt (nodes ++ node ∷ []) (length nodes)
plain_last [] node plain = plain
plain_last (first ∷ nodes) node plain = plain_last nodes node plain

-- an object replaces another
short_set : (nodes : List Node) (place : ℕ) (node : Node) → AreShort nodes → IsShortContent node.kind node.content → AreShort (slice_set nodes place node)
short_set [] place node all here = tt
short_set (first ∷ nodes) zero node all here = (here, all.1)
short_set (first ∷ nodes) (suc place) node all here = (all.0, short_set nodes place node all.1 here)

-- an object of the same kind leaves each object a link or not
plain_set : (nodes : List Node) (place other : ℕ) (node : Node) → is_link node.kind ≡ is_link (slice_index_or nodes place root_node).kind → IsPlainAt nodes other → IsPlainAt (slice_set nodes place node) other
plain_set [] place other node same plain = absurd plain
plain_set (first ∷ nodes) zero zero node same plain = same ∙ plain
plain_set (first ∷ nodes) zero (suc other) node same plain = plain
plain_set (first ∷ nodes) (suc place) zero node same plain = plain
plain_set (first ∷ nodes) (suc place) (suc other) node same plain = plain_set nodes place other node same plain

-- the object at an index is short
short_get : (nodes : List Node) (place : ℕ) → AreShort nodes → IsShortContent (slice_index_or nodes place root_node).kind (slice_index_or nodes place root_node).content
short_get [] place all = tt
short_get (node ∷ nodes) zero all = all.0
short_get (node ∷ nodes) (suc place) all = short_get nodes place all.1

-- the kind of an object that is no link is no link's
plain_get : (nodes : List Node) (place : ℕ) → IsPlainAt nodes place → is_link (slice_index_or nodes place root_node).kind ≡ false
plain_get [] place plain = absurd plain
plain_get (node ∷ nodes) zero plain = plain
plain_get (node ∷ nodes) (suc place) plain = plain_get nodes place plain

-- ---- changes

-- how the objects after some changes follow from those before: short links stay short, and what was no link is none
pub record IsShortStep (before after : List Node) : Type 0 where
  pub short : AreShort before → AreShort after
  pub plain : (place : ℕ) → IsPlainAt before place → IsPlainAt after place

-- no change of the objects
same_step : (nodes : List Node) → IsShortStep nodes nodes
same_step nodes = record { short = λ all. all; plain = λ place plain. plain }

-- a change fits: it makes an object with a short target, or it writes or cuts an object that is no link
abbrev pub IsFit : List Node → Change → Type 0
IsFit nodes (Made name obj kind uid gid mode) = HasShortTarget kind
IsFit nodes (Written obj at bytes) = IsPlain nodes obj
IsFit nodes (Cut obj len) = IsPlain nodes obj
IsFit nodes _ = Unit {0}

-- each of these changes fits
abbrev pub AreFit : List Node → List Change → Type 0
AreFit nodes changes = Each (IsFit nodes) changes

-- a change that fits the objects of a tree
step_of : (tree : Tree) (c : Change) → IsFit tree.objects c → IsShortStep tree.objects (tree_after_change tree c).objects
step_of tree (Made name obj kind uid gid mode) fit = record {
  short = λ all. short_push tree.objects (node_of_kind kind uid gid mode) all (short_made kind fit);
  plain = λ place plain. plain_push tree.objects (node_of_kind kind uid gid mode) place plain;
}
step_of tree (Written obj at bytes) fit =
    let node : Node = record (node_with_number tree obj) { content = bytes_after_write (node_with_number tree obj).content at bytes } in record {
      short = λ all. short_set tree.objects (obj - 1) node all (any_content node.kind node.content (plain_get tree.objects (obj - 1) fit));
      plain = λ place plain. plain_set tree.objects (obj - 1) place node refl plain;
    }
step_of tree (Cut obj len) fit =
    let node : Node = record (node_with_number tree obj) { content = bytes_after_cut (node_with_number tree obj).content len } in record {
      short = λ all. short_set tree.objects (obj - 1) node all (any_content node.kind node.content (plain_get tree.objects (obj - 1) fit));
      plain = λ place plain. plain_set tree.objects (obj - 1) place node refl plain;
    }
step_of tree (Moded obj mode) fit =
    let node : Node = record (node_with_number tree obj) { mode = mode } in record {
      short = λ all. short_set tree.objects (obj - 1) node all (short_get tree.objects (obj - 1) all);
      plain = λ place plain. plain_set tree.objects (obj - 1) place node refl plain;
    }
step_of tree (Owned obj uid gid) fit =
    let node : Node = record (node_with_number tree obj) { uid = uid; gid = gid } in record {
      short = λ all. short_set tree.objects (obj - 1) node all (short_get tree.objects (obj - 1) all);
      plain = λ place plain. plain_set tree.objects (obj - 1) place node refl plain;
    }
step_of tree (Linked name obj) fit = same_step tree.objects
step_of tree (Removed name) fit = same_step tree.objects
step_of tree (Renamed old new) fit = same_step tree.objects
step_of tree (Put space at bytes) fit = same_step tree.objects
step_of tree (Forked pid space tid) fit = same_step tree.objects
step_of tree (Execed binary space) fit = same_step tree.objects
step_of tree (SetIds ids) fit = same_step tree.objects
step_of tree (Cwd name) fit = same_step tree.objects
step_of tree (Dying pid) fit = same_step tree.objects
step_of tree (Renewed old new) fit = same_step tree.objects
step_of tree (Policy binary) fit = same_step tree.objects

-- a change that fits the objects before another change fits those after it
fit_then : (before after : List Node) → IsShortStep before after → (c : Change) → IsFit before c → IsFit after c
fit_then before after step (Made name obj kind uid gid mode) fit = fit
fit_then before after step (Written obj at bytes) fit = step.plain (obj - 1) fit
fit_then before after step (Cut obj len) fit = step.plain (obj - 1) fit
fit_then before after step _ fit = tt

-- the same for each of some changes
fit_all_then : (before after : List Node) → IsShortStep before after → (changes : List Change) → AreFit before changes → AreFit after changes
fit_all_then before after step [] fit = tt
fit_all_then before after step (c ∷ changes) fit = (fit_then before after step c fit.0, fit_all_then before after step changes fit.1)

-- changes that fit the objects of a tree
pub steps_of : (tree : Tree) (changes : List Change) → AreFit tree.objects changes → IsShortStep tree.objects (tree_after tree changes).objects
steps_of tree [] fit = same_step tree.objects
steps_of tree (c ∷ changes) fit =
    let first : IsShortStep tree.objects (tree_after_change tree c).objects = step_of tree c fit.0 in
    let rest : IsShortStep (tree_after_change tree c).objects (tree_after tree (c ∷ changes)).objects =
    steps_of (tree_after_change tree c) changes (fit_all_then tree.objects (tree_after_change tree c).objects first changes fit.1) in record {
      short = λ all. rest.short (first.short all);
      plain = λ place plain. rest.plain place (first.plain place plain);
    }

-- a new object that is no link, by its number
pub plain_new : (nodes : List Node) (node : Node) → is_link node.kind ≡ false → IsPlain (nodes ++ node ∷ []) (length nodes + 1)
plain_new nodes node plain = subst (IsPlainAt (nodes ++ node ∷ [])) (omega arith) (plain_last nodes node plain)

-- ---- the first tree

-- the tree of the rows of a script, if their targets are short
pub short_rows : (rows : List TreeRow) (tree : Tree) → All (λ row. HasShortTarget row.new.kind) rows → IsShortStep tree.objects (fold tree_with_row tree rows).objects
short_rows [] tree all = same_step tree.objects
short_rows (row ∷ rows) tree all =
    let here : HasShortTarget row.new.kind = all 0 row (omega arith) in
    let node : Node = node_of_kind row.new.kind row.new.uid row.new.gid row.new.mode in
    let rest : IsShortStep (tree_with_row tree row).objects (fold tree_with_row tree (row ∷ rows)).objects =
    short_rows rows (tree_with_row tree row) (λ k d low. all (suc k) d (omega (arith, low))) in record {
      short = λ short. rest.short (short_push tree.objects node short (short_made row.new.kind here));
      plain = λ place plain. rest.plain place (plain_push tree.objects node place plain);
    }

-- ---- names

-- a property of an object, if there is one
abbrev pub IfObject : (Object → Type 0) → Option Object → Type 0
IfObject P None = Unit {0}
IfObject P (Some object) = P object

-- the object of a name that is no link's
pub object_plain : (tree : Tree) (name : Components) → is_link_at tree name ≡ false → IfObject (λ object. IsPlain tree.objects object.number) (object_at tree name)
object_plain tree name unlinked = by_number (object_of tree name) unlinked where
  at_place : (nodes : List Node) (place : ℕ) (node : Node) → slice_get nodes place ≡ Some node → is_link node.kind ≡ false → IsPlainAt nodes place
  at_place [] place node found plain = cc
  at_place (first ∷ nodes) zero node found plain = subst (λ o. is_link_node o ≡ false) (sym found) plain
  at_place (first ∷ nodes) (suc place) node found plain = at_place nodes place node found plain

  by_node : (place : ℕ) (o : Option Node) → slice_get tree.objects place ≡ o → is_link_node o ≡ false → IfObject (λ object. IsPlain tree.objects object.number) (object_with (suc place) o)
  by_node place None found plain = tt
  by_node place (Some node) found plain = subst (IsPlainAt tree.objects) (omega arith) (at_place tree.objects place node found plain)

  by_number : (o : Option ℕ) → is_link_node (node_at tree o) ≡ false → IfObject (λ object. IsPlain tree.objects object.number) (object_numbered tree o)
  by_number None plain = tt
  by_number (Some zero) plain = tt
  by_number (Some (suc place)) plain = by_node place (slice_get tree.objects place) refl plain
