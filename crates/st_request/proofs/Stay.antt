-- The changes of calls keep each object that was made, and its kind.
use Rattle.std.proofs.Common.{◌≡◌, ◌∙◌, ap, refl, sym, ℕ, ◌-◌, ◌<◌, List, [], ◌∷◌, length, get_or, map, set, arith}
use Rattle.std.proofs.Math.ListN as list
use Rattle.std.proofs.Math.Seq.{map-set_same}
use Rattle.std.proofs.lemmas.List.{get_or_append_left, length-append, length-set}
use Rattle.st_model.specs.declared.object.Kind.{Kind}
use Rattle.st_model.specs.Descriptors.{Table}
use Rattle.st_model.specs.DescriptorCalls.{console, table_after_start}
use Rattle.st_model.specs.Tree.{Node, Tree, add_object, node_with_number, root_node, with_node}
use Rattle.std.proofs.lemmas.List.Elements.{All-append, All-cons}
use Rattle.st_trace.specs.declared.entry.Change.{Change}
use Rattle.st_trace.specs.declared.entry.Change.TheVariants.{Made, Linked, Removed, Renamed, Written, Cut, Moded, Owned, Put, Forked, Execed, SetIds, Cwd, Dying, Renewed, Policy}
use Rattle.st_effects.specs.Changes.{tree_after, tree_after_change}
use Rattle.st_request.specs.Ready.{AreValidOpenFiles, IsValidOpenFile, KeepsObjects}
use Rattle.st_request.proofs.Real.{kept_objects}

kind_of : Node → Kind
kind_of node = node.kind

-- an object is replaced by one of its kind
same_kind : (tree : Tree) (number : ℕ) (node : Node) → node.kind ≡ (node_with_number tree number).kind → KeepsObjects tree (with_node tree number node)
unfolding kind_of
same_kind tree number node kind other made =
    let objects : List Node = tree.objects in
    let i = number - 1 in
    let k = other - 1 in
    let kinds : map kind_of (set objects i node) ≡ map kind_of objects = map-set_same kind_of objects i node root_node kind in (
      (made.0, omega (arith, made.1, length-set objects i node)),
      sym (list.get_or-map kind_of (set objects i node) k root_node) ∙ ap (λ ks. get_or ks k (kind_of root_node)) kinds ∙ list.get_or-map kind_of objects k root_node,
    )

-- an object is added
one_more : (tree : Tree) (name : List (List ℕ)) (node : Node) → KeepsObjects tree (add_object tree name node)
one_more tree name node number made =
    let objects : List Node = tree.objects in
    let inside : number - 1 < length objects = omega (arith, made.0, made.1) in (
      (made.0, omega (arith, made.1, length-append objects (node ∷ []))),
      ap (λ (n : Node). n.kind) (get_or_append_left objects (node ∷ []) root_node (number - 1) inside),
    )

change_keeps : (tree : Tree) (change : Change) → KeepsObjects tree (tree_after_change tree change)
change_keeps tree (Made name obj kind uid gid mode) = one_more tree name _
change_keeps tree (Linked name obj) = λ number made. (made, refl)
change_keeps tree (Removed name) = λ number made. (made, refl)
change_keeps tree (Renamed old new) = λ number made. (made, refl)
change_keeps tree (Written obj at bytes) = same_kind tree obj _ refl
change_keeps tree (Cut obj len) = same_kind tree obj _ refl
change_keeps tree (Moded obj mode) = same_kind tree obj _ refl
change_keeps tree (Owned obj uid gid) = same_kind tree obj _ refl
change_keeps tree (Put space at bytes) = λ number made. (made, refl)
change_keeps tree (Forked pid space tid) = λ number made. (made, refl)
change_keeps tree (Execed binary space) = λ number made. (made, refl)
change_keeps tree (SetIds ids) = λ number made. (made, refl)
change_keeps tree (Cwd name) = λ number made. (made, refl)
change_keeps tree (Dying pid) = λ number made. (made, refl)
change_keeps tree (Renewed old new) = λ number made. (made, refl)
change_keeps tree (Policy binary) = λ number made. (made, refl)

pub changes_keep : (tree : Tree) (changes : List Change) → KeepsObjects tree (tree_after tree changes)
changes_keep tree [] = λ number made. (made, refl)
changes_keep tree (change ∷ changes) = λ number made.
    let first = change_keeps tree change number made in
    let rest = changes_keep (tree_after_change tree change) changes number first.0 in
    (rest.0, rest.1 ∙ first.1)

pub stay_real : (tree : Tree) (table : Table) (changes : List Change) → AreValidOpenFiles tree table → AreValidOpenFiles (tree_after tree changes) table
stay_real tree table changes real = kept_objects tree (tree_after tree changes) table (changes_keep tree changes) real

-- the console isn't an object
pub started_real : (tree : Tree) (table : Table) (pid : ℕ) → AreValidOpenFiles tree table → AreValidOpenFiles tree (table_after_start table pid)
started_real tree table pid real =
    let Is = IsValidOpenFile tree in
    let third = All-cons Is console [] tt (λ k d inside. absurd (omega (arith, inside))) in
    All-append Is table.files (console ∷ console ∷ console ∷ []) real (All-cons Is console (console ∷ console ∷ []) tt (All-cons Is console (console ∷ []) tt third))
