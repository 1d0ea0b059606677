-- Trees whose links have targets that can be quoted, before and after changes.
use Rattle.std.proofs.Common.{◌≡◌, ◌-◌, ◌++◌, ℕ, zero, suc, false, List, [], ◌∷◌, slice_index_or, slice_set}
use Rattle.std.specs.List.{All, fold}
use Rattle.std.proofs.lemmas.List.Elements.{All-head, All-tail}
use Rattle.st_model.specs.Tree.{Node, Tree, bytes_after_cut, bytes_after_write, content_of_new, kind_of_new, node_of_kind, node_with_number, root_node}
use Rattle.st_model.specs.declared.object.Kind.{Kind}
use Rattle.st_model.specs.declared.object.Kind.TheVariants as object_kind
use Rattle.st_model.specs.declared.object.NewKind.{NewKind}
use Rattle.st_model.specs.declared.object.NewKind.TheVariants as made
use Rattle.st_effects.specs.Changes.{tree_after, tree_after_change}
use Rattle.st_effects.specs.Names.{is_link}
use Rattle.st_trace.specs.declared.entry.Change.{Change}
use Rattle.st_trace.specs.declared.entry.Change.TheVariants.{Made, Linked, Removed, Renamed, Written, Cut, Moded, Owned, Put, Forked, Execed, SetIds, Cwd, Dying, Renewed, Policy}
use Rattle.st_trace.specs.declared.start.TreeRow.{TreeRow}
use Rattle.st_law.specs.Processes.{tree_with_row}
use Rattle.st_law.proofs.ShortTrees.{AreFit, IsFit, IsPlainAt, IsShortStep, steps_of}
use Rattle.st_relearn.specs.Plain.{HasPlainTarget}
use Rattle.st_base.proofs.Each.{each-append}
use Rattle.st_relearn.proofs.Names.{ArePlainNodes, HasPlainLinks, IsPlainContent}
use Rattle.st_relearn.proofs.Outcomes.{ArePlainChanges, IsPlainChange}

-- an object that is no link may have any content
any_content : (kind : Kind) (content : List ℕ) → is_link kind ≡ false → IsPlainContent kind content
any_content object_kind.Dir content other = tt
any_content object_kind.File content other = tt
any_content object_kind.Link content other = absurd (cc)

made_plain : (kind : NewKind) → HasPlainTarget kind → IsPlainContent (kind_of_new kind) (content_of_new kind)
made_plain made.Dir plain = tt
made_plain (made.File content) plain = tt
made_plain (made.Link target) plain = plain

set_plain : (nodes : List Node) (place : ℕ) (node : Node) → ArePlainNodes nodes → IsPlainContent node.kind node.content → ArePlainNodes (slice_set nodes place node)
set_plain [] place node all here = tt
set_plain (first ∷ nodes) zero node all here = (here, all.1)
set_plain (first ∷ nodes) (suc place) node all here = (all.0, set_plain nodes place node all.1 here)

get_plain : (nodes : List Node) (place : ℕ) → ArePlainNodes nodes → IsPlainContent (slice_index_or nodes place root_node).kind (slice_index_or nodes place root_node).content
get_plain [] place all = tt
get_plain (node ∷ nodes) zero all = all.0
get_plain (node ∷ nodes) (suc place) all = get_plain nodes place all.1

no_link : (nodes : List Node) (place : ℕ) → IsPlainAt nodes place → is_link (slice_index_or nodes place root_node).kind ≡ false
no_link [] place at = absurd at
no_link (node ∷ nodes) zero at = at
no_link (node ∷ nodes) (suc place) at = no_link nodes place at

-- ---- changes

push_plain : (nodes : List Node) (node : Node) → ArePlainNodes nodes → IsPlainContent node.kind node.content → ArePlainNodes (nodes ++ node ∷ [])
push_plain nodes node all here = each-append (λ n. IsPlainContent n.kind n.content) nodes (node ∷ []) all (here, tt)

change_plain : (tree : Tree) (c : Change) → IsFit tree.objects c → IsPlainChange c → HasPlainLinks tree → HasPlainLinks (tree_after_change tree c)
change_plain tree (Made name obj kind uid gid mode) fit plain all = push_plain tree.objects (node_of_kind kind uid gid mode) all (made_plain kind plain)
change_plain tree (Written obj at bytes) fit plain all =
    let node : Node = record (node_with_number tree obj) { content = bytes_after_write (node_with_number tree obj).content at bytes } in
    set_plain tree.objects (obj - 1) node all (any_content node.kind node.content (no_link tree.objects (obj - 1) fit))
change_plain tree (Cut obj len) fit plain all =
    let node : Node = record (node_with_number tree obj) { content = bytes_after_cut (node_with_number tree obj).content len } in
    set_plain tree.objects (obj - 1) node all (any_content node.kind node.content (no_link tree.objects (obj - 1) fit))
change_plain tree (Moded obj mode) fit plain all =
    set_plain tree.objects (obj - 1) (record (node_with_number tree obj) { mode = mode }) all (get_plain tree.objects (obj - 1) all)
change_plain tree (Owned obj uid gid) fit plain all =
    set_plain tree.objects (obj - 1) (record (node_with_number tree obj) { uid = uid; gid = gid }) all (get_plain tree.objects (obj - 1) all)
change_plain tree (Linked name obj) fit plain all = all
change_plain tree (Removed name) fit plain all = all
change_plain tree (Renamed old new) fit plain all = all
change_plain tree (Put space at bytes) fit plain all = all
change_plain tree (Forked pid space tid) fit plain all = all
change_plain tree (Execed binary space) fit plain all = all
change_plain tree (SetIds ids) fit plain all = all
change_plain tree (Cwd name) fit plain all = all
change_plain tree (Dying pid) fit plain all = all
change_plain tree (Renewed old new) fit plain all = all
change_plain tree (Policy binary) fit plain all = all

-- a change that fits the objects before an earlier change fits those after it
fit_then : (before after : List Node) → IsShortStep before after → (c : Change) → IsFit before c → IsFit after c
fit_then before after step (Made name obj kind uid gid mode) fit = fit
fit_then before after step (Written obj at bytes) fit = step.plain (obj - 1) fit
fit_then before after step (Cut obj len) fit = step.plain (obj - 1) fit
fit_then before after step _ fit = tt

fit_all_then : (before after : List Node) → IsShortStep before after → (changes : List Change) → AreFit before changes → AreFit after changes
fit_all_then before after step [] fit = tt
fit_all_then before after step (c ∷ changes) fit = (fit_then before after step c fit.0, fit_all_then before after step changes fit.1)

pub tree_plain : (tree : Tree) (changes : List Change) → AreFit tree.objects changes → ArePlainChanges changes → HasPlainLinks tree → HasPlainLinks (tree_after tree changes)
tree_plain tree [] fit plain all = all
tree_plain tree (c ∷ changes) fit plain all =
    let step : IsShortStep tree.objects (tree_after_change tree c).objects = steps_of tree (c ∷ []) (fit.0, tt) in
    tree_plain (tree_after_change tree c) changes (fit_all_then tree.objects (tree_after_change tree c).objects step changes fit.1) plain.1 (change_plain tree c fit.0 plain.0 all)

-- ---- the first tree

pub rows_plain : (rows : List TreeRow) (tree : Tree) → All (λ row. HasPlainTarget row.new.kind) rows → HasPlainLinks tree → HasPlainLinks (fold tree_with_row tree rows)
rows_plain [] tree all plain = plain
rows_plain (row ∷ rows) tree all plain =
    rows_plain rows (tree_with_row tree row) (All-tail (λ r. HasPlainTarget r.new.kind) row rows all)
    (push_plain tree.objects (node_of_kind row.new.kind row.new.uid row.new.gid row.new.mode) plain (made_plain row.new.kind (All-head (λ r. HasPlainTarget r.new.kind) row rows all)))
