-- A tree without links: no look sees a link, and a walk takes no more looks than its text has bytes.
use native.Mathlib.Omega.{arith}
use Rattle.std.proofs.Common.{◌≡◌, ◌<◌, ◌≤◌, ℕ, zero, suc, Bool, true, false, cond, List, [], ◌∷◌, ◌++◌, length, Option, Some, None, slice_get}
use Rattle.st_names.specs.Name.{Components}
use Rattle.st_model.specs.Tree.{Tree, Node, is_directory, root_only, seen_of, seen_of_kind, seen_through, look, look_along, node_of, node_at, node_of_number, object_of}
use Rattle.st_model.specs.declared.object.Kind.{Kind}
use Rattle.st_model.specs.declared.object.Kind.TheVariants as object_kind
use Rattle.st_model.specs.Walk.{needs_lookup, start_walk}
use Rattle.st_names.specs.declared.seen.SeenText.{SeenText}
use Rattle.st_names.specs.declared.seen.SeenText.TheVariants.{NotDir}
use Rattle.st_model.proofs.Endings.{link_parts, AreWithin, start_early, length-components}

abbrev pub is_link : Kind → Bool
is_link object_kind.Dir = false
is_link object_kind.File = false
is_link object_kind.Link = true

abbrev pub AreNoLinks : List Node → Type 0
AreNoLinks [] = Unit {0}
AreNoLinks (node ∷ nodes) = (is_link node.kind ≡ false) × AreNoLinks nodes

pub AreNoLinks-push : (nodes : List Node) (node : Node) → AreNoLinks nodes → is_link node.kind ≡ false → AreNoLinks (nodes ++ node ∷ [])
AreNoLinks-push [] node all here = (here, tt)
AreNoLinks-push (first ∷ nodes) node all here = (all.0, AreNoLinks-push nodes node all.1 here)

abbrev IsNoLink : Option Node → Type 0
IsNoLink None = Unit {0}
IsNoLink (Some node) = is_link node.kind ≡ false

get-no_link : (nodes : List Node) (n : ℕ) → AreNoLinks nodes → IsNoLink (slice_get nodes n)
get-no_link [] n all = tt
get-no_link (node ∷ nodes) zero all = all.0
get-no_link (node ∷ nodes) (suc n) all = get-no_link nodes n all.1

numbered-no_link : (tree : Tree) (n : ℕ) → AreNoLinks tree.objects → IsNoLink (node_of_number tree n)
numbered-no_link tree zero all = tt
numbered-no_link tree (suc n) all = get-no_link tree.objects n all

at-no_link : (tree : Tree) (o : Option ℕ) → AreNoLinks tree.objects → IsNoLink (node_at tree o)
at-no_link tree None all = tt
at-no_link tree (Some n) all = numbered-no_link tree n all

kind-no_link : (kind : Kind) (content : List ℕ) → is_link kind ≡ false → link_parts (seen_of_kind kind content) ≤ 0
kind-no_link object_kind.Dir content h = omega arith
kind-no_link object_kind.File content h = omega arith
kind-no_link object_kind.Link content h = cc

seen-no_link : (o : Option Node) → IsNoLink o → link_parts (seen_of o) ≤ 0
seen-no_link None h = omega arith
seen-no_link (Some node) h = kind-no_link node.kind node.content h

following-no_link : (o : Option Node) (rest : SeenText) → link_parts rest ≤ 0 → link_parts (seen_through o rest) ≤ 0
following-no_link None rest h = omega arith
following-no_link (Some node) rest h = by_kind (is_directory node.kind) rest h where
  by_kind : (b : Bool) (rest : SeenText) → link_parts rest ≤ 0 → link_parts (cond b rest NotDir) ≤ 0
  by_kind true rest h = h
  by_kind false rest h = omega arith

look_along-no_link : (tree : Tree) (done rest : Components) → AreNoLinks tree.objects → link_parts (look_along tree done rest) ≤ 0
look_along-no_link tree done [] all = seen-no_link (node_of tree done) (at-no_link tree (object_of tree done) all)
look_along-no_link tree done (part ∷ rest) all = following-no_link (node_of tree done) (look_along tree (done ++ part ∷ []) rest) (look_along-no_link tree (done ++ part ∷ []) rest all)

-- no look sees a link
pub look-no_link : (tree : Tree) (name : Components) → AreNoLinks tree.objects → link_parts (look tree name) ≤ 0
look-no_link tree name all = look_along-no_link tree [] name all

-- if no link was seen, a walk that needs a look has taken fewer looks than its text has bytes
pub few_looks : (cwd : Components) (text : List ℕ) (follow : Bool) (lookups : List SeenText) → AreWithin 0 lookups → needs_lookup (start_walk text cwd follow lookups) ≡ true → length lookups < length text
few_looks cwd text follow lookups all h = let early = start_early 0 cwd text follow lookups all h in let few = length-components text in omega (arith, early, few)
