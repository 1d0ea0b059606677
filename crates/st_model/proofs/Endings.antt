-- A resolution ends: there are no more looks than components, and no more components than bytes.
use Rattle.std.proofs.Common.{◌≡◌, ◌<◌, ◌≤◌, ℕ, zero, suc, ◌+◌, ◌*◌, ◌==◌, Bool, true, false, cond, if◌then◌else◌, List, [], ◌∷◌, ◌++◌, length, Option, Some, None, slice_get, refl, nat_eq, nat_lt, ◌&&◌, not, arith, length-append}
use Rattle.std.proofs.lemmas.Bool.{eqb-false}
use Rattle.std.specs.List.{filter, onto_first}
use Rattle.st_base.specs.declared.errno.Errno.{Errno}
use Rattle.st_base.specs.declared.errno.Errno.TheVariants.{ENOENT, ENOTDIR, ENAMETOOLONG}
use Rattle.st_names.specs.Name.{Components, components_of, has_long_part, is_component, split_at_slashes, slash, printed_name}
use Rattle.st_model.specs.Tree.{Tree, Node, is_directory, seen_of, seen_of_kind, seen_through, look, look_along, node_of, node_at, object_of}
use Rattle.st_model.specs.declared.object.Kind.{Kind}
use Rattle.st_model.specs.declared.object.Kind.TheVariants as object_kind
use Rattle.st_model.specs.Walk.{WalkState, Name, Next, Fault, needs_lookup, walk_components, start_walk, name_after_parents, rest_after_ups, walk_end, start_of_name, is_last, is_up, most_lookups, longest_content_of, longest_content, walk_through, resolve, resolve_within}
use Rattle.st_names.specs.declared.seen.SeenText.{SeenText}
use Rattle.st_names.specs.declared.seen.SeenText.TheVariants.{Missing, NotDir, Dir, File, Link}
use Rattle.st_names.specs.declared.limits.TheConstants.{LONGEST_NAME}
use Rattle.st_model.specs.declared.limits.TheConstants.{MOST_LINKS}

-- ---- components

longer : (b : Bool) (part : List ℕ) (kept : Components) → length (cond b (part ∷ kept) kept) ≤ length kept + 1
longer true part kept = omega arith
longer false part kept = omega arith

no_shorter : (b : Bool) (part : List ℕ) (kept : Components) → length kept ≤ length (cond b (part ∷ kept) kept)
no_shorter true part kept = omega arith
no_shorter false part kept = omega arith

kept_after : (b : Bool) (x : ℕ) (rest : Components) (most : ℕ) → length (filter is_component rest) ≤ most → length (filter is_component (cond b ([] ∷ rest) (onto_first x rest))) ≤ most + 1
kept_after true x rest most h = omega arith
kept_after false x [] most h = let l = longer (is_component (x ∷ [])) (x ∷ []) [] in omega (arith, l)
kept_after false x (part ∷ rest) most h =
    let l = longer (is_component (x ∷ part)) (x ∷ part) (filter is_component rest) in
    let m = no_shorter (is_component part) part (filter is_component rest) in
    omega (arith, l, m)

pub length-components : (text : List ℕ) → length (components_of text) ≤ length text
length-components [] = omega arith
length-components (x ∷ xs) = let h = kept_after (x == slash) x (split_at_slashes xs) (length xs) (length-components xs) in omega (arith, h)

-- each component after the first part takes at least two bytes, a slash and one more
abbrev IsSpread : Components → ℕ → Type 0
IsSpread [] size = Unit {0}
IsSpread (part ∷ rest) size = 2 * length (filter is_component rest) + length part ≤ size

spread_if : (b : Bool) (x : ℕ) (parts : Components) (size : ℕ) → IsSpread parts size → IsSpread (cond b ([] ∷ parts) (onto_first x parts)) (suc size)
spread_if true x [] size h = omega arith
spread_if true x ([] ∷ rest) size h = omega (arith, h)
spread_if true x ((y ∷ part) ∷ rest) size h = let l = longer (is_component (y ∷ part)) (y ∷ part) (filter is_component rest) in omega (arith, h, l)
spread_if false x [] size h = omega arith
spread_if false x (part ∷ rest) size h = omega (arith, h)

spread : (text : List ℕ) → IsSpread (split_at_slashes text) (length text)
spread [] = omega arith
spread (x ∷ xs) = spread_if (x == slash) x (split_at_slashes xs) (length xs) (spread xs)

few_of_spread : (parts : Components) (size : ℕ) → IsSpread parts size → 2 * length (filter is_component parts) ≤ size + 1
few_of_spread [] size h = omega arith
few_of_spread ([] ∷ rest) size h = omega (arith, h)
few_of_spread ((y ∷ part) ∷ rest) size h = let l = longer (is_component (y ∷ part)) (y ∷ part) (filter is_component rest) in omega (arith, h, l)

-- twice the number of a text's components is at most its length plus one
pub few_components : (text : List ℕ) → 2 * length (components_of text) ≤ length text + 1
few_components text = few_of_spread (split_at_slashes text) (length text) (spread text)

length-onward : (rest : Components) → length (rest_after_ups rest) ≤ length rest
length-onward [] = omega arith
length-onward (part ∷ rest) = onward_if (is_up part) part rest (length-onward rest) where
  onward_if : (b : Bool) (part : List ℕ) (rest : Components) → length (rest_after_ups rest) ≤ length rest → length (if b then rest_after_ups rest else part ∷ rest) ≤ length (part ∷ rest)
  onward_if true part rest h = omega arith
  onward_if false part rest h = omega arith

-- ---- links that are seen

-- the number of components of the target, if a look sees a link
abbrev pub link_parts : SeenText → ℕ
link_parts (Link text) = length (components_of text)
link_parts Missing = 0
link_parts NotDir = 0
link_parts Dir = 0
link_parts File = 0

abbrev pub AreWithin : ℕ → List SeenText → Type 0
AreWithin most [] = Unit {0}
AreWithin most (seen ∷ lookups) = (link_parts seen ≤ most) × AreWithin most lookups

pub AreWithin-push : (most : ℕ) (lookups : List SeenText) (seen : SeenText) → AreWithin most lookups → link_parts seen ≤ most → AreWithin most (lookups ++ seen ∷ [])
AreWithin-push most [] seen all here = (here, tt)
AreWithin-push most (first ∷ lookups) seen all here = (all.0, AreWithin-push most lookups seen all.1 here)

abbrev node_length : Option Node → ℕ
node_length None = 0
node_length (Some node) = length node.content

longest_within : (nodes : List Node) (i : ℕ) → node_length (slice_get nodes i) ≤ longest_content_of nodes
longest_within [] i = omega arith
longest_within (node ∷ nodes) zero = omega arith
longest_within (node ∷ nodes) (suc i) = omega (arith, longest_within nodes i)

object_within : (tree : Tree) (number : Option ℕ) → node_length (node_at tree number) ≤ longest_content tree
object_within tree None = omega arith
object_within tree (Some zero) = omega arith
object_within tree (Some (suc before)) = longest_within tree.objects before

seen_within : (node : Option Node) → link_parts (seen_of node) ≤ node_length node
seen_within None = omega arith
seen_within (Some node) = of_kind node.kind node.content where
  of_kind : (kind : Kind) (content : List ℕ) → link_parts (seen_of_kind kind content) ≤ length content
  of_kind object_kind.Dir content = omega arith
  of_kind object_kind.File content = omega arith
  of_kind object_kind.Link content = length-components content

after_within : (node : Option Node) (seen : SeenText) (most : ℕ) → link_parts seen ≤ most → link_parts (seen_through node seen) ≤ most
after_within None seen most h = omega arith
after_within (Some node) seen most h = if_directory (is_directory node.kind) seen most h where
  if_directory : (b : Bool) (seen : SeenText) (most : ℕ) → link_parts seen ≤ most → link_parts (if b then seen else NotDir) ≤ most
  if_directory true seen most h = h
  if_directory false seen most h = omega arith

look_within : (tree : Tree) (done rest : Components) → link_parts (look_along tree done rest) ≤ longest_content tree
look_within tree done [] =
    let s = seen_within (node_of tree done) in
    let o = object_within tree (object_of tree done) in
    omega (arith, s, o)
look_within tree done (part ∷ rest) = after_within (node_of tree done) _ _ (look_within tree (done ++ part ∷ []) rest)

-- ---- walks

asks_if : (b : Bool) (w x : WalkState) → needs_lookup w ≡ false → needs_lookup (if b then w else x) ≡ true → (b ≡ false) × (needs_lookup x ≡ true)
asks_if true w x quiet h = cc
asks_if false w x quiet h = (refl, h)

asks-finished : (done : Components) → needs_lookup (walk_end done) ≡ false
asks-finished done = if_long (nat_lt LONGEST_NAME (length (printed_name done))) where
  if_long : (b : Bool) → needs_lookup (if b then Fault ENAMETOOLONG else Name done) ≡ false
  if_long true = refl
  if_long false = refl

stops : (b : Bool) (done : Components) (errno : Errno) → needs_lookup (if b then walk_end done else Fault errno) ≡ true → ⊥
stops true done errno h = let quiet = asks-finished done in cc
stops false done errno h = cc

-- a walk that still needs a look has taken fewer looks than the bound
asks_early : (done rest : Components) (n : ℕ) (lookups : List SeenText) (follow : Bool) (most left : ℕ) → n + left ≡ 32 → AreWithin most lookups → needs_lookup (walk_components done rest n lookups follow) ≡ true → length lookups < length rest + left * most
asks_early done [] n lookups follow most left e all h = let quiet = asks-finished done in cc
asks_early done (part ∷ rest) n [] follow most left e all h = omega arith
asks_early done (part ∷ rest) n (Dir ∷ lookups) follow most left e all h =
    let i = asks_early (name_after_parents (done ++ part ∷ []) rest) (rest_after_ups rest) n lookups follow most left e all.1 h in
    omega (arith, i, length-onward rest)
asks_early done (part ∷ rest) n (File ∷ lookups) follow most left e all h = absurd (stops (is_last rest) (done ++ part ∷ []) ENOTDIR h)
asks_early done (part ∷ rest) n (Missing ∷ lookups) follow most left e all h = absurd (stops (is_last rest) (done ++ part ∷ []) ENOENT h)
asks_early done (part ∷ rest) n (NotDir ∷ lookups) follow most left e all h = cc
asks_early done (part ∷ rest) n (Link text ∷ lookups) follow most zero e all h =
    let a = asks_if (is_last rest && not follow) _ _ (asks-finished (done ++ part ∷ [])) h in
    let b = asks_if (nat_eq n MOST_LINKS) _ _ refl a.1 in
    absurd (eqb-false _ _ b.0 (omega arith))
asks_early done (part ∷ rest) n (Link text ∷ lookups) follow most (suc left) e all h =
    let a = asks_if (is_last rest && not follow) _ _ (asks-finished (done ++ part ∷ [])) h in
    let b = asks_if (nat_eq n MOST_LINKS) _ _ refl a.1 in
    let next : n + 1 + left ≡ 32 = omega arith in
    let i = asks_early (name_after_parents (start_of_name text done) (components_of text ++ rest)) (rest_after_ups (components_of text ++ rest)) (n + 1) lookups follow most left next all.1 b.1 in
    let o = length-onward (components_of text ++ rest) in
    let j = length-append (components_of text) rest in
    let m = all.0 in
    omega (arith, i, o, j, m)

-- ---- resolutions

-- a walk that still needs a look has taken fewer looks than the text and the followed links have components
pub start_early : (most : ℕ) (cwd : Components) (text : List ℕ) (follow : Bool) (lookups : List SeenText) → AreWithin most lookups → needs_lookup (start_walk text cwd follow lookups) ≡ true → length lookups < length (components_of text) + 32 * most
start_early most cwd text follow lookups all h =
    let a = asks_if (nat_eq (length text) 0) _ _ refl h in
    let b = asks_if (has_long_part text) _ _ refl a.1 in
    let i = asks_early (name_after_parents (start_of_name text cwd) (components_of text)) (rest_after_ups (components_of text)) 0 lookups follow most 32 refl all b.1 in
    omega (arith, i, length-onward (components_of text))

asks_no_more : (w : WalkState) → (needs_lookup w ≡ true → ⊥) → needs_lookup w ≡ false
asks_no_more (Name name) quiet = refl
asks_no_more (Next name) quiet = absurd (quiet refl)
asks_no_more (Fault errno) quiet = refl

asks-walk_through : (further : Components → WalkState) (w : WalkState) → ((name : Components) → needs_lookup (further name) ≡ false) → needs_lookup (walk_through further w) ≡ false
asks-walk_through further (Name name) step = refl
asks-walk_through further (Next name) step = step name
asks-walk_through further (Fault errno) step = refl

resolve_on_ends : (looks : ℕ) (tree : Tree) (cwd : Components) (text : List ℕ) (follow : Bool) (lookups : List SeenText) → AreWithin (longest_content tree) lookups → most_lookups tree text ≤ looks + length lookups → needs_lookup (resolve_within looks tree cwd text follow lookups) ≡ false
resolve_on_ends zero tree cwd text follow lookups all enough =
    asks_no_more _ (λ h. let early = start_early (longest_content tree) cwd text follow lookups all h in let few = length-components text in omega (arith, early, few, enough))
resolve_on_ends (suc looks) tree cwd text follow lookups all enough =
    asks-walk_through _ _ (λ name. resolve_on_ends looks tree cwd text follow (lookups ++ look tree name ∷ [])
    (AreWithin-push _ lookups (look tree name) all (look_within tree [] name))
    (omega (arith, length-append lookups (look tree name ∷ []))))

pub resolve_ends : (tree : Tree) (cwd : Components) (text : List ℕ) (follow : Bool) → needs_lookup (resolve tree cwd text follow) ≡ false
resolve_ends tree cwd text follow = resolve_on_ends (most_lookups tree text) tree cwd text follow [] tt (omega arith)
