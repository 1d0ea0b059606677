-- Name resolution: one component after the other, each by a look at the name so far.
use Rattle.std.specs.Prelude.{ℕ, zero, suc, ◌+◌, ◌*◌, max, nat_lt, nat_eq, Bool, true, false, ◌&&◌, not, if◌then◌else◌, List, [], ◌∷◌, ◌++◌, length, codes}
use Rattle.std.specs.List.{starts_with}
use Rattle.std.specs.Str.{bytes_eq}
use Rattle.st_base.specs.declared.errno.Errno.{Errno}
use Rattle.st_base.specs.declared.errno.Errno.TheVariants.{ENOENT, ENOTDIR, ELOOP, ENAMETOOLONG}
use Rattle.st_names.specs.Name.{Components, components_of, has_long_part, parent, printed_name}
use Rattle.st_model.specs.Tree.{Tree, Node, look}
use Rattle.st_names.specs.declared.seen.SeenText.{SeenText}
use Rattle.st_names.specs.declared.seen.SeenText.TheVariants.{Missing, NotDir, Dir, File, Link}
use Rattle.st_names.specs.declared.limits.TheConstants.{LONGEST_NAME}
use Rattle.st_model.specs.declared.limits.TheConstants.{MOST_LINKS}

-- the state of a walk: the resolved name, the name to be looked up next, or a fault
pub data WalkState : Type 0 where
  -- the walk has ended: the name resolves to this name
  Name : Components → WalkState
  -- the name to be looked up next
  Next : Components → WalkState
  Fault : Errno → WalkState

-- whether another look is needed
abbrev pub needs_lookup : WalkState → Bool
needs_lookup (Name name) = false
needs_lookup (Next name) = true
needs_lookup (Fault errno) = false

-- whether a part of a name is `..`
abbrev pub is_up : List ℕ → Bool
is_up part = bytes_eq part (codes "..")

-- the name that is reached after each leading `..` of the rest has dropped a component
abbrev pub name_after_parents : Components → Components → Components
name_after_parents done [] = done
name_after_parents done (part ∷ rest) = if is_up part then name_after_parents (parent done) rest else done

-- the rest without its leading `..`
abbrev pub rest_after_ups : Components → Components
rest_after_ups [] = []
rest_after_ups (part ∷ rest) = if is_up part then rest_after_ups rest else part ∷ rest

-- the state of a walk that ends at this name: a fault if the name is too long
abbrev pub walk_end : Components → WalkState
walk_end done = if nat_lt LONGEST_NAME (length (printed_name done)) then Fault ENAMETOOLONG else Name done

-- where the resolution of a text begins: at the root if it is absolute, otherwise at this name
abbrev pub start_of_name : List ℕ → Components → Components
start_of_name text from = if starts_with nat_eq text (codes "/") then [] else from

-- whether no component remains after the current component
abbrev pub is_last : Components → Bool
is_last rest = nat_eq (length rest) 0

-- A walk whose rest doesn't begin with `..`: `done` is the name that was reached, `n` is the number of links that were followed,
-- and the first of `lookups` is the result of a look at `done` with the next component. A link that is the last component is
-- followed only if `follow` is true. A component before a `..` isn't the last one.
abbrev pub walk_components : Components → Components → ℕ → List SeenText → Bool → WalkState
walk_components done [] n lookups follow = walk_end done
walk_components done (part ∷ rest) n [] follow = Next (done ++ part ∷ [])
walk_components done (part ∷ rest) n (Dir ∷ lookups) follow =
    walk_components (name_after_parents (done ++ part ∷ []) rest) (rest_after_ups rest) n lookups follow
walk_components done (part ∷ rest) n (File ∷ lookups) follow =
    if is_last rest then walk_end (done ++ part ∷ []) else Fault ENOTDIR
walk_components done (part ∷ rest) n (Missing ∷ lookups) follow =
    if is_last rest then walk_end (done ++ part ∷ []) else Fault ENOENT
walk_components done (part ∷ rest) n (NotDir ∷ lookups) follow = Fault ENOTDIR
walk_components done (part ∷ rest) n (Link text ∷ lookups) follow =
    if is_last rest && not follow then walk_end (done ++ part ∷ [])
    else if nat_eq n MOST_LINKS then Fault ELOOP
    else walk_components (name_after_parents (start_of_name text done) (components_of text ++ rest)) (rest_after_ups (components_of text ++ rest)) (n + 1) lookups follow

-- the walk from `done` over the rest, with `n` links followed, by the looks so far; `..` takes no look
abbrev pub walk : Components → Components → ℕ → List SeenText → Bool → WalkState
walk done rest n lookups follow = walk_components (name_after_parents done rest) (rest_after_ups rest) n lookups follow

-- the walk of a text; two faults are found before any look
abbrev pub start_walk : List ℕ → Components → Bool → List SeenText → WalkState
start_walk text cwd follow lookups =
    if nat_eq (length text) 0 then Fault ENOENT
    else if has_long_part text then Fault ENAMETOOLONG
    else walk (start_of_name text cwd) (components_of text) 0 lookups follow

-- the length of the longest content of these objects
abbrev pub longest_content_of : List Node → ℕ
longest_content_of [] = 0
longest_content_of (node ∷ nodes) = max (length node.content) (longest_content_of nodes)

-- the length of the longest content of an object of the tree
abbrev pub longest_content : Tree → ℕ
longest_content tree = longest_content_of tree.objects

-- A number of looks that is enough: each look takes a component of the text or of one of the links that are followed, and no
-- text has more components than bytes.
abbrev pub most_lookups : Tree → List ℕ → ℕ
most_lookups tree text = length text + MOST_LINKS * longest_content tree

-- the state of a walk after it continues, if it needs a look at a name
abbrev pub walk_through : (Components → WalkState) → WalkState → WalkState
walk_through further (Name name) = Name name
walk_through further (Next name) = further name
walk_through further (Fault errno) = Fault errno

-- the walk by the looks so far, and by at most this many further looks at the tree while it needs looks
abbrev pub resolve_within : ℕ → Tree → Components → List ℕ → Bool → List SeenText → WalkState
resolve_within zero tree cwd text follow lookups = start_walk text cwd follow lookups
resolve_within (suc looks) tree cwd text follow lookups =
    walk_through (λ name. resolve_within looks tree cwd text follow (lookups ++ look tree name ∷ [])) (start_walk text cwd follow lookups)

-- the resolution of a text: the walk whose looks are looks at the tree
abbrev pub resolve : Tree → Components → List ℕ → Bool → WalkState
resolve tree cwd text follow = resolve_within (most_lookups tree text) tree cwd text follow []
