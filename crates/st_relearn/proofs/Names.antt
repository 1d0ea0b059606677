-- Names of which each component can be quoted, as the results of walks.
use Rattle.std.proofs.Common.{◌==◌, ◌<◌, ◌+◌, ◌-◌, ◌&&◌, ◌++◌, ℕ, zero, suc, Bool, true, false, cond, not, nat_eq, nat_lt, List, [], ◌∷◌, length, take, filter, flat_map, codes, slice_get, Option, Some, None, arith}
use Rattle.std.specs.List.{AllByRecursion, onto_first, slice_split, starts_with}
use Rattle.st_base.specs.declared.errno.Errno.TheVariants.{ENOENT, ENOTDIR, ELOOP, ENAMETOOLONG}
use Rattle.st_base.proofs.Each.{each-append}
use Rattle.st_lex.specs.Quote.{AreBytes}
use Rattle.st_model.specs.Tree.{Node, Tree, is_directory, look, look_along, node_at, node_of, object_of, seen_of, seen_of_kind, seen_through}
use Rattle.st_model.specs.Walk.{Fault, Name, Next, WalkState, is_last, is_up, name_after_parents, resolve_within, rest_after_ups, start_of_name, start_walk, walk_end, walk_components, walk_through}
use Rattle.st_model.specs.declared.limits.TheConstants.{MOST_LINKS}
use Rattle.st_model.specs.declared.object.Kind.{Kind}
use Rattle.st_model.specs.declared.object.Kind.TheVariants as object_kind
use Rattle.st_names.specs.Name.{Components, components_of, has_long_part, is_component, parent, printed_name, slash, with_slash}
use Rattle.st_names.specs.declared.limits.TheConstants.{LONGEST_NAME}
use Rattle.st_names.specs.declared.seen.SeenText.{SeenText}
use Rattle.st_names.specs.declared.seen.SeenText.TheVariants.{Missing, NotDir, Dir, File, Link}
use Rattle.st_relearn.proofs.Texts.{bytes_append}

-- each component of a name can be quoted
abbrev pub AreNames : Components → Type 0
AreNames name = AllByRecursion AreBytes name

-- ---- properties of each of some items

each_take : {X : Type 0} (P : X → Type 0) (n : ℕ) (xs : List X) → AllByRecursion P xs → AllByRecursion P (take n xs)
each_take P zero xs x = tt
each_take P (suc n) [] x = tt
each_take P (suc n) (a ∷ xs) x = (x.0, each_take P n xs x.1)

pub each_filter : {X : Type 0} (P : X → Type 0) (is : X → Bool) (xs : List X) → AllByRecursion P xs → AllByRecursion P (filter is xs)
each_filter P is [] x = tt
each_filter P is (a ∷ xs) x = by (is a) (each_filter P is xs x.1) where
  by : (b : Bool) → AllByRecursion P (filter is xs) → AllByRecursion P (cond b (a ∷ filter is xs) (filter is xs))
  by true rest = (x.0, rest)
  by false rest = rest

-- ---- components

onto_plain : (b : ℕ) (parts : Components) → 0 < b → b < 256 → AreNames parts → AreNames (onto_first b parts)
onto_plain b [] some low plain = ((some, low, tt), tt)
onto_plain b (part ∷ parts) some low plain = ((some, low, plain.0), plain.1)

split_plain : (text : List ℕ) → AreBytes text → AreNames (slice_split (λ byte. byte == slash) text)
split_plain [] plain = (tt, tt)
split_plain (b ∷ text) plain = by (b == slash) (split_plain text plain.2) where
  by : (t : Bool) → AreNames (slice_split (λ byte. byte == slash) text) → AreNames (cond t ([] ∷ slice_split (λ byte. byte == slash) text) (onto_first b (slice_split (λ byte. byte == slash) text)))
  by true rest = (tt, rest)
  by false rest = onto_plain b (slice_split (λ byte. byte == slash) text) plain.0 plain.1 rest

pub components_plain : (text : List ℕ) → AreBytes text → AreNames (components_of text)
components_plain text plain = each_filter AreBytes is_component (slice_split (λ byte. byte == slash) text) (split_plain text plain)

slashes_plain : (name : Components) → AreNames name → AreBytes (flat_map with_slash name)
slashes_plain [] plain = tt
slashes_plain (part ∷ name) plain = (omega arith, omega arith, bytes_append part (flat_map with_slash name) plain.0 (slashes_plain name plain.1))

pub printed_plain : (name : Components) → AreNames name → AreBytes (printed_name name)
printed_plain [] plain = (omega arith, omega arith, tt)
printed_plain (part ∷ name) plain = slashes_plain (part ∷ name) plain

-- ---- walks

abbrev pub IsPlainSeen : SeenText → Type 0
IsPlainSeen Missing = Unit {0}
IsPlainSeen NotDir = Unit {0}
IsPlainSeen Dir = Unit {0}
IsPlainSeen File = Unit {0}
IsPlainSeen (Link text) = AreBytes text

abbrev pub ArePlainLooks : List SeenText → Type 0
ArePlainLooks lookups = AllByRecursion IsPlainSeen lookups

abbrev pub IsPlainWalk : WalkState → Type 0
IsPlainWalk (Name name) = AreNames name
IsPlainWalk (Next name) = Unit {0}
IsPlainWalk (Fault errno) = Unit {0}

either_walk : (b : Bool) (x y : WalkState) → IsPlainWalk x → IsPlainWalk y → IsPlainWalk (cond b x y)
either_walk true x y p q = p
either_walk false x y p q = q

end_plain : (done : Components) → AreNames done → IsPlainWalk (walk_end done)
end_plain done plain = either_walk (nat_lt LONGEST_NAME (length (printed_name done))) (Fault ENAMETOOLONG) (Name done) tt plain

done_plain : (done rest : Components) → AreNames done → AreNames (name_after_parents done rest)
done_plain done [] plain = plain
done_plain done (part ∷ rest) plain = by (is_up part) (done_plain (parent done) rest (each_take AreBytes (length done - 1) done plain)) where
  by : (b : Bool) → AreNames (name_after_parents (parent done) rest) → AreNames (cond b (name_after_parents (parent done) rest) done)
  by true x = x
  by false x = plain

rest_plain : (rest : Components) → AreNames rest → AreNames (rest_after_ups rest)
rest_plain [] plain = tt
rest_plain (part ∷ rest) plain = by (is_up part) (rest_plain rest plain.1) where
  by : (b : Bool) → AreNames (rest_after_ups rest) → AreNames (cond b (rest_after_ups rest) (part ∷ rest))
  by true x = x
  by false x = plain

begun_plain : (text : List ℕ) (from : Components) → AreNames from → AreNames (start_of_name text from)
begun_plain text from plain = by (starts_with nat_eq text (codes "/")) where
  by : (b : Bool) → AreNames (cond b [] from)
  by true = tt
  by false = plain

on_plain : (done rest : Components) (n : ℕ) (lookups : List SeenText) (follow : Bool) → AreNames done → AreNames rest → ArePlainLooks lookups → IsPlainWalk (walk_components done rest n lookups follow)
on_plain done [] n lookups follow d r l = end_plain done d
on_plain done (part ∷ rest) n [] follow d r l = tt
on_plain done (part ∷ rest) n (Dir ∷ lookups) follow d r l =
    on_plain (name_after_parents (done ++ part ∷ []) rest) (rest_after_ups rest) n lookups follow
    (done_plain (done ++ part ∷ []) rest (each-append AreBytes done (part ∷ []) d (r.0, tt))) (rest_plain rest r.1) l.1
on_plain done (part ∷ rest) n (File ∷ lookups) follow d r l =
    either_walk (is_last rest) (walk_end (done ++ part ∷ [])) (Fault ENOTDIR) (end_plain (done ++ part ∷ []) (each-append AreBytes done (part ∷ []) d (r.0, tt))) tt
on_plain done (part ∷ rest) n (Missing ∷ lookups) follow d r l =
    either_walk (is_last rest) (walk_end (done ++ part ∷ [])) (Fault ENOENT) (end_plain (done ++ part ∷ []) (each-append AreBytes done (part ∷ []) d (r.0, tt))) tt
on_plain done (part ∷ rest) n (NotDir ∷ lookups) follow d r l = tt
on_plain done (part ∷ rest) n (Link text ∷ lookups) follow d r l =
    let more : AreNames (components_of text ++ rest) = each-append AreBytes (components_of text) rest (components_plain text l.0) r.1 in
    either_walk (is_last rest && not follow) (walk_end (done ++ part ∷ [])) _ (end_plain (done ++ part ∷ []) (each-append AreBytes done (part ∷ []) d (r.0, tt)))
    (either_walk (nat_eq n MOST_LINKS) (Fault ELOOP) (walk_components (name_after_parents (start_of_name text done) (components_of text ++ rest)) (rest_after_ups (components_of text ++ rest)) (n + 1) lookups follow) tt
    (on_plain (name_after_parents (start_of_name text done) (components_of text ++ rest)) (rest_after_ups (components_of text ++ rest)) (n + 1) lookups follow
    (done_plain (start_of_name text done) (components_of text ++ rest) (begun_plain text done d)) (rest_plain (components_of text ++ rest) more) l.1))

pub walk_plain : (text : List ℕ) (cwd : Components) (follow : Bool) (lookups : List SeenText) → AreBytes text → AreNames cwd → ArePlainLooks lookups → IsPlainWalk (start_walk text cwd follow lookups)
walk_plain text cwd follow lookups t c l =
    either_walk (nat_eq (length text) 0) (Fault ENOENT) _ tt
    (either_walk (has_long_part text) (Fault ENAMETOOLONG) (walk_components (name_after_parents (start_of_name text cwd) (components_of text)) (rest_after_ups (components_of text)) 0 lookups follow) tt
    (on_plain (name_after_parents (start_of_name text cwd) (components_of text)) (rest_after_ups (components_of text)) 0 lookups follow
    (done_plain (start_of_name text cwd) (components_of text) (begun_plain text cwd c)) (rest_plain (components_of text) (components_plain text t)) l))

-- ---- looks

-- the target of a link can be quoted
abbrev pub IsPlainContent : Kind → List ℕ → Type 0
IsPlainContent object_kind.Dir content = Unit {0}
IsPlainContent object_kind.File content = Unit {0}
IsPlainContent object_kind.Link content = AreBytes content

abbrev pub ArePlainNodes : List Node → Type 0
ArePlainNodes nodes = AllByRecursion (λ node. IsPlainContent node.kind node.content) nodes

abbrev pub HasPlainLinks : Tree → Type 0
HasPlainLinks tree = ArePlainNodes tree.objects

abbrev IsPlainNode : Option Node → Type 0
IsPlainNode None = Unit {0}
IsPlainNode (Some node) = IsPlainContent node.kind node.content

get_plain : (nodes : List Node) (place : ℕ) → ArePlainNodes nodes → IsPlainNode (slice_get nodes place)
get_plain [] place all = tt
get_plain (node ∷ nodes) zero all = all.0
get_plain (node ∷ nodes) (suc place) all = get_plain nodes place all.1

at_plain : (tree : Tree) (o : Option ℕ) → HasPlainLinks tree → IsPlainNode (node_at tree o)
at_plain tree None all = tt
at_plain tree (Some zero) all = tt
at_plain tree (Some (suc place)) all = get_plain tree.objects place all

kind_plain : (k : Kind) (content : List ℕ) → IsPlainContent k content → IsPlainSeen (seen_of_kind k content)
kind_plain object_kind.Dir content plain = tt
kind_plain object_kind.File content plain = tt
kind_plain object_kind.Link content plain = plain

seen_plain : (o : Option Node) → IsPlainNode o → IsPlainSeen (seen_of o)
seen_plain None plain = tt
seen_plain (Some node) plain = kind_plain node.kind node.content plain

through_plain : (o : Option Node) (rest : SeenText) → IsPlainSeen rest → IsPlainSeen (seen_through o rest)
through_plain None rest plain = tt
through_plain (Some node) rest plain = by (is_directory node.kind) where
  by : (b : Bool) → IsPlainSeen (cond b rest NotDir)
  by true = plain
  by false = tt

along_plain : (tree : Tree) (done rest : Components) → HasPlainLinks tree → IsPlainSeen (look_along tree done rest)
along_plain tree done [] all = seen_plain (node_of tree done) (at_plain tree (object_of tree done) all)
along_plain tree done (part ∷ rest) all = through_plain (node_of tree done) (look_along tree (done ++ part ∷ []) rest) (along_plain tree (done ++ part ∷ []) rest all)

pub look_plain : (tree : Tree) (name : Components) → HasPlainLinks tree → IsPlainSeen (look tree name)
look_plain tree name all = along_plain tree [] name all

-- ---- names that are resolved in one step

further_plain : (further : Components → WalkState) (w : WalkState) → IsPlainWalk w → ((name : Components) → IsPlainWalk (further name)) → IsPlainWalk (walk_through further w)
further_plain further (Name name) here rest = here
further_plain further (Next name) here rest = rest name
further_plain further (Fault errno) here rest = tt

pub resolved_plain : (looks : ℕ) (tree : Tree) (cwd : Components) (text : List ℕ) (follow : Bool) (lookups : List SeenText) → HasPlainLinks tree → AreNames cwd → AreBytes text → ArePlainLooks lookups → IsPlainWalk (resolve_within looks tree cwd text follow lookups)
resolved_plain zero tree cwd text follow lookups links c t l = walk_plain text cwd follow lookups t c l
resolved_plain (suc looks) tree cwd text follow lookups links c t l =
    further_plain (λ name. resolve_within looks tree cwd text follow (lookups ++ look tree name ∷ [])) (start_walk text cwd follow lookups) (walk_plain text cwd follow lookups t c l)
    (λ name. resolved_plain looks tree cwd text follow (lookups ++ look tree name ∷ []) links c t (each-append IsPlainSeen lookups (look tree name ∷ []) l (look_plain tree name links, tt)))
