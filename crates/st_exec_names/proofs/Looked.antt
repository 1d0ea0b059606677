-- What is seen of names that a walk reaches.
use Rattle.std.proofs.Common.{◌≡◌, ◌∙◌, ap, refl, sym, ℕ, suc, ◌-◌, Bool, true, false, if◌then◌else◌, List, [], ◌∷◌, ◌++◌, length, take, Option, Some, None, arith}
use Rattle.std.proofs.lemmas.List.{append-nil, append_assoc}
use Rattle.st_base.specs.declared.errno.Errno.{Errno}
use Rattle.st_base.specs.declared.errno.Errno.TheVariants.{ENOTDIR, EACCES}
use Rattle.st_base.specs.declared.ids.Ids.{Ids}
use Rattle.st_names.specs.Name.{Components, parent}
use Rattle.st_names.specs.declared.seen.SeenText.{SeenText}
use Rattle.st_names.specs.declared.seen.SeenText.TheVariants.{Dir}
use Rattle.st_model.specs.Permission.{allowed}
use Rattle.st_model.specs.declared.object.Kind.{Kind}
use Rattle.st_model.specs.declared.object.Kind.TheVariants as kind
use Rattle.st_model.specs.declared.permission.Want.TheVariants.{Search}
use Rattle.st_model.specs.Tree.{Tree, Node, is_directory, look, look_along, node_of, seen_of, seen_of_kind, seen_through}
use Rattle.st_effects.specs.NameTests.{search_error, walk_error, walk_error_from}

-- a walk goes on from a directory, and has no error afterwards
record IsPassed (found : Option Node) (rest : Option Errno) : Type 0 where
  seen : seen_of found ≡ Dir
  through : (following : SeenText) → seen_through found following ≡ following
  following : rest ≡ None

kind_seen : (kind : Kind) (content : List ℕ) → is_directory kind ≡ true → seen_of_kind kind content ≡ Dir
kind_seen kind.Dir content is = refl
kind_seen kind.File content is = cc
kind_seen kind.Link content is = cc

passed_by : (node : Node) (directory may : Bool) (rest : Option Errno) → is_directory node.kind ≡ directory → (if directory then (if may then rest else Some EACCES) else Some ENOTDIR) ≡ None → IsPassed (Some node) rest
passed_by node true true rest is none = record {
  seen = kind_seen node.kind node.content is;
  through = λ following. rw is refl;
  following = none;
}
passed_by node true false rest is none = cc
passed_by node false may rest is none = cc

passed : (found : Option Node) (ids : Ids) (rest : Option Errno) → search_error found ids rest ≡ None → IsPassed found rest
passed None ids rest none = cc
passed (Some node) ids rest none = passed_by node (is_directory node.kind) (allowed node ids.euid ids.egid Search) rest refl none

-- what is seen of a name is what the name has
looked_from : (tree : Tree) (ids : Ids) (done rest : Components) → walk_error_from tree ids done rest ≡ None → look_along tree done rest ≡ seen_of (node_of tree (done ++ rest))
looked_from tree ids done [] none = ap (λ name. seen_of (node_of tree name)) (sym (append-nil done))
looked_from tree ids done (part ∷ rest) none =
    let on = passed (node_of tree done) ids (walk_error_from tree ids (done ++ part ∷ []) rest) none in
    on.through (look_along tree (done ++ part ∷ []) rest) ∙ looked_from tree ids (done ++ part ∷ []) rest on.following
    ∙ ap (λ name. seen_of (node_of tree name)) (append_assoc done (part ∷ []) rest)

pub looked : (tree : Tree) (ids : Ids) (name : Components) → walk_error tree ids name ≡ None → look tree name ≡ seen_of (node_of tree name)
looked tree ids name none = looked_from tree ids [] name none

parent-more : (part next : List ℕ) (rest : Components) → parent (part ∷ next ∷ rest) ≡ part ∷ parent (next ∷ rest)
parent-more part next rest =
    let less : length (part ∷ next ∷ rest) - 1 ≡ suc (length (next ∷ rest) - 1) = omega arith in
    ap (λ n. take n (part ∷ next ∷ rest)) less

-- what is seen of the directory of a name is a directory
holder_looked_from : (tree : Tree) (ids : Ids) (done : Components) (part : List ℕ) (rest : Components) → walk_error_from tree ids done (part ∷ rest) ≡ None → look_along tree done (parent (part ∷ rest)) ≡ Dir
holder_looked_from tree ids done part [] none = (passed (node_of tree done) ids _ none).seen
holder_looked_from tree ids done part (next ∷ rest) none =
    let on = passed (node_of tree done) ids (walk_error_from tree ids (done ++ part ∷ []) (next ∷ rest)) none in
    ap (look_along tree done) (parent-more part next rest) ∙ on.through (look_along tree (done ++ part ∷ []) (parent (next ∷ rest)))
    ∙ holder_looked_from tree ids (done ++ part ∷ []) next rest on.following

pub holder_looked : (tree : Tree) (ids : Ids) (part : List ℕ) (rest : Components) → walk_error tree ids (part ∷ rest) ≡ None → look tree (parent (part ∷ rest)) ≡ Dir
holder_looked tree ids part rest none = holder_looked_from tree ids [] part rest none
