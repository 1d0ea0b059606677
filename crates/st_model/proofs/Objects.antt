-- What a new object changes in a tree, and what it doesn't change.
use Rattle.std.proofs.Common.{◌≡◌, ◌≢◌, ◌∙◌, ap, refl, sym, subst, ℕ, zero, suc, Bool, true, false, cond, if◌then◌else◌, List, [], ◌∷◌, ◌++◌, length, slice_get, Option, Some}
use Rattle.std.proofs.lemmas.Bool.{true≢false, false_from_ne_true}
use Rattle.std.specs.Bool.{Decides}
use Rattle.std.specs.Cmp.Lexicographic.{lists_ties, texts_ties, slice_cmp}
use Rattle.std.proofs.lemmas.Cmp.{lists_total, nat_cmp_total}
use Rattle.std.specs.BTreeMap.{is_at}
use Rattle.std.specs.Cmp.{both_ways}
use Rattle.std.specs.Map.{lookup}
use Rattle.std.specs.Ordering.{nat_cmp, is_eq}
use Rattle.st_base.proofs.Insertions.{lookup-insert_entry}
use Rattle.std.specs.declared.cmp.Ordering.{Ordering}
use Rattle.std.specs.declared.cmp.Ordering.TheVariants.{Less, Equal, Greater}
use Rattle.std.proofs.lemmas.Slice.Eq.{bytes_eq-Decides, slice_eq-Decides}
use Rattle.st_names.specs.Name.{Components}
use Rattle.st_model.specs.Tree.{Tree, Node, compare_names, is_same_name, number_of_name, with_name, add_object, object_of, node_of, node_at, node_of_number}

pub is_same_name-Decides : (name other : Components) → Decides (is_same_name name other) (name ≡ other)
is_same_name-Decides name other = slice_eq-Decides bytes_eq-Decides name other (is_same_name name other) refl

-- names are equal exactly when the order finds them equal
pub same-compared : (name other : Components) → is_same_name name other ≡ is_eq (compare_names name other)
same-compared name other = lists_ties (slice_cmp nat_cmp) texts_ties name other

same-swapped : (name other : Components) → is_same_name other name ≡ is_same_name name other
same-swapped name other =
    both_ways (is_same_name other name) (is_same_name name other)
    (λ is. (is_same_name-Decides name other).1 (sym ((is_same_name-Decides other name).0 is)))
    (λ is. (is_same_name-Decides other name).1 (sym ((is_same_name-Decides name other).0 is)))

-- the test for a name is the test by the order of names
tests-same : (name : Components) → (λ (other : Components). is_same_name other name) ≡ is_at (compare_names name)
tests-same name = λ i other. (same-swapped name other ∙ same-compared name other) i

-- a name that is added has its number, and each other name keeps the number that it had
pub number-put : (name : Components) (number : ℕ) (other : Components) (pairs : List (Components × ℕ)) → number_of_name (with_name pairs name number) other ≡ (if is_same_name name other then Some number else number_of_name pairs other)
number-put name number other pairs =
    ap (λ (test : Components → Bool). lookup test (with_name pairs name number)) (tests-same other) ∙
    lookup-insert_entry (lists_total (lists_total nat_cmp_total)) name number other pairs ∙
    ap (λ (b : Bool). if b then Some number else lookup (is_at (compare_names other)) pairs) (sym (same-compared other name) ∙ sym (same-swapped other name)) ∙
    ap (λ (test : Components → Bool). if is_same_name name other then Some number else lookup test pairs) (sym (tests-same other))

pub number_added : (tree : Tree) (name : Components) (node : Node) → name ≢ [] → object_of (add_object tree name node) name ≡ Some (suc (length tree.objects))
number_added tree [] node named = absurd (named refl)
number_added tree (part ∷ rest) node named =
    number-put (part ∷ rest) (suc (length tree.objects)) (part ∷ rest) tree.names ∙
    ap (λ (b : Bool). if b then Some (suc (length tree.objects)) else number_of_name tree.names (part ∷ rest)) ((is_same_name-Decides (part ∷ rest) (part ∷ rest)).1 refl)

pub names_kept : (tree : Tree) (name other : Components) (node : Node) → other ≢ name → object_of (add_object tree name node) other ≡ object_of tree other
names_kept tree name [] node differs = refl
names_kept tree name (part ∷ rest) node differs =
    number-put name (suc (length tree.objects)) (part ∷ rest) tree.names ∙
    ap (λ (b : Bool). if b then Some (suc (length tree.objects)) else number_of_name tree.names (part ∷ rest))
    (false_from_ne_true (is_same_name name (part ∷ rest)) (λ same. differs (sym ((is_same_name-Decides name (part ∷ rest)).0 same))))

slice_get-push : (nodes : List Node) (node : Node) → slice_get (nodes ++ node ∷ []) (length nodes) ≡ Some node
slice_get-push [] node = refl
slice_get-push (first ∷ nodes) node = slice_get-push nodes node

pub node_added : (tree : Tree) (name : Components) (node : Node) → name ≢ [] → node_of (add_object tree name node) name ≡ Some node
node_added tree name node named =
    ap (node_at (add_object tree name node)) (number_added tree name node named) ∙ slice_get-push tree.objects node

slice_get-append : (nodes more : List Node) (i : ℕ) (node : Node) → slice_get nodes i ≡ Some node → slice_get (nodes ++ more) i ≡ Some node
slice_get-append [] more i node h = cc
slice_get-append (first ∷ nodes) more zero node h = h
slice_get-append (first ∷ nodes) more (suc i) node h = slice_get-append nodes more i node h

pub objects_kept : (tree : Tree) (name : Components) (node old : Node) (number : ℕ) → node_of_number tree number ≡ Some old → node_of_number (add_object tree name node) number ≡ Some old
objects_kept tree name node old zero h = cc
objects_kept tree name node old (suc before) h = slice_get-append tree.objects (node ∷ []) before old h
