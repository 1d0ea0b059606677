-- The way down the tree to a name, and the first link on it.
use native.Mathlib.Omega.{arith}
use Rattle.std.proofs.Common.{◌≡◌, ℕ, ◌+◌, Bool, true, false, if◌then◌else◌, cond, not, ◌&&◌, ◌||◌, List, [], ◌∷◌, ◌++◌, length, refl, sym, ap, ◌∙◌, append_assoc, append-nil, length-append, Option, Some, None}
use Rattle.std.proofs.lemmas.Bool.{ne_eqb}
use Rattle.st_model.specs.Tree.{Tree, is_directory, node_at, node_of_number, node_with_number, object_of}
use Rattle.st_model.specs.Walk.{is_last}
use Rattle.st_model.specs.declared.object.Kind.{Kind}
use Rattle.st_model.specs.declared.object.Kind.TheVariants as object_kind
use Rattle.st_effects.specs.Names.{is_link}
use Rattle.st_names.specs.Name.{Components}
use Rattle.st_law.specs.Arguments.{is_link_at, is_link_node, link_along, link_on_way}
use Rattle.st_tree.specs.Refusals.{IsObjectNumber}
use Rattle.st_exec_objects.proofs.Objects.{numbered}

-- whether the kind of an object that was made is that of a link
pub link_of_made : (tree : Tree) (obj : ℕ) → IsObjectNumber tree obj → is_link_node (node_of_number tree obj) ≡ is_link (node_with_number tree obj).kind
link_of_made tree obj made = ap is_link_node (numbered tree obj made)

no_link_directory : (kind : Kind) → is_directory kind ≡ true → is_link kind ≡ false
no_link_directory object_kind.Dir e = refl
no_link_directory object_kind.File e = cc
no_link_directory object_kind.Link e = cc

-- a directory isn't a link
pub no_link_dir : (tree : Tree) (obj : ℕ) → IsObjectNumber tree obj → is_directory (node_with_number tree obj).kind ≡ true → is_link_node (node_of_number tree obj) ≡ false
no_link_dir tree obj made directory = link_of_made tree obj made ∙ no_link_directory (node_with_number tree obj).kind directory

-- ---- the way

-- the first link from this name on, the name itself included
abbrev pub link_from : Tree → Bool → Components → Components → Option Components
link_from tree follow done rest =
    if is_link_at tree done && (follow || not (is_last rest)) then Some done
    else link_along tree follow done rest

-- the way has reached the object of a prefix with `count` components, with no link before it
pub record HasCome (tree : Tree) (follow : Bool) (front : Components) (count obj : ℕ) : Type 0 where
  pub count_is : count ≡ length front
  pub object : object_of tree front ≡ Some obj
  pub made : IsObjectNumber tree obj
  pub way : (rest : Components) → link_on_way tree follow (front ++ rest) ≡ link_from tree follow front rest

passes : (tree : Tree) (follow : Bool) (done rest : Components) → is_link_at tree done ≡ false → link_from tree follow done rest ≡ link_along tree follow done rest
passes tree follow done rest none = ap (λ b. cond (b && (follow || not (is_last rest))) (Some done) (link_along tree follow done rest)) none

-- the way begins at the root
pub come_first : (tree : Tree) (follow : Bool) (root : ℕ) → object_of tree [] ≡ Some root → IsObjectNumber tree root → is_directory (node_with_number tree root).kind ≡ true → HasCome tree follow [] 0 root
come_first tree follow root object made directory = record {
  count_is = refl;
  object = object;
  made = made;
  way = λ rest. sym (passes tree follow [] rest (ap (λ (o : Option ℕ). is_link_node (node_at tree o)) object ∙ no_link_dir tree root made directory));
}

module _ (tree : Tree) (follow : Bool) (front : Components) (count obj : ℕ) (come : HasCome tree follow front count obj) where
  link_here : is_link_at tree front ≡ is_link_node (node_of_number tree obj)
  link_here = ap (λ (o : Option ℕ). is_link_node (node_at tree o)) come.object

  module _ (part : List ℕ) where
    onward : (rest : Components) → false ≡ is_link_node (node_of_number tree obj) → link_on_way tree follow (front ++ part ∷ rest) ≡ link_along tree follow front (part ∷ rest)
    onward rest none = come.way (part ∷ rest) ∙ passes tree follow front (part ∷ rest) (link_here ∙ sym none)

    -- the way goes on to the object of the next component
    pub come_on : (next : ℕ) → false ≡ is_link_node (node_of_number tree obj) → Some next ≡ object_of tree (front ++ part ∷ []) → IsObjectNumber tree next → HasCome tree follow (front ++ part ∷ []) (count + 1) next
    come_on next none object made = record {
      count_is = let c = come.count_is in let l : length (front ++ part ∷ []) ≡ length front + 1 = length-append front (part ∷ []) in omega (arith, c, l);
      object = sym object;
      made = made;
      way = λ rest. ap (link_on_way tree follow) (append_assoc front (part ∷ []) rest) ∙ onward rest none;
    }

    lost_along : (done rest : Components) → ((next : List ℕ) (more : Components) → object_of tree (done ++ next ∷ more) ≡ None) → link_along tree follow done rest ≡ None
    lost_along done [] lost = refl
    lost_along done (next ∷ rest) lost =
        ap (λ (o : Option ℕ). cond (is_link_node (node_at tree o) && (follow || not (is_last rest))) (Some (done ++ next ∷ [])) (link_along tree follow (done ++ next ∷ []) rest)) (lost next [])
        ∙ lost_along (done ++ next ∷ []) rest (λ further more. ap (object_of tree) (append_assoc done (next ∷ []) (further ∷ more)) ∙ lost next (further ∷ more))

    -- no object is on the way from here on
    pub come_lost : (rest : Components) → false ≡ is_link_node (node_of_number tree obj) → ((rest : Components) → object_of tree (front ++ part ∷ rest) ≡ None) → link_on_way tree follow (front ++ part ∷ rest) ≡ None
    come_lost rest none lost =
        onward rest none
        ∙ ap (λ (o : Option ℕ). cond (is_link_node (node_at tree o) && (follow || not (is_last rest))) (Some (front ++ part ∷ [])) (link_along tree follow (front ++ part ∷ []) rest)) (lost [])
        ∙ lost_along (front ++ part ∷ []) rest (λ next more. ap (object_of tree) (append_assoc front (part ∷ []) (next ∷ more)) ∙ lost (next ∷ more))

    -- the object here is a link on the way to the name
    pub come_to_link : (rest : Components) → true ≡ is_link_node (node_of_number tree obj) → link_on_way tree follow (front ++ part ∷ rest) ≡ Some front
    come_to_link rest some =
        come.way (part ∷ rest)
        ∙ ap (λ b. cond (b && (follow || not (is_last (part ∷ rest)))) (Some front) (link_along tree follow front (part ∷ rest))) (link_here ∙ sym some)
        ∙ ap (λ b. cond b (Some front) (link_along tree follow front (part ∷ rest))) (leads follow) where
          leads : (follow : Bool) → (follow || not (is_last (part ∷ rest))) ≡ true
          leads true = refl
          leads false = ap not (ne_eqb (length (part ∷ rest)) 0 (λ e. omega (arith, e)))

  last_by : (is follow : Bool) → cond (is && (follow || not (is_last []))) (Some front) None ≡ cond (follow && is) (Some front) None
  last_by true true = refl
  last_by true false = refl
  last_by false true = refl
  last_by false false = refl

  -- the name ends here
  pub come_last : (b : Bool) → b ≡ is_link_node (node_of_number tree obj) → link_on_way tree follow front ≡ cond (follow && b) (Some front) None
  come_last b is =
      ap (link_on_way tree follow) (sym (append-nil front)) ∙ come.way []
      ∙ ap (λ b. cond (b && (follow || not (is_last []))) (Some front) None) (link_here ∙ sym is)
      ∙ last_by b follow
