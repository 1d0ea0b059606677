-- Changes that keep the kinds of objects, and the node of a new object.
use Rattle.std.proofs.Common.{◌≡◌, ap, sym, ◌∙◌, ℕ, suc, ◌-◌, ◌<◌, List, [], ◌∷◌, ◌++◌, length, get_or, set, inl, inr, arith}
use Rattle.std.proofs.Math.Seq.{get_or-append_seam}
use Rattle.std.proofs.lemmas.Bool.{cases_eq}
use Rattle.std.proofs.lemmas.List.{get_or-set_other, get_or-set_same, length-append, length-set}
use Rattle.st_names.specs.Name.{Components}
use Rattle.st_model.specs.Tree.{Node, Tree, add_object, node_with_number, root_node, with_node}
use Rattle.st_tree.specs.Answers.{KeepsKinds}
use Rattle.st_tree.specs.Refusals.{IsObjectNumber}

pub kinds_same : (old new : Tree) → new ≡ old → KeepsKinds old new
kinds_same old new is = (ap (λ (t : Tree). length t.objects) is, λ number. ap (λ (t : Tree). (node_with_number t number).kind) is)

-- an object is replaced by an object of the same kind
pub kinds_kept : (old new : Tree) (number : ℕ) (node : Node) → IsObjectNumber old number → node.kind ≡ (node_with_number old number).kind → new ≡ with_node old number node → KeepsKinds old new
kinds_kept old new number node made kind is =
    let objects : List Node = old.objects in
    let inside : number - 1 < length objects = omega (arith, made.0, made.1) in (
      ap (λ (t : Tree). length t.objects) is ∙ length-set objects (number - 1) node,
      λ other. ap (λ (t : Tree). (node_with_number t other).kind) is ∙ elim (cases_eq (other - 1) (number - 1)) [
        | inl e ↦
            ap (λ (i : ℕ). (get_or (set objects (number - 1) node) i root_node).kind) e
            ∙ ap (λ (n : Node). n.kind) (get_or-set_same objects (number - 1) node root_node inside)
            ∙ kind
            ∙ ap (λ (i : ℕ). (get_or objects i root_node).kind) (sym e)
        | inr n ↦ ap (λ (n : Node). n.kind) (get_or-set_other objects (number - 1) (other - 1) node root_node n)
      ],
    )

pub added_made : (old new : Tree) (name : Components) (node : Node) (number : ℕ) → new ≡ add_object old name node → number ≡ suc (length old.objects) → IsObjectNumber new number
added_made old new name node number is number_is =
    (omega (arith, number_is), omega (arith, number_is, ap (λ (t : Tree). length t.objects) is, length-append old.objects (node ∷ [])))

pub added_node : (old new : Tree) (name : Components) (node : Node) (number : ℕ) → new ≡ add_object old name node → number ≡ suc (length old.objects) → node_with_number new number ≡ node
added_node old new name node number is number_is =
    let at : number - 1 ≡ length old.objects = omega (arith, number_is) in
    ap (λ (t : Tree). node_with_number t number) is
    ∙ ap (λ (i : ℕ). get_or (old.objects ++ node ∷ []) i root_node) at
    ∙ get_or-append_seam old.objects node [] root_node
