use Rattle.std.proofs.Common.{◌≡◌, ◌∙◌, ◌∷◌, ◌++◌, ◌+◌, ap, subst, sym, suc, [], List, map, length, arith}
use Rattle.std.proofs.lemmas.List.{with_items_is}
use Rattle.std.proofs.lemmas.Result.{err_from_is_err_and}
use Rattle.std.specs.Vec.{with_items}
use Rattle.st_model.specs.Tree.{Node, Tree, add_object, node_of_new}
use Rattle.st_names.specs.Name.{last_part}
use Rattle.st_tree.specs.Objects.{dirs_of, object_node, tree_of}
use Rattle.st_tree.specs.Paths.{with_entry}
use Rattle.st_tree.specs.declared.object.Object.{Object}
use Rattle.st_tree.proofs.Changes.{Makes, made_added, same_count, written_same}
use Rattle.st_tree.proofs.Kept.{added_made, added_node}
use Rattle.st_tree.proofs.Trees.{count_made}
use Rattle.st_tree.proofs.tree.Tree.add.Goals.{After-push_reserved}
use Rattle.st_tree.proofs.tree.Tree.add.Goals as goal

pub invariant_of-self-in_err-put_entry : goal.invariant_of-self-in_err-put_entry
invariant_of-self-in_err-put_entry c =
    let made : Makes (with_items c.reserve.new.self c.put_entry.new.objects).items c.args.self.now =
    written_same c.reserve.new.self c.self.inside.objects.items c.deref_mut.result.now c.put_entry.new.objects c.args.self.now
    c.self.invariant c.self.view_is c.in_ok-reserve.ensures.items (c.deref_mut.ensures.value ∙ c.in_ok-reserve.ensures.items) c.put_entry.ensures.nodes c.in_err-put_entry.ensures.err in
    made.whole

pub returns-in_err-put_entry-clause-err : goal.returns-in_err-put_entry-clause-err
returns-in_err-put_entry-clause-err c =
    let made : Makes (with_items c.reserve.new.self c.put_entry.new.objects).items c.args.self.now =
    written_same c.reserve.new.self c.self.inside.objects.items c.deref_mut.result.now c.put_entry.new.objects c.args.self.now
    c.self.invariant c.self.view_is c.in_ok-reserve.ensures.items (c.deref_mut.ensures.value ∙ c.in_ok-reserve.ensures.items) c.put_entry.ensures.nodes c.in_err-put_entry.ensures.err in
    let p = err_from_is_err_and c.from_residual-in_err-put_entry.result c.from_residual-in_err-put_entry.ensures.1 in
    rw p.1 made.view

pub returns-clause-number : goal.returns-clause-number
returns-clause-number c = rw (← c.self.view_is) (omega (arith, c.len.ensures, count_made c.self.inside.objects.items))

makes : (c : After-push_reserved) → Makes c.push_reserved.new.self.items (add_object c.args.self.now c.args.name.now (node_of_new c.args.new))
makes c =
    let old = c.self.inside.objects.items in
    let new = c.put_entry.new.objects in
    let at : c.deref_mut.result.now ≡ old = c.deref_mut.ensures.value ∙ c.in_ok-reserve.ensures.items in
    let nodes : map object_node new ≡ map object_node old = c.put_entry.ensures.nodes ∙ ap (map object_node) at in
    let number : c.len.result + 1 ≡ suc (length old) = omega (arith, c.len.ensures) in
    let free = rw c.deref.ensures.value at c.in_ok-holder.ensures.free in
    let room = rw c.deref.ensures.value at c.in_ok-holder.ensures.room in
    let made : Makes (new ++ c.of.result ∷ []) (add_object (tree_of old) c.args.name.now (object_node c.of.result)) =
    made_added old new c.of.result c.self.invariant room nodes c.args.name.now c.in_ok-holder.holder free
    (λ n. c.in_ok-put_entry.ensures.ok n
    ∙ ap (λ part. with_entry (dirs_of c.deref_mut.result.now) c.in_ok-holder.holder part (c.len.result + 1) n) c.last.ensures
    ∙ ap (λ objects. with_entry (dirs_of objects) c.in_ok-holder.holder (last_part c.args.name.now) (c.len.result + 1) n) at
    ∙ ap (λ k. with_entry (dirs_of old) c.in_ok-holder.holder (last_part c.args.name.now) k n) number)
    c.of.ensures.entries in
    let items : c.push_reserved.new.self.items ≡ new ++ c.of.result ∷ [] =
    c.push_reserved.ensures.items ∙ ap (λ (objects : List Object). objects ++ c.of.result ∷ [])
    (with_items_is c.reserve.new.self new (same_count old new nodes ∙ sym (ap length c.in_ok-reserve.ensures.items) ∙ sym c.reserve.new.self.ok.0)) in
    subst (λ (objects : List Object). Makes objects (add_object c.args.self.now c.args.name.now (node_of_new c.args.new))) (sym items)
    (subst (λ (node : Node). Makes (new ++ c.of.result ∷ []) (add_object c.args.self.now c.args.name.now node)) c.of.ensures.node
    (subst (λ (tree : Tree). Makes (new ++ c.of.result ∷ []) (add_object tree c.args.name.now (object_node c.of.result))) c.self.view_is made))

pub invariant_of-self-2 : goal.invariant_of-self-2
invariant_of-self-2 c = (makes c).whole

pub returns-clause-ok : goal.returns-clause-ok
returns-clause-ok c = (makes c).view

pub returns-clause-made : goal.returns-clause-made
returns-clause-made c = added_made _ _ c.args.name.now (node_of_new c.args.new) _ (returns-clause-ok c) (returns-clause-number c)

pub returns-clause-node : goal.returns-clause-node
returns-clause-node c = added_node _ _ c.args.name.now (node_of_new c.args.new) _ (returns-clause-ok c) (returns-clause-number c)
