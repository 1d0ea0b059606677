use Rattle.std.proofs.Common.{◌≡◌, ◌∙◌, ap, refl, subst, map}
use Rattle.std.proofs.lemmas.Result.{err_from_is_err_and}
use Rattle.std.specs.Vec.{with_items}
use Rattle.st_names.specs.Name.{last_part}
use Rattle.st_tree.specs.Objects.{dirs_of, object_node, tree_of}
use Rattle.st_tree.specs.Paths.{with_entry, without_entry}
use Rattle.st_tree.specs.Reached.{IsRenaming, IsRenamePlan}
use Rattle.st_tree.specs.Refusals.{tree_after_rename}
use Rattle.st_tree.proofs.Changes.{Makes, made_renamed, same_count, written, written_same}
use Rattle.st_tree.proofs.tree.Tree.rename.Goals.{After-from_residual-in_err-move_entry, In_ok-move_entry}
use Rattle.st_tree.proofs.tree.Tree.rename.Goals as goal

again : (c : After-from_residual-in_err-move_entry) → Makes (with_items c.self.inside.objects c.move_entry.new.objects).items c.args.self.now
again c =
    written_same c.self.inside.objects c.self.inside.objects.items c.deref_mut.result.now c.move_entry.new.objects c.args.self.now
    c.self.invariant c.self.view_is refl c.deref_mut.ensures.value c.move_entry.ensures.nodes c.in_err-move_entry.ensures.err

pub invariant_of-self : goal.invariant_of-self
invariant_of-self c = (again c).whole

pub returns-in_err-move_entry-clause-err : goal.returns-in_err-move_entry-clause-err
returns-in_err-move_entry-clause-err c =
    let p = err_from_is_err_and c.from_residual-in_err-move_entry.result c.from_residual-in_err-move_entry.ensures.1 in
    rw p.1 (again c).view

makes : (c : In_ok-move_entry) → Makes (with_items c.self.inside.objects c.move_entry.new.objects).items (tree_after_rename c.args.self.now c.args.old.now c.args.new.now)
makes c =
    let old = c.self.inside.objects.items in
    let new = c.move_entry.new.objects in
    let found = rw c.deref.ensures.value at c.in_ok-way.ensures.way in
    let way : IsRenamePlan old c.args.old.now c.args.new.now c.in-Some.way = subst (IsRenaming old c.args.old.now c.args.new.now) c.in-Some.is found in
    let nodes : map object_node new ≡ map object_node old = c.move_entry.ensures.nodes ∙ ap (map object_node) c.deref_mut.ensures.value in
    written c.self.inside.objects new (tree_of old) c.args.self.now (λ tree. tree_after_rename tree c.args.old.now c.args.new.now) (same_count old new nodes) c.self.view_is
    (made_renamed old new c.self.invariant nodes c.args.old.now c.args.new.now c.in-Some.way way
    (λ number. c.in_ok-move_entry.ensures.ok number
    ∙ ap (λ objects. without_entry (with_entry (dirs_of objects) c.in-Some.way.to (last_part c.args.new.now) c.in-Some.way.obj) c.in-Some.way.from (last_part c.args.old.now) number) c.deref_mut.ensures.value))

pub invariant_of-self-2 : goal.invariant_of-self-2
invariant_of-self-2 c = (makes c).whole

pub returns-clause-ok : goal.returns-clause-ok
returns-clause-ok c = (makes c).view
