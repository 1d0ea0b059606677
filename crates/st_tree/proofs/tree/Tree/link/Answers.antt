use Rattle.std.proofs.Common.{◌≡◌, ◌∙◌, ap, refl, map}
use Rattle.std.proofs.lemmas.Result.{err_from_is_err_and}
use Rattle.std.specs.Vec.{with_items}
use Rattle.st_model.specs.Tree.{link_object}
use Rattle.st_names.specs.Name.{last_part}
use Rattle.st_tree.specs.Objects.{dirs_of, object_node, tree_of}
use Rattle.st_tree.specs.Paths.{with_entry}
use Rattle.st_tree.proofs.Changes.{Makes, made_linked, same_count, written, written_same}
use Rattle.st_tree.proofs.Trees.{made_within}
use Rattle.st_tree.proofs.tree.Tree.link.Goals.{After-from_residual-in_err-put_entry, In_ok-put_entry}
use Rattle.st_tree.proofs.tree.Tree.link.Goals as goal

pub place_to_link-requires : goal.place_to_link-requires
place_to_link-requires c = rw c.deref.ensures.value (record { whole = c.self.invariant; number = made_within _ _ c.args.obj c.self.view_is c.requires })

pub put_entry-requires : goal.put_entry-requires
put_entry-requires c =
    let free = rw c.deref.ensures.value at c.in_ok-holder.ensures.free in
    rw c.deref_mut.ensures.value (record { number = free.number; dir = free.dir })

again : (c : After-from_residual-in_err-put_entry) → Makes (with_items c.self.inside.objects c.put_entry.new.objects).items c.args.self.now
again c =
    written_same c.self.inside.objects c.self.inside.objects.items c.deref_mut.result.now c.put_entry.new.objects c.args.self.now
    c.self.invariant c.self.view_is refl c.deref_mut.ensures.value c.put_entry.ensures.nodes c.in_err-put_entry.ensures.err

pub invariant_of-self : goal.invariant_of-self
invariant_of-self c = (again c).whole

pub returns-in_err-put_entry-clause-err : goal.returns-in_err-put_entry-clause-err
returns-in_err-put_entry-clause-err c =
    let p = err_from_is_err_and c.from_residual-in_err-put_entry.result c.from_residual-in_err-put_entry.ensures.1 in
    rw p.1 (again c).view

makes : (c : In_ok-put_entry) → Makes (with_items c.self.inside.objects c.put_entry.new.objects).items (link_object c.args.self.now c.args.name.now c.args.obj)
makes c =
    let old = c.self.inside.objects.items in
    let new = c.put_entry.new.objects in
    let free = rw c.deref.ensures.value at c.in_ok-holder.ensures.free in
    let plain = rw c.deref.ensures.value at c.in_ok-holder.ensures.plain in
    let nodes : map object_node new ≡ map object_node old = c.put_entry.ensures.nodes ∙ ap (map object_node) c.deref_mut.ensures.value in
    written c.self.inside.objects new (tree_of old) c.args.self.now (λ tree. link_object tree c.args.name.now c.args.obj) (same_count old new nodes) c.self.view_is
    (made_linked old new c.self.invariant nodes c.args.name.now c.in_ok-holder.holder c.args.obj free (made_within _ _ c.args.obj c.self.view_is c.requires) plain
    (λ number. c.in_ok-put_entry.ensures.ok number ∙ ap (λ part. with_entry (dirs_of c.deref_mut.result.now) c.in_ok-holder.holder part c.args.obj number) c.last.ensures
    ∙ ap (λ objects. with_entry (dirs_of objects) c.in_ok-holder.holder (last_part c.args.name.now) c.args.obj number) c.deref_mut.ensures.value))

pub invariant_of-self-2 : goal.invariant_of-self-2
invariant_of-self-2 c = (makes c).whole

pub returns-clause-ok : goal.returns-clause-ok
returns-clause-ok c = (makes c).view
