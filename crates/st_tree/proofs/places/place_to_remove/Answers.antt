use Rattle.std.proofs.Common.{Some, None, [], ◌∷◌, ◌∙◌, sym}
use Rattle.st_base.specs.Errno.{error_if}
use Rattle.st_base.specs.declared.errno.Errno.TheVariants.{EINVAL, ENOTEMPTY}
use Rattle.st_model.specs.Tree.{object_of}
use Rattle.st_tree.specs.Objects.{tree_of}
use Rattle.st_tree.specs.Refusals.{has_entries, no_object}
use Rattle.st_names.specs.Name.{is_root}
use Rattle.st_tree.proofs.Reasons.{entries_made, last-met, last-unmet, first_error-later, named_no_root, none_in, error_if-false}
use Rattle.st_tree.proofs.places.place_to_remove.Goals as goal

pub returns-then-has_entries-clause-refused : goal.returns-then-has_entries-clause-refused
returns-then-has_entries-clause-refused c =
    let taken = c.in_ok-holder.ensures.taken in
    first_error-later (Some ENOTEMPTY) (error_if (is_root c.args.name.now) EINVAL) (no_object (tree_of c.args.objects.now) c.args.name.now ∷ error_if (has_entries (tree_of c.args.objects.now) (object_of (tree_of c.args.objects.now) c.args.name.now)) ENOTEMPTY ∷ [])
    (error_if-false (is_root c.args.name.now) EINVAL (named_no_root c.args.name.now taken.named))
    (last-met (no_object (tree_of c.args.objects.now) c.args.name.now) _ ENOTEMPTY c.in_ok-holder.ensures.refused
    (entries_made c.args.objects.now c.requires c.args.name.now c.in_ok-holder.holder c.in_ok-holder.obj taken ∙ sym c.has_entries.ensures ∙ c.if-has_entries.true))

pub returns-clause-refused : goal.returns-clause-refused
returns-clause-refused c =
    let taken = c.in_ok-holder.ensures.taken in
    first_error-later None (error_if (is_root c.args.name.now) EINVAL) (no_object (tree_of c.args.objects.now) c.args.name.now ∷ error_if (has_entries (tree_of c.args.objects.now) (object_of (tree_of c.args.objects.now) c.args.name.now)) ENOTEMPTY ∷ [])
    (error_if-false (is_root c.args.name.now) EINVAL (named_no_root c.args.name.now taken.named))
    (last-unmet (no_object (tree_of c.args.objects.now) c.args.name.now) _ ENOTEMPTY c.in_ok-holder.ensures.refused
    (entries_made c.args.objects.now c.requires c.args.name.now c.in_ok-holder.holder c.in_ok-holder.obj taken ∙ sym c.has_entries.ensures ∙ c.if-has_entries.false))

pub returns-clause-empty : goal.returns-clause-empty
returns-clause-empty c = (c.in_ok-holder.obj, (c.in_ok-holder.ensures.taken, none_in _ (sym c.has_entries.ensures ∙ c.if-has_entries.false)))
