use Rattle.std.proofs.Common.{◌∙◌, sym}
use Rattle.st_exec_names.proofs.Allowed.{no_root, removable}
use Rattle.st_exec_objects.proofs.Objects.{found_made}
use Rattle.st_exec_names.proofs.entries.may_remove_directory.Goals as goal

pub returns-clause-may : goal.returns-clause-may
returns-clause-may c =
    let place = c.in_ok-place.ensures.place in
    removable c.args.tree.now _ c.args.name.now c.in-Some.obj (no_root c.args.name.now c.is_root.result c.is_root.ensures c.if-is_root.false) (sym c.in_ok-place.ensures.refused) (sym place.object ∙ c.in-Some.is)
    (found_made c.args.tree.now c.in_ok-place.place.object c.in-Some.obj c.in-Some.is place.object_made) c.in_ok-may_take_away.ensures.bare
