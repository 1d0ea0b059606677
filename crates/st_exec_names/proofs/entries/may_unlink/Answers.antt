use Rattle.std.proofs.Common.{◌∙◌, sym}
use Rattle.st_exec_names.proofs.Allowed.{plain_named, removable}
use Rattle.st_exec_objects.proofs.Objects.{found_made}
use Rattle.st_exec_names.proofs.entries.may_unlink.Goals as goal

pub returns-clause-may : goal.returns-clause-may
returns-clause-may c =
    let place = c.in_ok-place.ensures.place in
    let found = sym place.object ∙ c.in-Some.is in
    let named = plain_named c.args.tree.now c.args.name.now c.in-Some.obj place.root_directory found (sym c.is_directory.ensures.directory ∙ c.if-is_directory.false) in
    removable c.args.tree.now _ c.args.name.now c.in-Some.obj named (sym c.in_ok-place.ensures.refused) found (found_made c.args.tree.now c.in_ok-place.place.object c.in-Some.obj c.in-Some.is place.object_made)
    (c.is_directory.ensures.plain c.if-is_directory.false)
