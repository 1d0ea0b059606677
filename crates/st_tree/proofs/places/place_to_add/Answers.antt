use Rattle.std.proofs.Common.{◌≤◌, ◌<◌, arith, length}
use Rattle.std.proofs.lemmas.Bool.{le-leb, lt-leb}
use Rattle.st_base.specs.declared.errno.Errno.TheVariants.{ENOSPC}
use Rattle.st_tree.specs.Objects.{tree_of}
use Rattle.st_model.specs.Adding.{place_refused}
use Rattle.st_tree.proofs.Reasons.{last-met, last-unmet}
use Rattle.st_tree.proofs.Trees.{count_made}
use Rattle.st_tree.proofs.places.place_to_add.Goals as goal

pub returns-then-objects-ge-MOST_OBJECTS-clause-refused : goal.returns-then-objects-ge-MOST_OBJECTS-clause-refused
returns-then-objects-ge-MOST_OBJECTS-clause-refused c =
    let full : 4096 ≤ length (tree_of c.args.objects.now).objects = omega (arith, count_made c.args.objects.now) in
    last-met (place_refused (tree_of c.args.objects.now) c.args.name.now) _ ENOSPC c.in_ok-holder.ensures.refused (le-leb 4096 (length (tree_of c.args.objects.now).objects) full)

pub returns-clause-refused : goal.returns-clause-refused
returns-clause-refused c =
    let room : length (tree_of c.args.objects.now).objects < 4096 = omega (arith, count_made c.args.objects.now) in
    last-unmet (place_refused (tree_of c.args.objects.now) c.args.name.now) _ ENOSPC c.in_ok-holder.ensures.refused (lt-leb 4096 (length (tree_of c.args.objects.now).objects) room)
