use Rattle.std.proofs.Common.{◌∙◌, sym}
use Rattle.st_base.specs.declared.errno.Errno.TheVariants.{EPERM}
use Rattle.st_tree.specs.Objects.{tree_of}
use Rattle.st_model.specs.Adding.{place_refused}
use Rattle.st_tree.proofs.Reasons.{dir_made, last-met, last-unmet}
use Rattle.st_tree.proofs.places.place_to_link.Goals as goal

pub returns-then-is_dir-clause-refused : goal.returns-then-is_dir-clause-refused
returns-then-is_dir-clause-refused c =
    last-met (place_refused (tree_of c.args.objects.now) c.args.name.now) _ EPERM c.in_ok-holder.ensures.refused (dir_made c.args.objects.now c.args.obj c.requires.number ∙ sym c.is_dir.ensures ∙ c.if-is_dir.true)

pub returns-clause-refused : goal.returns-clause-refused
returns-clause-refused c =
    last-unmet (place_refused (tree_of c.args.objects.now) c.args.name.now) _ EPERM c.in_ok-holder.ensures.refused (dir_made c.args.objects.now c.args.obj c.requires.number ∙ sym c.is_dir.ensures ∙ c.if-is_dir.false)
