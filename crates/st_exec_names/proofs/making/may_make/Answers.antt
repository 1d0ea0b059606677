use Rattle.std.proofs.Common.{length, arith}
use Rattle.std.proofs.lemmas.Bool.{lt-leb}
use Rattle.st_model.specs.declared.limits.TheConstants.{MOST_OBJECTS}
use Rattle.st_exec_names.proofs.Allowed.{addable}
use Rattle.st_exec_names.proofs.making.may_make.Goals as goal

pub returns-clause-may : goal.returns-clause-may
returns-clause-may c = addable c.args.tree.now c.args.name.now c.in_ok-may_name.ensures.free (lt-leb MOST_OBJECTS (length c.args.tree.now.objects) (omega (arith, c.made.ensures, c.if-made-ge-MOST_OBJECTS.false)))
