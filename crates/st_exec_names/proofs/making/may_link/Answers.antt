use Rattle.std.proofs.Common.{◌∙◌, sym}
use Rattle.st_exec_names.proofs.Allowed.{linkable}
use Rattle.st_exec_names.proofs.making.may_link.Goals as goal

pub returns-clause-may : goal.returns-clause-may
returns-clause-may c = linkable c.args.tree.now c.args.new.now c.in_ok-obj.obj c.in_ok-may_name.ensures.free (sym c.is_directory.ensures.directory ∙ c.if-is_directory.false)
