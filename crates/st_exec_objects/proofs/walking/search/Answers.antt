use Rattle.std.proofs.Common.{◌∙◌, sym, None, true, false}
use Rattle.st_exec_objects.proofs.Objects.{searched}
use Rattle.st_exec_objects.proofs.walking.search.Goals as goal

pub returns-then-not-allowed : goal.returns-then-not-allowed
returns-then-not-allowed c = sym (searched c.args.tree.now c.args.ids c.args.obj true false None c.requires (sym c.if-not-is_directory.false ∙ c.is_directory.ensures.directory) (sym c.if-not-allowed.true ∙ c.allowed.ensures))

pub returns : goal.returns
returns c = sym (searched c.args.tree.now c.args.ids c.args.obj true true None c.requires (sym c.if-not-is_directory.false ∙ c.is_directory.ensures.directory) (sym c.if-not-allowed.false ∙ c.allowed.ensures))
