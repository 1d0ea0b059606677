use Rattle.std.proofs.Common.{sym, subst}
use Rattle.st_model.specs.Descriptors.{Table}
use Rattle.st_request.specs.Ready.{AreValidOpenFiles}
use Rattle.st_request.proofs.Real.{sought}
use Rattle.st_exec_fds.proofs.transfers.read.Goals as goal

pub returns-clause-real : goal.returns-clause-real
returns-clause-real c = subst (λ (t : Table). AreValidOpenFiles c.args.tree.now t) (sym c.seek.ensures.table) (sought c.args.tree.now c.args.fds.now _ _ _ c.requires.real)
