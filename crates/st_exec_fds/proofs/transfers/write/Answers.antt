use Rattle.std.proofs.Common.{sym, subst}
use Rattle.st_model.specs.Descriptors.{Table}
use Rattle.st_request.specs.Ready.{AreValidOpenFiles}
use Rattle.st_request.proofs.Real.{written}
use Rattle.st_exec_fds.proofs.transfers.write.Goals as goal

pub returns-clause-real : goal.returns-clause-real
returns-clause-real c =
    subst (λ (t : Table). AreValidOpenFiles c.write_object.new.tree t) (sym c.seek.ensures.table)
    (written c.args.tree.now c.write_object.new.tree c.args.fds.now _ _ _ c.write_object.ensures.kinds c.requires.real)
