use Rattle.std.proofs.Common.{◌∙◌, ap, sym, subst}
use Rattle.st_effects.specs.System.{Request}
use Rattle.st_request.specs.Outcome.{with_descriptors}
use Rattle.st_request.specs.Ready.{AreValidOpenFiles}
use Rattle.st_request.proofs.Outcomes.{failed}
use Rattle.st_exec_sys.proofs.Binding.{bind_failed, bound_real, not_bound}
use Rattle.st_exec_sys.proofs.sockets.bind.Goals as goal

pub returns-in-Err-clause-outcome : goal.returns-in-Err-clause-outcome
returns-in-Err-clause-outcome c = λ system.
    failed c.failure.result (with_descriptors system c.args.fds.now) c.in-Err.errno c.failure.ensures.result c.failure.ensures.changes
    ∙ sym (not_bound system c.args.request.now c.args.fds.now c.port_of-port.result c.port_of-port.ensures c.in-Err.errno c.in-Err.ensures)

pub returns-in-Ok-clause-real : goal.returns-in-Ok-clause-real
returns-in-Ok-clause-real c = λ tree real.
    subst (AreValidOpenFiles tree) (sym c.bind.ensures.table) (bound_real tree c.args.fds.now _ _ c.port_of-port.result real)

pub returns-in-Err-bind-clause-outcome : goal.returns-in-Err-bind-clause-outcome
returns-in-Err-bind-clause-outcome c = λ system.
    bind_failed system c.args.request.now c.args.fds.now c.port_of-port.result c.port_of-port.ensures c.failure-in-Err-bind.result c.bind.new.self c.request.inside.pid c.register.result c.in-Err-bind.errno
    (ap (λ (r : Request). r.pid) c.request.view_is) c.register.ensures c.in_default.ensures c.in-Err-bind.ensures.answer c.bind.ensures.table c.failure-in-Err-bind.ensures.result c.failure-in-Err-bind.ensures.changes

pub returns-in-Err-bind-clause-real : goal.returns-in-Err-bind-clause-real
returns-in-Err-bind-clause-real c = λ tree real.
    subst (AreValidOpenFiles tree) (sym c.bind.ensures.table) (bound_real tree c.args.fds.now _ _ c.port_of-port.result real)
