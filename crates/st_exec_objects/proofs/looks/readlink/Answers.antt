use Rattle.std.proofs.Common.{◌∙◌, sym, ap, ℕ, length, take}
use Rattle.st_model.specs.Processes.{process_at}
use Rattle.st_effects.specs.System.{Request, register}
use Rattle.st_effects.specs.Names.{readlink_outcome}
use Rattle.st_request.specs.Outcome.{with_processes, with_tree}
use Rattle.st_request.proofs.Outcomes.{failed, put_counted, succeeded_if_ok}
use Rattle.st_exec_objects.proofs.looks.readlink.Goals as goal

pub returns-in-Err-clause-outcome : goal.returns-in-Err-clause-outcome
returns-in-Err-clause-outcome c = λ system.
    failed c.failure.result system c.in-Err.errno c.failure.ensures.result c.failure.ensures.changes ∙ sym (c.in-Err.ensures.outcome (with_processes system c.args.procs.now))

pub returns-clause-outcome : goal.returns-clause-outcome
returns-clause-outcome c =
    succeeded_if_ok c.put_bytes.result (length c.front-target.result.now) _ (λ system. readlink_outcome (with_tree (with_processes system c.args.procs.now) c.args.tree.now) c.args.request.now) c.put_bytes.ensures.result c.put_bytes.ensures.changes
    (λ system. c.in-Ok.ensures.outcome (with_processes system c.args.procs.now)
    ∙ put_counted (with_processes system c.args.procs.now) c.args.request.now c.space-space.result c.register-2.result _ c.front-target.result.now
    (c.space-space.ensures ∙ ap (λ (r : Request). (process_at c.args.procs.now r.pid).space) c.request.view_is) c.register-2.ensures
    (c.front-target.ensures ∙ ap (λ (count : ℕ). take count c.content.result.now) c.register.ensures ∙ ap (take (register c.args.request.now 2)) c.content.ensures))
