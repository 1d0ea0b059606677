use Rattle.std.proofs.Common.{◌∙◌, ap}
use Rattle.st_model.specs.Processes.{process_at}
use Rattle.st_names.specs.Name.{printed_name}
use Rattle.st_effects.specs.System.{Request}
use Rattle.st_exec_objects.proofs.Executing.{memory_left, spaces_left}
use Rattle.st_exec_objects.proofs.execution.execute.Goals as goal

pub returns-clause-memory : goal.returns-clause-memory
returns-clause-memory c =
    memory_left c.executed-made.result (process_at c.args.procs.now c.args.request.now.pid).space c.space.result c.in_ok-space.space (printed_name c.args.name.now) c.request.inside.inherit
    c.args.spaces.now c.make.new.self c.give_up.new.self
    (c.space.ensures ∙ ap (λ (r : Request). (process_at c.args.procs.now r.pid).space) c.request.view_is) c.give_up.ensures.others c.make.ensures.others c.executed-made.ensures.changes

pub returns-clause-spaces : goal.returns-clause-spaces
returns-clause-spaces c =
    spaces_left c.executed-made.result (process_at c.args.procs.now c.args.request.now.pid).space c.space.result c.in_ok-space.space (printed_name c.args.name.now) c.request.inside.inherit
    c.args.spaces.now c.make.new.self c.give_up.new.self
    (c.space.ensures ∙ ap (λ (r : Request). (process_at c.args.procs.now r.pid).space) c.request.view_is) c.in_ok-space.ensures.number c.give_up.ensures.live c.in_ok-space.ensures.live c.give_up.ensures.next c.in_ok-space.ensures.next c.executed-made.ensures.changes
