use Rattle.std.proofs.Common.{◌∙◌, ◌∷◌, sym}
use Rattle.st_names.specs.Name.{printed_name}
use Rattle.st_memory.specs.Memory.{next_space}
use Rattle.st_effects.specs.Processes.{execve_outcome, policy_changes}
use Rattle.st_trace.specs.declared.entry.Change.TheVariants.{Execed}
use Rattle.st_request.specs.Outcome.{with_memories, with_tree}
use Rattle.st_request.proofs.Outcomes.{failed, succeeded_if_ok}
use Rattle.st_exec_objects.proofs.execution.execve.Goals as goal

pub returns-in-Err-clause-outcome : goal.returns-in-Err-clause-outcome
returns-in-Err-clause-outcome c = λ system.
    failed c.failure.result system c.in-Err.errno c.failure.ensures.result c.failure.ensures.changes ∙ sym (c.in-Err.ensures (with_memories system c.args.spaces.now))

pub returns-clause-outcome : goal.returns-clause-outcome
returns-clause-outcome c =
    succeeded_if_ok c.execute.result 0 (Execed (printed_name c.in_ok-name.name) (next_space c.args.spaces.now) ∷ policy_changes c.args.request.now.inherit (printed_name c.in_ok-name.name))
    (λ system. execve_outcome (with_tree (with_memories system c.args.spaces.now) c.args.tree.now) c.args.request.now)
    c.execute.ensures.result c.execute.ensures.changes (λ system. c.in_default.ensures (with_memories system c.args.spaces.now))
