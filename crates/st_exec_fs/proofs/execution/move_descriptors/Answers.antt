use Rattle.std.proofs.Common.{◌≡◌, sym, subst}
use Rattle.st_calls.specs.declared.call.SysCall.{SysCall}
use Rattle.st_effects.specs.Effect.{effect}
use Rattle.st_request.specs.Outcome.{outcome_of, with_descriptors, with_tree}
use Rattle.st_exec_fs.proofs.execution.move_descriptors.Goals as goal

pub returns-in-Close-clause-outcome : goal.returns-in-Close-clause-outcome
returns-in-Close-clause-outcome c = λ system.
    subst (λ (call : SysCall). outcome_of c.close.result c.close.new.fds ≡ effect (with_descriptors (with_tree system c.args.tree.now) c.args.fds.now) call c.args.request.now)
    (sym c.in-Close.is) (c.close.ensures.outcome (with_tree system c.args.tree.now))

pub returns-in-Close-clause-real : goal.returns-in-Close-clause-real
returns-in-Close-clause-real c = c.close.ensures.real c.args.tree.now c.requires.real

pub returns-in-Dup-clause-outcome : goal.returns-in-Dup-clause-outcome
returns-in-Dup-clause-outcome c = λ system.
    subst (λ (call : SysCall). outcome_of c.dup.result c.dup.new.fds ≡ effect (with_descriptors (with_tree system c.args.tree.now) c.args.fds.now) call c.args.request.now)
    (sym c.in-Dup.is) (c.dup.ensures.outcome (with_tree system c.args.tree.now))

pub returns-in-Dup-clause-real : goal.returns-in-Dup-clause-real
returns-in-Dup-clause-real c = c.dup.ensures.real c.args.tree.now c.requires.real
