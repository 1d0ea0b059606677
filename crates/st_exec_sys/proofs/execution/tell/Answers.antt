use Rattle.std.proofs.Common.{◌≡◌, sym, subst}
use Rattle.st_calls.specs.declared.call.SysCall.{SysCall}
use Rattle.st_effects.specs.Effect.{effect}
use Rattle.st_request.specs.Outcome.{outcome_of}
use Rattle.st_exec_sys.proofs.execution.tell.Goals as goal

pub returns-in-GetPid-clause-outcome : goal.returns-in-GetPid-clause-outcome
returns-in-GetPid-clause-outcome c = λ system.
    subst (λ (call : SysCall). outcome_of c.getpid.result system.descriptors ≡ effect system call c.args.request.now) (sym c.in-GetPid.is) (c.getpid.ensures.outcome system)

pub returns-in-GetUid-clause-outcome : goal.returns-in-GetUid-clause-outcome
returns-in-GetUid-clause-outcome c = λ system.
    subst (λ (call : SysCall). outcome_of c.getuid.result system.descriptors ≡ effect system call c.args.request.now) (sym c.in-GetUid.is) (c.getuid.ensures.outcome system)

pub returns-in-GetEuid-clause-outcome : goal.returns-in-GetEuid-clause-outcome
returns-in-GetEuid-clause-outcome c = λ system.
    subst (λ (call : SysCall). outcome_of c.geteuid.result system.descriptors ≡ effect system call c.args.request.now) (sym c.in-GetEuid.is) (c.geteuid.ensures.outcome system)
