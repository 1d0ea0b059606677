use Rattle.std.proofs.Common.{subst, sym}
use Rattle.std.specs.Prelude.{IfOk}
use Rattle.st_calls.specs.declared.call.SysCall.{SysCall}
use Rattle.st_system.specs.Steps.{IsCallMade}
use Rattle.st_system.proofs.system.System.execute.Goals as goal

pub returns-in-Execve-clause-done : goal.returns-in-Execve-clause-done
returns-in-Execve-clause-done c =
    subst (λ (call : SysCall). IfOk c.execute_binary.result (λ outcome. IsCallMade call c.args.request.now outcome c.args.self.now c.execute_binary.new.self)) (sym c.in-Execve.is) c.execute_binary.ensures.done
