use Rattle.std.proofs.Common.{subst, sym}
use Rattle.st_model.specs.Processes.{IsPid}
use Rattle.st_system.specs.System.{Parts}
use Rattle.st_system.proofs.Families.{made_binary_if, whole_binary_if}
use Rattle.st_system.proofs.system.System.execute_binary.Goals as goal

there : (c : goal.After-execve) → IsPid c.self.inside.procs c.args.request.now.pid
there c = subst (λ (v : Parts). IsPid v.processes c.args.request.now.pid) (sym c.self.view_is) c.requires.process

pub invariant_of-self : goal.invariant_of-self
invariant_of-self c =
    whole_binary_if c.execve.result _ c.self.invariant c.args.request.now (there c) c.execve.new.procs c.execve.new.spaces
    c.execve.ensures.outcome c.execve.ensures.processes c.execve.ensures.spaces c.execve.ensures.memory c.execve.ensures.ready c.execve.ensures.live c.execve.ensures.err

pub returns-clause-done : goal.returns-clause-done
returns-clause-done c =
    rw (sym c.self.view_is) (made_binary_if c.execve.result _ c.self.invariant c.args.request.now (there c) c.execve.new.procs c.execve.new.spaces
    c.execve.ensures.outcome c.execve.ensures.processes c.execve.ensures.spaces c.execve.ensures.memory c.execve.ensures.ready c.execve.ensures.live)
