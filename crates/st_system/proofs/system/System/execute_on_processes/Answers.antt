use Rattle.std.proofs.Common.{subst, sym}
use Rattle.st_model.specs.Processes.{IsPid}
use Rattle.st_system.specs.Steps.{CanMake}
use Rattle.st_system.specs.System.{Parts}
use Rattle.st_system.proofs.Families.{allows, can_call, made_processes_if, whole_processes_if}
use Rattle.st_system.proofs.system.System.execute_on_processes.Goals as goal

pub execute_sys-requires-clause-process : goal.execute_sys-requires-clause-process
execute_sys-requires-clause-process c = can_call _ c.self.invariant _ (subst (λ (v : Parts). IsPid v.processes c.args.request.now.pid) (sym c.self.view_is) c.requires.process)

pub execute_sys-requires-clause-call : goal.execute_sys-requires-clause-call
execute_sys-requires-clause-call c = allows _ c.self.invariant c.args.request.now c.args.call c.requires.on (subst (λ (v : Parts). CanMake c.args.call v c.args.request.now) (sym c.self.view_is) c.requires.can)

there : (c : goal.After-execute_sys) → IsPid c.self.inside.procs c.args.request.now.pid
there c = subst (λ (v : Parts). IsPid v.processes c.args.request.now.pid) (sym c.self.view_is) c.requires.process

can : (c : goal.After-execute_sys) → CanMake c.args.call (record { tree = c.self.inside.tree; descriptors = c.self.inside.fds; processes = c.self.inside.procs; memories = c.self.inside.spaces }) c.args.request.now
can c = subst (λ (v : Parts). CanMake c.args.call v c.args.request.now) (sym c.self.view_is) c.requires.can

pub invariant_of-self : goal.invariant_of-self
invariant_of-self c =
    whole_processes_if c.execute_sys.result _ c.self.invariant c.args.request.now (there c) c.execute_sys.new.fds c.execute_sys.new.procs c.execute_sys.new.spaces c.args.call c.requires.on (can c)
    c.execute_sys.ensures.executed c.execute_sys.ensures.ordered c.execute_sys.ensures.ready c.execute_sys.ensures.child c.execute_sys.ensures.err

pub returns-clause-done : goal.returns-clause-done
returns-clause-done c =
    rw (sym c.self.view_is) (made_processes_if c.execute_sys.result _ c.self.invariant c.args.request.now (there c) c.execute_sys.new.fds c.execute_sys.new.procs c.execute_sys.new.spaces c.args.call c.requires.on (can c)
    c.execute_sys.ensures.executed c.execute_sys.ensures.ordered c.execute_sys.ensures.ready c.execute_sys.ensures.child)
