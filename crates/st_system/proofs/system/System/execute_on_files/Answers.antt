use Rattle.std.proofs.Common.{subst, sym}
use Rattle.st_model.specs.Processes.{IsPid}
use Rattle.st_system.specs.System.{Parts}
use Rattle.st_system.proofs.Families.{move_of}
use Rattle.st_system.proofs.OnFiles.{made_on_files, whole_on_files}
use Rattle.st_system.proofs.system.System.execute_on_files.Goals as goal

pub invariant_of-self : goal.invariant_of-self
invariant_of-self c =
    whole_on_files c.execute_fs.result _ _ c.args.call c.args.request.now c.self.invariant c.requires.on (move_of c.args.call _ c.args.request.now c.requires.can) c.execute_fs.ensures.executed c.execute_fs.ensures.spaces c.execute_fs.ensures.tables c.execute_fs.ensures.ready c.execute_fs.ensures.err

there : (c : goal.After-execute_fs) → IsPid c.self.inside.procs c.args.request.now.pid
there c = subst (λ (v : Parts). IsPid v.processes c.args.request.now.pid) (sym c.self.view_is) c.requires.process

pub returns-clause-done : goal.returns-clause-done
returns-clause-done c =
    rw (sym c.self.view_is) (made_on_files c.execute_fs.result _ _ c.args.call c.args.request.now c.self.invariant c.requires.on (move_of c.args.call _ c.args.request.now c.requires.can) c.execute_fs.ensures.executed c.execute_fs.ensures.spaces c.execute_fs.ensures.tables c.execute_fs.ensures.ready (there c))
