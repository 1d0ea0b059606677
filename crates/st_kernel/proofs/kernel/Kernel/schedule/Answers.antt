use Rattle.std.proofs.Common.{subst}
use Rattle.st_law.proofs.Laws.{run_lawful}
use Rattle.st_law.specs.Lawful.{Lawful}
use Rattle.st_law.specs.Numbers.{IsLawfulByNumber}
use Rattle.st_reached.proofs.NumbersBack.{run_by_number}
use Rattle.st_report.specs.ScheduleText.{spelled_choices}
use Rattle.st_kernel.specs.Kernel.{RunSoFar, drawn_of, trace_of}
use Rattle.st_kernel.proofs.kernel.Kernel.schedule.Goals as goal

pub returns-clause-lawful : goal.returns-clause-lawful
returns-clause-lawful c =
    let m = c.self.inside.machine in
    subst (λ (so_far : RunSoFar). Lawful so_far.input (drawn_of so_far)) c.self.view_is (run_lawful m.input c.self.invariant.0.machine.reached.startable (spelled_choices c.self.inside.made.items))

pub returns-clause-numbers : goal.returns-clause-numbers
returns-clause-numbers c =
    let m = c.self.inside.machine in
    subst (λ (so_far : RunSoFar). IsLawfulByNumber so_far.input (trace_of so_far)) c.self.view_is (run_by_number m.input c.self.invariant.0.machine.reached.startable (spelled_choices c.self.inside.made.items))
