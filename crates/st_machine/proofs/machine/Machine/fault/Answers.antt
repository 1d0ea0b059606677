use Rattle.std.proofs.Common.{sym, subst}
use Rattle.st_trace.specs.declared.entry.Choice.TheVariants as choice
use Rattle.st_trace.specs.declared.entry.Entry.TheVariants as entry
use Rattle.st_decide.specs.Machine.{HasTask, IsDrawnStep, Running}
use Rattle.st_steps.proofs.Served.{faulted, left_as, running_step, with_workers}
use Rattle.st_workers.specs.declared.task.Task.TheVariants as tasks
use Rattle.st_machine.proofs.Running.{running_of}
use Rattle.st_workers.proofs.Fewer.{fewer_same}
use Rattle.st_steps.proofs.EntryNumbers.{faulted_has}
use Rattle.st_workers.proofs.Numbered.{live_has_seq}
use Rattle.st_machine.proofs.machine.Machine.fault.Goals as goal

pub seq-seq-requires : goal.seq-seq-requires
seq-seq-requires c =
    let task : HasTask (running_of c.self.inside) c.args.worker (tasks.Fault c.args.drawing c.args.errno) =
    subst (λ (m : Running). HasTask m c.args.worker (tasks.Fault c.args.drawing c.args.errno)) (sym c.self.view_is) c.requires in
    live_has_seq c.self.inside.workers.calls c.args.drawing task.there

abbrev old : goal.After-leave → Running
old c = running_of c.self.inside

task : (c : goal.After-leave) → HasTask (old c) c.args.worker (tasks.Fault c.args.drawing c.args.errno)
task c = subst (λ (m : Running). HasTask m c.args.worker (tasks.Fault c.args.drawing c.args.errno)) (sym c.self.view_is) c.requires

step : (c : goal.After-leave) → IsDrawnStep (old c) (choice.Worker c.args.worker) (entry.Faulted c.args.drawing c.args.errno) (with_workers (old c) c.fault.new.self)
step c = faulted (old c) c.args.worker c.fault.new.self c.args.drawing c.args.errno (task c) (c.fault.ensures.kept c.args.drawing c.args.errno (task c).here) (fewer_same _ _ c.fault.ensures.numbers)

pub invariant_of-self : goal.invariant_of-self
invariant_of-self c = running_step (old c) (with_workers (old c) c.fault.new.self) (choice.Worker c.args.worker) (entry.Faulted c.args.drawing c.args.errno) c.self.invariant (step c)

pub returns-clause-step : goal.returns-clause-step
returns-clause-step c = left_as (old c) _ _ c.self.view_is (choice.Worker c.args.worker) _ _ _ c.leave.ensures (step c)
    (faulted_has (old c).workers c.args.drawing c.seq-seq.result c.seq-seq.ensures.seq c.args.errno)
