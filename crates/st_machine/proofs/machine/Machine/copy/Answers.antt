use Rattle.std.proofs.Common.{sym, subst}
use Rattle.st_trace.specs.declared.entry.Choice.TheVariants as choice
use Rattle.st_trace.specs.declared.entry.Entry.TheVariants as entry
use Rattle.st_decide.specs.Machine.{HasTask, IsDrawnStep, Running, SameState}
use Rattle.st_steps.proofs.Served.{copied, left_as, on_err, process_there, running_stands, running_step, stands_so, with_workers}
use Rattle.st_workers.specs.declared.task.Task.TheVariants as tasks
use Rattle.st_machine.proofs.Running.{running_of}
use Rattle.st_workers.proofs.Fewer.{fewer_none}
use Rattle.st_steps.proofs.EntryNumbers.{copied_has}
use Rattle.st_workers.proofs.Numbered.{live_has_seq}
use Rattle.st_machine.proofs.machine.Machine.copy.Goals as goal

pub seq-seq-requires : goal.seq-seq-requires
seq-seq-requires c =
    let task : HasTask (running_of c.self.inside) c.args.worker (tasks.Copy c.args.asked.drawing c.args.asked.pid c.args.asked.part c.args.asked.place) =
    subst (λ (m : Running). HasTask m c.args.worker (tasks.Copy c.args.asked.drawing c.args.asked.pid c.args.asked.part c.args.asked.place)) (sym c.self.view_is) c.requires in
    live_has_seq c.self.inside.workers.calls c.args.asked.drawing task.there.0

abbrev old : goal.After-leave → Running
old c = running_of c.self.inside

task : (c : goal.After-leave) → HasTask (old c) c.args.worker (tasks.Copy c.args.asked.drawing c.args.asked.pid c.args.asked.part c.args.asked.place)
task c = subst (λ (m : Running). HasTask m c.args.worker (tasks.Copy c.args.asked.drawing c.args.asked.pid c.args.asked.part c.args.asked.place)) (sym c.self.view_is) c.requires

step : (c : goal.After-leave) → IsDrawnStep (old c) (choice.Worker c.args.worker) (entry.Copied c.args.asked.drawing c.args.asked.part c.args.asked.place c.word-word.result) (with_workers (old c) c.copy.new.self)
step c = copied (old c) c.args.worker c.copy.new.self c.args.asked.drawing c.args.asked.pid c.args.asked.part c.args.asked.place c.word-word.result (task c) c.word-word.ensures.law (c.in_ok-copy.ensures.kept c.args.asked.drawing c.args.asked.pid c.args.asked.part c.args.asked.place (task c).here) (fewer_none _ _ c.copy.ensures.calls)

pub invariant_of-self-2 : goal.invariant_of-self-2
invariant_of-self-2 c = running_step (old c) (with_workers (old c) c.copy.new.self) (choice.Worker c.args.worker) (entry.Copied c.args.asked.drawing c.args.asked.part c.args.asked.place c.word-word.result) c.self.invariant (step c)

pub returns-clause-step : goal.returns-clause-step
returns-clause-step c = left_as (old c) _ _ c.self.view_is (choice.Worker c.args.worker) _ _ _ c.leave.ensures (step c)
    (copied_has (old c).workers c.args.asked.drawing c.seq-seq.result c.seq-seq.ensures.seq c.args.asked.part c.args.asked.place c.word-word.result)

pub word-word-requires-clause-process : goal.word-word-requires-clause-process
word-word-requires-clause-process c =
    let m : Running = running_of c.self.inside in
    let asked : HasTask m c.args.worker (tasks.Copy c.args.asked.drawing c.args.asked.pid c.args.asked.part c.args.asked.place) =
    subst (λ (m : Running). HasTask m c.args.worker (tasks.Copy c.args.asked.drawing c.args.asked.pid c.args.asked.part c.args.asked.place)) (sym c.self.view_is) c.requires in
    process_there m c.self.invariant c.args.asked.drawing c.args.asked.pid asked.there.0 (λ i st kept. (asked.law i st kept).1)

-- out of memory

abbrev before : goal.After-from_residual → Running
before c = running_of c.self.inside

stands : (c : goal.After-from_residual) → SameState (before c) (with_workers (before c) c.copy.new.self)
stands c = stands_so (before c) c.copy.new.self c.in_err-copy.ensures.err c.copy.ensures.calls

pub invariant_of-self : goal.invariant_of-self
invariant_of-self c = running_stands (before c) (with_workers (before c) c.copy.new.self) c.self.invariant (stands c)

pub returns-in_err-copy-clause-err : goal.returns-in_err-copy-clause-err
returns-in_err-copy-clause-err c = on_err c.from_residual.result (subst (λ (m : Running). SameState m (with_workers (before c) c.copy.new.self)) c.self.view_is (stands c))
