use Rattle.std.proofs.Common.{sym, subst}
use Rattle.st_decide.specs.Machine.{HasTask, Running}
use Rattle.st_workers.specs.declared.task.Task.TheVariants as tasks
use Rattle.st_machine.proofs.Running.{running_of}
use Rattle.st_machine.proofs.machine.Machine.serve.Goals as goal

pub answer_of-requires-clause-task : goal.answer_of-requires-clause-task
answer_of-requires-clause-task c =
    let m : Running = running_of c.self.inside in
    let task : HasTask m c.args.worker tasks.Answer = record { here = sym c.in-Answer.ensures.task; there = c.in-Answer.ensures.there; law = c.in-Answer.ensures.law } in
    subst (λ (k : Running). HasTask k c.args.worker tasks.Answer) c.self.view_is task

pub copy-requires : goal.copy-requires
copy-requires c =
    let m : Running = running_of c.self.inside in
    let copies = tasks.Copy c.in-Copy.drawing c.in-Copy.pid c.in-Copy.part c.in-Copy.place in
    let task : HasTask m c.args.worker copies = record { here = sym c.in-Copy.ensures.task; there = c.in-Copy.ensures.there; law = c.in-Copy.ensures.law } in
    subst (λ (k : Running). HasTask k c.args.worker copies) c.self.view_is task
