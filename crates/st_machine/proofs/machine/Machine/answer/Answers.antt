use Rattle.std.proofs.Common.{◌≡◌, sym, subst, ◌∙◌}
use Rattle.st_trace.specs.declared.entry.Choice.TheVariants as choice
use Rattle.st_trace.specs.declared.entry.Entry.TheVariants as entry
use Rattle.st_decide.specs.Machine.{HasTask, IsDrawnStep, Running}
use Rattle.st_steps.proofs.Served.{answered, applied_as, left_as, running_step, with_workers}
use Rattle.st_workers.specs.declared.task.Task.TheVariants as tasks
use Rattle.st_filter.specs.Judged.{verdict_under}
use Rattle.st_steps.specs.Serving.{IsVerdictFor}
use Rattle.st_messages.specs.Messages.{is_live_drawing}
use Rattle.st_machine.proofs.Running.{running_of}
use Rattle.st_workers.proofs.Fewer.{fewer_one}
use Rattle.st_steps.proofs.EntryNumbers.{answered_has}
use Rattle.st_workers.specs.Refinement.{drawn_copies}
use Rattle.st_machine.proofs.machine.Machine.answer.Goals as goal

abbrev old : goal.After-leave → Running
old c = running_of c.self.inside

task : (c : goal.After-leave) → HasTask (old c) c.args.worker tasks.Answer
task c = subst (λ (m : Running). HasTask m c.args.worker (tasks.Answer)) (sym c.self.view_is) c.requires.task

-- the verdict is that on the copies of the answer
judged : (c : goal.After-leave) → c.args.verdict ≡ verdict_under c.self.inside.input.now.policies c.answer-snapshot.result.1
judged c = subst (λ (m : Running). IsVerdictFor m c.args.worker c.args.verdict) (sym c.self.view_is) c.requires.verdict c.answer-snapshot.result.0 c.answer-snapshot.result.1 c.answer-snapshot.ensures.copies

step : (c : goal.After-leave) → IsDrawnStep (old c) (choice.Worker c.args.worker) (entry.Answered c.args.worker (drawn_copies c.answer-snapshot.result.0 c.answer-snapshot.result.1) c.args.verdict c.is_applied.result) (with_workers (old c) c.answer-snapshot.new.self)
step c = answered (old c) c.args.worker c.answer-snapshot.new.self c.answer-snapshot.result.0 c.answer-snapshot.result.1 c.args.verdict c.is_applied.result c.answer-snapshot.ensures.copies (judged c)
    (λ i st alive kept. c.is_applied.ensures ∙ applied_as c.answer-snapshot.result.2 (is_live_drawing c.self.inside.workers.calls c.answer-snapshot.result.0) c.answer-snapshot.ensures.applied ∙ c.answer-snapshot.ensures.lives i st alive kept)
    (task c) c.answer-snapshot.ensures.kept (fewer_one _ _ (is_live_drawing c.self.inside.workers.calls) c.answer-snapshot.result.0 c.answer-snapshot.ensures.numbers)

pub invariant_of-self : goal.invariant_of-self
invariant_of-self c = running_step (old c) (with_workers (old c) c.answer-snapshot.new.self) (choice.Worker c.args.worker) (entry.Answered c.args.worker (drawn_copies c.answer-snapshot.result.0 c.answer-snapshot.result.1) c.args.verdict c.is_applied.result) c.self.invariant (step c)

pub returns-clause-step : goal.returns-clause-step
returns-clause-step c = left_as (old c) _ _ c.self.view_is (choice.Worker c.args.worker) _ _ _ c.leave.ensures (step c)
    (answered_has (old c).workers c.args.worker c.answer-snapshot.result.0 c.answer-snapshot.result.1 c.args.verdict c.is_applied.result c.answer-snapshot.ensures.seq)
