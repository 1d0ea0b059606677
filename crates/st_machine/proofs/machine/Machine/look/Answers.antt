use Rattle.std.proofs.Common.{sym, subst, ◌∙◌}
use Rattle.st_trace.specs.declared.entry.Choice.TheVariants as choice
use Rattle.st_trace.specs.declared.entry.Entry.TheVariants as entry
use Rattle.st_decide.specs.Machine.{HasTask, IsDrawnStep, Running, SameState}
use Rattle.st_steps.proofs.Served.{left_as, looked, on_err, running_stands, running_step, stands_on, stands_so, with_workers}
use Rattle.st_workers.specs.declared.task.Task.TheVariants as tasks
use Rattle.st_names.specs.declared.seen.SeenText.{SeenText}
use Rattle.st_workers.specs.Refinement.{RepresentsAfterEntry}
use Rattle.st_machine.proofs.Running.{running_of}
use Rattle.st_workers.proofs.Fewer.{fewer_none}
use Rattle.st_steps.proofs.EntryNumbers.{looked_has}
use Rattle.st_workers.proofs.Numbered.{live_has_seq}
use Rattle.st_machine.proofs.machine.Machine.look.Goals as goal

pub seq-seq-requires : goal.seq-seq-requires
seq-seq-requires c =
    let task : HasTask (running_of c.self.inside) c.args.worker (tasks.Look c.args.asked.drawing c.args.asked.part) =
    subst (λ (m : Running). HasTask m c.args.worker (tasks.Look c.args.asked.drawing c.args.asked.part)) (sym c.self.view_is) c.requires in
    live_has_seq c.self.inside.workers.calls c.args.asked.drawing task.there

abbrev old : goal.After-leave → Running
old c = running_of c.self.inside

task : (c : goal.After-leave) → HasTask (old c) c.args.worker (tasks.Look c.args.asked.drawing c.args.asked.part)
task c = subst (λ (m : Running). HasTask m c.args.worker (tasks.Look c.args.asked.drawing c.args.asked.part)) (sym c.self.view_is) c.requires

step : (c : goal.After-leave) → IsDrawnStep (old c) (choice.Worker c.args.worker) (entry.Looked c.args.asked.drawing c.args.asked.part c.in_ok-name.name c.in_ok-text.text) (with_workers (old c) c.look.new.self)
step c = looked (old c) c.args.worker c.look.new.self c.look_name.new.self c.args.asked.drawing c.args.asked.part c.in_ok-name.name c.in_ok-text.text (c.in_ok-text.ensures ∙ c.look-seen.ensures) c.look_name.ensures.stands
    (λ i st kept. c.in_ok-name.ensures.law i st c.args.asked.drawing c.args.asked.part kept (task c).here)
    (subst (λ (seen : SeenText). RepresentsAfterEntry c.look_name.new.self (entry.Looked c.args.asked.drawing c.args.asked.part c.in_ok-name.name seen) c.look.new.self) (sym c.in_ok-text.ensures)
    (c.in_ok-look.ensures.kept c.args.asked.drawing c.args.asked.part c.in_ok-name.name (c.look_name.ensures.task ∙ (task c).here)))
    (fewer_none _ _ (c.look.ensures.calls ∙ c.look_name.ensures.calls))

pub invariant_of-self-2 : goal.invariant_of-self-2
invariant_of-self-2 c = running_step (old c) (with_workers (old c) c.look.new.self) (choice.Worker c.args.worker) (entry.Looked c.args.asked.drawing c.args.asked.part c.in_ok-name.name c.in_ok-text.text) c.self.invariant (step c)

pub returns-clause-step : goal.returns-clause-step
returns-clause-step c = left_as (old c) _ _ c.self.view_is (choice.Worker c.args.worker) _ _ _ c.leave.ensures (step c)
    (looked_has (old c).workers c.args.asked.drawing c.seq-seq.result c.seq-seq.ensures.seq c.args.asked.part c.in_ok-name.name c.in_ok-text.text)

-- out of memory

abbrev at_name : goal.After-from_residual → Running
at_name c = running_of c.self.inside

stands_name : (c : goal.After-from_residual) → SameState (at_name c) (with_workers (at_name c) c.look_name.new.self)
stands_name c = stands_so (at_name c) c.look_name.new.self c.in_err-name.ensures.stands c.in_err-name.ensures.calls

pub invariant_of-self : goal.invariant_of-self
invariant_of-self c = running_stands (at_name c) (with_workers (at_name c) c.look_name.new.self) c.self.invariant (stands_name c)

pub returns-in_err-name-clause-err : goal.returns-in_err-name-clause-err
returns-in_err-name-clause-err c = on_err c.from_residual.result (subst (λ (m : Running). SameState m (with_workers (at_name c) c.look_name.new.self)) c.self.view_is (stands_name c))

abbrev at_text : goal.After-drop-name-inside → Running
at_text c = running_of c.self.inside

stands_text : (c : goal.After-drop-name-inside) → SameState (at_text c) (with_workers (at_text c) c.look_name.new.self)
stands_text c = stands_so (at_text c) c.look_name.new.self c.look_name.ensures.stands c.look_name.ensures.calls

pub invariant_of-self-in_err-text : goal.invariant_of-self-in_err-text
invariant_of-self-in_err-text c = running_stands (at_text c) (with_workers (at_text c) c.look_name.new.self) c.self.invariant (stands_text c)

pub returns-in_err-text-clause-err : goal.returns-in_err-text-clause-err
returns-in_err-text-clause-err c = on_err c.from_residual-in_err-text.result (subst (λ (m : Running). SameState m (with_workers (at_text c) c.look_name.new.self)) c.self.view_is (stands_text c))

abbrev at_look : goal.After-drop-name-inside-in_err-look → Running
at_look c = running_of c.self.inside

stands_look : (c : goal.After-drop-name-inside-in_err-look) → SameState (at_look c) (with_workers (at_look c) c.look.new.self)
stands_look c = stands_so (at_look c) c.look.new.self (stands_on c.self.inside.workers c.look_name.new.self c.look.new.self c.look_name.ensures.stands c.in_err-look.ensures.err) (c.look.ensures.calls ∙ c.look_name.ensures.calls)

pub invariant_of-self-in_err-look : goal.invariant_of-self-in_err-look
invariant_of-self-in_err-look c = running_stands (at_look c) (with_workers (at_look c) c.look.new.self) c.self.invariant (stands_look c)

pub returns-in_err-look-clause-err : goal.returns-in_err-look-clause-err
returns-in_err-look-clause-err c = on_err c.from_residual-in_err-look.result (subst (λ (m : Running). SameState m (with_workers (at_look c) c.look.new.self)) c.self.view_is (stands_look c))
