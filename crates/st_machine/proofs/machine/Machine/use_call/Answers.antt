use Rattle.std.proofs.Common.{◌∙◌, ap, refl, sym, subst}
use Rattle.st_trace.specs.declared.entry.Choice.TheVariants.{Thread}
use Rattle.st_trace.specs.declared.entry.Entry.{Entry}
use Rattle.st_trace.specs.declared.entry.Entry.TheVariants.{Used}
use Rattle.st_workers.specs.Numbers.{seq_if, IsNumbered}
use Rattle.st_decide.specs.Machine.{Running}
use Rattle.st_decide.specs.NextSteps.{CanStep}
use Rattle.st_decide.specs.declared.step.Step.TheVariants as steps
use Rattle.st_steps.proofs.MadeSteps.{drawing_there}
use Rattle.st_steps.proofs.Moving.{row_making}
use Rattle.st_machine.proofs.Running.{running_of}
use Rattle.st_steps.proofs.Served.{left_as}
use Rattle.st_machine.proofs.machine.Machine.use_call.Goals as goal

pub seq_if-seq-requires : goal.seq_if-seq-requires
seq_if-seq-requires c =
    let m : Running = running_of c.self.inside in
    let can = subst (λ (k : Running). CanStep k c.args.tid (steps.Make c.args.ready)) (sym c.self.view_is) c.requires in
    let row = row_making m c.self.invariant c.args.tid c.args.ready can.next in
    drawing_there m c.self.invariant.state c.self.invariant.is c.args.tid c.args.ready can row.0 row.1

pub returns-clause-step : goal.returns-clause-step
returns-clause-step c =
    let made = c.in_ok-outcome.ensures.made in
    left_as c.args.self.now _ _ refl (Thread c.args.tid) _ _ _ c.leave.ensures made.1
    (subst (λ (given : Entry). IsNumbered (Used c.args.tid c.args.ready.drawing c.args.ready.call c.args.ready.regs c.args.ready.args c.args.ready.ids c.in_ok-outcome.outcome.result made.0) given c.args.self.now.workers) (sym c.entry.ensures)
    (made.2 c.seq_if-seq.result (c.seq_if-seq.ensures ∙ ap (λ (k : Running). seq_if k.workers.calls c.args.ready.drawing) c.self.view_is)))
