use Rattle.std.proofs.Common.{◌≡◌, ◌∙◌, List, ap, reverse, subst, sym}
use Rattle.st_trace.specs.declared.entry.Entry.{Entry}
use Rattle.st_law.specs.History.{looking_back}
use Rattle.st_law.specs.Machine.{state_of_run}
use Rattle.st_law.specs.Numbers.{drawn}
use Rattle.st_law.specs.State.{State}
use Rattle.st_learn.specs.SessionIn.{IsSessionIn}
use Rattle.st_report.specs.ScheduleText.{spelled_choices}
use Rattle.st_kernel.specs.Kernel.{RunSoFar, trace_of}
use Rattle.st_kernel.proofs.RunsSoFar.{state_later, trace_drawn}
use Rattle.st_kernel.proofs.kernel.Kernel.session.Goals as goal

pub returns : goal.returns
returns c =
    let m = c.self.inside.machine in
    let choices = spelled_choices c.self.inside.made.items in
    let session = c.session.result.now in
    let entries : state_of_run m.input choices ≡ looking_back m.input (reverse (drawn (trace_of (record { input = m.input; choices = choices })))) =
    state_later m.input choices ∙ ap (λ (trace : List Entry). looking_back m.input (reverse trace)) (sym (trace_drawn m.input c.self.invariant.0.machine.reached.startable choices)) in
    let following : IsSessionIn (looking_back m.input (reverse (drawn (trace_of (record { input = m.input; choices = choices }))))) session =
    subst (λ (st : State). IsSessionIn st session) entries (c.session.ensures (state_of_run m.input choices) c.self.invariant.0.machine) in
    subst (λ (so_far : RunSoFar). IsSessionIn (looking_back so_far.input (reverse (drawn (trace_of so_far)))) session) c.self.view_is following
