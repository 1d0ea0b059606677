use Rattle.std.proofs.Common.{◌∙◌, List, ap, sym, subst}
use Rattle.st_effects.specs.System.{Request}
use Rattle.st_system.specs.Steps.{IsCallMade}
use Rattle.st_decide.specs.Machine.{Running}
use Rattle.st_decide.specs.Making.{request_with}
use Rattle.st_decide.specs.NextSteps.{CanStep}
use Rattle.st_decide.specs.declared.step.Step.TheVariants as steps
use Rattle.st_steps.specs.Making.{MakesCall}
use Rattle.st_steps.proofs.CallsMade.{call_lives, call_there, made_so, others_held, own_call, running_made}
use Rattle.st_steps.proofs.CanMake.{can_use}
use Rattle.st_machine.proofs.Running.{running_of}
use Rattle.st_trace.specs.declared.entry.Change.{Change}
use Rattle.st_steps.proofs.After.{with_parts}
use Rattle.st_steps.specs.Making.{EndsMade}
use Rattle.st_machine.proofs.machine.Machine.make.Goals as goal

pub execute-requires : goal.execute-requires
execute-requires c =
    let m : Running = running_of c.self.inside in
    let asked = can_use m c.args.self.now c.self.view_is c.self.invariant c.args.tid c.args.ready.now c.requires.step c.request_with-request.result
    (c.request_with-request.ensures ∙ ap (λ (k : Running). request_with k c.args.tid c.args.ready.now) (c.view.ensures ∙ sym c.self.view_is)) in
    record { process = asked.process; can = asked.can; no_link = asked.no_link }

pub end_made-requires-clause-there : goal.end_made-requires-clause-there
end_made-requires-clause-there c =
    let m : Running = running_of c.self.inside in
    let can : CanStep m c.args.tid (steps.Make c.args.ready.now) = subst (λ (k : Running). CanStep k c.args.tid (steps.Make c.args.ready.now)) (sym c.self.view_is) c.requires.step in
    call_there m c.self.invariant c.args.tid c.args.ready.now can

pub end_made-requires-clause-live : goal.end_made-requires-clause-live
end_made-requires-clause-live c =
    let m : Running = running_of c.self.inside in
    let can : CanStep m c.args.tid (steps.Make c.args.ready.now) = subst (λ (k : Running). CanStep k c.args.tid (steps.Make c.args.ready.now)) (sym c.self.view_is) c.requires.step in
    call_lives m c.self.invariant c.args.tid c.args.ready.now can

pub end_made-requires-clause-calls : goal.end_made-requires-clause-calls
end_made-requires-clause-calls c =
    let m : Running = running_of c.self.inside in
    let can : CanStep m c.args.tid (steps.Make c.args.ready.now) = subst (λ (k : Running). CanStep k c.args.tid (steps.Make c.args.ready.now)) (sym c.self.view_is) c.requires.step in
    others_held m c.self.invariant c.args.tid c.args.ready.now can

-- ---- after the call

pub invariant_of-self-2 : goal.invariant_of-self-2
invariant_of-self-2 c =
    let m : Running = running_of c.self.inside in
    let can : CanStep m c.args.tid (steps.Make c.args.ready.now) = subst (λ (k : Running). CanStep k c.args.tid (steps.Make c.args.ready.now)) (sym c.self.view_is) c.requires.step in
    let done : IsCallMade c.args.ready.now.call (request_with m c.args.tid c.args.ready.now) c.in_ok-outcome.outcome m.system c.execute.new.self =
    subst (λ (request : Request). IsCallMade c.args.ready.now.call request c.in_ok-outcome.outcome m.system c.execute.new.self)
    (c.request_with-request.ensures ∙ ap (λ (k : Running). request_with k c.args.tid c.args.ready.now) (c.view.ensures ∙ sym c.self.view_is)) c.in_ok-outcome.ensures.done in
    let ends = subst (λ (changes : List Change). EndsMade c.execute.new.self.processes (own_call c.args.tid c.args.ready.now) changes m.threads m.workers c.end_made.new.threads.items c.end_made.new.workers) c.as_slice-changes.ensures c.end_made.ensures in
    let made = made_so m c.self.invariant c.args.tid c.args.ready.now can c.in_ok-outcome.outcome c.execute.new.self done c.end_made.new.threads.items c.end_made.new.workers c.requires.renews_none ends in
    running_made m (with_parts m c.execute.new.self c.end_made.new.workers c.end_made.new.threads.items) c.args.tid c.args.ready.now c.in_ok-outcome.outcome c.self.invariant made

pub returns-clause-made : goal.returns-clause-made
returns-clause-made c =
    let m : Running = running_of c.self.inside in
    let can : CanStep m c.args.tid (steps.Make c.args.ready.now) = subst (λ (k : Running). CanStep k c.args.tid (steps.Make c.args.ready.now)) (sym c.self.view_is) c.requires.step in
    let done : IsCallMade c.args.ready.now.call (request_with m c.args.tid c.args.ready.now) c.in_ok-outcome.outcome m.system c.execute.new.self =
    subst (λ (request : Request). IsCallMade c.args.ready.now.call request c.in_ok-outcome.outcome m.system c.execute.new.self)
    (c.request_with-request.ensures ∙ ap (λ (k : Running). request_with k c.args.tid c.args.ready.now) (c.view.ensures ∙ sym c.self.view_is)) c.in_ok-outcome.ensures.done in
    let ends = subst (λ (changes : List Change). EndsMade c.execute.new.self.processes (own_call c.args.tid c.args.ready.now) changes m.threads m.workers c.end_made.new.threads.items c.end_made.new.workers) c.as_slice-changes.ensures c.end_made.ensures in
    subst (λ (k : Running). MakesCall k c.args.tid c.args.ready.now c.in_ok-outcome.outcome (with_parts m c.execute.new.self c.end_made.new.workers c.end_made.new.threads.items)) c.self.view_is
    (made_so m c.self.invariant c.args.tid c.args.ready.now can c.in_ok-outcome.outcome c.execute.new.self done c.end_made.new.threads.items c.end_made.new.workers c.requires.renews_none ends)
