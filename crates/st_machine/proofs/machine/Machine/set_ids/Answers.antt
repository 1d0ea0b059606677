use Rattle.std.proofs.Common.{◌≡◌, ◌++◌, ◌∙◌, ℕ, List, ap, sym, subst}
use Rattle.st_effects.specs.System.{Request}
use Rattle.st_system.specs.Steps.{IsCallMade}
use Rattle.st_decide.specs.Machine.{Running}
use Rattle.st_decide.specs.Making.{request_with}
use Rattle.st_decide.specs.NextSteps.{CanStep}
use Rattle.st_decide.specs.declared.step.Step.TheVariants as steps
use Rattle.st_steps.specs.Making.{others, MakesCall}
use Rattle.st_steps.proofs.After.{with_parts}
use Rattle.st_steps.proofs.CallsMade.{others_can, own_call, running_made, set_so}
use Rattle.st_steps.proofs.CanMake.{can_use}
use Rattle.st_machine.proofs.Running.{running_of}
use Rattle.st_law.specs.State.{State}
use Rattle.st_law.specs.declared.input.Input.{Input}
use Rattle.st_learn.specs.Operator.{Added, IsAdded}
use Rattle.st_model.specs.Process.{Process}
use Rattle.st_model.specs.Processes.{process_at}
use Rattle.st_system.specs.System.{IsSystem, Parts}
use Rattle.st_threads.specs.Renewing.{calls_from, cwds_of}
use Rattle.st_threads.specs.Thread.{ThreadRow}
use Rattle.st_trace.specs.declared.entry.Change.{Change}
use Rattle.st_machine.proofs.machine.Machine.set_ids.Goals as goal

pub execute-requires : goal.execute-requires
execute-requires c =
    let m : Running = running_of c.self.inside in
    let asked = can_use m c.args.self.now c.self.view_is c.self.invariant c.args.tid c.args.ready.now c.requires.step c.request_with-request.result
    (c.request_with-request.ensures ∙ ap (λ (k : Running). request_with k c.args.tid c.args.ready.now) (c.view.ensures ∙ sym c.self.view_is)) in
    record { process = asked.process; can = asked.can; no_link = asked.no_link }

-- the version of the calls that are renewed is the one in force of the policy of their process
version_is : (system : Parts) (operator : Added) → (i : Input) → (version said : ℕ) → version ≡ said → (policy : List ℕ) → ((input : Input) (st : State) → IsAdded input st operator → said ≡ st.versions policy) → (pid : ℕ) → policy ≡ (process_at system.processes pid).policy → (st : State) → IsSystem i st system → IsAdded i st operator → version ≡ st.versions (st.processes pid).policy
version_is system operator i version said same policy law pid named st is added = same ∙ law i st added ∙ ap st.versions (named ∙ ap (λ (p : Process). p.policy) (sym (is.processes pid)))

pub renew_others-changes-requires-clause-can : goal.renew_others-changes-requires-clause-can
renew_others-changes-requires-clause-can c =
    let m : Running = running_of c.self.inside in
    let can : CanStep m c.args.tid (steps.Make c.args.ready.now) = subst (λ (k : Running). CanStep k c.args.tid (steps.Make c.args.ready.now)) (sym c.self.view_is) c.requires.step in
    let done : IsCallMade c.args.ready.now.call (request_with m c.args.tid c.args.ready.now) c.in_ok-outcome.outcome m.system c.execute.new.self =
    subst (λ (request : Request). IsCallMade c.args.ready.now.call request c.in_ok-outcome.outcome m.system c.execute.new.self)
    (c.request_with-request.ensures ∙ ap (λ (k : Running). request_with k c.args.tid c.args.ready.now) (c.view.ensures ∙ sym c.self.view_is)) c.in_ok-outcome.ensures.done in
    others_can m c.self.invariant c.args.tid c.args.ready.now can c.in_ok-outcome.outcome c.execute.new.self done c.requires.sets c.args.set c.requires.refused c.requires.set
    c.in_ok-plan.plan.version (λ st is. version_is m.system m.operator m.input c.in_ok-plan.plan.version c.version.result c.in_ok-plan.ensures.version c.bytes.result.now c.version.ensures.law c.args.ready.now.pid (c.bytes.ensures ∙ c.get.ensures ∙ c.policy.ensures) st is.system is.operator)
    c.in_ok-plan.plan.cwds.items (c.in_ok-plan.ensures.cwds ∙ ap (λ (rows : List ThreadRow). cwds_of m.system.processes (calls_from (others m.system.processes (own_call c.args.tid c.args.ready.now)) 1 rows)) c.deref.ensures.value)

-- ---- after the other calls are renewed

pub invariant_of-self-2 : goal.invariant_of-self-2
invariant_of-self-2 c =
    let m : Running = running_of c.self.inside in
    let can : CanStep m c.args.tid (steps.Make c.args.ready.now) = subst (λ (k : Running). CanStep k c.args.tid (steps.Make c.args.ready.now)) (sym c.self.view_is) c.requires.step in
    let done : IsCallMade c.args.ready.now.call (request_with m c.args.tid c.args.ready.now) c.in_ok-outcome.outcome m.system c.execute.new.self =
    subst (λ (request : Request). IsCallMade c.args.ready.now.call request c.in_ok-outcome.outcome m.system c.execute.new.self)
    (c.request_with-request.ensures ∙ ap (λ (k : Running). request_with k c.args.tid c.args.ready.now) (c.view.ensures ∙ sym c.self.view_is)) c.in_ok-outcome.ensures.done in
    let made = set_so m c.self.invariant c.args.tid c.args.ready.now can c.in_ok-outcome.outcome c.execute.new.self done c.renew_others-changes.new.threads.items c.renew_others-changes.new.workers c.requires.sets c.args.set c.requires.refused c.requires.set
    c.in_ok-plan.plan.version (λ st is. version_is m.system m.operator m.input c.in_ok-plan.plan.version c.version.result c.in_ok-plan.ensures.version c.bytes.result.now c.version.ensures.law c.args.ready.now.pid (c.bytes.ensures ∙ c.get.ensures ∙ c.policy.ensures) st is.system is.operator)
    c.renew_others-changes.result c.renew_others-changes.ensures.renewed
    (λ closed is. let numbered = c.renew_others-changes.ensures.changes closed is in (numbered.0, numbered.1 ∙ ap (λ (front : List Change). front ++ numbered.0) c.in_ok-plan.ensures.changes, numbered.2)) in
    running_made m (with_parts m c.execute.new.self c.renew_others-changes.new.workers c.renew_others-changes.new.threads.items) c.args.tid c.args.ready.now (record { result = c.in_ok-outcome.outcome.result; changes = c.renew_others-changes.result }) c.self.invariant made

pub returns-clause-made : goal.returns-clause-made
returns-clause-made c =
    let m : Running = running_of c.self.inside in
    let can : CanStep m c.args.tid (steps.Make c.args.ready.now) = subst (λ (k : Running). CanStep k c.args.tid (steps.Make c.args.ready.now)) (sym c.self.view_is) c.requires.step in
    let done : IsCallMade c.args.ready.now.call (request_with m c.args.tid c.args.ready.now) c.in_ok-outcome.outcome m.system c.execute.new.self =
    subst (λ (request : Request). IsCallMade c.args.ready.now.call request c.in_ok-outcome.outcome m.system c.execute.new.self)
    (c.request_with-request.ensures ∙ ap (λ (k : Running). request_with k c.args.tid c.args.ready.now) (c.view.ensures ∙ sym c.self.view_is)) c.in_ok-outcome.ensures.done in
    let made = set_so m c.self.invariant c.args.tid c.args.ready.now can c.in_ok-outcome.outcome c.execute.new.self done c.renew_others-changes.new.threads.items c.renew_others-changes.new.workers c.requires.sets c.args.set c.requires.refused c.requires.set
    c.in_ok-plan.plan.version (λ st is. version_is m.system m.operator m.input c.in_ok-plan.plan.version c.version.result c.in_ok-plan.ensures.version c.bytes.result.now c.version.ensures.law c.args.ready.now.pid (c.bytes.ensures ∙ c.get.ensures ∙ c.policy.ensures) st is.system is.operator)
    c.renew_others-changes.result c.renew_others-changes.ensures.renewed
    (λ closed is. let numbered = c.renew_others-changes.ensures.changes closed is in (numbered.0, numbered.1 ∙ ap (λ (front : List Change). front ++ numbered.0) c.in_ok-plan.ensures.changes, numbered.2)) in
    subst (λ (k : Running). MakesCall k c.args.tid c.args.ready.now (record { result = c.in_ok-outcome.outcome.result; changes = c.renew_others-changes.result }) (with_parts m c.execute.new.self c.renew_others-changes.new.workers c.renew_others-changes.new.threads.items)) c.self.view_is made
