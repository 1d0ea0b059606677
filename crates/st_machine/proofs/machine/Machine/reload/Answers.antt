use Rattle.std.proofs.Common.{◌∙◌, true, List, ap, refl, sym, subst, arith}
use Rattle.std.specs.Str.{bytes_eq}
use Rattle.st_model.specs.Processes.{process_at}
use Rattle.st_trace.specs.declared.entry.Choice.TheVariants as choice
use Rattle.st_trace.specs.declared.entry.Entry.TheVariants as entry
use Rattle.st_decide.specs.Machine.{IsNextStep, IsDrawnStep, Running, SameState}
use Rattle.st_decide.proofs.FewCalls.{few_calls}
use Rattle.st_threads.specs.Renewing.{calls_from, cwds_of, pids_of, renewals_from}
use Rattle.st_threads.specs.Thread.{ThreadRow}
use Rattle.st_threads.specs.declared.renewing.RenewedCall.{RenewedCall}
use Rattle.st_threads.specs.declared.which.WhichCalls.TheVariants.{Under}
use Rattle.st_decide.specs.declared.step.Step.TheVariants as steps
use Rattle.st_steps.proofs.After.{with_all}
use Rattle.st_steps.proofs.Answered.{kept_in_vain, with_operator}
use Rattle.st_steps.proofs.EntryNumbers.{reloaded_has}
use Rattle.st_steps.proofs.Moving.{place_in}
use Rattle.st_steps.proofs.ReloadedSteps.{calls_gone, can_gone, few_gone, known_block, never_absent, numbered_gone, room_gone, step_gone}
use Rattle.st_steps.proofs.Served.{left_as, on_err, running_stands, running_step}
use Rattle.st_machine.proofs.Running.{running_of}
use Rattle.st_machine.proofs.machine.Machine.reload.Goals as goal

-- the policy of a reload is one of the script's
pub unreachable-requires : goal.unreachable-requires
unreachable-requires c =
    let m : Running = running_of c.self.inside in
    let next : IsNextStep m c.args.tid (steps.Reload c.args.policy) = subst (λ (k : Running). IsNextStep k c.args.tid (steps.Reload c.args.policy)) (sym c.self.view_is) c.requires in
    never_absent m c.self.invariant c.args.tid c.args.policy next (c.in_default.ensures.none refl)

pub reload-requires : goal.reload-requires
reload-requires c =
    let m : Running = running_of c.self.inside in
    known_block m.answers.policies m.input.policies c.args.policy c.in-Some.block.now c.self.invariant.is.answers.policies c.in-Some.ensures.some

-- out of memory

pub invariant_of-self : goal.invariant_of-self
invariant_of-self c =
    let m : Running = running_of c.self.inside in
    running_stands m (with_operator m c.reload.new.self c.reload.new.answering) c.self.invariant (kept_in_vain m c.reload.new.self c.reload.new.answering c.in_err-reload.ensures.err c.in_err-reload.ensures.kept)

pub returns-in_err-reload-clause-err : goal.returns-in_err-reload-clause-err
returns-in_err-reload-clause-err c =
    let m : Running = running_of c.self.inside in
    on_err c.from_residual-in_err-reload.result (subst (λ (k : Running). SameState k (with_operator m c.reload.new.self c.reload.new.answering)) c.self.view_is (kept_in_vain m c.reload.new.self c.reload.new.answering c.in_err-reload.ensures.err c.in_err-reload.ensures.kept))

-- the thread goes on, and the calls can be renewed

pub overflow_sub-tid : goal.overflow_sub-tid
overflow_sub-tid c = (place_in (running_of c.self.inside) c.args.self.now c.self.view_is c.self.invariant c.args.tid (steps.Reload c.args.policy) (λ i st. (_, refl)) c.requires).0

pub index_mut-requires : goal.index_mut-requires
index_mut-requires c =
    let place = (place_in (running_of c.self.inside) c.args.self.now c.self.view_is c.self.invariant c.args.tid (steps.Reload c.args.policy) (λ i st. (_, refl)) c.requires).1 in
    omega (arith, place)

pub renew_calls-changes-requires-clause-few : goal.renew_calls-changes-requires-clause-few
renew_calls-changes-requires-clause-few c =
    let m : Running = running_of c.self.inside in
    let next : IsNextStep m c.args.tid (steps.Reload c.args.policy) = subst (λ (k : Running). IsNextStep k c.args.tid (steps.Reload c.args.policy)) (sym c.self.view_is) c.requires in
    few_gone m c.self.invariant c.args.tid c.args.policy next c.in-Some.block.now c.in-Some.ensures.some (Under c.bytes-binary.result) (λ u p. ap (bytes_eq (process_at m.system.processes p).policy) c.bytes-binary.ensures) c.index_mut.result.now c.go_on.new.self c.index_mut.ensures.value c.go_on.ensures

pub renew_calls-changes-requires-clause-calls : goal.renew_calls-changes-requires-clause-calls
renew_calls-changes-requires-clause-calls c =
    let m : Running = running_of c.self.inside in
    let next : IsNextStep m c.args.tid (steps.Reload c.args.policy) = subst (λ (k : Running). IsNextStep k c.args.tid (steps.Reload c.args.policy)) (sym c.self.view_is) c.requires in
    can_gone m c.self.invariant c.args.tid c.args.policy next c.in-Some.block.now c.in-Some.ensures.some (Under c.bytes-binary.result) (λ u p. ap (bytes_eq (process_at m.system.processes p).policy) c.bytes-binary.ensures) c.index_mut.result.now c.go_on.new.self c.index_mut.ensures.value c.go_on.ensures

pub renew_calls-changes-requires-clause-room : goal.renew_calls-changes-requires-clause-room
renew_calls-changes-requires-clause-room c =
    let m : Running = running_of c.self.inside in
    let next : IsNextStep m c.args.tid (steps.Reload c.args.policy) = subst (λ (k : Running). IsNextStep k c.args.tid (steps.Reload c.args.policy)) (sym c.self.view_is) c.requires in
    room_gone m c.self.invariant c.args.tid c.args.policy next c.in-Some.block.now c.in-Some.ensures.some (Under c.bytes-binary.result) (λ u p. ap (bytes_eq (process_at m.system.processes p).policy) c.bytes-binary.ensures) c.index_mut.result.now c.go_on.new.self c.index_mut.ensures.value c.go_on.ensures

pub renew_calls-changes-requires-clause-in_use : goal.renew_calls-changes-requires-clause-in_use
renew_calls-changes-requires-clause-in_use c = few_calls (running_of c.self.inside) c.self.invariant.state c.self.invariant.is

pub renew_calls-changes-requires-clause-cwds : goal.renew_calls-changes-requires-clause-cwds
renew_calls-changes-requires-clause-cwds c =
    let m : Running = running_of c.self.inside in
    let next : IsNextStep m c.args.tid (steps.Reload c.args.policy) = subst (λ (k : Running). IsNextStep k c.args.tid (steps.Reload c.args.policy)) (sym c.self.view_is) c.requires in
    c.in_ok-plan.ensures.cwds ∙ ap (λ (rows : List ThreadRow). cwds_of m.system.processes (calls_from (pids_of m.system.processes (Under c.bytes-binary.result)) 1 rows)) c.deref.ensures.value
    ∙ ap (cwds_of m.system.processes) (sym (calls_gone m c.self.invariant c.args.tid c.args.policy next c.in-Some.block.now c.in-Some.ensures.some (Under c.bytes-binary.result) (λ u p. ap (bytes_eq (process_at m.system.processes p).policy) c.bytes-binary.ensures) c.index_mut.result.now c.go_on.new.self c.index_mut.ensures.value c.go_on.ensures))

-- ---- after the calls are renewed

abbrev old : goal.After-leave → Running
old c = running_of c.self.inside

abbrev new : goal.After-leave → Running
new c = with_all (old c) (old c).system c.renew_calls-changes.new.workers c.renew_calls-changes.new.threads.items c.reload.new.answering c.reload.new.self

abbrev calls : goal.After-leave → List RenewedCall
calls c = calls_from (pids_of (old c).system.processes (Under c.bytes-binary.result)) 1 (old c).threads

step : (c : goal.After-leave) → IsDrawnStep (old c) (choice.Thread c.args.tid) (entry.Reloaded c.args.tid c.args.policy true (renewals_from (old c).workers.calls.next (calls c))) (new c)
step c =
    let m : Running = running_of c.self.inside in
    let next : IsNextStep m c.args.tid (steps.Reload c.args.policy) = subst (λ (k : Running). IsNextStep k c.args.tid (steps.Reload c.args.policy)) (sym c.self.view_is) c.requires in
    step_gone m c.self.invariant c.args.tid c.args.policy next c.in-Some.block.now c.in-Some.ensures.some (Under c.bytes-binary.result) (λ u p. ap (bytes_eq (process_at m.system.processes p).policy) c.bytes-binary.ensures) c.index_mut.result.now c.go_on.new.self c.index_mut.ensures.value c.go_on.ensures
    c.renew_calls-changes.new.threads.items c.renew_calls-changes.new.workers c.reload.new.answering c.reload.new.self c.in_ok-plan.plan.version c.in_ok-plan.ensures.version c.renew_calls-changes.ensures.renewed c.in_ok-reload.ensures.law

pub invariant_of-self-2 : goal.invariant_of-self-2
invariant_of-self-2 c = running_step (old c) (new c) (choice.Thread c.args.tid) (entry.Reloaded c.args.tid c.args.policy true (renewals_from (old c).workers.calls.next (calls c))) c.self.invariant (step c)

pub returns-clause-step : goal.returns-clause-step
returns-clause-step c =
    let m : Running = running_of c.self.inside in
    let next : IsNextStep m c.args.tid (steps.Reload c.args.policy) = subst (λ (k : Running). IsNextStep k c.args.tid (steps.Reload c.args.policy)) (sym c.self.view_is) c.requires in
    let given = c.renew_calls-changes.ensures.changes in
    left_as (old c) _ _ c.self.view_is (choice.Thread c.args.tid) _ _ _ c.leave.ensures (step c)
    (reloaded_has (old c).workers c.args.tid c.args.policy (old c).workers.calls.next (calls c) c.renew_calls-changes.result
    (numbered_gone m c.self.invariant c.args.tid c.args.policy next c.in-Some.block.now c.in-Some.ensures.some (Under c.bytes-binary.result) (λ u p. ap (bytes_eq (process_at m.system.processes p).policy) c.bytes-binary.ensures) c.index_mut.result.now c.go_on.new.self c.index_mut.ensures.value c.go_on.ensures
    c.renew_calls-changes.result c.in_ok-plan.plan.changes.items given.0 given.1 c.in_ok-plan.ensures.changes given.2))
