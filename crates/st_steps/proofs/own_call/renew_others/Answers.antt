use Rattle.std.proofs.Common.{◌≡◌, ◌-◌, ◌<◌, ◌^◌, ◌∙◌, ℕ, List, ap, length, set, sym, subst}
use Rattle.std.proofs.lemmas.List.{length-set}
use Rattle.st_steps.proofs.OwnCalls.{closed_is}
use Rattle.st_steps.specs.Making.{others}
use Rattle.st_threads.proofs.RenewedLaw.{count_renewed}
use Rattle.st_threads.specs.Renewing.{calls_from, cwds_of, renewals_from, AreNumberedFrom, CanRenew, HaveRenewed}
use Rattle.st_threads.specs.Thread.{ThreadRow}
use Rattle.st_workers.proofs.Turns.{whole_again}
use Rattle.st_steps.proofs.own_call.renew_others.Goals as goal

pub renew_all-changes-requires-clause-few : goal.renew_all-changes-requires-clause-few
renew_all-changes-requires-clause-few c = subst (λ (n : ℕ). n < 2 ^ 31) (sym (ap (λ (rows : List ThreadRow). length rows) c.deref_mut.ensures.value ∙ length-set c.args.threads.now.items (c.args.own.caller.tid - 1) c.close.new.self)) c.requires.few

pub renew_all-changes-requires-clause-calls : goal.renew_all-changes-requires-clause-calls
renew_all-changes-requires-clause-calls c =
    let closed : c.deref_mut.result.now ≡ c.requires.can.0 = closed_is c.args.threads.now.items c.args.own.caller.tid c.index_mut.result.now c.close.new.self c.deref_mut.result.now c.requires.can.0 c.requires.can.1 c.index_mut.ensures.value c.close.ensures c.deref_mut.ensures.value in
    subst (λ (rows : List ThreadRow). CanRenew c.args.workers.now (calls_from (others c.args.system.now.processes c.args.own) 1 rows)) (sym closed) c.requires.can.2.calls

pub renew_all-changes-requires-clause-cwds : goal.renew_all-changes-requires-clause-cwds
renew_all-changes-requires-clause-cwds c =
    let closed : c.deref_mut.result.now ≡ c.requires.can.0 = closed_is c.args.threads.now.items c.args.own.caller.tid c.index_mut.result.now c.close.new.self c.deref_mut.result.now c.requires.can.0 c.requires.can.1 c.index_mut.ensures.value c.close.ensures c.deref_mut.ensures.value in
    c.requires.can.2.copies
    ∙ ap (λ (rows : List ThreadRow). cwds_of c.args.system.now.processes (calls_from (others c.args.system.now.processes c.args.own) 1 rows)) (sym closed)

pub end_call-requires : goal.end_call-requires
end_call-requires c =
    let closed : c.deref_mut.result.now ≡ c.requires.can.0 = closed_is c.args.threads.now.items c.args.own.caller.tid c.index_mut.result.now c.close.new.self c.deref_mut.result.now c.requires.can.0 c.requires.can.1 c.index_mut.ensures.value c.close.ensures c.deref_mut.ensures.value in
    c.requires.can.2.lives c.renew_all-changes.new.threads c.renew_all-changes.new.workers
    (subst (λ (rows : List ThreadRow). HaveRenewed c.args.system.now.processes (others c.args.system.now.processes c.args.own) c.args.plan.version rows c.args.workers.now c.renew_all-changes.new.threads c.renew_all-changes.new.workers) closed c.renew_all-changes.ensures.renewed)

pub returns-clause-renewed : goal.returns-clause-renewed
returns-clause-renewed c =
    let closed : c.deref_mut.result.now ≡ c.requires.can.0 = closed_is c.args.threads.now.items c.args.own.caller.tid c.index_mut.result.now c.close.new.self c.deref_mut.result.now c.requires.can.0 c.requires.can.1 c.index_mut.ensures.value c.close.ensures c.deref_mut.ensures.value in
    let whole = whole_again c.renew_all-changes.new.threads (set c.args.threads.now.items (c.args.own.caller.tid - 1) c.close.new.self) c.args.threads.now.len (c.args.threads.now.ok.0 ∙ sym (length-set c.args.threads.now.items (c.args.own.caller.tid - 1) c.close.new.self))
    (ap (λ (rows : List ThreadRow). length rows) c.renew_all-changes.ensures.renewed.rows_are ∙ count_renewed (others c.args.system.now.processes c.args.own) c.deref_mut.result.now 1 c.args.workers.now.calls.next ∙ ap (λ (rows : List ThreadRow). length rows) c.deref_mut.ensures.value) in (
      c.requires.can.0,
      c.renew_all-changes.new.workers,
      c.requires.can.1,
      subst (λ (rows : List ThreadRow). HaveRenewed c.args.system.now.processes (others c.args.system.now.processes c.args.own) c.args.plan.version c.requires.can.0 c.args.workers.now rows c.renew_all-changes.new.workers) (sym whole)
          (subst (λ (rows : List ThreadRow). HaveRenewed c.args.system.now.processes (others c.args.system.now.processes c.args.own) c.args.plan.version rows c.args.workers.now c.renew_all-changes.new.threads c.renew_all-changes.new.workers) closed c.renew_all-changes.ensures.renewed),
      c.end_call.ensures.kept,
      c.end_call.ensures.numbers,
    )

pub returns-clause-changes : goal.returns-clause-changes
returns-clause-changes c = λ shut is.
    let closed : c.deref_mut.result.now ≡ shut = closed_is c.args.threads.now.items c.args.own.caller.tid c.index_mut.result.now c.close.new.self c.deref_mut.result.now shut is c.index_mut.ensures.value c.close.ensures c.deref_mut.ensures.value in
    let changes = c.renew_all-changes.ensures.changes in (
      changes.0,
      c.of.ensures ∙ changes.1,
      subst (λ (rows : List ThreadRow). AreNumberedFrom c.args.workers.now (renewals_from c.args.workers.now.calls.next (calls_from (others c.args.system.now.processes c.args.own) 1 rows)) changes.0) closed changes.2,
    )
