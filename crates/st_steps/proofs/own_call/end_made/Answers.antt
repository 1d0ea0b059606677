use Rattle.std.proofs.Common.{◌≡◌, ◌-◌, ◌<◌, ◌^◌, ◌∙◌, ℕ, List, ap, length, refl, set, sym, subst, None}
use Rattle.std.proofs.lemmas.List.{length-set}
use Rattle.st_steps.proofs.OwnCalls.{closed_is}
use Rattle.st_threads.specs.Ending.{is_ended_by, HaveEnded}
use Rattle.st_threads.specs.Thread.{ThreadRow}
use Rattle.st_workers.proofs.Turns.{whole_again}
use Rattle.st_steps.proofs.own_call.end_made.Goals as goal

pub end_by_all-requires-clause-few : goal.end_by_all-requires-clause-few
end_by_all-requires-clause-few c = subst (λ (n : ℕ). n < 2 ^ 31) (sym (ap (λ (rows : List ThreadRow). length rows) c.deref_mut.ensures.value ∙ length-set c.args.threads.now.items (c.args.own.caller.tid - 1) c.close.new.self)) c.requires.few

pub returns : goal.returns
returns c =
    let row = c.requires.there in
    let shut : List ThreadRow = set c.args.threads.now.items (c.args.own.caller.tid - 1) (record row.0 { pending = None }) in
    let closed : c.deref_mut.result.now ≡ shut = closed_is c.args.threads.now.items c.args.own.caller.tid c.index_mut.result.now c.close.new.self c.deref_mut.result.now shut (row.0, row.1, refl) c.index_mut.ensures.value c.close.ensures c.deref_mut.ensures.value in
    let whole = whole_again c.end_by_all.new.threads (set c.args.threads.now.items (c.args.own.caller.tid - 1) c.close.new.self) c.args.threads.now.len (c.args.threads.now.ok.0 ∙ sym (length-set c.args.threads.now.items (c.args.own.caller.tid - 1) c.close.new.self))
    (c.end_by_all.ensures.count ∙ ap (λ (rows : List ThreadRow). length rows) c.deref_mut.ensures.value) in (
      c.deref_mut.result.now,
      c.end_call.new.workers,
      (row.0, row.1, closed),
      c.end_call.ensures.kept,
      c.end_call.ensures.numbers,
      subst (λ (rows : List ThreadRow). HaveEnded (is_ended_by c.args.system.now.processes c.args.own.caller.tid c.args.own.caller.pid c.args.changes.now) c.deref_mut.result.now c.end_call.new.workers rows c.end_by_all.new.workers) (sym whole) c.end_by_all.ensures,
    )
