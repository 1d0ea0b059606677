use native.Mathlib.Omega.{arith}
use Rattle.std.proofs.Common.{◌∙◌, ◌≤◌, ◌+◌, ◌∷◌, List, drop, length, ap, subst, sym}
use Rattle.std.proofs.Math.ListN.{drop_of_length-le}
use Rattle.std.proofs.lemmas.List.{drop_more}
use Rattle.st_trace.specs.declared.entry.Change.{Change}
use Rattle.st_threads.specs.Ending.{HaveEnded, is_ended_by}
use Rattle.st_threads.proofs.HeldEnds.{calls_after, next_change, none_ended}
use Rattle.st_threads.proofs.ending.end_by_all.Goals as goal

pub end_by-requires-clause-calls : goal.end_by-requires-clause-calls
end_by-requires-clause-calls c = c.loop-change.invariant.0

pub loop-change-preserved : goal.loop-change-preserved
loop-change-preserved c = (
  calls_after _ c.loop-change.threads c.loop-change.workers c.end_by.new.threads c.end_by.new.workers c.end_by.ensures c.loop-change.invariant.0,
  λ new left later. c.loop-change.invariant.1 new left
      (subst (λ (changes : List Change). HaveEnded (is_ended_by c.args.system.now.processes c.args.caller.tid c.args.caller.pid changes) c.loop-change.threads c.loop-change.workers new left)
      (sym (drop_more c.args.changes.now c.loop-change.change-index c.change-item.result c.loop-change-test.true ∙ ap (λ (change : Change). change ∷ drop (c.loop-change.change-index + 1) c.args.changes.now) (sym c.change-item.is)))
      (next_change c.args.system.now.processes c.args.caller.tid c.args.caller.pid c.change-item.result (drop (c.loop-change.change-index + 1) c.args.changes.now) c.loop-change.threads c.loop-change.workers c.end_by.new.threads c.end_by.new.workers new left c.end_by.ensures later)),
)

pub returns : goal.returns
returns c =
    let over : length c.args.changes.now ≤ c.loop-change.change-index = let end = c.loop-change-test.false in omega (arith, end) in
    c.loop-change.invariant.1 c.loop-change.threads c.loop-change.workers
    (subst (λ (changes : List Change). HaveEnded (is_ended_by c.args.system.now.processes c.args.caller.tid c.args.caller.pid changes) c.loop-change.threads c.loop-change.workers c.loop-change.threads c.loop-change.workers)
    (sym (drop_of_length-le c.args.changes.now over)) (none_ended c.loop-change.threads c.loop-change.workers))
