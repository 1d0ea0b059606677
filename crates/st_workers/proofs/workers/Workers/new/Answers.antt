use Rattle.std.proofs.Common.{◌≡◌, ◌∙◌, length, sym}
use Rattle.st_workers.specs.UnderWay.{UnderWay}
use Rattle.st_workers.proofs.Begun.{begun_kept, begun_whole, begun_numbered, begun_numbers}
use Rattle.st_workers.proofs.workers.Workers.new.Goals as goal

abbrev kept : goal.In_ok-idle → UnderWay
kept c = record { calls = c.in_ok-new.field-0; slots = c.new-2.result; turns = c.in_ok-idle.field-0.items }

count : (c : goal.In_ok-idle) → length (kept c).turns ≡ (kept c).calls.workers
count c = c.in_ok-idle.ensures.count ∙ sym c.in_ok-new.ensures.workers

pub invariant_of-result : goal.invariant_of-result
invariant_of-result c = (
  begun_whole (kept c) c.in_ok-new.ensures.next c.in_ok-new.ensures.live c.new-2.ensures c.in_ok-new.ensures.kept c.in_ok-new.ensures.valid c.in_ok-idle.ensures.idle (count c),
  begun_numbered (kept c) c.in_ok-new.ensures.next c.in_ok-new.ensures.live c.new-2.ensures c.in_ok-new.ensures.kept c.in_ok-new.ensures.valid c.in_ok-idle.ensures.idle (count c),
)

pub returns-clause-numbers : goal.returns-clause-numbers
returns-clause-numbers c = begun_numbers (kept c) c.in_ok-new.ensures.next c.in_ok-new.ensures.live c.new-2.ensures c.in_ok-new.ensures.kept c.in_ok-new.ensures.valid c.in_ok-idle.ensures.idle (count c) c.in_ok-new.ensures.greatest c.in_ok-new.ensures.last

pub returns-clause-kept : goal.returns-clause-kept
returns-clause-kept c = λ i workers. begun_kept (kept c) c.in_ok-new.ensures.next c.in_ok-new.ensures.live c.new-2.ensures c.in_ok-new.ensures.kept c.in_ok-new.ensures.valid c.in_ok-idle.ensures.idle (count c) i (c.in_ok-new.ensures.workers ∙ workers)
