use Rattle.std.proofs.Common.{rules}
use Rattle.st_lookaside.specs.Slot.{after_word, slot_progress, IsWordNext}
use Rattle.st_workers.specs.Filling.{AreSame}
use Rattle.st_workers.proofs.Filled.{ready_then, undone}
use Rattle.st_workers.proofs.filling.take_word.Goals as goal

pub seal_last-requires-clause-ready : goal.seal_last-requires-clause-ready
seal_last-requires-clause-ready c = ready_then c.args.slots.now c.fill.new.self c.args.drawing (λ s. after_word s c.args.word) c.requires.slot c.fill.ensures.slot c.in-Ready.ensures.next

pub returns-in_err-seal_last-clause-err : goal.returns-in_err-seal_last-clause-err
returns-in_err-seal_last-clause-err c =
    let same : AreSame c.args.slots.now c.seal_last.new.slots =
    undone c.args.slots.now c.fill.new.self c.seal_last.new.slots c.args.drawing (λ s. after_word s c.args.word) (λ s. IsWordNext (slot_progress s)) c.requires.slot c.fill.ensures.order c.requires.next c.fill.ensures.slot
    (λ before. c.in_err-seal_last.ensures.word before c.args.word) in
    search (rules, same)
