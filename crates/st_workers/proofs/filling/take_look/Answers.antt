use Rattle.std.proofs.Common.{◌≡◌, rules, subst, IfSome}
use Rattle.st_names.specs.Seen.{seen_text}
use Rattle.st_lookaside.specs.Slot.{after_look, next_need, slot_progress, IsLookNext}
use Rattle.st_lookaside.specs.Slots.{slot_at}
use Rattle.st_lookaside.specs.declared.slot.Next.{Next}
use Rattle.st_workers.specs.Filling.{AreSame}
use Rattle.st_workers.proofs.Filled.{goes_on, not_asked, ready_then, undone, unsealed_change}
use Rattle.st_workers.proofs.filling.take_look.Goals as goal

pub seal_last-requires-clause-ready : goal.seal_last-requires-clause-ready
seal_last-requires-clause-ready c =
    ready_then c.args.slots.now c.take_look.new.self c.args.drawing (λ s. after_look s (seen_text c.args.seen)) c.requires.slot c.in_ok-take_look.ensures.slot
    (subst (λ (n : Next). IfSome (slot_at c.args.slots.now c.args.drawing) (λ slot. n ≡ next_need (slot_progress (after_look slot (seen_text c.args.seen))))) c.in-Ready.is c.in_ok-take_look.ensures.next)

pub returns-in_err-seal_last-clause-err : goal.returns-in_err-seal_last-clause-err
returns-in_err-seal_last-clause-err c =
    let same : AreSame c.args.slots.now c.seal_last.new.slots =
    undone c.args.slots.now c.take_look.new.self c.seal_last.new.slots c.args.drawing (λ s. after_look s (seen_text c.args.seen)) (λ s. IsLookNext (slot_progress s)) c.requires.slot c.take_look.ensures.order c.requires.next c.in_ok-take_look.ensures.slot
    (λ before. c.in_err-seal_last.ensures.look before (seen_text c.args.seen)) in
    search (rules, same)

pub returns-in_default-clause-slot : goal.returns-in_default-clause-slot
returns-in_default-clause-slot c =
    unsealed_change c.args.slots.now c.take_look.new.self c.args.drawing (λ s. after_look s (seen_text c.args.seen)) c.requires.slot c.in_ok-take_look.ensures.slot
    (not_asked (slot_at c.args.slots.now c.args.drawing) c.in_ok-take_look.field-0 (λ s. after_look s (seen_text c.args.seen)) c.in_ok-take_look.ensures.next c.in_default.not-Ready)

pub returns-in_default-clause-turn : goal.returns-in_default-clause-turn
returns-in_default-clause-turn c =
    goes_on (slot_at c.args.slots.now c.args.drawing) c.args.drawing c.args.turn.now c.in_ok-take_look.field-0 (λ s. after_look s (seen_text c.args.seen)) c.requires.turn c.in_ok-take_look.ensures.next c.in_default.not-Ready
