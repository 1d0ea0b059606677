use Rattle.std.proofs.Common.{◌≡◌, ◌∙◌, Some, ap, sym, subst}
use Rattle.st_calls.specs.declared.judged.Snapshot.{Snapshot}
use Rattle.st_law.specs.State.{is_live}
use Rattle.st_lookaside.specs.Slot.{snapshot_with}
use Rattle.st_lookaside.specs.Slots.{slot_at}
use Rattle.st_messages.specs.Messages.{message_state, seq_of}
use Rattle.st_workers.specs.Refinement.{HasAnswer, RepresentsMessages}
use Rattle.st_workers.specs.UnderWay.{UnderWay}
use Rattle.st_workers.proofs.Filled.{known, the_slot}
use Rattle.st_workers.proofs.Sealed.{answered_sealed, answered_slot, sealed_is}
use Rattle.st_workers.proofs.workers.Workers.snapshot.Goals as goal

pub copies-requires : goal.copies-requires
copies-requires c =
    let kept : UnderWay = record { calls = c.self.inside.messages; slots = c.self.inside.slots; turns = c.self.inside.turns.items } in
    let answered = subst (λ (k : UnderWay). HasAnswer (message_state k.calls c.args.drawing)) (sym c.self.view_is) c.requires in
    record { slot = answered_slot kept c.args.drawing c.self.invariant.0 answered; sealed = answered_sealed kept c.args.drawing c.self.invariant.0 answered }

pub returns-clause-law : goal.returns-clause-law
returns-clause-law c = λ i st is.
    let kept : UnderWay = record { calls = c.self.inside.messages; slots = c.self.inside.slots; turns = c.self.inside.turns.items } in
    sealed_is kept c.args.drawing c.copies.result.now c.copies.ensures.args c.copies.ensures.head c.self.invariant.0
    (subst (λ (k : UnderWay). HasAnswer (message_state k.calls c.args.drawing)) (sym c.self.view_is) c.requires) i st
    (subst (λ (k : UnderWay). RepresentsMessages i st (is_live st) k) (sym c.self.view_is) is)

pub returns-clause-seq : goal.returns-clause-seq
returns-clause-seq c =
    let kept : UnderWay = record { calls = c.self.inside.messages; slots = c.self.inside.slots; turns = c.self.inside.turns.items } in
    let answered = subst (λ (k : UnderWay). HasAnswer (message_state k.calls c.args.drawing)) (sym c.self.view_is) c.requires in
    let slot = the_slot (slot_at kept.slots c.args.drawing) (answered_slot kept c.args.drawing c.self.invariant.0 answered) in
    let sealed : c.copies.result.now ≡ snapshot_with slot.0.head c.copies.result.now.parts = known (slot_at kept.slots c.args.drawing) (λ s. c.copies.result.now ≡ snapshot_with s.head c.copies.result.now.parts) slot.0 slot.1 c.copies.ensures.head in
    sym (ap (λ (k : UnderWay). seq_of k.calls c.args.drawing) c.self.view_is) ∙ c.self.invariant.1.seqs.slots c.args.drawing slot.0 slot.1 ∙ ap (λ (s : Snapshot). Some s.seq) (sym sealed)
