use Rattle.std.proofs.Common.{◌≡◌, ◌++◌, ◌∙◌, drop, length, suc, take, ℕ, IfSome, List, Option, Some, true, ap, sym, subst, Bool, ◌↔◌, ◌≤◌}
use Rattle.st_lookaside.specs.Slot.{renewed}
use Rattle.st_lookaside.specs.Slots.{slot_at, RenewsSlot}
use Rattle.st_messages.specs.Messages.{is_live_drawing, message_state, thread_of_drawing, calls_after_renew, count_in_use, most_in_use, next_seq, seq_of}
use Rattle.st_messages.specs.declared.message.MsgState.{MsgState}
use Rattle.st_workers.specs.Refinement.{messages_renewed, RepresentsMachineMessages, AreValidWorkers}
use Rattle.st_workers.specs.Leaving.{HasLeft, is_claimer_ready}
use Rattle.st_workers.specs.UnderWay.{UnderWay}
use Rattle.st_workers.specs.declared.turn.Turn.{Turn}
use Rattle.st_workers.proofs.Renewals.{renewed_kept, renewed_whole, renewed_few, renewed_numbers, renewed_ready, renewed_seq, renewed_stays}
use Rattle.st_workers.proofs.Turns.{whole_again}
use Rattle.st_workers.specs.Numbers.{AreFew, AreNumbered, AreReady, CarriesNumbers, IsReadyWith}
use Rattle.st_law.specs.Numbers.{drawn_as, largest_number, without_replaced}
use Rattle.st_workers.proofs.Few.{few_in_use}
use Rattle.st_workers.proofs.workers.Workers.renew.Goals as goal

abbrev old : goal.After-renew → UnderWay
old c = record { calls = c.self.inside.messages; slots = c.self.inside.slots; turns = c.self.inside.turns.items }

abbrev new : goal.After-renew → UnderWay
new c = record { calls = c.renew-fresh.new.self; slots = c.renew.new.self; turns = c.leave-keeps.new.turns }

here : (c : goal.After-renew) → is_live_drawing (old c).calls c.args.drawing ≡ true
here c = ap (λ (k : UnderWay). is_live_drawing k.calls c.args.drawing) c.self.view_is ∙ c.requires.live

turns_left : (c : goal.After-renew) → HasLeft (old c).turns (message_state (old c).calls c.args.drawing) (new c).turns
turns_left c = subst (λ (ts : List Turn). HasLeft ts (message_state (old c).calls c.args.drawing) (new c).turns) c.deref_mut.ensures.value (subst (λ (o : Option MsgState). HasLeft c.deref_mut.result.now o (new c).turns) c.state.ensures.state c.leave-keeps.ensures.left)

count : (c : goal.After-renew) → length (new c).turns ≡ length (old c).turns
count c = c.leave-keeps.ensures.count ∙ ap (λ (ts : List Turn). length ts) c.deref_mut.ensures.value

keeps_is : (c : goal.After-renew) → c.leave-keeps.result ≡ is_claimer_ready (old c).turns (message_state (old c).calls c.args.drawing)
keeps_is c = c.leave-keeps.ensures.ready ∙ (λ k. is_claimer_ready (c.deref_mut.ensures.value k) (c.state.ensures.state k))

pub renew-fresh-requires-clause-few : goal.renew-fresh-requires-clause-few
renew-fresh-requires-clause-few c =
    let kept : UnderWay = record { calls = c.self.inside.messages; slots = c.self.inside.slots; turns = c.self.inside.turns.items } in
    few_in_use kept c.self.invariant.1 c.self.invariant.0.count (subst (λ (k : UnderWay). AreFew k.calls) (sym c.self.view_is) c.requires.few)

pub next_seq-seq-requires : goal.next_seq-seq-requires
next_seq-seq-requires c =
    let kept : UnderWay = record { calls = c.self.inside.messages; slots = c.self.inside.slots; turns = c.self.inside.turns.items } in
    few_in_use kept c.self.invariant.1 c.self.invariant.0.count (subst (λ (k : UnderWay). AreFew k.calls) (sym c.self.view_is) c.requires.few)

few : (c : goal.After-renew) → count_in_use (old c).calls ≤ most_in_use
few c = few_in_use (old c) c.self.invariant.1 c.self.invariant.0.count (subst (λ (k : UnderWay). AreFew k.calls) (sym c.self.view_is) c.requires.few)

number : (c : goal.After-renew) → c.next_seq-seq.result ≡ next_seq (old c).calls
number c = c.next_seq-seq.ensures.seq

abbrev with_turns : UnderWay → List Turn → UnderWay
with_turns kept turns = record { calls = kept.calls; slots = kept.slots; turns = turns }

abbrev all_turns : goal.After-renew → List Turn
all_turns c = take c.self.inside.turns.len ((new c).turns ++ drop (length (new c).turns) (old c).turns)

turns_are : (c : goal.After-renew) → all_turns c ≡ (new c).turns
turns_are c = whole_again (new c).turns (old c).turns c.self.inside.turns.len c.self.inside.turns.ok.0 (count c)

thread : (c : goal.After-renew) → thread_of_drawing (new c).calls (old c).calls.next ≡ thread_of_drawing (old c).calls c.args.drawing
thread c = ap (thread_of_drawing (new c).calls) (sym c.renew-fresh.ensures.drawing) ∙ c.renew-fresh.ensures.thread

slots : (c : goal.After-renew) → IfSome (slot_at (old c).slots c.args.drawing) (λ slot. RenewsSlot (old c).slots c.args.drawing (old c).calls.next (renewed slot (old c).calls.next c.next_seq-seq.result c.args.renewal) (new c).slots)
slots c = subst (λ (n : ℕ). IfSome (slot_at (old c).slots c.args.drawing) (λ slot. RenewsSlot (old c).slots c.args.drawing n (renewed slot n c.next_seq-seq.result c.args.renewal) (new c).slots)) c.renew-fresh.ensures.drawing c.renew.ensures

pub invariant_of-self : goal.invariant_of-self
invariant_of-self c =
    subst (λ (ts : List Turn). AreValidWorkers (with_turns (new c) ts) × AreNumbered (with_turns (new c) ts)) (sym (turns_are c)) (
      renewed_whole (old c) (new c) c.args.drawing c.leave-keeps.result c.next_seq-seq.result c.args.renewal (here c) c.renew-fresh.ensures.calls (thread c) c.renew-fresh.ensures.states (slots c) (turns_left c) (count c) (keeps_is c) (few c) (number c) c.self.invariant.0,
      renewed_stays (old c) (new c) c.args.drawing c.leave-keeps.result c.next_seq-seq.result c.args.renewal (here c) c.renew-fresh.ensures.calls (thread c) c.renew-fresh.ensures.states (slots c) (turns_left c) (count c) (keeps_is c) (few c) (number c) c.self.invariant.0 c.self.invariant.1,
    )

pub returns-clause-calls : goal.returns-clause-calls
returns-clause-calls c = (c.leave-keeps.result, c.renew-fresh.ensures.calls ∙ ap (λ (k : UnderWay). calls_after_renew k.calls c.args.drawing c.leave-keeps.result) c.self.view_is)

pub returns-clause-seq : goal.returns-clause-seq
returns-clause-seq c =
    subst (λ (n : ℕ). seq_of (new c).calls n ≡ Some (next_seq c.args.self.now.calls)) (sym c.renew-fresh.ensures.drawing)
    (renewed_seq (old c) (new c) c.args.drawing c.leave-keeps.result c.next_seq-seq.result c.args.renewal (here c) c.renew-fresh.ensures.calls (thread c) c.renew-fresh.ensures.states (slots c) (turns_left c) (count c) (keeps_is c) (few c) (number c) c.self.invariant.1
    ∙ ap (λ (k : UnderWay). Some (next_seq k.calls)) c.self.view_is)

pub returns-clause-few : goal.returns-clause-few
returns-clause-few c = renewed_few (old c) (new c) c.args.drawing c.leave-keeps.result c.next_seq-seq.result c.args.renewal (here c) c.renew-fresh.ensures.calls (thread c) c.renew-fresh.ensures.states (slots c) (turns_left c) (count c) (keeps_is c) (few c) (number c) (subst (λ (k : UnderWay). AreFew k.calls) (sym c.self.view_is) c.requires.few)

pub returns-clause-numbers : goal.returns-clause-numbers
returns-clause-numbers c =
    subst (λ (k : UnderWay). (ready : ℕ → Bool) → AreReady ready k → CarriesNumbers (λ numbers. without_replaced ready c.args.drawing (drawn_as largest_number k.calls.next numbers)) k.calls (new c).calls) c.self.view_is
    (renewed_numbers (old c) (new c) c.args.drawing c.leave-keeps.result c.next_seq-seq.result c.args.renewal (here c) c.renew-fresh.ensures.calls (thread c) c.renew-fresh.ensures.states (slots c) (turns_left c) (count c) (keeps_is c) (few c) (number c) c.self.invariant.0 c.self.invariant.1)

pub returns-clause-ready : goal.returns-clause-ready
returns-clause-ready c =
    subst (λ (k : UnderWay). (q : ℕ) → IsReadyWith (with_turns (new c) (all_turns c)) q ↔ IsReadyWith k q) c.self.view_is (
    subst (λ (ts : List Turn). (q : ℕ) → IsReadyWith (with_turns (new c) ts) q ↔ IsReadyWith (old c) q) (sym (turns_are c))
    (renewed_ready (old c) (new c) c.args.drawing c.leave-keeps.result c.next_seq-seq.result c.args.renewal (here c) c.renew-fresh.ensures.calls (thread c) c.renew-fresh.ensures.states (slots c) (turns_left c) (count c) (keeps_is c) (few c) (number c))
    )

pub returns-clause-kept : goal.returns-clause-kept
returns-clause-kept c = λ i messages turns alive later posted kept lives.
    subst (λ (ts : List Turn). RepresentsMachineMessages i (messages_renewed c.args.renewal c.args.drawing (suc posted) messages) turns later (suc posted) (record { calls = (new c).calls; slots = (new c).slots; turns = ts })) (sym (turns_are c))
    (renewed_kept (old c) (new c) c.args.drawing c.leave-keeps.result c.next_seq-seq.result c.args.renewal (here c) c.renew-fresh.ensures.calls (thread c) c.renew-fresh.ensures.states (slots c) (turns_left c) (count c) (keeps_is c) (few c) (number c) i messages turns alive later posted (subst (λ (k : UnderWay). RepresentsMachineMessages i messages turns alive posted k) (sym c.self.view_is) kept) lives)
