use Rattle.std.proofs.Common.{◌≡◌, ◌++◌, ◌∙◌, drop, length, take, List, Option, true, ap, sym, subst, Bool, ℕ, ◌↔◌}
use Rattle.st_messages.specs.Messages.{is_live_drawing, message_state, calls_after_cancel}
use Rattle.st_messages.specs.declared.message.MsgState.{MsgState}
use Rattle.st_workers.specs.Refinement.{RepresentsMachineMessages, AreValidWorkers}
use Rattle.st_workers.specs.Leaving.{HasLeft, is_claimer_ready}
use Rattle.st_workers.specs.UnderWay.{UnderWay}
use Rattle.st_workers.specs.declared.turn.Turn.{Turn}
use Rattle.st_workers.proofs.Cancels.{cancelled_fewer, cancelled_kept, cancelled_whole, cancelled_numbers, cancelled_ready, cancelled_stays}
use Rattle.st_workers.proofs.Turns.{whole_again}
use Rattle.st_workers.specs.Numbers.{AreNumbered, AreReady, CarriesNumbers, IsReadyWith, KeepsNumbers}
use Rattle.st_law.specs.Numbers.{without_replaced}
use Rattle.st_workers.proofs.workers.Workers.cancel.Goals as goal

abbrev old : goal.After-drop_of → UnderWay
old c = record { calls = c.self.inside.messages; slots = c.self.inside.slots; turns = c.self.inside.turns.items }

abbrev new : goal.After-drop_of → UnderWay
new c = record { calls = c.cancel.new.self; slots = c.drop_of.new.self; turns = c.leave-keeps.new.turns }

here : (c : goal.After-drop_of) → is_live_drawing (old c).calls c.args.drawing ≡ true
here c = ap (λ (k : UnderWay). is_live_drawing k.calls c.args.drawing) c.self.view_is ∙ c.requires

turns_left : (c : goal.After-drop_of) → HasLeft (old c).turns (message_state (old c).calls c.args.drawing) (new c).turns
turns_left c = subst (λ (ts : List Turn). HasLeft ts (message_state (old c).calls c.args.drawing) (new c).turns) c.deref_mut.ensures.value (subst (λ (o : Option MsgState). HasLeft c.deref_mut.result.now o (new c).turns) c.state.ensures.state c.leave-keeps.ensures.left)

count : (c : goal.After-drop_of) → length (new c).turns ≡ length (old c).turns
count c = c.leave-keeps.ensures.count ∙ ap (λ (ts : List Turn). length ts) c.deref_mut.ensures.value

keeps_is : (c : goal.After-drop_of) → c.leave-keeps.result ≡ is_claimer_ready (old c).turns (message_state (old c).calls c.args.drawing)
keeps_is c = c.leave-keeps.ensures.ready ∙ (λ k. is_claimer_ready (c.deref_mut.ensures.value k) (c.state.ensures.state k))

abbrev with_turns : UnderWay → List Turn → UnderWay
with_turns kept turns = record { calls = kept.calls; slots = kept.slots; turns = turns }

abbrev all_turns : goal.After-drop_of → List Turn
all_turns c = take c.self.inside.turns.len ((new c).turns ++ drop (length (new c).turns) (old c).turns)

turns_are : (c : goal.After-drop_of) → all_turns c ≡ (new c).turns
turns_are c = whole_again (new c).turns (old c).turns c.self.inside.turns.len c.self.inside.turns.ok.0 (count c)

pub invariant_of-self : goal.invariant_of-self
invariant_of-self c =
    subst (λ (ts : List Turn). AreValidWorkers (with_turns (new c) ts) × AreNumbered (with_turns (new c) ts)) (sym (turns_are c)) (
      cancelled_whole (old c) (new c) c.args.drawing c.leave-keeps.result (here c) c.cancel.ensures.calls c.cancel.ensures.states c.drop_of.ensures (turns_left c) (count c) (keeps_is c) c.self.invariant.0,
      cancelled_stays (old c) (new c) c.args.drawing c.leave-keeps.result (here c) c.cancel.ensures.calls c.cancel.ensures.states c.drop_of.ensures (turns_left c) (count c) (keeps_is c) c.self.invariant.0 c.self.invariant.1,
    )

pub returns-clause-calls : goal.returns-clause-calls
returns-clause-calls c = (c.leave-keeps.result, c.cancel.ensures.calls ∙ ap (λ (k : UnderWay). calls_after_cancel k.calls c.args.drawing c.leave-keeps.result) c.self.view_is)

pub returns-clause-numbers : goal.returns-clause-numbers
returns-clause-numbers c =
    subst (λ (k : UnderWay). (ready : ℕ → Bool) → AreReady ready k → CarriesNumbers (without_replaced ready c.args.drawing) k.calls (new c).calls) c.self.view_is
    (cancelled_numbers (old c) (new c) c.args.drawing c.leave-keeps.result (here c) c.cancel.ensures.calls c.cancel.ensures.states c.drop_of.ensures (turns_left c) (count c) (keeps_is c) c.self.invariant.0 c.self.invariant.1)

pub returns-clause-fewer : goal.returns-clause-fewer
returns-clause-fewer c =
    subst (λ (k : UnderWay). KeepsNumbers k.calls (new c).calls) c.self.view_is
    (cancelled_fewer (old c) (new c) c.args.drawing c.leave-keeps.result (here c) c.cancel.ensures.calls c.cancel.ensures.states c.drop_of.ensures (turns_left c) (count c) (keeps_is c) c.self.invariant.1)

pub returns-clause-ready : goal.returns-clause-ready
returns-clause-ready c =
    subst (λ (k : UnderWay). (q : ℕ) → IsReadyWith (with_turns (new c) (all_turns c)) q ↔ IsReadyWith k q) c.self.view_is (
    subst (λ (ts : List Turn). (q : ℕ) → IsReadyWith (with_turns (new c) ts) q ↔ IsReadyWith (old c) q) (sym (turns_are c))
    (cancelled_ready (old c) (new c) c.args.drawing c.leave-keeps.result (here c) c.cancel.ensures.calls c.cancel.ensures.states c.drop_of.ensures (turns_left c) (count c) (keeps_is c))
    )

pub returns-clause-kept : goal.returns-clause-kept
returns-clause-kept c = λ i messages turns alive later posted kept lives.
    subst (λ (ts : List Turn). RepresentsMachineMessages i messages turns later posted (record { calls = (new c).calls; slots = (new c).slots; turns = ts })) (sym (turns_are c))
    (cancelled_kept (old c) (new c) c.args.drawing c.leave-keeps.result (here c) c.cancel.ensures.calls c.cancel.ensures.states c.drop_of.ensures (turns_left c) (count c) (keeps_is c) i messages turns alive later posted (subst (λ (k : UnderWay). RepresentsMachineMessages i messages turns alive posted k) (sym c.self.view_is) kept) lives)
