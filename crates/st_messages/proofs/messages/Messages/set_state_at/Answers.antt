use Rattle.std.proofs.Common.{◌≡◌, ◌∙◌, ◌<◌, Some, true, ap, length, sym, subst}
use Rattle.std.specs.Prelude.{is_some, slice_set}
use Rattle.st_messages.specs.Messages.{HeldCalls, is_live_drawing, with_state, ChangesState, AreValidCalls}
use Rattle.st_messages.proofs.Ahead.{ahead_moved, AreAhead}
use Rattle.st_messages.proofs.Lookups.{found_there, moved, set-placed}
use Rattle.st_messages.proofs.Whole.{states_moved, whole-moved}
use Rattle.st_messages.proofs.messages.Messages.set_state_at.Goals as goal

inside : (c : goal.After-self-1) → c.args.place < length c.self.inside.live.items
inside c = subst (λ (calls : HeldCalls). c.args.place < length calls.live) (sym c.self.view_is) c.requires.place

-- the message at the index is live
live : (c : goal.After-self-1) → is_live_drawing c.args.self.now c.index_mut-message.result.now.drawing ≡ true
live c =
    ap (λ (calls : HeldCalls). is_live_drawing calls c.index_mut-message.result.now.drawing) (sym c.self.view_is)
    ∙ ap is_some (found_there c.self.inside.live.items 1 c.self.inside.next c.args.place c.index_mut-message.result.now c.self.invariant.0.ordered (inside c) c.index_mut-message.ensures.value)

left : (c : goal.After-self-1) → record { workers = c.self.inside.workers; next = c.self.inside.next; greatest = 65535; last = c.self.inside.last; kept = c.self.inside.kept; live = slice_set c.self.inside.live.items c.args.place (moved c.args.state c.index_mut-message.result.now) } ≡ with_state c.args.self.now c.index_mut-message.result.now.drawing c.args.state
left c =
    ap (λ live. record { workers = c.self.inside.workers; next = c.self.inside.next; greatest = 65535; last = c.self.inside.last; kept = c.self.inside.kept; live = live }) (set-placed c.self.inside.live.items 1 c.self.inside.next c.args.place c.index_mut-message.result.now c.self.invariant.0.ordered (inside c) c.index_mut-message.ensures.value c.args.state)
    ∙ ap (λ (calls : HeldCalls). with_state calls c.index_mut-message.result.now.drawing c.args.state) c.self.view_is

pub invariant_of-self : goal.invariant_of-self
invariant_of-self c = (
  subst AreValidCalls (sym (left c)) (whole-moved c.args.self.now c.index_mut-message.result.now.drawing c.args.state (subst AreValidCalls c.self.view_is c.self.invariant.0) (live c) c.requires.worker),
  subst (AreAhead c.self.inside.ahead) (sym (left c)) (ahead_moved c.args.self.now c.self.inside.ahead c.index_mut-message.result.now.drawing c.args.state (subst (AreAhead c.self.inside.ahead) c.self.view_is c.self.invariant.1)),
)

pub returns-clause-calls : goal.returns-clause-calls
returns-clause-calls c = left c

pub returns-clause-states : goal.returns-clause-states
returns-clause-states c = subst (ChangesState c.args.self.now c.index_mut-message.result.now.drawing (Some c.args.state)) (sym (left c)) (states_moved c.args.self.now c.index_mut-message.result.now.drawing c.args.state (live c))
