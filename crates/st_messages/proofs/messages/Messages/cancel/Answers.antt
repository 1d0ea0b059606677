use Rattle.std.proofs.Common.{◌≡◌, ◌∙◌, ◌++◌, Some, None, ap, sym, subst}
use Rattle.st_messages.specs.Messages.{HeldCalls, calls_after_cancel, kept_of_message, message_of_drawing, seq_left, without_drawing, AreValidCalls, ChangesSeq, ChangesState, ChangesKept}
use Rattle.st_messages.proofs.Ahead.{ahead_cancelled, AreAhead}
use Rattle.st_messages.proofs.Seqs.{seqs_cancelled, kept_cancelled}
use Rattle.st_messages.proofs.Whole.{states_cancelled, whole-cancelled}
use Rattle.st_messages.proofs.messages.Messages.cancel.Goals as goal

whole : (c : goal.After-add_if) → AreValidCalls c.args.self.now
whole c = subst AreValidCalls c.self.view_is c.self.invariant.0

found : (c : goal.After-add_if) → message_of_drawing c.args.self.now c.args.drawing ≡ Some c.take-message.result
found c = sym (ap (λ (calls : HeldCalls). message_of_drawing calls c.args.drawing) c.self.view_is) ∙ c.take-message.ensures.message

left : (c : goal.After-add_if) → record { workers = c.self.inside.workers; next = c.self.inside.next; greatest = 65535; last = c.self.inside.last; live = c.take-message.new.live.items; kept = c.add_if.new.self } ≡ calls_after_cancel c.args.self.now c.args.drawing c.args.kept
left c =
    let inside : HeldCalls = record { workers = c.self.inside.workers; next = c.self.inside.next; greatest = 65535; last = c.self.inside.last; live = c.self.inside.live.items; kept = c.self.inside.kept } in
    (λ i. record inside { live = c.take-message.ensures.others i; kept = c.add_if.ensures i })
    ∙ sym (ap (λ o. record inside { live = without_drawing inside.live c.args.drawing; kept = inside.kept ++ kept_of_message c.args.kept o }) c.take-message.ensures.message)
    ∙ ap (λ (calls : HeldCalls). calls_after_cancel calls c.args.drawing c.args.kept) c.self.view_is

pub invariant_of-self : goal.invariant_of-self
invariant_of-self c =
    let ahead = subst (AreAhead c.self.inside.ahead) c.self.view_is c.self.invariant.1 in (
      subst AreValidCalls (sym (left c)) (whole-cancelled c.args.self.now c.args.drawing c.args.kept c.take-message.result (whole c) (found c)),
      subst (AreAhead c.self.inside.ahead) (sym (left c)) (ahead_cancelled c.args.self.now c.self.inside.ahead c.args.drawing c.args.kept c.take-message.result c.args.self.now.last (whole c) (found c) ahead),
    )

pub returns-clause-states : goal.returns-clause-states
returns-clause-states c = subst (ChangesState c.args.self.now c.args.drawing None) (sym (left c)) (states_cancelled c.args.self.now c.args.drawing c.args.kept)

pub returns-clause-seqs : goal.returns-clause-seqs
returns-clause-seqs c =
    subst (ChangesSeq c.args.self.now c.args.drawing (seq_left c.args.self.now c.args.drawing c.args.kept)) (sym (left c)) (
    seqs_cancelled c.args.self.now c.args.drawing c.args.kept c.take-message.result (whole c) (found c)
    )

pub returns-clause-kept : goal.returns-clause-kept
returns-clause-kept c =
    subst (ChangesKept c.args.self.now c.args.drawing c.args.kept) (sym (left c)) (kept_cancelled c.args.self.now c.args.drawing c.args.kept c.take-message.result (whole c) (found c))
