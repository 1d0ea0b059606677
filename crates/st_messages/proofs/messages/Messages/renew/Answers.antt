use Rattle.std.proofs.Common.{◌≡◌, ◌+◌, ◌∙◌, List, [], ◌∷◌, ◌++◌, add-one, ap, Some, sym, subst}
use Rattle.std.specs.Option.{option_map}
use Rattle.st_messages.specs.Circle.{AreFreeAhead}
use Rattle.st_messages.specs.Messages.{seqs_in, seqs_in_use, HeldCalls, calls_after_cancel, calls_after_post_as, calls_after_renew, calls_after_renew_of, next_seq, kept_of_message, message_of_drawing, thread_of_drawing, waiting_message, AreValidCalls, RenewsSeq, RenewsState, ChangesKept}
use Rattle.st_messages.specs.declared.message.Message.{Message}
use Rattle.st_messages.proofs.Ahead.{ahead_renewed, AreAhead}
use Rattle.st_messages.proofs.Whole.{next_free, next_none, seqs_renewed, states_renewed, thread_renewed, whole-renewed, kept_renewed}
use Rattle.st_messages.proofs.messages.Messages.renew.Goals as goal

whole : (c : goal.After-push_back_reserved) → AreValidCalls c.args.self.now
whole c = subst AreValidCalls c.self.view_is c.self.invariant.0

found : (c : goal.After-push_back_reserved) → message_of_drawing c.args.self.now c.args.drawing ≡ Some c.take-message.result
found c = sym (ap (λ (calls : HeldCalls). message_of_drawing calls c.args.drawing) c.self.view_is) ∙ c.take-message.ensures.message

left : (c : goal.After-push_back_reserved) → record { workers = c.self.inside.workers; next = c.self.inside.next + 1; greatest = 65535; last = c.draw-drawn.result.seq; live = c.push_back_reserved.new.self.items; kept = c.add_if.new.self } ≡ calls_after_renew c.args.self.now c.args.drawing c.args.kept
left c =
    let inside : HeldCalls = record { workers = c.self.inside.workers; next = c.self.inside.next; greatest = 65535; last = c.self.inside.last; live = c.self.inside.live.items; kept = c.self.inside.kept } in
    let seq = c.draw-drawn.result.seq in
    let live = c.push_back_reserved.ensures.items ∙ ap (λ (live : List Message). live ++ waiting_message inside.next seq c.take-message.result.tid ∷ []) c.take-message.ensures.others in
    (λ i. record inside { next = add-one inside.next i; last = seq; live = live i; kept = c.add_if.ensures i })
    ∙ sym (ap (λ o. calls_after_post_as (record (calls_after_cancel inside c.args.drawing c.args.kept) { kept = inside.kept ++ kept_of_message c.args.kept o }) c.take-message.result.tid seq) c.take-message.ensures.message)
    ∙ ap (calls_after_post_as (calls_after_cancel inside c.args.drawing c.args.kept) c.take-message.result.tid) c.draw-drawn.ensures.seq
    ∙ sym (ap (calls_after_renew_of inside c.args.drawing c.args.kept) c.take-message.ensures.message)
    ∙ ap (λ (calls : HeldCalls). calls_after_renew calls c.args.drawing c.args.kept) c.self.view_is

-- what is free ahead of the number that was drawn
ahead : (c : goal.After-push_back_reserved) → AreFreeAhead c.args.self.now.greatest (seqs_in_use c.args.self.now) (next_seq c.args.self.now) c.draw-drawn.result.ahead
ahead c =
    subst (λ (calls : HeldCalls). AreFreeAhead calls.greatest (seqs_in_use calls) (next_seq calls) c.draw-drawn.result.ahead) c.self.view_is (
    subst (λ seq. AreFreeAhead 65535 (seqs_in c.self.inside.live.items c.self.inside.kept) seq c.draw-drawn.result.ahead) c.draw-drawn.ensures.seq c.draw-drawn.ensures.ahead
    )

pub invariant_of-self : goal.invariant_of-self
invariant_of-self c =
    let now = c.args.self.now in
    let after = whole-renewed now c.args.drawing c.args.kept (whole c) c.requires.few c.take-message.result (found c) in (
      subst AreValidCalls (sym (left c)) after,
      subst (AreAhead c.draw-drawn.result.ahead) (sym (left c)) (ahead_renewed now c.draw-drawn.result.ahead c.args.drawing c.args.kept c.take-message.result (whole c) after (found c) (next_free now (whole c) c.requires.few).0.1 (ahead c)),
    )

pub returns-clause-thread : goal.returns-clause-thread
returns-clause-thread c =
    ap (λ (calls : HeldCalls). thread_of_drawing calls c.self.inside.next) (left c)
    ∙ ap (λ (calls : HeldCalls). thread_of_drawing (calls_after_renew c.args.self.now c.args.drawing c.args.kept) calls.next) c.self.view_is
    ∙ thread_renewed c.args.self.now c.args.drawing c.args.kept (whole c) c.requires.few c.take-message.result (found c)

pub returns-clause-fresh : goal.returns-clause-fresh
returns-clause-fresh c = ap (option_map (λ (message : Message). message.state)) (next_none c.args.self.now (whole c))

pub returns-clause-states : goal.returns-clause-states
returns-clause-states c =
    subst (RenewsState c.args.self.now c.args.drawing c.args.self.now.next) (sym (left c)) (states_renewed c.args.self.now c.args.drawing c.args.kept (whole c) c.requires.few c.take-message.result (found c))

pub returns-clause-seqs : goal.returns-clause-seqs
returns-clause-seqs c = subst (RenewsSeq c.args.self.now c.args.drawing c.args.kept) (sym (left c)) (seqs_renewed c.args.self.now c.args.drawing c.args.kept (whole c) c.requires.few c.take-message.result (found c))

pub returns-clause-kept : goal.returns-clause-kept
returns-clause-kept c =
    subst (ChangesKept c.args.self.now c.args.drawing c.args.kept) (sym (left c)) (kept_renewed c.args.self.now c.args.drawing c.args.kept (whole c) c.requires.few c.take-message.result (found c))
