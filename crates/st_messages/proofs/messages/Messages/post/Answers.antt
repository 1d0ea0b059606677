use Rattle.std.proofs.Common.{◌≡◌, ◌+◌, ◌∙◌, add-one, ap, refl, Some, sym, subst}
use Rattle.std.proofs.lemmas.Bool.{eq-eqb}
use Rattle.std.specs.Option.{option_map}
use Rattle.st_messages.specs.Circle.{AreFreeAhead}
use Rattle.st_messages.specs.Messages.{seqs_in_use, seqs_in, HeldCalls, calls_after_post, calls_after_post_as, next_seq, thread_of_drawing, AreValidCalls, ChangesSeq, ChangesState}
use Rattle.st_messages.specs.declared.message.Message.{Message}
use Rattle.st_messages.specs.declared.message.MsgState.TheVariants.{Waiting}
use Rattle.st_messages.proofs.Ahead.{ahead_posted, AreAhead}
use Rattle.st_messages.proofs.Seqs.{seqs_posted}
use Rattle.st_messages.proofs.Whole.{next_free, next_is_nobodys, next_none, states_posted, threads_posted, whole-posted}
use Rattle.st_messages.proofs.messages.Messages.post.Goals as goal

whole : (c : goal.After-self-3-1) → AreValidCalls c.args.self.now
whole c = subst AreValidCalls c.self.view_is c.self.invariant.0

left : (c : goal.After-self-3-1) → record { workers = c.self.inside.workers; next = c.self.inside.next + 1; greatest = 65535; last = c.draw-drawn.result.seq; live = c.push_back.new.self.items; kept = c.self.inside.kept } ≡ calls_after_post c.args.self.now c.args.tid
left c =
    let inside : HeldCalls = record { workers = c.self.inside.workers; next = c.self.inside.next; greatest = 65535; last = c.self.inside.last; live = c.self.inside.live.items; kept = c.self.inside.kept } in
    (λ i. record inside { next = add-one c.self.inside.next i; last = c.draw-drawn.result.seq; live = c.in_ok-push_back.ensures.items i })
    ∙ ap (calls_after_post_as inside c.args.tid) c.draw-drawn.ensures.seq
    ∙ ap (λ (calls : HeldCalls). calls_after_post calls c.args.tid) c.self.view_is

pub returns-in_err-push_back-clause-fresh : goal.returns-in_err-push_back-clause-fresh
returns-in_err-push_back-clause-fresh c = ap (option_map (λ (message : Message). message.state)) (next_none c.args.self.now (subst AreValidCalls c.self.view_is c.self.invariant.0))

-- what is free ahead of the number that was drawn
ahead : (c : goal.After-self-3-1) → AreFreeAhead c.args.self.now.greatest (seqs_in_use c.args.self.now) (next_seq c.args.self.now) c.draw-drawn.result.ahead
ahead c =
    subst (λ (calls : HeldCalls). AreFreeAhead calls.greatest (seqs_in_use calls) (next_seq calls) c.draw-drawn.result.ahead) c.self.view_is (
    subst (λ seq. AreFreeAhead 65535 (seqs_in c.self.inside.live.items c.self.inside.kept) seq c.draw-drawn.result.ahead) c.draw-drawn.ensures.seq c.draw-drawn.ensures.ahead
    )

pub invariant_of-self-2 : goal.invariant_of-self-2
invariant_of-self-2 c =
    let now = c.args.self.now in
    let next = next_free now (whole c) c.requires.few in
    let after = whole-posted now c.args.tid (next_seq now) (whole c) c.requires.thread next.0 (next_is_nobodys now (whole c) c.requires.few) c.requires.few in (
      subst AreValidCalls (sym (left c)) after,
      subst (AreAhead c.draw-drawn.result.ahead) (sym (left c)) (ahead_posted now c.draw-drawn.result.ahead c.args.tid (next_seq now) (whole c) after next.0.1 (ahead c)),
    )

pub returns-clause-fresh : goal.returns-clause-fresh
returns-clause-fresh c = ap (option_map (λ (message : Message). message.state)) (next_none c.args.self.now (whole c))

pub returns-clause-states : goal.returns-clause-states
returns-clause-states c = subst (ChangesState c.args.self.now c.args.self.now.next (Some Waiting)) (sym (left c)) (states_posted c.args.self.now c.args.tid (next_seq c.args.self.now) (whole c))

pub returns-clause-seqs : goal.returns-clause-seqs
returns-clause-seqs c = subst (ChangesSeq c.args.self.now c.args.self.now.next (Some (next_seq c.args.self.now))) (sym (left c)) (seqs_posted c.args.self.now c.args.tid (next_seq c.args.self.now) (whole c))

pub returns-clause-thread : goal.returns-clause-thread
returns-clause-thread c =
    let now = c.args.self.now in
    ap (λ (calls : HeldCalls). thread_of_drawing calls now.next) (left c) ∙ threads_posted now c.args.tid (next_seq now) (whole c) now.next ∙ rw (eq-eqb now.next now.next refl) refl
