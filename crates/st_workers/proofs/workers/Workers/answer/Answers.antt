use Rattle.std.proofs.Common.{◌≡◌, ◌↔◌, ◌-◌, ◌∙◌, set, Some, true, ap, refl, sym, subst}
use Rattle.st_calls.specs.declared.judged.Snapshot.{Snapshot}
use Rattle.st_filter.specs.Policies.{filters_in_force}
use Rattle.st_messages.specs.Messages.{is_live_drawing, seq_of}
use Rattle.st_messages.specs.declared.message.Delivered.TheVariants.{Applied}
use Rattle.st_workers.specs.Refinement.{drawn_copies, RepresentsMessages}
use Rattle.st_workers.specs.Tasks.{task_of}
use Rattle.st_workers.specs.UnderWay.{turn_of_worker, UnderWay}
use Rattle.st_workers.specs.declared.turn.Turn.{Turn}
use Rattle.st_workers.specs.declared.turn.Turn.TheVariants.{Idle, Ready}
use Rattle.st_workers.proofs.Answered.{answered_kept, answered_whole, applied_where, IsDelivered, answered_numbered, answered_numbers, claimed_or_kept}
use Rattle.st_workers.proofs.Copies.{same_verdict}
use Rattle.st_workers.proofs.Ended.{lives_as}
use Rattle.st_workers.proofs.Tasks.{answers_ready}
use Rattle.st_workers.proofs.Turns.{read_is}
use Rattle.st_workers.specs.Numbers.{CarriesNumbers}
use Rattle.st_law.specs.Numbers.{without_replaced}
use Rattle.st_workers.proofs.workers.Workers.answer.Goals as goal

pub unreachable-requires : goal.unreachable-requires
unreachable-requires c =
    let kept : UnderWay = record { calls = c.self.inside.messages; slots = c.self.inside.slots; turns = c.self.inside.turns.items } in
    let ready = answers_ready kept c.self.invariant.0 c.args.worker (ap (λ (k : UnderWay). task_of k c.args.worker) c.self.view_is ∙ c.requires) in
    c.in_default.not-Ready ready.0 ready.1 (c.replace-turn.ensures.value ∙ read_is kept.turns c.args.worker (Ready ready.0 ready.1) c.index_mut.result.now ready.2 c.index_mut.ensures.value)

pub deliver-delivered-requires : goal.deliver-delivered-requires
deliver-delivered-requires c =
    let kept : UnderWay = record { calls = c.self.inside.messages; slots = c.self.inside.slots; turns = c.self.inside.turns.items } in
    let ready = answers_ready kept c.self.invariant.0 c.args.worker (ap (λ (k : UnderWay). task_of k c.args.worker) c.self.view_is ∙ c.requires) in
    claimed_or_kept kept c.self.invariant.0 c.self.invariant.1 c.args.worker c.in-Ready.drawing c.in-Ready.copies (
    ready.2 ∙ ap Some (sym (sym c.in-Ready.is ∙ c.replace-turn.ensures.value ∙ read_is kept.turns c.args.worker (Ready ready.0 ready.1) c.index_mut.result.now ready.2 c.index_mut.ensures.value))
    )

abbrev old : goal.After-deliver-delivered → UnderWay
old c = record { calls = c.self.inside.messages; slots = c.self.inside.slots; turns = c.self.inside.turns.items }

abbrev new : goal.After-deliver-delivered → UnderWay
new c = record { calls = c.deliver-delivered.new.messages; slots = c.self.inside.slots; turns = set c.self.inside.turns.items (c.args.worker - 1) c.replace-turn.new.dest }

ready : (c : goal.After-deliver-delivered) → turn_of_worker (old c) c.args.worker ≡ Some (Ready c.in-Ready.drawing c.in-Ready.copies)
ready c =
    let ready = answers_ready (old c) c.self.invariant.0 c.args.worker (ap (λ (k : UnderWay). task_of k c.args.worker) c.self.view_is ∙ c.requires) in
    ready.2 ∙ ap Some (sym (sym c.in-Ready.is ∙ c.replace-turn.ensures.value ∙ read_is (old c).turns c.args.worker (Ready ready.0 ready.1) c.index_mut.result.now ready.2 c.index_mut.ensures.value))

-- the copies as the law's machine has them
abbrev drawn : goal.After-deliver-delivered → Snapshot
drawn c = drawn_copies c.in-Ready.drawing c.in-Ready.copies

put : (c : goal.After-deliver-delivered) → (new c).turns ≡ set (old c).turns (c.args.worker - 1) Idle
put c = ap (λ (t : Turn). set (old c).turns (c.args.worker - 1) t) c.replace-turn.ensures.after

delivered : (c : goal.After-deliver-delivered) → IsDelivered (old c).calls (new c).calls c.in-Ready.drawing c.args.verdict c.deliver-delivered.result
delivered c = record { applied = c.deliver-delivered.ensures.applied; ok = c.deliver-delivered.ensures.ok; stale = c.deliver-delivered.ensures.stale }

pub invariant_of-self : goal.invariant_of-self
invariant_of-self c = (
  answered_whole (old c) (new c) c.args.worker (drawn c) c.in-Ready.copies refl c.args.verdict c.deliver-delivered.result (ready c) (delivered c) refl (put c) c.self.invariant.0,
  answered_numbered (old c) (new c) c.args.worker (drawn c) c.in-Ready.copies refl c.args.verdict c.deliver-delivered.result (ready c) (delivered c) refl (put c) c.self.invariant.0 c.self.invariant.1,
)

pub returns-clause-numbers : goal.returns-clause-numbers
returns-clause-numbers c =
    subst (λ (k : UnderWay). CarriesNumbers (without_replaced (is_live_drawing k.calls) c.in-Ready.drawing) k.calls (new c).calls) c.self.view_is
    (answered_numbers (old c) (new c) c.args.worker (drawn c) c.in-Ready.copies refl c.args.verdict c.deliver-delivered.result (ready c) (delivered c) refl (put c) c.self.invariant.0 c.self.invariant.1)

pub returns-clause-copies : goal.returns-clause-copies
returns-clause-copies c = sym (ap (λ (k : UnderWay). turn_of_worker k c.args.worker) c.self.view_is) ∙ ready c

pub returns-clause-applied : goal.returns-clause-applied
returns-clause-applied c =
    subst (λ (k : UnderWay). (c.deliver-delivered.result ≡ Applied) ↔ (is_live_drawing k.calls c.in-Ready.drawing ≡ true)) c.self.view_is
    (applied_where (old c) (new c) c.args.worker (drawn c) c.in-Ready.copies refl c.args.verdict c.deliver-delivered.result (ready c) (delivered c) refl (put c) c.self.invariant.0)

pub returns-clause-kept : goal.returns-clause-kept
returns-clause-kept c = λ i st alive kept judged.
    answered_kept (old c) (new c) c.args.worker (drawn c) c.in-Ready.copies refl c.args.verdict c.deliver-delivered.result (ready c) (delivered c) refl (put c) i st alive
    (subst (λ (k : UnderWay). RepresentsMessages i st alive k) (sym c.self.view_is) kept)
    (judged ∙ sym (same_verdict c.in-Ready.drawing c.in-Ready.copies 1 (filters_in_force i.policies c.in-Ready.copies.policy c.in-Ready.copies.version c.in-Ready.copies.rule)))

pub returns-clause-lives : goal.returns-clause-lives
returns-clause-lives c = λ i st alive kept. lives_as i st alive c.args.self.now c.in-Ready.drawing kept

pub returns-clause-seq : goal.returns-clause-seq
returns-clause-seq c = sym (ap (λ (k : UnderWay). seq_of k.calls c.in-Ready.drawing) c.self.view_is) ∙ c.self.invariant.1.seqs.copies c.args.worker c.in-Ready.drawing c.in-Ready.copies (ready c)
