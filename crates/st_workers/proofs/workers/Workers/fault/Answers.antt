use Rattle.std.proofs.Common.{◌≡◌, ◌-◌, ◌∙◌, ℕ, arith, set, Some, ap, refl, sym, subst}
use Rattle.st_base.specs.declared.errno.Errno.{Errno}
use Rattle.st_effects.specs.Progress.{Progress, Stuck}
use Rattle.st_lookaside.specs.Slot.{next_need, slot_progress}
use Rattle.st_lookaside.specs.Slots.{slot_at}
use Rattle.st_lookaside.specs.declared.slot.Next.TheVariants as next
use Rattle.st_messages.specs.Messages.{is_claimed_state, message_state}
use Rattle.st_messages.specs.declared.message.MsgState.TheVariants.{Claimed, Faulted}
use Rattle.st_trace.specs.declared.entry.Entry.TheVariants as entry
use Rattle.st_workers.specs.Refinement.{RepresentsAfterEntry, RepresentsMessages}
use Rattle.st_workers.specs.Tasks.{task_of}
use Rattle.st_workers.specs.UnderWay.{turn_of_worker, UnderWay}
use Rattle.st_workers.specs.declared.turn.Turn.TheVariants.{Idle, Working}
use Rattle.st_workers.proofs.Ended.{fault_follows, fault_whole, working_claimed, fault_numbered}
use Rattle.st_workers.proofs.Filled.{known}
use Rattle.st_workers.proofs.Tasks.{fault_is, working_slot}
use Rattle.st_workers.proofs.Turns.{number_within}
use Rattle.st_workers.specs.Numbers.{CarriesNumbers}
use Rattle.st_workers.proofs.Carried.{numbers_moved}
use Rattle.st_workers.proofs.workers.Workers.fault.Goals as goal

pub overflow_sub-worker : goal.overflow_sub-worker
overflow_sub-worker c = (number_within c.self.inside.turns.items c.args.worker (Working c.drawing_at-drawing.result) (ap (λ (k : UnderWay). turn_of_worker k c.args.worker) c.self.view_is ∙ c.drawing_at-drawing.ensures)).0

pub index_mut-requires : goal.index_mut-requires
index_mut-requires c =
    let within = number_within c.self.inside.turns.items c.args.worker (Working c.drawing_at-drawing.result) (ap (λ (k : UnderWay). turn_of_worker k c.args.worker) c.self.view_is ∙ c.drawing_at-drawing.ensures) in
    let from = within.0 in
    let to = within.1 in
    omega (arith, from, to)

pub fault-requires : goal.fault-requires
fault-requires c =
    let kept : UnderWay = record { calls = c.self.inside.messages; slots = c.self.inside.slots; turns = c.self.inside.turns.items } in
    ap is_claimed_state (working_claimed kept c.self.invariant.0 c.args.worker c.drawing_at-drawing.result (ap (λ (k : UnderWay). turn_of_worker k c.args.worker) c.self.view_is ∙ c.drawing_at-drawing.ensures)).1

abbrev old : goal.After-fault → UnderWay
old c = record { calls = c.self.inside.messages; slots = c.self.inside.slots; turns = c.self.inside.turns.items }

abbrev new : goal.After-fault → UnderWay
new c = record { calls = c.fault.new.self; slots = c.self.inside.slots; turns = set c.self.inside.turns.items (c.args.worker - 1) c.put_turn.new.place }

put : (c : goal.After-fault) → (new c).turns ≡ set (old c).turns (c.args.worker - 1) Idle
put c = ap (set (old c).turns (c.args.worker - 1)) c.put_turn.ensures

working : (c : goal.After-fault) → turn_of_worker (old c) c.args.worker ≡ Some (Working c.drawing_at-drawing.result)
working c = ap (λ (k : UnderWay). turn_of_worker k c.args.worker) c.self.view_is ∙ c.drawing_at-drawing.ensures

claimed : (c : goal.After-fault) → (v : ℕ) × (message_state (old c).calls c.drawing_at-drawing.result ≡ Some (Claimed v))
claimed c = working_claimed (old c) c.self.invariant.0 c.args.worker c.drawing_at-drawing.result (working c)

pub invariant_of-self : goal.invariant_of-self
invariant_of-self c = (
  fault_whole (old c) (new c) c.args.worker c.drawing_at-drawing.result c.in-Fault.errno (working c) (claimed c) c.fault.ensures.calls refl (put c) c.self.invariant.0,
  fault_numbered (old c) (new c) c.args.worker c.drawing_at-drawing.result c.in-Fault.errno (working c) (claimed c) c.fault.ensures.calls refl (put c) c.self.invariant.1,
)

pub returns-clause-numbers : goal.returns-clause-numbers
returns-clause-numbers c =
    subst (λ (k : UnderWay). CarriesNumbers (λ numbers. numbers) k.calls (new c).calls) c.self.view_is
    (subst (CarriesNumbers (λ numbers. numbers) (old c).calls) (sym c.fault.ensures.calls) (numbers_moved (old c).calls c.self.invariant.1.calls c.drawing_at-drawing.result (Faulted c.in-Fault.errno)))

known_errno : (p : Progress) (a b : Errno) → next.Fault a ≡ next_need p → p ≡ Stuck b → a ≡ b
known_errno p a b e is = same a b (e ∙ ap next_need is) where
  same : (a b : Errno) → next.Fault a ≡ next.Fault b → a ≡ b
  same a b e = cc

pub returns-clause-kept : goal.returns-clause-kept
returns-clause-kept c = λ drawing errno asked i st alive kept.
    let slot = working_slot (old c) c.self.invariant.0 c.args.worker c.drawing_at-drawing.result (working c) in
    let is = fault_is (old c) c.args.worker c.drawing_at-drawing.result slot.0 (working c) slot.1 drawing errno (ap (λ (k : UnderWay). task_of k c.args.worker) c.self.view_is ∙ asked) in
    let same : c.in-Fault.errno ≡ errno = known_errno (slot_progress slot.0) c.in-Fault.errno errno
    (sym c.in-Fault.is ∙ known (slot_at (old c).slots c.drawing_at-drawing.result) (λ s. c.next.result ≡ next_need (slot_progress s)) slot.0 slot.1 c.next.ensures.value) is.1 in
    let follows : RepresentsAfterEntry (old c) (entry.Faulted c.drawing_at-drawing.result c.in-Fault.errno) (new c) =
    fault_follows (old c) (new c) c.args.worker c.drawing_at-drawing.result c.in-Fault.errno (working c) (claimed c) c.fault.ensures.calls refl (put c) in
    subst (λ (e : Errno). RepresentsAfterEntry (old c) (entry.Faulted drawing e) (new c)) same (subst (λ (n : ℕ). RepresentsAfterEntry (old c) (entry.Faulted n c.in-Fault.errno) (new c)) is.0 follows) i st alive
    (subst (λ (k : UnderWay). RepresentsMessages i st alive k) (sym c.self.view_is) kept)
