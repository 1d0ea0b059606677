use Rattle.std.proofs.Common.{◌≡◌, ◌≤◌, ◌∙◌, ◌-◌, ℕ, List, set, length, Option, None, Some, ap, arith, refl, sym, subst}
use Rattle.std.specs.Prelude.{is_some, Err, IsSome, Ok, OnErr, Result}
use Rattle.st_lookaside.specs.Slot.{Slot}
use Rattle.st_lookaside.specs.Slots.{slot_at, ChangesSlot}
use Rattle.st_messages.specs.Messages.{first_waiting, seq_of, with_state, HeldCalls, HasWorker}
use Rattle.st_messages.proofs.Seqs.{seqs_moved}
use Rattle.st_messages.specs.declared.message.MsgState.TheVariants.{Waiting, Claimed}
use Rattle.st_law.specs.State.{is_live}
use Rattle.st_trace.specs.declared.entry.Entry.TheVariants as entry
use Rattle.st_workers.specs.Filling.{sealed_if_ready, IsTurnFor}
use Rattle.st_workers.specs.Refinement.{RepresentsAfterEntry, RepresentsMessages, AreValidWorkers}
use Rattle.st_workers.specs.Tasks.{task_of}
use Rattle.st_workers.specs.UnderWay.{turn_of_worker, UnderWay}
use Rattle.st_workers.specs.declared.task.Task.TheVariants.{Claim}
use Rattle.st_workers.specs.declared.turn.Turn.TheVariants.{Idle}
use Rattle.st_workers.proofs.Claims.{claimed_follows, claimed_live, claimed_whole, claimed_numbered}
use Rattle.st_workers.proofs.Filled.{known}
use Rattle.st_workers.proofs.Tasks.{claim_entry, claims_idle, state_slot, worker_there}
use Rattle.st_workers.proofs.Turns.{number_within}
use Rattle.st_workers.specs.Numbers.{AreNumbered, CarriesNumbers, HasNumbers}
use Rattle.st_workers.specs.declared.turn.Turn.{Turn}
use Rattle.st_workers.proofs.Carried.{numbers_moved}
use Rattle.st_workers.proofs.workers.Workers.claim.Goals as goal

-- a number is waiting
some_there : (o : Option ℕ) → IsSome o → (drawing : ℕ) × (o ≡ Some drawing)
some_there None x = cc
some_there (Some drawing) x = (drawing, refl)

pub unreachable-requires : goal.unreachable-requires
unreachable-requires c =
    let kept : UnderWay = record { calls = c.self.inside.messages; slots = c.self.inside.slots; turns = c.self.inside.turns.items } in
    let waits = some_there (first_waiting kept.calls) (claims_idle kept (turn_of_worker kept c.args.worker) (ap (λ (k : UnderWay). task_of k c.args.worker) c.self.view_is ∙ c.requires)).1 in
    c.in_default.not-Some waits.0 (c.least_waiting.ensures.first ∙ waits.1)

pub turn_for-requires : goal.turn_for-requires
turn_for-requires c =
    let kept : UnderWay = record { calls = c.self.inside.messages; slots = c.self.inside.slots; turns = c.self.inside.turns.items } in
    ap is_some (state_slot kept c.self.invariant.0 c.in-Some.drawing Waiting c.in-Some.ensures.least.waiting).1

-- the number of the worker is in range
module _ (kept then : UnderWay) (same : kept ≡ then) (whole : AreValidWorkers kept) (worker : ℕ) (claims : task_of then worker ≡ Claim) where
  number : (1 ≤ worker) × (worker ≤ length kept.turns)
  number = number_within kept.turns worker Idle (claims_idle kept (turn_of_worker kept worker) (ap (λ (k : UnderWay). task_of k worker) same ∙ claims)).0

  one_of_them : HasWorker kept.calls worker
  one_of_them = (number.0, subst (λ (n : ℕ). worker ≤ n) whole.count number.1)

pub overflow_sub-worker : goal.overflow_sub-worker
overflow_sub-worker c = (number (record { calls = c.self.inside.messages; slots = c.self.inside.slots; turns = c.self.inside.turns.items }) c.args.self.now c.self.view_is c.self.invariant.0 c.args.worker c.requires).0

pub index_mut-requires : goal.index_mut-requires
index_mut-requires c =
    let within = number (record { calls = c.self.inside.messages; slots = c.self.inside.slots; turns = c.self.inside.turns.items }) c.args.self.now c.self.view_is c.self.invariant.0 c.args.worker c.requires in
    let from = within.0 in
    let to = within.1 in
    omega (arith, from, to)

pub claim-requires : goal.claim-requires
claim-requires c = one_of_them (record { calls = c.self.inside.messages; slots = c.self.inside.slots; turns = c.self.inside.turns.items }) c.args.self.now c.self.view_is c.self.invariant.0 c.args.worker c.requires

abbrev old : goal.After-claim → UnderWay
old c = record { calls = c.self.inside.messages; slots = c.self.inside.slots; turns = c.self.inside.turns.items }

abbrev new : goal.After-claim → UnderWay
new c = record { calls = c.claim.new.self; slots = c.turn_for.new.slots; turns = set c.self.inside.turns.items (c.args.worker - 1) c.put_turn.new.place }

put : (c : goal.After-claim) → (new c).turns ≡ set (old c).turns (c.args.worker - 1) c.in_ok-turn.turn
put c = ap (set (old c).turns (c.args.worker - 1)) c.put_turn.ensures

idle : (c : goal.After-claim) → turn_of_worker (old c) c.args.worker ≡ Some Idle
idle c = (claims_idle (old c) (turn_of_worker (old c) c.args.worker) (ap (λ (k : UnderWay). task_of k c.args.worker) c.self.view_is ∙ c.requires)).0

its_worker : (c : goal.After-claim) → HasWorker (old c).calls c.args.worker
its_worker c = one_of_them (old c) c.args.self.now c.self.view_is c.self.invariant.0 c.args.worker c.requires

slot : (c : goal.After-claim) → (slot : Slot) × (slot_at (old c).slots c.in-Some.drawing ≡ Some slot)
slot c = state_slot (old c) c.self.invariant.0 c.in-Some.drawing Waiting c.in-Some.ensures.least.waiting

calls : (c : goal.After-claim) → (new c).calls ≡ with_state (old c).calls c.in-Some.drawing (Claimed c.args.worker)
calls c = known c.claim.result (λ drawing. c.claim.new.self ≡ with_state (old c).calls drawing (Claimed c.args.worker)) c.in-Some.drawing (c.claim.ensures.first ∙ sym c.in-Some.ensures.first) c.claim.ensures.ok

slots_now : (c : goal.After-claim) → ChangesSlot (old c).slots c.in-Some.drawing (Some (sealed_if_ready (slot c).0)) (new c).slots
slots_now c = known (slot_at (old c).slots c.in-Some.drawing) (λ s. ChangesSlot (old c).slots c.in-Some.drawing (Some (sealed_if_ready s)) (new c).slots) (slot c).0 (slot c).1 c.in_ok-turn.ensures.slot

turn : (c : goal.After-claim) → IsTurnFor c.in-Some.drawing (slot c).0 c.in_ok-turn.turn
turn c = known (slot_at (old c).slots c.in-Some.drawing) (λ s. IsTurnFor c.in-Some.drawing s c.in_ok-turn.turn) (slot c).0 (slot c).1 c.in_ok-turn.ensures.turn

pub returns-clause-calls : goal.returns-clause-calls
returns-clause-calls c = calls c ∙ ap (λ (k : UnderWay). with_state k.calls c.in-Some.drawing (Claimed c.args.worker)) c.self.view_is

pub returns-clause-live : goal.returns-clause-live
returns-clause-live c =
    claimed_live (old c) (new c) c.args.worker c.in-Some.drawing (slot c).0 c.in_ok-turn.turn (idle c) c.in-Some.ensures.least.waiting (slot c).1 (calls c) (slots_now c) (put c) (turn c) (its_worker c)

pub returns-clause-seqs : goal.returns-clause-seqs
returns-clause-seqs c q = ap (λ (k : HeldCalls). seq_of k q) (calls c) ∙ seqs_moved (old c).calls c.in-Some.drawing (Claimed c.args.worker) q ∙ ap (λ (k : UnderWay). seq_of k.calls q) c.self.view_is

pub returns-in_err-turn-clause-seqs : goal.returns-in_err-turn-clause-seqs
returns-in_err-turn-clause-seqs c q = ap (λ (k : UnderWay). seq_of k.calls q) c.self.view_is

pub returns-clause-workers : goal.returns-clause-workers
returns-clause-workers c = ap (λ (k : HeldCalls). k.workers) (calls c) ∙ ap (λ (k : UnderWay). k.calls.workers) c.self.view_is

-- out of memory
abbrev with_slots : HeldCalls → List Slot → List Turn → UnderWay
with_slots calls slots turns = record { calls = calls; slots = slots; turns = turns }

pub returns-in_err-turn-clause-numbers : goal.returns-in_err-turn-clause-numbers
returns-in_err-turn-clause-numbers c = λ numbers has. subst (λ (k : UnderWay). HasNumbers numbers k.calls) (sym c.self.view_is) has

pub invariant_of-self : goal.invariant_of-self
invariant_of-self c =
    subst (λ (slots : List Slot). AreValidWorkers (with_slots c.self.inside.messages slots c.self.inside.turns.items) × AreNumbered (with_slots c.self.inside.messages slots c.self.inside.turns.items)) (sym c.in_err-turn.ensures.err) c.self.invariant

pub returns-in_err-turn-clause-workers : goal.returns-in_err-turn-clause-workers
returns-in_err-turn-clause-workers c = ap (λ (k : UnderWay). k.calls.workers) c.self.view_is

-- a proposition that holds also holds on an error
on_err : {A E P : Type 0} (result : Result A E) → P → OnErr result P
on_err (Ok a) x = tt
on_err (Err e) x = x

pub returns-in_err-turn-clause-err : goal.returns-in_err-turn-clause-err
returns-in_err-turn-clause-err c =
    on_err c.from_residual.result (ap (λ (slots : List Slot). record { calls = c.self.inside.messages; slots = slots; turns = c.self.inside.turns.items }) c.in_err-turn.ensures.err ∙ c.self.view_is)

pub invariant_of-self-2 : goal.invariant_of-self-2
invariant_of-self-2 c = (
  claimed_whole (old c) (new c) c.args.worker c.in-Some.drawing (slot c).0 c.in_ok-turn.turn (idle c) c.in-Some.ensures.least.waiting (slot c).1 (calls c) (slots_now c) (put c) (turn c) (its_worker c) c.self.invariant.0,
  claimed_numbered (old c) (new c) c.args.worker c.in-Some.drawing (slot c).0 c.in_ok-turn.turn (idle c) c.in-Some.ensures.least.waiting (slot c).1 (calls c) (slots_now c) (put c) (turn c) (its_worker c) c.self.invariant.1,
)

pub returns-clause-numbers : goal.returns-clause-numbers
returns-clause-numbers c =
    subst (λ (k : UnderWay). CarriesNumbers (λ numbers. numbers) k.calls (new c).calls) c.self.view_is
    (subst (CarriesNumbers (λ numbers. numbers) (old c).calls) (sym (calls c)) (numbers_moved (old c).calls c.self.invariant.1.calls c.in-Some.drawing (Claimed c.args.worker)))

pub returns-clause-kept : goal.returns-clause-kept
returns-clause-kept c =
    let follows : RepresentsAfterEntry (old c) (entry.Claimed c.args.worker c.in-Some.drawing) (new c) =
    claimed_follows (old c) (new c) c.args.worker c.in-Some.drawing (slot c).0 c.in_ok-turn.turn (idle c) c.in-Some.ensures.least.waiting (slot c).1 (calls c) (slots_now c) (put c) (turn c) (its_worker c) in
    subst (λ (k : UnderWay). RepresentsAfterEntry k (entry.Claimed c.args.worker c.in-Some.drawing) (new c)) c.self.view_is follows

pub returns-clause-law : goal.returns-clause-law
returns-clause-law c = λ i st kept.
    let within : (1 ≤ c.args.worker) × (c.args.worker ≤ length (old c).turns) = number_within (old c).turns c.args.worker Idle (idle c) in
    let is = subst (λ (k : UnderWay). RepresentsMessages i st (is_live st) k) (sym c.self.view_is) kept in
    claim_entry i st (old c) c.args.worker is (worker_there i st (is_live st) (old c) c.args.worker within.0 (subst (λ (n : ℕ). c.args.worker ≤ n) c.self.invariant.0.count within.1) is) (idle c) c.in-Some.drawing c.in-Some.ensures.least
