use Rattle.std.proofs.Common.{◌≡◌, ap, refl}
use Rattle.std.proofs.lemmas.Result.{IfOk-weaker}
use Rattle.st_calls.specs.declared.judged.Snapshot.{Snapshot}
use Rattle.st_effects.specs.Progress.{Ready}
use Rattle.st_lookaside.specs.Slot.{sealed_slot, slot_progress, snapshot_with, HasAllArguments}
use Rattle.st_lookaside.specs.declared.head.Head.{Head}
use Rattle.st_lookaside.proofs.Numbers.{asked_of, is_there, is_used, kept_set, known_changed, known_of, same_slots}
use Rattle.st_lookaside.proofs.Turns.{on_err, on_ok}
use Rattle.st_lookaside.proofs.slots.Slots.seal.Goals as goal

pub key_of-requires : goal.key_of-requires
key_of-requires c = record { ascending = c.self.invariant.ascending; some = is_there c.self.inside.slab c.self.inside.keys.items c.args.self.now c.self.invariant c.self.view_is c.args.drawing c.requires.slot }

pub index_mut-slot-requires : goal.index_mut-slot-requires
index_mut-slot-requires c = is_used c.self.inside.slab c.self.inside.keys.items c.args.self.now c.self.invariant c.self.view_is c.args.drawing c.key_of.result c.key_of.ensures

pub seal-requires : goal.seal-requires
seal-requires c = asked_of c.self.inside.slab c.self.inside.keys.items c.args.self.now c.self.invariant c.self.view_is c.args.drawing c.key_of.result c.key_of.ensures c.index_mut-slot.result.now c.index_mut-slot.ensures.value (λ s. HasAllArguments (slot_progress s)) c.requires.ready

pub invariant_of-self : goal.invariant_of-self
invariant_of-self c = kept_set c.self.inside.slab c.self.inside.keys.items c.args.self.now c.self.invariant c.self.view_is c.args.drawing c.key_of.result c.key_of.ensures c.index_mut-slot.result.now c.index_mut-slot.ensures.value c.seal.new.self (ap (λ (h : Head). h.drawing) c.seal.ensures.same)

pub returns-clause-args : goal.returns-clause-args
returns-clause-args c = IfOk-weaker c.seal.result _ _ (λ (copies : Snapshot). known_of c.self.inside.slab c.self.inside.keys.items c.args.self.now c.self.invariant c.self.view_is c.args.drawing c.key_of.result c.key_of.ensures c.index_mut-slot.result.now c.index_mut-slot.ensures.value (λ s. slot_progress s ≡ Ready copies.parts)) c.seal.ensures.args

pub returns-clause-head : goal.returns-clause-head
returns-clause-head c = IfOk-weaker c.seal.result _ _ (λ (copies : Snapshot). known_of c.self.inside.slab c.self.inside.keys.items c.args.self.now c.self.invariant c.self.view_is c.args.drawing c.key_of.result c.key_of.ensures c.index_mut-slot.result.now c.index_mut-slot.ensures.value (λ s. copies ≡ snapshot_with s.head copies.parts)) c.seal.ensures.head

pub returns-clause-ok : goal.returns-clause-ok
returns-clause-ok c = on_ok c.seal.result _ _ (λ is. known_changed c.self.inside.slab c.self.inside.keys.items c.args.self.now c.self.invariant c.self.view_is c.args.drawing c.key_of.result c.key_of.ensures c.index_mut-slot.result.now c.index_mut-slot.ensures.value sealed_slot c.seal.new.self is refl) c.seal.ensures.ok

pub returns-clause-err : goal.returns-clause-err
returns-clause-err c = on_err c.seal.result _ _ (λ is. same_slots c.self.inside.slab c.self.inside.keys.items c.args.self.now c.self.invariant c.self.view_is c.args.drawing c.key_of.result c.key_of.ensures c.index_mut-slot.result.now c.index_mut-slot.ensures.value c.seal.new.self is) c.seal.ensures.err
