-- A worker's copies and looks, by the tasks that ask for them.
use Rattle.std.proofs.Common.{◌≡◌, ◌-◌, ◌∙◌, ℕ, get_or, set, Some, IfSome, OnErr, OnOk, Result, Ok, Err, ap, sym, subst}
use Rattle.std.proofs.lemmas.List.{set-get_or}
use Rattle.std.proofs.lemmas.Option.{same_Some}
use Rattle.st_lookaside.specs.Slot.{after_look, after_word, Slot}
use Rattle.st_lookaside.specs.Slots.{slot_at, ChangesSlot}
use Rattle.st_names.specs.Name.{Components}
use Rattle.st_names.specs.declared.seen.SeenText.{SeenText}
use Rattle.st_trace.specs.declared.entry.Entry.TheVariants as entry
use Rattle.st_workers.specs.Filling.{sealed_if_ready, IsTurnFor}
use Rattle.st_workers.specs.Numbers.{AreNumbered}
use Rattle.st_workers.specs.Refinement.{RepresentsAfterEntry, AreValidWorkers}
use Rattle.st_workers.specs.Tasks.{task_of, IsCopy, IsLook}
use Rattle.st_workers.specs.UnderWay.{turn_of_worker, UnderWay}
use Rattle.st_workers.specs.declared.task.Task.TheVariants as task
use Rattle.st_workers.specs.declared.turn.Turn.{Turn}
use Rattle.st_workers.specs.declared.turn.Turn.TheVariants.{Working}
use Rattle.st_workers.proofs.Filled.{known}
use Rattle.st_workers.proofs.Served.{fills_look, fills_word, served_kept, served_numbered, served_whole, Fills}
use Rattle.st_workers.proofs.Tasks.{copy_is, look_asked, look_is, word_asked, working_slot}
use Rattle.st_workers.proofs.Turns.{item_here, number_within, read_is}

-- what holds both of a success and of an error holds of any result
pub either_way : {A E : Type 0} (r : Result A E) (P Q R : Type 0) → (P → R) → (Q → R) → OnOk r P → OnErr r Q → R
either_way (Ok x) P Q R taken not_taken ok err = taken ok
either_way (Err e) P Q R taken not_taken ok err = not_taken err

pub both_err : {A E : Type 0} (r : Result A E) (P Q : Type 0) → OnErr r P → OnErr r Q → OnErr r (P × Q)
both_err (Ok x) P Q p q = p
both_err (Err e) P Q p q = (p, q)

-- a worker whose turn is stored as it was read is unchanged
pub put_again : (old new : UnderWay) (w : ℕ) (was read t : Turn) → turn_of_worker old w ≡ Some was → read ≡ get_or old.turns (w - 1) read → t ≡ read → new.turns ≡ set old.turns (w - 1) t → new.turns ≡ old.turns
put_again old new w was read t at here same put =
    let within = number_within old.turns w was at in
    let its : get_or old.turns (w - 1) t ≡ was = same_Some (get_or old.turns (w - 1) t) was (sym (item_here old.turns w t within.0 within.1) ∙ at) in
    put ∙ ap (set old.turns (w - 1)) (same ∙ read_is old.turns w was read at here ∙ sym its) ∙ set-get_or old.turns (w - 1) t

module _ (old new : UnderWay) (w drawing : ℕ) (t : Turn) (working : turn_of_worker old w ≡ Some (Working drawing)) (whole : AreValidWorkers old) (calls : new.calls ≡ old.calls) (put : new.turns ≡ set old.turns (w - 1) t) where
  slot : (slot : Slot) × (slot_at old.slots drawing ≡ Some slot)
  slot = working_slot old whole w drawing working

  module _ (word : ℕ) (slots : IfSome (slot_at old.slots drawing) (λ slot. ChangesSlot old.slots drawing (Some (sealed_if_ready (after_word slot word))) new.slots))
      (turn : IfSome (slot_at old.slots drawing) (λ slot. IsTurnFor drawing (after_word slot word) t)) where
    slots_word : ChangesSlot old.slots drawing (Some (sealed_if_ready (after_word slot.0 word))) new.slots
    slots_word = known (slot_at old.slots drawing) (λ s. ChangesSlot old.slots drawing (Some (sealed_if_ready (after_word s word))) new.slots) slot.0 slot.1 slots

    turn_word : IsTurnFor drawing (after_word slot.0 word) t
    turn_word = known (slot_at old.slots drawing) (λ s. IsTurnFor drawing (after_word s word) t) slot.0 slot.1 turn

    pub copied_whole : IsCopy (task_of old w) → AreNumbered old → AreValidWorkers new × AreNumbered new
    copied_whole is numbered =
        let asked = word_asked old w drawing slot.0 working slot.1 is in
        let fills : Fills (entry.Copied drawing asked.0 asked.1 word) drawing slot.0 (after_word slot.0 word) = fills_word drawing asked.0 asked.1 word slot.0 asked.2 in (
          served_whole (entry.Copied drawing asked.0 asked.1 word) old new w drawing slot.0 (after_word slot.0 word) t working slot.1 calls slots_word put turn_word fills whole,
          served_numbered (entry.Copied drawing asked.0 asked.1 word) old new w drawing slot.0 (after_word slot.0 word) t working slot.1 calls slots_word put turn_word fills whole.messages whole.turns whole.alive whole.posted whole.agrees numbered,
        )

    pub copied_follows : (q pid part place : ℕ) → task_of old w ≡ task.Copy q pid part place → RepresentsAfterEntry old (entry.Copied q part place word) new
    copied_follows q pid part place e =
        let asked = copy_is old w drawing slot.0 working slot.1 q pid part place e in
        let follows : RepresentsAfterEntry old (entry.Copied drawing part place word) new = λ i st alive is.
        served_kept (entry.Copied drawing part place word) old new w drawing slot.0 (after_word slot.0 word) t working slot.1 calls slots_word put turn_word (fills_word drawing part place word slot.0 asked.1) i st.messages st.turns alive st.posted is in
        subst (λ (n : ℕ). RepresentsAfterEntry old (entry.Copied n part place word) new) asked.0 follows

  module _ (seen : SeenText) (slots : IfSome (slot_at old.slots drawing) (λ slot. ChangesSlot old.slots drawing (Some (sealed_if_ready (after_look slot seen))) new.slots))
      (turn : IfSome (slot_at old.slots drawing) (λ slot. IsTurnFor drawing (after_look slot seen) t)) where
    slots_look : ChangesSlot old.slots drawing (Some (sealed_if_ready (after_look slot.0 seen))) new.slots
    slots_look = known (slot_at old.slots drawing) (λ s. ChangesSlot old.slots drawing (Some (sealed_if_ready (after_look s seen))) new.slots) slot.0 slot.1 slots

    turn_look : IsTurnFor drawing (after_look slot.0 seen) t
    turn_look = known (slot_at old.slots drawing) (λ s. IsTurnFor drawing (after_look s seen) t) slot.0 slot.1 turn

    pub looked_whole : IsLook (task_of old w) → AreNumbered old → AreValidWorkers new × AreNumbered new
    looked_whole is numbered =
        let asked = look_asked old w drawing slot.0 working slot.1 is in
        let fills : Fills (entry.Looked drawing asked.0 asked.1 seen) drawing slot.0 (after_look slot.0 seen) = fills_look drawing asked.0 asked.1 asked.1 seen slot.0 asked.2 in (
          served_whole (entry.Looked drawing asked.0 asked.1 seen) old new w drawing slot.0 (after_look slot.0 seen) t working slot.1 calls slots_look put turn_look fills whole,
          served_numbered (entry.Looked drawing asked.0 asked.1 seen) old new w drawing slot.0 (after_look slot.0 seen) t working slot.1 calls slots_look put turn_look fills whole.messages whole.turns whole.alive whole.posted whole.agrees numbered,
        )

    pub looked_follows : (q part : ℕ) (name : Components) → task_of old w ≡ task.Look q part → RepresentsAfterEntry old (entry.Looked q part name seen) new
    looked_follows q part name e =
        let asked = look_is old w drawing slot.0 working slot.1 q part e in
        let follows : RepresentsAfterEntry old (entry.Looked drawing part name seen) new = λ i st alive is.
        served_kept (entry.Looked drawing part name seen) old new w drawing slot.0 (after_look slot.0 seen) t working slot.1 calls slots_look put turn_look (fills_look drawing part asked.1 name seen slot.0 asked.2) i st.messages st.turns alive st.posted is in
        subst (λ (n : ℕ). RepresentsAfterEntry old (entry.Looked n part name seen) new) asked.0 follows
