-- The slot of each message, and the copies of each ready worker, keep the number of their drawing.
use Rattle.std.proofs.Common.{◌≡◌, ◌≢◌, ◌-◌, ℕ, ◌==◌, not, Bool, true, false, cond, List, [], ◌∷◌, set, Option, Some, None, inl, inr, refl, ap, sym, ◌∙◌, arith}
use Rattle.std.proofs.lemmas.Bool.{cases_eq, eq-eqb, eqb-false, eqb-true, ne_eqb}
use Rattle.std.proofs.lemmas.Option.{none-some, same_Some}
use Rattle.std.specs.List.{filter}
use Rattle.std.specs.Option.{option_map, option_or}
use Rattle.std.specs.Prelude.{is_some}
use Rattle.st_base.specs.Numbered.{item_at_number}
use Rattle.st_calls.specs.declared.judged.Snapshot.{Snapshot}
use Rattle.st_lookaside.specs.Slot.{new_slot, Slot}
use Rattle.st_lookaside.specs.Slots.{is_slot_of, slot_at, ChangesSlot}
use Rattle.st_lookaside.specs.declared.head.Head.{Head}
use Rattle.st_messages.specs.declared.kept.KeptNumber.{KeptNumber}
use Rattle.st_messages.specs.declared.message.Message as message
use Rattle.st_messages.specs.Messages.{calls_after_cancel, calls_after_post_as, kept_in, message_of_drawing, seq_left, seq_of, AreValidCalls, HeldCalls}
use Rattle.st_messages.proofs.Seqs.{seqs_cancelled, seqs_posted}
use Rattle.st_messages.proofs.Whole.{next_none}
use Rattle.st_workers.specs.Filling.{sealed_if_ready, AreSame, IsTurnFor}
use Rattle.st_workers.specs.Numbers.{HaveSeqs, IsReadyWith}
use Rattle.st_workers.specs.UnderWay.{turn_of_worker, UnderWay}
use Rattle.st_workers.specs.declared.turn.Turn.{Turn}
use Rattle.st_workers.specs.declared.turn.Turn.TheVariants.{Idle, Ready, Working}
use Rattle.st_workers.proofs.Filled.{changed_to}
use Rattle.st_workers.proofs.Turns.{item_put, number_within}

-- nothing changes
pub same_seqs : (old new : UnderWay) → new.calls ≡ old.calls → AreSame old.slots new.slots → new.turns ≡ old.turns → HaveSeqs old → HaveSeqs new
same_seqs old new calls slots turns have = record {
  slots = λ q slot there. ap (λ (c : HeldCalls). seq_of c q) calls ∙ have.slots q slot (sym (slots q) ∙ there);
  copies = λ w q s is. ap (λ (c : HeldCalls). seq_of c q) calls ∙ have.copies w q s (sym (ap (λ (ts : List Turn). item_at_number ts w) turns) ∙ is);
}

-- the slots without that of a drawing
abbrev pub without_slot : List Slot → ℕ → List Slot
without_slot slots p = filter (λ slot. not (is_slot_of p slot)) slots

pub without_slot_changes : (slots : List Slot) (p : ℕ) → ChangesSlot slots p None (without_slot slots p)
without_slot_changes [] p q = by (q == p) where
  by : (b : Bool) → slot_at [] q ≡ cond b None (slot_at [] q)
  by true = refl
  by false = refl
without_slot_changes (slot ∷ slots) p q = by (is_slot_of p slot) (is_slot_of q slot) (q == p) refl refl refl (without_slot_changes slots p q) where
  by : (a b c : Bool) → is_slot_of p slot ≡ a → is_slot_of q slot ≡ b → (q == p) ≡ c → slot_at (without_slot slots p) q ≡ cond c None (slot_at slots q)
      → slot_at (cond (not a) (slot ∷ without_slot slots p) (without_slot slots p)) q ≡ cond c None (cond b (Some slot) (slot_at slots q))
  by true true true a_is b_is c_is later = later
  by true true false a_is b_is c_is later = absurd (eqb-false q p c_is (sym (eqb-true slot.head.drawing q b_is) ∙ eqb-true slot.head.drawing p a_is))
  by true false c a_is b_is c_is later = later
  by false b true a_is b_is c_is later = ap (λ (x : Bool). cond x (Some slot) (slot_at (without_slot slots p) q)) (ap (λ (n : ℕ). is_slot_of n slot) (eqb-true q p c_is) ∙ a_is) ∙ later
  by false b false a_is b_is c_is later = ap (λ (x : Bool). cond x (Some slot) (slot_at (without_slot slots p) q)) b_is ∙ ap (cond b (Some slot)) later

-- ---- a worker's step

not_idle : (q : ℕ) (s : Snapshot) → Idle ≡ Ready q s → ⊥
not_idle q s e = cc

same_turn : (a b : ℕ) (s t : Snapshot) → Ready a s ≡ Ready b t → (b ≡ a) × (t ≡ s)
same_turn a b s t e = (cc, cc)

-- the copies of a worker that is ready have the number of its slot
turn_seq : (p : ℕ) (slot : Slot) (t : Turn) → IsTurnFor p slot t → (q : ℕ) (s : Snapshot) → t ≡ Ready q s → (q ≡ p) × (s.seq ≡ slot.head.seq)
turn_seq p slot Idle turn q s e = absurd turn
turn_seq p slot (Working x) turn q s e = cc
turn_seq p slot (Ready x y) turn q s e = let same = same_turn x q y s e in (same.0 ∙ turn.0, ap (λ (u : Snapshot). u.seq) (same.1 ∙ turn.2))

module _ (old new : UnderWay) (w p : ℕ) (was t : Turn) (here : turn_of_worker old w ≡ Some was) (put : new.turns ≡ set old.turns (w - 1) t) where
  turn_put : (v : ℕ) → turn_of_worker new v ≡ cond (v == w) (Some t) (turn_of_worker old v)
  turn_put v = let within = number_within old.turns w was here in ap (λ (ts : List Turn). item_at_number ts v) put ∙ item_put old.turns w t within.0 within.1 v

  put_copies : (v q : ℕ) (s : Snapshot) → turn_of_worker new v ≡ Some (Ready q s) → (n : ℕ) → ((v ≢ w) → turn_of_worker old v ≡ Some (Ready q s) → seq_of new.calls q ≡ Some n) → (t ≡ Ready q s → seq_of new.calls q ≡ Some n) → seq_of new.calls q ≡ Some n
  put_copies v q s is n before its = elim (cases_eq v w) [
    | inl e ↦ its (same_Some t (Ready q s) (sym (turn_put v ∙ ap (λ (b : Bool). cond b (Some t) (turn_of_worker old v)) (eq-eqb v w e)) ∙ is))
    | inr ne ↦ before ne (sym (turn_put v ∙ ap (λ (b : Bool). cond b (Some t) (turn_of_worker old v)) (ne_eqb v w ne)) ∙ is)
  ]

  module _ (seqs : (q : ℕ) → seq_of new.calls q ≡ seq_of old.calls q) where
    -- a worker at a message whose slot is filled, or only sealed
    pub filled_seqs : (slot filled : Slot) → slot_at old.slots p ≡ Some slot → ChangesSlot old.slots p (Some (sealed_if_ready filled)) new.slots → filled.head.seq ≡ slot.head.seq → IsTurnFor p filled t → HaveSeqs old → HaveSeqs new
    filled_seqs slot filled there slots number turn have = record {
      slots = λ q its at. seqs q ∙ elim (cases_eq q p) [
        | inl e ↦
            ap (seq_of old.calls) e ∙ own
            ∙ ap (λ (x : Slot). Some x.head.seq) (same_Some (sealed_if_ready filled) its (sym (changed_to old.slots new.slots p (Some (sealed_if_ready filled)) slots) ∙ ap (slot_at new.slots) (sym e) ∙ at))
        | inr ne ↦ have.slots q its (sym (slots q ∙ ap (λ (b : Bool). cond b (Some (sealed_if_ready filled)) (slot_at old.slots q)) (ne_eqb q p ne)) ∙ at)
      ];
      copies = λ v q s is. put_copies v q s is s.seq (λ ne at. seqs q ∙ have.copies v q s at) (λ e. (let its = turn_seq p filled t turn q s e in seqs q ∙ ap (seq_of old.calls) its.0 ∙ own ∙ ap Some (sym its.1)));
    } where
      own : seq_of old.calls p ≡ Some filled.head.seq
      own = have.slots p slot there ∙ ap Some (sym number)

    -- a worker that has left its message
    pub left_seqs : t ≡ Idle → new.slots ≡ old.slots → HaveSeqs old → HaveSeqs new
    left_seqs idle slots have = record {
      slots = λ q its at. seqs q ∙ have.slots q its (sym (ap (λ (l : List Slot). slot_at l q) slots) ∙ at);
      copies = λ v q s is. put_copies v q s is s.seq (λ ne at. seqs q ∙ have.copies v q s at) (λ e. absurd (not_idle q s (sym idle ∙ e)));
    }

  -- a worker that has let go the number of an ended message, with which no other is ready
  pub let_go_seqs : ((q : ℕ) → seq_of new.calls q ≡ cond (q == p) None (seq_of old.calls q)) → t ≡ Idle → new.slots ≡ old.slots → slot_at old.slots p ≡ None → (IsReadyWith new p → ⊥) → HaveSeqs old → HaveSeqs new
  let_go_seqs seqs idle slots none nobody have = record {
    slots = λ q its at. (let before : slot_at old.slots q ≡ Some its = sym (ap (λ (l : List Slot). slot_at l q) slots) ∙ at in
        still q its.head.seq (λ e. none-some its (sym none ∙ ap (slot_at old.slots) (sym e) ∙ before)) (have.slots q its before));
    copies = λ v q s is. put_copies v q s is s.seq (λ ne at. still q s.seq (λ e. nobody (v, s, is ∙ ap (λ (n : ℕ). Some (Ready n s)) e)) (have.copies v q s at)) (λ e. absurd (not_idle q s (sym idle ∙ e)));
  } where
    still : (q n : ℕ) → (q ≡ p → ⊥) → seq_of old.calls q ≡ Some n → seq_of new.calls q ≡ Some n
    still q n ne is = seqs q ∙ ap (λ (b : Bool). cond b None (seq_of old.calls q)) (ne_eqb q p ne) ∙ is

-- ---- a message is posted

-- the next drawing has no number yet
next_unnumbered : (calls : HeldCalls) → AreValidCalls calls → (n : ℕ) → seq_of calls calls.next ≡ Some n → ⊥
next_unnumbered calls valid n is = by (kept_in calls.kept calls.next) refl where
  by : (o : Option KeptNumber) → kept_in calls.kept calls.next ≡ o → ⊥
  by (Some kept) e = let ended = (valid.ended calls.next (ap (λ (o : Option KeptNumber). is_some o) e)).0 in omega (arith, ended)
  by None e = none-some n (sym (λ k. option_or (option_map (λ (m : message.Message). m.seq) (next_none calls valid k)) (option_map (λ (x : KeptNumber). x.seq) (e k))) ∙ is)

module _ (old new : UnderWay) (tid seq : ℕ) (head : Head) (calls : new.calls ≡ calls_after_post_as old.calls tid seq) (slots : ChangesSlot old.slots old.calls.next (Some (new_slot head)) new.slots) (turns : new.turns ≡ old.turns)
    (number : head.seq ≡ seq) (valid : AreValidCalls old.calls) where
  posted_seq : (q : ℕ) → seq_of new.calls q ≡ cond (q == old.calls.next) (Some seq) (seq_of old.calls q)
  posted_seq q = ap (λ (c : HeldCalls). seq_of c q) calls ∙ seqs_posted old.calls tid seq valid q

  pub posted_seqs : HaveSeqs old → HaveSeqs new
  posted_seqs have = record {
    slots = λ q slot there. posted_seq q ∙ by q slot (q == old.calls.next) (sym (slots q) ∙ there);
    copies = λ w q s is. posted_seq q ∙ still q s.seq (q == old.calls.next) refl (have.copies w q s (sym (ap (λ (ts : List Turn). item_at_number ts w) turns) ∙ is));
  } where
    by : (q : ℕ) (slot : Slot) (b : Bool) → cond b (Some (new_slot head)) (slot_at old.slots q) ≡ Some slot → cond b (Some seq) (seq_of old.calls q) ≡ Some slot.head.seq
    by q slot true e = ap Some (sym number) ∙ ap (λ (x : Slot). Some x.head.seq) (same_Some (new_slot head) slot e)
    by q slot false e = have.slots q slot e

    still : (q n : ℕ) (b : Bool) → (q == old.calls.next) ≡ b → seq_of old.calls q ≡ Some n → cond b (Some seq) (seq_of old.calls q) ≡ Some n
    still q n true e is = absurd (next_unnumbered old.calls valid n (ap (seq_of old.calls) (sym (eqb-true q old.calls.next e)) ∙ is))
    still q n false e is = is

-- ---- a message ends

module _ (old new : UnderWay) (p : ℕ) (keeps : Bool) (m : message.Message) (valid : AreValidCalls old.calls) (is : message_of_drawing old.calls p ≡ Some m) (calls : new.calls ≡ calls_after_cancel old.calls p keeps) (slots : ChangesSlot old.slots p None new.slots)
    (before : (w q : ℕ) (s : Snapshot) → turn_of_worker new w ≡ Some (Ready q s) → turn_of_worker old w ≡ Some (Ready q s)) (keeps_is : IsReadyWith old p → keeps ≡ true) where
  left_seq : (q : ℕ) → seq_of new.calls q ≡ cond (q == p) (seq_left old.calls p keeps) (seq_of old.calls q)
  left_seq q = ap (λ (c : HeldCalls). seq_of c q) calls ∙ seqs_cancelled old.calls p keeps m valid is q

  pub cancelled_seqs : HaveSeqs old → HaveSeqs new
  cancelled_seqs have = record {
    slots = λ q slot there. left_seq q ∙ by q slot (q == p) (sym (slots q) ∙ there);
    copies = λ w q s there. (let at = before w q s there in left_seq q ∙ still w q s (q == p) refl at (have.copies w q s at));
  } where
    by : (q : ℕ) (slot : Slot) (b : Bool) → cond b None (slot_at old.slots q) ≡ Some slot → cond b (seq_left old.calls p keeps) (seq_of old.calls q) ≡ Some slot.head.seq
    by q slot true e = absurd (none-some slot e)
    by q slot false e = have.slots q slot e

    still : (w q : ℕ) (s : Snapshot) (b : Bool) → (q == p) ≡ b → turn_of_worker old w ≡ Some (Ready q s) → seq_of old.calls q ≡ Some s.seq → cond b (seq_left old.calls p keeps) (seq_of old.calls q) ≡ Some s.seq
    still w q s false e at seq = seq
    still w q s true e at seq =
        let same = eqb-true q p e in
        ap (λ (b : Bool). cond b (seq_of old.calls p) None) (keeps_is (w, s, at ∙ ap (λ (n : ℕ). Some (Ready n s)) same)) ∙ ap (seq_of old.calls) (sym same) ∙ seq
