-- How a change of one argument changes a message.
use Rattle.std.proofs.Common.{◌≡◌, ◌<◌, ◌≤◌, ◌+◌, ℕ, zero, suc, nat_lt, not, Bool, true, false, cond, List, [], ◌∷◌, length, ◌++◌, map, take, drop, get_or, set, append-nil, inl, inr, refl, ap, sym, ◌∙◌, subst, arith, Fits, w32}
use Rattle.std.specs.Prelude.{All, Some, None, Result, Ok, Err, OnOk, OnErr}
use Rattle.st_effects.specs.Progress.{Progress, Word, Look, Stuck, Ready}
use Rattle.st_names.specs.Name.{Components}
use Rattle.std.specs.List.{position, position_or_len}
use Rattle.std.proofs.lemmas.Bool.{cases_lt, lt-ltb}
use Rattle.std.proofs.lemmas.List.{get_or-map, get_or-set_other, get_or-set_same, get_or_default, get_or_past, length-map, length-set, map-set}
use Rattle.std.proofs.lemmas.List.Elements.{All-set}
use Rattle.std.proofs.Math.Seq.{map-set_same, take-length}
use Rattle.std.proofs.Math.ListN.{drop_of_length-le}
use Rattle.st_calls.specs.declared.argument.ArgSpec.{ArgSpec}
use Rattle.st_calls.specs.Argument.{args_of, args_of_call}
use Rattle.st_calls.specs.declared.call.SysCall.{SysCall}
use Rattle.st_calls.specs.declared.call.SysCall.TheVariants as call
use Rattle.st_calls.specs.declared.rule.Rule.{Rule}
use Rattle.st_calls.specs.declared.rule.Rule.TheVariants as rule
use Rattle.st_lookaside.specs.Head.{arg_request}
use Rattle.st_lookaside.specs.Need.{is_finished, IsWord}
use Rattle.st_lookaside.specs.Part.{Filled, filled_of, nothing_filled, IsPart}
use Rattle.st_lookaside.specs.Slot.{Slot, new_slot, next_need, part_at, part_next, kept_slot, slot_progress, with_part, AreInOrder, IsDue, IsInOrder, IsLookNext, IsSlot, IsWordNext}
use Rattle.st_lookaside.specs.declared.head.Head.{Head}
use Rattle.st_lookaside.specs.declared.need.Need.{Need}
use Rattle.st_lookaside.specs.declared.need.Need.TheVariants as need
use Rattle.st_lookaside.specs.declared.part.Part.{Part}
use Rattle.st_lookaside.proofs.Parts.{unseen}
use Rattle.st_lookaside.proofs.Progress.{due_place, in_front, look_due, next_at, next_is, not_finished, open_at, progress_of_part, word_due, IsOpenAt}

-- ---- an argument that may change

-- the arguments before it are finished, and nothing is copied or seen of those after it
pub record IsTurn (parts : List Part) (j : ℕ) : Type 0 where
  pub within : j < length parts
  pub before : (k : ℕ) (d : Part) → k < j → (get_or parts k d).need ≡ need.Nothing
  pub following : (k : ℕ) (d : Part) → j < k → k < length parts → filled_of (get_or parts k d) ≡ nothing_filled

order_kept : (parts : List Part) (j : ℕ) (after : Part) → IsTurn parts j → AreInOrder (set parts j after)
order_kept parts j after turn i k d lt within unfinished =
    let len = length-set parts j after in
    elim (cases_lt i j) [
      | inl before ↦ absurd (unfinished (ap (λ (p : Part). p.need) (get_or-set_other parts j i after d (λ e. let here : i ≡ j = e in omega (arith, here, before))) ∙ turn.before i d before))
      | inr from ↦ ap filled_of (get_or-set_other parts j k after d (λ e. let here : k ≡ j = e in omega (arith, here, from, lt))) ∙ turn.following k d (omega (arith, from, lt)) (omega (arith, len, within))
    ]

-- the invariant of the message is preserved if that argument is replaced
pub slot_kept : (head : Head) (parts : List Part) (j : ℕ) (part after : Part) → IsSlot head parts → IsTurn parts j → part ≡ get_or parts j part → IsPart (arg_request head) after → after.spec ≡ part.spec → IsSlot head (set parts j after)
slot_kept head parts j part after slot turn here is same = record {
  short = slot.short;
  specs = map-set_same (λ (p : Part). p.spec) parts j after part (same ∙ ap (λ (p : Part). p.spec) here) ∙ slot.specs;
  parts = All-set (IsPart (arg_request head)) parts j after is slot.parts;
  order = order_kept parts j after turn;
}

-- what was copied and seen for an argument
pub filled_at : (parts : List Part) (j : ℕ) (part : Part) → j < length parts → part ≡ get_or parts j part → part_at (map filled_of parts) j ≡ filled_of part
filled_at parts j part within here = get_or-map filled_of parts j part nothing_filled within ∙ ap filled_of (sym here)

-- the slot of a message with another argument
pub view_with : (head : Head) (parts : List Part) (sealed : Bool) (now : Slot) (j : ℕ) (after : Part) (filled : Filled) → kept_slot head parts sealed ≡ now → filled_of after ≡ filled →
    kept_slot head (set parts j after) sealed ≡ with_part now j filled
view_with head parts sealed now j after filled view is =
    ap (λ (all : List Filled). record { head = head; parts = all; is_sealed = sealed }) (map-set filled_of parts j after)
    ∙ ap (λ (f : Filled). record { head = head; parts = set (map filled_of parts) j f; is_sealed = sealed }) is
    ∙ ap (λ (s : Slot). with_part s j filled) view

pub on_ok : {T E : Type 0} (r : Result T E) (P Q : Type 0) → (P → Q) → OnOk r P → OnOk r Q
on_ok (Ok x) P Q f p = f p
on_ok (Err e) P Q f p = p

pub both_ok : {T E : Type 0} (r : Result T E) (P Q : Type 0) → OnOk r P → OnOk r Q → OnOk r (P × Q)
both_ok (Ok x) P Q p q = (p, q)
both_ok (Err e) P Q p q = p

pub on_err : {T E : Type 0} (r : Result T E) (P Q : Type 0) → (P → Q) → OnErr r P → OnErr r Q
on_err (Ok x) P Q f p = p
on_err (Err e) P Q f p = f p

pub on_err_by : {T E : Type 0} (r : Result T E) (P : Type 0) → P → OnErr r P
on_err_by (Ok x) P p = tt
on_err_by (Err e) P p = p

pub word_is_due : (p : Progress) → IsWordNext p → IsDue p
word_is_due (Word part place) is = tt
word_is_due (Look part name) is = absurd is
word_is_due (Stuck errno) is = absurd is
word_is_due (Ready args) is = absurd is

pub look_is_due : (p : Progress) → IsLookNext p → IsDue p
look_is_due (Word part place) is = absurd is
look_is_due (Look part name) is = tt
look_is_due (Stuck errno) is = absurd is
look_is_due (Ready args) is = absurd is

few_of_call : (call : SysCall) → length (args_of_call call) ≤ 3
few_of_call call.Open = omega arith
few_of_call _ = omega arith

few_specs : (rule : Rule) → length (args_of rule) ≤ 3
few_specs (rule.Call call) = few_of_call call
few_specs rule.FsRead = omega arith
few_specs rule.FsWrite = omega arith

-- ---- a message that begins anew

untouched : (parts : List Part) → All (λ part. filled_of part ≡ nothing_filled) parts → map filled_of parts ≡ map (λ (spec : ArgSpec). nothing_filled) (map (λ part. part.spec) parts)
untouched [] are = refl
untouched (part ∷ parts) are = λ k. are 0 part (omega arith) k ∷ untouched parts (λ i d lt. are (suc i) d (omega arith)) k

-- arguments of which nothing is copied or seen make a message that begins anew
pub begun_anew : (head : Head) (parts : List Part) → map (λ part. part.spec) parts ≡ args_of head.rule → All (λ part. filled_of part ≡ nothing_filled) parts → kept_slot head parts false ≡ new_slot head
begun_anew head parts specs are =
    ap (λ (all : List Filled). record { head = head; parts = all; is_sealed = false }) (untouched parts are ∙ ap (map (λ (spec : ArgSpec). nothing_filled)) specs)

-- as many new items replace all the old ones
pub whole_again : (new old : List Part) (n : ℕ) → n ≡ length old → length new ≡ length old → take n (new ++ drop (length new) old) ≡ new
whole_again new old n is same =
    ap (λ (l : List Part). take n (new ++ l)) (drop_of_length-le old {i = length new} (omega (arith, same))) ∙ ap (λ (l : List Part). take n l) (append-nil new) ∙ ap (λ (m : ℕ). take m new) (is ∙ sym same) ∙ take-length new

-- ---- the argument that isn't finished

module _ (head : Head) (parts : List Part) (sealed : Bool) (now : Slot) (j : ℕ) (part : Part) (slot : IsSlot head parts) (view : kept_slot head parts sealed ≡ now) (at : IsOpenAt head parts j part) where
  pub turn : IsTurn parts j
  turn = record {
    within = at.within;
    before = at.before;
    following = λ k d lt within. slot.order j k d lt within
        (λ is. not_finished head parts j part at (ap (λ (p : Part). p.need) (at.here ∙ get_or_default parts j part d at.within) ∙ is));
  }

  pub here_next : next_at j part.need ≡ next_need (slot_progress now)
  here_next = next_is head parts j part at ∙ ap (λ (s : Slot). next_need (slot_progress s)) view

  pub here_word : IsWordNext (slot_progress now) → IsWord part.need
  here_word is = (word_due head parts j part at (subst (λ (s : Slot). IsWordNext (slot_progress s)) (sym view) is)).0

  pub here_look : IsLookNext (slot_progress now) → part.need ≡ need.Look
  here_look is = (look_due head parts j part at (subst (λ (s : Slot). IsLookNext (slot_progress s)) (sym view) is)).0

  pub here_due : IsDue (slot_progress now) → part_next (slot_progress now) ≡ j
  here_due is = ap (λ (s : Slot). part_next (slot_progress s)) (sym view) ∙ due_place head parts j part at (subst (λ (s : Slot). IsDue (slot_progress s)) (sym view) is)

  pub here_filled : part_at now.parts j ≡ filled_of part
  here_filled = ap (λ (s : Slot). part_at s.parts j) (sym view) ∙ filled_at parts j part at.within at.here

  after_here : (k : ℕ) → j < k → part_at now.parts k ≡ nothing_filled
  after_here k lt = ap (λ (s : Slot). part_at s.parts k) (sym view) ∙ elim (cases_lt k (length parts)) [
    | inl within ↦ get_or-map filled_of parts k part nothing_filled within ∙ turn.following k part lt within
    | inr past ↦ get_or_past (map filled_of parts) k nothing_filled (let len = length-map parts filled_of in omega (arith, len, past))
  ]

  pub in_order : IsDue (slot_progress now) → now.is_sealed ≡ false → IsInOrder now
  in_order due unsealed = record {
    unseen = λ is.
        ap (λ (k : ℕ). (part_at now.parts k).lookups) (here_due due) ∙ ap (λ (f : Filled). f.lookups) here_filled
        ∙ unseen (arg_request head) part at.is_part (here_word is);
    following = λ _ k lt. after_here k (subst (λ (n : ℕ). n < k) (here_due due) lt);
    unsealed = λ _. unsealed;
  }

  -- the slot of the message after that argument has changed
  pub here_changed : (change : Filled → Filled) (after : Part) → IsDue (slot_progress now) → filled_of after ≡ change (filled_of part) →
      kept_slot head (set parts j after) sealed ≡ (let k = part_next (slot_progress now) in with_part now k (change (part_at now.parts k)))
  here_changed change after due is =
      view_with head parts sealed now j after (change (part_at now.parts j)) view (is ∙ ap change (sym here_filled))
      ∙ ap (λ (k : ℕ). with_part now k (change (part_at now.parts k))) (sym (here_due due))

  -- the name that it looks at
  pub look_found : (name : Components) → progress_of_part (arg_request head) part ≡ Look 0 name → slot_progress now ≡ Look (part_next (slot_progress now)) name
  look_found name is =
      let found : slot_progress now ≡ Look j name = sym (ap slot_progress view) ∙ at.progress ∙ ap (λ (p : Progress). in_front j p (Ready [])) is in
      found ∙ ap (λ (k : ℕ). Look k name) (sym (ap part_next found))

  -- the slot of the message with that argument unchanged
  pub here_same : (after : Part) → filled_of after ≡ filled_of part → kept_slot head (set parts j after) sealed ≡ now
  here_same after is = ap (λ (all : List Filled). record { head = head; parts = all; is_sealed = sealed }) (map-set_same filled_of parts j after part (is ∙ ap filled_of at.here)) ∙ view

  -- an argument's index is a small number
  pub few_args : Fits w32 j
  few_args = let few = few_specs head.rule in let len = ap length slot.specs in let same = length-map parts (λ (p : Part). p.spec) in let within = at.within in omega (arith, few, len, same, within)

-- ---- an argument that still isn't finished after its change

first_place : (p : Part → Bool) (parts : List Part) (j : ℕ) (d : Part) → j < length parts → ((k : ℕ) → k < j → p (get_or parts k d) ≡ false) → p (get_or parts j d) ≡ true → position_or_len p parts ≡ j
first_place p [] j d within before here = absurd (omega (arith, within))
first_place p (x ∷ parts) zero d within before here = ap (λ (b : Bool). cond (not b) (1 + position_or_len p parts) 0) here
first_place p (x ∷ parts) (suc j) d within before here =
    let next : 1 + j ≡ suc j = omega arith in
    ap (λ (b : Bool). cond (not b) (1 + position_or_len p parts) 0) (before 0 (omega arith))
    ∙ ap (λ (n : ℕ). 1 + n) (first_place p parts j d (omega (arith, within)) (λ k lt. before (suc k) (omega (arith, lt))) here)
    ∙ next

first_is : (p : Part → Bool) (parts : List Part) (j : ℕ) (d : Part) → j < length parts → ((k : ℕ) → k < j → p (get_or parts k d) ≡ false) → p (get_or parts j d) ≡ true → position p parts ≡ Some j
first_is p parts j d within before here =
    ap (λ (n : ℕ). cond (nat_lt n (length parts)) (Some n) None) (first_place p parts j d within before here) ∙ ap (λ (b : Bool). cond b (Some j) None) (lt-ltb j (length parts) within)

-- it decides what is needed next again
pub next_again : (head : Head) (parts : List Part) (sealed : Bool) (now new : Slot) (j : ℕ) (part after : Part) → IsSlot head parts → kept_slot head parts sealed ≡ now → IsOpenAt head parts j part
    → IsPart (arg_request head) after → after.spec ≡ part.spec → not (is_finished after.need) ≡ true → kept_slot head (set parts j after) sealed ≡ new → next_at j after.need ≡ next_need (slot_progress new)
next_again head parts sealed now new j part after slot view at is_part same unfinished new_view =
    let kept : IsSlot head (set parts j after) = slot_kept head parts j part after slot (turn head parts sealed now j part slot view at) at.here is_part same in
    let len = length-set parts j after in
    let here : get_or (set parts j after) j after ≡ after = get_or-set_same parts j after after at.within in
    let first : position (λ (p : Part). not (is_finished p.need)) (set parts j after) ≡ Some j =
    first_is (λ p. not (is_finished p.need)) (set parts j after) j after (let within = at.within in omega (arith, len, within))
    (λ k lt. ap (λ (p : Part). not (is_finished p.need)) (get_or-set_other parts j k after after (λ e. let is : k ≡ j = e in omega (arith, is, lt))) ∙ ap (λ (n : Need). not (is_finished n)) (at.before k after lt))
    (ap (λ (p : Part). not (is_finished p.need)) here ∙ unfinished) in
    here_next head (set parts j after) sealed new j after kept new_view (open_at head (set parts j after) (set parts j after) j after kept refl (sym first) (sym here))
