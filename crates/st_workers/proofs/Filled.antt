-- The slot of a number after a word or a look, and after that is undone.
use Rattle.std.proofs.Common.{◌≡◌, ◌||◌, ℕ, Bool, true, false, cond, List, Option, Some, None, inl, inr, refl, ap, sym, ◌∙◌, subst, IsSome, IfSome}
use Rattle.std.proofs.lemmas.Bool.{cases_eq, eq-eqb, ne_eqb}
use Rattle.std.proofs.lemmas.Option.{none-some, same_Some}
use Rattle.st_effects.specs.Progress.{Progress, Word, Look, Stuck, Ready as Whole}
use Rattle.st_lookaside.specs.Slot.{Slot, next_need, sealed_slot, slot_progress, IsInOrder, HasAllArguments}
use Rattle.st_lookaside.specs.Slots.{slot_at, ChangesSlot}
use Rattle.st_lookaside.specs.declared.slot.Next.{Next}
use Rattle.st_lookaside.specs.declared.slot.Next.TheVariants as next
use Rattle.st_lookaside.proofs.Callers.{ready_asked}
use Rattle.st_law.specs.State.{is_ready}
use Rattle.st_workers.specs.Filling.{sealed_if_ready, AreSame, IsTurnFor}
use Rattle.st_workers.specs.declared.turn.Turn.{Turn}
use Rattle.st_workers.specs.declared.turn.Turn.TheVariants.{Working}

-- ---- the slot of the number

pub the_slot : {X : Type 0} (o : Option X) → IsSome o → (x : X) × (o ≡ Some x)
the_slot None is = cc
the_slot (Some x) is = (x, refl)

pub known : {X : Type 0} (o : Option X) (P : X → Type 0) (x : X) → o ≡ Some x → IfSome o P → P x
known None P x is holds = absurd (none-some x is)
known (Some y) P x is holds = subst P (same_Some y x is) holds

pub tells : {X : Type 0} (o : Option X) (P : X → Type 0) (x : X) → o ≡ Some x → P x → IfSome o P
tells None P x is holds = absurd (none-some x is)
tells (Some y) P x is holds = subst P (sym (same_Some y x is)) holds

-- ---- changes of the slot

-- of two changes of one number's slot, the last remains
pub last_change : (old mid new : List Slot) (drawing : ℕ) (a b : Option Slot) → ChangesSlot old drawing a mid → ChangesSlot mid drawing b new → ChangesSlot old drawing b new
last_change old mid new drawing a b first second other = elim (cases_eq other drawing) [
  | inl e ↦ second other ∙ ap (λ (c : Bool). cond c b (slot_at mid other)) (eq-eqb other drawing e) ∙ sym (ap (λ (c : Bool). cond c b (slot_at old other)) (eq-eqb other drawing e))
  | inr ne ↦ second other ∙ ap (λ (c : Bool). cond c b (slot_at mid other)) (ne_eqb other drawing ne) ∙ first other ∙ ap (λ (c : Bool). cond c a (slot_at old other)) (ne_eqb other drawing ne) ∙ sym (ap (λ (c : Bool). cond c b (slot_at old other)) (ne_eqb other drawing ne))
]

pub changed_to : (old new : List Slot) (drawing : ℕ) (o : Option Slot) → ChangesSlot old drawing o new → slot_at new drawing ≡ o
changed_to old new drawing o changes = changes drawing ∙ ap (λ (c : Bool). cond c o (slot_at old drawing)) (eq-eqb drawing drawing refl)

-- if nothing more is needed after a change, the slot is complete
pub ready_then : (old mid : List Slot) (drawing : ℕ) (after : Slot → Slot) → IsSome (slot_at old drawing) → IfSome (slot_at old drawing) (λ slot. ChangesSlot old drawing (Some (after slot)) mid)
    → IfSome (slot_at old drawing) (λ slot. next.Ready ≡ next_need (slot_progress (after slot))) → IfSome (slot_at mid drawing) (λ slot. HasAllArguments (slot_progress slot))
ready_then old mid drawing after there changes asks =
    let slot = the_slot (slot_at old drawing) there in
    let changed : ChangesSlot old drawing (Some (after slot.0)) mid = known (slot_at old drawing) (λ s. ChangesSlot old drawing (Some (after s)) mid) slot.0 slot.1 changes in
    tells (slot_at mid drawing) (λ s. HasAllArguments (slot_progress s)) (after slot.0) (changed_to old mid drawing (Some (after slot.0)) changed)
    (ready_asked (slot_progress (after slot.0)) (known (slot_at old drawing) (λ s. next.Ready ≡ next_need (slot_progress (after s))) slot.0 slot.1 asks))

-- ---- a seal

all_there : (p : Progress) → HasAllArguments p → is_ready p ≡ true
all_there (Word part place) is = absurd is
all_there (Look part name) is = absurd is
all_there (Stuck errno) is = absurd is
all_there (Whole args) is = refl

not_there : (p : Progress) → (next.Ready ≡ next_need p → ⊥) → is_ready p ≡ false
not_there (Word part place) ne = refl
not_there (Look part name) ne = refl
not_there (Stuck errno) ne = refl
not_there (Whole args) ne = absurd (ne refl)

-- a complete slot is sealed as it is expected
pub seal_ready : (slot : Slot) → HasAllArguments (slot_progress slot) → sealed_slot slot ≡ sealed_if_ready slot
seal_ready slot is = ap (λ (b : Bool). record slot { is_sealed = b || slot.is_sealed }) (sym (all_there (slot_progress slot) is))

-- any other is left as it is
pub leave_unready : (slot : Slot) → (next.Ready ≡ next_need (slot_progress slot) → ⊥) → slot ≡ sealed_if_ready slot
leave_unready slot ne = ap (λ (b : Bool). record slot { is_sealed = b || slot.is_sealed }) (sym (not_there (slot_progress slot) ne))

-- a change after which the slot is complete, and a seal
pub sealed_change : (old mid new : List Slot) (drawing : ℕ) (after : Slot → Slot) → IsSome (slot_at old drawing) → IfSome (slot_at old drawing) (λ slot. ChangesSlot old drawing (Some (after slot)) mid)
    → IfSome (slot_at mid drawing) (λ slot. HasAllArguments (slot_progress slot)) → IfSome (slot_at mid drawing) (λ slot. ChangesSlot mid drawing (Some (sealed_slot slot)) new)
    → IfSome (slot_at old drawing) (λ slot. ChangesSlot old drawing (Some (sealed_if_ready (after slot))) new)
sealed_change old mid new drawing after there changes ready seals =
    let slot = the_slot (slot_at old drawing) there in
    let changed : ChangesSlot old drawing (Some (after slot.0)) mid = known (slot_at old drawing) (λ s. ChangesSlot old drawing (Some (after s)) mid) slot.0 slot.1 changes in
    let here : slot_at mid drawing ≡ Some (after slot.0) = changed_to old mid drawing (Some (after slot.0)) changed in
    tells (slot_at old drawing) (λ s. ChangesSlot old drawing (Some (sealed_if_ready (after s))) new) slot.0 slot.1
    (subst (λ (s : Slot). ChangesSlot old drawing (Some s) new) (seal_ready (after slot.0) (known (slot_at mid drawing) (λ s. HasAllArguments (slot_progress s)) (after slot.0) here ready))
    (last_change old mid new drawing (Some (after slot.0)) (Some (sealed_slot (after slot.0))) changed (known (slot_at mid drawing) (λ s. ChangesSlot mid drawing (Some (sealed_slot s)) new) (after slot.0) here seals)))

-- a change after which the slot isn't complete
pub unsealed_change : (old new : List Slot) (drawing : ℕ) (after : Slot → Slot) → IsSome (slot_at old drawing) → IfSome (slot_at old drawing) (λ slot. ChangesSlot old drawing (Some (after slot)) new)
    → IfSome (slot_at old drawing) (λ slot. next.Ready ≡ next_need (slot_progress (after slot)) → ⊥) → IfSome (slot_at old drawing) (λ slot. ChangesSlot old drawing (Some (sealed_if_ready (after slot))) new)
unsealed_change old new drawing after there changes ne =
    let slot = the_slot (slot_at old drawing) there in
    tells (slot_at old drawing) (λ s. ChangesSlot old drawing (Some (sealed_if_ready (after s))) new) slot.0 slot.1
    (subst (λ (s : Slot). ChangesSlot old drawing (Some s) new) (leave_unready (after slot.0) (known (slot_at old drawing) (λ s. next.Ready ≡ next_need (slot_progress (after s)) → ⊥) slot.0 slot.1 ne))
    (known (slot_at old drawing) (λ s. ChangesSlot old drawing (Some (after s)) new) slot.0 slot.1 changes))

-- a slot that asks for something isn't complete
pub not_asked : (o : Option Slot) (asked : Next) (after : Slot → Slot) → IfSome o (λ slot. asked ≡ next_need (slot_progress (after slot))) → (asked ≡ next.Ready → ⊥) → IfSome o (λ slot. next.Ready ≡ next_need (slot_progress (after slot)) → ⊥)
not_asked None asked after asks ne = tt
not_asked (Some slot) asked after asks ne = λ ready. ne (asks ∙ sym ready)

-- so its worker goes on
pub goes_on : (o : Option Slot) (drawing : ℕ) (turn : Turn) (asked : Next) (after : Slot → Slot) → turn ≡ Working drawing → IfSome o (λ slot. asked ≡ next_need (slot_progress (after slot))) → (asked ≡ next.Ready → ⊥) → IfSome o (λ slot. IsTurnFor drawing (after slot) turn)
goes_on None drawing turn asked after works asks ne = tt
goes_on (Some slot) drawing turn asked after works asks ne = subst (IsTurnFor drawing (after slot)) (sym works) (refl, not_there (slot_progress (after slot)) (λ ready. ne (asks ∙ sym ready)))

-- slots of which none changes
pub no_change : (slots : List Slot) (drawing : ℕ) → IsSome (slot_at slots drawing) → IfSome (slot_at slots drawing) (λ slot. ChangesSlot slots drawing (Some slot) slots)
no_change slots drawing there =
    let slot = the_slot (slot_at slots drawing) there in
    tells (slot_at slots drawing) (λ s. ChangesSlot slots drawing (Some s) slots) slot.0 slot.1 (λ other. elim (cases_eq other drawing) [
      | inl e ↦ ap (slot_at slots) e ∙ slot.1 ∙ sym (ap (λ (c : Bool). cond c (Some slot.0) (slot_at slots other)) (eq-eqb other drawing e))
      | inr ne ↦ sym (ap (λ (c : Bool). cond c (Some slot.0) (slot_at slots other)) (ne_eqb other drawing ne))
    ])

-- ---- a change is undone

-- a slot is replaced by what it was before
put_back : (old mid new : List Slot) (drawing : ℕ) (slot after : Slot) → slot_at old drawing ≡ Some slot → ChangesSlot old drawing (Some after) mid → ChangesSlot mid drawing (Some slot) new → AreSame old new
put_back old mid new drawing slot after there first second other =
    let last : ChangesSlot old drawing (Some slot) new = last_change old mid new drawing (Some after) (Some slot) first second in
    elim (cases_eq other drawing) [
      | inl e ↦ last other ∙ ap (λ (c : Bool). cond c (Some slot) (slot_at old other)) (eq-eqb other drawing e) ∙ sym (ap (slot_at old) e ∙ there)
      | inr ne ↦ last other ∙ ap (λ (c : Bool). cond c (Some slot) (slot_at old other)) (ne_eqb other drawing ne)
    ]

-- the change of a slot by a word or a look is undone
pub undone : (old mid new : List Slot) (drawing : ℕ) (after : Slot → Slot) (P : Slot → Type 0) → IsSome (slot_at old drawing) → IfSome (slot_at old drawing) IsInOrder → IfSome (slot_at old drawing) P
    → IfSome (slot_at old drawing) (λ slot. ChangesSlot old drawing (Some (after slot)) mid)
    → ((before : Slot) → IsInOrder before → P before → slot_at mid drawing ≡ Some (after before) → ChangesSlot mid drawing (Some before) new) → AreSame old new
undone old mid new drawing after P there order next changes back =
    let slot = the_slot (slot_at old drawing) there in
    let first : ChangesSlot old drawing (Some (after slot.0)) mid = known (slot_at old drawing) (λ s. ChangesSlot old drawing (Some (after s)) mid) slot.0 slot.1 changes in
    put_back old mid new drawing slot.0 (after slot.0) slot.1 first
    (back slot.0 (known (slot_at old drawing) IsInOrder slot.0 slot.1 order) (known (slot_at old drawing) P slot.0 slot.1 next) (changed_to old mid drawing (Some (after slot.0)) first))
