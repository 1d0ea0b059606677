-- What a caller knows after it has asked what is needed next.
use Rattle.std.proofs.Common.{◌≡◌, ◌∙◌, ap, refl, sym, subst, cond, ℕ, Bool, List, Some, IsSome}
use Rattle.std.proofs.lemmas.Bool.{eq-eqb}
use Rattle.st_effects.specs.Progress.{Progress, Word, Look, Stuck, Ready}
use Rattle.st_lookaside.specs.Slot.{Slot, next_need, IsDue, IsLookNext, HasAllArguments, IsWordNext}
use Rattle.st_lookaside.specs.Slots.{slot_at, ChangesSlot}
use Rattle.st_lookaside.specs.declared.slot.Next.TheVariants as next

pub word_asked : (p : Progress) (part place : _) → next.Word part place ≡ next_need p → IsWordNext p
word_asked (Word part place) a b e = tt
word_asked (Look part name) a b e = cc
word_asked (Stuck errno) a b e = cc
word_asked (Ready args) a b e = cc

pub look_asked : (p : Progress) (part : _) → next.Look part ≡ next_need p → IsLookNext p
look_asked (Word part place) a e = cc
look_asked (Look part name) a e = tt
look_asked (Stuck errno) a e = cc
look_asked (Ready args) a e = cc

pub due_asked : (p : Progress) (part : _) → next.Look part ≡ next_need p → IsDue p
due_asked (Word part place) a e = cc
due_asked (Look part name) a e = tt
due_asked (Stuck errno) a e = cc
due_asked (Ready args) a e = cc

pub ready_asked : (p : Progress) → next.Ready ≡ next_need p → HasAllArguments p
ready_asked (Word part place) e = cc
ready_asked (Look part name) e = cc
ready_asked (Stuck errno) e = cc
ready_asked (Ready args) e = tt

-- a number that was given a slot has it
pub has_slot : (old new : List Slot) (drawing : ℕ) (slot : Slot) → ChangesSlot old drawing (Some slot) new → IsSome (slot_at new drawing)
has_slot old new drawing slot changes = subst IsSome (sym (changes drawing ∙ ap (λ (b : Bool). cond b (Some slot) (slot_at old drawing)) (eq-eqb drawing drawing refl))) refl
