-- The slot of a message and its record in the law's machine: their progress, and how one more word or look changes them.
use Rattle.std.proofs.Common.{◌≡◌, ◌<◌, ℕ, suc, ◌+◌, ◌==◌, ◌||◌, Bool, true, cond, List, [], ◌∷◌, ◌++◌, length, set, Option, Some, inl, inr, refl, ap, sym, ◌∙◌, subst, arith}
use Rattle.std.specs.Prelude.{if◌then◌else◌, slice_index_or}
use Rattle.std.proofs.lemmas.Bool.{cases_eq, eq-eqb, ne_eqb}
use Rattle.std.proofs.lemmas.List.{get_or-set_other, get_or-set_same, length-set}
use Rattle.st_calls.specs.Argument.{args_of}
use Rattle.st_calls.specs.Call.{follows}
use Rattle.st_calls.specs.declared.argument.ArgSpec.{ArgSpec}
use Rattle.st_calls.specs.declared.argument.ArgText.{ArgText}
use Rattle.st_calls.specs.declared.judged.Snapshot.{Snapshot}
use Rattle.st_calls.specs.declared.judged.Verdict.{Verdict}
use Rattle.st_filter.specs.Formula.{FilterValue}
use Rattle.st_filter.specs.Judging.{holds, verdict_by, verdict_from}
use Rattle.st_effects.specs.Progress.{ArgRequest, Progress, Word, Look, Stuck, Ready, progress, progress_from, with_arg}
use Rattle.st_lookaside.specs.Head.{arg_request}
use Rattle.st_lookaside.specs.Need.{progress_alone}
use Rattle.st_lookaside.specs.Part.{Filled, nothing_filled, with_lookup, with_word}
use Rattle.st_lookaside.specs.Slot.{Slot, part_at, slot_progress, snapshot_with, with_part}
use Rattle.st_lookaside.proofs.Progress.{front_is, in_front}
use Rattle.st_model.specs.Spelling.{Spelled, spell}
use Rattle.st_names.specs.declared.seen.SeenText.{SeenText}
use Rattle.st_law.specs.Messages.{Head}
use Rattle.st_law.specs.State.{Message, is_ready, progress_of_head, progress_of_message, snapshot_of_message, snapshot_of_progress}
use Rattle.st_workers.specs.Filling.{sealed_if_ready}
use Rattle.st_workers.specs.Refinement.{drawn_copies, IsSlotOf}

-- ---- the progress of a message

module _ (message : Message) (tid : ℕ) (slot : Slot) (is : IsSlotOf message tid slot) where
  -- a slot has the same progress as its message
  pub same_progress : progress_of_message message ≡ slot_progress slot
  same_progress =
      ap (λ (o : Option Head). progress_of_head o message.words message.lookups) is.head
      ∙ (λ k. progress (arg_request slot.head) (λ j. is.words j k) (λ j. is.lookups j k))

  -- the slot of a worker's message is sealed if the message is complete
  pub sealed_then : is_ready (progress_of_message message) ≡ true → (sealed_if_ready slot).is_sealed ≡ true
  sealed_then ready = ap (λ (b : Bool). b || slot.is_sealed) (sym (ap is_ready same_progress) ∙ ready)

  -- and it is the slot of the message still
  pub slot_sealed : IsSlotOf message tid (sealed_if_ready slot)
  slot_sealed = record { head = is.head; count = is.count; words = is.words; lookups = is.lookups }

  -- the sealed copies of a slot are the snapshot of its message, but for the number
  pub same_snapshot : (q : ℕ) (args : List ArgText) → slot_progress slot ≡ Ready args → snapshot_of_message q message ≡ Some (drawn_copies q (snapshot_with slot.head args))
  same_snapshot q args ready = λ k. snapshot_of_progress q (is.head k) ((same_progress ∙ ready) k)

-- ---- the verdict on copies

-- the number in copies tells nothing of the verdict on them
pub same_verdict : (q : ℕ) (s : Snapshot) (n : ℕ) (filters : List FilterValue) → verdict_from n filters (drawn_copies q s) ≡ verdict_from n filters s
same_verdict q s n [] = refl
same_verdict q s n (f ∷ filters) = ap (λ (v : Verdict). cond (holds f s) (verdict_by n f.grant s.ids f.action) v) (same_verdict q s (suc n) filters)

-- ---- which argument is needed next

-- the argument that is needed next has an index below this number
abbrev pub IsBelow : ℕ → Progress → Type 0
IsBelow n (Word part place) = part < n
IsBelow n (Look part name) = part < n
IsBelow n (Stuck errno) = Unit {0}
IsBelow n (Ready args) = Unit {0}

below_with : (n : ℕ) (arg : ArgText) (p : Progress) → IsBelow n p → IsBelow n (with_arg arg p)
below_with n arg (Word part place) is = is
below_with n arg (Look part name) is = is
below_with n arg (Stuck errno) is = tt
below_with n arg (Ready args) is = tt

below_front : (n j : ℕ) (p rest : Progress) → j < n → IsBelow n rest → IsBelow n (in_front j p rest)
below_front n j (Word part place) rest lt is = lt
below_front n j (Look part name) rest lt is = lt
below_front n j (Stuck errno) rest lt is = tt
below_front n j (Ready []) rest lt is = is
below_front n j (Ready (arg ∷ args)) rest lt is = below_with n arg rest is

below_from : (n j : ℕ) (specs : List ArgSpec) (asked : ArgRequest) (words : ℕ → List ℕ) (lookups : ℕ → List SeenText) → j + length specs ≡ n → IsBelow n (progress_from j specs asked words lookups)
below_from n j [] asked words lookups e = tt
below_from n j (spec ∷ specs) asked words lookups e =
    let follow : Bool = follows asked.call asked.regs spec.register in
    let spelled : Spelled = spell spec.kind (slice_index_or asked.regs spec.register 0) (words j) in
    let rest : Progress = progress_from (j + 1) specs asked words lookups in
    subst (IsBelow n) (sym (front_is j spec asked.cwd follow (lookups j) spelled rest))
    (below_front n j (progress_alone spec asked.cwd follow (lookups j) spelled) rest (omega (arith, e)) (below_from n (j + 1) specs asked words lookups (omega (arith, e))))

-- the argument that a slot needs next is one of its own
pub asked_inside : (slot : Slot) → length slot.parts ≡ length (args_of slot.head.rule) → IsBelow (length slot.parts) (slot_progress slot)
asked_inside slot count = below_from (length slot.parts) 0 (args_of slot.head.rule) (arg_request slot.head) (λ j. (part_at slot.parts j).words) (λ j. (part_at slot.parts j).lookups) (omega (arith, count))

-- ---- one more word or look

module _ (message : Message) (tid : ℕ) (slot : Slot) (is : IsSlotOf message tid slot) (part : ℕ) (inside : part < length slot.parts) where
  count_with : (filled : Filled) → length (with_part slot part filled).parts ≡ length (args_of slot.head.rule)
  count_with filled = length-set slot.parts part filled ∙ is.count

  here : (filled : Filled) → part_at (set slot.parts part filled) part ≡ filled
  here filled = get_or-set_same slot.parts part filled nothing_filled inside

  other : (filled : Filled) (j : ℕ) → (part ≡ j → ⊥) → part_at (set slot.parts part filled) j ≡ part_at slot.parts j
  other filled j ne = get_or-set_other slot.parts part j filled nothing_filled (λ e. ne (sym e))

  -- one more word of an argument
  pub word_kept : (word : ℕ) → IsSlotOf (record message { words = λ j. if part == j then message.words j ++ word ∷ [] else message.words j }) tid (with_part slot part (with_word (part_at slot.parts part) word))
  word_kept word = let filled : Filled = with_word (part_at slot.parts part) word in record {
    head = is.head;
    count = count_with filled;
    words = λ j. elim (cases_eq part j) [
      | inl e ↦ rw (eq-eqb part j e) (ap (λ (ws : List ℕ). ws ++ word ∷ []) (is.words j ∙ ap (λ (n : ℕ). (part_at slot.parts n).words) (sym e)) ∙ sym (ap (λ (n : ℕ). (part_at (set slot.parts part filled) n).words) (sym e) ∙ ap (λ (f : Filled). f.words) (here filled)))
      | inr ne ↦ rw (ne_eqb part j ne) (is.words j ∙ sym (ap (λ (f : Filled). f.words) (other filled j ne)))
    ];
    lookups = λ j. elim (cases_eq part j) [
      | inl e ↦ is.lookups j ∙ ap (λ (n : ℕ). (part_at slot.parts n).lookups) (sym e) ∙ sym (ap (λ (n : ℕ). (part_at (set slot.parts part filled) n).lookups) (sym e) ∙ ap (λ (f : Filled). f.lookups) (here filled))
      | inr ne ↦ is.lookups j ∙ sym (ap (λ (f : Filled). f.lookups) (other filled j ne))
    ];
  }

  -- one more look at the name of an argument
  pub look_kept : (seen : SeenText) → IsSlotOf (record message { lookups = λ j. if part == j then message.lookups j ++ seen ∷ [] else message.lookups j }) tid (with_part slot part (with_lookup (part_at slot.parts part) seen))
  look_kept seen = let filled : Filled = with_lookup (part_at slot.parts part) seen in record {
    head = is.head;
    count = count_with filled;
    words = λ j. elim (cases_eq part j) [
      | inl e ↦ is.words j ∙ ap (λ (n : ℕ). (part_at slot.parts n).words) (sym e) ∙ sym (ap (λ (n : ℕ). (part_at (set slot.parts part filled) n).words) (sym e) ∙ ap (λ (f : Filled). f.words) (here filled))
      | inr ne ↦ is.words j ∙ sym (ap (λ (f : Filled). f.words) (other filled j ne))
    ];
    lookups = λ j. elim (cases_eq part j) [
      | inl e ↦ rw (eq-eqb part j e) (ap (λ (ls : List SeenText). ls ++ seen ∷ []) (is.lookups j ∙ ap (λ (n : ℕ). (part_at slot.parts n).lookups) (sym e)) ∙ sym (ap (λ (n : ℕ). (part_at (set slot.parts part filled) n).lookups) (sym e) ∙ ap (λ (f : Filled). f.lookups) (here filled)))
      | inr ne ↦ rw (ne_eqb part j ne) (is.lookups j ∙ sym (ap (λ (f : Filled). f.lookups) (other filled j ne)))
    ];
  }
