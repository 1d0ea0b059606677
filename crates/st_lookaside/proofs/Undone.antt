-- Which argument the last word or look was for.
use Rattle.std.proofs.Common.{◌≡◌, ◌<◌, ℕ, ◌+◌, ◌/◌, Bool, true, false, cond, nat_lt, nat_le, List, [], ◌∷◌, length, map, take, get_or, set, ◌⊎◌, inl, inr, refl, ap, sym, ◌∙◌, subst, arith, length-append}
use Rattle.std.proofs.lemmas.Bool.{cases_eq, cases_lt, ltb-false, true≢false}
use Rattle.std.proofs.lemmas.List.{get_or-map, get_or-set_other, get_or-set_same, length-map, length-set, set-get_or}
use Rattle.std.proofs.Math.Seq.{set-set}
use Rattle.std.specs.List.{position}
use Rattle.st_base.specs.declared.errno.Errno.TheVariants.{EFAULT}
use Rattle.st_calls.specs.Argument.{args_of}
use Rattle.st_calls.specs.declared.argument.ArgSpec.{ArgSpec}
use Rattle.st_calls.specs.declared.argument.PartKind.{PartKind}
use Rattle.st_calls.specs.declared.argument.PartKind.TheVariants as kind
use Rattle.st_effects.specs.Progress.{ArgRequest, Progress, Word, Look, Stuck, Ready, progress_from, progress_of_text, with_arg, is_followed}
use Rattle.st_lookaside.specs.Head.{arg_request}
use Rattle.st_lookaside.specs.Need.{need_of, progress_alone}
use Rattle.st_lookaside.specs.Part.{Filled, filled_of, is_begun, nothing_filled, with_lookup, with_word, spelled_of, words_in, AreAskedLooks, IsPart}
use Rattle.st_lookaside.specs.Slot.{Slot, kept_slot, part_at, part_next, slot_progress, with_part, AreNotBegun, IsDue, IsInOrder, IsLastBegun, IsSlot}
use Rattle.st_lookaside.specs.declared.head.Head.{Head}
use Rattle.st_lookaside.specs.declared.need.Need.{Need}
use Rattle.st_lookaside.specs.declared.need.Need.TheVariants as need
use Rattle.st_lookaside.specs.declared.part.Part.{Part}
use Rattle.st_lookaside.proofs.Progress.{front_is, in_front}
use Rattle.st_lookaside.proofs.Turns.{IsTurn}
use Rattle.st_model.specs.Spelling as spelling
use Rattle.st_model.specs.declared.limits.TheConstants.{SPACE_WORDS}
use Rattle.st_names.specs.Name.{Components}
use Rattle.st_names.specs.declared.limits.TheConstants.{LONGEST_NAME}
use Rattle.st_names.specs.declared.seen.SeenText.{SeenText}
use Rattle.st_translate.proofs.Letters.{bytes_of_none}

-- ---- nothing is seen of an argument of which no word is copied

next_no_text : (b : Bool) (place : ℕ) (text : List ℕ) → cond b (spelling.Fault EFAULT) (spelling.More place) ≡ spelling.Text text → ⊥
next_no_text true place text e = cc
next_no_text false place text e = cc

-- no words spell no name
no_name : (at : ℕ) (text : List ℕ) → spelling.spell_name at [] ≡ spelling.Text text → ⊥
no_name at text e =
    next_no_text (nat_le SPACE_WORDS (at / 8 + 0)) (at / 8 + 0) text
    (sym (ap (λ (bytes : List ℕ). spelling.text_before_zero LONGEST_NAME bytes (at / 8 + 0) (position spelling.is_zero (take (LONGEST_NAME + 1) bytes))) (bytes_of_none at)) ∙ e)

look_is_text : (k : PartKind) (spec : ArgSpec) (cwd : Components) (follow : Bool) (lookups : List SeenText) (text : List ℕ) → need_of (progress_of_text k 0 spec cwd follow lookups text (Ready [])) ≡ need.Look → k ≡ kind.Name
look_is_text kind.Name spec cwd follow lookups text e = refl
look_is_text kind.Plain spec cwd follow lookups text e = cc
look_is_text kind.Addr spec cwd follow lookups text e = cc
look_is_text kind.Argv spec cwd follow lookups text e = cc
look_is_text kind.Decimal spec cwd follow lookups text e = cc
look_is_text kind.Octal spec cwd follow lookups text e = cc
look_is_text kind.Domain spec cwd follow lookups text e = cc
look_is_text kind.SockType spec cwd follow lookups text e = cc

look_is_name : (spec : ArgSpec) (cwd : Components) (follow : Bool) (lookups : List SeenText) (s : spelling.Spelled) → need_of (progress_alone spec cwd follow lookups s) ≡ need.Look → (text : List ℕ) × (s ≡ spelling.Text text) × (spec.kind ≡ kind.Name)
look_is_name spec cwd follow lookups (spelling.More place) e = cc
look_is_name spec cwd follow lookups (spelling.Fault errno) e = cc
look_is_name spec cwd follow lookups (spelling.Text text) e = (text, refl, look_is_text spec.kind spec cwd follow lookups text e)

no_text : (asked : ArgRequest) (spec : ArgSpec) (words text : List ℕ) → words ≡ [] → spec.kind ≡ kind.Name → spelled_of asked spec words ≡ spelling.Text text → ⊥
no_text asked spec words text none is e =
    no_name (get_or asked.regs spec.register 0) text (sym (ap (λ (k : PartKind). spelling.spell k (get_or asked.regs spec.register 0) []) is) ∙ sym (ap (spelled_of asked spec) none) ∙ e)

no_lookups : (asked : ArgRequest) (spec : ArgSpec) (words : List ℕ) (lookups : List SeenText) → words ≡ [] → AreAskedLooks asked spec words lookups → lookups ≡ []
no_lookups asked spec words [] none seen = refl
no_lookups asked spec words (s ∷ lookups) none seen =
    let name = look_is_name spec asked.cwd (is_followed asked spec) [] (spelled_of asked spec words) (seen 0 (omega arith)) in
    absurd (no_text asked spec words name.0 none name.2 name.1)

empty_by : (words : List ℕ) → nat_lt 0 (length words) ≡ false → words ≡ []
empty_by [] e = refl
empty_by (word ∷ words) e = absurd (let few = ltb-false 0 (length (word ∷ words)) e in omega (arith, few))

pub not_begun : (asked : ArgRequest) (part : Part) → IsPart asked part → is_begun (filled_of part) ≡ false → filled_of part ≡ nothing_filled
not_begun asked part is e =
    let words : words_in part.copying ≡ [] = empty_by (words_in part.copying) e in
    let lookups = no_lookups asked part.spec (words_in part.copying) part.lookups.items words is.seen in
    λ k. record { words = words k; lookups = lookups k }

-- ---- the last argument of which a word is copied may change

finished_or : (n : Need) → (n ≡ need.Nothing) ⊎ (n ≡ need.Nothing → ⊥)
finished_or (need.Word place) = inr (λ e. cc)
finished_or need.Look = inr (λ e. cc)
finished_or (need.Fault errno) = inr (λ e. cc)
finished_or need.Nothing = inl refl

pub turn_of_last : (head : Head) (parts : List Part) (j : ℕ) → IsSlot head parts → IsLastBegun parts j → IsTurn parts j
turn_of_last head parts j slot last = record {
  within = last.within;
  before = λ k d lt. elim (finished_or (get_or parts k d).need) [
    | inl e ↦ e
    | inr open_one ↦ absurd (true≢false (sym (last.begun d) ∙ ap is_begun (slot.order k j d lt last.within open_one)))
  ];
  following = λ k d lt within. not_begun (arg_request head) (get_or parts k d) (slot.parts k d within) (last.following k d (omega (arith, lt)) within);
}

-- ---- the argument that was changed last

due_with_arg : (arg : _) (p : Progress) → IsDue (with_arg arg p) → IsDue p × (part_next (with_arg arg p) ≡ part_next p)
due_with_arg arg (Word part place) due = (tt, refl)
due_with_arg arg (Look part name) due = (tt, refl)
due_with_arg arg (Stuck errno) due = absurd due
due_with_arg arg (Ready args) due = absurd due

next_in_front : (j : ℕ) (p rest : Progress) → IsDue (in_front j p rest) → (part_next (in_front j p rest) ≡ j) ⊎ (IsDue rest × (part_next (in_front j p rest) ≡ part_next rest))
next_in_front j (Word part place) rest due = inl refl
next_in_front j (Look part name) rest due = inl refl
next_in_front j (Stuck errno) rest due = absurd due
next_in_front j (Ready []) rest due = inr (due, refl)
next_in_front j (Ready (arg ∷ args)) rest due = inr (due_with_arg arg rest due)

next_within : (asked : ArgRequest) (specs : List ArgSpec) (j : ℕ) (words : ℕ → List ℕ) (lookups : ℕ → List SeenText) → IsDue (progress_from j specs asked words lookups) → part_next (progress_from j specs asked words lookups) < j + length specs
next_within asked [] j words lookups due = absurd due
next_within asked (spec ∷ specs) j words lookups due =
    let rest : Progress = progress_from (j + 1) specs asked words lookups in
    let alone : Progress = progress_alone spec asked.cwd (is_followed asked spec) (lookups j) (spelled_of asked spec (words j)) in
    let front : progress_from j (spec ∷ specs) asked words lookups ≡ in_front j alone rest = front_is j spec asked.cwd (is_followed asked spec) (lookups j) (spelled_of asked spec (words j)) rest in
    elim (next_in_front j alone rest (subst IsDue front due)) [
      | inl here ↦ (let at = ap part_next front ∙ here in omega (arith, at))
      | inr later ↦ (let at = ap part_next front ∙ later.1 in let within = next_within asked specs (j + 1) words lookups later.0 in omega (arith, at, within))
    ]

item_of : (parts : List Part) (n : ℕ) → n < length parts → Part
item_of [] n within = absurd (omega arith)
item_of (part ∷ parts) n within = part

pub some_word : (filled : Filled) (word : ℕ) → with_word filled word ≡ nothing_filled → ⊥
some_word filled word e = let none = ap (λ (f : Filled). length f.words) e in omega (arith, none, length-append filled.words (word ∷ []))

pub some_look : (filled : Filled) (seen : SeenText) → with_lookup filled seen ≡ nothing_filled → ⊥
some_look filled seen e = let none = ap (λ (f : Filled). length f.lookups) e in omega (arith, none, length-append filled.lookups (seen ∷ []))

module _ (head : Head) (parts : List Part) (sealed : Bool) (now before : Slot) (filled : Filled) (slot : IsSlot head parts) (view : kept_slot head parts sealed ≡ now)
    (order : IsInOrder before) (due : IsDue (slot_progress before)) (some : filled ≡ nothing_filled → ⊥) (is : now ≡ with_part before (part_next (slot_progress before)) filled) where
  -- nothing was sealed since
  pub unsealed_now : kept_slot head parts false ≡ now
  unsealed_now = subst (λ (b : Bool). kept_slot head parts b ≡ now) (ap (λ (s : Slot). s.is_sealed) (view ∙ is) ∙ order.unsealed due) view

  kept_now : map filled_of parts ≡ set before.parts (part_next (slot_progress before)) filled
  kept_now = ap (λ (s : Slot). s.parts) (view ∙ is)

  changed_within : part_next (slot_progress before) < length parts
  changed_within =
      let few = next_within (arg_request before.head) (args_of before.head.rule) 0 (λ j. (part_at before.parts j).words) (λ j. (part_at before.parts j).lookups) due in
      let same = ap (λ (s : Slot). length (args_of s.head.rule)) (view ∙ is) in
      let specs = ap length slot.specs in
      omega (arith, few, same, specs, length-map parts (λ (p : Part). p.spec))

  changed_filled : (d : Part) → filled_of (get_or parts (part_next (slot_progress before)) d) ≡ filled
  changed_filled d =
      let long = ap length kept_now in
      sym (get_or-map filled_of parts (part_next (slot_progress before)) d nothing_filled changed_within)
      ∙ ap (λ (l : List Filled). get_or l (part_next (slot_progress before)) nothing_filled) kept_now
      ∙ get_or-set_same before.parts (part_next (slot_progress before)) filled nothing_filled (omega (arith, long, changed_within, length-map parts filled_of, length-set before.parts (part_next (slot_progress before)) filled))

  after_changed : (k : ℕ) (d : Part) → part_next (slot_progress before) < k → k < length parts → filled_of (get_or parts k d) ≡ nothing_filled
  after_changed k d lt within =
      sym (get_or-map filled_of parts k d nothing_filled within)
      ∙ ap (λ (l : List Filled). get_or l k nothing_filled) kept_now
      ∙ get_or-set_other before.parts (part_next (slot_progress before)) k filled nothing_filled (λ e. let same : k ≡ part_next (slot_progress before) = e in omega (arith, same, lt))
      ∙ order.following due k lt

  begun_by : (d : Part) (b : Bool) → is_begun (filled_of (get_or parts (part_next (slot_progress before)) d)) ≡ b → b ≡ true
  begun_by d true e = refl
  begun_by d false e =
      absurd (some (sym (changed_filled d) ∙ not_begun (arg_request head) (get_or parts (part_next (slot_progress before)) d) (slot.parts (part_next (slot_progress before)) d changed_within) e))

  -- it is the last argument of which a word is copied
  pub changed_last : (j : ℕ) (part : Part) → IsLastBegun parts j → part ≡ get_or parts j part → (part_next (slot_progress before) ≡ j) × (filled_of part ≡ filled)
  changed_last j part last here = elim (cases_eq (part_next (slot_progress before)) j) [
    | inl e ↦ (e, ap filled_of here ∙ sym (ap (λ (n : ℕ). filled_of (get_or parts n part)) e) ∙ changed_filled part)
    | inr ne ↦ elim (cases_lt (part_next (slot_progress before)) j) [
      | inl lt ↦ absurd (true≢false (sym (last.begun part) ∙ ap is_begun (after_changed j part lt last.within)))
      | inr ge ↦ absurd (true≢false (sym (begun_by part _ refl) ∙ last.following (part_next (slot_progress before)) part (omega (arith, ne, ge)) changed_within))
    ]
  ]

  -- some argument has a word
  pub changed_begun : AreNotBegun parts 0 → ⊥
  changed_begun none = let d = item_of parts (part_next (slot_progress before)) changed_within in true≢false (sym (begun_by d _ refl) ∙ none (part_next (slot_progress before)) d (omega arith) changed_within)

  -- that change is undone
  pub undone : (j : ℕ) → part_next (slot_progress before) ≡ j → with_part now j (part_at before.parts (part_next (slot_progress before))) ≡ before
  undone j e =
      let was : Filled = part_at before.parts (part_next (slot_progress before)) in
      ap (λ (n : ℕ). with_part now n was) (sym e)
      ∙ ap (λ (s : Slot). with_part s (part_next (slot_progress before)) was) is
      ∙ ap (λ (l : List Filled). record before { parts = l }) (set-set before.parts (part_next (slot_progress before)) filled was ∙ set-get_or before.parts (part_next (slot_progress before)) nothing_filled)
