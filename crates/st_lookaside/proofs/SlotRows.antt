-- The course of one message, computed: what it needs next, the slot after each word, look, renewal and seal, and what each number has.
use Rattle.std.proofs.Common.{◌≡◌, ◌≤◌, ℕ, true, false, List, [], ◌∷◌, ◌++◌, length, map, Some, None, refl, sym, subst, arith, codes, replicate}
use Rattle.std.proofs.lemmas.Option.{none-some}
use Rattle.st_base.specs.Ids.{identity}
use Rattle.st_base.specs.declared.errno.Errno.TheVariants.{EFAULT}
use Rattle.st_base.specs.declared.ids.Ids.{Ids}
use Rattle.st_calls.specs.declared.argument.ArgText.{ArgText}
use Rattle.st_calls.specs.declared.argument.Label.TheVariants.{Filename}
use Rattle.st_calls.specs.declared.call.SysCall.TheVariants as call
use Rattle.st_calls.specs.declared.judged.Snapshot.{Snapshot}
use Rattle.st_calls.specs.declared.rule.Rule.TheVariants.{Call}
use Rattle.st_names.specs.Name.{Components, components_of, printed_name}
use Rattle.st_names.specs.declared.seen.SeenText.TheVariants as seen
use Rattle.st_effects.specs.Progress.{Ready, Stuck}
use Rattle.st_lookaside.specs.Need.{IsShort}
use Rattle.st_lookaside.specs.Slot.{Slot, after_look, after_word, new_slot, next_need, slot_progress, renewed, sealed_slot, snapshot_with}
use Rattle.st_lookaside.specs.Slots.{slot_at, ChangesSlot, RenewsSlot}
use Rattle.st_lookaside.specs.declared.head.Head.{Head}
use Rattle.st_lookaside.specs.declared.head.Renewal.{Renewal}
use Rattle.st_lookaside.specs.declared.slot.Next.TheVariants as next

-- a rename of the name at byte 0 to the name at byte 8, from the directory /w
abbrev ids : Ids
ids = record { ruid = 3; euid = 4; rgid = 5; egid = 6 }

abbrev head : Head
head = record {
  drawing = 1;
  seq = 11;
  pid = 2;
  ids = ids;
  cwd = components_of (codes "/w");
  policy = codes "/bin/mv";
  version = 0;
  rule = Call call.Rename;
  call = call.Rename;
  regs = 0 ∷ 8 ∷ 0 ∷ 0 ∷ 0 ∷ 0 ∷ [];
}

-- its slot step by step: the words are "a" and "b", /w/a is a file and /w/b is missing
abbrev begun : Slot
begun = new_slot head

abbrev copied : Slot
copied = after_word begun 97

abbrev looked : Slot
looked = after_look copied seen.File

abbrev copied_both : Slot
copied_both = after_word looked 98

abbrev done : Slot
done = after_look copied_both seen.Missing

needed : map (λ slot. next_need (slot_progress slot)) (begun ∷ copied ∷ looked ∷ copied_both ∷ done ∷ [])
    ≡ next.Word 0 0 ∷ next.Look 0 ∷ next.Word 1 1 ∷ next.Look 1 ∷ next.Ready ∷ []
needed = refl

filled : done.parts ≡ record { words = 97 ∷ []; lookups = seen.File ∷ [] } ∷
    record { words = 98 ∷ []; lookups = seen.Missing ∷ [] } ∷ []
filled = refl

abbrev name : ℕ → List ℕ → ArgText
name index text = record { label = Filename; index = index; text = text }

texts : slot_progress done ≡ Ready (name 0 (codes "/w/a") ∷ name 1 (codes "/w/b") ∷ [])
texts = refl

-- byte 65,536 is the first outside memory
outside : slot_progress (new_slot (record head { regs = 65536 ∷ 8 ∷ 0 ∷ 0 ∷ 0 ∷ 0 ∷ [] })) ≡ Stuck EFAULT
outside = refl

-- the drawing, number, ids, directory and version of a renewal are new, everything else in the message stays, and nothing is copied or seen
abbrev renewal : Renewal
renewal = record { ids = identity 7 8; cwd = components_of (codes "/v"); version = 3 }

begun_anew : renewed done 9 19 renewal ≡ record {
  head = record head { drawing = 9; seq = 19; ids = identity 7 8; cwd = components_of (codes "/v"); version = 3 };
  parts = record { words = []; lookups = [] } ∷ record { words = []; lookups = [] } ∷ [];
  is_sealed = false;
}
begun_anew = refl

-- a seal changes nothing else, and a renewal undoes it
seal_only : (sealed_slot done).is_sealed ≡ true
seal_only = refl

same_parts : (sealed_slot done).parts ≡ done.parts
same_parts = refl

unsealed_anew : renewed (sealed_slot done) 9 19 renewal ≡ renewed done 9 19 renewal
unsealed_anew = refl

abbrev sealed : Snapshot
sealed = record {
  seq = 11;
  pid = 2;
  ids = ids;
  policy = codes "/bin/mv";
  version = 0;
  rule = Call call.Rename;
  call = call.Rename;
  regs = 0 ∷ 8 ∷ 0 ∷ 0 ∷ 0 ∷ 0 ∷ [];
  parts = name 0 (codes "/w/a") ∷ [];
}

sealed_is : snapshot_with head (name 0 (codes "/w/a") ∷ []) ≡ sealed
sealed_is = refl

-- it is judged by the version of the renewal from then on
judged_anew : snapshot_with (renewed done 9 19 renewal).head (name 0 (codes "/w/a") ∷ []) ≡ record sealed { seq = 19; ids = identity 7 8; version = 3 }
judged_anew = refl

-- ---- numbers

abbrev numbered : ℕ → Slot
numbered drawing = new_slot (record head { drawing = drawing })

abbrev three : List Slot
three = numbered 2 ∷ numbered 5 ∷ numbered 7 ∷ []

found : map (slot_at three) (1 ∷ 2 ∷ 5 ∷ 6 ∷ 7 ∷ []) ≡ None ∷ Some (numbered 2) ∷ Some (numbered 5) ∷ None ∷ Some (numbered 7) ∷ []
found = refl

-- if the slot of 2 is removed, that of 5 may not be removed with it
no_other_goes : ChangesSlot three 2 None (numbered 7 ∷ []) → ⊥
no_other_goes changes = none-some (numbered 5) (changes 5)

-- if 2 is renewed as 9, that of 5 may not be removed with it, and 2 no longer has a slot
no_other_is_renewed : RenewsSlot three 2 9 (numbered 9) (numbered 7 ∷ numbered 9 ∷ []) → ⊥
no_other_is_renewed renews = none-some (numbered 5) (renews 5)

no_number_stays : RenewsSlot three 2 9 (numbered 9) (three ++ numbered 9 ∷ []) → ⊥
no_number_stays renews = none-some (numbered 2) (sym (renews 2))

-- ---- directories: four components of 255 bytes are 1,024 with their slashes

abbrev longest : Components
longest = replicate 4 (replicate 255 97)

longest_bytes : length (printed_name longest) ≡ 1024
longest_bytes = refl

longest_is_short : IsShort longest
longest_is_short = subst (λ (n : ℕ). n ≤ 1024) (sym longest_bytes) (omega arith)

longer_bytes : length (printed_name (longest ++ [] ∷ [])) ≡ 1025
longer_bytes = refl

longer_is_none : IsShort (longest ++ [] ∷ []) → ⊥
longer_is_none short = let most = subst (λ (n : ℕ). n ≤ 1024) longer_bytes short in omega (arith, most)
