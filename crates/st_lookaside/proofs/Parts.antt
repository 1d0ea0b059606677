-- How one more word or look changes an argument.
use Rattle.std.proofs.Common.{◌≡◌, ◌<◌, ◌≤◌, ℕ, zero, suc, Bool, List, [], ◌∷◌, ◌++◌, length, take, Option, Some, refl, ap, sym, ◌∙◌, subst, arith, append_assoc, append-nil, length-append, inl, inr}
use Rattle.std.proofs.lemmas.Bool.{cases_eq}
use Rattle.st_calls.specs.declared.argument.ArgSpec.{ArgSpec}
use Rattle.st_calls.specs.declared.argument.PartKind.{PartKind}
use Rattle.st_calls.specs.declared.argument.PartKind.TheVariants as kind
use Rattle.st_effects.specs.Progress.{ArgRequest, Ready, progress_of_text, progress_of_walk, is_followed}
use Rattle.st_lookaside.specs.Need.{need_of, need_of_walk, progress_alone, IsInside, IsWord}
use Rattle.st_lookaside.specs.Part.{progress_of_arg, spelled_of, words_in, AreAskedLooks, IsCopyOf, IsPart, IsWalk, IsWalkOf}
use Rattle.st_lookaside.specs.declared.need.Need.TheVariants as need
use Rattle.st_lookaside.specs.declared.part.Part.{Part}
use Rattle.st_model.specs.Spelling as spelling
use Rattle.st_model.specs.Walk as model
use Rattle.st_model.specs.Walk.{WalkState, start_walk}
use Rattle.st_names.specs.Name.{Components}
use Rattle.st_names.specs.declared.seen.SeenText.{SeenText}
use Rattle.st_resolve.specs.Walk.{Walk, walk_step, walk_from}
use Rattle.st_resolve.specs.declared.walk.WalkStep.{WalkStep}
use Rattle.st_resolve.specs.declared.walk.WalkStep.TheVariants as step
use Rattle.st_translate.specs.Copied as translate
use Rattle.st_translate.specs.Copied.{Copied, spelled_words}

-- ---- a text needs no word

walk_needs : (spec : ArgSpec) (w : WalkState) → need_of (progress_of_walk 0 spec w (Ready [])) ≡ need_of_walk (walk_step w)
walk_needs spec (model.Next name) = refl
walk_needs spec (model.Fault errno) = refl
walk_needs spec (model.Name name) = refl

step_no_word : (s : WalkStep) → IsWord (need_of_walk s) → ⊥
step_no_word step.More is = is
step_no_word step.Name is = is
step_no_word (step.Fault errno) is = is

text_no_word : (k : PartKind) (spec : ArgSpec) (cwd : Components) (follow : Bool) (lookups : List SeenText) (text : List ℕ) → IsWord (need_of (progress_of_text k 0 spec cwd follow lookups text (Ready []))) → ⊥
text_no_word kind.Name spec cwd follow lookups text is =
    step_no_word (walk_step (start_walk text cwd follow lookups)) (subst IsWord (walk_needs spec (start_walk text cwd follow lookups)) is)
text_no_word kind.Plain spec cwd follow lookups text is = is
text_no_word kind.Addr spec cwd follow lookups text is = is
text_no_word kind.Argv spec cwd follow lookups text is = is
text_no_word kind.Decimal spec cwd follow lookups text is = is
text_no_word kind.Octal spec cwd follow lookups text is = is
text_no_word kind.Domain spec cwd follow lookups text is = is
text_no_word kind.SockType spec cwd follow lookups text is = is

-- a word that is needed is needed whatever was seen
word_alone : (spec : ArgSpec) (cwd : Components) (follow : Bool) (lookups other : List SeenText) (s : spelling.Spelled) →
    IsWord (need_of (progress_alone spec cwd follow lookups s)) → need_of (progress_alone spec cwd follow other s) ≡ need.Look → ⊥
word_alone spec cwd follow lookups other (spelling.More place) is look = cc
word_alone spec cwd follow lookups other (spelling.Fault errno) is look = is
word_alone spec cwd follow lookups other (spelling.Text text) is look = text_no_word spec.kind spec cwd follow lookups text is

unseen_by : (asked : ArgRequest) (spec : ArgSpec) (words : List ℕ) (lookups : List SeenText) → AreAskedLooks asked spec words lookups → IsWord (need_of (progress_of_arg asked spec words lookups)) → lookups ≡ []
unseen_by asked spec words [] seen is = refl
unseen_by asked spec words (s ∷ lookups) seen is = absurd (word_alone spec asked.cwd (is_followed asked spec) (s ∷ lookups) [] (spelled_of asked spec words) is (seen 0 (omega arith)))

-- nothing is seen of an argument that needs a word
pub unseen : (asked : ArgRequest) (part : Part) → IsPart asked part → IsWord part.need → part.lookups.items ≡ []
unseen asked part is word = unseen_by asked part.spec (words_in part.copying) part.lookups.items is.seen (subst IsWord is.need word)

-- ---- one more look

name_by : (k : PartKind) (asked : ArgRequest) (spec : ArgSpec) (lookups : List SeenText) (s : spelling.Spelled) (text : List ℕ) → k ≡ kind.Name → s ≡ spelling.Text text → spec.kind ≡ k →
    progress_alone spec asked.cwd (is_followed asked spec) lookups s ≡ progress_of_walk 0 spec (start_walk text asked.cwd (is_followed asked spec) lookups) (Ready [])
name_by k asked spec lookups s text is done of =
    ap (λ (t : spelling.Spelled). progress_alone spec asked.cwd (is_followed asked spec) lookups t) done
    ∙ ap (λ (j : PartKind). progress_of_text j 0 spec asked.cwd (is_followed asked spec) lookups text (Ready [])) (of ∙ is)

-- the progress of a name that is completely copied is that of its walk
pub name_progress : (asked : ArgRequest) (spec : ArgSpec) (words : List ℕ) (lookups : List SeenText) (text : List ℕ) → spec.kind ≡ kind.Name → spelled_of asked spec words ≡ spelling.Text text →
    progress_of_arg asked spec words lookups ≡ progress_of_walk 0 spec (start_walk text asked.cwd (is_followed asked spec) lookups) (Ready [])
name_progress asked spec words lookups text is done = name_by spec.kind asked spec lookups (spelled_of asked spec words) text is done refl

pub name_need : (asked : ArgRequest) (spec : ArgSpec) (words : List ℕ) (lookups : List SeenText) (text : List ℕ) → spec.kind ≡ kind.Name → spelled_of asked spec words ≡ spelling.Text text →
    need_of (progress_of_arg asked spec words lookups) ≡ need_of_walk (walk_step (start_walk text asked.cwd (is_followed asked spec) lookups))
name_need asked spec words lookups text is done =
    ap need_of (name_progress asked spec words lookups text is done) ∙ walk_needs spec (start_walk text asked.cwd (is_followed asked spec) lookups)

walk_inside : (s : WalkStep) → IsInside (need_of_walk s)
walk_inside step.More = tt
walk_inside step.Name = tt
walk_inside (step.Fault errno) = tt

front_kept : (lookups : List SeenText) (s : SeenText) (count : ℕ) → count ≤ length lookups → take count (lookups ++ s ∷ []) ≡ take count lookups
front_kept lookups s zero within = refl
front_kept [] s (suc count) within = absurd (omega arith)
front_kept (x ∷ lookups) s (suc count) within = ap (λ (rest : List SeenText). x ∷ rest) (front_kept lookups s count (omega arith))

whole : (lookups : List SeenText) → take (length lookups) lookups ≡ lookups
whole [] = refl
whole (x ∷ lookups) = ap (λ (rest : List SeenText). x ∷ rest) (whole lookups)

asked_more : (asked : ArgRequest) (spec : ArgSpec) (words : List ℕ) (lookups : List SeenText) (s : SeenText) → AreAskedLooks asked spec words lookups → need_of (progress_of_arg asked spec words lookups) ≡ need.Look →
    AreAskedLooks asked spec words (lookups ++ s ∷ [])
asked_more asked spec words lookups s seen look count within =
    let len = length-append lookups (s ∷ []) in
    let front = front_kept lookups s count (omega (arith, len, within)) in
    elim (cases_eq count (length lookups)) [
      | inl e ↦ ap (λ (l : List SeenText). need_of (progress_of_arg asked spec words l)) (front ∙ ap (λ (n : ℕ). take n lookups) e ∙ whole lookups) ∙ look
      | inr ne ↦ ap (λ (l : List SeenText). need_of (progress_of_arg asked spec words l)) front ∙ seen count (omega (arith, len, within, ne))
    ]

-- the walk after one more look
pub walk_more : (asked : ArgRequest) (spec : ArgSpec) (words : List ℕ) (lookups after : List SeenText) (walk new : Walk) (s : SeenText) → IsWalk asked spec words lookups walk →
    ((more : List SeenText) → walk_from new more ≡ walk_from walk (s ∷ more)) → after ≡ lookups ++ s ∷ [] → IsWalk asked spec words after new
walk_more asked spec words lookups after walk new s is goes_on after_is = record {
  text = is.text;
  is_name = is.is_name;
  text_is = is.text_is;
  goes_on = λ more. goes_on more ∙ is.goes_on (s ∷ more) ∙ sym (ap (λ (l : List SeenText). start_walk is.text asked.cwd (is_followed asked spec) l) (ap (λ (l : List SeenText). l ++ more) after_is ∙ append_assoc lookups (s ∷ []) more));
}

-- what an argument needs, by the last step of its walk
pub need_by_walk : (asked : ArgRequest) (spec : ArgSpec) (words : List ℕ) (lookups : List SeenText) (walk : Walk) → IsWalk asked spec words lookups walk → need_of (progress_of_arg asked spec words lookups) ≡ need_of_walk (walk_step (walk_from walk []))
need_by_walk asked spec words lookups walk is =
    name_need asked spec words lookups is.text is.is_name is.text_is
    ∙ sym (ap (λ (w : WalkState). need_of_walk (walk_step w)) (is.goes_on [] ∙ ap (λ (l : List SeenText). start_walk is.text asked.cwd (is_followed asked spec) l) (append-nil lookups)))

-- the argument after one more look
pub part_seen : (asked : ArgRequest) (part after : Part) (walk new : Walk) (s : SeenText) → IsPart asked part → part.need ≡ need.Look → part.walk ≡ Some walk →
    ((more : List SeenText) → walk_from new more ≡ walk_from walk (s ∷ more)) → after.need ≡ need_of_walk (walk_step (walk_from new [])) → after.lookups.items ≡ part.lookups.items ++ s ∷ [] →
    after.spec ≡ part.spec → after.copying ≡ part.copying → after.walk ≡ Some new → IsPart asked after
part_seen asked part after walk new s is look readied goes_on n_is kept_is same_spec same_copy readied_after =
    let words = words_in part.copying in
    let old : IsWalk asked part.spec words part.lookups.items walk = subst (λ (w : Option Walk). IsWalkOf asked part.spec words part.lookups.items w) readied is.walk in
    let more : IsWalk asked part.spec words after.lookups.items new = walk_more asked part.spec words part.lookups.items after.lookups.items walk new s old goes_on kept_is in
    let seen : AreAskedLooks asked part.spec words after.lookups.items = subst (AreAskedLooks asked part.spec words) (sym kept_is) (asked_more asked part.spec words part.lookups.items s is.seen (sym is.need ∙ look)) in
    record {
      copied = subst (λ (sp : ArgSpec). IsCopyOf asked sp after.copying) (sym same_spec) (subst (IsCopyOf asked part.spec) (sym same_copy) is.copied);
      need = n_is ∙ sym (need_by_walk asked part.spec words after.lookups.items new more)
          ∙ sym (ap (λ (sp : ArgSpec). need_of (progress_of_arg asked sp (words_in after.copying) after.lookups.items)) same_spec ∙ ap (λ (c : Option Copied). need_of (progress_of_arg asked part.spec (words_in c) after.lookups.items)) same_copy);
      inside = subst IsInside (sym n_is) (walk_inside (walk_step (walk_from new [])));
      seen = subst (λ (sp : ArgSpec). AreAskedLooks asked sp (words_in after.copying) after.lookups.items) (sym same_spec) (subst (λ (c : Option Copied). AreAskedLooks asked part.spec (words_in c) after.lookups.items) (sym same_copy) seen);
      walk = subst (λ (sp : ArgSpec). IsWalkOf asked sp (words_in after.copying) after.lookups.items after.walk) (sym same_spec)
          (subst (λ (c : Option Copied). IsWalkOf asked part.spec (words_in c) after.lookups.items after.walk) (sym same_copy) (subst (λ (w : Option Walk). IsWalkOf asked part.spec words after.lookups.items w) (sym readied_after) more));
    }

-- ---- the walk of what was copied

-- what the words of a copy spell
pub copy_spelled : (asked : ArgRequest) (spec : ArgSpec) (part : Option Copied) (copied : Copied) → part ≡ Some copied → IsCopyOf asked spec part → spelled_words copied ≡ spelled_of asked spec (words_in part)
copy_spelled asked spec part copied is copy =
    let of : IsCopyOf asked spec (Some copied) = subst (IsCopyOf asked spec) is copy in
    ap (λ (k : PartKind). spelling.spell k copied.at copied.words) of.0 ∙ ap (λ (at : ℕ). spelling.spell spec.kind at copied.words) of.1 ∙ ap (spelled_of asked spec) (sym (ap words_in is))

pub walk_first : (asked : ArgRequest) (spec : ArgSpec) (part : Option Copied) (copied : Copied) (lookups : List SeenText) (text : List ℕ) (walk : Walk) → part ≡ Some copied → IsCopyOf asked spec part → spec.kind ≡ kind.Name → spelled_words copied ≡ spelling.Text text →
    ((l : List SeenText) → walk_from walk l ≡ start_walk text asked.cwd (is_followed asked spec) l) → lookups ≡ [] → IsWalk asked spec (words_in part) lookups walk
walk_first asked spec part copied lookups text walk is copy name done goes_on none = record {
  text = text;
  is_name = name;
  text_is = sym (copy_spelled asked spec part copied is copy) ∙ done;
  goes_on = λ more. goes_on more ∙ sym (ap (λ (l : List SeenText). start_walk text asked.cwd (is_followed asked spec) (l ++ more)) none);
}

step_asks : (s : WalkStep) → need_of_walk s ≡ need.Look → s ≡ step.More
step_asks step.More e = refl
step_asks step.Name e = cc
step_asks (step.Fault errno) e = cc

-- the walk needs each look that was answered
pub walk_asks : (asked : ArgRequest) (spec : ArgSpec) (words : List ℕ) (lookups : List SeenText) (walk : Walk) → IsWalk asked spec words lookups walk → need_of (progress_of_arg asked spec words lookups) ≡ need.Look → walk_step (walk_from walk []) ≡ step.More
walk_asks asked spec words lookups walk is look = step_asks _ (sym (need_by_walk asked spec words lookups walk is) ∙ look)

-- ---- the last word is undone

parted : (words : List ℕ) → 0 < length words → (front : List ℕ) × (last : ℕ) × (words ≡ front ++ last ∷ [])
parted [] some = absurd (omega arith)
parted (x ∷ []) some = ([], x, refl)
parted (x ∷ y ∷ words) some = let rest = parted (y ∷ words) (omega arith) in (x ∷ rest.0, rest.1, ap (λ (l : List ℕ). x ∷ l) rest.2)

-- the copy of fewer words
abbrev pub copy_with : Copied → List ℕ → Copied
copy_with copied words = record { kind = copied.kind; at = copied.at; words = words }

pub taken_back : (old new : Copied) (front : List ℕ) (word : ℕ) → ((before : Copied) (word : ℕ) → old ≡ translate.with_word before word → new ≡ before) → old.words ≡ front ++ word ∷ [] → new ≡ copy_with old front
taken_back old new front word back is = back (copy_with old front) word (ap (copy_with old) is)

-- the copy of fewer words is still of its argument
pub copy_back : (asked : ArgRequest) (spec : ArgSpec) (part : Option Copied) (old new : Copied) → part ≡ Some old → IsCopyOf asked spec part → ((before : Copied) (word : ℕ) → old ≡ translate.with_word before word → new ≡ before) →
    0 < length (words_in part) → IsCopyOf asked spec (Some new)
copy_back asked spec part old new is copy back some =
    let of : IsCopyOf asked spec (Some old) = subst (IsCopyOf asked spec) is copy in
    let cut = parted old.words (subst (λ (words : List ℕ). 0 < length words) (ap words_in is) some) in
    let new_is : new ≡ copy_with old cut.0 = taken_back old new cut.0 cut.1 back cut.2 in
    (ap (λ (c : Copied). c.kind) new_is ∙ of.0, ap (λ (c : Copied). c.at) new_is ∙ of.1)
