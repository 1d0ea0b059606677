-- What the words of a part spell at each stage.
use native.Mathlib.Omega.{arith}
use Rattle.std.proofs.Common.{◌≡◌, ◌<◌, ◌≤◌, ◌+◌, ◌/◌, ◌%◌, ◌==◌, ℕ, Bool, true, false, cond, not, List, [], ◌∷◌, ◌++◌, length, take, get_or, Some, IsSome, IfSome, refl, ap, sym, subst, ◌∙◌}
use Rattle.std.proofs.lemmas.Bool.{eqb-false}
use Rattle.std.proofs.lemmas.List.{take_more}
use Rattle.st_base.specs.declared.errno.Errno.TheVariants.{EFAULT}
use Rattle.st_calls.specs.declared.argument.PartKind.{PartKind}
use Rattle.st_calls.specs.declared.argument.PartKind.TheVariants as part_kind
use Rattle.st_model.specs.Spelling as spelling
use Rattle.st_model.specs.Spelling.{Spelled, next_word, spell, spell_address}
use Rattle.st_model.specs.declared.limits.TheConstants.{SPACE_WORDS, SPACE_BYTES, LONGEST_TEXT}
use Rattle.st_names.specs.declared.limits.TheConstants.{LONGEST_NAME}
use Rattle.st_translate.specs.Copied.{HasAllWords, asked_word, lies_in_memory}
use Rattle.st_translate.specs.Stage.{NeedsNextWord, IsStageWithin, Reaches, ReadsWords, ReadsAddress, spelled_at}
use Rattle.st_translate.specs.declared.stage.Stage.{Stage}
use Rattle.st_translate.specs.declared.stage.Stage.TheVariants.{Text, Address, Pointer, Part, Fault, Done}
use Rattle.st_translate.proofs.Letters.{bytes_of_none, open_text}
use Rattle.st_translate.proofs.Texts.{next_inside, next_outside, text_goes_on}
use Rattle.st_translate.proofs.Vectors.{part_goes_on, pointer_goes_on}

-- the word of an address is needed, wherever it is
address_goes_on : {kind : PartKind} {at : ℕ} {words text : List ℕ} {next : ℕ} → ReadsAddress kind at words text next → spell kind at words ≡ next_word (next / 8)
address_goes_on {kind = kind} {at = at} {words = words} {next = next} r =
    ap (λ (k : PartKind). spell k at words) r.is_address ∙ ap (spell_address at) r.no_words ∙ by_test (at % 8 == 0) refl ∙ ap (λ (n : ℕ). next_word (n / 8)) (sym r.place) where
      by_test : (b : Bool) → (at % 8 == 0) ≡ b → cond (not b) (spelling.Fault EFAULT) (next_word (at / 8)) ≡ next_word (at / 8)
      by_test true t = refl
      by_test false t = absurd (eqb-false (at % 8) 0 t r.aligned)

pub same_place : (n place : ℕ) → Some n ≡ Some place → n ≡ place
same_place n place e = cc

-- a stage that asks for a word says which word is next
goes_on : (kind : PartKind) (at : ℕ) (words text : List ℕ) (stage : Stage) (place : ℕ) → asked_word (spelled_at stage text) ≡ Some place → IsStageWithin stage → ReadsWords kind at words text stage → spell kind at words ≡ next_word place
goes_on kind at words text (Text next read longest) place e within r = text_goes_on r within.0 ∙ ap next_word (same_place (next / 8) place e)
goes_on kind at words text (Address next) place e within r = address_goes_on r ∙ ap next_word (same_place (next / 8) place e)
goes_on kind at words text (Pointer vector) place e within r = pointer_goes_on r ∙ ap next_word (same_place (vector.pointer / 8) place e)
goes_on kind at words text (Part next vector) place e within r = part_goes_on r ∙ ap next_word (same_place (next / 8) place e)
goes_on kind at words text (Fault errno) place e within r = cc
goes_on kind at words text Done place e within r = cc

-- if that word is outside memory, there is a fault
pub outside : (kind : PartKind) (at : ℕ) (words text : List ℕ) (stage : Stage) (place : ℕ) → asked_word (spelled_at stage text) ≡ Some place → SPACE_WORDS ≤ place → IsStageWithin stage → ReadsWords kind at words text stage → spell kind at words ≡ spelling.Fault EFAULT
outside kind at words text stage place e far within r = goes_on kind at words text stage place e within r ∙ next_outside place far

-- a stage that asks for no word, or for one in memory
pub inside : (kind : PartKind) (at : ℕ) (words text : List ℕ) (stage : Stage) → ((place : ℕ) → asked_word (spelled_at stage text) ≡ Some place → place < SPACE_WORDS) → IsStageWithin stage → ReadsWords kind at words text stage → Reaches kind at words text stage
inside kind at words text (Text next read longest) near within r = ((near (next / 8) refl, within), r)
inside kind at words text (Address next) near within r = (near (next / 8) refl, r)
inside kind at words text (Pointer vector) near within r = ((near (vector.pointer / 8) refl, within), r)
inside kind at words text (Part next vector) near within r = ((near (next / 8) refl, within), r)
inside kind at words text (Fault errno) near within r = r
inside kind at words text Done near within r = r

-- words spell what the stage that they reach says
pub spells : (kind : PartKind) (at : ℕ) (words text : List ℕ) (stage : Stage) → Reaches kind at words text stage → spell kind at words ≡ spelled_at stage text
spells kind at words text (Text next read longest) r = text_goes_on r.1 r.0.1.0 ∙ next_inside (next / 8) r.0.0
spells kind at words text (Address next) r = address_goes_on r.1 ∙ next_inside (next / 8) r.0
spells kind at words text (Pointer vector) r = pointer_goes_on r.1 ∙ next_inside (vector.pointer / 8) r.0.0
spells kind at words text (Part next vector) r = part_goes_on r.1 ∙ next_inside (next / 8) r.0.0
spells kind at words text (Fault errno) r = r
spells kind at words text Done r = r

-- if words ask for another, so does the stage that they reach
pub asks : (kind : PartKind) (at : ℕ) (words text : List ℕ) (stage : Stage) → Reaches kind at words text stage → IsSome (asked_word (spell kind at words)) → NeedsNextWord stage
asks kind at words text (Text next read longest) r some = r.0
asks kind at words text (Address next) r some = r.0
asks kind at words text (Pointer vector) r some = r.0
asks kind at words text (Part next vector) r some = r.0
asks kind at words text (Fault errno) r some = let never : IsSome (asked_word (spelling.Fault errno)) = subst (λ (s : Spelled). IsSome (asked_word s)) r some in cc
asks kind at words text Done r some = let never : IsSome (asked_word (spelling.Text text)) = subst (λ (s : Spelled). IsSome (asked_word s)) r some in cc

-- the word that is asked for is in memory
pub asks_inside : (kind : PartKind) (at : ℕ) (words text : List ℕ) (stage : Stage) → Reaches kind at words text stage → IfSome (asked_word (spelled_at stage text)) (λ place. place < SPACE_WORDS)
asks_inside kind at words text (Text next read longest) r = r.0.0
asks_inside kind at words text (Address next) r = r.0
asks_inside kind at words text (Pointer vector) r = r.0.0
asks_inside kind at words text (Part next vector) r = r.0.0
asks_inside kind at words text (Fault errno) r = tt
asks_inside kind at words text Done r = tt

-- a part that begins outside memory is a fault
pub begins_outside : (kind : PartKind) (at : ℕ) → lies_in_memory kind ≡ true → SPACE_BYTES ≤ at → spell kind at [] ≡ spelling.Fault EFAULT
begins_outside part_kind.Name at e far = open_text LONGEST_NAME at [] [] (bytes_of_none at) refl (omega arith) ∙ next_outside (at / 8 + 0) (omega (arith, far))
begins_outside part_kind.Plain at e far = open_text LONGEST_TEXT at [] [] (bytes_of_none at) refl (omega arith) ∙ next_outside (at / 8 + 0) (omega (arith, far))
begins_outside part_kind.Addr at e far = if_aligned (not (at % 8 == 0)) (next_outside (at / 8) (omega (arith, far))) where
  if_aligned : (b : Bool) → next_word (at / 8) ≡ spelling.Fault EFAULT → cond b (spelling.Fault EFAULT) (next_word (at / 8)) ≡ spelling.Fault EFAULT
  if_aligned true e = refl
  if_aligned false e = e
begins_outside part_kind.Argv at e far = if_aligned (not (at % 8 == 0)) (next_outside (at / 8 + 0) (omega (arith, far))) where
  if_aligned : (b : Bool) → next_word (at / 8 + 0) ≡ spelling.Fault EFAULT → cond b (spelling.Fault EFAULT) (next_word (at / 8 + 0)) ≡ spelling.Fault EFAULT
  if_aligned true e = refl
  if_aligned false e = e
begins_outside part_kind.Decimal at e far = cc
begins_outside part_kind.Octal at e far = cc
begins_outside part_kind.Domain at e far = cc
begins_outside part_kind.SockType at e far = cc

-- the words up to an index, and one word further
pub further : (kind : PartKind) (at : ℕ) (words text : List ℕ) (stage : Stage) (i : ℕ) → i < length words → Reaches kind at (take i words ++ get_or words i 0 ∷ []) text stage → Reaches kind at (take (i + 1) words) text stage
further kind at words text stage i below r = subst (λ (ws : List ℕ). Reaches kind at ws text stage) (sym (take_more words i 0 below)) r

-- if words are complete, the text that was read is the one they spell
pub all_read : (kind : PartKind) (at : ℕ) (words text : List ℕ) (stage : Stage) → Reaches kind at words text stage → HasAllWords (spell kind at words) → spell kind at words ≡ spelling.Text text
all_read kind at words text stage r done = by_stage stage (spells kind at words text stage r) where
  by_stage : (stage : Stage) → spell kind at words ≡ spelled_at stage text → spell kind at words ≡ spelling.Text text
  by_stage (Text next read longest) e = absurd (subst HasAllWords e done)
  by_stage (Address next) e = absurd (subst HasAllWords e done)
  by_stage (Pointer vector) e = absurd (subst HasAllWords e done)
  by_stage (Part next vector) e = absurd (subst HasAllWords e done)
  by_stage (Fault errno) e = absurd (subst HasAllWords e done)
  by_stage Done e = e
