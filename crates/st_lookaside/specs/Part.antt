-- What is copied and seen of an argument, and the invariant of what is kept of it.
use Rattle.std.specs.Prelude.{◌≡◌, ◌<◌, ℕ, Bool, false, List, [], ◌∷◌, ◌++◌, length, take, slice_index_or, Option, Some, None, nat_lt}
use Rattle.st_calls.specs.declared.argument.ArgSpec.{ArgSpec}
use Rattle.st_calls.specs.declared.argument.PartKind.TheVariants as kind
use Rattle.st_effects.specs.Progress.{ArgRequest, Progress, is_followed}
use Rattle.st_lookaside.specs.Need.{need_of, progress_alone, IsInside}
use Rattle.st_lookaside.specs.declared.need.Need.TheVariants as need
use Rattle.st_lookaside.specs.declared.part.Part.{Part}
use Rattle.st_model.specs.Spelling.{Spelled, Text, spell}
use Rattle.st_model.specs.Walk.{start_walk}
use Rattle.st_names.specs.declared.seen.SeenText.{SeenText}
use Rattle.st_resolve.specs.Walk.{Walk, walk_from}
use Rattle.st_translate.specs.Copied.{Copied, lies_in_memory}

-- what was copied and seen of an argument
pub record Filled : Type 0 where
  pub words : List ℕ
  pub lookups : List SeenText

-- nothing was copied or seen
abbrev pub nothing_filled : Filled
nothing_filled = record { words = []; lookups = [] }

-- whether a word was copied
abbrev pub is_begun : Filled → Bool
is_begun filled = nat_lt 0 (length filled.words)

-- the same with one more word
abbrev pub with_word : Filled → ℕ → Filled
with_word filled word = record { words = filled.words ++ word ∷ []; lookups = filled.lookups }

-- the same with one more answer to a look
abbrev pub with_lookup : Filled → SeenText → Filled
with_lookup filled seen = record { words = filled.words; lookups = filled.lookups ++ seen ∷ [] }

-- ---- the progress of an argument

-- the register of an argument
abbrev pub register_of : ArgRequest → ArgSpec → ℕ
register_of asked spec = slice_index_or asked.regs spec.register 0

-- what its words spell
abbrev pub spelled_of : ArgRequest → ArgSpec → List ℕ → Spelled
spelled_of asked spec words = spell spec.kind (register_of asked spec) words

-- its progress by its words and lookups, whatever the others need
abbrev pub progress_of_arg : ArgRequest → ArgSpec → List ℕ → List SeenText → Progress
progress_of_arg asked spec words lookups = progress_alone spec asked.cwd (is_followed asked spec) lookups (spelled_of asked spec words)

-- ---- what is kept of it

-- the words that were copied
abbrev pub words_in : Option Copied → List ℕ
words_in None = []
words_in (Some copied) = copied.words

abbrev pub filled_of : Part → Filled
filled_of part = record { words = words_in part.copying; lookups = part.lookups.items }

-- an argument is copied iff it is in memory
abbrev pub IsCopyOf : ArgRequest → ArgSpec → Option Copied → Type 0
IsCopyOf asked spec None = lies_in_memory spec.kind ≡ false
IsCopyOf asked spec (Some copied) = (copied.kind ≡ spec.kind) × (copied.at ≡ register_of asked spec)

-- each look was needed after the looks before it
abbrev pub AreAskedLooks : ArgRequest → ArgSpec → List ℕ → List SeenText → Type 0
AreAskedLooks asked spec words lookups = (count : ℕ) → count < length lookups → need_of (progress_of_arg asked spec words (take count lookups)) ≡ need.Look

-- the walk of a name that was copied, after what was seen
pub record IsWalk (asked : ArgRequest) (spec : ArgSpec) (words : List ℕ) (lookups : List SeenText) (walk : Walk) : Type 0 where
  pub text : List ℕ
  pub is_name : spec.kind ≡ kind.Name
  pub text_is : spelled_of asked spec words ≡ Text text
  pub goes_on : (more : List SeenText) → walk_from walk more ≡ start_walk text asked.cwd (is_followed asked spec) (lookups ++ more)

-- a walk that is readied is that walk
abbrev pub IsWalkOf : ArgRequest → ArgSpec → List ℕ → List SeenText → Option Walk → Type 0
IsWalkOf asked spec words lookups None = Unit {0}
IsWalkOf asked spec words lookups (Some walk) = IsWalk asked spec words lookups walk

-- the invariant of an argument
pub record IsPart (asked : ArgRequest) (part : Part) : Type 0 where
  pub copied : IsCopyOf asked part.spec part.copying
  pub need : part.need ≡ need_of (progress_of_arg asked part.spec (words_in part.copying) part.lookups.items)
  pub inside : IsInside part.need
  pub seen : AreAskedLooks asked part.spec (words_in part.copying) part.lookups.items
  pub walk : IsWalkOf asked part.spec (words_in part.copying) part.lookups.items part.walk
