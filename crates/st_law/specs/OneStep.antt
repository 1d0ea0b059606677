-- The arguments of a call that isn't held, taken in one step: they are what a worker would copy and see if nothing changed meanwhile.
use Rattle.std.specs.Prelude.{◌≡◌, ℕ, Bool, List, ◌∷◌, ◌++◌, slice_get, slice_index_or, Some}
use Rattle.st_calls.specs.Argument.{args_of}
use Rattle.st_calls.specs.Call.{follows}
use Rattle.st_calls.specs.declared.argument.ArgSpec.{ArgSpec}
use Rattle.st_calls.specs.declared.argument.PartKind.{PartKind}
use Rattle.st_model.specs.Memory.{word_of}
use Rattle.st_model.specs.Spelling.{Text, More, spell}
use Rattle.st_model.specs.Tree.{Tree, look}
use Rattle.st_model.specs.Walk.{Next, start_walk}
use Rattle.st_names.specs.Name.{Components}
use Rattle.st_names.specs.declared.seen.SeenText.{SeenText}
use Rattle.st_effects.specs.Progress.{ArgRequest, progress}
use Rattle.st_law.specs.Arguments.{Surroundings, arguments_in}

-- each of these words is the one that the words before it ask for, read from this memory
abbrev pub AreWordsOf : (ℕ → ℕ) → PartKind → ℕ → List ℕ → Type 0
AreWordsOf bytes kind at words = (front : List ℕ) (word : ℕ) (rest : List ℕ) → words ≡ front ++ word ∷ rest
    → (place : ℕ) × (spell kind at front ≡ More place) × (word ≡ word_of bytes place)

-- each of these lookups' answers is for the name that those before it ask for, in this tree
abbrev pub AreLookupsOf : Tree → Components → Bool → List ℕ → List SeenText → Type 0
AreLookupsOf tree cwd follow text lookups = (front : List SeenText) (seen : SeenText) (rest : List SeenText) → lookups ≡ front ++ seen ∷ rest
    → (name : Components) × (start_walk text cwd follow front ≡ Next name) × (seen ≡ look tree name)

-- words from one memory and lookups in one tree, with which a worker gets the arguments that are taken in one step
pub record AreTakenInOneStep (asked : ArgRequest) (around : Surroundings) (words : ℕ → List ℕ) (lookups : ℕ → List SeenText) : Type 0 where
  pub words_are : (j : ℕ) (spec : ArgSpec) → slice_get (args_of asked.rule) j ≡ Some spec
      → AreWordsOf around.bytes spec.kind (slice_index_or asked.regs spec.register 0) (words j)
  pub lookups_are : (j : ℕ) (spec : ArgSpec) (text : List ℕ) → slice_get (args_of asked.rule) j ≡ Some spec
      → spell spec.kind (slice_index_or asked.regs spec.register 0) (words j) ≡ Text text
      → AreLookupsOf around.tree asked.cwd (follows asked.call asked.regs spec.register) text (lookups j)
  pub arguments : arguments_in asked around ≡ progress asked words lookups
