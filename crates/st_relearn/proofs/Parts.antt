-- Arguments that are complete can be quoted, and are those of their rule.
use Rattle.std.proofs.Common.{◌+◌, ◌++◌, ℕ, zero, suc, Bool, List, [], ◌∷◌, slice_index_or, refl}
use Rattle.std.specs.List.{AllByRecursion}
use Rattle.st_calls.specs.Argument.{args_of}
use Rattle.st_calls.specs.Call.{follows}
use Rattle.st_calls.specs.declared.argument.ArgSpec.{ArgSpec}
use Rattle.st_calls.specs.declared.argument.ArgText.{ArgText}
use Rattle.st_calls.specs.declared.argument.PartKind.{PartKind}
use Rattle.st_calls.specs.declared.argument.PartKind.TheVariants as kind
use Rattle.st_lex.specs.Quote.{AreBytes}
use Rattle.st_model.specs.Memory.{word_of}
use Rattle.st_model.specs.Spelling.{Fault, More, Spelled, Text, spell}
use Rattle.st_model.specs.Tree.{Tree}
use Rattle.st_model.specs.Walk as walk
use Rattle.st_model.specs.declared.limits.TheConstants.{SPACE_WORDS}
use Rattle.st_names.specs.Name.{Components}
use Rattle.st_names.specs.declared.seen.SeenText.{SeenText}
use Rattle.st_effects.specs.Progress.{ArgRequest, Look, Progress, Ready, Stuck, Word, progress, progress_from, progress_of_spelling, progress_of_text, progress_of_walk, with_arg}
use Rattle.st_law.specs.Arguments.{Surroundings, arguments_in, part_of_spelling, part_of_text, parts_from, spelled_in, spelled_on, spelled_within}
use Rattle.st_relearn.specs.Plain.{AreArguments}
use Rattle.st_relearn.proofs.Names.{AreNames, ArePlainLooks, HasPlainLinks, IsPlainWalk, printed_plain, resolved_plain, walk_plain}
use Rattle.st_relearn.proofs.Texts.{IsPlainSpelled, spelled_plain}

-- the text of each argument can be quoted
abbrev pub ArePlainArgs : List ArgText → Type 0
ArePlainArgs args = AllByRecursion (λ arg. AreBytes arg.text) args

pub texts_plain : (specs : List ArgSpec) (args : List ArgText) → AreArguments specs args → ArePlainArgs args
texts_plain [] [] are = tt
texts_plain [] (arg ∷ args) are = absurd are
texts_plain (spec ∷ specs) [] are = absurd are
texts_plain (spec ∷ specs) (arg ∷ args) are = (are.2, texts_plain specs args are.3)

-- if the arguments are ready, they are these
abbrev pub IsReadyWith : List ArgSpec → Progress → Type 0
IsReadyWith specs (Word part place) = Unit {0}
IsReadyWith specs (Look part name) = Unit {0}
IsReadyWith specs (Stuck errno) = Unit {0}
IsReadyWith specs (Ready args) = AreArguments specs args

module _ (spec : ArgSpec) (specs : List ArgSpec) (rest : Progress) (following : IsReadyWith specs rest) (j : ℕ) where
  arg_ready : (p : Progress) → IsReadyWith specs p → (text : List ℕ) → AreBytes text → IsReadyWith (spec ∷ specs) (with_arg (record { label = spec.label; index = spec.index; text = text }) p)
  arg_ready (Word part place) x text plain = tt
  arg_ready (Look part name) x text plain = tt
  arg_ready (Stuck errno) x text plain = tt
  arg_ready (Ready args) x text plain = (refl, refl, plain, x)

  walk_ready : (w : walk.WalkState) → IsPlainWalk w → IsReadyWith (spec ∷ specs) (progress_of_walk j spec w rest)
  walk_ready (walk.Next name) plain = tt
  walk_ready (walk.Fault errno) plain = tt
  walk_ready (walk.Name name) plain = arg_ready rest following _ (printed_plain name plain)

  -- ---- a held call

  held_text : (k : PartKind) (cwd : Components) (follow : Bool) (lookups : List SeenText) (text : List ℕ) → AreNames cwd → ArePlainLooks lookups → AreBytes text → IsReadyWith (spec ∷ specs) (progress_of_text k j spec cwd follow lookups text rest)
  held_text kind.Name cwd follow lookups text c l t = walk_ready (walk.start_walk text cwd follow lookups) (walk_plain text cwd follow lookups t c l)
  held_text _ cwd follow lookups text c l t = arg_ready rest following text t

  held_part : (cwd : Components) (follow : Bool) (lookups : List SeenText) (s : Spelled) → AreNames cwd → ArePlainLooks lookups → IsPlainSpelled s → IsReadyWith (spec ∷ specs) (progress_of_spelling j spec cwd follow lookups s rest)
  held_part cwd follow lookups (More place) c l t = tt
  held_part cwd follow lookups (Fault errno) c l t = tt
  held_part cwd follow lookups (Text text) c l t = held_text spec.kind cwd follow lookups text c l t

  -- ---- a call that is made in one step

  unheld_text : (k : PartKind) (asked : ArgRequest) (tree : Tree) (text : List ℕ) → AreNames asked.cwd → HasPlainLinks tree → AreBytes text → IsReadyWith (spec ∷ specs) (part_of_text k j spec asked tree text rest)
  unheld_text kind.Name asked tree text c l t =
      walk_ready (walk.resolve tree asked.cwd text (follows asked.call asked.regs spec.register)) (resolved_plain (walk.most_lookups tree text) tree asked.cwd text (follows asked.call asked.regs spec.register) [] l c t tt)
  unheld_text _ asked tree text c l t = arg_ready rest following text t

  unheld_part : (asked : ArgRequest) (tree : Tree) (s : Spelled) → AreNames asked.cwd → HasPlainLinks tree → IsPlainSpelled s → IsReadyWith (spec ∷ specs) (part_of_spelling j spec asked tree s rest)
  unheld_part asked tree (More place) c l t = tt
  unheld_part asked tree (Fault errno) c l t = tt
  unheld_part asked tree (Text text) c l t = unheld_text spec.kind asked tree text c l t

held_from : (j : ℕ) (specs : List ArgSpec) (asked : ArgRequest) (words : ℕ → List ℕ) (lookups : ℕ → List SeenText) → AreNames asked.cwd → ((k : ℕ) → ArePlainLooks (lookups k)) → IsReadyWith specs (progress_from j specs asked words lookups)
held_from j [] asked words lookups c l = tt
held_from j (spec ∷ specs) asked words lookups c l =
    held_part spec specs (progress_from (j + 1) specs asked words lookups) (held_from (j + 1) specs asked words lookups c l) j
    asked.cwd (follows asked.call asked.regs spec.register) (lookups j) (spell spec.kind (slice_index_or asked.regs spec.register 0) (words j)) c (l j)
    (spelled_plain spec.kind (slice_index_or asked.regs spec.register 0) (words j))

-- the arguments of a held call
pub held_plain : (asked : ArgRequest) (words : ℕ → List ℕ) (lookups : ℕ → List SeenText) → AreNames asked.cwd → ((k : ℕ) → ArePlainLooks (lookups k)) → IsReadyWith (args_of asked.rule) (progress asked words lookups)
held_plain asked words lookups c l = held_from 0 (args_of asked.rule) asked words lookups c l

on_spelled : (further : ℕ → Spelled) (s : Spelled) → IsPlainSpelled s → ((place : ℕ) → IsPlainSpelled (further place)) → IsPlainSpelled (spelled_on further s)
on_spelled further (Text text) here rest = here
on_spelled further (Fault errno) here rest = tt
on_spelled further (More place) here rest = rest place

within_spelled : (count : ℕ) (k : PartKind) (at : ℕ) (bytes : ℕ → ℕ) (words : List ℕ) → IsPlainSpelled (spelled_within count k at bytes words)
within_spelled zero k at bytes words = spelled_plain k at words
within_spelled (suc count) k at bytes words =
    on_spelled (λ place. spelled_within count k at bytes (words ++ word_of bytes place ∷ [])) (spell k at words) (spelled_plain k at words)
    (λ place. within_spelled count k at bytes (words ++ word_of bytes place ∷ []))

unheld_from : (j : ℕ) (specs : List ArgSpec) (asked : ArgRequest) (around : Surroundings) → AreNames asked.cwd → HasPlainLinks around.tree → IsReadyWith specs (parts_from j specs asked around)
unheld_from j [] asked around c l = tt
unheld_from j (spec ∷ specs) asked around c l =
    unheld_part spec specs (parts_from (j + 1) specs asked around) (unheld_from (j + 1) specs asked around c l) j
    asked around.tree (spelled_in around.bytes spec.kind (slice_index_or asked.regs spec.register 0)) c l
    (within_spelled SPACE_WORDS spec.kind (slice_index_or asked.regs spec.register 0) around.bytes [])

-- the arguments of a call that is made in one step
pub unheld_plain : (asked : ArgRequest) (around : Surroundings) → AreNames asked.cwd → HasPlainLinks around.tree → IsReadyWith (args_of asked.rule) (arguments_in asked around)
unheld_plain asked around c l = unheld_from 0 (args_of asked.rule) asked around c l
