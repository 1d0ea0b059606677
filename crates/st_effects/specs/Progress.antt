-- The progress of a message's arguments, by the words that were copied and the names that were looked up for it.
use Rattle.std.specs.Prelude.{ℕ, ◌+◌, Bool, List, [], ◌∷◌, slice_index_or}
use Rattle.st_base.specs.declared.errno.Errno.{Errno}
use Rattle.st_calls.specs.declared.argument.ArgSpec.{ArgSpec}
use Rattle.st_calls.specs.declared.argument.ArgText.{ArgText}
use Rattle.st_calls.specs.Argument.{args_of}
use Rattle.st_calls.specs.Call.{follows}
use Rattle.st_model.specs.Spelling as spelling
use Rattle.st_calls.specs.declared.argument.PartKind.{PartKind}
use Rattle.st_calls.specs.declared.argument.PartKind.TheVariants as kind
use Rattle.st_calls.specs.declared.call.SysCall.{SysCall}
use Rattle.st_calls.specs.declared.rule.Rule.{Rule}
use Rattle.st_names.specs.Name.{Components, printed_name}
use Rattle.st_model.specs.Walk as walk
use Rattle.st_names.specs.declared.seen.SeenText.{SeenText}

-- the progress of arguments: the next word, the next look, a fault, or complete
pub data Progress : Type 0 where
  -- the word at this index is copied next, for this part
  Word : ℕ → ℕ → Progress
  -- this name is looked up next, for this part
  Look : ℕ → Components → Progress
  Stuck : Errno → Progress
  -- all parts are complete: these are the arguments
  Ready : List ArgText → Progress

-- the progress of parts, with this complete argument before them
abbrev pub with_arg : ArgText → Progress → Progress
with_arg arg (Word part place) = Word part place
with_arg arg (Look part name) = Look part name
with_arg arg (Stuck errno) = Stuck errno
with_arg arg (Ready args) = Ready (arg ∷ args)

-- the argument whose text is this name
abbrev pub name_arg : ArgSpec → Components → ArgText
name_arg spec name = record { label = spec.label; index = spec.index; text = printed_name name }

-- the argument with this text
abbrev pub text_arg : ArgSpec → List ℕ → ArgText
text_arg spec text = record { label = spec.label; index = spec.index; text = text }

-- the progress of a name by its walk: it needs a look, it has a fault, or it is complete
abbrev pub progress_of_walk : ℕ → ArgSpec → walk.WalkState → Progress → Progress
progress_of_walk j spec (walk.Next name) rest = Look j name
progress_of_walk j spec (walk.Fault errno) rest = Stuck errno
progress_of_walk j spec (walk.Name name) rest = with_arg (name_arg spec name) rest

-- the progress of a part whose text is copied: a name is walked, any other text is complete
abbrev pub progress_of_text : PartKind → ℕ → ArgSpec → Components → Bool → List SeenText → List ℕ → Progress → Progress
progress_of_text kind.Name j spec cwd follow lookups text rest = progress_of_walk j spec (walk.start_walk text cwd follow lookups) rest
progress_of_text _ j spec cwd follow lookups text rest = with_arg (text_arg spec text) rest

-- the progress of a part, by what its copied words spell: the next word, a fault, or a text
abbrev pub progress_of_spelling : ℕ → ArgSpec → Components → Bool → List SeenText → spelling.Spelled → Progress → Progress
progress_of_spelling j spec cwd follow lookups (spelling.More place) rest = Word j place
progress_of_spelling j spec cwd follow lookups (spelling.Fault errno) rest = Stuck errno
progress_of_spelling j spec cwd follow lookups (spelling.Text text) rest = progress_of_text spec.kind j spec cwd follow lookups text rest

-- the input for the arguments of a call: the rule that determines which they are, the call, its registers, and the directory where
-- its relative names begin
pub record ArgRequest : Type 0 where
  pub rule : Rule
  pub call : SysCall
  pub regs : List ℕ
  pub cwd : Components

-- whether a call follows a link at the end of an argument's name
abbrev pub is_followed : ArgRequest → ArgSpec → Bool
is_followed asked spec = follows asked.call asked.regs spec.register

-- the progress of the parts from number j on, in order, by the words that were copied and the looks that were taken for each: the
-- first part that isn't complete decides
abbrev pub progress_from : ℕ → List ArgSpec → ArgRequest → (ℕ → List ℕ) → (ℕ → List SeenText) → Progress
progress_from j [] asked words lookups = Ready []
progress_from j (spec ∷ specs) asked words lookups =
    let value = slice_index_or asked.regs spec.register 0 in
    progress_of_spelling j spec asked.cwd (is_followed asked spec) (lookups j)
    (spelling.spell spec.kind value (words j))
    (progress_from (j + 1) specs asked words lookups)

-- the progress of all parts
abbrev pub progress : ArgRequest → (ℕ → List ℕ) → (ℕ → List SeenText) → Progress
progress asked words lookups = progress_from 0 (args_of asked.rule) asked words lookups
