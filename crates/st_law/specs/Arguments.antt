-- The arguments of a call that is made in one step: they are copied from the memory, and looked up in the tree, of that step. Also the
-- first link in the way of a call's names when it is made.
use Rattle.std.specs.Prelude.{ℕ, zero, suc, ◌+◌, Bool, false, ◌&&◌, ◌||◌, not, if◌then◌else◌, List, [], ◌∷◌, ◌++◌, slice_index_or, Option, Some, None}
use Rattle.st_calls.specs.Argument.{args_of}
use Rattle.st_calls.specs.Call.{follows}
use Rattle.st_calls.specs.declared.argument.ArgSpec.{ArgSpec}
use Rattle.st_calls.specs.declared.argument.ArgText.{ArgText}
use Rattle.st_calls.specs.declared.argument.PartKind.{PartKind}
use Rattle.st_calls.specs.declared.argument.PartKind.TheVariants as kind
use Rattle.st_calls.specs.declared.call.SysCall.{SysCall}
use Rattle.st_calls.specs.declared.rule.Rule.{Rule}
use Rattle.st_model.specs.Memory.{word_of}
use Rattle.st_model.specs.Spelling.{Spelled, Text, Fault, More, spell}
use Rattle.st_model.specs.Tree.{Tree, Node, node_of}
use Rattle.st_model.specs.Walk.{is_last, resolve}
use Rattle.st_model.specs.declared.limits.TheConstants.{SPACE_WORDS}
use Rattle.st_names.specs.Name.{Components, components_of}
use Rattle.st_effects.specs.Names.{is_link}
use Rattle.st_effects.specs.Progress.{Progress, Word, Stuck, Ready, ArgRequest, with_arg, text_arg, progress_of_walk}

-- ---- copying and looking in one step

-- what copied words spell; if they need one more word, what this function gives for its word index
abbrev pub spelled_on : (ℕ → Spelled) → Spelled → Spelled
spelled_on further (Text text) = Text text
spelled_on further (Fault errno) = Fault errno
spelled_on further (More place) = further place

-- an argument spelled from these words, and from at most this many more words of a memory, as long as it needs one
abbrev pub spelled_within : ℕ → PartKind → ℕ → (ℕ → ℕ) → List ℕ → Spelled
spelled_within zero kind at bytes words = spell kind at words
spelled_within (suc count) kind at bytes words =
    spelled_on (λ place. spelled_within count kind at bytes (words ++ word_of bytes place ∷ [])) (spell kind at words)

-- an argument spelled from the words of a memory; no argument takes more words than a memory has
abbrev pub spelled_in : (ℕ → ℕ) → PartKind → ℕ → Spelled
spelled_in bytes kind at = spelled_within SPACE_WORDS kind at bytes []

-- the memory and the tree that the arguments of a call are taken from
pub record Surroundings : Type 0 where
  pub bytes : ℕ → ℕ
  pub tree : Tree

-- the progress of part j and the rest, by its text: the text of a name is resolved in the tree, any other is finished
abbrev pub part_of_text : PartKind → ℕ → ArgSpec → ArgRequest → Tree → List ℕ → Progress → Progress
part_of_text kind.Name j spec asked tree text rest =
    progress_of_walk j spec (resolve tree asked.cwd text (follows asked.call asked.regs spec.register)) rest
part_of_text _ j spec asked tree text rest = with_arg (text_arg spec text) rest

-- the progress of part j and the rest, by its spelling
abbrev pub part_of_spelling : ℕ → ArgSpec → ArgRequest → Tree → Spelled → Progress → Progress
part_of_spelling j spec asked tree (More place) rest = Word j place
part_of_spelling j spec asked tree (Fault errno) rest = Stuck errno
part_of_spelling j spec asked tree (Text text) rest = part_of_text spec.kind j spec asked tree text rest

-- the progress of the parts from index j on, in order: the first fault decides
abbrev pub parts_from : ℕ → List ArgSpec → ArgRequest → Surroundings → Progress
parts_from j [] asked around = Ready []
parts_from j (spec ∷ specs) asked around =
    part_of_spelling j spec asked around.tree (spelled_in around.bytes spec.kind (slice_index_or asked.regs spec.register 0))
    (parts_from (j + 1) specs asked around)

-- all arguments of a call, or its first fault
abbrev pub arguments_in : ArgRequest → Surroundings → Progress
arguments_in asked around = parts_from 0 (args_of asked.rule) asked around

-- ---- links on the way

-- whether a node exists and is a link
abbrev pub is_link_node : Option Node → Bool
is_link_node None = false
is_link_node (Some node) = is_link node.kind

-- whether a name is that of a link
abbrev pub is_link_at : Tree → Components → Bool
is_link_at tree name = is_link_node (node_of tree name)

-- the first link on the way from `done` along the remaining parts: a directory that is one, or the last name if it is followed
abbrev pub link_along : Tree → Bool → Components → Components → Option Components
link_along tree follow done [] = None
link_along tree follow done (part ∷ rest) =
    if is_link_at tree (done ++ part ∷ []) && (follow || not (is_last rest)) then Some (done ++ part ∷ [])
    else link_along tree follow (done ++ part ∷ []) rest

-- the first link on the way to a name
abbrev pub link_on_way : Tree → Bool → Components → Option Components
link_on_way tree follow name = link_along tree follow [] name

-- this name if there is one, otherwise the other
abbrev pub first_of_two : Option Components → Option Components → Option Components
first_of_two None other = other
first_of_two (Some name) other = Some name

-- the first link on the way to a part, by its kind: only a name has a way
abbrev pub link_of_part : PartKind → Tree → Bool → List ℕ → Option Components
link_of_part kind.Name tree follow text = link_on_way tree follow (components_of text)
link_of_part _ tree follow text = None

-- the first link on the way to one of the parts, in their order
abbrev pub link_among : Tree → SysCall → List ℕ → List ArgSpec → List ArgText → Option Components
link_among tree call regs [] args = None
link_among tree call regs (spec ∷ specs) [] = None
link_among tree call regs (spec ∷ specs) (arg ∷ args) =
    first_of_two (link_of_part spec.kind tree (follows call regs spec.register) arg.text) (link_among tree call regs specs args)

-- the first link in the way of a call's names
abbrev pub link_met : Tree → Rule → SysCall → List ℕ → List ArgText → Option Components
link_met tree rule call regs args = link_among tree call regs (args_of rule) args
