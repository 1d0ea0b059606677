-- How open(2) treats what a name has.
use Rattle.std.specs.Prelude.{◌≡◌, ℕ, ◌+◌, ◌||◌, Bool, false, IfSome, List, [], ◌∷◌, length, Option, Some, None}
use Rattle.st_calls.specs.Call.{has_flag}
use Rattle.st_calls.specs.declared.flags.TheConstants.{O_TRUNC}
use Rattle.st_names.specs.Name.{Components}
use Rattle.st_model.specs.Tree.{Tree, node_of}
use Rattle.st_model.specs.declared.object.NewKind.TheVariants as made
use Rattle.st_trace.specs.declared.entry.Change.{Change}
use Rattle.st_trace.specs.declared.entry.Change.TheVariants.{Made}
use Rattle.st_effects.specs.Descriptors.{is_for_writing, low_mode, open_object_outcome, truncation}
use Rattle.st_effects.specs.Names.{is_link}
use Rattle.st_effects.specs.System.{System, Request, Outcome, arg_name_at, register}
use Rattle.st_request.specs.Ready.{IsOpenable}

-- a name isn't that of a link
abbrev pub IsNoLink : Tree → Components → Type 0
IsNoLink tree name = IfSome (node_of tree name) (λ node. is_link node.kind ≡ false)

-- the flags of an open ask for writing or truncation
abbrev pub is_changing : ℕ → Bool
is_changing flags = is_for_writing flags || has_flag flags O_TRUNC

-- an object was made and isn't a link, and if it is to be written or truncated, it isn't a directory
abbrev pub CanOpen : Tree → ℕ → ℕ → Type 0
CanOpen tree flags obj = IsOpenable tree (is_changing flags) obj

-- ---- what open(2) does if it isn't refused, for the object of its name or without one

-- the object that is opened: the one that was found, otherwise the one that is made
abbrev pub opened_object : Tree → Option ℕ → ℕ
opened_object tree None = length tree.objects + 1
opened_object tree (Some obj) = obj

-- the changes: a file is made, or one that exists is truncated if the flags ask for it
abbrev pub open_changes : Tree → Request → Option ℕ → List Change
open_changes tree request None =
    Made (arg_name_at request 0) (length tree.objects + 1) (made.File []) request.ids.euid request.ids.egid (low_mode (register request 2)) ∷ []
open_changes tree request (Some obj) = truncation obj (register request 1)

-- the outcome of an open that isn't refused
abbrev pub opened_outcome : System → Request → Option ℕ → Outcome
opened_outcome system request found = open_object_outcome system request (opened_object system.tree found) (open_changes system.tree request found)
