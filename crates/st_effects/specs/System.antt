-- The system over which a call is made, the request, and the outcome.
use Rattle.std.specs.Prelude.{ℕ, Bool, List, [], slice_get, slice_index_or, Option, Some, None, unwrap_or}
use Rattle.std.specs.Option.{option_map}
use Rattle.st_model.specs.Descriptors.{Table}
use Rattle.st_base.specs.Errno.{first_error}
use Rattle.st_base.specs.declared.errno.Errno.{Errno}
use Rattle.st_base.specs.declared.ids.Ids.{Ids}
use Rattle.st_calls.specs.declared.argument.ArgText.{ArgText}
use Rattle.st_names.specs.Name.{Components, components_of}
use Rattle.st_model.specs.Process.{Process}
use Rattle.st_model.specs.Tree.{Tree}
use Rattle.st_trace.specs.declared.entry.CallResult.{CallResult}
use Rattle.st_trace.specs.declared.entry.CallResult.TheVariants.{Value, Failed}
use Rattle.st_trace.specs.declared.entry.Change.{Change}

-- a held call whose message is live
pub record HeldCall : Type 0 where
  pub tid : ℕ
  pub pid : ℕ
  -- the message's number
  pub number : ℕ

-- the modelled system when a call is made
pub record System : Type 0 where
  pub tree : Tree
  -- byte b of space s
  pub memory : ℕ → ℕ → ℕ
  pub descriptors : Table
  -- the process with each number
  pub processes : ℕ → Process
  -- whether a process with this number exists and hasn't ended
  pub is_live : ℕ → Bool
  -- the numbers of the next process, the next space and the next message
  pub next_process : ℕ
  pub next_space : ℕ
  pub next_number : ℕ
  -- the held calls whose messages are live, in the order of their threads
  pub held : List HeldCall

-- the caller of a call and the data with which it is made
pub record Request : Type 0 where
  pub tid : ℕ
  pub pid : ℕ
  -- the ids under which the call is made
  pub ids : Ids
  -- the six registers
  pub regs : List ℕ
  -- the arguments that policies judge, in order; a name is absolute and normalised
  pub args : List ArgText
  -- the thread that fork starts
  pub child : ℕ
  -- whether the policy that applies is inherited over an execve
  pub inherit : Bool

-- a call's result, its changes, and the descriptors after it
pub record Outcome : Type 0 where
  pub result : CallResult
  pub changes : List Change
  pub descriptors : Table

-- the outcome of a call that fails, which changes nothing
abbrev pub failure : System → Errno → Outcome
failure system errno = record { result = Failed errno; changes = []; descriptors = system.descriptors }

-- the outcome of a call that returns a number and changes no descriptor
abbrev pub success : System → ℕ → List Change → Outcome
success system number changes = record { result = Value number; changes = changes; descriptors = system.descriptors }

-- the outcome of a call that returns a number, with these descriptors after it
abbrev pub success_with_table : ℕ → List Change → Table → Outcome
success_with_table number changes descriptors = record { result = Value number; changes = changes; descriptors = descriptors }

-- this outcome, unless there is an error, with which the call then fails
abbrev pub unless_error : System → Option Errno → Outcome → Outcome
unless_error system None outcome = outcome
unless_error system (Some errno) outcome = failure system errno

-- this outcome, unless there is an error among these, with the first of which the call then fails
abbrev pub unless_refused : System → List (Option Errno) → Outcome → Outcome
unless_refused system reasons outcome = unless_error system (first_error reasons) outcome

-- a register, counted from 0
abbrev pub register : Request → ℕ → ℕ
register request i = slice_index_or request.regs i 0

-- the text of an argument, counted from 0
abbrev pub arg_text_at : Request → ℕ → List ℕ
arg_text_at request i = unwrap_or (option_map (λ arg. arg.text) (slice_get request.args i)) []

-- the name that an argument spells
abbrev pub arg_name_at : Request → ℕ → Components
arg_name_at request i = components_of (arg_text_at request i)

-- the number of the calling process's memory
abbrev pub space_of_caller : System → Request → ℕ
space_of_caller system request = (system.processes request.pid).space
