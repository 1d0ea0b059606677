-- The faults of a script, by line.
use Rattle.std.specs.Prelude.{◌≡◌, ℕ, ◌+◌, Bool, true, false, ◌||◌, ◌&&◌, not, if◌then◌else◌, nat_le, nat_lt, List, [], ◌∷◌, ◌++◌, length, Option, Some, None, is_some, option_map, option_and_then, Ok, Err}
use Rattle.std.specs.List.{list_any}
use Rattle.st_emulation.specs.declared.emulation.Emulation.{Emulation}
use Rattle.st_filter.specs.Formula.{FilterValue}
use Rattle.st_law.specs.declared.input.Options.{Options}
use Rattle.st_lex.specs.declared.token.LexFault.{LexFault}
use Rattle.st_script_faults.specs.declared.fault.ScriptFault.{ScriptFault}
use Rattle.st_script_faults.specs.declared.fault.ScriptFault.TheVariants.{Lex, Expected, UnknownName, Duplicate, TooMany, ReloadWithLearn}
use Rattle.st_filter.specs.declared.filter.Action.{Action}
use Rattle.st_filter.specs.declared.filter.Action.TheVariants.{Permit, Deny, Ask}
use Rattle.st_filter.specs.Policies.{add_filter}
use Rattle.st_filter.specs.declared.set.BinaryPolicy.{BinaryPolicy}
use Rattle.st_filter.specs.declared.set.Reply.{Reply}
use Rattle.st_filter.specs.declared.set.TheConstants.{MOST_FILTERS}
use Rattle.st_lex.specs.Unquote.{unquoted}
use Rattle.st_model.specs.declared.limits.TheConstants.{LONGEST_FILE, LONGEST_TEXT}
use Rattle.st_model.specs.declared.object.NewKind.{NewKind}
use Rattle.st_model.specs.declared.object.NewKind.TheVariants as kind
use Rattle.st_grammar.specs.Grammar.{if_absolute}
use Rattle.st_grammar.specs.OneFilter.{FilterResult, filter_in}
use Rattle.st_grammar.specs.declared.env.Env.{Env}
use Rattle.st_script_names.specs.Environment.{environment_of}
use Rattle.st_script_names.specs.Names.{Name, Names, no_names, is_name_among, with_new_name, with_says, store_count, directory_of, is_known_directory}
use Rattle.st_script_faults.specs.declared.row_value.RowValue.{RowValue}
use Rattle.st_script_faults.specs.declared.row_value.RowValue.TheVariants as value
use Rattle.st_statements.specs.Parts.{is_normal, is_long}
use Rattle.st_script_names.specs.declared.limits.TheConstants.{MOST_INSTRUCTIONS, MOST_PROCESSES, MOST_THREADS, MOST_TREE_ROWS}
use Rattle.st_statements.specs.declared.statement.ScriptLine.{ScriptLine}
use Rattle.st_statements.specs.declared.statement.Statement.{Statement}
use Rattle.st_statements.specs.declared.statement.Statement.TheVariants as says

-- what each row is read with, from the whole script
pub record WholeScript : Type 0 where
  -- whether a lexical fault cuts the script off
  pub is_cut : Bool
  -- the threads of all rows, and those that start in a process
  pub threads : List Name
  pub started : List Name
  pub env : Env

-- ---- replies

-- a filter, unless it asks
abbrev pub unless_ask : FilterValue → Action → Option FilterValue
unless_ask filter Permit = Some filter
unless_ask filter (Deny errno) = Some filter
unless_ask filter Ask = None

-- a filter that is read, if it is in the policy language
abbrev pub filter_read : FilterResult → Option FilterValue
filter_read (Ok filter) = Some filter
filter_read (Err fault) = None

-- the filter of a reply, if it is read and doesn't ask
abbrev pub reply_filter : FilterResult → Option FilterValue
reply_filter read = option_and_then (λ filter. unless_ask filter filter.action) (filter_read read)

-- a reply to questions about this binary, if its name is normal
abbrev pub reply_for : Name → Option FilterValue → Option Reply
reply_for binary filter = if is_normal binary then option_map (λ f. record { binary = binary; filter = f }) filter else None

-- the reply of a row's quoted binary and filter, if they are valid
abbrev pub reply_in : Env → List ℕ → List ℕ → Option Reply
reply_in env binary filter = reply_for (unquoted env.dollars binary) (reply_filter (filter_in filter env))

-- the reply of a line, if it has one
abbrev pub reply_said : Env → Option Statement → Option Reply
reply_said env (Some (says.Reply binary filter)) = reply_in env binary filter
reply_said env _ = None

-- ---- policies

-- the binary of a policy, from its quoted text, if its name is absolute
abbrev pub policy_binary : Env → List ℕ → Option Name
policy_binary env binary = if_absolute (unquoted env.dollars binary)

-- the binary of the policy that a line begins, if it begins one
abbrev pub policy_said : Env → Option Statement → Option Name
policy_said env (Some (says.Policy name binary)) = policy_binary env binary
policy_said env _ = None

-- the filter of a policy on a line, if it has one
abbrev pub filter_said : Env → Option Statement → Option FilterValue
filter_said env (Some (says.Filter text)) = filter_read (filter_in text env)
filter_said env _ = None

-- ---- what rows are read as with the environment of the script

-- a value, or nothing valid
abbrev pub or_invalid : {A : Type 0} → (A → RowValue) → Option A → RowValue
or_invalid f None = value.Invalid
or_invalid f (Some found) = f found

-- what a row is read as
abbrev pub row_value : Env → Statement → RowValue
row_value env (says.Reply binary filter) = or_invalid value.Reply (reply_in env binary filter)
row_value env (says.Policy name binary) = or_invalid value.Policy (policy_binary env binary)
row_value env (says.Filter text) = or_invalid value.Filter (filter_read (filter_in text env))
row_value env _ = value.Nothing

-- whether it isn't valid
abbrev pub is_invalid : RowValue → Bool
is_invalid value.Invalid = true
is_invalid _ = false

-- the binary of a reply, if a row is read as one
abbrev pub replied_binary : RowValue → Option Name
replied_binary (value.Reply reply) = Some reply.binary
replied_binary _ = None

-- if a row is a reply, this is the row's binary
abbrev pub HasBinaryOf : Option Name → Env → Statement → Type 0
HasBinaryOf found env (says.Reply binary filter) = found ≡ Some (unquoted env.dollars binary)
HasBinaryOf found env _ = Unit {0}

-- the replies and the policies of a script
pub record ScriptFiltersValue : Type 0 where
  pub replies : List Reply
  pub blocks : List BinaryPolicy

-- no replies and no policies
abbrev pub no_filters : ScriptFiltersValue
no_filters = record { replies = []; blocks = [] }

-- the replies and the policies, with what a row is read as added: a filter is one of the last policy
abbrev pub with_value : ScriptFiltersValue → RowValue → ScriptFiltersValue
with_value found (value.Reply reply) = record found { replies = found.replies ++ reply ∷ [] }
with_value found (value.Policy binary) = record found { blocks = found.blocks ++ record { binary = binary; filters = [] } ∷ [] }
with_value found (value.Filter filter) = record found { blocks = add_filter found.blocks filter }
with_value found value.Nothing = found
with_value found value.Invalid = found

-- the same of a line
abbrev pub with_line : Env → ScriptFiltersValue → Option Statement → ScriptFiltersValue
with_line env found None = found
with_line env found (Some statement) = with_value found (row_value env statement)

-- the same of lines, one after the other
abbrev pub filters_after : Env → ScriptFiltersValue → List ScriptLine → ScriptFiltersValue
filters_after env found [] = found
filters_after env found (line ∷ lines) = filters_after env (with_line env found line.says) lines

-- whether a row is the end of a body
abbrev pub is_end : Option Statement → Bool
is_end (Some says.End) = true
is_end _ = false

-- the same of a line
abbrev pub ends_body : ScriptLine → Bool
ends_body line = is_end line.says

-- ---- what is wrong with a row, by the rows above and below it

-- whether a row opens a body
abbrev pub opens_body : Statement → Bool
opens_body (says.Thread name process) = true
opens_body (says.Policy name binary) = true
opens_body _ = false

-- a thread or a policy that no `end` follows, unless the script is cut off
abbrev pub is_left_open : WholeScript → List ScriptLine → Statement → Bool
is_left_open whole below statement = opens_body statement && (not whole.is_cut && not (list_any ends_body below))

-- a body that is left open, or a reply, a policy or a filter that isn't valid
abbrev pub expects_other : WholeScript → List ScriptLine → Statement → Bool
expects_other whole below statement = is_left_open whole below statement || is_invalid (row_value whole.env statement)

-- an object without its directory, a thread without its process, a reload without its policy, or, unless the script is cut off, a fork of a
-- thread that doesn't exist
abbrev pub is_unknown : WholeScript → Names → Statement → Bool
is_unknown whole above (says.Object path new) = not (is_known_directory above.directories (directory_of path))
is_unknown whole above (says.Thread name (Some process)) = not (is_name_among above.processes process)
is_unknown whole above (says.Reload name) = not (is_name_among above.policies name)
is_unknown whole above (says.Fork name) = not whole.is_cut && not (is_name_among whole.threads name)
is_unknown whole above _ = false

-- whether a thread starts in a process, or by a fork above
abbrev pub is_started : WholeScript → Names → Name → Bool
is_started whole above name = is_name_among whole.started name || is_name_among above.forked name

-- a name that is defined again, or a fork of a thread that is started already
abbrev pub is_duplicate : WholeScript → Names → Statement → Bool
is_duplicate whole above (says.User user) = is_name_among above.users user.name
is_duplicate whole above (says.Group group) = is_name_among above.groups group.name
is_duplicate whole above (says.Object path new) = is_name_among above.paths path
is_duplicate whole above (says.Process process) = is_name_among above.processes process.name
is_duplicate whole above (says.Thread name process) = is_name_among above.threads name
is_duplicate whole above (says.Policy name binary) = is_name_among above.policies name
is_duplicate whole above (says.Fork name) = is_started whole above name
is_duplicate whole above _ = false

-- a content or a target of too many bytes
abbrev pub is_large : NewKind → Bool
is_large kind.Dir = false
is_large (kind.File content) = nat_lt LONGEST_FILE (length content)
is_large (kind.Link target) = nat_lt LONGEST_TEXT (length target)

-- whether this many more instructions are too many
abbrev pub exceeds : Names → ℕ → Bool
exceeds above count = nat_lt MOST_INSTRUCTIONS (above.instructions + count)

-- too many rows, instructions or filters, or too many bytes, up to this row
abbrev pub is_too_many : WholeScript → Names → Statement → Bool
is_too_many whole above (says.Object path new) = nat_le MOST_TREE_ROWS (length above.paths) || (is_long path || is_large new.kind)
is_too_many whole above (says.Process process) =
    nat_le MOST_PROCESSES (length above.processes) || (is_long process.binary || is_long process.cwd)
is_too_many whole above (says.Thread name process) = nat_le MOST_THREADS (length above.threads)
is_too_many whole above (says.Reply binary filter) = is_long (unquoted whole.env.dollars binary)
is_too_many whole above (says.Filter text) = nat_le MOST_FILTERS above.filters
is_too_many whole above (says.Store place word) = exceeds above 1
is_too_many whole above (says.Put place bytes) = exceeds above (store_count bytes)
is_too_many whole above (says.Call call regs) = exceeds above 1
is_too_many whole above (says.Fork name) = exceeds above 1
is_too_many whole above (says.Reload name) = exceeds above 1
is_too_many whole above _ = false

-- a reload while policies are learnt
abbrev pub reloads_while_learning : WholeScript → Statement → Bool
reloads_while_learning whole (says.Reload name) = whole.env.learn
reloads_while_learning whole _ = false

-- ---- faults

-- the fault of a row: the first kind that applies
abbrev pub row_fault : WholeScript → Names → List ScriptLine → ℕ → Statement → Option ScriptFault
row_fault whole above below line statement =
    if expects_other whole below statement then Some (Expected line)
    else if is_unknown whole above statement then Some (UnknownName line)
    else if is_duplicate whole above statement then Some (Duplicate line)
    else if is_too_many whole above statement then Some (TooMany line)
    else if reloads_while_learning whole statement then Some (ReloadWithLearn line)
    else None

-- the fault of a line, by what it says; a line that says nothing isn't in the grammar
abbrev pub statement_fault : WholeScript → Names → List ScriptLine → ℕ → Option Statement → Option ScriptFault
statement_fault whole above below line None = Some (Expected line)
statement_fault whole above below line (Some statement) = row_fault whole above below line statement

-- the fault of a line
abbrev pub line_fault : WholeScript → Names → List ScriptLine → ScriptLine → Option ScriptFault
line_fault whole above below line = statement_fault whole above below line.number line.says

-- the fault of the first line that has one, below rows that define these names
abbrev pub first_fault : WholeScript → Names → List ScriptLine → Option ScriptFault
first_fault whole above [] = None
first_fault whole above (line ∷ lines) =
    elim (line_fault whole above lines line) [
      | Some fault ↦ Some fault
      | None ↦ first_fault whole (with_says above line.says) lines
    ]

-- names, with that of a row's thread added, if the row is a thread's
abbrev pub with_thread_name : List Name → Option Statement → List Name
with_thread_name names (Some (says.Thread name process)) = with_new_name names name
with_thread_name names _ = names

-- these threads, with those of lines added after them
abbrev pub threads_after : List Name → List ScriptLine → List Name
threads_after names [] = names
threads_after names (line ∷ lines) = threads_after (with_thread_name names line.says) lines

-- names, with that of a row's thread added, if the thread starts in a process
abbrev pub with_started : List Name → Option Statement → List Name
with_started names (Some (says.Thread name (Some process))) = with_new_name names name
with_started names _ = names

-- these threads, with those of lines that start in a process added after them
abbrev pub started_after : List Name → List ScriptLine → List Name
started_after names [] = names
started_after names (line ∷ lines) = started_after (with_started names line.says) lines

-- what the rows of a script are read with, from the whole script
abbrev pub whole_of : Bool → Options → List ScriptLine → Emulation → WholeScript
whole_of is_cut options lines emulation = record {
  is_cut = is_cut;
  threads = threads_after [] lines;
  started = started_after [] lines;
  env = environment_of options lines emulation;
}

-- the lexical fault of a script
abbrev pub script_lexical_fault : Option LexFault → Option ScriptFault
script_lexical_fault fault = option_map Lex fault

-- the first of two faults, if any
abbrev pub first_of : Option ScriptFault → Option ScriptFault → Option ScriptFault
first_of (Some fault) other = Some fault
first_of None other = other

-- the fault of a script: that of its first line that has one, otherwise the lexical fault
abbrev pub script_fault : Options → Option LexFault → List ScriptLine → Emulation → Option ScriptFault
script_fault options broken lines emulation =
    first_of (first_fault (whole_of (is_some broken) options lines emulation) no_names lines) (script_lexical_fault broken)
