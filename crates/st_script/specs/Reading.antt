-- What a script's text is read as: the start of a run, the environment of policies, the operator's replies, and the policies that reloads put
-- in force.
use Rattle.std.specs.Prelude.{ℕ, ◌+◌, if◌then◌else◌, List, [], ◌∷◌, ◌++◌, drop, map, slice_index, Option, Some, None, option_map, Result, Ok, Err}
use Rattle.std.specs.List.{cons_option, filter_map, range_with_len}
use Rattle.st_emulation.specs.declared.emulation.Emulation.{Emulation}
use Rattle.st_filter.specs.Formula.{FilterValue}
use Rattle.st_filter.specs.declared.set.BinaryPolicy.{BinaryPolicy}
use Rattle.st_filter.specs.declared.set.Reply.{Reply}
use Rattle.st_law.specs.declared.input.Options.{Options}
use Rattle.st_lex.specs.Tokens.{lexed_text}
use Rattle.st_lex.specs.declared.token.LexFault.{LexFault}
use Rattle.st_model.specs.Memory.{word_of}
use Rattle.st_names.specs.Name.{Components, components_of, split_at_slashes}
use Rattle.st_grammar.specs.declared.env.Env.{Env}
use Rattle.st_script_names.specs.Environment.{environment_of, script_process}
use Rattle.st_script_faults.specs.Faults.{ends_body, filter_said, policy_said, reply_said, script_fault, threads_after}
use Rattle.st_statements.specs.Lines.{saturated}
use Rattle.st_script_names.specs.Names.{Name, name_number, store_count, with_new_name}
use Rattle.st_statements.specs.Statements.{lines_in}
use Rattle.st_script_faults.specs.declared.fault.ScriptFault.{ScriptFault}
use Rattle.st_script.specs.declared.reading.ReadScript.{ReadScript}
use Rattle.st_statements.specs.declared.statement.ScriptLine.{ScriptLine}
use Rattle.st_statements.specs.declared.statement.ScriptProcess.{ScriptProcess}
use Rattle.st_statements.specs.declared.statement.Statement.{Statement}
use Rattle.st_statements.specs.declared.statement.Statement.TheVariants as says
use Rattle.st_trace.specs.declared.start.GroupRow.{GroupRow}
use Rattle.st_trace.specs.declared.start.Instr.{Instr}
use Rattle.st_trace.specs.declared.start.Instr.TheVariants.{Store, Call, Fork, Reload}
use Rattle.st_trace.specs.declared.start.ProcessRow.{ProcessRow}
use Rattle.st_trace.specs.declared.start.Start.{Start}
use Rattle.st_trace.specs.declared.start.ThreadRow.{ThreadRow}
use Rattle.st_trace.specs.declared.start.TreeRow.{TreeRow}
use Rattle.st_trace.specs.declared.start.UserRow.{UserRow}

-- ---- accounts, objects and processes

-- the user of a line, if it has one
abbrev pub user_said : Option Statement → Option UserRow
user_said (Some (says.User user)) = Some user
user_said _ = None

-- the group of a line
abbrev pub group_said : Option Statement → Option GroupRow
group_said (Some (says.Group group)) = Some group
group_said _ = None

-- the components of an object's path
abbrev pub object_name : List ℕ → Components
object_name path = split_at_slashes (drop 1 path)

-- the object of a line
abbrev pub object_said : Option Statement → Option TreeRow
object_said (Some (says.Object path new)) = Some (record { name = object_name path; new = new })
object_said _ = None

-- the row of a process, as a run starts with it
abbrev pub started_process : ScriptProcess → ProcessRow
started_process process = record {
  traced = process.traced;
  binary = process.binary;
  uid = process.uid;
  gid = process.gid;
  cwd = components_of process.cwd;
}

-- the process of a line
abbrev pub process_said : Option Statement → Option ProcessRow
process_said statement = option_map started_process (script_process statement)

-- ---- threads

-- the store of word i of a text that begins at this word index and that zeros follow
abbrev pub store_of : ℕ → List ℕ → ℕ → Instr
store_of first bytes i = Store (saturated (first + i)) (word_of (slice_index bytes) i)

-- the stores of a text and a zero byte, filled with zeros to whole words
abbrev pub stores : ℕ → List ℕ → List Instr
stores first bytes = map (store_of first bytes) (range_with_len 0 (store_count bytes))

-- the names that instructions have the numbers of
pub record BodyNames : Type 0 where
  pub threads : List Name
  pub policies : List Name

-- the instructions of a line, given the threads and the policies of the script
abbrev pub instructions_said : BodyNames → Option Statement → List Instr
instructions_said names (Some (says.Store place word)) = Store place word ∷ []
instructions_said names (Some (says.Put place bytes)) = stores place bytes
instructions_said names (Some (says.Call call regs)) = Call call regs ∷ []
instructions_said names (Some (says.Fork name)) = Fork (name_number names.threads name) ∷ []
instructions_said names (Some (says.Reload name)) = Reload (name_number names.policies name) ∷ []
instructions_said names _ = []

-- the body of a thread: the instructions of the lines up to the next `end`
abbrev pub body_in : BodyNames → List ScriptLine → List Instr
body_in names [] = []
body_in names (line ∷ lines) = if ends_body line then [] else instructions_said names line.says ++ body_in names lines

-- the process that the thread of a line starts in, by its name, if it starts in one; nothing if the line isn't a thread's
abbrev pub thread_said : Option Statement → Option (Option Name)
thread_said (Some (says.Thread name process)) = Some process
thread_said _ = None

-- a thread in one of these processes, with this body
abbrev pub thread_with : List Name → Option Name → List Instr → ThreadRow
thread_with processes process body = record { process = option_map (name_number processes) process; body = body }

-- the threads of lines, given the processes of the script, and its threads and policies
abbrev pub threads_in : List Name → BodyNames → List ScriptLine → List ThreadRow
threads_in processes names [] = []
threads_in processes names (line ∷ lines) =
    elim (thread_said line.says) [
      | Some process ↦ thread_with processes process (body_in names lines) ∷ threads_in processes names lines
      | None ↦ threads_in processes names lines
    ]

-- names, with that of a row's process added, if the row is a process's
abbrev pub with_process_name : List Name → Option Statement → List Name
with_process_name names (Some (says.Process process)) = with_new_name names process.name
with_process_name names _ = names

-- these processes, with those of lines added after them
abbrev pub processes_after : List Name → List ScriptLine → List Name
processes_after names [] = names
processes_after names (line ∷ lines) = processes_after (with_process_name names line.says) lines

-- names, with that of a row's policy added, if the row is a policy's
abbrev pub with_policy_name : List Name → Option Statement → List Name
with_policy_name names (Some (says.Policy name binary)) = with_new_name names name
with_policy_name names _ = names

-- these policies, with those of lines added after them
abbrev pub policy_names_after : List Name → List ScriptLine → List Name
policy_names_after names [] = names
policy_names_after names (line ∷ lines) = policy_names_after (with_policy_name names line.says) lines

-- the threads and the policies of lines
abbrev pub body_names : List ScriptLine → BodyNames
body_names lines = record { threads = threads_after [] lines; policies = policy_names_after [] lines }

-- ---- policies

-- filters, unless a policy begins before them
abbrev pub unless_begun : Option Name → List FilterValue → List FilterValue
unless_begun (Some binary) filters = []
unless_begun None filters = filters

-- the filters of a policy: those of the lines below it, up to the next policy
abbrev pub filters_below : Env → List ScriptLine → List FilterValue
filters_below env [] = []
filters_below env (line ∷ lines) = unless_begun (policy_said env line.says) (cons_option (filter_said env line.says) (filters_below env lines))

-- policies, after the one of this binary with these filters, if one begins
abbrev pub with_block : Option Name → List FilterValue → List BinaryPolicy → List BinaryPolicy
with_block (Some binary) filters blocks = record { binary = binary; filters = filters } ∷ blocks
with_block None filters blocks = blocks

-- the policies of lines, each with its filters
abbrev pub blocks_in : Env → List ScriptLine → List BinaryPolicy
blocks_in env [] = []
blocks_in env (line ∷ lines) = with_block (policy_said env line.says) (filters_below env lines) (blocks_in env lines)

-- ---- the rows of a start

-- a start with these threads alone
abbrev pub only_threads : List ThreadRow → Start
only_threads threads = record { users = []; groups = []; tree = []; processes = []; threads = threads }

-- a start with the row of a line added, if it has one other than a thread's
abbrev pub with_row : Start → Option Statement → Start
with_row start (Some (says.User user)) = record start { users = start.users ++ user ∷ [] }
with_row start (Some (says.Group group)) = record start { groups = start.groups ++ group ∷ [] }
with_row start (Some (says.Object path new)) = record start { tree = start.tree ++ record { name = object_name path; new = new } ∷ [] }
with_row start (Some (says.Process process)) = record start { processes = start.processes ++ started_process process ∷ [] }
with_row start _ = start

-- a start with the rows of lines added, other than those of threads
abbrev pub with_rows : Start → List ScriptLine → Start
with_rows start lines = record {
  users = start.users ++ filter_map (λ line. user_said line.says) lines;
  groups = start.groups ++ filter_map (λ line. group_said line.says) lines;
  tree = start.tree ++ filter_map (λ line. object_said line.says) lines;
  processes = start.processes ++ filter_map (λ line. process_said line.says) lines;
  threads = start.threads;
}

-- ---- scripts

-- the start of a script's run
abbrev pub start_of : List ScriptLine → Start
start_of lines = record {
  users = filter_map (λ line. user_said line.says) lines;
  groups = filter_map (λ line. group_said line.says) lines;
  tree = filter_map (λ line. object_said line.says) lines;
  processes = filter_map (λ line. process_said line.says) lines;
  threads = threads_in (processes_after [] lines) (body_names lines) lines;
}

-- what lines without a fault are read as, with this environment
abbrev pub script_with : Env → List ScriptLine → ReadScript
script_with env lines = record {
  start = start_of lines;
  env = env;
  replies = filter_map (λ line. reply_said env line.says) lines;
  blocks = blocks_in env lines;
}

-- the script that was read, unless there is a fault
abbrev pub unless_fault : Option ScriptFault → ReadScript → Result ReadScript ScriptFault
unless_fault (Some fault) script = Err fault
unless_fault None script = Ok script

-- what lines are read as, if this lexical fault, or none, follows them
abbrev pub read_lines : Options → Option LexFault → List ScriptLine → Emulation → Result ReadScript ScriptFault
read_lines options broken lines emulation =
    unless_fault (script_fault options broken lines emulation) (script_with (environment_of options lines emulation) lines)

-- what the text of a script is read as, if its filters are for this emulation
abbrev pub script_in : List ℕ → Options → Emulation → Result ReadScript ScriptFault
script_in text options emulation = read_lines options (lexed_text text).fault (lines_in text) emulation
