-- The environment that policies and the filters of a script's replies are read with: what all rows of the script define.
use Rattle.std.specs.Prelude.{ℕ, Bool, true, false, ◌||◌, ◌&&◌, not, ◌==◌, if◌then◌else◌, nat_le, List, [], ◌∷◌, length, map, codes, decimal, find, Option, Some, None, is_some}
use Rattle.st_emulation.specs.declared.emulation.Emulation.{Emulation}
use Rattle.st_law.specs.declared.input.Mode.{Mode}
use Rattle.st_law.specs.declared.input.Mode.TheVariants.{Enforce, Learn, AskText}
use Rattle.st_law.specs.declared.input.Options.{Options}
use Rattle.st_lex.specs.declared.unquoted.Dollars.{Dollars}
use Rattle.st_grammar.specs.declared.env.Env.{Env}
use Rattle.st_grammar.specs.declared.env.NamedId.{NamedId}
use Rattle.st_script_names.specs.Names.{Name, is_name_among, with_new_name}
use Rattle.st_statements.specs.Parts.{is_long}
use Rattle.st_script_names.specs.declared.limits.TheConstants.{MOST_PROCESSES}
use Rattle.st_statements.specs.declared.statement.ScriptLine.{ScriptLine}
use Rattle.st_statements.specs.declared.statement.ScriptProcess.{ScriptProcess}
use Rattle.st_statements.specs.declared.statement.Statement.{Statement}
use Rattle.st_statements.specs.declared.statement.Statement.TheVariants as says
use Rattle.st_trace.specs.declared.start.GroupRow.{GroupRow}
use Rattle.st_trace.specs.declared.start.UserRow.{UserRow}

-- the user that a row defines, if no row above has its name
abbrev pub new_user : List Name → Option Statement → Option UserRow
new_user known (Some (says.User user)) = if is_name_among known user.name then None else Some user
new_user known _ = None

-- the users that lines define, below rows that define these names: of each name the first
abbrev pub users_below : List Name → List ScriptLine → List UserRow
users_below known [] = []
users_below known (line ∷ lines) =
    elim (new_user known line.says) [
      | Some user ↦ user ∷ users_below (with_new_name known user.name) lines
      | None ↦ users_below known lines
    ]

-- the group that a row defines, if no row above has its name
abbrev pub new_group : List Name → Option Statement → Option GroupRow
new_group known (Some (says.Group group)) = if is_name_among known group.name then None else Some group
new_group known _ = None

-- the groups that lines define, below rows that define these names: of each name the first
abbrev pub groups_below : List Name → List ScriptLine → List GroupRow
groups_below known [] = []
groups_below known (line ∷ lines) =
    elim (new_group known line.says) [
      | Some group ↦ group ∷ groups_below (with_new_name known group.name) lines
      | None ↦ groups_below known lines
    ]

-- the process of a row, if it has one
abbrev pub script_process : Option Statement → Option ScriptProcess
script_process (Some (says.Process process)) = Some process
script_process _ = None

-- whether a process is refused, given the processes above: its name is taken, there are too many, or its binary or directory is too long
abbrev pub is_refused : List Name → ScriptProcess → Bool
is_refused known process =
    is_name_among known process.name || (nat_le MOST_PROCESSES (length known) || (is_long process.binary || is_long process.cwd))

-- whether a process is traced and isn't refused
abbrev pub is_given : List Name → ScriptProcess → Bool
is_given known process = process.traced && not (is_refused known process)

-- the first traced process of lines, below rows with these processes
abbrev pub first_traced : List Name → List ScriptLine → Option ScriptProcess
first_traced known [] = None
first_traced known (line ∷ lines) =
    elim (script_process line.says) [
      | Some process ↦ if is_given known process then Some process else first_traced (with_new_name known process.name) lines
      | None ↦ first_traced known lines
    ]

-- the user of a traced process: that of `-c` if given, otherwise its own
abbrev pub user_of : Options → ScriptProcess → ℕ
user_of options process = elim options.ids [ Some ids ↦ ids.0 | None ↦ process.uid ]

-- the home and the name of an id: those of the first user with it, otherwise `/` and the id in digits
abbrev pub dollars_by : ℕ → Name → Option UserRow → Dollars
dollars_by uid cwd (Some user) = record { home = user.home; user = user.name; cwd = cwd }
dollars_by uid cwd None = record { home = codes "/"; user = decimal uid; cwd = cwd }

-- the texts that replace `$HOME`, `$USER` and `$CWD`: those of the first traced process, or of root if there is none
abbrev pub dollars_of : Options → List UserRow → Option ScriptProcess → Dollars
dollars_of options users None = record { home = codes "/root"; user = codes "root"; cwd = codes "/" }
dollars_of options users (Some process) =
    dollars_by (user_of options process) process.cwd (find (λ user. user.uid == user_of options process) users)

-- the name and the id of a user, and of a group
abbrev pub user_id : UserRow → NamedId
user_id user = record { name = user.name; id = user.uid }

abbrev pub group_id : GroupRow → NamedId
group_id group = record { name = group.name; id = group.gid }

-- whether policies are learnt
abbrev pub learns : Mode → Bool
learns Learn = true
learns Enforce = false
learns AskText = false

-- the environment that the lines of a script define, if their filters are for this emulation
abbrev pub environment_of : Options → List ScriptLine → Emulation → Env
environment_of options lines emulation = record {
  users = map user_id (users_below [] lines);
  groups = map group_id (groups_below [] lines);
  dollars = dollars_of options (users_below [] lines) (first_traced [] lines);
  elevate = is_some options.ids;
  learn = learns options.mode;
  emulation = emulation;
}
