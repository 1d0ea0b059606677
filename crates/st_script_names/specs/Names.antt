-- What the rows above a row of a script define: names, each once and in order, and the numbers of instructions and of filters.
use Rattle.std.specs.Prelude.{ℕ, zero, suc, ◌+◌, ◌/◌, ◌==◌, Bool, true, if◌then◌else◌, List, [], ◌∷◌, ◌++◌, length, take, slice_index, Option, Some, None}
use Rattle.std.specs.List.{list_any, position_or_len}
use Rattle.std.specs.Str.{bytes_eq}
use Rattle.st_model.specs.declared.object.NewKind.{NewKind}
use Rattle.st_model.specs.declared.object.NewKind.TheVariants as kind
use Rattle.st_names.specs.Name.{slash}
use Rattle.st_statements.specs.Lines.{saturated}
use Rattle.st_statements.specs.declared.statement.Statement.{Statement}
use Rattle.st_statements.specs.declared.statement.Statement.TheVariants as says

-- a name, as its bytes
abbrev pub Name : Type 0
Name = List ℕ

-- whether a name is among some
abbrev pub is_name_among : List Name → Name → Bool
is_name_among names name = list_any (bytes_eq name) names

-- names with one more, unless it is among them already
abbrev pub with_new_name : List Name → Name → List Name
with_new_name names name = if is_name_among names name then names else names ++ name ∷ []

-- the number of a name among some, counted from 1; one more than their count if it isn't among them
abbrev pub name_number : List Name → Name → ℕ
name_number names name = saturated (position_or_len (bytes_eq name) names + 1)

-- what rows define
pub record Names : Type 0 where
  pub users : List Name
  pub groups : List Name
  pub paths : List Name
  -- the paths of directories
  pub directories : List Name
  pub processes : List Name
  pub threads : List Name
  -- the threads that forks start
  pub forked : List Name
  pub policies : List Name
  pub instructions : ℕ
  -- the filters of policies
  pub filters : ℕ

-- what no rows define
abbrev pub no_names : Names
no_names = record { users = []; groups = []; paths = []; directories = []; processes = []; threads = []; forked = []; policies = []; instructions = 0; filters = 0 }

-- the directories, with this path added if the new object there is a directory
abbrev pub with_object : List Name → Name → NewKind → List Name
with_object directories path kind.Dir = with_new_name directories path
with_object directories path (kind.File content) = directories
with_object directories path (kind.Link target) = directories

-- how many instructions it takes to put a text into memory: the stores of the text and of a zero byte, in whole words
abbrev pub store_count : List ℕ → ℕ
store_count bytes = length bytes / 8 + 1

-- the names, with what a row defines added
abbrev pub with_statement : Names → Statement → Names
with_statement names (says.User user) = record names { users = with_new_name names.users user.name }
with_statement names (says.Group group) = record names { groups = with_new_name names.groups group.name }
with_statement names (says.Object path new) =
    record names { paths = with_new_name names.paths path; directories = with_object names.directories path new.kind }
with_statement names (says.Process process) = record names { processes = with_new_name names.processes process.name }
with_statement names (says.Thread name process) = record names { threads = with_new_name names.threads name }
with_statement names (says.Reply binary filter) = names
with_statement names (says.Policy name binary) = record names { policies = with_new_name names.policies name }
with_statement names (says.Filter text) = record names { filters = names.filters + 1 }
with_statement names (says.Store place word) = record names { instructions = names.instructions + 1 }
with_statement names (says.Put place bytes) = record names { instructions = names.instructions + store_count bytes }
with_statement names (says.Call call regs) = record names { instructions = names.instructions + 1 }
with_statement names (says.Fork name) = record names { forked = with_new_name names.forked name; instructions = names.instructions + 1 }
with_statement names (says.Reload name) = record names { instructions = names.instructions + 1 }
with_statement names says.End = names

-- the same, if a row says something
abbrev pub with_says : Names → Option Statement → Names
with_says names None = names
with_says names (Some statement) = with_statement names statement

-- the index of the last slash among the first n bytes; 0 if there is none
abbrev pub last_slash : List ℕ → ℕ → ℕ
last_slash path zero = 0
last_slash path (suc n) = if slice_index path n == slash then n else last_slash path n

-- the bytes before the last slash: the path of the directory, which is empty if the directory is the root
abbrev pub directory_of : List ℕ → List ℕ
directory_of path = take (last_slash path (length path)) path

-- whether a directory exists: its path is empty, as the root's, or among these
abbrev pub is_known_directory : List Name → Name → Bool
is_known_directory directories [] = true
is_known_directory directories (byte ∷ bytes) = is_name_among directories (byte ∷ bytes)
