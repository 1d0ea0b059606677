-- Entries whose names are normal and whose new files are empty, as in a lawful trace.
use Rattle.std.specs.Prelude.{◌≡◌, true, List, []}
use Rattle.std.specs.List.{AllByRecursion}
use Rattle.st_model.specs.declared.object.NewKind.{NewKind}
use Rattle.st_model.specs.declared.object.NewKind.TheVariants as kind
use Rattle.st_names.specs.Name.{Components, is_component}
use Rattle.st_trace.specs.declared.entry.Cause.{Cause}
use Rattle.st_trace.specs.declared.entry.Cause.TheVariants as cause
use Rattle.st_trace.specs.declared.entry.Change.{Change}
use Rattle.st_trace.specs.declared.entry.Change.TheVariants.{Made, Linked, Removed, Renamed, Cwd}
use Rattle.st_trace.specs.declared.entry.Entry.{Entry}
use Rattle.st_trace.specs.declared.entry.Entry.TheVariants.{Looked, Used, Denied, Reloaded}
use Rattle.st_law.specs.declared.input.Input.{Input}
use Rattle.st_written.specs.Written.{IsEntry}

-- each part of a name is a component: neither nothing nor `.`
abbrev pub IsNormal : Components → Type 0
IsNormal name = AllByRecursion (λ part. is_component part ≡ true) name

-- the directories in which the script's processes start have normal names
abbrev pub HasNormalDirectories : Input → Type 0
HasNormalDirectories i = AllByRecursion (λ row. IsNormal row.cwd) i.start.processes

-- a new file is empty
abbrev pub IsNewKind : NewKind → Type 0
IsNewKind kind.Dir = Unit {0}
IsNewKind (kind.File content) = content ≡ []
IsNewKind (kind.Link target) = Unit {0}

abbrev pub IsNormalChange : Change → Type 0
IsNormalChange (Made name obj new uid gid mode) = IsNormal name × IsNewKind new
IsNormalChange (Linked name obj) = IsNormal name
IsNormalChange (Removed name) = IsNormal name
IsNormalChange (Renamed old new) = IsNormal old × IsNormal new
IsNormalChange (Cwd name) = IsNormal name
IsNormalChange _ = Unit {0}

abbrev pub AreNormalChanges : List Change → Type 0
AreNormalChanges changes = AllByRecursion IsNormalChange changes

abbrev pub IsNormalCause : Cause → Type 0
IsNormalCause (cause.Link name) = IsNormal name
IsNormalCause _ = Unit {0}

-- the names of an entry are normal, and the files that it makes are empty
abbrev pub IsNormalEntry : Entry → Type 0
IsNormalEntry (Looked seq part name saw) = IsNormal name
IsNormalEntry (Used tid seq call regs args ids result changes) = AreNormalChanges changes
IsNormalEntry (Denied tid seq errno why) = IsNormalCause why
IsNormalEntry (Reloaded tid policy done changes) = AreNormalChanges changes
IsNormalEntry _ = Unit {0}

-- An entry has the values of its type: its numbers have the bits of their types, its texts are bytes, and no part of a name has a slash. So
-- it is one that traces are written of, if it is normal.
abbrev pub HasTypes : Entry → Type 0
HasTypes entry = IsNormalEntry entry → IsEntry entry

abbrev pub HaveTypes : List Entry → Type 0
HaveTypes trace = AllByRecursion HasTypes trace
