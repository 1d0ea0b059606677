-- A change, as the trace writes it.
use Rattle.std.specs.Prelude.{ℕ, List, [], ◌∷◌, ◌++◌, codes}
use Rattle.std.specs.List.{flat_map}
use Rattle.st_model.specs.declared.object.NewKind.{NewKind}
use Rattle.st_model.specs.declared.object.NewKind.TheVariants.{Dir, File, Link}
use Rattle.st_trace.specs.declared.entry.Change.{Change}
use Rattle.st_trace.specs.declared.entry.Change.TheVariants.{Made, Linked, Removed, Renamed, Written, Cut, Moded, Owned, Put, Forked, Execed, SetIds, Cwd, Dying, Renewed, Policy}
use Rattle.st_report.specs.Fields.{number_fields, mode_field, text_field, name_field, bytes_field, four_ids}

-- the word for the kind of an object that is made
abbrev pub kind_word : NewKind → List ℕ
kind_word Dir = codes "dir"
kind_word (File content) = codes "file"
kind_word (Link target) = codes "link"

-- the target of a link that is made; empty for other kinds
abbrev pub target_text : NewKind → List ℕ
target_text Dir = []
target_text (File content) = []
target_text (Link target) = target

-- a change: its word, and its fields
abbrev pub change_text : Change → List ℕ
change_text (Made name obj kind uid gid mode) =
    codes "made" ++ name_field name ++ number_fields (obj ∷ []) ++ codes " " ++ kind_word kind ++ number_fields (uid ∷ gid ∷ []) ++ mode_field mode ++ text_field (target_text kind)
change_text (Linked name obj) = codes "linked" ++ name_field name ++ number_fields (obj ∷ [])
change_text (Removed name) = codes "removed" ++ name_field name
change_text (Renamed old new) = codes "renamed" ++ name_field old ++ name_field new
change_text (Written obj at bytes) = codes "written" ++ number_fields (obj ∷ at ∷ []) ++ bytes_field bytes
change_text (Cut obj len) = codes "cut" ++ number_fields (obj ∷ len ∷ [])
change_text (Moded obj mode) = codes "moded" ++ number_fields (obj ∷ []) ++ mode_field mode
change_text (Owned obj uid gid) = codes "owned" ++ number_fields (obj ∷ uid ∷ gid ∷ [])
change_text (Put space at bytes) = codes "put" ++ number_fields (space ∷ at ∷ []) ++ bytes_field bytes
change_text (Forked pid space tid) = codes "forked" ++ number_fields (pid ∷ space ∷ tid ∷ [])
change_text (Execed binary space) = codes "execed" ++ text_field binary ++ number_fields (space ∷ [])
change_text (SetIds ids) = codes "setids" ++ four_ids ids
change_text (Cwd name) = codes "cwd" ++ name_field name
change_text (Dying pid) = codes "dying" ++ number_fields (pid ∷ [])
change_text (Renewed old new) = codes "renewed" ++ number_fields (old ∷ new ∷ [])
change_text (Policy binary) = codes "policy" ++ text_field binary

-- a change after a comma
abbrev pub change_field : Change → List ℕ
change_field change = codes ", " ++ change_text change

-- changes, each after a comma
abbrev pub changes_fields : List Change → List ℕ
changes_fields changes = flat_map change_field changes
