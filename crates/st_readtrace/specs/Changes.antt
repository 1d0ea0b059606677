-- Changes, as they are read.
use Rattle.std.specs.Prelude.{ℕ, zero, suc, if◌then◌else◌, List, [], ◌∷◌, length, codes, Option, Some, None}
use Rattle.std.specs.Str.{bytes_eq}
use Rattle.st_trace.specs.declared.entry.Change.{Change}
use Rattle.st_trace.specs.declared.entry.Change.TheVariants.{Made, Linked, Removed, Renamed, Written, Cut, Moded, Owned, Put, Forked, Execed, SetIds, Cwd, Dying, Renewed, Policy}
use Rattle.st_fields.specs.Reads.{◌>>=◌}
use Rattle.st_fields.specs.Words.{after_byte, comma, number_of_16, number_of_32, number_of_64, octal_number, bytes_of_word, kind_of_word}
use Rattle.st_fields.specs.Fields.{word_at, spelled_at, text_at, name_at, ids_at}

-- ---- changes of names

unfoldable pub made_at : List ℕ → Option (Change × List ℕ)
made_at bytes = do
  name ← name_at bytes
  obj ← spelled_at number_of_32 name.1
  word ← word_at obj.1
  uid ← spelled_at number_of_32 word.1
  gid ← spelled_at number_of_32 uid.1
  mode ← spelled_at octal_number gid.1
  target ← text_at mode.1
  kind ← kind_of_word word.0 target.0
  Some (Made name.0 obj.0 kind uid.0 gid.0 mode.0, target.1)

unfoldable pub linked_at : List ℕ → Option (Change × List ℕ)
linked_at bytes = do
  name ← name_at bytes
  obj ← spelled_at number_of_32 name.1
  Some (Linked name.0 obj.0, obj.1)

unfoldable pub removed_at : List ℕ → Option (Change × List ℕ)
removed_at bytes = do
  name ← name_at bytes
  Some (Removed name.0, name.1)

unfoldable pub renamed_at : List ℕ → Option (Change × List ℕ)
renamed_at bytes = do
  old ← name_at bytes
  new ← name_at old.1
  Some (Renamed old.0 new.0, new.1)

unfoldable pub cwd_at : List ℕ → Option (Change × List ℕ)
cwd_at bytes = do
  name ← name_at bytes
  Some (Cwd name.0, name.1)

-- ---- changes of objects and memories

unfoldable pub written_at : List ℕ → Option (Change × List ℕ)
written_at bytes = do
  obj ← spelled_at number_of_32 bytes
  at ← spelled_at number_of_64 obj.1
  written ← spelled_at bytes_of_word at.1
  Some (Written obj.0 at.0 written.0, written.1)

unfoldable pub cut_at : List ℕ → Option (Change × List ℕ)
cut_at bytes = do
  obj ← spelled_at number_of_32 bytes
  len ← spelled_at number_of_64 obj.1
  Some (Cut obj.0 len.0, len.1)

unfoldable pub moded_at : List ℕ → Option (Change × List ℕ)
moded_at bytes = do
  obj ← spelled_at number_of_32 bytes
  mode ← spelled_at octal_number obj.1
  Some (Moded obj.0 mode.0, mode.1)

unfoldable pub owned_at : List ℕ → Option (Change × List ℕ)
owned_at bytes = do
  obj ← spelled_at number_of_32 bytes
  uid ← spelled_at number_of_32 obj.1
  gid ← spelled_at number_of_32 uid.1
  Some (Owned obj.0 uid.0 gid.0, gid.1)

unfoldable pub put_at : List ℕ → Option (Change × List ℕ)
put_at bytes = do
  space ← spelled_at number_of_32 bytes
  at ← spelled_at number_of_64 space.1
  put ← spelled_at bytes_of_word at.1
  Some (Put space.0 at.0 put.0, put.1)

-- ---- changes of processes and messages

unfoldable pub forked_at : List ℕ → Option (Change × List ℕ)
forked_at bytes = do
  pid ← spelled_at number_of_32 bytes
  space ← spelled_at number_of_32 pid.1
  tid ← spelled_at number_of_32 space.1
  Some (Forked pid.0 space.0 tid.0, tid.1)

unfoldable pub execed_at : List ℕ → Option (Change × List ℕ)
execed_at bytes = do
  binary ← text_at bytes
  space ← spelled_at number_of_32 binary.1
  Some (Execed binary.0 space.0, space.1)

unfoldable pub set_ids_at : List ℕ → Option (Change × List ℕ)
set_ids_at bytes = do
  ids ← ids_at bytes
  Some (SetIds ids.0, ids.1)

unfoldable pub dying_at : List ℕ → Option (Change × List ℕ)
dying_at bytes = do
  pid ← spelled_at number_of_32 bytes
  Some (Dying pid.0, pid.1)

unfoldable pub renewed_at : List ℕ → Option (Change × List ℕ)
renewed_at bytes = do
  old ← spelled_at number_of_16 bytes
  new ← spelled_at number_of_16 old.1
  Some (Renewed old.0 new.0, new.1)

unfoldable pub policy_at : List ℕ → Option (Change × List ℕ)
policy_at bytes = do
  binary ← text_at bytes
  Some (Policy binary.0, binary.1)

-- ---- a change by its word

unfoldable pub process_change : List ℕ → List ℕ → Option (Change × List ℕ)
process_change word rest =
    if bytes_eq word (codes "forked") then forked_at rest
    else if bytes_eq word (codes "execed") then execed_at rest
    else if bytes_eq word (codes "setids") then set_ids_at rest
    else if bytes_eq word (codes "dying") then dying_at rest
    else if bytes_eq word (codes "renewed") then renewed_at rest
    else if bytes_eq word (codes "policy") then policy_at rest
    else None

unfoldable pub object_change : List ℕ → List ℕ → Option (Change × List ℕ)
object_change word rest =
    if bytes_eq word (codes "written") then written_at rest
    else if bytes_eq word (codes "cut") then cut_at rest
    else if bytes_eq word (codes "moded") then moded_at rest
    else if bytes_eq word (codes "owned") then owned_at rest
    else if bytes_eq word (codes "put") then put_at rest
    else process_change word rest

unfoldable pub name_change : List ℕ → List ℕ → Option (Change × List ℕ)
name_change word rest =
    if bytes_eq word (codes "made") then made_at rest
    else if bytes_eq word (codes "linked") then linked_at rest
    else if bytes_eq word (codes "removed") then removed_at rest
    else if bytes_eq word (codes "renamed") then renamed_at rest
    else if bytes_eq word (codes "cwd") then cwd_at rest
    else object_change word rest

unfoldable pub change_at : List ℕ → Option (Change × List ℕ)
change_at bytes = do
  word ← word_at bytes
  name_change word.0 word.1

-- a change after a comma
unfoldable pub next_change_at : List ℕ → Option (Change × List ℕ)
next_change_at bytes = do
  rest ← after_byte comma bytes
  change_at rest

-- changes up to the end, at most so many
unfoldable pub changes_from : ℕ → List ℕ → Option (List Change)
changes_from most [] = Some []
changes_from zero (b ∷ bs) = None
changes_from (suc most) (b ∷ bs) = do
  change ← next_change_at (b ∷ bs)
  others ← changes_from most change.1
  Some (change.0 ∷ others)

-- changes up to the end; each has a byte at least
abbrev pub changes_at : List ℕ → Option (List Change)
changes_at bytes = changes_from (length bytes) bytes
