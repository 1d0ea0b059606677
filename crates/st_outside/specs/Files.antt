-- What is known of a file's content, and which results of a fetch agree with it.
use Rattle.std.specs.Prelude.{◌≡◌, ℕ, ◌<◌, ◌≤◌, List, length}
use Rattle.st_outside.specs.declared.files.TheConstants.{FILE_LIMIT}

-- what is known of a name: nothing, that no file has it, or that a file with these bytes has it
pub data FileView : Type 0 where
  Unknown : FileView
  Absent : FileView
  FileBytes : List ℕ → FileView

-- a fetch may return this text: nothing is known, or it is the known content
abbrev pub CanHold : FileView → List ℕ → Type 0
CanHold Unknown text = Unit {0}
CanHold Absent text = ⊥
CanHold (FileBytes content) text = text ≡ content

-- the file may be missing: nothing is known, or it is known to be absent
abbrev pub CanLack : FileView → Type 0
CanLack Unknown = Unit {0}
CanLack Absent = Unit {0}
CanLack (FileBytes content) = ⊥

-- the file may be too long: nothing is known, or the known content has more than `FILE_LIMIT` bytes
abbrev pub CanExceed : FileView → Type 0
CanExceed Unknown = Unit {0}
CanExceed Absent = ⊥
CanExceed (FileBytes content) = FILE_LIMIT < length content

-- the file may exist and be short enough: nothing is known, or the known content has at most `FILE_LIMIT` bytes
abbrev pub CanFit : FileView → Type 0
CanFit Unknown = Unit {0}
CanFit Absent = ⊥
CanFit (FileBytes content) = length content ≤ FILE_LIMIT
