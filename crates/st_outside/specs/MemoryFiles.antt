-- The model of files in memory.
use Rattle.std.specs.Prelude.{ℕ, Bool, List, [], ◌∷◌, if◌then◌else◌}
use Rattle.std.specs.Str.{bytes_eq}
use Rattle.st_outside.specs.Count.{is_one_of, next_count}
use Rattle.st_outside.specs.Files.{FileView, Absent, FileBytes}
use Rattle.st_outside.specs.declared.memory_files.HeldFile.{HeldFile}

-- files in memory: the files in the order in which they were added, the number of fetches so far,
-- the numbers of the fetches that fail, the count of faults, and the names that were fetched
pub record FilesInMemory : Type 0 where
  pub files : List HeldFile
  pub fetches : ℕ
  pub failing : List ℕ
  pub faults : ℕ
  pub asked : List (List ℕ)

-- whether the next fetch fails: its number is among those that fail
abbrev pub fetch_fails : FilesInMemory → Bool
fetch_fails files = is_one_of files.failing (next_count files.fetches)

-- the content of a later file, or otherwise that of an earlier file
abbrev pub later_view : FileView → FileView → FileView
later_view (FileBytes content) earlier = FileBytes content
later_view _ earlier = earlier

-- the content that one file has for a name
abbrev pub view_of_file : HeldFile → List ℕ → FileView
view_of_file file name = if bytes_eq file.name name then FileBytes file.content else Absent

-- the content that a name holds after these files were added in this order
abbrev pub view_of_name : List HeldFile → List ℕ → FileView
view_of_name [] name = Absent
view_of_name (file ∷ files) name = later_view (view_of_name files name) (view_of_file file name)
