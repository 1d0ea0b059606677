-- The processes that calls can be made for: they have descriptors and a memory, and what is open was made and isn't a link.
use Rattle.std.specs.Prelude.{◌≡◌, ℕ, Bool, true, false, All}
use Rattle.st_memory.specs.Memory.{Memories, is_space_live}
use Rattle.st_model.specs.Descriptors.{Table, has_table}
use Rattle.st_model.specs.Processes.{Processes, IsPid, process_at}
use Rattle.st_model.specs.Tree.{Tree, is_directory, node_with_number}
use Rattle.st_model.specs.declared.open_file.FileKind.{FileKind}
use Rattle.st_model.specs.declared.open_file.FileKind.TheVariants.{Console, Node, Socket}
use Rattle.st_model.specs.declared.open_file.OpenFile.{OpenFile}
use Rattle.st_effects.specs.Names.{is_link}
use Rattle.st_tree.specs.Refusals.{IsObjectNumber}

-- an object was made and isn't a link, and if it is open for writing, it isn't a directory
pub record IsOpenable (tree : Tree) (is_written : Bool) (obj : ℕ) : Type 0 where
  pub made : IsObjectNumber tree obj
  pub no_link : is_link (node_with_number tree obj).kind ≡ false
  pub no_directory : is_written ≡ true → is_directory (node_with_number tree obj).kind ≡ false

-- the same for what is open, if that is an object
abbrev pub IsValidFileKind : Tree → Bool → FileKind → Type 0
IsValidFileKind tree is_written Console = Unit {0}
IsValidFileKind tree is_written (Node obj) = IsOpenable tree is_written obj
IsValidFileKind tree is_written (Socket port connected) = Unit {0}

-- an open file's object was made and isn't a link, and if it is open for writing, it isn't a directory
abbrev pub IsValidOpenFile : Tree → OpenFile → Type 0
IsValidOpenFile tree file = IsValidFileKind tree file.write file.kind

-- the same for each open file
abbrev pub AreValidOpenFiles : Tree → Table → Type 0
AreValidOpenFiles tree table = All (IsValidOpenFile tree) table.files

-- each object that was made still exists, and has its kind
abbrev pub KeepsObjects : Tree → Tree → Type 0
KeepsObjects old new = (number : ℕ) → IsObjectNumber old number → IsObjectNumber new number × ((node_with_number new number).kind ≡ (node_with_number old number).kind)

-- calls can be made for a process: it has descriptors and a memory, and what is open is real
pub record IsReady (tree : Tree) (descriptors : Table) (processes : Processes) (spaces : Memories) (pid : ℕ) : Type 0 where
  pub table : has_table descriptors pid ≡ true
  pub process : IsPid processes pid
  pub space : is_space_live spaces (process_at processes pid).space ≡ true
  pub real : AreValidOpenFiles tree descriptors
