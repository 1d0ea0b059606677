-- Open files whose objects were made and aren't links stay so.
use Rattle.std.proofs.Common.{◌∙◌, ℕ, Bool, List, [], ◌∷◌, Option, Some, None, inl, inr, get_or, ap, sym, subst, arith}
use Rattle.std.proofs.lemmas.List.Elements.{All-set, All-append, All-cons}
use Rattle.std.proofs.lemmas.Option.{slice_get_cases}
use Rattle.std.specs.Prelude.{All, IfSome}
use Rattle.st_model.specs.Descriptors.{Table, file_at, file_number_at, file_of_number, least_free}
use Rattle.st_model.specs.DescriptorCalls.{bad_descriptor, table_after_open, table_after_open_at, table_after_seek, table_unless_refused, with_changed_file_at}
use Rattle.st_model.specs.declared.open_file.OpenFile.{OpenFile}
use Rattle.st_model.specs.Tree.{Tree, is_directory}
use Rattle.st_model.specs.declared.open_file.FileKind.{FileKind}
use Rattle.st_model.specs.declared.open_file.FileKind.TheVariants.{Console, Node, Socket}
use Rattle.st_effects.specs.Names.{is_link}
use Rattle.st_tree.specs.Answers.{KeepsKinds}
use Rattle.st_request.specs.Ready.{AreValidOpenFiles, IsValidOpenFile, IsValidFileKind, KeepsObjects}

-- what holds of each open file holds of the one with a number
of_number : (P : OpenFile → Type 0) (files : List OpenFile) (number : Option ℕ) → All P files → IfSome (file_of_number files number) P
of_number P files None all = tt
of_number P files (Some n) all = elim (slice_get_cases files n).1 [
  | inl at ↦ subst (λ file. IfSome file P) (sym at.2) (subst P at.3 (all n at.0 at.1))
  | inr past ↦ subst (λ file. IfSome file P) (sym past.1) tt
]

-- a descriptor's open file
pub of_descriptor : (tree : Tree) (table : Table) (pid fd : ℕ) → AreValidOpenFiles tree table → IfSome (file_at table pid fd) (IsValidOpenFile tree)
of_descriptor tree table pid fd real = of_number (IsValidOpenFile tree) table.files (file_number_at table pid fd) real

sought_by : (tree : Tree) (table : Table) (offset : ℕ) (number : Option ℕ) (file : Option OpenFile) → AreValidOpenFiles tree table → IfSome file (IsValidOpenFile tree)
    → AreValidOpenFiles tree (table_unless_refused (bad_descriptor file) table (with_changed_file_at table number file (λ file. record file { offset = offset })))
sought_by tree table offset number None real is = real
sought_by tree table offset None (Some file) real is = real
sought_by tree table offset (Some n) (Some file) real is = All-set (IsValidOpenFile tree) table.files n (record file { offset = offset }) is real

-- an offset changes
pub sought : (tree : Tree) (table : Table) (pid fd offset : ℕ) → AreValidOpenFiles tree table → AreValidOpenFiles tree (table_after_seek table pid fd offset)
sought tree table pid fd offset real = sought_by tree table offset (file_number_at table pid fd) (file_at table pid fd) real (of_descriptor tree table pid fd real)

-- the objects keep their kinds
kept_kind : (old new : Tree) (is_written : Bool) (kind : FileKind) → KeepsKinds old new → IsValidFileKind old is_written kind → IsValidFileKind new is_written kind
kept_kind old new is_written Console kept is = tt
kept_kind old new is_written (Node obj) kept is = record {
  made = (is.made.0, omega (arith, is.made.1, kept.0));
  no_link = ap is_link (kept.1 obj) ∙ is.no_link;
  no_directory = λ writes. ap is_directory (kept.1 obj) ∙ is.no_directory writes;
}
kept_kind old new is_written (Socket port connected) kept is = tt

pub kept : (old new : Tree) (table : Table) → KeepsKinds old new → AreValidOpenFiles old table → AreValidOpenFiles new table
kept old new table kinds real = λ k d inside. let file = get_or table.files k d in kept_kind old new file.write file.kind kinds (real k d inside)

-- a file is written, and the offset changes
pub written : (old new : Tree) (table : Table) (pid fd offset : ℕ) → KeepsKinds old new → AreValidOpenFiles old table → AreValidOpenFiles new (table_after_seek table pid fd offset)
written old new table pid fd offset kinds real = sought new table pid fd offset (kept old new table kinds real)

-- ---- objects and open files that are added

kept_openable : (old new : Tree) (is_written : Bool) (kind : FileKind) → KeepsObjects old new → IsValidFileKind old is_written kind → IsValidFileKind new is_written kind
kept_openable old new is_written Console keeps is = tt
kept_openable old new is_written (Node obj) keeps is = let now = keeps obj is.made in record {
  made = now.0;
  no_link = ap is_link now.1 ∙ is.no_link;
  no_directory = λ writes. ap is_directory now.1 ∙ is.no_directory writes;
}
kept_openable old new is_written (Socket port connected) keeps is = tt

pub kept_objects : (old new : Tree) (table : Table) → KeepsObjects old new → AreValidOpenFiles old table → AreValidOpenFiles new table
kept_objects old new table keeps real = λ k d inside. let file = get_or table.files k d in kept_openable old new file.write file.kind keeps (real k d inside)

one_more_by : (tree : Tree) (table : Table) (pid : ℕ) (file : OpenFile) (least : Option ℕ) → AreValidOpenFiles tree table → IsValidOpenFile tree file → AreValidOpenFiles tree (table_after_open_at table pid file least)
one_more_by tree table pid file None real is = real
one_more_by tree table pid file (Some fd) real is = All-append (IsValidOpenFile tree) table.files (file ∷ []) real (All-cons (IsValidOpenFile tree) file [] is (λ k d inside. absurd (omega (arith, inside))))

-- one more open file
pub more : (tree : Tree) (table : Table) (pid : ℕ) (file : OpenFile) → AreValidOpenFiles tree table → IsValidOpenFile tree file → AreValidOpenFiles tree (table_after_open table pid file)
more tree table pid file real is = one_more_by tree table pid file (least_free table pid) real is
