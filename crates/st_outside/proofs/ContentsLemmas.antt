-- The content that names hold after one more file is added.
use Rattle.std.proofs.Common.{◌≡◌, ◌≢◌, ℕ, ◌+◌, ◌<◌, Bool, true, false, List, [], ◌∷◌, ◌++◌, length, get_or, take, refl, sym, ◌∙◌, ap, if◌then◌else◌}
use Rattle.std.proofs.lemmas.Bool.{false_from_ne_true}
use Rattle.std.proofs.lemmas.List.{take_more}
use Rattle.std.proofs.lemmas.Slice.Eq.{bytes_eq-Decides}
use Rattle.std.specs.Str.{bytes_eq}
use Rattle.st_outside.specs.Files.{FileView, Unknown, Absent, FileBytes}
use Rattle.st_outside.specs.MemoryFiles.{later_view, view_of_file, view_of_name}
use Rattle.st_outside.specs.declared.memory_files.HeldFile.{HeldFile}

later_assoc : (a b c : FileView) → later_view (later_view a b) c ≡ later_view a (later_view b c)
later_assoc Unknown b c = refl
later_assoc Absent b c = refl
later_assoc (FileBytes content) b c = refl

later_none : (b : Bool) (content : List ℕ) → later_view Absent (if b then FileBytes content else Absent) ≡ later_view (if b then FileBytes content else Absent) Absent
later_none true content = refl
later_none false content = refl

-- the file added last decides the content of its name
pub held_of-append : (files : List HeldFile) (file : HeldFile) (name : List ℕ) → view_of_name (files ++ file ∷ []) name ≡ later_view (view_of_file file name) (view_of_name files name)
held_of-append [] file name = later_none (bytes_eq file.name name) file.content
held_of-append (first ∷ files) file name =
    ap (λ contents. later_view contents (view_of_file first name)) (held_of-append files file name) ∙ later_assoc (view_of_file file name) (view_of_name files name) (view_of_file first name)

pub later-same : (file : HeldFile) (name : List ℕ) (earlier : FileView) → bytes_eq file.name name ≡ true → later_view (view_of_file file name) earlier ≡ FileBytes file.content
later-same file name earlier same = rw same refl

pub later-other : (file : HeldFile) (name : List ℕ) (earlier : FileView) → bytes_eq file.name name ≡ false → later_view (view_of_file file name) earlier ≡ earlier
later-other file name earlier other = rw other refl

-- the name of the file added last holds that file's content
pub held_of-added : (files : List HeldFile) (file : HeldFile) → view_of_name (files ++ file ∷ []) file.name ≡ FileBytes file.content
held_of-added files file =
    held_of-append files file file.name ∙ later-same file file.name (view_of_name files file.name) ((bytes_eq-Decides file.name file.name).1 refl)

-- every other name holds what it held before
pub held_of-others : (files : List HeldFile) (file : HeldFile) (name : List ℕ) → name ≢ file.name → view_of_name (files ++ file ∷ []) name ≡ view_of_name files name
held_of-others files file name other =
    held_of-append files file name ∙
    later-other file name (view_of_name files name) (false_from_ne_true (bytes_eq file.name name) (λ same. other (sym ((bytes_eq-Decides file.name name).0 same))))

-- the content of a name among the first files, with one more file
pub held_of-more : (files : List HeldFile) (i : ℕ) (file : HeldFile) (name : List ℕ) → i < length files → file ≡ get_or files i file → view_of_name (take (i + 1) files) name ≡ later_view (view_of_file file name) (view_of_name (take i files) name)
held_of-more files i file name inside is =
    ap (λ front. view_of_name front name) (take_more files i file inside) ∙
    ap (λ last. view_of_name (take i files ++ last ∷ []) name) (sym is) ∙
    held_of-append (take i files) file name
