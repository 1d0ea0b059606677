-- Directories that contain other directories, and the names that they form.
use Rattle.std.specs.Prelude.{◌≡◌, ◌≢◌, ◌≤◌, ◌<◌, ℕ, zero, suc, ◌==◌, Bool, true, if◌then◌else◌, List, [], ◌∷◌, map, flat_map, Option, Some}
use Rattle.std.specs.List.Sorted.{IsStrictlySortedBy}
use Rattle.std.specs.Map.{lookup, keys_of, remove_entry}
use Rattle.std.specs.BTreeMap.{insert_entry, is_at}
use Rattle.std.specs.Cmp.Lexicographic.{slice_cmp}
use Rattle.std.specs.Option.{option_and_then}
use Rattle.std.specs.Ordering.{nat_cmp}
use Rattle.st_names.specs.Name.{Components}

-- a directory's entries, sorted by component: each component with the number of its object
abbrev pub Entries : Type 0
Entries = List (List ℕ × ℕ)

-- the object that a component has in a directory
abbrev pub dir_entry : (ℕ → Entries) → ℕ → List ℕ → Option ℕ
dir_entry dirs number part = lookup (is_at (slice_cmp nat_cmp part)) (dirs number)

-- the object to which a name leads from this object
abbrev pub object_from : (ℕ → Entries) → ℕ → Components → Option ℕ
object_from dirs from [] = Some from
object_from dirs from (part ∷ rest) = option_and_then (λ number. object_from dirs number rest) (dir_entry dirs from part)

-- the names of at most `depth` components that lead from an object to an object, in order, each with the object to which it leads
abbrev pub names_under : ℕ → (ℕ → Entries) → ℕ → List (Components × ℕ)
names_under zero dirs from = []
names_under (suc depth) dirs from =
    flat_map (λ held. (held.0 ∷ [], held.1) ∷ map (λ named. (held.0 ∷ named.0, named.1)) (names_under depth dirs held.1)) (dirs from)

-- the directories with one entry inserted, or replaced if it exists
abbrev pub with_entry : (ℕ → Entries) → ℕ → List ℕ → ℕ → ℕ → Entries
with_entry dirs holder part number other =
    if other == holder then insert_entry (slice_cmp nat_cmp) (dirs other) part number else dirs other

-- the directories with one entry removed
abbrev pub without_entry : (ℕ → Entries) → ℕ → List ℕ → ℕ → Entries
without_entry dirs holder part other =
    if other == holder then remove_entry (is_at (slice_cmp nat_cmp part)) (dirs other) else dirs other

-- The entries of `count` objects, some of which are directories, form a tree. Each entry has the number of an object other than the
-- root. An object that isn't a directory has no entries. At most one name leads from the root to a directory, and an object to which
-- no name leads has no entries.
pub record AreDirectories (count : ℕ) (is_dir : ℕ → Bool) (dirs : ℕ → Entries) : Type 0 where
  pub root : is_dir 1 ≡ true
  pub made : 1 ≤ count
  pub sorted : (number : ℕ) → IsStrictlySortedBy (slice_cmp nat_cmp) (keys_of (dirs number))
  pub numbered : (number : ℕ) (part : List ℕ) (held : ℕ) → dir_entry dirs number part ≡ Some held → (1 < held) × (held ≤ count)
  pub only : (number : ℕ) → is_dir number ≢ true → dirs number ≡ []
  pub single : (number : ℕ) (name other : Components) → is_dir number ≡ true → object_from dirs 1 name ≡ Some number → object_from dirs 1 other ≡ Some number → name ≡ other
  pub lost : (number : ℕ) → ((name : Components) → object_from dirs 1 name ≢ Some number) → dirs number ≡ []
