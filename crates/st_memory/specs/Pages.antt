-- How spaces keep their pages: the page numbers of each space, and the table of pages under these numbers.
use Rattle.std.specs.Prelude.{◌≡◌, ℕ, ◌≢◌, ◌+◌, ◌<◌, ◌≤◌, ◌⊎◌, ◌==◌, if◌then◌else◌, List, [], map, length, slice_index, slice_set, sum_by, All, Any, Option, Some, None}
use Rattle.std.specs.Option.{option_map}
use Rattle.slab.specs.Slab.{Slab, get}
use Rattle.st_base.specs.Numbered.{item_at_number_or}
use Rattle.st_memory.specs.Memory.{Memories, NumberedPage, zeros}
use Rattle.st_memory.specs.declared.table.CountedPage.{CountedPage}
use Rattle.st_memory.specs.declared.table.TheConstants.{SPACE_PAGES}

-- ---- the table of pages

-- how many spaces have a page; 0 if there is no page
abbrev pub count_of_entry : Option CountedPage → ℕ
count_of_entry None = 0
count_of_entry (Some counted) = counted.count

-- the words of a page; none if there is no page
abbrev pub words_of_entry : Option CountedPage → List ℕ
words_of_entry None = []
words_of_entry (Some counted) = counted.page

-- how many spaces have the page with a number
abbrev pub count_of : Slab CountedPage → ℕ → ℕ
count_of pages number = count_of_entry (get pages number)

-- the words of the page with a number
abbrev pub words_of : Slab CountedPage → ℕ → List ℕ
words_of pages number = words_of_entry (get pages number)

-- a page that is kept has a count above 0
abbrev pub IsCounted : Option CountedPage → Type 0
IsCounted None = Unit {0}
IsCounted (Some counted) = 0 < counted.count

-- ---- the numbers of spaces' pages

-- one if two numbers are equal
abbrev pub one_if_same : ℕ → ℕ → ℕ
one_if_same n number = if n == number then 1 else 0

-- how often a number is among these
abbrev pub occurrences : ℕ → List ℕ → ℕ
occurrences number numbers = sum_by (λ n. one_if_same n number) numbers

-- the page numbers of each space, in the order of the spaces' numbers; none if the space was given up
abbrev pub Rows : Type 0
Rows = List (Option (List ℕ))

-- the page numbers of a space, and none if it was given up
abbrev pub numbers_of : Option (List ℕ) → List ℕ
numbers_of None = []
numbers_of (Some row) = row

-- the page numbers of space s; none if it doesn't exist
abbrev pub row_of : Rows → ℕ → List ℕ
row_of rows s = numbers_of (item_at_number_or None rows s)

-- how often spaces have the page with a number
abbrev pub uses : Rows → ℕ → ℕ
uses rows number = sum_by (λ row. occurrences number (numbers_of row)) rows

-- a space has 16 pages, and no page twice
abbrev pub IsRow : Option (List ℕ) → Type 0
IsRow None = Unit {0}
IsRow (Some row) = (length row ≡ SPACE_PAGES) × ((number : ℕ) → occurrences number row ≤ 1)

-- each page has the count of its uses, and one without uses is no longer kept
pub record IsTable (rows : Rows) (pages : Slab CountedPage) : Type 0 where
  pub counts : (number : ℕ) → count_of pages number ≡ uses rows number
  pub rows_are : (s : ℕ) → IsRow (item_at_number_or None rows s)
  pub counted : (number : ℕ) → IsCounted (get pages number)

-- the page with a number, where each number has these words
abbrev pub numbered : (ℕ → List ℕ) → ℕ → NumberedPage
numbered words n = record { number = n; words = words n }

-- the spaces with these page numbers, where each number has these words
abbrev pub memories_of : Rows → (ℕ → List ℕ) → Memories
memories_of rows words = map (option_map (map (numbered words))) rows

-- ---- how the table changes

-- each page that still has a count has its words
abbrev pub KeepsWords : Slab CountedPage → Slab CountedPage → Type 0
KeepsWords old new = (number : ℕ) → 0 < count_of old number → 0 < count_of new number → words_of new number ≡ words_of old number

-- each page has its count, and its words if it has a count
pub record SamePages (old new : Slab CountedPage) : Type 0 where
  pub counts : (number : ℕ) → count_of new number ≡ count_of old number
  pub words : KeepsWords old new
  pub counted : ((number : ℕ) → IsCounted (get old number)) → (number : ℕ) → IsCounted (get new number)

-- only the words of one page changed
pub record IsChanged (old : Slab CountedPage) (number : ℕ) (new : Slab CountedPage) : Type 0 where
  pub counts : (n : ℕ) → count_of new n ≡ count_of old n
  pub counted : ((n : ℕ) → IsCounted (get old n)) → (n : ℕ) → IsCounted (get new n)
  pub others : (n : ℕ) → n ≢ number → words_of new n ≡ words_of old n

-- these pages have one space more each
pub record ArePagesAdded (old : Slab CountedPage) (numbers : List ℕ) (new : Slab CountedPage) : Type 0 where
  pub counts : (number : ℕ) → count_of new number ≡ count_of old number + occurrences number numbers
  pub words : KeepsWords old new
  pub counted : ((number : ℕ) → IsCounted (get old number)) → (number : ℕ) → IsCounted (get new number)

-- these pages have one space less each
pub record ArePagesReleased (old : Slab CountedPage) (numbers : List ℕ) (new : Slab CountedPage) : Type 0 where
  pub counts : (number : ℕ) → count_of new number + occurrences number numbers ≡ count_of old number
  pub words : KeepsWords old new
  pub counted : ((number : ℕ) → IsCounted (get old number)) → (number : ℕ) → IsCounted (get new number)

-- these are new pages of zeros, none of them twice
pub record IsFreshRow (old : Slab CountedPage) (row : List ℕ) (new : Slab CountedPage) : Type 0 where
  pub added : ArePagesAdded old row new
  pub fresh : (number : ℕ) → 0 < occurrences number row → count_of old number ≡ 0
  pub once : (number : ℕ) → occurrences number row ≤ 1
  pub words : (number : ℕ) → 0 < occurrences number row → words_of new number ≡ zeros

-- ---- copies of shared pages

-- a page at one of these indices of a row is shared
abbrev pub IsOneShared : Slab CountedPage → List ℕ → ℕ → ℕ → Type 0
IsOneShared pages row first end = (index : ℕ) × (first ≤ index) × (index < end) × (1 < count_of pages (slice_index row index))

-- no page at these indices of a row is shared
abbrev pub AreAlone : Slab CountedPage → List ℕ → ℕ → ℕ → Type 0
AreAlone pages row first end = (index : ℕ) → first ≤ index → index < end → count_of pages (slice_index row index) ≤ 1

-- a copy of a shared page at one of these indices of a row
pub record IsCopy (pages : Slab CountedPage) (row : List ℕ) (first end : ℕ) (copy : ℕ × List ℕ) : Type 0 where
  pub low : first ≤ copy.0
  pub high : copy.0 < end
  pub shared : 1 < count_of pages (slice_index row copy.0)
  pub words : copy.1 ≡ words_of pages (slice_index row copy.0)

-- these are copies of shared pages at these indices
abbrev pub AreCopies : Slab CountedPage → List ℕ → ℕ → ℕ → List (ℕ × List ℕ) → Type 0
AreCopies pages row first end copies = All (IsCopy pages row first end) copies

-- each page at these indices is one space's, or has a copy
abbrev pub IsRestAlone : Slab CountedPage → List ℕ → ℕ → ℕ → List (ℕ × List ℕ) → Type 0
IsRestAlone pages row first end copies = (index : ℕ) → first ≤ index → index < end → (count_of pages (slice_index row index) ≤ 1) ⊎ Any (λ copy. copy.0 ≡ index) copies

-- a new page with these words and this number is in place of the page at an index of a row
pub record IsReplaced (old : Slab CountedPage) (row : List ℕ) (index : ℕ) (words : List ℕ) (number : ℕ) (new : Slab CountedPage) (owned : List ℕ) : Type 0 where
  pub is : owned ≡ slice_set row index number
  pub fresh : count_of old number ≡ 0
  pub counts : (n : ℕ) → count_of new n + one_if_same (slice_index row index) n ≡ count_of old n + one_if_same number n
  pub counted : ((n : ℕ) → IsCounted (get old n)) → (n : ℕ) → IsCounted (get new n)
  pub kept : KeepsWords old new
  pub words_are : words_of new number ≡ words

-- a row with pages of its own in place of shared pages at these indices, but for those whose copies are still to be put there
pub record IsOwned (old : Slab CountedPage) (row : List ℕ) (first end : ℕ) (copies : List (ℕ × List ℕ)) (new : Slab CountedPage) (owned : List ℕ) : Type 0 where
  pub size : length owned ≡ length row
  pub counts : (number : ℕ) → count_of new number + occurrences number row ≡ count_of old number + occurrences number owned
  pub counted : ((number : ℕ) → IsCounted (get old number)) → (number : ℕ) → IsCounted (get new number)
  pub stays : (number : ℕ) → 0 < count_of old number → 0 < count_of new number
  pub kept : KeepsWords old new
  pub words : (index : ℕ) → index < length row → words_of new (slice_index owned index) ≡ words_of old (slice_index row index)
  pub once : (number : ℕ) → occurrences number owned ≤ 1
  pub fresh : (index : ℕ) → index < length row → (slice_index owned index ≡ slice_index row index) ⊎ (count_of old (slice_index owned index) ≡ 0)
  pub unwritten : (index : ℕ) → (first ≤ index → index < end → 1 < count_of old (slice_index row index) → ⊥) → slice_index owned index ≡ slice_index row index
  pub alone : IsRestAlone new owned first end copies
