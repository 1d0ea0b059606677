-- The memories of processes, as the pages that they consist of.
pub use Rattle.st_model.specs.Memory.{bytes_from, word_of, bytes_after_store, bytes_after_put, memory_after_store, memory_after_put}
use Rattle.std.specs.Prelude.{◌≡◌, ◌≢◌, ℕ, suc, ◌+◌, ◌/◌, ◌%◌, ◌<◌, ◌≤◌, ◌==◌, if◌then◌else◌, Bool, List, [], ◌∷◌, ◌++◌, length, replicate, slice_get, slice_index, Option, Some, None, is_some, unwrap_or}
use Rattle.std.specs.Option.{option_map}
use Rattle.std.specs.Int.{w64, to_le_bytes}
use Rattle.st_base.specs.Numbered.{item_at_number_or, with_item_at_number}
use Rattle.st_model.specs.declared.limits.TheConstants.{SPACE_BYTES}
use Rattle.st_memory.specs.declared.page.TheConstants.{PAGE_BYTES, PAGE_WORDS}
use Rattle.st_memory.specs.declared.table.TheConstants.{SPACE_PAGES}

-- byte b of a page with these words; past the last word, 0
abbrev pub byte_of : List ℕ → ℕ → ℕ
byte_of words b = slice_index (to_le_bytes w64 (slice_index words (b / 8))) (b % 8)

-- a page: its number, and its words
pub record NumberedPage : Type 0 where
  pub number : ℕ
  pub words : List ℕ

-- the pages of each space, in the order of the spaces' numbers; none if the space was given up
abbrev pub Memories : Type 0
Memories = List (Option (List NumberedPage))

-- ---- spaces by their numbers, from 1

-- the pages of space s; none if it wasn't made or was given up
abbrev pub pages_of_space : Memories → ℕ → Option (List NumberedPage)
pages_of_space spaces s = item_at_number_or None spaces s

-- whether space s exists
abbrev pub is_space_live : Memories → ℕ → Bool
is_space_live spaces s = is_some (pages_of_space spaces s)

-- the page at an index of space s; none past its last page, and if the space doesn't exist
abbrev pub page_at : Memories → ℕ → ℕ → Option NumberedPage
page_at spaces s index = slice_get (unwrap_or (pages_of_space spaces s) []) index

-- the number of the page at an index of space s
abbrev pub page_number : Memories → ℕ → ℕ → Option ℕ
page_number spaces s index = option_map (λ page. page.number) (page_at spaces s index)

-- the words of the page at an index of space s; none if there is no page
abbrev pub page_words : Memories → ℕ → ℕ → List ℕ
page_words spaces s index = unwrap_or (option_map (λ page. page.words) (page_at spaces s index)) []

-- byte b of space s; 0 if the space doesn't exist
abbrev pub byte_in : Memories → ℕ → ℕ → ℕ
byte_in spaces s b = byte_of (page_words spaces s (b / PAGE_BYTES)) (b % PAGE_BYTES)

-- the number of the next space
abbrev pub next_space : Memories → ℕ
next_space spaces = suc (length spaces)

-- ---- pages that several spaces share

-- another space that exists has the page at an index of a space
pub record IsPageShared (spaces : Memories) (space index : ℕ) : Type 0 where
  pub number : ℕ
  pub mine : page_number spaces space index ≡ Some number
  pub other : ℕ
  pub differs : other ≢ space
  pub place : ℕ
  pub theirs : page_number spaces other place ≡ Some number

-- another space that exists has the page of the word at a place of a space
abbrev pub IsShared : Memories → ℕ → ℕ → Type 0
IsShared spaces space place = IsPageShared spaces space (place / PAGE_WORDS)

-- one of `count` bytes from byte `at` on is on the page at this index
abbrev pub IsWritten : ℕ → ℕ → ℕ → Type 0
IsWritten at count index = (b : ℕ) × (at ≤ b) × (b < at + count) × (b / PAGE_BYTES ≡ index)

-- each space has as many pages as before, and each page of a space that is written is this space's alone; if it wasn't shared before, or
-- isn't written, it keeps its number
pub record OwnsPages (old : Memories) (space : ℕ) (is_written : ℕ → Type 0) (new : Memories) : Type 0 where
  pub there : (s index : ℕ) → is_some (page_number new s index) ≡ is_some (page_number old s index)
  pub alone : (index : ℕ) → is_written index → IsPageShared new space index → ⊥
  pub others : (s index : ℕ) → s ≢ space → page_number new s index ≡ page_number old s index
  pub unwritten : (index : ℕ) → (is_written index → IsPageShared old space index → ⊥) → page_number new space index ≡ page_number old space index

-- ---- the spaces after a call

-- the words of a new page
abbrev pub zeros : List ℕ
zeros = replicate PAGE_WORDS 0

-- a space was made with 16 pages
pub record IsSpaceAdded (old new : Memories) : Type 0 where
  pub pages : List NumberedPage
  pub size : length pages ≡ SPACE_PAGES
  pub is : new ≡ old ++ Some pages ∷ []

-- the spaces after one is made that has the pages of another
abbrev pub spaces_after_copy : Memories → ℕ → Memories
spaces_after_copy spaces from = spaces ++ pages_of_space spaces from ∷ []

-- the spaces after one is given up
abbrev pub spaces_after_give_up : Memories → ℕ → Memories
spaces_after_give_up spaces space = with_item_at_number spaces space None

-- this space exists exactly if `live` says so, and every other space exists exactly if it did before
abbrev pub ChangesLive : Memories → ℕ → Bool → Memories → Type 0
ChangesLive old space live new = (s : ℕ) → is_space_live new s ≡ (if s == space then live else is_space_live old s)

-- the same spaces exist, and the next space has the same number
abbrev pub KeepsSpaces : Memories → Memories → Type 0
KeepsSpaces old new = (next_space new ≡ next_space old) × ((s : ℕ) → is_space_live new s ≡ is_space_live old s)

-- one of `count` bytes from byte `at` on is past the end of a space
abbrev pub IsOutside : ℕ → ℕ → Type 0
IsOutside at count = (0 < count) × (SPACE_BYTES < at + count)
