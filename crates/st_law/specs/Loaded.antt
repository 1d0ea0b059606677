-- Memory without a lock: what a load of a word can give, by the stores of the bodies of its process's threads.
use Rattle.std.specs.Prelude.{◌≡◌, ◌≢◌, ◌⊎◌, ℕ, ◌==◌, if◌then◌else◌, List, [], ◌∷◌, take, slice_get, Option, Some, None}
use Rattle.st_base.specs.Numbered.{item_at_number}
use Rattle.st_trace.specs.declared.start.Instr.{Instr}
use Rattle.st_trace.specs.declared.start.Instr.TheVariants.{Store}
use Rattle.st_trace.specs.declared.start.Start.{Start}
use Rattle.st_law.specs.Threads.{body_of_row, owner_of_row}

-- ---- what a script stores

-- the stores of a body, in order: of each the place and the word
abbrev pub stores_in : List Instr → List (ℕ × ℕ)
stores_in [] = []
stores_in (Store place word ∷ later) = (place, word) ∷ stores_in later
stores_in (_ ∷ later) = stores_in later

-- the process that a script starts a thread in, 0 if a fork starts it
abbrev pub process_by_script : Start → ℕ → ℕ
process_by_script start t = owner_of_row (item_at_number start.threads t)

-- the stores of a thread's body
abbrev pub stores_by_script : Start → ℕ → List (ℕ × ℕ)
stores_by_script start t = stores_in (body_of_row (item_at_number start.threads t))

-- after so many stores, the next store of a thread's body is of this word at this place
abbrev pub IsNextStore : Start → ℕ → ℕ → ℕ → ℕ → Type 0
IsNextStore start t made place word = slice_get (stores_by_script start t) made ≡ Some (place, word)

-- a thread of a process stores this word at this place by its body
pub record IsStoredIn (start : Start) (process place word : ℕ) : Type 0 where
  pub thread : ℕ
  pub made : ℕ
  pub process_is : process_by_script start thread ≡ process
  pub store : IsNextStore start thread made place word

-- no other thread of a thread's process stores at this place
abbrev pub IsAloneAt : Start → ℕ → ℕ → Type 0
IsAloneAt start t place =
    (u made word : ℕ) → u ≢ t → process_by_script start u ≡ process_by_script start t → IsNextStore start u made place word → ⊥

-- ---- what a load gives

-- the word that these stores leave at a place, if one of them is there; otherwise the one before
abbrev pub last_stored : ℕ → Option ℕ → List (ℕ × ℕ) → Option ℕ
last_stored place before [] = before
last_stored place before (store ∷ later) = last_stored place (if store.0 == place then Some store.1 else before) later

-- the word that a thread's first stores leave at a place, if one of them is there
abbrev pub own_word : Start → ℕ → ℕ → ℕ → Option ℕ
own_word start t made place = last_stored place None (take made (stores_by_script start t))

-- a place that may hold its first word holds 0, or a word that a thread of the process stores there
abbrev pub IsKnownWord : Start → ℕ → ℕ → ℕ → Type 0
IsKnownWord start process place word = (word ≡ 0) ⊎ IsStoredIn start process place word

-- What a thread loads at a place, by the word that its own stores left there. Without one it is 0, or a word that a thread of the process
-- stores there. Otherwise it is a word that a thread of the process stores there, and its own if no other thread does.
abbrev pub IsLoadedAfter : Start → ℕ → ℕ → Option ℕ → ℕ → Type 0
IsLoadedAfter start t place None word = IsKnownWord start (process_by_script start t) place word
IsLoadedAfter start t place (Some own) word =
    IsStoredIn start (process_by_script start t) place word × (IsAloneAt start t place → word ≡ own)

-- a thread that has made this many stores can load this word at this place
abbrev pub IsLoaded : Start → ℕ → ℕ → ℕ → ℕ → Type 0
IsLoaded start t made place word = IsLoadedAfter start t place (own_word start t made place) word
