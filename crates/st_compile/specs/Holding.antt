-- The filters of a rule by the texts that they ask for first.
use Rattle.std.specs.Prelude.{◌≡◌, ◌<◌, ◌≤◌, ℕ, Bool, true, false, List, length, Option, None, Some, slice_get}
use Rattle.std.specs.Str.{bytes_eq}
use Rattle.st_calls.specs.declared.judged.Snapshot.{Snapshot}
use Rattle.st_filter.specs.Formula.{FilterValue}
use Rattle.st_filter.specs.Judging.{holds}
use Rattle.st_compile.specs.Asked.{asked_text}
use Rattle.st_compile.specs.Places.{PolicyPlaces, places_from, policy_places}

-- whether a filter asks for this text first
abbrev pub asks_for : List ℕ → FilterValue → Bool
asks_for text f = bytes_eq (asked_text f.formula) text

-- the indices by each text are those of the filters that ask for it first; where few filters ask for texts, there are no indices
abbrev pub IsIndexOf : List FilterValue → Option (List PolicyPlaces) → Type 0
IsIndexOf filters None = Unit {0}
IsIndexOf filters (Some texts) = (text : List ℕ) → policy_places texts text ≡ places_from (asks_for text) 0 filters

-- the filter at an index, if there is one, holds of a call
abbrev pub HoldsAt : List FilterValue → Snapshot → ℕ → Type 0
HoldsAt filters s n = (f : FilterValue) → slice_get filters n ≡ Some f → holds f s ≡ true

-- no filter of a kind before an index holds of a call
abbrev pub NoneHoldsBefore : List FilterValue → Snapshot → (FilterValue → Bool) → ℕ → Type 0
NoneHoldsBefore filters s is n = (k : ℕ) (f : FilterValue) → k < n → slice_get filters k ≡ Some f → is f ≡ true → holds f s ≡ false

-- the filter at this index is the first that holds of a call; the index is the number of filters if none holds
pub record IsFirstHolding (filters : List FilterValue) (s : Snapshot) (n : ℕ) : Type 0 where
  pub within : n ≤ length filters
  pub holds_of_call : n < length filters → HoldsAt filters s n
  pub none_before : NoneHoldsBefore filters s (λ f. true) n
