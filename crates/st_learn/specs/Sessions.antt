-- A session: its filters in order, and the versions that reloads have put in force.
use Rattle.std.specs.Prelude.{◌≡◌, ◌<◌, ◌^◌, ◌++◌, ◌-◌, ℕ, Bool, false, List, [], ◌∷◌, length, slice_get, take, unwrap_or, Some}
use Rattle.std.specs.List.{list_any}
use Rattle.std.specs.Str.{bytes_eq}
use Rattle.st_calls.specs.declared.rule.Rule.{Rule}
use Rattle.st_filter.specs.Formula.{FilterValue}
use Rattle.st_law.specs.Sessions.{SessionFilter}
use Rattle.st_learn.specs.Deciding.{asks_first, count_for}
use Rattle.st_compile.specs.Places.{PolicyPlaces, binaries_of, places_from, policy_places}

-- the filters of a session, in order; the binaries that have filters of it or a done reload, in the order of the first entry that gave them
-- one; and for each binary the numbers of the script's policies that reloads have put in force, in order
pub record Session : Type 0 where
  pub filters : List SessionFilter
  pub changed : List (List ℕ)
  pub reloads : List PolicyPlaces

-- the session with these filters, with these rows of each policy's filters, and with these reloads
abbrev pub session_with : List SessionFilter → List PolicyPlaces → List PolicyPlaces → Session
session_with filters policies reloads = record { filters = filters; changed = binaries_of policies; reloads = reloads }

-- the last of some numbers, or 0
abbrev pub last_number : List ℕ → ℕ
last_number numbers = unwrap_or (slice_get numbers (length numbers - 1)) 0

-- the version in force of the policy of a binary
abbrev pub version_of : List PolicyPlaces → List ℕ → ℕ
version_of reloads binary = last_number (policy_places reloads binary)

-- each policy has the same version in force as before
abbrev pub KeepsVersions : List PolicyPlaces → List PolicyPlaces → Type 0
KeepsVersions old new = (binary : List ℕ) → version_of new binary ≡ version_of old binary

-- a session is as it was, but for room
pub record KeepsSession (old new : Session) : Type 0 where
  pub filters : new.filters ≡ old.filters
  pub changed : new.changed ≡ old.changed
  pub versions : KeepsVersions old.reloads new.reloads

-- a filter of a session, for this policy and rule
abbrev pub added : List ℕ → Rule → FilterValue → SessionFilter
added policy rule filter = record { policy = policy; rule = rule; filter = filter }

-- ---- the filters of a policy

-- whether a filter of a session is for this policy, of whatever rule
abbrev pub is_filter_for : List ℕ → SessionFilter → Bool
is_filter_for policy kept = bytes_eq kept.policy policy

-- the indices of a policy's filters in a session, in order
abbrev pub places_of : List SessionFilter → List ℕ → List ℕ
places_of session policy = places_from (is_filter_for policy) 0 session

-- the indices of the filters that ask for a text first
abbrev pub places_asking : List SessionFilter → List ℕ → List ℕ
places_asking session text = places_from (asks_first text) 0 session

-- ---- as it is kept

-- for each filter, how many before it are for its policy and rule, if the session begins with others
abbrev pub numbers_after : List SessionFilter → List SessionFilter → List ℕ
numbers_after front [] = []
numbers_after front (kept ∷ back) = count_for front kept ∷ numbers_after (front ++ kept ∷ []) back

-- no binary before one of these is the same
abbrev pub AreApart : List (List ℕ) → Type 0
AreApart binaries = (n : ℕ) (binary : List ℕ) → slice_get binaries n ≡ Some binary → list_any (bytes_eq binary) (take n binaries) ≡ false

-- the invariant of a session: the indices of each policy are those of its filters; the indices of each text are those of the filters that
-- ask for it first; if no filter is said to ask for no text, none does; each filter has its number; numbers and versions fit in 32 bits; and
-- each policy has one row
pub record IsSession (filters : List SessionFilter) (numbers : List ℕ) (policies texts reloads : List PolicyPlaces) (has_textless : Bool) : Type 0 where
  pub policies_are : (policy : List ℕ) → policy_places policies policy ≡ places_of filters policy
  pub texts_are : (text : List ℕ) → policy_places texts text ≡ places_asking filters text
  pub textless : has_textless ≡ false → places_asking filters [] ≡ []
  pub numbers_are : numbers ≡ numbers_after [] filters
  pub few : length filters < 2 ^ 31
  pub versions_few : (binary : List ℕ) → version_of reloads binary < 2 ^ 32
  pub apart : AreApart (binaries_of policies)
