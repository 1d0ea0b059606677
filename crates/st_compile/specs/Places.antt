-- Indices into a list by a key, such as those of each policy's filters in a session.
use Rattle.std.specs.Prelude.{◌≡◌, ◌<◌, ℕ, suc, List, [], ◌∷◌, ◌++◌, map, length, if◌then◌else◌, Option, Some, None, Vec, vec_capacity, Bool}
use Rattle.std.specs.List.{position, remove}
use Rattle.std.specs.Str.{bytes_eq}
use Rattle.std.specs.declared.alloc.Global.{Global}

-- the numbers of the items of a kind, if the items are numbered from n on
abbrev pub places_from : {X : Type 0} → (X → Bool) → ℕ → List X → List ℕ
places_from is n [] = []
places_from is n (x ∷ xs) = if is x then n ∷ places_from is (suc n) xs else places_from is (suc n) xs

-- indices, and for how many there is room
pub record Listing : Type 0 where
  pub places : List ℕ
  pub capacity : ℕ

-- the indices of the filters of one policy
pub record PolicyPlaces : Type 0 where
  pub binary : List ℕ
  pub listing : Listing

-- the first row of a policy
abbrev pub listing_in : List PolicyPlaces → List ℕ → Option Listing
listing_in [] policy = None
listing_in (row ∷ rows) policy = if bytes_eq row.binary policy then Some row.listing else listing_in rows policy

-- the indices of an optional row; none if there is no row
abbrev pub places_with : Option Listing → List ℕ
places_with None = []
places_with (Some listing) = listing.places

-- the indices of the filters of a policy
abbrev pub policy_places : List PolicyPlaces → List ℕ → List ℕ
policy_places rows policy = places_with (listing_in rows policy)

-- there is room for one more
abbrev pub IsRoomLeft : Option Listing → Type 0
IsRoomLeft None = ⊥
IsRoomLeft (Some listing) = length listing.places < listing.capacity

-- there is room for one more index of a policy
abbrev pub HasRoom : List PolicyPlaces → List ℕ → Type 0
HasRoom rows policy = IsRoomLeft (listing_in rows policy)

-- the number of the row of a policy, if there is one
abbrev pub policy_row : List PolicyPlaces → List ℕ → Option ℕ
policy_row rows policy = position (bytes_eq policy) (map (λ (row : PolicyPlaces). row.binary) rows)

-- the binaries of the rows, in order
abbrev pub binaries_of : List PolicyPlaces → List (List ℕ)
binaries_of rows = map (λ (row : PolicyPlaces). row.binary) rows

-- this is the row of a policy, and it has room for one more index
pub record HasRoomAt (row : ℕ) (rows : List PolicyPlaces) (policy : List ℕ) : Type 0 where
  pub is : policy_row rows policy ≡ Some row
  pub room : HasRoom rows policy

-- each policy has the same indices as before, and still has room if it had room
pub record KeepsPlaces (old new : List PolicyPlaces) : Type 0 where
  pub places : (policy : List ℕ) → policy_places new policy ≡ policy_places old policy
  pub room : (policy : List ℕ) → HasRoom old policy → HasRoom new policy

-- a policy has one more index, and each other has the same as before
abbrev pub GainsPlace : List PolicyPlaces → List ℕ → ℕ → List PolicyPlaces → Type 0
GainsPlace old policy place new =
    (other : List ℕ) → policy_places new other ≡ (if bytes_eq policy other then policy_places old other ++ place ∷ [] else policy_places old other)

-- a policy has lost the index at a position, and each other has the same as before
abbrev pub LosesPlace : List PolicyPlaces → List ℕ → ℕ → List PolicyPlaces → Type 0
LosesPlace old policy index new =
    (other : List ℕ) → policy_places new other ≡ (if bytes_eq policy other then remove (policy_places old other) index else policy_places old other)

-- ---- as they are kept

-- an entry of the map: a policy's binary and its indices
abbrev pub PlacesEntry : Type 0
PlacesEntry = Vec ℕ Global × Vec ℕ Global

-- the indices that a vector represents
abbrev pub shown_listing : Vec ℕ Global → Listing
shown_listing v = record { places = v.items; capacity = vec_capacity v }

-- the row that an entry of the map represents
abbrev pub shown_row : PlacesEntry → PolicyPlaces
shown_row e = record { binary = e.0.items; listing = shown_listing e.1 }

-- the rows that the map represents, in its order
abbrev pub shown_rows : List PlacesEntry → List PolicyPlaces
shown_rows entries = map shown_row entries
