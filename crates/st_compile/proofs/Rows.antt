-- The rows of indices, as a map keeps them.
use Rattle.std.proofs.Common.{◌≡◌, ◌≤◌, ◌<◌, ◌+◌, ◌∙◌, ◌++◌, ◌||◌, ℕ, suc, zero, Bool, true, false, cond, not, List, [], ◌∷◌, length, map, Option, Some, None, Vec, Global, refl, ap, sym, subst, option_map, vec_capacity, vec_len, arith}
use Rattle.std.proofs.lemmas.Cmp.{nat_list_eq_equiv}
use Rattle.std.proofs.lemmas.Slice.Eq.{bytes_eq-Decides}
use Rattle.std.proofs.lemmas.Option.{slice_get-map}
use Rattle.std.specs.List.{list_any, position, position_or_len, remove}
use Rattle.std.specs.Map.{keys_of, lookup, values_of}
use Rattle.std.specs.Option.{option_or}
use Rattle.std.specs.Prelude.{is_some, nat_lt, slice_get}
use Rattle.std.specs.Str.{bytes_eq}
use Rattle.indexmap.proofs.MapLemmas.{Found-position}
use Rattle.indexmap.specs.IndexMap.{insert_entry, set_value_at}
use Rattle.st_filter.proofs.Entries.{is_key, same_key}
use Rattle.st_filter.specs.Policies.{with_binary}
use Rattle.st_compile.proofs.Keyed.{key_stands, lookup_set}
use Rattle.st_compile.specs.Places.{GainsPlace, HasRoom, HasRoomAt, IsRoomLeft, KeepsPlaces, LosesPlace, PlacesEntry, PolicyPlaces, Listing, policy_places, places_with, listing_in, policy_row, shown_listing, shown_row, shown_rows}

abbrev pub shown : Option (Vec ℕ Global) → Option Listing
shown o = option_map shown_listing o

-- ---- look-ups

chosen : (b : Bool) (v : Vec ℕ Global) (o : Option (Vec ℕ Global)) (other : Option Listing) → shown o ≡ other → shown (cond b (Some v) o) ≡ cond b (Some (shown_listing v)) other
chosen true v o other e = refl
chosen false v o other e = e

-- what the map has for a policy
pub listing_kept : (es : List PlacesEntry) (policy : List ℕ) → shown (lookup (is_key policy) es) ≡ listing_in (shown_rows es) policy
listing_kept [] policy = refl
listing_kept (e ∷ es) policy =
    chosen (bytes_eq policy e.0.items) e.1 (lookup (is_key policy) es) (listing_in (shown_rows es) policy) (listing_kept es policy)
    ∙ ap (λ b. cond b (Some (shown_listing e.1)) (listing_in (shown_rows es) policy)) (nat_list_eq_equiv.symm policy e.0.items)

none_shown : (o : Option (Vec ℕ Global)) → is_some o ≡ false → shown o ≡ None
none_shown None e = refl
none_shown (Some v) e = cc

-- ---- a row that is changed

-- the row at a policy's index is changed, and no other
pub row_changed : (es : List PlacesEntry) (policy : List ℕ) (i : ℕ) (w : Vec ℕ Global) → Some i ≡ position (is_key policy) (keys_of es) → (other : List ℕ)
    → listing_in (shown_rows (set_value_at es i w)) other ≡ cond (bytes_eq policy other) (Some (shown_listing w)) (listing_in (shown_rows es) other)
row_changed es policy i w at other =
    sym (listing_kept (set_value_at es i w) other)
    ∙ ap shown (lookup_set es policy i w (sym at) other)
    ∙ chosen (bytes_eq policy other) w (lookup (is_key other) es) (listing_in (shown_rows es) other) (listing_kept es other)

-- the entry of the map for the policy of that row
pub row_there : (es : List PlacesEntry) (policy : List ℕ) (i : ℕ) (v : Vec ℕ Global) → slice_get (values_of es) i ≡ lookup (is_key policy) es → slice_get (values_of es) i ≡ Some v → listing_in (shown_rows es) policy ≡ Some (shown_listing v)
row_there es policy i v at is = sym (listing_kept es policy) ∙ ap shown (sym at ∙ is)

-- ---- the number of a row

abbrev binaries : List PlacesEntry → List (List ℕ)
binaries es = map (λ (row : PolicyPlaces). row.binary) (shown_rows es)

-- the number of a policy's row is the index of its key in the map
pub row_kept : (es : List PlacesEntry) (policy : List ℕ) → policy_row (shown_rows es) policy ≡ position (is_key policy) (keys_of es)
row_kept es policy = λ k. cond (nat_lt (first es k) (long es k)) (Some (first es k)) None where
  first : (es : List PlacesEntry) → position_or_len (bytes_eq policy) (binaries es) ≡ position_or_len (is_key policy) (keys_of es)
  first [] = refl
  first (e ∷ es) = ap (λ n. cond (not (bytes_eq policy e.0.items)) (1 + n) 0) (first es)

  long : (es : List PlacesEntry) → length (binaries es) ≡ length (keys_of es)
  long [] = refl
  long (e ∷ es) = ap suc (long es)

-- changing what a row has doesn't move rows
pub rows_stay : (es : List PlacesEntry) (i : ℕ) (w : Vec ℕ Global) → binaries (set_value_at es i w) ≡ binaries es
rows_stay [] i w = refl
rows_stay (e ∷ es) zero w = refl
rows_stay (e ∷ es) (suc i) w = ap (λ bs. e.0.items ∷ bs) (rows_stay es i w)

known_by : (b : Bool) (v : Vec ℕ Global) (o : Option (Vec ℕ Global)) → is_some (cond b (Some v) o) ≡ (b || is_some o)
known_by true v o = refl
known_by false v o = refl

-- a policy has a row iff its binary is among those of the rows
row_known : (es : List PlacesEntry) (policy : List ℕ) → is_some (lookup (is_key policy) es) ≡ list_any (bytes_eq policy) (binaries es)
row_known [] policy = refl
row_known (e ∷ es) policy = known_by (bytes_eq policy e.0.items) e.1 (lookup (is_key policy) es) ∙ ap (λ b. bytes_eq policy e.0.items || b) (row_known es policy)

-- the binary of a policy with a row is among those of the rows
pub binary_known : (es : List PlacesEntry) (policy : List ℕ) → is_some (lookup (is_key policy) es) ≡ true → binaries es ≡ with_binary (binaries es) policy
binary_known es policy some = λ k. cond (sym (sym (row_known es policy) ∙ some) k) (binaries es) (binaries es ++ policy ∷ [])

begun_last : (b t : Bool) (first : List ℕ) (rest : List (List ℕ)) (key : List ℕ) → cond b (first ∷ rest) (first ∷ cond t rest (rest ++ key ∷ [])) ≡ cond (b || t) (first ∷ rest) (first ∷ (rest ++ key ∷ []))
begun_last true t first rest key = refl
begun_last false true first rest key = refl
begun_last false false first rest key = refl

inserted_by : (b : Bool) (e : PlacesEntry) (es : List PlacesEntry) (key v : Vec ℕ Global) → binaries (cond b ((e.0, v) ∷ es) (e ∷ insert_entry same_key es key v)) ≡ cond b (e.0.items ∷ binaries es) (e.0.items ∷ binaries (insert_entry same_key es key v))
inserted_by true e es key v = refl
inserted_by false e es key v = refl

-- a key that is inserted has a row after the others, unless it had one
pub binaries_more : (es : List PlacesEntry) (key v : Vec ℕ Global) → binaries (insert_entry same_key es key v) ≡ with_binary (binaries es) key.items
binaries_more [] key v = refl
binaries_more (e ∷ es) key v =
    inserted_by (bytes_eq key.items e.0.items) e es key v
    ∙ ap (λ bs. cond (bytes_eq key.items e.0.items) (e.0.items ∷ binaries es) (e.0.items ∷ bs)) (binaries_more es key v)
    ∙ begun_last (bytes_eq key.items e.0.items) (list_any (bytes_eq key.items) (binaries es)) e.0.items (binaries es) key.items

-- the binary of an entry
pub binary_at : (es : List PlacesEntry) (i : ℕ) (e : PlacesEntry) → slice_get es i ≡ Some e → slice_get (binaries es) i ≡ Some e.0.items
binary_at es i e at = slice_get-map (λ (row : PolicyPlaces). row.binary) (shown_rows es) i ∙ ap (option_map (λ (row : PolicyPlaces). row.binary)) (slice_get-map shown_row es i ∙ ap (option_map shown_row) at)

row_stays : (es : List PlacesEntry) (policy : List ℕ) (i : ℕ) (w : Vec ℕ Global) → policy_row (shown_rows (set_value_at es i w)) policy ≡ policy_row (shown_rows es) policy
row_stays es policy i w = ap (position (bytes_eq policy)) (rows_stay es i w)

module _ (es : List PlacesEntry) (policy : List ℕ) (i : ℕ) (at : policy_row (shown_rows es) policy ≡ Some i) where
  pub row_is : Some i ≡ position (is_key policy) (keys_of es)
  row_is = sym at ∙ row_kept es policy

  pub row_inside : i < length es
  row_inside = (Found-position (is_key policy) es i (sym row_is)).within

  -- what is in a policy's row is the policy's
  pub row_listing : (v : Vec ℕ Global) → slice_get (values_of es) i ≡ Some v → listing_in (shown_rows es) policy ≡ Some (shown_listing v)
  row_listing v is = row_there es policy i v (sym (Found-position (is_key policy) es i (sym row_is)).value) is

-- if there is room for a policy, its row has room
pub room_there : (rows : List PolicyPlaces) (policy : List ℕ) (v : Vec ℕ Global) → listing_in rows policy ≡ Some (shown_listing v) → HasRoom rows policy → vec_len v < vec_capacity v
room_there rows policy v is left = let had : length v.items < vec_capacity v = subst IsRoomLeft is left in let same : vec_len v ≡ length v.items = v.ok.0 in omega (arith, had, same)

-- there are no indices if there is no row
pub no_places_there : (es : List PlacesEntry) (policy : List ℕ) → is_some (lookup (is_key policy) es) ≡ false → policy_places (shown_rows es) policy ≡ []
no_places_there es policy none = ap places_with (sym (listing_kept es policy) ∙ none_shown (lookup (is_key policy) es) none)

-- ---- room is made in a row

changed_places : (b : Bool) (policy other : List ℕ) (rows : List PolicyPlaces) (v w : Vec ℕ Global) → bytes_eq policy other ≡ b → listing_in rows policy ≡ Some (shown_listing v) → w.items ≡ v.items
    → places_with (cond b (Some (shown_listing w)) (listing_in rows other)) ≡ policy_places rows other
changed_places true policy other rows v w is was same =
    same ∙ ap places_with (sym was) ∙ ap (policy_places rows) ((bytes_eq-Decides policy other).0 is)
changed_places false policy other rows v w is was same = refl

changed_room : (b : Bool) (policy other : List ℕ) (rows : List PolicyPlaces) (v w : Vec ℕ Global) → bytes_eq policy other ≡ b → listing_in rows policy ≡ Some (shown_listing v) → w.items ≡ v.items → vec_capacity v ≤ vec_capacity w
    → IsRoomLeft (listing_in rows other) → IsRoomLeft (cond b (Some (shown_listing w)) (listing_in rows other))
changed_room true policy other rows v w is was same more left =
    let had : length v.items < vec_capacity v = subst IsRoomLeft (ap (listing_in rows) (sym ((bytes_eq-Decides policy other).0 is)) ∙ was) left in
    let long : length w.items ≡ length v.items = ap length same in
    omega (arith, had, long, more)
changed_room false policy other rows v w is was same more left = left

module _ (es : List PlacesEntry) (policy : List ℕ) (i : ℕ) (v w : Vec ℕ Global) (at : Some i ≡ position (is_key policy) (keys_of es)) (was : listing_in (shown_rows es) policy ≡ Some (shown_listing v)) where
  -- other room for the same indices
  pub row_keeps : w.items ≡ v.items → vec_capacity v ≤ vec_capacity w → KeepsPlaces (shown_rows es) (shown_rows (set_value_at es i w))
  row_keeps same more = record {
    places = λ other. ap places_with (row_changed es policy i w at other) ∙ changed_places (bytes_eq policy other) policy other (shown_rows es) v w refl was same;
    room = λ other left. subst IsRoomLeft (sym (row_changed es policy i w at other)) (changed_room (bytes_eq policy other) policy other (shown_rows es) v w refl was same more left);
  }

  has_room : length w.items < vec_capacity w → HasRoom (shown_rows (set_value_at es i w)) policy
  has_room left =
      subst IsRoomLeft (sym (row_changed es policy i w at policy ∙ ap (λ b. cond b (Some (shown_listing w)) (listing_in (shown_rows es) policy)) ((bytes_eq-Decides policy policy).1 refl))) left

  pub row_has_room : length w.items < vec_capacity w → HasRoomAt i (shown_rows (set_value_at es i w)) policy
  row_has_room left = record { is = row_stays es policy i w ∙ row_kept es policy ∙ sym at; room = has_room left }

  gained_by : (b : Bool) (other : List ℕ) (place : ℕ) → bytes_eq policy other ≡ b → w.items ≡ v.items ++ place ∷ []
      → places_with (cond b (Some (shown_listing w)) (listing_in (shown_rows es) other)) ≡ cond b (policy_places (shown_rows es) other ++ place ∷ []) (policy_places (shown_rows es) other)
  gained_by true other place is more =
      more ∙ ap (λ ps. ps ++ place ∷ []) (ap places_with (sym was) ∙ ap (policy_places (shown_rows es)) ((bytes_eq-Decides policy other).0 is))
  gained_by false other place is more = refl

  pub row_gains : (place : ℕ) → w.items ≡ v.items ++ place ∷ [] → GainsPlace (shown_rows es) policy place (shown_rows (set_value_at es i w))
  row_gains place more other = ap places_with (row_changed es policy i w at other) ∙ gained_by (bytes_eq policy other) other place refl more

  -- other indices in the row
  row_becomes : (change : List ℕ → List ℕ) → w.items ≡ change v.items → (other : List ℕ) → policy_places (shown_rows (set_value_at es i w)) other ≡ cond (bytes_eq policy other) (change (policy_places (shown_rows es) other)) (policy_places (shown_rows es) other)
  row_becomes change is other = ap places_with (row_changed es policy i w at other) ∙ by (bytes_eq policy other) refl where
    by : (b : Bool) → bytes_eq policy other ≡ b → places_with (cond b (Some (shown_listing w)) (listing_in (shown_rows es) other)) ≡ cond b (change (policy_places (shown_rows es) other)) (policy_places (shown_rows es) other)
    by true e = is ∙ ap change (ap places_with (sym was) ∙ ap (policy_places (shown_rows es)) ((bytes_eq-Decides policy other).0 e))
    by false e = refl

  pub row_loses : (index : ℕ) → w.items ≡ remove v.items index → LosesPlace (shown_rows es) policy index (shown_rows (set_value_at es i w))
  row_loses index = row_becomes (λ places. remove places index)

-- ---- a row is appended

-- what is after the first row is after it in the whole
following : (b : Bool) (listing : Listing) (rest more : Option Listing) → cond b (Some listing) (option_or rest more) ≡ option_or (cond b (Some listing) rest) more
following true listing rest more = refl
following false listing rest more = refl

module _ (key v : Vec ℕ Global) (other : List ℕ) where
  abbrev begun : Option Listing
  begun = cond (bytes_eq key.items other) (Some (shown_listing v)) None

  abbrev Begun : List PlacesEntry → List PlacesEntry → Type 0
  Begun es new = listing_in (shown_rows new) other ≡ option_or (listing_in (shown_rows es) other) begun

  begun_by : (b : Bool) (e : PlacesEntry) (es : List PlacesEntry) → b ≡ bytes_eq e.0.items key.items → listing_in (shown_rows (e ∷ es)) key.items ≡ None → (listing_in (shown_rows es) key.items ≡ None → Begun es (insert_entry same_key es key v))
      → Begun (e ∷ es) (cond b ((e.0, v) ∷ es) (e ∷ insert_entry same_key es key v))
  begun_by true e es is none later = absurd (clash ((λ k. cond (is k) (Some (shown_listing e.1)) (listing_in (shown_rows es) key.items)) ∙ none)) where
    clash : Some (shown_listing e.1) ≡ None → ⊥
    clash f = cc
  begun_by false e es is none later =
      ap (λ o. cond (bytes_eq e.0.items other) (Some (shown_listing e.1)) o) (later ((λ k. cond (is k) (Some (shown_listing e.1)) (listing_in (shown_rows es) key.items)) ∙ none))
      ∙ following (bytes_eq e.0.items other) (shown_listing e.1) (listing_in (shown_rows es) other) begun

  row_begun : (es : List PlacesEntry) → listing_in (shown_rows es) key.items ≡ None → Begun es (insert_entry same_key es key v)
  row_begun [] none = refl
  row_begun (e ∷ es) none = begun_by (bytes_eq key.items e.0.items) e es (nat_list_eq_equiv.symm key.items e.0.items) none (row_begun es)

-- the row of a key is where it was, or after the others
row_stands : (key v : Vec ℕ Global) (es : List PlacesEntry) → policy_row (shown_rows (insert_entry same_key es key v)) key.items ≡ Some (position_or_len (same_key key) (keys_of es))
row_stands key v es = row_kept (insert_entry same_key es key v) key.items ∙ key_stands key v es

no_places : (o : Option Listing) (b : Bool) (v : Vec ℕ Global) → v.items ≡ [] → places_with (option_or o (cond b (Some (shown_listing v)) None)) ≡ places_with o
no_places (Some listing) b v empty = refl
no_places None true v empty = empty
no_places None false v empty = refl

still_room : (o more : Option Listing) → IsRoomLeft o → IsRoomLeft (option_or o more)
still_room (Some listing) more left = left
still_room None more left = absurd left

module _ (es : List PlacesEntry) (key v : Vec ℕ Global) (policy : List ℕ) (none : is_some (lookup (is_key policy) es) ≡ false) (key_is : key.items ≡ policy) where
  absent : listing_in (shown_rows es) policy ≡ None
  absent = sym (listing_kept es policy) ∙ none_shown (lookup (is_key policy) es) none

  after_all : (other : List ℕ) → listing_in (shown_rows (insert_entry same_key es key v)) other ≡ option_or (listing_in (shown_rows es) other) (cond (bytes_eq key.items other) (Some (shown_listing v)) None)
  after_all other = row_begun key v other es (ap (listing_in (shown_rows es)) key_is ∙ absent)

  -- a row without indices
  pub new_keeps : v.items ≡ [] → KeepsPlaces (shown_rows es) (shown_rows (insert_entry same_key es key v))
  new_keeps empty = record {
    places = λ other. ap places_with (after_all other) ∙ no_places (listing_in (shown_rows es) other) (bytes_eq key.items other) v empty;
    room = λ other left. subst IsRoomLeft (sym (after_all other)) (still_room (listing_in (shown_rows es) other) (cond (bytes_eq key.items other) (Some (shown_listing v)) None) left);
  }

  has_room_after : length v.items < vec_capacity v → HasRoom (shown_rows (insert_entry same_key es key v)) policy
  has_room_after left =
      subst IsRoomLeft (sym (after_all policy ∙ (λ k. option_or (absent k) (cond (bytes_eq (key_is k) policy) (Some (shown_listing v)) None)) ∙ ap (λ b. option_or None (cond b (Some (shown_listing v)) None)) ((bytes_eq-Decides policy policy).1 refl))) left

  pub new_has_room : (i : ℕ) → i ≡ position_or_len (same_key key) (keys_of es) → length v.items < vec_capacity v → HasRoomAt i (shown_rows (insert_entry same_key es key v)) policy
  new_has_room i is left = record {
    is = ap (policy_row (shown_rows (insert_entry same_key es key v))) (sym key_is) ∙ row_stands key v es ∙ ap Some (sym is);
    room = has_room_after left;
  }

-- nothing changes
pub keeps : (rows : List PolicyPlaces) → KeepsPlaces rows rows
keeps rows = record { places = λ policy. refl; room = λ policy left. left }

-- one more index, after a change that kept all indices
pub gains_then : (old kept new : List PolicyPlaces) (policy : List ℕ) (place : ℕ) → KeepsPlaces old kept → GainsPlace kept policy place new → GainsPlace old policy place new
gains_then old kept new policy place keeps gains other = gains other ∙ (λ k. cond (bytes_eq policy other) (keeps.places other k ++ place ∷ []) (keeps.places other k))
