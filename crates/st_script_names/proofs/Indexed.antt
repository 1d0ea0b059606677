-- Names in an index.
use Rattle.std.proofs.Common.{◌≡◌, ℕ, ◌+◌, ◌≤◌, Bool, true, false, ◌||◌, not, if◌then◌else◌, cond, nat_lt, List, [], ◌∷◌, ◌++◌, Bor, Some, None, length, map, refl, ap, ◌∙◌, arith}
use Rattle.std.proofs.lemmas.Bool.{ltb-false}
use Rattle.std.proofs.lemmas.List.{map-append}
use Rattle.std.proofs.lemmas.List.Sums.{prefix_len-le-length}
use Rattle.std.specs.List.{list_any, position, position_or_len, prefix_len}
use Rattle.std.specs.Prelude.{unwrap_or}
use Rattle.std.specs.Str.{bytes_eq}
use Rattle.st_script_names.specs.Names.{is_name_among, with_new_name}

-- the names of an index
abbrev pub shown : List (Bor (List ℕ)) → List (List ℕ)
shown keys = map (λ name. name.now) keys

pub has_shown : (keys : List (Bor (List ℕ))) (name : List ℕ) → list_any (λ key. bytes_eq name key.now) keys ≡ is_name_among (shown keys) name
has_shown [] name = refl
has_shown (key ∷ keys) name = ap (λ b. bytes_eq name key.now || b) (has_shown keys name)

added_by : (keys : List (Bor (List ℕ))) (key : Bor (List ℕ)) (b : Bool) → shown (if b then keys else keys ++ key ∷ []) ≡ (if b then shown keys else shown keys ++ key.now ∷ [])
added_by keys key true = refl
added_by keys key false = map-append (λ name. name.now) keys (key ∷ [])

-- one more name
pub added_shown : (keys : List (Bor (List ℕ))) (key : Bor (List ℕ)) → shown (if list_any (λ other. bytes_eq key.now other.now) keys then keys else keys ++ key ∷ []) ≡ with_new_name (shown keys) key.now
added_shown keys key =
    added_by keys key (list_any (λ other. bytes_eq key.now other.now) keys) ∙
    ap (λ b. if b then shown keys else shown keys ++ key.now ∷ []) (has_shown keys key.now)

place_by : (b : Bool) (place len : ℕ) → nat_lt place len ≡ b → place ≤ len → unwrap_or (cond b (Some place) None) len ≡ place
place_by true place len is within = refl
place_by false place len is within = let end : len ≤ place = ltb-false place len is in omega arith

prefix_shown : (f : List ℕ → Bool) (keys : List (Bor (List ℕ))) → prefix_len (λ key. f key.now) keys ≡ prefix_len f (shown keys)
prefix_shown f [] = refl
prefix_shown f (key ∷ keys) = ap (λ n. if f key.now then 1 + n else 0) (prefix_shown f keys)

-- the index of a name, or the count of names if it isn't among them
pub place_shown : (keys : List (Bor (List ℕ))) (name : List ℕ) → unwrap_or (position (λ key. bytes_eq name key.now) keys) (length keys) ≡ position_or_len (bytes_eq name) (shown keys)
place_shown keys name =
    place_by _ _ _ refl (prefix_len-le-length (λ key. not (bytes_eq name key.now)) keys) ∙ prefix_shown (λ other. not (bytes_eq name other)) keys
