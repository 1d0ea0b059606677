-- Entries whose parts were looked at one by one.
use Rattle.std.proofs.Common.{◌≡◌, ℕ, suc, ◌+◌, Bool, true, false, cond, ◌||◌, ◌<◌, List, [], ◌∷◌, length, get_or, refl, arith}
use Rattle.std.specs.List.{position_or_len, prefix_len}
use Rattle.std.specs.Prelude.{not}
use Rattle.st_names.specs.Name.{has_slash, is_slash}
use Rattle.st_written.specs.Written.{IsText}

-- a part without a slash up to its end has none
pub no_slash : (part : List ℕ) → position_or_len is_slash part ≡ length part → has_slash part ≡ false
no_slash [] all = refl
no_slash (b ∷ part) all = by (is_slash b) all (λ e. no_slash part e) where
  by : (s : Bool) → cond (not s) (1 + prefix_len (λ c. not (is_slash c)) part) 0 ≡ suc (length part) → (position_or_len is_slash part ≡ length part → has_slash part ≡ false) → (s || has_slash part) ≡ false
  by true e more = absurd (omega (arith, e))
  by false e more = more (omega (arith, e))

-- a part without a slash is one up to its end
pub all_before : (part : List ℕ) → has_slash part ≡ false → position_or_len is_slash part ≡ length part
all_before [] none = refl
all_before (b ∷ part) none = by (is_slash b) none (λ e. all_before part e) where
  by : (s : Bool) → (s || has_slash part) ≡ false → (has_slash part ≡ false → position_or_len is_slash part ≡ length part) → cond (not s) (1 + prefix_len (λ c. not (is_slash c)) part) 0 ≡ suc (length part)
  by true e more = cc
  by false e more = let one = more e in omega (arith, one)

-- what is of bytes is a text
pub text_of_bytes : (bytes : List ℕ) → ((k : ℕ) → get_or bytes k 0 < 256) → IsText bytes
text_of_bytes [] small = tt
text_of_bytes (b ∷ bytes) small = (small 0, text_of_bytes bytes (λ k. small (suc k)))
