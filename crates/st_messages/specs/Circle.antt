-- Numbers in a circle, from 1 to a greatest one, after which 1 comes again: which number is drawn next.
use Rattle.std.specs.Prelude.{◌≡◌, ℕ, suc, ◌+◌, ◌-◌, ◌<◌, min, Bool, false, not, ◌==◌, nat_lt, if◌then◌else◌, List, ◌++◌, find, get_or}
use Rattle.std.specs.List.{fold, list_any, range_with_len}
use Rattle.std.specs.Option.{unwrap_or}

-- the numbers of the circle, in the order in which a search that begins after `last` tries them
abbrev pub circle_after : ℕ → ℕ → List ℕ
circle_after greatest last = range_with_len (suc last) (greatest - last) ++ range_with_len 1 last

-- whether a number is one of these
abbrev pub is_among : List ℕ → ℕ → Bool
is_among used number = list_any (λ other. other == number) used

-- the first number after `last` in the circle that isn't used; 0 if each is used
abbrev pub first_free : ℕ → List ℕ → ℕ → ℕ
first_free greatest used last = unwrap_or (find (λ number. not (is_among used number)) (circle_after greatest last)) 0

-- the number that the search after `last` tries after so many others
abbrev pub number_ahead : ℕ → ℕ → ℕ → ℕ
number_ahead greatest last steps = get_or (circle_after greatest last) steps 0

-- how many steps it is from one number of the circle to another, to itself once round
abbrev pub distance : ℕ → ℕ → ℕ → ℕ
distance greatest last number = if nat_lt last number then number - last else (greatest - last) + number

-- how many steps it is from `last` to the nearest of some numbers, which these have; once round at most
abbrev pub nearest : {X : Type 0} → (X → ℕ) → ℕ → ℕ → List X → ℕ
nearest seq greatest last xs = fold (λ least x. min least (distance greatest last (seq x))) greatest xs

-- so many numbers after `last` are free, less than all
pub record AreFreeAhead (greatest : ℕ) (used : List ℕ) (last ahead : ℕ) : Type 0 where
  pub some : ahead < greatest
  pub free : (steps : ℕ) → steps < ahead → is_among used (number_ahead greatest last steps) ≡ false
