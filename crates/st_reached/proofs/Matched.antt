-- The numbers of drawings and the drawings of numbers, carried along the changes of an entry: the number of a drawing in use means that
-- drawing.
use native.Mathlib.Omega.{arith}
use Rattle.std.proofs.Common.{◌≡◌, ◌<◌, ◌≢◌, ◌≤◌, ℕ, suc, Bool, true, false, cond, not, ◌&&◌, ◌||◌, ◌==◌, List, [], ◌∷◌, ◌++◌, map, refl, sym, ap, subst, ◌∙◌}
use Rattle.std.proofs.lemmas.Bool.{and_from, and_parts, eqb-true, eqb-false, eq-eqb, ne_eqb}
use Rattle.std.specs.List.{fold}
use Rattle.st_trace.specs.declared.entry.Change.{Change}
use Rattle.st_trace.specs.declared.entry.Change.TheVariants.{Renewed}
use Rattle.st_law.specs.Numbers.{Drawings, Numbers, counted, drawings_after_change, drawn_as, drawn_changes, number_drawn, numbered_change, numbers_after_change, without_replaced}
use Rattle.st_reached.proofs.Circle.{Covers, IsFree, drawn_free, untaken}

-- a drawing was made and has a number of the circle, and this number means the drawing
pub record IsMatched (circle : ℕ) (numbers : Numbers) (drawings : Drawings) (q : ℕ) : Type 0 where
  pub made : 1 ≤ q
  pub posted : q ≤ numbers.last
  pub low : 1 ≤ numbers.number_of q
  pub high : numbers.number_of q ≤ circle
  pub found : drawings.drawing_of (numbers.number_of q) ≡ q

-- all drawings are counted, and each that is in use is matched with its number
pub record Matched (circle : ℕ) (numbers : Numbers) (drawings : Drawings) : Type 0 where
  pub count : drawings.count ≡ numbers.last
  pub high : numbers.number_of numbers.last ≤ circle
  pub used : (q : ℕ) → numbers.in_use q ≡ true → IsMatched circle numbers drawings q

module _ (circle : ℕ) (numbers : Numbers) (drawings : Drawings) (x : Matched circle numbers drawings) where
  -- with fewer drawings in use
  pub fewer_matched : (in_use : ℕ → Bool) → ((q : ℕ) → in_use q ≡ true → numbers.in_use q ≡ true) → Matched circle (record numbers { in_use = in_use }) drawings
  fewer_matched in_use less = record { count = x.count; high = x.high; used = λ q used. by q (x.used q (less q used)) } where
    by : (q : ℕ) → IsMatched circle numbers drawings q → IsMatched circle (record numbers { in_use = in_use }) drawings q
    by q y = record { made = y.made; posted = y.posted; low = y.low; high = y.high; found = y.found }

  -- ---- one more drawing

  abbrev fresh : ℕ
  fresh = number_drawn circle numbers

  module _ (new : ℕ) (next : new ≡ suc numbers.last) (free : IsFree circle numbers fresh) where
    abbrev more : Numbers
    more = drawn_as circle new numbers

    abbrev more_drawings : Drawings
    more_drawings = counted drawings fresh

    new_number : more.number_of new ≡ fresh
    new_number = ap (λ b. cond b fresh (numbers.number_of new)) (eq-eqb new new refl)

    old_number : (q : ℕ) → q ≢ new → more.number_of q ≡ numbers.number_of q
    old_number q other = ap (λ b. cond b fresh (numbers.number_of q)) (ne_eqb q new other)

    new_matched : IsMatched circle more more_drawings new
    new_matched = record {
      made = omega (arith, next);
      posted = omega arith;
      low = subst (λ n. 1 ≤ n) (sym new_number) free.low;
      high = subst (λ n. n ≤ circle) (sym new_number) free.high;
      found = ap (counted drawings fresh).drawing_of new_number ∙ ap (λ b. cond b (suc drawings.count) (drawings.drawing_of fresh)) (eq-eqb fresh fresh refl)
          ∙ ap suc x.count ∙ sym next;
    }

    old_matched : (q : ℕ) → numbers.in_use q ≡ true → IsMatched circle numbers drawings q → IsMatched circle more more_drawings q
    old_matched q used y = let differ : q ≢ new = (λ same. let high = y.posted in omega (arith, high, same, next)) in
        let same : more.number_of q ≡ numbers.number_of q = old_number q differ in record {
          made = y.made;
          posted = let high = y.posted in omega (arith, high, next);
          low = subst (λ n. 1 ≤ n) (sym same) y.low;
          high = subst (λ n. n ≤ circle) (sym same) y.high;
          found = ap more_drawings.drawing_of same
              ∙ ap (λ b. cond b (suc drawings.count) (drawings.drawing_of (numbers.number_of q))) (ne_eqb (numbers.number_of q) fresh (untaken numbers fresh free.free q y.made y.posted used))
              ∙ y.found;
        }

    each_matched : (q : ℕ) (b : Bool) → (q == new) ≡ b → (b || numbers.in_use q) ≡ true → IsMatched circle more more_drawings q
    each_matched q true e used = subst (IsMatched circle more more_drawings) (sym (eqb-true q new e)) new_matched
    each_matched q false e used = old_matched q used (x.used q used)

    -- the number of the drawing means it, and the numbers of all others mean what they meant
    pub drawn_matched : Matched circle (drawn_as circle new numbers) (counted drawings (number_drawn circle numbers))
    drawn_matched = record {
      count = ap suc x.count ∙ sym next;
      high = subst (λ n. n ≤ circle) (sym new_number) free.high;
      used = λ q used. each_matched q (q == new) refl used;
    }

-- ---- the changes of an entry

-- the new drawings of changes are the next ones, in order
abbrev pub Follows : ℕ → List Change → Type 0
Follows last [] = Unit {0}
Follows last (Renewed old new ∷ changes) = (new ≡ suc last) × Follows new changes
Follows last (_ ∷ changes) = Follows last changes

-- each drawing that changes renew has a property
abbrev pub EachOld : (ℕ → Type 0) → List Change → Type 0
EachOld P [] = Unit {0}
EachOld P (Renewed old new ∷ changes) = P old × EachOld P changes
EachOld P (_ ∷ changes) = EachOld P changes

module _ (circle : ℕ) (kept : ℕ → Bool) where
  abbrev pub after : Numbers → List Change → Numbers
  after numbers changes = fold (numbers_after_change circle kept) numbers changes

  -- at most so many drawings are in use at each renewal
  abbrev pub Fits : ℕ → Numbers → List Change → Type 0
  Fits most numbers [] = Unit {0}
  Fits most numbers (Renewed old new ∷ changes) = ((drawings : List ℕ) × Covers numbers most drawings) × Fits most (numbers_after_change circle kept numbers (Renewed old new)) changes
  Fits most numbers (_ ∷ changes) = Fits most numbers changes

  -- so also at the renewal after these changes
  pub fits_at : (most : ℕ) (numbers : Numbers) (before : List Change) (old new : ℕ) (later : List Change) → Fits most numbers (before ++ Renewed old new ∷ later) → (drawings : List ℕ) × Covers (after numbers before) most drawings
  fits_at most numbers [] old new later fits = fits.0
  fits_at most numbers (Renewed first second ∷ before) old new later fits = fits_at most (numbers_after_change circle kept numbers (Renewed first second)) before old new later fits.1
  fits_at most numbers (_ ∷ before) old new later fits = fits_at most numbers before old new later fits

  -- the number of a drawing stays its number
  pub number_stays : (q : ℕ) (numbers : Numbers) (changes : List Change) → Follows numbers.last changes → q ≤ numbers.last → (after numbers changes).number_of q ≡ numbers.number_of q
  number_stays q numbers [] follows low = refl
  number_stays q numbers (Renewed old new ∷ changes) follows low =
      let next = follows.0 in
      number_stays q (numbers_after_change circle kept numbers (Renewed old new)) changes follows.1 (omega (arith, next, low))
      ∙ ap (λ b. cond b (number_drawn circle numbers) (numbers.number_of q)) (ne_eqb q new (λ same. omega (arith, same, next, low)))
  number_stays q numbers (_ ∷ changes) follows low = number_stays q numbers changes follows low

  replaced_matched : (numbers : Numbers) (drawings : Drawings) (old : ℕ) → Matched circle numbers drawings → Matched circle (without_replaced kept old numbers) drawings
  replaced_matched numbers drawings old x = fewer_matched circle numbers drawings x (λ q. numbers.in_use q && (not (q == old) || kept q))
      (λ q used. (and_parts (numbers.in_use q) (not (q == old) || kept q) used).0)

  -- after changes that are counted by their numbers, the number of each drawing in use means that drawing
  pub changes_matched : (most : ℕ) → most < circle → (numbers : Numbers) (drawings : Drawings) (changes : List Change) → Matched circle numbers drawings → Follows numbers.last changes → Fits most numbers changes
      → Matched circle (after numbers changes) (fold drawings_after_change drawings (map (numbered_change (after numbers changes).number_of) changes))
  changes_matched most room numbers drawings [] x follows fits = x
  changes_matched most room numbers drawings (Renewed old new ∷ changes) x follows fits =
      let free : IsFree circle numbers (number_drawn circle numbers) = drawn_free numbers circle most room fits.0.0 fits.0.1 x.high in
      let then : Numbers = numbers_after_change circle kept numbers (Renewed old new) in
      let step : Matched circle then (counted drawings (number_drawn circle numbers)) =
      replaced_matched (drawn_as circle new numbers) (counted drawings (number_drawn circle numbers)) old (drawn_matched circle numbers drawings x new follows.0 free) in
      let same : number_drawn circle numbers ≡ (after then changes).number_of new = sym (number_stays new then changes follows.1 (omega arith)
      ∙ ap (λ b. cond b (number_drawn circle numbers) (numbers.number_of new)) (eq-eqb new new refl)) in
      subst (λ n. Matched circle (after then changes) (fold drawings_after_change (counted drawings n) (map (numbered_change (after then changes).number_of) changes))) same
      (changes_matched most room then (counted drawings (number_drawn circle numbers)) changes step follows.1 fits.1)
  changes_matched most room numbers drawings (_ ∷ changes) x follows fits = changes_matched most room numbers drawings changes x follows fits

  -- a drawing is in use after changes if it was before, or is made by them, and if it is kept or isn't renewed by them
  pub in_use_stays : (q : ℕ) (numbers : Numbers) (changes : List Change) → Follows numbers.last changes → (q ≤ numbers.last → numbers.in_use q ≡ true) → EachOld (λ old. (not (q == old) || kept q) ≡ true) changes
      → q ≤ (after numbers changes).last → (after numbers changes).in_use q ≡ true
  in_use_stays q numbers [] follows used olds low = used low
  in_use_stays q numbers (Renewed old new ∷ changes) follows used olds low =
      in_use_stays q (numbers_after_change circle kept numbers (Renewed old new)) changes follows.1 (λ below. and_from (q == new || numbers.in_use q) (not (q == old) || kept q) (by (q == new) refl below) olds.0) olds.1 low
    where
      by : (b : Bool) → (q == new) ≡ b → q ≤ new → (b || numbers.in_use q) ≡ true
      by true e below = refl
      by false e below = let next = follows.0 in used (let differ = eqb-false q new e in omega (arith, differ, below, next))
  in_use_stays q numbers (_ ∷ changes) follows used olds low = in_use_stays q numbers changes follows used olds low

-- ---- from numbers back to drawings

-- changes with their numbers, and then with the drawings of these, are the same
pub drawn_back_changes : (number_of drawing_of : ℕ → ℕ) (last : ℕ) (changes : List Change) → Follows last changes → EachOld (λ old. drawing_of (number_of old) ≡ old) changes
    → drawn_changes drawing_of last (map (numbered_change number_of) changes) ≡ changes
drawn_back_changes number_of drawing_of last [] follows olds = refl
drawn_back_changes number_of drawing_of last (Renewed old new ∷ changes) follows olds =
    (λ k. Renewed (olds.0 k) (sym follows.0 k) ∷ drawn_changes drawing_of (suc last) (map (numbered_change number_of) changes))
    ∙ ap (λ later. Renewed old new ∷ later) (drawn_back_changes number_of drawing_of (suc last) changes (subst (λ n. Follows n changes) follows.0 follows.1) olds.1)
drawn_back_changes number_of drawing_of last (change ∷ changes) follows olds = ap (λ later. change ∷ later) (drawn_back_changes number_of drawing_of last changes follows olds)
