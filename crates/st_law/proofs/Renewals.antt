-- How a renewal of all held calls of some kind changes each number.
use native.Mathlib.Omega.{arith}
use Rattle.std.proofs.Common.{◌≡◌, ◌≢◌, ◌≤◌, ◌<◌, ℕ, suc, ◌+◌, Bool, true, false, cond, ◌||◌, ◌==◌, List, [], ◌∷◌, ◌++◌, length, Option, refl, ap, ◌∙◌, option_map}
use Rattle.std.proofs.lemmas.Bool.{eq-eqb, ne_eqb}
use Rattle.std.specs.List.{fold}
use Rattle.st_effects.specs.Changes.{seq_after}
use Rattle.st_effects.specs.Processes.{renewals_by}
use Rattle.st_effects.specs.System.{HeldCall}
use Rattle.st_trace.specs.declared.entry.Change.{Change}
use Rattle.st_trace.specs.declared.entry.Change.TheVariants.{Renewed}
use Rattle.st_law.specs.Messages.{Head, head_after_change, posted_after_change, is_renewed_by}

-- each of some held calls has a property
abbrev pub EachHeld : (HeldCall → Type 0) → List HeldCall → Type 0
EachHeld P [] = Unit {0}
EachHeld P (held ∷ more) = P held × EachHeld P more

pub each_held : (P Q : HeldCall → Type 0) → ((held : HeldCall) → P held → Q held) → (helds : List HeldCall) → EachHeld P helds → EachHeld Q helds
each_held P Q f [] x = tt
each_held P Q f (held ∷ more) x = (f held x.0, each_held P Q f more x.1)

-- the number of a held call, if the call is renewed, isn't this number
abbrev pub IsOther : (HeldCall → Bool) → ℕ → HeldCall → Type 0
IsOther is q held = is held ≡ true → held.number ≢ q

-- the number of a held call is below this number
abbrev pub IsLow : ℕ → HeldCall → Type 0
IsLow next held = held.number < next

pub lower : (next : ℕ) (helds : List HeldCall) → EachHeld (IsLow next) helds → EachHeld (IsLow (next + 1)) helds
lower next helds x = each_held (IsLow next) (IsLow (next + 1)) (λ held low. omega (arith, low)) helds x

pub others_above : (is : HeldCall → Bool) (next q : ℕ) (helds : List HeldCall) → next ≤ q → EachHeld (IsLow next) helds → EachHeld (IsOther is q) helds
others_above is next q helds high x = each_held (IsLow next) (IsOther is q) (λ held low is_so same. omega (arith, low, same, high)) helds x

cases : (P : List Change → Type 0) (b : Bool) (is_so not_so : List Change) → (b ≡ true → P is_so) → (b ≡ false → P not_so) → P (cond b is_so not_so)
cases P true is_so not_so f g = f refl
cases P false is_so not_so f g = g refl

module _ (is : HeldCall → Bool) where
  -- a property of the renewals of one more held call
  pub one_more : (P : List Change → Type 0) (next : ℕ) (held : HeldCall) (more : List HeldCall) → (is held ≡ true → P (Renewed held.number next ∷ renewals_by is (next + 1) more)) → (is held ≡ false → P (renewals_by is next more)) → P (renewals_by is next (held ∷ more))
  one_more P next held more is_so not_so = cases P (is held) (Renewed held.number next ∷ renewals_by is (next + 1) more) (renewals_by is next more) is_so not_so

  -- ---- numbers that aren't renewed

  pub seq_other : (q next : ℕ) (helds : List HeldCall) → EachHeld (IsOther is q) helds → seq_after q (renewals_by is next helds) ≡ q
  seq_other q next [] x = refl
  seq_other q next (held ∷ more) x = one_more (λ cs. seq_after q cs ≡ q) next held more
      (λ is_so. ap (λ n. seq_after n (renewals_by is (next + 1) more)) (ap (λ c. cond c next q) (ne_eqb held.number q (x.0 is_so))) ∙ seq_other q (next + 1) more x.1)
      (λ not_so. seq_other q next more x.1)

  pub renewed_other : (q : ℕ) (before : Bool) (next : ℕ) (helds : List HeldCall) → EachHeld (IsOther is q) helds → fold (is_renewed_by q) before (renewals_by is next helds) ≡ before
  renewed_other q before next [] x = refl
  renewed_other q before next (held ∷ more) x = one_more (λ cs. fold (is_renewed_by q) before cs ≡ before) next held more
      (λ is_so. ap (λ n. fold (is_renewed_by q) n (renewals_by is (next + 1) more)) (ap (λ c. c || before) (ne_eqb held.number q (x.0 is_so))) ∙ renewed_other q before (next + 1) more x.1)
      (λ not_so. renewed_other q before next more x.1)

  -- ---- what a renewal leaves unchanged

  pub renewals_same : {A : Type 0} (f : A → Change → A) → ((a : A) (old fresh : ℕ) → f a (Renewed old fresh) ≡ a) → (a : A) (next : ℕ) (helds : List HeldCall) → fold f a (renewals_by is next helds) ≡ a
  renewals_same f same a next [] = refl
  renewals_same f same a next (held ∷ more) = one_more (λ cs. fold f a cs ≡ a) next held more
      (λ is_so. ap (λ b. fold f b (renewals_by is (next + 1) more)) (same a held.number next) ∙ renewals_same f same a (next + 1) more)
      (λ not_so. renewals_same f same a next more)

  -- ---- how many are posted

  pub posted_low : (n next : ℕ) (helds : List HeldCall) → n ≤ fold posted_after_change n (renewals_by is next helds)
  posted_low n next [] = omega arith
  posted_low n next (held ∷ more) = one_more (λ cs. n ≤ fold posted_after_change n cs) next held more
      (λ is_so. let low = posted_low (suc n) (next + 1) more in omega (arith, low))
      (λ not_so. posted_low n next more)

  pub posted_high : (n next : ℕ) (helds : List HeldCall) → fold posted_after_change n (renewals_by is next helds) ≤ n + length helds
  posted_high n next [] = omega arith
  posted_high n next (held ∷ more) = one_more (λ cs. fold posted_after_change n cs ≤ n + length (held ∷ more)) next held more
      (λ is_so. let high = posted_high (suc n) (next + 1) more in omega (arith, high))
      (λ not_so. let high = posted_high n next more in omega (arith, high))

  -- ---- heads: of the numbers below the first that is drawn, and above the last

  module _ (heads : ℕ → Option Head) (renewed : Head → Head) where
    pub head_below : (q : ℕ) (before : Option Head) (next : ℕ) (helds : List HeldCall) → q < next → fold (head_after_change heads renewed q) before (renewals_by is next helds) ≡ before
    head_below q before next [] low = refl
    head_below q before next (held ∷ more) low = one_more (λ cs. fold (head_after_change heads renewed q) before cs ≡ before) next held more
        (λ is_so. ap (λ n. fold (head_after_change heads renewed q) n (renewals_by is (next + 1) more)) (ap (λ c. cond c (option_map renewed (heads held.number)) before) (ne_eqb next q (λ e. omega (arith, e, low)))) ∙ head_below q before (next + 1) more (omega (arith, low)))
        (λ not_so. head_below q before next more low)

    pub head_above : (q : ℕ) (before : Option Head) (n next : ℕ) (helds : List HeldCall) → next ≡ suc n → fold posted_after_change n (renewals_by is next helds) < q → fold (head_after_change heads renewed q) before (renewals_by is next helds) ≡ before
    head_above q before n next [] same = λ high. refl
    head_above q before n next (held ∷ more) same = one_more (λ cs. fold posted_after_change n cs < q → fold (head_after_change heads renewed q) before cs ≡ before) next held more
        (λ is_so high.
        let low = posted_low (suc n) (next + 1) more in
        ap (λ k. fold (head_after_change heads renewed q) k (renewals_by is (next + 1) more)) (ap (λ c. cond c (option_map renewed (heads held.number)) before) (ne_eqb next q (λ e. omega (arith, e, low, high, same)))) ∙ head_above q before (suc n) (next + 1) more (omega (arith, same)) high)
        (λ not_so high. head_above q before n next more same high)

    -- ---- the number of a renewed call

    -- these changes, which draw numbers from `next` on, renew number n as a new number, whose head is the renewed one
    pub record IsRenewal (n posted next : ℕ) (changes : List Change) : Type 0 where
      pub number : ℕ
      pub drawn : seq_after n changes ≡ number
      pub low : next ≤ number
      pub high : number ≤ fold posted_after_change posted changes
      pub head : (before : Option Head) → fold (head_after_change heads renewed number) before changes ≡ option_map renewed (heads n)

    -- the call is the first that is renewed
    renewal_here : (n posted next : ℕ) (held : HeldCall) (more : List HeldCall) → next ≡ suc posted → held.number ≡ n → EachHeld (IsLow next) more → IsRenewal n posted next (Renewed held.number next ∷ renewals_by is (next + 1) more)
    renewal_here n posted next held more same its low = record {
      number = next;
      drawn = ap (λ k. seq_after k (renewals_by is (next + 1) more)) (ap (λ c. cond c next n) (eq-eqb held.number n its)) ∙ seq_other next (next + 1) more (others_above is next next more (omega arith) low);
      low = omega arith;
      high = let up = posted_low (suc posted) (next + 1) more in omega (arith, up, same);
      head = λ before. ap (λ k. fold (head_after_change heads renewed next) k (renewals_by is (next + 1) more)) (ap (λ c. cond c (option_map renewed (heads held.number)) before) (eq-eqb next next refl))
          ∙ head_below next (option_map renewed (heads held.number)) (next + 1) more (omega arith) ∙ ap (λ k. option_map renewed (heads k)) its;
    }

    -- another call is renewed before it
    renewal_later : (n posted next : ℕ) (held : HeldCall) (more : List HeldCall) → held.number ≢ n → IsRenewal n (suc posted) (next + 1) (renewals_by is (next + 1) more) → IsRenewal n posted next (Renewed held.number next ∷ renewals_by is (next + 1) more)
    renewal_later n posted next held more differ x = record {
      number = x.number;
      drawn = ap (λ k. seq_after k (renewals_by is (next + 1) more)) (ap (λ c. cond c next n) (ne_eqb held.number n differ)) ∙ x.drawn;
      low = let low = x.low in omega (arith, low);
      high = x.high;
      head = λ before. x.head (cond (next == x.number) (option_map renewed (heads held.number)) before);
    }

    -- the call is renewable, all held calls have lower numbers than the drawn ones, and the renewed calls before it have other numbers
    pub renewal_of : (n posted next : ℕ) (front : List HeldCall) (held : HeldCall) (more : List HeldCall) → next ≡ suc posted → held.number ≡ n → is held ≡ true → EachHeld (IsOther is n) front → EachHeld (IsLow next) front → EachHeld (IsLow next) more → IsRenewal n posted next (renewals_by is next (front ++ held ∷ more))
    renewal_of n posted next [] held more same its is_so other low_front low = one_more (IsRenewal n posted next) next held more
        (λ y. renewal_here n posted next held more same its low)
        (λ not_so. cc)
    renewal_of n posted next (first ∷ front) held more same its is_so other low_front low = one_more (IsRenewal n posted next) next first (front ++ held ∷ more)
        (λ y. renewal_later n posted next first (front ++ held ∷ more) (other.0 y) (renewal_of n (suc posted) (next + 1) front held more (omega (arith, same)) its is_so other.1 (lower next front low_front.1) (lower next more low)))
        (λ not_so. renewal_of n posted next front held more same its is_so other.1 low_front.1 low)
