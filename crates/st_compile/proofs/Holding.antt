-- The first filter that holds of a call, found by the texts that filters ask for first.
use Rattle.std.proofs.Common.{◌≡◌, ◌≤◌, ◌<◌, ◌+◌, ◌∙◌, ◌||◌, ℕ, suc, zero, Bool, true, false, cond, List, [], ◌∷◌, length, Some, refl, ap, sym, subst, get_or, arith}
use Rattle.std.proofs.Math.Logic.{⊎_elim}
use Rattle.std.proofs.lemmas.Bool.{cases_lt}
use Rattle.std.proofs.lemmas.Option.{same_Some}
use Rattle.std.specs.List.{list_any}
use Rattle.std.specs.Prelude.{slice_get}
use Rattle.std.specs.Str.{bytes_eq}
use Rattle.st_calls.specs.declared.argument.ArgText.{ArgText}
use Rattle.st_calls.specs.declared.judged.Snapshot.{Snapshot}
use Rattle.st_calls.specs.declared.judged.Verdict.TheVariants.{Unmatched}
use Rattle.st_filter.specs.Formula.{FilterValue}
use Rattle.st_filter.specs.Judging.{holds, ids_match, is_true, verdict, verdict_by, verdict_from}
use Rattle.st_compile.specs.Asked.{asked_text}
use Rattle.st_compile.specs.Holding.{HoldsAt, IsFirstHolding, NoneHoldsBefore, asks_for}
use Rattle.st_compile.specs.Places.{places_from}
use Rattle.st_compile.proofs.Asking.{asked_of, left_of}
use Rattle.st_compile.proofs.Indices.{IsAmongst, amongst, up_from}

-- ---- one number is less than another, or not

by_order : {P : Type 0} (a b : ℕ) → (a < b → P) → (b ≤ a → P) → P
by_order a b less more = ⊎_elim less more (cases_lt a b)

-- ---- the filters at some indices

module _ (s : Snapshot) (filters : List FilterValue) where
  -- the filter at an index doesn't hold
  abbrev pub HoldsNot : ℕ → Type 0
  HoldsNot n = (f : FilterValue) → slice_get filters n ≡ Some f → holds f s ≡ false

  -- the indices of a kind that were tried are all those below a limit, if the next is none of them
  tried_before : (is : FilterValue → Bool) (places : List ℕ) (tried limit j : ℕ) → places ≡ places_from is 0 filters → (tried < length places → limit ≤ get_or places tried 0) → j < length places → get_or places j 0 < limit → j < tried
  tried_before is places tried limit j are next within below =
      by_order j tried (λ less. less) (λ more.
      by_order tried j
      (λ later.
      let up : get_or places tried 0 < get_or places j 0 = subst (λ ps. get_or ps tried 0 < get_or ps j 0) (sym are) (up_from is 0 filters tried j later (subst (λ ps. j < length ps) are within)) in
      let most = next (omega (arith, later, within)) in
      absurd (omega (arith, up, most, below)))
      (λ first.
      let same : tried ≡ j = omega (arith, more, first) in
      let most : limit ≤ get_or places j 0 = subst (λ i. limit ≤ get_or places i 0) same (next (omega (arith, first, within))) in
      absurd (omega (arith, most, below))))

  -- if none of those that were tried holds, none of the kind below the limit holds
  pub none_of_kind : (is : FilterValue → Bool) (places : List ℕ) (tried limit : ℕ) → ((j : ℕ) (f : FilterValue) → j < tried → slice_get filters (get_or places j 0) ≡ Some f → holds f s ≡ false)
      → (tried < length places → limit ≤ get_or places tried 0) → places ≡ places_from is 0 filters → NoneHoldsBefore filters s is limit
  none_of_kind is places tried limit none next are k f below at of =
      let here : IsAmongst k places = subst (IsAmongst k) (sym are) (amongst is filters k f at of) in
      none here.0 f (tried_before is places tried limit here.0 are next here.1 (subst (λ place. place < limit) (sym here.2) below)) (ap (slice_get filters) here.2 ∙ at)

  -- one more that was tried
  pub tried_next : (places : List ℕ) (tried : ℕ) → ((j : ℕ) (f : FilterValue) → j < tried → slice_get filters (get_or places j 0) ≡ Some f → holds f s ≡ false) → HoldsNot (get_or places tried 0)
      → (j : ℕ) (f : FilterValue) → j < tried + 1 → slice_get filters (get_or places j 0) ≡ Some f → holds f s ≡ false
  tried_next places tried none last j f less at =
      by_order j tried (λ before. none j f before at) (λ more. let same : j ≡ tried = omega (arith, less, more) in last f (ap (λ i. slice_get filters (get_or places i 0)) (sym same) ∙ at))

-- ---- of several kinds

module _ (s : Snapshot) (filters : List FilterValue) where
  -- the index so far is that of a filter that holds, if it is within the filters, and no filter before it that asks for one of the first so many arguments' texts holds
  pub record IsFirstSoFar (count first : ℕ) : Type 0 where
    pub within : first ≤ length filters
    pub holds_of_call : first < length filters → HoldsAt filters s first
    pub none_before : (j : ℕ) (arg : ArgText) → j < count → slice_get s.parts j ≡ Some arg → NoneHoldsBefore filters s (asks_for arg.text) first

  pub holds_next : (old new : ℕ) → new ≤ old → (new < old → HoldsAt filters s new) → (old < length filters → HoldsAt filters s old) → new < length filters → HoldsAt filters s new
  holds_next old new within found held less =
      by_order new old found (λ more. let same : old ≡ new = omega (arith, within, more) in subst (HoldsAt filters s) same (held (omega (arith, same, less))))

  pub so_far_next : (count old new : ℕ) (arg : ArgText) → IsFirstSoFar count old → slice_get s.parts count ≡ Some arg → new ≤ old → (new < old → HoldsAt filters s new) → NoneHoldsBefore filters s (asks_for arg.text) new → IsFirstSoFar (count + 1) new
  so_far_next count old new arg so_far there within found none = record {
    within = omega (arith, within, so_far.within);
    holds_of_call = holds_next old new within found so_far.holds_of_call;
    none_before = λ j each less at k f below.
        by_order j count (λ before. so_far.none_before j each before at k f (omega (arith, below, within)))
        (λ more.
        let last : count ≡ j = omega (arith, less, more) in
        let same : arg ≡ each = same_Some arg each (sym there ∙ ap (slice_get s.parts) last ∙ at) in
        subst (λ (a : ArgText). NoneHoldsBefore filters s (asks_for a.text) new) same none k f below);
  }

  which_of : {X : Type 0} (p : X → Bool) (x : X) (xs : List X) (b : Bool) → p x ≡ b → (b || list_any p xs) ≡ true → (list_any p xs ≡ true → (j : ℕ) × (y : X) × (slice_get xs j ≡ Some y) × (p y ≡ true))
      → (j : ℕ) × (y : X) × (slice_get (x ∷ xs) j ≡ Some y) × (p y ≡ true)
  which_of p x xs true is some later = (0, x, refl, is)
  which_of p x xs false is some later = let w = later some in (suc w.0, w.1, w.2, w.3)

  which : {X : Type 0} (p : X → Bool) (xs : List X) → list_any p xs ≡ true → (j : ℕ) × (y : X) × (slice_get xs j ≡ Some y) × (p y ≡ true)
  which p [] some = cc
  which p (x ∷ xs) some = which_of p x xs (p x) refl some (which p xs)

  module _ (first : ℕ) (own : NoneHoldsBefore filters s (asks_for []) first) (parts : (j : ℕ) (arg : ArgText) → slice_get s.parts j ≡ Some arg → NoneHoldsBefore filters s (asks_for arg.text) first) where
    none_asking : (f : FilterValue) (k : ℕ) → k < first → slice_get filters k ≡ Some f → (b : Bool) → bytes_eq (asked_text f.formula) [] ≡ b → (b || list_any (λ (each : ArgText). bytes_eq (asked_text f.formula) each.text) s.parts) ≡ true → holds f s ≡ false
    none_asking f k less at true is some = own k f less at is
    none_asking f k less at false is some =
        let w = which (λ (each : ArgText). bytes_eq (asked_text f.formula) each.text) s.parts some in
        parts w.0 w.1 w.2 k f less at w.3

    none_by : (f : FilterValue) (k : ℕ) → k < first → slice_get filters k ≡ Some f → (b : Bool) → holds f s ≡ b → holds f s ≡ false
    none_by f k less at false is = is
    none_by f k less at true is =
        none_asking f k less at (bytes_eq (asked_text f.formula) []) refl (asked_of f.formula s.parts (left_of (is_true f.formula s.parts) (ids_match f.predicate s.ids) is))

    -- if no filter before an index that asks for no text, or for that of an argument, holds, none before it holds
    pub none_at_all : NoneHoldsBefore filters s (λ f. true) first
    none_at_all k f less at of = none_by f k less at (holds f s) refl

-- ---- their verdict

module _ (s : Snapshot) where
  passed : (f : FilterValue) (fs : List FilterValue) (m : ℕ) (b : Bool) → holds f s ≡ b → verdict_from m (f ∷ fs) s ≡ cond b (verdict_by m f.grant s.ids f.action) (verdict_from (suc m) fs s)
  passed f fs m b is = ap (λ c. cond c (verdict_by m f.grant s.ids f.action) (verdict_from (suc m) fs s)) is

  -- the first filter that holds gives the verdict
  pub says_first : (fs : List FilterValue) (m n : ℕ) (f : FilterValue) → slice_get fs n ≡ Some f → holds f s ≡ true → NoneHoldsBefore fs s (λ f. true) n → verdict_from m fs s ≡ verdict_by (m + n) f.grant s.ids f.action
  says_first [] m n f at is none = cc
  says_first (g ∷ fs) m zero f at is none =
      let same : g ≡ f = same_Some g f at in
      let sum : m ≡ m + 0 = omega arith in
      passed g fs m true (ap (λ each. holds each s) same ∙ is) ∙ (λ k. verdict_by (sum k) (same k).grant s.ids (same k).action)
  says_first (g ∷ fs) m (suc n) f at is none =
      let sum : suc m + n ≡ m + suc n = omega arith in
      passed g fs m false (none 0 g (omega arith) refl refl)
      ∙ says_first fs (suc m) n f at is (λ k h less there of. none (suc k) h (omega (arith, less)) there of)
      ∙ ap (λ k. verdict_by k f.grant s.ids f.action) sum

  -- if none holds, none gives a verdict
  pub says_none : (fs : List FilterValue) (m : ℕ) → NoneHoldsBefore fs s (λ f. true) (length fs) → verdict_from m fs s ≡ Unmatched
  says_none [] m none = refl
  says_none (g ∷ fs) m none = passed g fs m false (none 0 g (omega arith) refl refl) ∙ says_none fs (suc m) (λ k h less there of. none (suc k) h (omega (arith, less)) there of)

  -- if the first that holds is none of them, they give no verdict
  pub says_nothing : (fs : List FilterValue) (n : ℕ) → length fs ≤ n → IsFirstHolding fs s n → Unmatched ≡ verdict fs s
  says_nothing fs n past first =
      let last : n ≡ length fs = omega (arith, past, first.within) in
      sym (says_none fs 1 (subst (NoneHoldsBefore fs s (λ f. true)) last first.none_before))
