-- The first filter of a session that decides on a call, its verdict, and its number.
use Rattle.std.proofs.Common.{◌≡◌, ◌+◌, ◌∙◌, ◌&&◌, ◌||◌, ℕ, suc, zero, Bool, true, false, cond, List, [], ◌∷◌, length, filter, Option, Some, None, option_map, refl, ap, sym, subst, take, ◌-◌, arith}
use Rattle.std.proofs.lemmas.List.Elements.{All-cons, All-head, All-nil, All-tail}
use Rattle.std.proofs.lemmas.Option.{same_Some}
use Rattle.std.proofs.lemmas.Slice.Eq.{bytes_eq-Decides}
use Rattle.std.specs.List.{fold, list_any}
use Rattle.std.specs.Prelude.{slice_get}
use Rattle.std.specs.Str.{bytes_eq}
use Rattle.st_base.specs.Numbered.{item_at_number}
use Rattle.st_calls.proofs.Rules.{same_rule-Decides}
use Rattle.st_calls.specs.Rules.{same_rule}
use Rattle.st_calls.specs.declared.argument.ArgText.{ArgText}
use Rattle.st_calls.specs.declared.judged.Snapshot.{Snapshot}
use Rattle.st_calls.specs.declared.judged.Verdict.TheVariants.{Unmatched}
use Rattle.st_filter.specs.Formula.{FilterValue}
use Rattle.st_filter.specs.Judging.{holds, verdict_by, verdict_from}
use Rattle.st_law.specs.Sessions.{SessionFilter, is_kept_for, session_filters}
use Rattle.st_learn.specs.Deciding.{asks_first, count_for, decides, first_at, lesser, IsDeciding, NoneHolds}
use Rattle.st_compile.proofs.Asking.{left_of, right_of}
use Rattle.st_learn.proofs.Asking.{asks_of_call}
use Rattle.st_learn.proofs.Filters.{mapped}
use Rattle.st_learn.proofs.First.{first_of_any, first_same}

-- the first index that decides, or an earlier one whose filter asks for an argument's text first and decides
abbrev pub earlier_with : Snapshot → List SessionFilter → Option ℕ → ArgText → Option ℕ
earlier_with s session first arg = lesser first (first_at (λ kept. asks_first arg.text kept && decides s kept) session)

-- among the filters that ask for no text, and those that ask for an argument's text, the first that decides is the first of all
pub earliest : (s : Snapshot) (session : List SessionFilter) → fold (earlier_with s session) (first_at (λ kept. asks_first [] kept && decides s kept) session) s.parts ≡ first_at (decides s) session
earliest s session =
    first_of_any (λ (arg : ArgText) kept. asks_first arg.text kept) (decides s) session s.parts (asks_first [])
    ∙ first_same (λ kept. (asks_first [] kept || list_any (λ (arg : ArgText). asks_first arg.text kept) s.parts) && decides s kept) (decides s) session (asks_of_call s)

-- the filters of a call's policy and rule
abbrev pub filters_for : Snapshot → List SessionFilter → List FilterValue
filters_for s session = session_filters session s.policy s.rule

-- this filter, which has so many of these filters before it, is the first that holds
pub record IsFirst (s : Snapshot) (filters : List FilterValue) (n : ℕ) (kept : SessionFilter) : Type 0 where
  pub is_kept : is_kept_for s.policy s.rule kept ≡ true
  pub there : slice_get filters n ≡ Some kept.filter
  pub holds_of_call : holds kept.filter s ≡ true
  pub none_before : NoneHolds (take n filters) s

-- the filter at this index, which decides first, is the first that holds
abbrev pub HoldsFirst : Snapshot → List SessionFilter → Option ℕ → Type 0
HoldsFirst s session None = NoneHolds (filters_for s session) s
HoldsFirst s session (Some p) = (kept : SessionFilter) → slice_get session p ≡ Some kept → IsFirst s (filters_for s session) (length (filters_for s (take p session))) kept

module _ (s : Snapshot) (x : SessionFilter) where
  -- one more filter before them
  with_first : (b : Bool) → is_kept_for s.policy s.rule x ≡ b → (xs : List SessionFilter) → filters_for s (x ∷ xs) ≡ cond b (x.filter ∷ filters_for s xs) (filters_for s xs)
  with_first b is xs = mapped (is_kept_for s.policy s.rule x) x (filter (is_kept_for s.policy s.rule) xs) ∙ ap (λ c. cond c (x.filter ∷ filters_for s xs) (filters_for s xs)) is

  here : (xs : List SessionFilter) (kept : SessionFilter) → is_kept_for s.policy s.rule x ≡ true → holds x.filter s ≡ true → x ≡ kept → IsFirst s (x.filter ∷ filters_for s xs) 0 kept
  here xs kept is true_of same = subst (IsFirst s (x.filter ∷ filters_for s xs) 0) same (record { is_kept = is; there = refl; holds_of_call = true_of; none_before = All-nil (λ f. holds f s ≡ false) })

  following : (filters : List FilterValue) (n : ℕ) (kept : SessionFilter) → holds x.filter s ≡ false → IsFirst s filters n kept → IsFirst s (x.filter ∷ filters) (suc n) kept
  following filters n kept is later = record {
    is_kept = later.is_kept;
    there = later.there;
    holds_of_call = later.holds_of_call;
    none_before = All-cons (λ f. holds f s ≡ false) x.filter (take n filters) is later.none_before;
  }

  holds_first_by : (a h : Bool) (xs : List SessionFilter) (o : Option ℕ) → is_kept_for s.policy s.rule x ≡ a → holds x.filter s ≡ h → HoldsFirst s xs o → HoldsFirst s (x ∷ xs) (cond (a && h) (Some 0) (option_map suc o))
  holds_first_by true true xs o a_is h_is later = λ kept at. subst (λ filters. IsFirst s filters 0 kept) (sym (with_first true a_is xs)) (here xs kept a_is h_is (same kept at)) where
    same : (kept : SessionFilter) → slice_get (x ∷ xs) 0 ≡ Some kept → x ≡ kept
    same kept e = cc
  holds_first_by true false xs None a_is h_is later = subst (λ filters. NoneHolds filters s) (sym (with_first true a_is xs)) (All-cons (λ f. holds f s ≡ false) x.filter (filters_for s xs) h_is later)
  holds_first_by true false xs (Some i) a_is h_is later = λ kept at.
      subst (λ filters. IsFirst s filters (length (filters_for s (x ∷ take i xs))) kept) (sym (with_first true a_is xs))
      (subst (λ before. IsFirst s (x.filter ∷ filters_for s xs) (length before) kept) (sym (with_first true a_is (take i xs)))
      (following (filters_for s xs) (length (filters_for s (take i xs))) kept h_is (later kept at)))
  holds_first_by false h xs None a_is h_is later = subst (λ filters. NoneHolds filters s) (sym (with_first false a_is xs)) later
  holds_first_by false h xs (Some i) a_is h_is later = λ kept at.
      subst (λ filters. IsFirst s filters (length (filters_for s (x ∷ take i xs))) kept) (sym (with_first false a_is xs))
      (subst (λ before. IsFirst s (filters_for s xs) (length before) kept) (sym (with_first false a_is (take i xs)))
      (later kept at))

-- the first filter that decides is the first that holds among those of its policy and rule
holds_first : (s : Snapshot) (session : List SessionFilter) → HoldsFirst s session (first_at (decides s) session)
holds_first s [] = All-nil (λ f. holds f s ≡ false)
holds_first s (x ∷ xs) = holds_first_by s x (is_kept_for s.policy s.rule x) (holds x.filter s) xs (first_at (decides s) xs) refl refl (holds_first s xs)

-- if none decides, none of these holds
pub none_holds : (s : Snapshot) (session : List SessionFilter) → first_at (decides s) session ≡ None → NoneHolds (filters_for s session) s
none_holds s session none = subst (HoldsFirst s session) none (holds_first s session)

-- ---- their verdict

passed : (s : Snapshot) (f : FilterValue) (fs : List FilterValue) (m : ℕ) → holds f s ≡ false → verdict_from m (f ∷ fs) s ≡ verdict_from (suc m) fs s
passed s f fs m is = ap (λ b. cond b (verdict_by m f.grant s.ids f.action) (verdict_from (suc m) fs s)) is

-- unmatched, if none holds
pub unmatched : (s : Snapshot) (filters : List FilterValue) (m : ℕ) → NoneHolds filters s → verdict_from m filters s ≡ Unmatched
unmatched s [] m none = refl
unmatched s (f ∷ fs) m none = passed s f fs m (All-head (λ g. holds g s ≡ false) f fs none) ∙ unmatched s fs (suc m) (All-tail (λ g. holds g s ≡ false) f fs none)

-- that of the first filter that holds
says : (s : Snapshot) (filters : List FilterValue) (n : ℕ) (f : FilterValue) (m : ℕ) → slice_get filters n ≡ Some f → holds f s ≡ true → NoneHolds (take n filters) s → verdict_from m filters s ≡ verdict_by (m + n) f.grant s.ids f.action
says s [] n f m there is none = cc
says s (g ∷ fs) zero f m there is none =
    let same = same_Some g f there in
    let sum : m ≡ m + 0 = omega arith in
    ap (λ b. cond b (verdict_by m g.grant s.ids g.action) (verdict_from (suc m) fs s)) (ap (λ each. holds each s) same ∙ is) ∙ (λ k. verdict_by (sum k) (same k).grant s.ids (same k).action)
says s (g ∷ fs) (suc n) f m there is none =
    let sum : suc m + n ≡ m + suc n = omega arith in
    passed s g fs m (All-head (λ each. holds each s ≡ false) g (take n fs) none)
    ∙ says s fs n f (suc m) there is (All-tail (λ each. holds each s ≡ false) g (take n fs) none)
    ∙ ap (λ k. verdict_by k f.grant s.ids f.action) sum

-- the number of a filter among those of its policy and rule is one more than how many are before it
pub deciding : (s : Snapshot) (session : List SessionFilter) (p n : ℕ) (kept : SessionFilter) → first_at (decides s) session ≡ Some p → slice_get session p ≡ Some kept → n ≡ count_for (take p session) kept
    → IsDeciding (session_filters session s.policy s.rule) s (n + 1) kept.filter
deciding s session p n kept first at number =
    let it : IsFirst s (filters_for s session) (length (filters_for s (take p session))) kept = subst (HoldsFirst s session) first (holds_first s session) kept at in
    let policy : kept.policy ≡ s.policy = (bytes_eq-Decides kept.policy s.policy).0 (left_of (bytes_eq kept.policy s.policy) (same_rule kept.rule s.rule) it.is_kept) in
    let rule : kept.rule ≡ s.rule = (same_rule-Decides kept.rule s.rule).0 (right_of (bytes_eq kept.policy s.policy) (same_rule kept.rule s.rule) it.is_kept) in
    let same : n ≡ length (filters_for s (take p session)) = number ∙ (λ k. length (session_filters (take p session) (policy k) (rule k))) in
    let next : n + 1 ≡ suc (length (filters_for s (take p session))) = omega (arith, same) in
    let before : length (filters_for s (take p session)) ≡ n + 1 - 1 = omega (arith, same) in
    record {
      there = ap (item_at_number (filters_for s session)) next ∙ it.there;
      holds_of_call = it.holds_of_call;
      none_before = subst (λ k. NoneHolds (take k (filters_for s session)) s) before it.none_before;
      says = λ read. let sum : suc read + length (filters_for s (take p session)) ≡ read + (n + 1) = omega (arith, same) in
          says s (filters_for s session) (length (filters_for s (take p session))) kept.filter (suc read) it.there it.holds_of_call it.none_before ∙ ap (λ m. verdict_by m kept.filter.grant s.ids kept.filter.action) sum;
    }
