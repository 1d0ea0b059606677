-- Whether a process is live, by the numbers of threads and by the threads that are kept.
use native.Mathlib.Omega.{arith}
use Rattle.std.proofs.Common.{◌≡◌, ◌≤◌, ◌∙◌, ℕ, ◌+◌, Bool, true, false, ◌||◌, List, [], ◌∷◌, Option, Some, None, refl, sym}
use Rattle.std.proofs.lemmas.Bool.{true≢false, false_from_ne_true}
use Rattle.std.proofs.lemmas.Cmp.{eq_by_cmp_equiv, nat_cmp_total}
use Rattle.std.proofs.lemmas.List.Elements.{All-from_recursion}
use Rattle.std.proofs.lemmas.List.Folds.{list_any_none}
use Rattle.std.proofs.lemmas.Map.Keys.{IsDistinct-from_sorted}
use Rattle.std.proofs.lemmas.Map.Views.{All-values_from_lookup, IfSome-lookup_from_All}
use Rattle.std.specs.BTreeMap.{is_at}
use Rattle.std.specs.List.{AllByRecursion, list_any}
use Rattle.std.specs.List.Sorted.{IsStrictlySortedBy}
use Rattle.std.specs.Map.{keys_of, lookup, values_of}
use Rattle.std.specs.Ordering.{nat_cmp}
use Rattle.std.specs.Prelude.{IfSome, is_some}
use Rattle.st_model.specs.Processes.{StartedThread}
use Rattle.st_law.specs.Sessions.{least_from}
use Rattle.st_law.proofs.Least.{least, NoneOf}

-- whether an optional thread passes a test
abbrev pub passes : (StartedThread → Bool) → Option StartedThread → Bool
passes is None = false
passes is (Some thread) = is thread

if_passes : (is : StartedThread → Bool) (o : Option StartedThread) → passes is o ≡ false → IfSome o (λ thread. is thread ≡ false)
if_passes is None none = tt
if_passes is (Some thread) none = none

of_if : (is : StartedThread → Bool) (o : Option StartedThread) → IfSome o (λ thread. is thread ≡ false) → passes is o ≡ false
of_if is None none = refl
of_if is (Some thread) none = none

all_false : (is : StartedThread → Bool) (threads : List StartedThread) → list_any is threads ≡ false → AllByRecursion (λ thread. is thread ≡ false) threads
all_false is [] none = tt
all_false is (thread ∷ threads) none = both (is thread) refl none (all_false is threads) where
  both : (b : Bool) → is thread ≡ b → (b || list_any is threads) ≡ false → (list_any is threads ≡ false → AllByRecursion (λ thread. is thread ≡ false) threads) → AllByRecursion (λ thread. is thread ≡ false) (thread ∷ threads)
  both true e none more = absurd (true≢false none)
  both false e none more = (e, more none)

module _ (threads : List (ℕ × StartedThread)) (count : ℕ) (is : StartedThread → Bool) (has : ℕ → Bool) (ordered : IsStrictlySortedBy nat_cmp (keys_of threads))
    (agrees : (t : ℕ) → has t ≡ passes is (lookup (is_at (nat_cmp t)) threads)) (known : (t : ℕ) → has t ≡ true → (1 ≤ t) × (t ≤ count)) where
  none_kept : ((t : ℕ) → has t ≡ false) → list_any is (values_of threads) ≡ false
  none_kept none = list_any_none is (values_of threads)
      (All-values_from_lookup (eq_by_cmp_equiv nat_cmp_total) (λ thread. is thread ≡ false) threads (IsDistinct-from_sorted nat_cmp (keys_of threads) ordered)
      (λ t. if_passes is (lookup (is_at (nat_cmp t)) threads) (sym (agrees t) ∙ none t)))

  none_found : list_any is (values_of threads) ≡ false → (t : ℕ) → has t ≡ false
  none_found none t = agrees t ∙ of_if is (lookup (is_at (nat_cmp t)) threads)
      (IfSome-lookup_from_All (λ thread. is thread ≡ false) (is_at (nat_cmp t)) threads (All-from_recursion (λ thread. is thread ≡ false) (values_of threads) (all_false is (values_of threads) none)))

  -- if a number passes, a kept thread does
  found : (t : ℕ) → has t ≡ true → (b : Bool) → list_any is (values_of threads) ≡ b → true ≡ b
  found t holds true e = refl
  found t holds false e = absurd (true≢false (sym holds ∙ none_found e t))

  outside : NoneOf has 1 (1 + count) → (t : ℕ) → has t ≡ false
  outside none t = false_from_ne_true (has t) (λ holds. let at = known t holds in
      let low = at.0 in let high = at.1 in true≢false (sym holds ∙ none t low (omega (arith, high))))

  -- some number passes iff some kept thread does
  pub some_is : is_some (least_from has 1 count) ≡ list_any is (values_of threads)
  some_is = least (λ o. is_some o ≡ list_any is (values_of threads)) has 1 count
      (λ t x. found t x.holds (list_any is (values_of threads)) refl)
      (λ none. sym (none_kept (outside none)))
