-- The entries of directories after one entry is inserted or removed.
use Rattle.std.proofs.Common.{◌≡◌, ◌≢◌, ap, refl, ◌∙◌, ℕ, Bool, true, false, cond, if◌then◌else◌, ◌==◌, ◌&&◌, List, Some, None, Decides, bytes_eq, eqb-true, eq-eqb, ne_eqb}
use Rattle.std.proofs.lemmas.Bool.{cond-true, cond-false, and_parts, and_from, false_from_ne_true}
use Rattle.std.proofs.lemmas.Cmp.{nat_list_cmp_total, eq_by_cmp_equiv}
use Rattle.std.proofs.lemmas.Map.{lookup-remove_entry}
use Rattle.std.proofs.lemmas.Map.Keys.{IsDistinct-from_sorted}
use Rattle.std.proofs.lemmas.Map.Text.{is_eq-slice_cmp}
use Rattle.std.proofs.lemmas.Slice.Eq.{bytes_eq-Decides}
use Rattle.std.specs.BTreeMap.{insert_entry, is_at}
use Rattle.std.specs.Cmp.{IsEquivalence}
use Rattle.std.specs.Cmp.Lexicographic.{slice_cmp}
use Rattle.std.specs.List.Sorted.{IsStrictlySortedBy}
use Rattle.std.specs.Map.{keys_of, lookup, remove_entry}
use Rattle.std.specs.Ordering.{nat_cmp, eq_by_cmp}
use Rattle.st_base.proofs.Insertions.{lookup-insert_entry}
use Rattle.st_model.proofs.Ordered.{sorted-insert_entry, sorted-remove_entry}
use Rattle.st_tree.specs.Paths.{Entries, dir_entry, with_entry, without_entry}

-- ---- one entry of one directory

-- whether a directory and a component are those of the changed entry
abbrev pub is_here : ℕ → List ℕ → ℕ → List ℕ → Bool
is_here holder part other q = (other == holder) && bytes_eq q part

-- `is_here` decides whether both are equal
pub is_here-Decides : (holder : ℕ) (part : List ℕ) (other : ℕ) (q : List ℕ) → Decides (is_here holder part other q) ((other ≡ holder) × (q ≡ part))
is_here-Decides holder part other q = (
  λ yes. let both = and_parts _ _ yes in (eqb-true other holder both.0, (bytes_eq-Decides q part).0 both.1),
  λ same. and_from _ _ (eq-eqb other holder same.0) ((bytes_eq-Decides q part).1 same.1),
)

-- an entry of another directory or of another component isn't the changed entry
pub not_here : (holder : ℕ) (part : List ℕ) (other : ℕ) (q : List ℕ) → (other ≡ holder → q ≡ part → ⊥) → is_here holder part other q ≡ false
not_here holder part other q apart = false_from_ne_true _ (λ yes. let same = (is_here-Decides holder part other q).0 yes in apart same.0 same.1)

module _ (dirs : ℕ → Entries) (holder : ℕ) (part : List ℕ) (number : ℕ) where
  -- the object of each component after an entry is inserted
  pub entry-with_entry : (other : ℕ) (q : List ℕ) → dir_entry (with_entry dirs holder part number) other q ≡ (if is_here holder part other q then Some number else dir_entry dirs other q)
  entry-with_entry other q = by (other == holder) where
    by : (b : Bool) → lookup (is_at (slice_cmp nat_cmp q)) (if b then insert_entry (slice_cmp nat_cmp) (dirs other) part number else dirs other) ≡ (if b && bytes_eq q part then Some number else dir_entry dirs other q)
    by true =
        lookup-insert_entry nat_list_cmp_total part number q (dirs other)
        ∙ ap (λ (b : Bool). cond b (Some number) (dir_entry dirs other q)) (is_eq-slice_cmp q part)
    by false = refl

  -- the inserted entry has its object
  pub entry-with_here : dir_entry (with_entry dirs holder part number) holder part ≡ Some number
  entry-with_here = entry-with_entry holder part ∙ cond-true _ _ _ ((is_here-Decides holder part holder part).1 (refl, refl))

  -- each other entry keeps its object
  pub entry-with_apart : (other : ℕ) (q : List ℕ) → (other ≡ holder → q ≡ part → ⊥) → dir_entry (with_entry dirs holder part number) other q ≡ dir_entry dirs other q
  entry-with_apart other q apart = entry-with_entry other q ∙ cond-false _ _ _ (not_here holder part other q apart)

  -- the other directories don't change
  pub with_entry_apart : (other : ℕ) → other ≢ holder → with_entry dirs holder part number other ≡ dirs other
  with_entry_apart other apart = cond-false _ _ _ (ne_eqb other holder apart)

  -- sorted entries stay sorted
  pub sorted-with_entry : (other : ℕ) → IsStrictlySortedBy (slice_cmp nat_cmp) (keys_of (dirs other)) → IsStrictlySortedBy (slice_cmp nat_cmp) (keys_of (with_entry dirs holder part number other))
  sorted-with_entry other s = by (other == holder) where
    by : (b : Bool) → IsStrictlySortedBy (slice_cmp nat_cmp) (keys_of (if b then insert_entry (slice_cmp nat_cmp) (dirs other) part number else dirs other))
    by true = sorted-insert_entry (slice_cmp nat_cmp) nat_list_cmp_total (dirs other) part number s
    by false = s

module _ (dirs : ℕ → Entries) (holder : ℕ) (part : List ℕ) where
  -- the object of each component after an entry is removed
  pub entry-without_entry : (other : ℕ) (q : List ℕ) → IsStrictlySortedBy (slice_cmp nat_cmp) (keys_of (dirs other)) → dir_entry (without_entry dirs holder part) other q ≡ (if is_here holder part other q then None else dir_entry dirs other q)
  entry-without_entry other q s = by (other == holder) where
    laws : IsEquivalence (eq_by_cmp (slice_cmp nat_cmp))
    laws = eq_by_cmp_equiv nat_list_cmp_total

    by : (b : Bool) → lookup (is_at (slice_cmp nat_cmp q)) (if b then remove_entry (is_at (slice_cmp nat_cmp part)) (dirs other) else dirs other) ≡ (if b && bytes_eq q part then None else dir_entry dirs other q)
    by true =
        lookup-remove_entry laws (is_at (slice_cmp nat_cmp part)) (λ x y same. laws.congr part x y same) q (dirs other) (IsDistinct-from_sorted (slice_cmp nat_cmp) (keys_of (dirs other)) s)
        ∙ ap (λ (b : Bool). cond b None (dir_entry dirs other q)) (laws.symm part q ∙ is_eq-slice_cmp q part)
    by false = refl

  -- the removed entry has no object
  pub entry-without_here : IsStrictlySortedBy (slice_cmp nat_cmp) (keys_of (dirs holder)) → dir_entry (without_entry dirs holder part) holder part ≡ None
  entry-without_here s = entry-without_entry holder part s ∙ cond-true _ _ _ ((is_here-Decides holder part holder part).1 (refl, refl))

  -- each other entry keeps its object
  pub entry-without_apart : (other : ℕ) (q : List ℕ) → IsStrictlySortedBy (slice_cmp nat_cmp) (keys_of (dirs other)) → (other ≡ holder → q ≡ part → ⊥) → dir_entry (without_entry dirs holder part) other q ≡ dir_entry dirs other q
  entry-without_apart other q s apart = entry-without_entry other q s ∙ cond-false _ _ _ (not_here holder part other q apart)

  -- the other directories don't change
  pub without_entry_apart : (other : ℕ) → other ≢ holder → without_entry dirs holder part other ≡ dirs other
  without_entry_apart other apart = cond-false _ _ _ (ne_eqb other holder apart)

  -- sorted entries stay sorted
  pub sorted-without_entry : (other : ℕ) → IsStrictlySortedBy (slice_cmp nat_cmp) (keys_of (dirs other)) → IsStrictlySortedBy (slice_cmp nat_cmp) (keys_of (without_entry dirs holder part other))
  sorted-without_entry other s = by (other == holder) where
    by : (b : Bool) → IsStrictlySortedBy (slice_cmp nat_cmp) (keys_of (if b then remove_entry (is_at (slice_cmp nat_cmp part)) (dirs other) else dirs other))
    by true = sorted-remove_entry (slice_cmp nat_cmp) (is_at (slice_cmp nat_cmp part)) (dirs other) s
    by false = s
