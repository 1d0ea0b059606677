-- A directory's entries, as its index stores them and sorted by component.
use Rattle.std.proofs.Common.{◌≡◌, ◌∙◌, ap, refl, sym, ℕ, zero, suc, ◌+◌, arith, Bool, drop, true, false, cond, List, [], ◌∷◌, length, Some, None, Option, Vec, Global}
use Rattle.std.proofs.lemmas.Cmp.{eq_by_cmp_equiv, nat_list_cmp_total, nat_list_eq_equiv, on_equiv}
use Rattle.std.proofs.lemmas.Map.{lookup-none, lookup-remove_entry}
use Rattle.std.proofs.lemmas.Map.Entries.{none_past_head}
use Rattle.std.proofs.lemmas.Map.Keys.{IsDistinct-from_sorted, IsDistinct-tail}
use Rattle.std.proofs.lemmas.Map.Lookups.{exact_bytes}
use Rattle.std.proofs.lemmas.Slice.Eq.{bytes_eq-Decides}
use Rattle.std.specs.BTreeMap.{insert_entry, is_at}
use Rattle.std.specs.Cmp.{IsEquivalence}
use Rattle.std.specs.Cmp.Lexicographic.{slice_cmp, texts_ties}
use Rattle.std.specs.List.{IsDistinct}
use Rattle.std.specs.List.Sorted.{IsStrictlySortedBy}
use Rattle.std.specs.Map.{keys_of, lookup, remove_entry, KeepsOthers}
use Rattle.std.specs.Ordering.{is_eq, nat_cmp, match_ordering}
use Rattle.std.specs.Prelude.{slice_get}
use Rattle.std.specs.Str.{bytes_eq}
use Rattle.std.specs.declared.cmp.Ordering.{Ordering}
use Rattle.std.specs.declared.cmp.Ordering.TheVariants.{Less, Equal, Greater}
use Rattle.st_base.proofs.Insertions.{lookup-insert_entry}
use Rattle.st_model.proofs.Ordered.{same_sorted, sorted-insert_entry, sorted-remove_entry}
use Rattle.st_tree.specs.Objects.{KeptEntries, sorted_entries}
use Rattle.st_tree.specs.Paths.{Entries}

-- how the index looks up a component
abbrev pub is_key : List ℕ → Vec ℕ Global → Bool
is_key part key = bytes_eq part key.items

abbrev pub same_key : Vec ℕ Global → Vec ℕ Global → Bool
same_key key other = bytes_eq key.items other.items

same_key-laws : IsEquivalence same_key
same_key-laws = on_equiv (λ (key : Vec ℕ Global). key.items) nat_list_eq_equiv

-- a lookup of a component among the sorted entries finds what the index finds
pub lookup-sorted : (part : List ℕ) (held : KeptEntries) → lookup (is_at (slice_cmp nat_cmp part)) (sorted_entries held) ≡ lookup (is_key part) held
lookup-sorted part [] = refl
lookup-sorted part (entry ∷ held) =
    lookup-insert_entry nat_list_cmp_total entry.0.items entry.1 part (sorted_entries held)
    ∙ (λ i. cond (sym (texts_ties part entry.0.items) i) (Some entry.1) (lookup-sorted part held i))

-- an entry of another component is skipped
pub passed : (part : List ℕ) (held : KeptEntries) (place : ℕ) (entry : Vec ℕ Global × ℕ) → slice_get held place ≡ Some entry → bytes_eq part entry.0.items ≡ false → lookup (is_key part) (drop place held) ≡ lookup (is_key part) (drop (place + 1) held)
passed part [] zero entry here apart = absurd (cc)
passed part [] (suc place) entry here apart = absurd (cc)
passed part (first ∷ held) zero entry here apart =
    let same : first ≡ entry = cc in
    let other : bytes_eq part first.0.items ≡ false = ap (λ (e : Vec ℕ Global × ℕ). bytes_eq part e.0.items) same ∙ apart in
    rw other refl
passed part (first ∷ held) (suc place) entry here apart =
    let next : suc place + 1 ≡ suc (place + 1) = omega arith in
    passed part held place entry here apart ∙ ap (λ (n : ℕ). lookup (is_key part) (drop n (first ∷ held))) (sym next)

-- the sorted entries are in order, each component once
pub sorted-sorted_entries : (held : KeptEntries) → IsStrictlySortedBy (slice_cmp nat_cmp) (keys_of (sorted_entries held))
unfolding IsStrictlySortedBy
sorted-sorted_entries [] = tt
sorted-sorted_entries (entry ∷ held) = sorted-insert_entry (slice_cmp nat_cmp) nat_list_cmp_total (sorted_entries held) entry.0.items entry.1 (sorted-sorted_entries held)

-- ---- the number of entries

length-insert_new : (part : List ℕ) (number : ℕ) (entries : Entries) → lookup (is_at (slice_cmp nat_cmp part)) entries ≡ None → length (insert_entry (slice_cmp nat_cmp) entries part number) ≡ suc (length entries)
length-insert_new part number [] none = refl
length-insert_new part number (entry ∷ entries) none = by (slice_cmp nat_cmp part entry.0) none (length-insert_new part number entries) where
  by : (o : Ordering) → cond (is_eq o) (Some entry.1) (lookup (is_at (slice_cmp nat_cmp part)) entries) ≡ None
      → (lookup (is_at (slice_cmp nat_cmp part)) entries ≡ None → length (insert_entry (slice_cmp nat_cmp) entries part number) ≡ suc (length entries))
      → length (match_ordering o ((part, number) ∷ entry ∷ entries) ((entry.0, number) ∷ entries) (entry ∷ insert_entry (slice_cmp nat_cmp) entries part number)) ≡ suc (suc (length entries))
  by Less none more = refl
  by Equal none more = cc
  by Greater none more = ap suc (more none)

-- there are as many sorted entries as the index has, since its keys differ
pub length-sorted_entries : (held : KeptEntries) → IsDistinct same_key (keys_of held) → length (sorted_entries held) ≡ length held
length-sorted_entries [] distinct = refl
length-sorted_entries (entry ∷ held) distinct =
    let apart = lookup-none (is_key entry.0.items) held (none_past_head same_key-laws entry.0 entry held distinct (same_key-laws.refl entry.0)) in
    length-insert_new entry.0.items entry.1 (sorted_entries held) (lookup-sorted entry.0.items held ∙ apart)
    ∙ ap suc (length-sorted_entries held (IsDistinct-tail same_key entry.0 (keys_of held) distinct))

-- ---- after a change

-- the index has this for a component now, and doesn't change for any other component
module _ (part : List ℕ) (now : Option ℕ) (old new : KeptEntries) (here : lookup (is_key part) new ≡ now) (others : KeepsOthers same_key (is_key part) old new) where
  found_after : (other : List ℕ) → lookup (is_key other) new ≡ cond (bytes_eq part other) now (lookup (is_key other) old)
  unfolding KeepsOthers
  found_after other = by (bytes_eq part other) refl where
    by : (b : Bool) → bytes_eq part other ≡ b → lookup (is_key other) new ≡ cond b now (lookup (is_key other) old)
    by true same = ap (λ (key : List ℕ). lookup (is_key key) new) (sym ((bytes_eq-Decides part other).0 same)) ∙ here
    by false apart =
        others (is_key other) (λ key third. nat_list_eq_equiv.congr other key.items third.items)
        (λ key at. ap (bytes_eq other) (sym ((bytes_eq-Decides part key.items).0 at)) ∙ nat_list_eq_equiv.symm other part ∙ apart)

  -- sorted entries in which lookups find the same are the sorted entries of the index
  sorted_after : (entries : Entries) → IsStrictlySortedBy (slice_cmp nat_cmp) (keys_of entries)
      → ((other : List ℕ) → lookup (is_at (slice_cmp nat_cmp other)) entries ≡ cond (bytes_eq part other) now (lookup (is_at (slice_cmp nat_cmp other)) (sorted_entries old)))
      → sorted_entries new ≡ entries
  sorted_after entries sorted alike =
      same_sorted (slice_cmp nat_cmp) nat_list_cmp_total exact_bytes (sorted_entries new) entries (sorted-sorted_entries new) sorted
      (λ other. lookup-sorted other new ∙ found_after other ∙ ap (cond (bytes_eq part other) now) (sym (lookup-sorted other old)) ∙ sym (alike other))

-- an insertion into the index is an insertion into the sorted entries
pub sorted-put : (part : List ℕ) (number : ℕ) (old new : KeptEntries) → lookup (is_key part) new ≡ Some number → KeepsOthers same_key (is_key part) old new → sorted_entries new ≡ insert_entry (slice_cmp nat_cmp) (sorted_entries old) part number
sorted-put part number old new here others =
    sorted_after part (Some number) old new here others (insert_entry (slice_cmp nat_cmp) (sorted_entries old) part number)
    (sorted-insert_entry (slice_cmp nat_cmp) nat_list_cmp_total (sorted_entries old) part number (sorted-sorted_entries old))
    (λ other. lookup-insert_entry nat_list_cmp_total part number other (sorted_entries old)
    ∙ ap (λ (b : Bool). cond b (Some number) (lookup (is_at (slice_cmp nat_cmp other)) (sorted_entries old))) (sym (texts_ties other part) ∙ nat_list_eq_equiv.symm other part))

-- a removal from the index is a removal from the sorted entries
pub sorted-taken : (part : List ℕ) (old new : KeptEntries) → lookup (is_key part) new ≡ None → KeepsOthers same_key (is_key part) old new → sorted_entries new ≡ remove_entry (is_at (slice_cmp nat_cmp part)) (sorted_entries old)
sorted-taken part old new here others =
    let test : List ℕ → Bool = is_at (slice_cmp nat_cmp part) in
    let ordered = sorted-sorted_entries old in
    sorted_after part None old new here others (remove_entry test (sorted_entries old))
    (sorted-remove_entry (slice_cmp nat_cmp) test (sorted_entries old) ordered)
    (λ other. lookup-remove_entry (eq_by_cmp_equiv nat_list_cmp_total) test ((eq_by_cmp_equiv nat_list_cmp_total).congr part) other (sorted_entries old) (IsDistinct-from_sorted (slice_cmp nat_cmp) (keys_of (sorted_entries old)) ordered)
    ∙ ap (λ (b : Bool). cond b None (lookup (is_at (slice_cmp nat_cmp other)) (sorted_entries old))) (sym (texts_ties part other)))
