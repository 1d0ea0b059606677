-- The counts of a trace are the same of its numbers and of its drawings.
use Rattle.std.proofs.Common.{◌≡◌, ◌+◌, ℕ, suc, cond, List, [], ◌∷◌, length, reverse, refl, sym, ap, ◌∙◌}
use Rattle.std.proofs.lemmas.List.{length-reverse, reverse-append, reverse-reverse}
use Rattle.std.proofs.lemmas.List.Sums.{sum_by-append, sum_by-cons}
use Rattle.std.specs.List.{sum_by}
use Rattle.st_trace.specs.declared.entry.CallResult.TheVariants.{Failed, Value}
use Rattle.st_trace.specs.declared.entry.Change.{Change}
use Rattle.st_trace.specs.declared.entry.Entry.{Entry}
use Rattle.st_trace.specs.declared.entry.Entry.TheVariants.{Stored, Used}
use Rattle.st_law.specs.declared.input.Input.{Input}
use Rattle.st_law.specs.Numbers.{drawn, drawn_back, numbered, numbered_back, largest_number, renumbered}
use Rattle.st_law.specs.Threads.{History}
use Rattle.st_audit.specs.Summary.{is_call_denied, is_call_entered, is_call_failed, is_call_used, summary_of}

-- a count that is the same of an entry whatever its numbers are
abbrev IsUnnumbered : (Entry → ℕ) → Type 0
IsUnnumbered count = (named drawn_as : ℕ → ℕ) (changed : List Change → List Change) (e : Entry) → count (renumbered named drawn_as changed e) ≡ count e

entered_counts : IsUnnumbered (λ e. cond (is_call_entered e) 1 0)
entered_counts named drawn_as changed (Stored t place word) = refl
entered_counts named drawn_as changed _ = refl

used_counts : IsUnnumbered (λ e. cond (is_call_used e) 1 0)
used_counts named drawn_as changed (Stored t place word) = refl
used_counts named drawn_as changed _ = refl

failed_counts : IsUnnumbered (λ e. cond (is_call_failed e) 1 0)
failed_counts named drawn_as changed (Used t seq call regs args ids (Failed errno) changes) = refl
failed_counts named drawn_as changed (Used t seq call regs args ids (Value value) changes) = refl
failed_counts named drawn_as changed _ = refl

denied_counts : IsUnnumbered (λ e. cond (is_call_denied e) 1 0)
denied_counts named drawn_as changed (Stored t place word) = refl
denied_counts named drawn_as changed _ = refl

-- one more entry at the end
counted_more : (count : Entry → ℕ) (other given : Entry) (others those : List Entry) → count other ≡ count given → sum_by count (reverse others) ≡ sum_by count (reverse those) → sum_by count (reverse (other ∷ others)) ≡ sum_by count (reverse (given ∷ those))
counted_more count other given others those one rest =
    ap (sum_by count) (reverse-append (other ∷ []) others) ∙ sum_by-append count (reverse others) (other ∷ [])
    ∙ (λ k. rest k + (sum_by-cons count other [] ∙ ap (λ n. n + sum_by count []) one ∙ sym (sum_by-cons count given [])) k)
    ∙ sym (ap (sum_by count) (reverse-append (given ∷ []) those) ∙ sum_by-append count (reverse those) (given ∷ []))

module _ (count : Entry → ℕ) (same : IsUnnumbered count) where
  drawn_counts : (h : History) → sum_by count (reverse (drawn_back h)) ≡ sum_by count (reverse h)
  drawn_counts [] = refl
  drawn_counts (e ∷ h) = counted_more count _ e (drawn_back h) h (same _ _ _ e) (drawn_counts h)

  numbered_counts : (i : Input) (h : History) → sum_by count (reverse (numbered_back largest_number i h)) ≡ sum_by count (reverse h)
  numbered_counts i [] = refl
  numbered_counts i (e ∷ h) = counted_more count _ e (numbered_back largest_number i h) h (same _ _ _ e) (numbered_counts i h)

drawn_length : (h : History) → length (drawn_back h) ≡ length h
drawn_length [] = refl
drawn_length (e ∷ h) = ap suc (drawn_length h)

numbered_length : (i : Input) (h : History) → length (numbered_back largest_number i h) ≡ length h
numbered_length i [] = refl
numbered_length i (e ∷ h) = ap suc (numbered_length i h)

pub drawn_summary : (trace : List Entry) → summary_of (drawn trace) ≡ summary_of trace
drawn_summary trace = λ k. record {
  calls = (drawn_counts (λ e. cond (is_call_entered e) 1 0) entered_counts (reverse trace) ∙ ap (sum_by (λ e. cond (is_call_entered e) 1 0)) (reverse-reverse trace)) k;
  used = (drawn_counts (λ e. cond (is_call_used e) 1 0) used_counts (reverse trace) ∙ ap (sum_by (λ e. cond (is_call_used e) 1 0)) (reverse-reverse trace)) k;
  failed = (drawn_counts (λ e. cond (is_call_failed e) 1 0) failed_counts (reverse trace) ∙ ap (sum_by (λ e. cond (is_call_failed e) 1 0)) (reverse-reverse trace)) k;
  denied = (drawn_counts (λ e. cond (is_call_denied e) 1 0) denied_counts (reverse trace) ∙ ap (sum_by (λ e. cond (is_call_denied e) 1 0)) (reverse-reverse trace)) k;
  entries = (length-reverse (drawn_back (reverse trace)) ∙ drawn_length (reverse trace) ∙ length-reverse trace) k;
}

pub numbered_summary : (i : Input) (trace : List Entry) → summary_of (numbered i trace) ≡ summary_of trace
numbered_summary i trace = λ k. record {
  calls = (numbered_counts (λ e. cond (is_call_entered e) 1 0) entered_counts i (reverse trace) ∙ ap (sum_by (λ e. cond (is_call_entered e) 1 0)) (reverse-reverse trace)) k;
  used = (numbered_counts (λ e. cond (is_call_used e) 1 0) used_counts i (reverse trace) ∙ ap (sum_by (λ e. cond (is_call_used e) 1 0)) (reverse-reverse trace)) k;
  failed = (numbered_counts (λ e. cond (is_call_failed e) 1 0) failed_counts i (reverse trace) ∙ ap (sum_by (λ e. cond (is_call_failed e) 1 0)) (reverse-reverse trace)) k;
  denied = (numbered_counts (λ e. cond (is_call_denied e) 1 0) denied_counts i (reverse trace) ∙ ap (sum_by (λ e. cond (is_call_denied e) 1 0)) (reverse-reverse trace)) k;
  entries = (length-reverse (numbered_back largest_number i (reverse trace)) ∙ numbered_length i (reverse trace) ∙ length-reverse trace) k;
}
