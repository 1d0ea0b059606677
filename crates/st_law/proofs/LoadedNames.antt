-- What a thread can load of a name that another thread of its process stores over: both threads of the race store two words, and a copy of
-- the name is one of four.
use Rattle.std.proofs.Common.{◌≡◌, ◌⊎◌, ℕ, zero, suc, [], ◌∷◌, Some, None, codes, inl, inr, refl, sym, ap, arith}
use Rattle.std.proofs.lemmas.Option.{none-some, same_Some}
use Rattle.st_calls.specs.declared.argument.PartKind.TheVariants as kind
use Rattle.st_model.specs.Spelling.{spell, Text}
use Rattle.st_law.specs.Loaded.{own_word, process_by_script, stores_by_script, IsAloneAt, IsLoaded, IsNextStore, IsStoredIn}
use Rattle.st_law.proofs.HeldRuns.{rewriter}
use Rattle.st_law.proofs.Scripts.{cat_input, etc_files, opens, passwd_only}
use Rattle.st_law.proofs.Writing.{thread_in}

-- the stores of "/etc/passwd" and of "/etc/spwd"
stores_of_both : (stores_by_script rewriter.start 1 ≡ (0, 8314049735936992559) ∷ (1, 6584179) ∷ []) × (stores_by_script rewriter.start 2 ≡ (0, 8606505535274247471) ∷ (1, 100) ∷ [])
stores_of_both = (refl, refl)

-- before its first store a thread has no word of its own at a place, then that of the store
own_words : (own_word rewriter.start 1 0 0 ≡ None) × (own_word rewriter.start 1 1 0 ≡ Some 8314049735936992559) × (own_word rewriter.start 1 1 1 ≡ None) × (own_word rewriter.start 1 2 1 ≡ Some 6584179)
own_words = (refl, refl, refl, refl)

-- before any store 0 can be loaded
zero_at_first : IsLoaded rewriter.start 1 0 0 0
zero_at_first = inl refl

-- after its two stores the first thread can load its own words and those of the other thread
own_first : IsLoaded rewriter.start 1 2 0 8314049735936992559
own_first = (record { thread = 1; made = 0; process_is = refl; store = refl }, λ alone. refl)

other_first : IsLoaded rewriter.start 1 2 0 8606505535274247471
other_first = (record { thread = 2; made = 0; process_is = refl; store = refl }, λ alone. absurd (alone 2 0 8606505535274247471 (λ e. omega (arith, e)) refl refl))

own_second : IsLoaded rewriter.start 1 2 1 6584179
own_second = (record { thread = 1; made = 1; process_is = refl; store = refl }, λ alone. refl)

other_second : IsLoaded rewriter.start 1 2 1 100
other_second = (record { thread = 2; made = 1; process_is = refl; store = refl }, λ alone. absurd (alone 2 1 100 (λ e. omega (arith, e)) refl refl))

-- and no others
stored_first : (word : ℕ) → IsStoredIn rewriter.start 1 0 word → (word ≡ 8314049735936992559) ⊎ (word ≡ 8606505535274247471)
stored_first word s = by s.thread s.made s.process_is s.store where
  by : (t made : ℕ) → process_by_script rewriter.start t ≡ 1 → IsNextStore rewriter.start t made 0 word → (word ≡ 8314049735936992559) ⊎ (word ≡ 8606505535274247471)
  by zero made is e = absurd (omega (arith, is))
  by (suc zero) zero is e = inl (sym (ap (λ (s : ℕ × ℕ). s.1) (same_Some _ _ e)))
  by (suc zero) (suc zero) is e = absurd (omega (arith, ap (λ (s : ℕ × ℕ). s.0) (same_Some _ _ e)))
  by (suc zero) (suc (suc made)) is e = absurd (none-some _ e)
  by (suc (suc zero)) zero is e = inr (sym (ap (λ (s : ℕ × ℕ). s.1) (same_Some _ _ e)))
  by (suc (suc zero)) (suc zero) is e = absurd (omega (arith, ap (λ (s : ℕ × ℕ). s.0) (same_Some _ _ e)))
  by (suc (suc zero)) (suc (suc made)) is e = absurd (none-some _ e)
  by (suc (suc (suc t))) made is e = absurd (omega (arith, is))

stored_second : (word : ℕ) → IsStoredIn rewriter.start 1 1 word → (word ≡ 6584179) ⊎ (word ≡ 100)
stored_second word s = by s.thread s.made s.process_is s.store where
  by : (t made : ℕ) → process_by_script rewriter.start t ≡ 1 → IsNextStore rewriter.start t made 1 word → (word ≡ 6584179) ⊎ (word ≡ 100)
  by zero made is e = absurd (omega (arith, is))
  by (suc zero) zero is e = absurd (omega (arith, ap (λ (s : ℕ × ℕ). s.0) (same_Some _ _ e)))
  by (suc zero) (suc zero) is e = inl (sym (ap (λ (s : ℕ × ℕ). s.1) (same_Some _ _ e)))
  by (suc zero) (suc (suc made)) is e = absurd (none-some _ e)
  by (suc (suc zero)) zero is e = absurd (omega (arith, ap (λ (s : ℕ × ℕ). s.0) (same_Some _ _ e)))
  by (suc (suc zero)) (suc zero) is e = inr (sym (ap (λ (s : ℕ × ℕ). s.1) (same_Some _ _ e)))
  by (suc (suc zero)) (suc (suc made)) is e = absurd (none-some _ e)
  by (suc (suc (suc t))) made is e = absurd (omega (arith, is))

-- each name that can be copied after the first thread's stores is one of four
four_names : (first second : ℕ) → IsLoaded rewriter.start 1 2 0 first → IsLoaded rewriter.start 1 2 1 second
    → (spell kind.Name 0 (first ∷ second ∷ []) ≡ Text (codes "/etc/passwd")) ⊎ (spell kind.Name 0 (first ∷ second ∷ []) ≡ Text (codes "/etc/pasd"))
    ⊎ (spell kind.Name 0 (first ∷ second ∷ []) ≡ Text (codes "/etc/spwswd")) ⊎ (spell kind.Name 0 (first ∷ second ∷ []) ≡ Text (codes "/etc/spwd"))
four_names first second a b = elim (stored_first first a.0) [
  | inl own ↦ elim (stored_second second b.0) [
    | inl own' ↦ inl (rw (own, own') refl)
    | inr other' ↦ inr (inl (rw (own, other') refl))
  ]
  | inr other ↦ elim (stored_second second b.0) [
    | inl own' ↦ inr (inr (inl (rw (other, own') refl)))
    | inr other' ↦ inr (inr (inr (rw (other, other') refl)))
  ]
]

-- the only thread of a process loads what it stored last
alone_loads_its_own : (word : ℕ) → IsLoaded (cat_input (passwd_only ∷ []) etc_files (thread_in 1 (opens "/etc/passwd") ∷ [])).start 1 2 0 word → word ≡ 8314049735936992559
alone_loads_its_own word loaded = loaded.1 others where
  others : IsAloneAt (cat_input (passwd_only ∷ []) etc_files (thread_in 1 (opens "/etc/passwd") ∷ [])).start 1 0
  others zero made own apart same e = absurd (omega (arith, same))
  others (suc zero) made own apart same e = absurd (apart refl)
  others (suc (suc t)) made own apart same e = absurd (omega (arith, same))
