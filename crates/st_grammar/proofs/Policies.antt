-- Policies and their filters, and binaries that have no policy yet.
use Rattle.std.proofs.Common.{◌≡◌, ℕ, ◌+◌, Bool, false, ◌||◌, List, [], ◌∷◌, ◌++◌, length, refl, ap, sym, ◌∙◌, arith, append_assoc, append-nil, length-append}
use Rattle.std.specs.Str.{bytes_eq}
use Rattle.std.specs.List.{list_any}
use Rattle.std.proofs.lemmas.List.Sums.{sum_by-append}
use Rattle.st_grammar.proofs.Common.{add_filter, AreNew, binaries, BinaryPolicy, filters_in, FilterValue, has_policy, with_filter}

abbrev pub fresh_policy : List ℕ → BinaryPolicy
fresh_policy binary = record { binary = binary; filters = [] }

pub any-binaries : (binary : List ℕ) (set : List BinaryPolicy) → list_any (λ b. bytes_eq b binary) (binaries set) ≡ has_policy set binary
any-binaries binary [] = refl
any-binaries binary (p ∷ ps) = ap (λ (b : Bool). bytes_eq p.binary binary || b) (any-binaries binary ps)

pub new-more : (known ps : List BinaryPolicy) (p : BinaryPolicy) → AreNew known ps → has_policy (known ++ ps) p.binary ≡ false → AreNew known (ps ++ p ∷ [])
new-more known [] p a h = (ap (λ (xs : List BinaryPolicy). has_policy xs p.binary) (sym (append-nil known)) ∙ h, tt)
new-more known (q ∷ qs) p a h = (a.0, new-more (known ++ q ∷ []) qs p a.1 (ap (λ (xs : List BinaryPolicy). has_policy xs p.binary) (append_assoc known (q ∷ []) qs) ∙ h))

pub new-before : (known ps : List BinaryPolicy) (p : BinaryPolicy) → AreNew known (ps ++ p ∷ []) → AreNew known ps × (has_policy (known ++ ps) p.binary ≡ false)
new-before known [] p a = (tt, ap (λ (xs : List BinaryPolicy). has_policy xs p.binary) (append-nil known) ∙ a.0)
new-before known (q ∷ qs) p a =
    let b : AreNew (known ++ q ∷ []) qs × (has_policy ((known ++ q ∷ []) ++ qs) p.binary ≡ false) = new-before (known ++ q ∷ []) qs p a.1 in
    ((a.0, b.0), ap (λ (xs : List BinaryPolicy). has_policy xs p.binary) (sym (append_assoc known (q ∷ []) qs)) ∙ b.1)

-- whether the last policy's binary is new depends on its binary alone
pub new-with : (known ps : List BinaryPolicy) (p : BinaryPolicy) (f : FilterValue) → AreNew known (ps ++ p ∷ []) → AreNew known (ps ++ with_filter p f ∷ [])
new-with known [] p f a = (a.0, tt)
new-with known (q ∷ qs) p f a = (a.0, new-with (known ++ q ∷ []) qs p f a.1)

pub new-without : (known ps : List BinaryPolicy) (p : BinaryPolicy) (f : FilterValue) → AreNew known (ps ++ with_filter p f ∷ []) → AreNew known (ps ++ p ∷ [])
new-without known [] p f a = (a.0, tt)
new-without known (q ∷ qs) p f a = (a.0, new-without (known ++ q ∷ []) qs p f a.1)

-- ---- filters

pub add-last : (xs : List BinaryPolicy) (p : BinaryPolicy) (f : FilterValue) → add_filter (xs ++ p ∷ []) f ≡ xs ++ with_filter p f ∷ []
add-last [] p f = refl
add-last (x ∷ []) p f = refl
add-last (x ∷ y ∷ xs) p f = ap (λ (ps : List BinaryPolicy). x ∷ ps) (add-last (y ∷ xs) p f)

pub filters-append : (xs ys : List BinaryPolicy) → filters_in (xs ++ ys) ≡ filters_in xs + filters_in ys
filters-append xs ys = sum_by-append (λ (p : BinaryPolicy). length p.filters) xs ys

pub filters-with : (xs : List BinaryPolicy) (p : BinaryPolicy) (f : FilterValue) → filters_in (xs ++ with_filter p f ∷ []) ≡ filters_in (xs ++ p ∷ []) + 1
filters-with xs p f = omega (arith, filters-append xs (with_filter p f ∷ []), filters-append xs (p ∷ []), length-append p.filters (f ∷ []))
