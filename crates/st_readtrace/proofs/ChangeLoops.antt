-- Changes that are read one after the other: what was read so far, and what is read of the rest.
use Rattle.std.proofs.Common.{zero, suc, ◌≡◌, ◌≢◌, ℕ, ◌+◌, ◌-◌, ◌<◌, ◌≤◌, List, [], ◌∷◌, ◌++◌, Option, Some, None, refl, ap, sym, ◌∙◌, arith}
use Rattle.std.proofs.lemmas.List.{append-nil}
use Rattle.st_trace.specs.declared.entry.Change.{Change}
use Rattle.st_fields.specs.declared.fault.LineFault.{LineFault}
use Rattle.st_fields.specs.declared.fault.LineFault.TheVariants.{NotInGrammar, NoMemory}
use Rattle.st_fields.specs.Reads.{◌>>=◌, Fails}
use Rattle.st_fields.proofs.Loops.{regrouped, with_front}
use Rattle.st_readtrace.specs.Changes.{changes_from, next_change_at}

changes-step : (most i : ℕ) (bytes : List ℕ) → i < most → bytes ≢ [] → changes_from (most - i) bytes ≡ (next_change_at bytes >>= λ change. changes_from (most - (i + 1)) change.1 >>= λ others. Some (change.0 ∷ others))
unfolding changes_from
changes-step most i [] within some = absurd (some refl)
changes-step most i (b ∷ bytes) within some =
    let k : most - i ≡ suc (most - (i + 1)) = omega arith in
    rw k refl

pub changes-go_on : (front : List Change) (most i : ℕ) (bytes : List ℕ) (change : Change) (after : List ℕ) (total : Option (List Change)) → i < most → bytes ≢ [] →
    next_change_at bytes ≡ Some (change, after) → with_front front (changes_from (most - i) bytes) ≡ total → with_front (front ++ change ∷ []) (changes_from (most - (i + 1)) after) ≡ total
changes-go_on front most i bytes change after total within some read so_far =
    let one : with_front front (changes_from (most - i) bytes) ≡ with_front (front ++ change ∷ []) (changes_from (most - (i + 1)) after) = rw (changes-step most i bytes within some, read) (regrouped front change (changes_from (most - (i + 1)) after)) in
    sym one ∙ so_far

pub changes-fail : (front : List Change) (most i : ℕ) (bytes : List ℕ) (total : Option (List Change)) → i < most → bytes ≢ [] →
    next_change_at bytes ≡ None → with_front front (changes_from (most - i) bytes) ≡ total → total ≡ None
changes-fail front most i bytes total within some read so_far =
    let none : with_front front (changes_from (most - i) bytes) ≡ None = rw (changes-step most i bytes within some, read) refl in
    sym so_far ∙ none

pub changes-fault : (fault : LineFault) (front : List Change) (most i : ℕ) (bytes : List ℕ) (total : Option (List Change)) → i < most → bytes ≢ [] →
    Fails fault (next_change_at bytes) → with_front front (changes_from (most - i) bytes) ≡ total → Fails fault total
changes-fault NotInGrammar front most i bytes total within some read so_far = changes-fail front most i bytes total within some read so_far
changes-fault NoMemory front most i bytes total within some read so_far = tt

no_changes : (k : ℕ) → changes_from k [] ≡ Some []
unfolding changes_from
no_changes zero = refl
no_changes (suc k) = refl

pub changes-end : (front : List Change) (k : ℕ) (bytes : List ℕ) (total : Option (List Change)) → bytes ≡ [] → with_front front (changes_from k bytes) ≡ total → total ≡ Some front
changes-end front k bytes total none so_far =
    sym so_far ∙ ap (λ (xs : List ℕ). with_front front (changes_from k xs)) none ∙ ap (with_front front) (no_changes k) ∙ ap (λ (changes : List Change). Some changes) (append-nil front)

too_many : (bytes : List ℕ) → bytes ≢ [] → changes_from 0 bytes ≡ None
unfolding changes_from
too_many [] some = absurd (some refl)
too_many (b ∷ bytes) some = refl

pub changes-left : (front : List Change) (most i : ℕ) (bytes : List ℕ) (total : Option (List Change)) → most ≤ i → bytes ≢ [] → with_front front (changes_from (most - i) bytes) ≡ total → total ≡ None
changes-left front most i bytes total past some so_far =
    let k : most - i ≡ 0 = omega arith in
    let none : with_front front (changes_from (most - i) bytes) ≡ None = rw (k, too_many bytes some) refl in
    sym so_far ∙ none
