-- The stores of a script are inside memory.
use Rattle.std.proofs.Common.{◌≡◌, ℕ, zero, suc, ◌<◌, List, [], ◌∷◌, Option, Some, None, refl, subst, arith}
use Rattle.std.proofs.lemmas.Option.{none-some, same_Some, get_or_from_slice_get, slice_get_within}
use Rattle.std.specs.List.{All}
use Rattle.std.specs.Prelude.{slice_get}
use Rattle.st_base.specs.Numbered.{item_at_number}
use Rattle.st_model.specs.declared.limits.TheConstants.{SPACE_WORDS}
use Rattle.st_reached.specs.Scripts.{IsInMemory, StoresInMemory}
use Rattle.st_trace.specs.declared.start.Instr.{Instr}
use Rattle.st_trace.specs.declared.start.Instr.TheVariants.{Store, Call, Fork, Reload}
use Rattle.st_trace.specs.declared.start.Start.{Start}
use Rattle.st_trace.specs.declared.start.ThreadRow.{ThreadRow}
use Rattle.st_law.specs.Threads.{body_of_row}
use Rattle.st_law.specs.Loaded.{stores_in, IsNextStore}

-- what holds of each item holds of the first and of each later one
first_has : {X : Type 0} (P : X → Type 0) (x : X) (xs : List X) → All P (x ∷ xs) → P x
first_has P x xs all = all 0 x (omega arith)

rest_has : {X : Type 0} (P : X → Type 0) (x : X) (xs : List X) → All P (x ∷ xs) → All P xs
rest_has P x xs all = λ k d inside. all (suc k) d (omega (arith, inside))

stores_inside : (body : List Instr) → All IsInMemory body → (made place word : ℕ) → slice_get (stores_in body) made ≡ Some (place, word) → place < SPACE_WORDS
stores_inside [] all made place word e = absurd (none-some (place, word) e)
stores_inside (Store at what ∷ later) all zero place word e =
    subst (λ (s : ℕ × ℕ). s.0 < SPACE_WORDS) (same_Some (at, what) (place, word) e) (first_has IsInMemory (Store at what) later all)
stores_inside (Store at what ∷ later) all (suc made) place word e = stores_inside later (rest_has IsInMemory (Store at what) later all) made place word e
stores_inside (Call call regs ∷ later) all made place word e = stores_inside later (rest_has IsInMemory (Call call regs) later all) made place word e
stores_inside (Fork child ∷ later) all made place word e = stores_inside later (rest_has IsInMemory (Fork child) later all) made place word e
stores_inside (Reload policy ∷ later) all made place word e = stores_inside later (rest_has IsInMemory (Reload policy) later all) made place word e

body_inside : (o : Option ThreadRow) → ((row : ThreadRow) → o ≡ Some row → All IsInMemory row.body) → All IsInMemory (body_of_row o)
body_inside None all = λ k d inside. absurd (omega (arith, inside))
body_inside (Some row) all = all row refl

row_inside : (rows : List ThreadRow) → All (λ (row : ThreadRow). All IsInMemory row.body) rows → (t : ℕ) (row : ThreadRow) → item_at_number rows t ≡ Some row → All IsInMemory row.body
row_inside rows all zero row e = absurd (none-some row e)
row_inside rows all (suc t) row e = subst (λ (r : ThreadRow). All IsInMemory r.body) (get_or_from_slice_get rows t row row e) (all t row (slice_get_within rows t row e))

-- each store of a thread's body is inside memory
pub stored_inside : (start : Start) → StoresInMemory start → (t made place word : ℕ) → IsNextStore start t made place word → place < SPACE_WORDS
stored_inside start all t made place word next =
    stores_inside (body_of_row (item_at_number start.threads t)) (body_inside (item_at_number start.threads t) (row_inside start.threads all t)) made place word next
