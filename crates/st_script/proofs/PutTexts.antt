-- The stores that put a text into memory, one after the other.
use Rattle.std.proofs.Common.{◌≡◌, ℕ, ◌+◌, List, [], ◌∷◌, ◌++◌, map, ap, sym, ◌∙◌, arith}
use Rattle.std.proofs.lemmas.List.{append_assoc}
use Rattle.std.proofs.lemmas.List.FromFn.{map-range_with_len_more}
use Rattle.std.specs.Prelude.{slice_index}
use Rattle.std.specs.List.{range_with_len}
use Rattle.st_model.specs.Memory.{word_of}
use Rattle.st_statements.specs.Lines.{saturated}
use Rattle.st_script.specs.Reading.{store_of}
use Rattle.st_trace.specs.declared.start.Instr.{Instr}
use Rattle.st_trace.specs.declared.start.Instr.TheVariants.{Store}

-- one more store
pub stores-more : (first : ℕ) (bytes : List ℕ) (i place word : ℕ) (old now more : List Instr) → now ≡ old ++ map (store_of first bytes) (range_with_len 0 i) → place ≡ saturated (first + i) → word ≡ word_of (slice_index bytes) i → more ≡ now ++ Store place word ∷ [] → more ≡ old ++ map (store_of first bytes) (range_with_len 0 (i + 1))
stores-more first bytes i place word old now more so_far at next is =
    let f : ℕ → Instr = store_of first bytes in
    is ∙ (λ k. so_far k ++ Store (at k) (next k) ∷ []) ∙ append_assoc old (map f (range_with_len 0 i)) (f i ∷ []) ∙ ap (λ xs. old ++ xs) (sym (map-range_with_len_more f 0 i i (omega arith)))
