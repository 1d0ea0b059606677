-- Bytes that overwrite other bytes.
use Rattle.std.proofs.Common.{◌≡◌, ap, sym, ◌∙◌, ℕ, ◌+◌, ◌-◌, ◌<◌, ◌≤◌, List, [], ◌∷◌, ◌++◌, length, take, drop, replicate, append_assoc, inl, inr, arith}
use Rattle.std.proofs.Math.ListN.{drop_of_length-le}
use Rattle.std.proofs.Math.Seq.{take-append-add}
use Rattle.std.proofs.lemmas.Bool.{cases_lt}
use Rattle.std.proofs.lemmas.List.{append-nil, drop-drop, length-append, length-replicate, nil_from_length, take-append-le, take-replicate, take_all}
use Rattle.st_model.specs.Tree.{bytes_after_write}
use borrow.Rule.Slice.PartMut.{put_mid}

-- as many bytes are overwritten, from offset `at` on
pub put_is : (old part new : List ℕ) (at width : ℕ) → width ≡ length part → new ≡ part → put_mid at width old new ≡ take at old ++ part ++ drop (at + length part) old
put_is old part new at width width_is new_is =
    ap (λ (n : ℕ). put_mid at n old new) width_is ∙ ap (put_mid at (length part) old) new_is
    ∙ ap (λ (rest : List ℕ). take at old ++ (part ++ rest)) (drop-drop (length part) at old)
    ∙ sym (append_assoc (take at old) part (drop (at + length part) old))

-- before offset `at`: the bytes from before, and zeros for a gap
front : (before : List ℕ) (at end : ℕ) → at ≤ end → take at (before ++ replicate (end - length before) 0) ≡ take at (before ++ replicate (at - length before) 0)
front before at end low = elim (cases_lt at (length before)) [
  | inl inside ↦ take-append-le at before (replicate (end - length before) 0) (omega (arith, inside)) ∙ sym (take-append-le at before (replicate (at - length before) 0) (omega (arith, inside)))
  | inr past ↦ gap (end - length before) (omega (arith, low)) past ∙ sym (gap (at - length before) (omega arith) past)
] where
  gap : (zeros : ℕ) → at - length before ≤ zeros → length before ≤ at → take at (before ++ replicate zeros 0) ≡ before ++ replicate (at - length before) 0
  gap zeros enough past =
      let at_is : at ≡ length before + (at - length before) = omega arith in
      ap (λ (n : ℕ). take n (before ++ replicate zeros 0)) at_is
      ∙ take-append-add before (replicate zeros 0) (at - length before)
      ∙ ap (λ (rest : List ℕ). before ++ rest) (take-replicate (at - length before) zeros 0 enough)

zero_length : (zeros : ℕ) → length {A = ℕ} (replicate zeros 0) ≡ zeros
zero_length zeros = length-replicate zeros 0

-- after the end: the bytes from before
back : (before : List ℕ) (end : ℕ) → drop end (before ++ replicate (end - length before) 0) ≡ drop end before
back before end = elim (cases_lt end (length before)) [
  | inl inside ↦
      let none : replicate (end - length before) 0 ≡ [] = nil_from_length (replicate (end - length before) 0) (omega (arith, zero_length (end - length before))) in
      ap (λ (zeros : List ℕ). drop end (before ++ zeros)) none ∙ ap (drop end) (append-nil before)
  | inr past ↦
      drop_of_length-le (before ++ replicate (end - length before) 0) (omega (arith, length-append before (replicate (end - length before) 0), zero_length (end - length before)))
      ∙ sym (drop_of_length-le before past)
]

-- new bytes overwrite bytes that were extended with zeros, if needed, up to the end of the new bytes
pub overwritten_is : (before new long : List ℕ) (at len : ℕ) → 0 < length new → length before ≤ len → len - length before ≡ at + length new - length before → long ≡ take len before ++ replicate (len - length before) 0
    → take at long ++ new ++ drop (at + length new) long ≡ bytes_after_write before at new
overwritten_is before [] long at len some larger zeros long_is = absurd (omega (arith, some))
overwritten_is before (byte ∷ bytes) long at len some larger zeros long_is =
    let new : List ℕ = byte ∷ bytes in
    let end : ℕ = at + length new in
    let is : long ≡ before ++ replicate (end - length before) 0 =
    long_is ∙ ap (λ (old : List ℕ). old ++ replicate (len - length before) 0) (take_all len before larger) ∙ ap (λ (n : ℕ). before ++ replicate n 0) zeros in
    ap (λ (bs : List ℕ). take at bs ++ new ++ drop end bs) is
    ∙ ap (λ (bs : List ℕ). bs ++ new ++ drop end (before ++ replicate (end - length before) 0)) (front before at end (omega arith))
    ∙ ap (λ (bs : List ℕ). take at (before ++ replicate (at - length before) 0) ++ new ++ bs) (back before end)
