-- Texts that are written prefix by prefix.
use Rattle.std.proofs.Common.{◌≡◌, ℕ, ◌+◌, ◌≤◌, List, ◌++◌, length, take, drop, refl, sym, ◌∙◌, ap, append_assoc, arith, length-drop, Option, Some, None}
use Rattle.std.proofs.Math.Seq.{take-add, take-length}
use Rattle.std.specs.List.{slice_range}
use Rattle.std.specs.Prelude.{option_map}
use Rattle.st_outside.specs.Sink.{Appends}

option_map-twice : (a : Option (List ℕ)) (p q : List ℕ) → option_map (λ bytes. bytes ++ q) (option_map (λ bytes. bytes ++ p) a) ≡ option_map (λ bytes. bytes ++ (p ++ q)) a
option_map-twice None p q = refl
option_map-twice (Some bytes) p q = ap Some (append_assoc bytes p q)

-- appending one piece and then another appends their concatenation
Appends-twice : (a b c : Option (List ℕ)) (p q : List ℕ) → Appends a b p → Appends b c q → Appends a c (p ++ q)
Appends-twice a b c p q first second =
    second ∙ ap (option_map (λ bytes. bytes ++ q)) first ∙ option_map-twice a p q

rest : (text : List ℕ) (n : ℕ) → slice_range text n (length text) ≡ drop n text
rest text n = ap (λ k. take k (drop n text)) (sym (length-drop n text)) ∙ take-length (drop n text)

-- appending a prefix of the text and then a prefix of the rest appends one longer prefix
pub Appends-more : (a b c : Option (List ℕ)) (text : List ℕ) (n m : ℕ) → Appends a b (take n text) → Appends b c (take m (slice_range text n (length text))) → Appends a c (take (n + m) text)
Appends-more a b c text n m first second =
    let next : take n text ++ take m (slice_range text n (length text)) ≡ take (n + m) text =
    ap (λ left. take n text ++ take m left) (rest text n) ∙ sym (take-add n m text) in
    Appends-twice a b c (take n text) (take m (slice_range text n (length text))) first second ∙
    ap (λ piece. option_map (λ bytes. bytes ++ piece) a) next

pub within_more : (text : List ℕ) (n m : ℕ) → n ≤ length text → m ≤ length (slice_range text n (length text)) → n + m ≤ length text
within_more text n m within more = omega (arith, ap length (rest text n), length-drop n text)
