-- The search for the closing quote and the first fault of a quoted text, byte by byte.
use Rattle.std.proofs.Common.{◌≡◌, ℕ, ◌+◌, ◌-◌, ◌<◌, ◌≤◌, ◌≢◌, Bool, true, false, List, [], ◌∷◌, length, drop, get_or, None, Some, refl, ap, sym, ◌∙◌, arith, nat_eq}
use Rattle.std.proofs.lemmas.List.{drop_more, drop_all}
use Rattle.std.proofs.lemmas.Bool.Decides.{nat_tests}
use Rattle.st_lex.specs.declared.token.LexFault.TheVariants.{BadByte, BadEscape}
use Rattle.st_lex.specs.Quoted.{closing_len, count_after, inner_fault, optional_fault_after, is_byte_escape}
use Rattle.st_lex.proofs.Distances.{further-further, further-zero, later-later, later-zero}

-- a scan at this offset, escaped by a backslash before it or not, has found no closing quote so far
abbrev pub Closes : Bool → List ℕ → ℕ → Type 0
Closes false bytes i = closing_len bytes ≡ count_after i (closing_len (drop i bytes))
Closes true bytes i = (k : ℕ) × (k + 1 ≡ i) × (closing_len bytes ≡ count_after k (closing_len (92 ∷ drop i bytes)))

pub closing_len-quote : (bs : List ℕ) → closing_len (34 ∷ bs) ≡ Some 1
closing_len-quote [] = refl
closing_len-quote (b ∷ bs) = refl

pub closing_len-newline : (bs : List ℕ) → closing_len (10 ∷ bs) ≡ None
closing_len-newline [] = refl
closing_len-newline (b ∷ bs) = refl

pub closing_len-plain : (b : ℕ) (bs : List ℕ) → b ≢ 34 → b ≢ 10 → b ≢ 92 → closing_len (b ∷ bs) ≡ count_after 1 (closing_len bs)
closing_len-plain b [] q n s = grind (arith, nat_tests)
closing_len-plain b (c ∷ cs) q n s = grind (arith, nat_tests)

pub closing_len-pair : (b : ℕ) (bs : List ℕ) → b ≢ 10 → closing_len (92 ∷ b ∷ bs) ≡ count_after 2 (closing_len bs)
closing_len-pair b bs n = grind (arith, nat_tests)

at_place : (bytes : List ℕ) (i b : ℕ) → i < length bytes → get_or bytes i 0 ≡ b → drop i bytes ≡ b ∷ drop (i + 1) bytes
at_place bytes i b inside is = drop_more bytes i 0 inside ∙ ap (λ (v : ℕ). v ∷ drop (i + 1) bytes) is

pub Closes-start : (bytes : List ℕ) → Closes false bytes 0
Closes-start bytes = sym (further-zero (closing_len bytes))

-- after a backslash any byte but a newline ends the pair
following : (bytes : List ℕ) (i : ℕ) → i < length bytes → get_or bytes i 0 ≢ 10 → Closes true bytes i → Closes false bytes (i + 1)
following bytes i inside n c =
    let e : closing_len (92 ∷ drop i bytes) ≡ count_after 2 (closing_len (drop (i + 1) bytes)) = ap (λ (x : List ℕ). closing_len (92 ∷ x)) (at_place bytes i (get_or bytes i 0) inside refl) ∙ closing_len-pair (get_or bytes i 0) (drop (i + 1) bytes) n in
    let k : c.0 + 2 ≡ i + 1 = omega (arith, c.1) in
    c.2 ∙ ap (count_after c.0) e ∙ further-further c.0 2 (closing_len (drop (i + 1) bytes)) ∙ ap (λ (m : ℕ). count_after m (closing_len (drop (i + 1) bytes))) k

pub Closes-after : (escaped next : Bool) (bytes : List ℕ) (i : ℕ) → i < length bytes → get_or bytes i 0 ≢ 10 → escaped ≡ true → next ≡ false → Closes escaped bytes i → Closes next bytes (i + 1)
Closes-after true false bytes i inside n e f c = following bytes i inside n c
Closes-after true true bytes i inside n e f c = absurd (cc)
Closes-after false next bytes i inside n e f c = absurd (cc)

-- a byte that is no quote and no newline is plain, or begins a pair
pub Closes-plain : (escaped next : Bool) (bytes : List ℕ) (i : ℕ) → i < length bytes → get_or bytes i 0 ≢ 10 → get_or bytes i 0 ≢ 34 → escaped ≡ false → next ≡ nat_eq (get_or bytes i 0) 92 → Closes escaped bytes i → Closes next bytes (i + 1)
Closes-plain true next bytes i inside n q e is c = absurd (cc)
Closes-plain false true bytes i inside n q e is c =
    let b : get_or bytes i 0 ≡ 92 = grind (arith, nat_tests) in
    (i, refl, c ∙ ap (λ (x : List ℕ). count_after i (closing_len x)) (at_place bytes i 92 inside b))
Closes-plain false false bytes i inside n q e is c =
    let b : get_or bytes i 0 ≢ 92 = grind (arith, nat_tests) in
    let f : closing_len (drop i bytes) ≡ count_after 1 (closing_len (drop (i + 1) bytes)) = ap closing_len (at_place bytes i (get_or bytes i 0) inside refl) ∙ closing_len-plain (get_or bytes i 0) (drop (i + 1) bytes) q n b in
    c ∙ ap (count_after i) f ∙ further-further i 1 (closing_len (drop (i + 1) bytes))

-- a newline ends the search
pub Closes-newline : (escaped : Bool) (bytes : List ℕ) (i : ℕ) → i < length bytes → get_or bytes i 0 ≡ 10 → Closes escaped bytes i → closing_len bytes ≡ None
Closes-newline false bytes i inside n c = c ∙ ap (λ (x : List ℕ). count_after i (closing_len x)) (at_place bytes i 10 inside n) ∙ ap (count_after i) (closing_len-newline (drop (i + 1) bytes))
Closes-newline true bytes i inside n c = c.2 ∙ ap (λ (x : List ℕ). count_after c.0 (closing_len (92 ∷ x))) (at_place bytes i 10 inside n)

pub Closes-quote : (escaped : Bool) (bytes : List ℕ) (i : ℕ) → i < length bytes → get_or bytes i 0 ≡ 34 → escaped ≡ false → Closes escaped bytes i → closing_len bytes ≡ Some (i + 1)
Closes-quote true bytes i inside q e c = absurd (cc)
Closes-quote false bytes i inside q e c = c ∙ ap (λ (x : List ℕ). count_after i (closing_len x)) (at_place bytes i 34 inside q) ∙ ap (count_after i) (closing_len-quote (drop (i + 1) bytes))

pub Closes-end : (escaped : Bool) (bytes : List ℕ) (i : ℕ) → length bytes ≤ i → Closes escaped bytes i → closing_len bytes ≡ None
Closes-end false bytes i past c = let e : drop i bytes ≡ [] = drop_all i bytes past in c ∙ ap (λ (x : List ℕ). count_after i (closing_len x)) e
Closes-end true bytes i past c = let e : drop i bytes ≡ [] = drop_all i bytes past in c.2 ∙ ap (λ (x : List ℕ). count_after c.0 (closing_len (92 ∷ x))) e

-- a scan at this offset, escaped by a backslash before it or not, has found no fault so far
abbrev pub Faults : Bool → List ℕ → ℕ → Type 0
Faults false bytes i = inner_fault bytes ≡ optional_fault_after i (inner_fault (drop i bytes))
Faults true bytes i = (k : ℕ) × (k + 1 ≡ i) × (inner_fault bytes ≡ optional_fault_after k (inner_fault (92 ∷ drop i bytes)))

pub inner_fault-quote : (bs : List ℕ) → inner_fault (34 ∷ bs) ≡ None
inner_fault-quote [] = refl
inner_fault-quote (b ∷ bs) = refl

pub inner_fault-zero : (bs : List ℕ) → inner_fault (0 ∷ bs) ≡ Some (BadByte 0)
inner_fault-zero [] = refl
inner_fault-zero (b ∷ bs) = refl

pub inner_fault-plain : (b : ℕ) (bs : List ℕ) → b ≢ 34 → b ≢ 0 → b ≢ 92 → inner_fault (b ∷ bs) ≡ optional_fault_after 1 (inner_fault bs)
inner_fault-plain b [] q n s = grind (arith, nat_tests)
inner_fault-plain b (c ∷ cs) q n s = grind (arith, nat_tests)

pub inner_fault-pair : (b : ℕ) (bs : List ℕ) → b ≢ 0 → (b ≡ 120 → is_byte_escape bs ≡ true) → inner_fault (92 ∷ b ∷ bs) ≡ optional_fault_after 2 (inner_fault bs)
inner_fault-pair b bs n x = grind (arith, nat_tests)

pub inner_fault-escape : (bs : List ℕ) → is_byte_escape bs ≡ false → inner_fault (92 ∷ 120 ∷ bs) ≡ Some (BadEscape 0)
inner_fault-escape bs x = grind (arith, nat_tests)

pub Faults-start : (bytes : List ℕ) → Faults false bytes 0
Faults-start bytes = sym (later-zero (inner_fault bytes))

faults_after : (bytes : List ℕ) (i : ℕ) → i < length bytes → get_or bytes i 0 ≢ 0 → (get_or bytes i 0 ≡ 120 → is_byte_escape (drop (i + 1) bytes) ≡ true) → Faults true bytes i → Faults false bytes (i + 1)
faults_after bytes i inside n x c =
    let e : inner_fault (92 ∷ drop i bytes) ≡ optional_fault_after 2 (inner_fault (drop (i + 1) bytes)) = ap (λ (x : List ℕ). inner_fault (92 ∷ x)) (at_place bytes i (get_or bytes i 0) inside refl) ∙ inner_fault-pair (get_or bytes i 0) (drop (i + 1) bytes) n x in
    let k : c.0 + 2 ≡ i + 1 = omega (arith, c.1) in
    c.2 ∙ ap (optional_fault_after c.0) e ∙ later-later c.0 2 (inner_fault (drop (i + 1) bytes)) ∙ ap (λ (m : ℕ). optional_fault_after m (inner_fault (drop (i + 1) bytes))) k

pub Faults-after : (escaped next : Bool) (bytes : List ℕ) (i : ℕ) → i < length bytes → get_or bytes i 0 ≢ 0 → (get_or bytes i 0 ≡ 120 → is_byte_escape (drop (i + 1) bytes) ≡ true) → escaped ≡ true → next ≡ false → Faults escaped bytes i → Faults next bytes (i + 1)
Faults-after true false bytes i inside n x e f c = faults_after bytes i inside n x c
Faults-after true true bytes i inside n x e f c = absurd (cc)
Faults-after false next bytes i inside n x e f c = absurd (cc)

pub Faults-plain : (escaped next : Bool) (bytes : List ℕ) (i : ℕ) → i < length bytes → get_or bytes i 0 ≢ 0 → get_or bytes i 0 ≢ 34 → escaped ≡ false → next ≡ nat_eq (get_or bytes i 0) 92 → Faults escaped bytes i → Faults next bytes (i + 1)
Faults-plain true next bytes i inside n q e is c = absurd (cc)
Faults-plain false true bytes i inside n q e is c =
    let b : get_or bytes i 0 ≡ 92 = grind (arith, nat_tests) in
    (i, refl, c ∙ ap (λ (x : List ℕ). optional_fault_after i (inner_fault x)) (at_place bytes i 92 inside b))
Faults-plain false false bytes i inside n q e is c =
    let b : get_or bytes i 0 ≢ 92 = grind (arith, nat_tests) in
    let f : inner_fault (drop i bytes) ≡ optional_fault_after 1 (inner_fault (drop (i + 1) bytes)) = ap inner_fault (at_place bytes i (get_or bytes i 0) inside refl) ∙ inner_fault-plain (get_or bytes i 0) (drop (i + 1) bytes) q n b in
    c ∙ ap (optional_fault_after i) f ∙ later-later i 1 (inner_fault (drop (i + 1) bytes))

pub Faults-zero : (escaped : Bool) (bytes : List ℕ) (i : ℕ) → i < length bytes → get_or bytes i 0 ≡ 0 → Faults escaped bytes i → inner_fault bytes ≡ Some (BadByte i)
Faults-zero false bytes i inside n c = c ∙ ap (λ (x : List ℕ). optional_fault_after i (inner_fault x)) (at_place bytes i 0 inside n) ∙ ap (optional_fault_after i) (inner_fault-zero (drop (i + 1) bytes)) ∙ ap (λ (m : ℕ). Some (BadByte m)) (omega arith)
Faults-zero true bytes i inside n c = c.2 ∙ ap (λ (x : List ℕ). optional_fault_after c.0 (inner_fault (92 ∷ x))) (at_place bytes i 0 inside n) ∙ ap (λ (m : ℕ). Some (BadByte m)) (omega (arith, c.1))

pub Faults-escape : (escaped : Bool) (bytes : List ℕ) (i : ℕ) → i < length bytes → get_or bytes i 0 ≡ 120 → is_byte_escape (drop (i + 1) bytes) ≡ false → escaped ≡ true → Faults escaped bytes i → inner_fault bytes ≡ Some (BadEscape (i - 1))
Faults-escape false bytes i inside x h e c = absurd (cc)
Faults-escape true bytes i inside x h e c = c.2 ∙ ap (λ (x : List ℕ). optional_fault_after c.0 (inner_fault (92 ∷ x))) (at_place bytes i 120 inside x) ∙ ap (optional_fault_after c.0) (inner_fault-escape (drop (i + 1) bytes) h) ∙ ap (λ (m : ℕ). Some (BadEscape m)) (omega (arith, c.1))

pub Faults-pending : (escaped : Bool) (bytes : List ℕ) (i : ℕ) → escaped ≡ true → Faults escaped bytes i → 1 ≤ i
Faults-pending false bytes i e c = absurd (cc)
Faults-pending true bytes i e c = omega (arith, c.1)

pub Faults-quote : (escaped : Bool) (bytes : List ℕ) (i : ℕ) → i < length bytes → get_or bytes i 0 ≡ 34 → escaped ≡ false → Faults escaped bytes i → inner_fault bytes ≡ None
Faults-quote true bytes i inside q e c = absurd (cc)
Faults-quote false bytes i inside q e c = c ∙ ap (λ (x : List ℕ). optional_fault_after i (inner_fault x)) (at_place bytes i 34 inside q) ∙ ap (optional_fault_after i) (inner_fault-quote (drop (i + 1) bytes))

pub Faults-end : (escaped : Bool) (bytes : List ℕ) (i : ℕ) → length bytes ≤ i → Faults escaped bytes i → inner_fault bytes ≡ None
Faults-end false bytes i past c = let e : drop i bytes ≡ [] = drop_all i bytes past in c ∙ ap (λ (x : List ℕ). optional_fault_after i (inner_fault x)) e
Faults-end true bytes i past c = let e : drop i bytes ≡ [] = drop_all i bytes past in c.2 ∙ ap (λ (x : List ℕ). optional_fault_after c.0 (inner_fault (92 ∷ x))) e
