-- The front of a text is within the text.
use Rattle.std.proofs.Common.{◌≡◌, ℕ, ◌+◌, ◌<◌, ◌≤◌, Bool, true, false, List, [], ◌∷◌, length, Option, None, Some, refl, arith, nat_eq, cond}
use Rattle.std.specs.List.{prefix_len}
use Rattle.std.proofs.lemmas.List.Sums.{prefix_len-le-length}
use Rattle.st_lex.specs.declared.token.LexFault.{LexFault}
use Rattle.st_lex.specs.declared.token.LexFault.TheVariants.{BadByte, OpenQuote, BadEscape}
use Rattle.st_lex.specs.declared.token.Front.{Front}
use Rattle.st_lex.specs.declared.token.Front.TheVariants.{Gap, Piece, Broken}
use Rattle.st_lex.specs.declared.token.TokenKind.{TokenKind}
use Rattle.st_lex.specs.declared.token.TokenKind.TheVariants.{Word, NotEqual}
use Rattle.st_lex.specs.Quoted.{closing_len, count_after, inner_fault, optional_fault_after, shifted_fault, place_of}
use Rattle.st_lex.specs.Tokens.{IsFrontWithin, front_of, is_blank, is_word_byte, is_no_newline, sign_of, sign_front, quoted_front, not_equal_front}

-- a property of both values is a property of the chosen value
chosen : {A : Type 0} (P : A → Type 0) (b : Bool) (x y : A) → P x → P y → P (cond b x y)
chosen P true x y px py = px
chosen P false x y px py = py

abbrev pub CountWithin : ℕ → Option ℕ → Type 0
CountWithin n None = Unit {0}
CountWithin n (Some k) = k ≤ n

further-within : (k n m : ℕ) (o : Option ℕ) → m ≡ k + n → CountWithin n o → CountWithin m (count_after k o)
further-within k n m None e h = tt
further-within k n m (Some x) e h = omega arith

-- the closing quote is within the text
pub closing_len-within : (bs : List ℕ) → CountWithin (length bs) (closing_len bs)
closing_len-within [] = tt
closing_len-within (b ∷ []) = chosen (CountWithin 1) (nat_eq b 34) (Some 1) None (omega arith) tt
closing_len-within (b ∷ c ∷ cs) =
    let P : Option ℕ → Type 0 = CountWithin (length (b ∷ c ∷ cs)) in
    let pair : P (count_after 2 (closing_len cs)) = further-within 2 (length cs) (length (b ∷ c ∷ cs)) (closing_len cs) (omega arith) (closing_len-within cs) in
    let plain : P (count_after 1 (closing_len (c ∷ cs))) = further-within 1 (length (c ∷ cs)) (length (b ∷ c ∷ cs)) (closing_len (c ∷ cs)) (omega arith) (closing_len-within (c ∷ cs)) in
    let one : P (Some 1) = omega arith in
    chosen P (nat_eq b 34) (Some 1) _ one (chosen P (nat_eq b 10) None _ tt (chosen P (nat_eq b 92) _ _ (chosen P (nat_eq c 10) None _ tt pair) plain))

abbrev pub FaultWithin : ℕ → Option LexFault → Type 0
FaultWithin n None = Unit {0}
FaultWithin n (Some fault) = place_of fault < n

pub place_of-moved : (k : ℕ) (fault : LexFault) → place_of (shifted_fault k fault) ≡ k + place_of fault
place_of-moved k (BadByte n) = refl
place_of-moved k (OpenQuote n) = refl
place_of-moved k (BadEscape n) = refl

later-within : (k n m : ℕ) (o : Option LexFault) → m ≡ k + n → FaultWithin n o → FaultWithin m (optional_fault_after k o)
later-within k n m None e h = tt
later-within k n m (Some x) e h = omega (arith, place_of-moved k x)

pub inner_fault-within : (bs : List ℕ) → FaultWithin (length bs) (inner_fault bs)
inner_fault-within [] = tt
inner_fault-within (b ∷ []) = chosen (FaultWithin 1) (nat_eq b 0) (Some (BadByte 0)) None (omega arith) tt
inner_fault-within (b ∷ c ∷ cs) =
    let P : Option LexFault → Type 0 = FaultWithin (length (b ∷ c ∷ cs)) in
    let pair : P (optional_fault_after 2 (inner_fault cs)) = later-within 2 (length cs) (length (b ∷ c ∷ cs)) (inner_fault cs) (omega arith) (inner_fault-within cs) in
    let plain : P (optional_fault_after 1 (inner_fault (c ∷ cs))) = later-within 1 (length (c ∷ cs)) (length (b ∷ c ∷ cs)) (inner_fault (c ∷ cs)) (omega arith) (inner_fault-within (c ∷ cs)) in
    let first : P (Some (BadByte 0)) = omega arith in
    let second : P (Some (BadByte 1)) = omega arith in
    let escape : P (Some (BadEscape 0)) = omega arith in
    chosen P (nat_eq b 34) None _ tt (chosen P (nat_eq b 0) (Some (BadByte 0)) _ first (chosen P (nat_eq b 92) _ _ (chosen P (nat_eq c 0) (Some (BadByte 1)) _ second (chosen P _ (Some (BadEscape 0)) _ escape pair)) plain))

pub quoted_front-within : (n : ℕ) (o : Option ℕ) (f : Option LexFault) → CountWithin n o → FaultWithin n f → IsFrontWithin (n + 1) (quoted_front o f)
quoted_front-within n None f h g = omega arith
quoted_front-within n (Some k) None h g = (omega arith, omega arith)
quoted_front-within n (Some k) (Some fault) h g = omega (arith, place_of-moved 1 fault)

sign_front-within : (n : ℕ) (o : Option TokenKind) → IsFrontWithin (n + 1) (sign_front o)
sign_front-within n None = omega arith
sign_front-within n (Some kind) = (omega arith, omega arith)

not_equal_front-within : (bs : List ℕ) → IsFrontWithin (length bs + 1) (not_equal_front bs)
not_equal_front-within [] = omega arith
not_equal_front-within (b ∷ bs) =
    let P : Front → Type 0 = IsFrontWithin (length (b ∷ bs) + 1) in
    let two : P (Piece NotEqual 2) = (omega arith, omega arith) in
    let bad : P (Broken (BadByte 0)) = omega arith in
    chosen P (nat_eq b 61) _ _ two bad

pub front_of-within : (b : ℕ) (bs : List ℕ) → IsFrontWithin (length bs + 1) (front_of (b ∷ bs))
front_of-within b bs =
    let P : Front → Type 0 = IsFrontWithin (length bs + 1) in
    let blank : P (Gap 1) = (omega arith, omega arith) in
    let comment : P (Gap (1 + prefix_len is_no_newline bs)) = (omega arith, omega (arith, prefix_len-le-length is_no_newline bs)) in
    let word : P (Piece Word (1 + prefix_len is_word_byte bs)) = (omega arith, omega (arith, prefix_len-le-length is_word_byte bs)) in
    chosen P (is_blank b) _ _ blank (chosen P (nat_eq b 35) _ _ comment (chosen P (is_word_byte b) _ _ word (chosen P (nat_eq b 34) _ _ (quoted_front-within (length bs) (closing_len bs) (inner_fault bs) (closing_len-within bs) (inner_fault-within bs)) (chosen P (nat_eq b 33) _ _ (not_equal_front-within bs) (sign_front-within (length bs) (sign_of b))))))
