-- The tokens of a text: its Words can be printed as Words, and its quoted texts have no fault.
use Rattle.std.proofs.Common.{zero, suc, ◌≡◌, ℕ, ◌+◌, ◌-◌, ◌<◌, ◌≤◌, Bool, true, false, nat_eq, List, [], ◌∷◌, length, take, drop, Option, None, Some, refl, ap, sym, subst, ◌∙◌, arith, length-take, length-drop, take-take}
use Rattle.std.specs.List.{AllByRecursion, prefix_len, list_all}
use Rattle.std.proofs.lemmas.List.Elements.{recursion_from_All}
use Rattle.st_lex.specs.declared.token.Token.{Token}
use Rattle.st_lex.specs.declared.token.TokenKind.{TokenKind}
use Rattle.st_lex.specs.declared.token.TokenKind.TheVariants.{Word, Quoted, Colon, Comma, Open, Close, OpenBracket, CloseBracket, Equal, NotEqual, Less, Greater, Line}
use Rattle.st_lex.specs.declared.token.LexFault.{LexFault}
use Rattle.st_lex.specs.declared.token.LexFault.TheVariants.{BadByte}
use Rattle.st_lex.specs.declared.token.Lexed.{Lexed}
use Rattle.st_lex.specs.declared.token.Front.{Front}
use Rattle.st_lex.specs.declared.token.Front.TheVariants.{Gap, Piece, Broken}
use Rattle.st_lex.specs.Pieces.{is_word_text}
use Rattle.st_lex.specs.Quoted.{closing_len, inner_fault}
use Rattle.st_lex.specs.Slices.{IsTokenOf}
use Rattle.st_lex.specs.Text.{text_of_token, inside}
use Rattle.st_lex.specs.Tokens.{is_blank, is_word_byte, is_no_newline, sign_of, sign_front, not_equal_front, quoted_front, front_of, line_after, tokens_from, lexed_text}
use Rattle.st_lex.proofs.Insides.{IsInside, Nothing, closed_inside}
use Rattle.st_lex.proofs.Parts.{drop-next, lexed_text-slices}
use Rattle.st_lex.proofs.Runs.{tested, prefix-yes, prefix-no}
use Rattle.st_lex.proofs.Skips.{by_front, tokens_from-front}
use Rattle.st_lex.proofs.Within.{CountWithin, closing_len-within}

-- ---- Words

run_by : (p : ℕ → Bool) (b : ℕ) (bs : List ℕ) (t : Bool) → p b ≡ t → list_all p (take (prefix_len p bs) bs) ≡ true → list_all p (take (prefix_len p (b ∷ bs)) (b ∷ bs)) ≡ true
run_by p b bs true e h =
    let longer : list_all p (take (prefix_len p (b ∷ bs)) (b ∷ bs)) ≡ list_all p (b ∷ take (prefix_len p bs) bs) = ap (λ (n : ℕ). list_all p (take n (b ∷ bs))) (prefix-yes p b bs e) in
    longer ∙ rw e h
run_by p b bs false e h = ap (λ (n : ℕ). list_all p (take n (b ∷ bs))) (prefix-no p b bs e)

-- a run of bytes that pass
run_passes : (p : ℕ → Bool) (bs : List ℕ) → list_all p (take (prefix_len p bs) bs) ≡ true
run_passes p [] = refl
run_passes p (b ∷ bs) = run_by p b bs (p b) refl (run_passes p bs)

is_word_text-all : (bs : List ℕ) → 0 < length bs → list_all is_word_byte bs ≡ true → is_word_text bs ≡ true
is_word_text-all [] h a = absurd (omega arith)
is_word_text-all (b ∷ bs) h a = a

-- the bytes of a Word can be printed as one
abbrev pub IsWholeToken : List ℕ → Token → Type 0
IsWholeToken text token = token.kind ≡ Word → is_word_text (text_of_token text token) ≡ true

whole_token : (text : List ℕ) (token : Token) → IsTokenOf text token → IsWholeToken text token
whole_token text token is w =
    let longest : prefix_len is_word_byte (drop token.at text) ≡ token.len = (is.whole_word w).longest in
    let all : list_all is_word_byte (text_of_token text token) ≡ true = ap (λ (n : ℕ). list_all is_word_byte (take n (drop token.at text))) (sym longest) ∙ run_passes is_word_byte (drop token.at text) in
    is_word_text-all (text_of_token text token) (omega (arith, length-take token.len (drop token.at text), length-drop token.at text, is.some, is.within)) all

each_whole : (text : List ℕ) (ts : List Token) → AllByRecursion (IsTokenOf text) ts → AllByRecursion (IsWholeToken text) ts
each_whole text [] a = tt
each_whole text (t ∷ ts) a = (whole_token text t a.0, each_whole text ts a.1)

pub words_whole : (text : List ℕ) → AllByRecursion (IsWholeToken text) (lexed_text text).tokens
words_whole text = each_whole text (lexed_text text).tokens (recursion_from_All (IsTokenOf text) (lexed_text text).tokens (lexed_text-slices text).each)

-- ---- quoted texts

-- the bytes between the quotes of a quoted text have no fault
abbrev pub HasInside : List ℕ → Token → Type 0
HasInside text token = token.kind ≡ Quoted → IsInside (inside (text_of_token text token))

abbrev QuotesWell : List ℕ → Front → Type 0
QuotesWell bytes (Gap k) = Unit {0}
QuotesWell bytes (Piece kind k) = kind ≡ Quoted → IsInside (inside (take k bytes))
QuotesWell bytes (Broken fault) = Unit {0}

inside-front : (b : ℕ) (bs : List ℕ) (n : ℕ) → n < length bs → inside (take (1 + suc n) (b ∷ bs)) ≡ take n bs
inside-front b bs n h =
    let two : 1 + suc n ≡ suc (suc n) = omega arith in
    let len : length (b ∷ take (suc n) bs) - 2 ≡ n = omega (arith, length-take (suc n) bs, h) in
    ap (λ (k : ℕ). inside (take k (b ∷ bs))) two ∙ ap (λ (k : ℕ). take k (take (suc n) bs)) len ∙ take-take n (suc n) bs (omega arith)

quoted_well : (b : ℕ) (bs : List ℕ) (o : Option ℕ) (f : Option LexFault) → AllByRecursion (λ c. c < 256) bs → closing_len bs ≡ o → inner_fault bs ≡ f → QuotesWell (b ∷ bs) (quoted_front o f)
quoted_well b bs None f small e g = tt
quoted_well b bs (Some n) (Some fault) small e g = tt
quoted_well b bs (Some zero) None small e g = λ _. Nothing
quoted_well b bs (Some (suc n)) None small e g = λ _.
    let within : suc n ≤ length bs = subst (CountWithin (length bs)) e (closing_len-within bs) in
    subst IsInside (sym (inside-front b bs n within)) (closed_inside bs small n e g)

signs_well : (b : ℕ) (bs : List ℕ) → QuotesWell (b ∷ bs) (sign_front (sign_of b))
signs_well b bs =
    let P : Option TokenKind → Type 0 = λ o. QuotesWell (b ∷ bs) (sign_front o) in
    tested P (nat_eq b 10) (Some Line) _ (λ _ w. absurd (cc))
    (λ _. tested P (nat_eq b 58) (Some Colon) _ (λ _ w. absurd (cc))
    (λ _. tested P (nat_eq b 44) (Some Comma) _ (λ _ w. absurd (cc))
    (λ _. tested P (nat_eq b 40) (Some Open) _ (λ _ w. absurd (cc))
    (λ _. tested P (nat_eq b 41) (Some Close) _ (λ _ w. absurd (cc))
    (λ _. tested P (nat_eq b 91) (Some OpenBracket) _ (λ _ w. absurd (cc))
    (λ _. tested P (nat_eq b 93) (Some CloseBracket) _ (λ _ w. absurd (cc))
    (λ _. tested P (nat_eq b 61) (Some Equal) _ (λ _ w. absurd (cc))
    (λ _. tested P (nat_eq b 60) (Some Less) _ (λ _ w. absurd (cc))
    (λ _. tested P (nat_eq b 62) (Some Greater) None (λ _ w. absurd (cc)) (λ _. tt))))))))))

not_equal_well : (b : ℕ) (bs : List ℕ) → QuotesWell (b ∷ bs) (not_equal_front bs)
not_equal_well b [] = tt
not_equal_well b (c ∷ cs) = tested (QuotesWell (b ∷ c ∷ cs)) (nat_eq c 61) (Piece NotEqual 2) (Broken (BadByte 0)) (λ _ w. absurd (cc)) (λ _. tt)

front_well : (b : ℕ) (bs : List ℕ) → AllByRecursion (λ c. c < 256) bs → QuotesWell (b ∷ bs) (front_of (b ∷ bs))
front_well b bs small =
    let P : Front → Type 0 = QuotesWell (b ∷ bs) in
    tested P (is_blank b) (Gap 1) _ (λ _. tt)
    (λ _. tested P (nat_eq b 35) (Gap (1 + prefix_len is_no_newline bs)) _ (λ _. tt)
    (λ _. tested P (is_word_byte b) (Piece Word (1 + prefix_len is_word_byte bs)) _ (λ _ w. absurd (cc))
    (λ _. tested P (nat_eq b 34) (quoted_front (closing_len bs) (inner_fault bs)) _ (λ _. quoted_well b bs (closing_len bs) (inner_fault bs) small refl refl)
    (λ _. tested P (nat_eq b 33) (not_equal_front bs) (sign_front (sign_of b)) (λ _. not_equal_well b bs) (λ _. signs_well b bs)))))

well_by : (text : List ℕ) (at line b : ℕ) (bs : List ℕ) (f : Front) → drop at text ≡ b ∷ bs → ((skip at line : ℕ) → drop at text ≡ bs → AllByRecursion (HasInside text) (tokens_from skip at line bs).tokens) → QuotesWell (b ∷ bs) f → AllByRecursion (HasInside text) (by_front at line bs f).tokens
unfolding by_front
well_by text at line b bs (Gap k) e ih well = ih (k - 1) (at + 1) line (drop-next text at b bs e)
well_by text at line b bs (Piece kind k) e ih well =
    ((λ w. subst (λ (xs : List ℕ). IsInside (inside (take k xs))) (sym e) (well w)), ih (k - 1) (at + 1) (line_after kind line) (drop-next text at b bs e))
well_by text at line b bs (Broken fault) e ih well = tt

quotes_well : (text bytes : List ℕ) → AllByRecursion (λ c. c < 256) bytes → (skip at line : ℕ) → drop at text ≡ bytes → AllByRecursion (HasInside text) (tokens_from skip at line bytes).tokens
quotes_well text [] small skip at line e = tt
quotes_well text (b ∷ bs) small (suc skip) at line e = quotes_well text bs small.1 skip (at + 1) line (drop-next text at b bs e)
quotes_well text (b ∷ bs) small zero at line e =
    subst (λ (x : Lexed). AllByRecursion (HasInside text) x.tokens) (sym (tokens_from-front at line b bs))
    (well_by text at line b bs (front_of (b ∷ bs)) e (quotes_well text bs small.1) (front_well b bs small.1))

pub quotes_inside : (text : List ℕ) → AllByRecursion (λ b. b < 256) text → AllByRecursion (HasInside text) (lexed_text text).tokens
quotes_inside text small = quotes_well text text small 0 0 1 refl
