-- Texts whose last line has its newline, cut at the first newline.
use Rattle.memchr.specs.Find.{IsFirstByte, is_byte}
use Rattle.std.proofs.Common.{suc, ◌≡◌, ◌≢◌, ℕ, ◌+◌, ◌<◌, ◌≤◌, Bool, true, false, ◌==◌, cond, List, [], ◌∷◌, ◌++◌, length, take, drop, get_or, Option, Some, None, refl, ap, sym, subst, ◌∙◌, append_assoc, arith}
use Rattle.std.proofs.lemmas.Bool.{eqb-true, false_from_ne_true}
use Rattle.std.proofs.lemmas.List.{take_at, drop_at, length-append}
use Rattle.std.proofs.lemmas.List.Sums.{position_or_len_is, prefix_len-le-length}
use Rattle.std.specs.List.{list_all, prefix_len}
use Rattle.std.specs.Prelude.{unwrap_or}
use Rattle.st_lex.specs.Quoted.{newline}
use Rattle.st_lex.specs.Tokens.{is_no_newline}
use Rattle.st_readtrace.specs.Lines.{IsLineOf, after_first_line, closed, first_line}
use Rattle.st_fields.proofs.Fronts.{front_len}

-- the first line has no newline
pub first-plain : (text : List ℕ) → list_all is_no_newline (first_line text) ≡ true
first-plain [] = refl
first-plain (b ∷ text) = by (b == newline) refl (first-plain text) where
  by : (is : Bool) → (b == newline) ≡ is → list_all is_no_newline (first_line text) ≡ true → list_all is_no_newline (first_line (b ∷ text)) ≡ true
  by true e more = rw e refl
  by false e more =
      let one : 1 + prefix_len is_no_newline text ≡ suc (prefix_len is_no_newline text) = omega arith in
      rw (e, one, e) more

pub closed-cons : (b c : ℕ) (text : List ℕ) → closed (b ∷ c ∷ text) ≡ b ∷ closed (c ∷ text)
closed-cons b c text = refl

later_len : (b : ℕ) (text : List ℕ) → (b == newline) ≡ false → prefix_len is_no_newline (b ∷ text) ≡ suc (prefix_len is_no_newline text)
later_len b text e = let one : 1 + prefix_len is_no_newline text ≡ suc (prefix_len is_no_newline text) = omega arith in rw e one

cut_later : (b : ℕ) (text : List ℕ) (n : ℕ) → take (suc n) (b ∷ text) ++ newline ∷ closed (drop (suc n + 1) (b ∷ text)) ≡ b ∷ (take n text ++ newline ∷ closed (drop (n + 1) text))
cut_later b text n =
    let s : suc n + 1 ≡ suc (n + 1) = omega arith in
    ap (λ (k : ℕ). (b ∷ take n text) ++ newline ∷ closed (drop k (b ∷ text))) s

cut_by : (b : ℕ) (text : List ℕ) (is : Bool) → (b == newline) ≡ is →
    (text ≢ [] → closed text ≡ first_line text ++ newline ∷ closed (after_first_line text)) →
    closed (b ∷ text) ≡ first_line (b ∷ text) ++ newline ∷ closed (after_first_line (b ∷ text))
cut_by b [] true e more = let same : b ≡ newline = eqb-true b newline e in rw e (ap (λ (x : ℕ). x ∷ []) same)
cut_by b [] false e more = rw e refl
cut_by b (c ∷ text) true e more = let same : b ≡ newline = eqb-true b newline e in rw e (ap (λ (x : ℕ). x ∷ closed (c ∷ text)) same)
cut_by b (c ∷ text) false e more =
    let n : ℕ = prefix_len is_no_newline (c ∷ text) in
    let one : prefix_len is_no_newline (b ∷ c ∷ text) ≡ suc n = later_len b (c ∷ text) e in
    ap (λ (xs : List ℕ). b ∷ xs) (more (λ is. cc)) ∙ sym (cut_later b (c ∷ text) n) ∙ sym (ap (λ (k : ℕ). take k (b ∷ c ∷ text) ++ newline ∷ closed (drop (k + 1) (b ∷ c ∷ text))) one)

-- a text that isn't empty is its first line, with its newline, and what follows
pub closed-cut : (text : List ℕ) → text ≢ [] → closed text ≡ first_line text ++ newline ∷ closed (after_first_line text)
closed-cut [] some = absurd (some refl)
closed-cut (b ∷ text) some = cut_by b text (b == newline) refl (λ more. closed-cut text more)

pub closed-some : (text : List ℕ) → text ≢ [] → closed text ≢ []
closed-some [] some = absurd (some refl)
closed-some (b ∷ []) some = closed_by (b == newline) where
  closed_by : (is : Bool) → cond is (b ∷ []) (b ∷ newline ∷ []) ≢ []
  closed_by true = λ e. cc
  closed_by false = λ e. cc
closed-some (b ∷ c ∷ text) some = λ e. cc

-- two ways to cut at the first newline are one
pub one_cut : (one other more rest : List ℕ) → list_all is_no_newline one ≡ true → list_all is_no_newline other ≡ true → one ++ newline ∷ more ≡ other ++ newline ∷ rest → (one ≡ other) × (more ≡ rest)
one_cut one other more rest plain same e =
    let first : prefix_len is_no_newline (one ++ newline ∷ more) ≡ length one = front_len is_no_newline one (newline ∷ more) plain refl in
    let second : prefix_len is_no_newline (other ++ newline ∷ rest) ≡ length other = front_len is_no_newline other (newline ∷ rest) same refl in
    let len : length one ≡ length other = sym first ∙ ap (prefix_len is_no_newline) e ∙ second in
    let front : one ≡ other = sym (take_at one (newline ∷ more) (length other) len) ∙ ap (take (length other)) e ∙ take_at other (newline ∷ rest) (length other) refl in
    let back : newline ∷ more ≡ newline ∷ rest = sym (drop_at one (newline ∷ more) (length other) len) ∙ ap (drop (length other)) e ∙ drop_at other (newline ∷ rest) (length other) refl in
    (front, cc)

-- the text of whole lines is closed
pub closed-whole : (front rest : List ℕ) → closed rest ≡ rest → closed (front ++ newline ∷ rest) ≡ front ++ newline ∷ rest
closed-whole [] [] e = refl
closed-whole [] (b ∷ rest) e = ap (λ (xs : List ℕ). newline ∷ xs) e
closed-whole (b ∷ []) rest e = ap (λ (xs : List ℕ). b ∷ xs) (closed-whole [] rest e)
closed-whole (b ∷ c ∷ front) rest e = ap (λ (xs : List ℕ). b ∷ xs) (closed-whole (c ∷ front) rest e)

-- ---- the next line

-- the first newline is where a search for a newline ends
pub newline_found : (text : List ℕ) (found : Option ℕ) → IsFirstByte (is_byte newline) text found → unwrap_or found (length text) ≡ prefix_len is_no_newline text
newline_found text None nowhere =
    sym (position_or_len_is (is_byte newline) text (length text) 0 (omega arith) (λ k below. false_from_ne_true (is_byte newline (get_or text k 0)) (nowhere k (omega arith) below)) (λ below. absurd (omega arith)))
newline_found text (Some at) first =
    let within : at < length text = first.0.high in
    sym (position_or_len_is (is_byte newline) text at 0 (omega arith) (λ k below. false_from_ne_true (is_byte newline (get_or text k 0)) (first.0.before k (omega arith) below)) (λ _. first.1))

pub found_within : (text : List ℕ) (at : ℕ) → at ≡ prefix_len is_no_newline text → at ≤ length text
found_within text at is = omega (arith, is, prefix_len-le-length is_no_newline text)

-- the bytes after a line and its newline
after_of_cut : (line rest : List ℕ) → list_all is_no_newline line ≡ true → after_first_line (line ++ newline ∷ rest) ≡ rest
after_of_cut line rest plain =
    ap (λ (n : ℕ). drop (n + 1) (line ++ newline ∷ rest)) (front_len is_no_newline line (newline ∷ rest) plain refl)
    ∙ ap (drop (length line + 1)) (sym (append_assoc line (newline ∷ []) rest)) ∙ drop_at (line ++ newline ∷ []) rest (length line + 1) (length-append line (newline ∷ []))

after_of_closed : (text : List ℕ) → text ≢ [] → after_first_line (closed text) ≡ closed (after_first_line text)
after_of_closed text some = ap after_first_line (closed-cut text some) ∙ after_of_cut (first_line text) (closed (after_first_line text)) (first-plain text)

closed_one : (b : ℕ) (is : Bool) → prefix_len is_no_newline (cond is (b ∷ []) (b ∷ newline ∷ [])) ≡ prefix_len is_no_newline (b ∷ [])
closed_one b true = refl
closed_one b false = refl

-- a newline at the end leaves the first line as long as it was
closed_len : (text : List ℕ) → prefix_len is_no_newline (closed text) ≡ prefix_len is_no_newline text
closed_len [] = refl
closed_len (b ∷ []) = closed_one b (b == newline)
closed_len (b ∷ c ∷ text) = ap (λ (n : ℕ). cond (is_no_newline b) (1 + n) 0) (closed_len (c ∷ text))

pub line_at : (text line : List ℕ) → text ≢ [] → line ≡ first_line text → IsLineOf (Some line) (closed text)
line_at text line some is =
    subst (λ (bytes : List ℕ). IsLineOf (Some bytes) (closed text)) (sym is)
    (first-plain text, closed-cut text some ∙ ap (λ (rest : List ℕ). first_line text ++ newline ∷ rest) (sym (after_of_closed text some)))

pub some_line : (text line : List ℕ) → IsLineOf (Some line) (closed text) → text ≢ []
some_line text line is none =
    let e : 0 ≡ length (line ++ newline ∷ after_first_line (closed text)) = sym (ap (λ (bytes : List ℕ). length (closed bytes)) none) ∙ ap length is.1 in
    omega (arith, e, length-append line (newline ∷ after_first_line (closed text)))

-- the text after a line that is skipped
pub skipped : (text line after : List ℕ) → IsLineOf (Some line) (closed text) → after ≡ drop (length line + 1) text → closed after ≡ after_first_line (closed text)
skipped text line after is after_is =
    let len : length line ≡ prefix_len is_no_newline text = sym (front_len is_no_newline line (newline ∷ after_first_line (closed text)) is.0 refl) ∙ ap (prefix_len is_no_newline) (sym is.1) ∙ closed_len text in
    ap closed (after_is ∙ ap (λ (n : ℕ). drop (n + 1) text) len) ∙ sym (after_of_closed text (some_line text line is))
