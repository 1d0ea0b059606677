-- The schedule line that a row of words spells.
use Rattle.std.proofs.Common.{◌≡◌, ℕ, ◌≤◌, ◌<◌, ◌^◌, Bool, true, false, cond, ◌&&◌, nat_le, List, [], ◌∷◌, codes, decimal, Some, None, option_map, option_and_then, refl, ap, sym, ◌∙◌, arith}
use Rattle.std.proofs.lemmas.Bool.{and_from, le-leb}
use Rattle.std.specs.Str.{bytes_eq}
use Rattle.st_base.specs.Number.{number_in}
use Rattle.st_lex.specs.declared.token.Token.{Token}
use Rattle.st_lex.specs.declared.token.TokenKind.{TokenKind}
use Rattle.st_lex.specs.declared.token.TokenKind.TheVariants.{Word}
use Rattle.st_lex.specs.Text.{is_keyword, is_word, text_of_token}
use Rattle.st_law.specs.declared.input.TheConstants.{MOST_TIMES}
use Rattle.st_law.specs.declared.input.What.{What}
use Rattle.st_law.specs.declared.input.What.TheVariants.{Choose}
use Rattle.st_reread.proofs.Numbers.{number_in-decimal}
use Rattle.st_schedule.specs.Schedule.{asked, schedule_count, schedule_line, thread_line, times, worker_line}
use Rattle.st_statements.specs.Lines.{saturated}
use Rattle.st_statements.specs.Values.{number_token}
use Rattle.st_trace.specs.declared.entry.Choice.TheVariants.{Thread, Worker, Operator}
use Rattle.st_reschedule.specs.Asked.{asked_line}

module _ (text : List ℕ) where
  -- a token is this Word
  pub record IsWord (token : Token) (word : List ℕ) : Type 0 where
    pub kind : token.kind ≡ Word
    pub bytes : text_of_token text token ≡ word

  keyword : (token : Token) (word other : List ℕ) → IsWord token word → is_keyword text other token ≡ bytes_eq word other
  keyword token word other is =
      ap (λ (kind : TokenKind). is_word kind && bytes_eq (text_of_token text token) other) is.kind ∙ ap (λ (bytes : List ℕ). bytes_eq bytes other) is.bytes

  number : (token : Token) (n : ℕ) → IsWord token (decimal n) → n < 2 ^ 64 → number_token text token ≡ Some n
  number token n is small =
      ap (λ (kind : TokenKind). cond (is_word kind) (number_in (text_of_token text token)) None) is.kind ∙ ap number_in is.bytes ∙ number_in-decimal n small

  -- ---- how often

  pub once_read : (n : ℕ) → n ≡ 1 → schedule_count text [] ≡ Some n
  once_read n e = ap Some (sym e)

  pub often_read : (token : Token) (n : ℕ) → IsWord token (decimal n) → 1 ≤ n → n ≤ MOST_TIMES → schedule_count text (token ∷ []) ≡ Some n
  often_read token n is some few =
      ap (option_and_then times) (number token n is (omega (arith, few)))
      ∙ ap (λ (b : Bool). cond b (Some n) None) (and_from (nat_le 1 n) (nat_le n MOST_TIMES) (le-leb 1 n some) (le-leb n MOST_TIMES few))

  asked_times : (line : ℕ) (what : What) (count : List Token) (n : ℕ) → schedule_count text count ≡ Some n → asked text line what count ≡ Some (asked_line what n line)
  asked_times line what count n e = ap (option_map (λ n. asked_line what n line)) e

  -- ---- whose choice

  small_kept : (n : ℕ) → n < 2 ^ 32 → saturated n ≡ n
  small_kept n small = grind (arith, small)

  by_thread : (token : Token) (more : List Token) → IsWord token (codes "thread") → schedule_line text (token ∷ more) ≡ thread_line text token.line more
  by_thread token more is = let e : is_keyword text (codes "thread") token ≡ true = keyword token (codes "thread") (codes "thread") is in rw e refl

  by_worker : (token : Token) (more : List Token) → IsWord token (codes "worker") → schedule_line text (token ∷ more) ≡ worker_line text token.line more
  by_worker token more is =
      let no : is_keyword text (codes "thread") token ≡ false = keyword token (codes "worker") (codes "thread") is in
      let e : is_keyword text (codes "worker") token ≡ true = keyword token (codes "worker") (codes "worker") is in
      rw (no, e) refl

  by_operator : (token : Token) (more : List Token) → IsWord token (codes "operator") → schedule_line text (token ∷ more) ≡ asked text token.line (Choose Operator) more
  by_operator token more is =
      let no : is_keyword text (codes "thread") token ≡ false = keyword token (codes "operator") (codes "thread") is in
      let nor : is_keyword text (codes "worker") token ≡ false = keyword token (codes "operator") (codes "worker") is in
      let e : is_keyword text (codes "operator") token ≡ true = keyword token (codes "operator") (codes "operator") is in
      rw (no, nor, e) refl

  pub thread_read : (token next : Token) (count : List Token) (t n : ℕ) → IsWord token (codes "thread") → IsWord next (decimal t) → t < 2 ^ 32 → schedule_count text count ≡ Some n → schedule_line text (token ∷ next ∷ count) ≡ Some (asked_line (Choose (Thread t)) n token.line)
  thread_read token next count t n word is small e =
      by_thread token (next ∷ count) word
      ∙ ap (option_and_then (λ n. asked text token.line (Choose (Thread (saturated n))) count)) (number next t is (omega (arith, small)))
      ∙ ap (λ n. asked text token.line (Choose (Thread n)) count) (small_kept t small)
      ∙ asked_times token.line (Choose (Thread t)) count n e

  pub worker_read : (token next : Token) (count : List Token) (w n : ℕ) → IsWord token (codes "worker") → IsWord next (decimal w) → w < 2 ^ 32 → schedule_count text count ≡ Some n → schedule_line text (token ∷ next ∷ count) ≡ Some (asked_line (Choose (Worker w)) n token.line)
  worker_read token next count w n word is small e =
      by_worker token (next ∷ count) word
      ∙ ap (option_and_then (λ n. asked text token.line (Choose (Worker (saturated n))) count)) (number next w is (omega (arith, small)))
      ∙ ap (λ n. asked text token.line (Choose (Worker n)) count) (small_kept w small)
      ∙ asked_times token.line (Choose (Worker w)) count n e

  pub operator_read : (token : Token) (count : List Token) (n : ℕ) → IsWord token (codes "operator") → schedule_count text count ≡ Some n → schedule_line text (token ∷ count) ≡ Some (asked_line (Choose Operator) n token.line)
  operator_read token count n word e = by_operator token count word ∙ asked_times token.line (Choose Operator) count n e
