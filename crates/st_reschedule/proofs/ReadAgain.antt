-- The text that is printed of choices is read again as their lines.
use Rattle.std.proofs.Common.{◌≡◌, ℕ, suc, ◌+◌, ◌==◌, Bool, true, false, List, [], ◌∷◌, ◌++◌, codes, decimal, length, replicate, Option, Some, None, option_map, refl, ap, sym, subst, ◌∙◌, arith, append_assoc}
use Rattle.std.proofs.lemmas.Bool.{eqb-true}
use Rattle.std.proofs.lemmas.List.{length-append}
use Rattle.std.proofs.lemmas.List.Elements.{recursion_from_All}
use Rattle.std.specs.List.{AllByRecursion}
use Rattle.st_lex.specs.declared.token.Lexed.{Lexed}
use Rattle.st_lex.specs.declared.token.Token.{Token}
use Rattle.st_lex.specs.declared.token.TokenKind.TheVariants.{Word, Quoted}
use Rattle.st_lex.specs.Pieces.{Piece, PlainWord, QuotedText, Sign, Space, print, sign_bytes, SpelledToken, spelled_tokens, piece_tokens}
use Rattle.st_lex.specs.Quote.{quoted}
use Rattle.st_lex.specs.Rows.{rows}
use Rattle.st_lex.specs.Tokens.{line_after}
use Rattle.st_lex.proofs.Pieces.{print-append, spelled-tokens_at, token_at, tokens_at, tokens_from-print}
use Rattle.st_law.specs.declared.input.Input.{Input}
use Rattle.st_law.specs.declared.input.ReadSchedule.{ReadSchedule}
use Rattle.st_law.specs.declared.input.ScheduleLine.{ScheduleLine}
use Rattle.st_law.specs.declared.input.What.TheVariants.{Choose}
use Rattle.st_law.specs.Inputs.{IsStartable}
use Rattle.st_law.specs.Machine.{run}
use Rattle.st_law.specs.Schedules.{Choices, played}
use Rattle.st_law.proofs.Playing.{enabled_at_its_turn}
use Rattle.st_report.specs.ScheduleText.{schedule_lines_from, printed_schedule, repeat_of, repeats_of, schedule_text, spelled_choices}
use Rattle.st_report.specs.declared.schedule.Repeat.{Repeat}
use Rattle.st_report.proofs.PlayedAgain.{played_again}
use Rattle.st_report.proofs.Repeats.{joined, spelled_again}
use Rattle.st_schedule.specs.Schedule.{schedule_in, schedule_lines, with_line}
use Rattle.st_statements.specs.Lines.{line_of_fault, tokens_before_fault_line}
use Rattle.st_trace.specs.declared.entry.Choice.{Choice}
use Rattle.st_trace.specs.declared.entry.Choice.TheVariants.{Thread, Worker, Operator}
use Rattle.st_reschedule.specs.Asked.{HasSmallNumber, HaveSmallNumbers, asked_by, choices_asked, asked_line}
use Rattle.st_reschedule.proofs.Printed.{IsReportedOf, all_reported, line_pieces, repeat_pieces, repeats_pieces, repeats_printed, well_repeats}
use Rattle.st_reschedule.proofs.Reading.{often_read, once_read, operator_read, thread_read, worker_read}
use Rattle.st_reschedule.proofs.SmallNumbers.{small_numbers}

-- ---- the tokens of pieces after other pieces

-- the line after pieces
abbrev line_past : ℕ → List Piece → ℕ
line_past line [] = line
line_past line (PlainWord bytes ∷ pieces) = line_past line pieces
line_past line (QuotedText bytes ∷ pieces) = line_past line pieces
line_past line (Sign kind ∷ pieces) = line_past (line_after kind line) pieces
line_past line (Space ∷ pieces) = line_past line pieces

further : (at line : ℕ) (part rest : List ℕ) (pieces : List Piece) → tokens_at (at + length part + length rest) line pieces ≡ tokens_at (at + length (part ++ rest)) line pieces
further at line part rest pieces = let e : at + length part + length rest ≡ at + length (part ++ rest) = omega (arith, length-append part rest) in ap (λ (n : ℕ). tokens_at n line pieces) e

tokens_at-append : (at line : ℕ) (ps qs : List Piece) → tokens_at at line (ps ++ qs) ≡ tokens_at at line ps ++ tokens_at (at + length (print ps)) (line_past line ps) qs
tokens_at-append at line [] qs = let e : at ≡ at + 0 = omega arith in ap (λ (n : ℕ). tokens_at n line qs) e
tokens_at-append at line (PlainWord bytes ∷ ps) qs =
    ap (λ (ts : List Token). token_at Word bytes at line ∷ ts) (tokens_at-append (at + length bytes) line ps qs ∙ ap (λ (ts : List Token). tokens_at (at + length bytes) line ps ++ ts) (further at (line_past line ps) bytes (print ps) qs))
tokens_at-append at line (QuotedText bytes ∷ ps) qs =
    ap (λ (ts : List Token). token_at Quoted (quoted bytes) at line ∷ ts) (tokens_at-append (at + length (quoted bytes)) line ps qs ∙ ap (λ (ts : List Token). tokens_at (at + length (quoted bytes)) line ps ++ ts) (further at (line_past line ps) (quoted bytes) (print ps) qs))
tokens_at-append at line (Sign k ∷ ps) qs =
    ap (λ (ts : List Token). token_at k (sign_bytes k) at line ∷ ts) (tokens_at-append (at + length (sign_bytes k)) (line_after k line) ps qs ∙ ap (λ (ts : List Token). tokens_at (at + length (sign_bytes k)) (line_after k line) ps ++ ts) (further at (line_past (line_after k line) ps) (sign_bytes k) (print ps) qs))
tokens_at-append at line (Space ∷ ps) qs =
    tokens_at-append (at + 1) line ps qs ∙ ap (λ (ts : List Token). tokens_at (at + 1) line ps ++ ts) (further at (line_past line ps) (codes " ") (print ps) qs)

-- ---- a line

abbrev text_first : List SpelledToken → List ℕ
text_first [] = []
text_first (token ∷ tokens) = token.text

abbrev after_first : List SpelledToken → List SpelledToken
after_first [] = []
after_first (token ∷ tokens) = tokens

one_line_further : (line : ℕ) (once : Bool) (c : Choice) (n : ℕ) → line_past line (line_pieces once c n) ≡ line + 1
one_line_further line true (Thread t) n = refl
one_line_further line true (Worker w) n = refl
one_line_further line true Operator n = refl
one_line_further line false (Thread t) n = refl
one_line_further line false (Worker w) n = refl
one_line_further line false Operator n = refl

-- a line, between the text before it and the pieces after it
module _ (front : List ℕ) (line : ℕ) (rest : List Piece) where
  abbrev whole : Bool → Choice → ℕ → List ℕ
  whole once c n = front ++ print (line_pieces once c n ++ rest)

  -- the tokens after the line
  abbrev later : Bool → Choice → ℕ → List Token
  later once c n = tokens_at (length front + length (print (line_pieces once c n))) (line + 1) rest

  -- the tokens of the line's words
  abbrev first : List ℕ → Token
  first word = token_at Word word (length front) line

  abbrev second : List ℕ → List ℕ → Token
  second word next = token_at Word next (length front + length word + 1) line

  abbrev third : List ℕ → List ℕ → List ℕ → Token
  third word next last = token_at Word last (length front + length word + 1 + length next + 1) line

  spelled : (once : Bool) (c : Choice) (n : ℕ) → spelled_tokens (whole once c n) (tokens_at (length front) line (line_pieces once c n ++ rest)) ≡ piece_tokens (line_pieces once c n ++ rest)
  spelled once c n = spelled-tokens_at front (line_pieces once c n ++ rest) line

  -- the schedule with this line added before it
  abbrev with_read : Bool → Choice → ℕ → Option ScheduleLine → ReadSchedule
  with_read once c n read = with_line line read (schedule_lines (whole once c n) None (rows (later once c n)))

  row_read : (once : Bool) (c : Choice) (n : ℕ) → IsReportedOf (repeat_of c n) → (n == 1) ≡ once → schedule_lines (whole once c n) None (rows (tokens_at (length front) line (line_pieces once c n) ++ later once c n)) ≡ with_read once c n (Some (asked_line (Choose c) n line))
  row_read true (Thread t) n reported e =
      let all = spelled true (Thread t) n in
      ap (with_read true (Thread t) n) (thread_read (whole true (Thread t) n) (first (codes "thread")) (second (codes "thread") (decimal t)) [] t n
      (record { kind = refl; bytes = ap text_first all }) (record { kind = refl; bytes = ap (λ ts. text_first (after_first ts)) all }) reported.small (once_read (whole true (Thread t) n) n (eqb-true n 1 e)))
  row_read true (Worker w) n reported e =
      let all = spelled true (Worker w) n in
      ap (with_read true (Worker w) n) (worker_read (whole true (Worker w) n) (first (codes "worker")) (second (codes "worker") (decimal w)) [] w n
      (record { kind = refl; bytes = ap text_first all }) (record { kind = refl; bytes = ap (λ ts. text_first (after_first ts)) all }) reported.small (once_read (whole true (Worker w) n) n (eqb-true n 1 e)))
  row_read true Operator n reported e =
      let all = spelled true Operator n in
      ap (with_read true Operator n) (operator_read (whole true Operator n) (first (codes "operator")) [] n
      (record { kind = refl; bytes = ap text_first all }) (once_read (whole true Operator n) n (eqb-true n 1 e)))
  row_read false (Thread t) n reported e =
      let all = spelled false (Thread t) n in
      let last = third (codes "thread") (decimal t) (decimal n) in
      ap (with_read false (Thread t) n) (thread_read (whole false (Thread t) n) (first (codes "thread")) (second (codes "thread") (decimal t)) (last ∷ []) t n
      (record { kind = refl; bytes = ap text_first all }) (record { kind = refl; bytes = ap (λ ts. text_first (after_first ts)) all }) reported.small
      (often_read (whole false (Thread t) n) last n (record { kind = refl; bytes = ap (λ ts. text_first (after_first (after_first ts))) all }) reported.some reported.few))
  row_read false (Worker w) n reported e =
      let all = spelled false (Worker w) n in
      let last = third (codes "worker") (decimal w) (decimal n) in
      ap (with_read false (Worker w) n) (worker_read (whole false (Worker w) n) (first (codes "worker")) (second (codes "worker") (decimal w)) (last ∷ []) w n
      (record { kind = refl; bytes = ap text_first all }) (record { kind = refl; bytes = ap (λ ts. text_first (after_first ts)) all }) reported.small
      (often_read (whole false (Worker w) n) last n (record { kind = refl; bytes = ap (λ ts. text_first (after_first (after_first ts))) all }) reported.some reported.few))
  row_read false Operator n reported e =
      let all = spelled false Operator n in
      let last = second (codes "operator") (decimal n) in
      ap (with_read false Operator n) (operator_read (whole false Operator n) (first (codes "operator")) (last ∷ []) n
      (record { kind = refl; bytes = ap text_first all }) (often_read (whole false Operator n) last n (record { kind = refl; bytes = ap (λ ts. text_first (after_first ts)) all }) reported.some reported.few))

  line_read : (once : Bool) (c : Choice) (n : ℕ) → IsReportedOf (repeat_of c n) → (n == 1) ≡ once → schedule_lines (whole once c n) None (rows (tokens_at (length front) line (line_pieces once c n ++ rest))) ≡ with_read once c n (Some (asked_line (Choose c) n line))
  line_read once c n reported e =
      let place : ℕ = length front + length (print (line_pieces once c n)) in
      ap (λ (ts : List Token). schedule_lines (whole once c n) None (rows ts)) (tokens_at-append (length front) line (line_pieces once c n) rest
      ∙ ap (λ (l : ℕ). tokens_at (length front) line (line_pieces once c n) ++ tokens_at place l rest) (one_line_further line once c n))
      ∙ row_read once c n reported e

-- ---- all lines

-- the schedule that is read from the tokens after a line, with the line moved to the text before them
after_line : (front row : List ℕ) (line : ℕ) (rest : List Piece) (schedule : ReadSchedule) → schedule_lines ((front ++ row) ++ print rest) None (rows (tokens_at (length (front ++ row)) (suc line) rest)) ≡ schedule
    → schedule_lines (front ++ (row ++ print rest)) None (rows (tokens_at (length front + length row) (line + 1) rest)) ≡ schedule
after_line front row line rest schedule e =
    let next : line + 1 ≡ suc line = omega arith in
    ap (λ (text : List ℕ). schedule_lines text None (rows (tokens_at (length front + length row) (line + 1) rest))) (sym (append_assoc front row (print rest)))
    ∙ ap (λ (at : ℕ). schedule_lines ((front ++ row) ++ print rest) None (rows (tokens_at at (line + 1) rest))) (sym (length-append front row))
    ∙ ap (λ (l : ℕ). schedule_lines ((front ++ row) ++ print rest) None (rows (tokens_at (length (front ++ row)) l rest))) next
    ∙ e

repeats_read : (front : List ℕ) (line : ℕ) (repeats : List Repeat) → AllByRecursion IsReportedOf repeats → schedule_lines (front ++ print (repeats_pieces repeats)) None (rows (tokens_at (length front) line (repeats_pieces repeats))) ≡ record { lines = schedule_lines_from line repeats; bad = None }
repeats_read front line [] reported = refl
repeats_read front line (each ∷ repeats) reported =
    let row : List Piece = repeat_pieces each in
    let rest : List Piece = repeats_pieces repeats in
    let read : ReadSchedule = record { lines = schedule_lines_from (suc line) repeats; bad = None } in
    let later : schedule_lines (front ++ (print row ++ print rest)) None (rows (tokens_at (length front + length (print row)) (line + 1) rest)) ≡ read =
    after_line front (print row) line rest read (repeats_read (front ++ print row) (suc line) repeats reported.1) in
    line_read front line rest (each.times == 1) each.choice each.times reported.0 refl
    ∙ ap (λ (text : List ℕ). with_line line (Some (asked_line (Choose each.choice) each.times line)) (schedule_lines (front ++ text) None (rows (tokens_at (length front + length (print row)) (line + 1) rest)))) (print-append row rest)
    ∙ ap (with_line line (Some (asked_line (Choose each.choice) each.times line))) later

-- the text of choices is read as their lines
pub lines_read : (choices : List Choice) → HaveSmallNumbers choices → schedule_in (schedule_text choices) ≡ printed_schedule choices
lines_read choices small =
    let repeats : List Repeat = repeats_of choices in
    let pieces : List Piece = repeats_pieces repeats in
    let reported : AllByRecursion IsReportedOf repeats = all_reported repeats (joined choices) (subst (AllByRecursion HasSmallNumber) (sym (spelled_again choices)) (recursion_from_All HasSmallNumber choices small)) in
    ap schedule_in (sym (repeats_printed repeats))
    ∙ ap (λ (lexed : Lexed). schedule_lines (print pieces) (line_of_fault (print pieces) lexed.fault) (rows (tokens_before_fault_line lexed))) (tokens_from-print pieces 0 1 (well_repeats repeats reported))
    ∙ repeats_read [] 1 repeats reported

-- ---- the choices that the lines ask for

asked_again : (line : ℕ) (repeats : List Repeat) → asked_by (schedule_lines_from line repeats) ≡ Some (spelled_choices repeats)
asked_again line [] = refl
asked_again line (each ∷ repeats) = ap (option_map (λ choices. replicate each.times each.choice ++ choices)) (asked_again (suc line) repeats)

pub choices_read : (choices : List Choice) → HaveSmallNumbers choices → choices_asked (schedule_in (schedule_text choices)) ≡ Some choices
choices_read choices small = ap choices_asked (lines_read choices small) ∙ asked_again 1 (repeats_of choices) ∙ ap Some (spelled_again choices)

module _ (i : Input) (startable : IsStartable i) where
  pub enabled_again : (choices : List Choice) → length (run i choices) ≡ length choices → played i (schedule_in (schedule_text choices)) ≡ Choices choices
  enabled_again choices e = ap (played i) (lines_read choices (small_numbers i startable choices e)) ∙ played_again i choices e

  pub played_twice : (schedule : ReadSchedule) (choices : List Choice) → played i schedule ≡ Choices choices → played i (schedule_in (schedule_text choices)) ≡ Choices choices
  played_twice schedule choices e = enabled_again choices (enabled_at_its_turn i schedule choices e)
