-- The pieces that are printed of a schedule.
use Rattle.std.proofs.Common.{◌≡◌, ℕ, ◌≤◌, ◌==◌, Bool, true, false, cond, List, [], ◌∷◌, ◌++◌, codes, decimal, replicate, refl, ap, sym, ◌∙◌, arith, append_assoc, append-nil, zero, suc}
use Rattle.std.specs.List.{flat_map, AllByRecursion}
use Rattle.st_base.proofs.Each.{each-parts}
use Rattle.st_lex.specs.declared.token.TokenKind.TheVariants.{Line}
use Rattle.st_lex.specs.Pieces.{Piece, PlainWord, Sign, Space, print, CanBeReadBack}
use Rattle.st_lex.proofs.Pieces.{print-append, StandWell-after}
use Rattle.st_lex.proofs.Words.{is_word_text-decimal}
use Rattle.st_trace.specs.declared.entry.Choice.{Choice}
use Rattle.st_trace.specs.declared.entry.Choice.TheVariants.{Thread, Worker, Operator}
use Rattle.st_law.specs.declared.input.TheConstants.{MOST_TIMES}
use Rattle.st_report.specs.Fields.{number_fields}
use Rattle.st_report.specs.ScheduleText.{AreJoined, choice_text, repeat_line, repeats_text, spelled_choices}
use Rattle.st_report.specs.declared.schedule.Repeat.{Repeat}
use Rattle.st_reschedule.specs.Asked.{HasSmallNumber}

-- who makes the choice
abbrev pub choice_pieces : Choice → List Piece
choice_pieces (Thread t) = PlainWord (codes "thread") ∷ Space ∷ PlainWord (decimal t) ∷ []
choice_pieces (Worker w) = PlainWord (codes "worker") ∷ Space ∷ PlainWord (decimal w) ∷ []
choice_pieces Operator = PlainWord (codes "operator") ∷ []

-- how often the choice is made, unless once
abbrev pub times_pieces : Bool → ℕ → List Piece
times_pieces true times = []
times_pieces false times = Space ∷ PlainWord (decimal times) ∷ []

-- a line, by whether its choice is made once
abbrev pub line_pieces : Bool → Choice → ℕ → List Piece
line_pieces once choice times = choice_pieces choice ++ times_pieces once times ++ Sign Line ∷ []

abbrev pub repeat_pieces : Repeat → List Piece
repeat_pieces each = line_pieces (each.times == 1) each.choice each.times

-- the lines of choices, each with how often it is made
abbrev pub repeats_pieces : List Repeat → List Piece
repeats_pieces repeats = flat_map repeat_pieces repeats

-- ---- the pieces are the text

two_fields : (a b : List ℕ) → a ++ 32 ∷ (b ++ 10 ∷ []) ≡ a ++ [] ++ 32 ∷ (b ++ []) ++ 10 ∷ []
two_fields a b =
    sym (append_assoc a (32 ∷ b) (10 ∷ [])) ∙ ap (λ (c : List ℕ). a ++ 32 ∷ c ++ 10 ∷ []) (sym (append-nil b)) ∙ ap (λ (c : List ℕ). c ++ 32 ∷ (b ++ []) ++ 10 ∷ []) (sym (append-nil a))

line_printed : (once : Bool) (c : Choice) (n : ℕ) → print (line_pieces once c n) ≡ choice_text c ++ cond once [] (number_fields (n ∷ [])) ++ codes "\n"
line_printed true (Thread t) n = simp (append_assoc, append-nil)
line_printed true (Worker w) n = simp (append_assoc, append-nil)
line_printed true Operator n = refl
line_printed false (Thread t) n = ap (λ (text : List ℕ). codes "thread " ++ text) (two_fields (decimal t) (decimal n))
line_printed false (Worker w) n = ap (λ (text : List ℕ). codes "worker " ++ text) (two_fields (decimal w) (decimal n))
line_printed false Operator n = simp (append_assoc, append-nil)

pub repeats_printed : (repeats : List Repeat) → print (repeats_pieces repeats) ≡ repeats_text repeats
repeats_printed [] = refl
repeats_printed (each ∷ repeats) =
    print-append (repeat_pieces each) (repeats_pieces repeats)
    ∙ ap (λ (text : List ℕ). text ++ print (repeats_pieces repeats)) (line_printed (each.times == 1) each.choice each.times)
    ∙ ap (λ (text : List ℕ). repeat_line each ++ text) (repeats_printed repeats)

-- ---- the pieces can be read

-- a line can be printed: its number is small, and its choice is made at least once, and not too often
pub record IsReportedOf (each : Repeat) : Type 0 where
  pub small : HasSmallNumber each.choice
  pub some : 1 ≤ each.times
  pub few : each.times ≤ MOST_TIMES

well_line : (once : Bool) (c : Choice) (n : ℕ) → HasSmallNumber c → n ≤ MOST_TIMES → CanBeReadBack (line_pieces once c n)
well_line true (Thread t) n small few = (refl, tt, (is_word_text-decimal t (omega (arith, small)), tt, (refl, tt)))
well_line true (Worker w) n small few = (refl, tt, (is_word_text-decimal w (omega (arith, small)), tt, (refl, tt)))
well_line true Operator n small few = (refl, tt, (refl, tt))
well_line false (Thread t) n small few = (refl, tt, (is_word_text-decimal t (omega (arith, small)), tt, (is_word_text-decimal n (omega (arith, few)), tt, (refl, tt))))
well_line false (Worker w) n small few = (refl, tt, (is_word_text-decimal w (omega (arith, small)), tt, (is_word_text-decimal n (omega (arith, few)), tt, (refl, tt))))
well_line false Operator n small few = (refl, tt, (is_word_text-decimal n (omega (arith, few)), tt, (refl, tt)))

pub well_repeats : (repeats : List Repeat) → AllByRecursion IsReportedOf repeats → CanBeReadBack (repeats_pieces repeats)
well_repeats [] reported = tt
well_repeats (each ∷ repeats) reported =
    StandWell-after (choice_pieces each.choice ++ times_pieces (each.times == 1) each.times) (repeats_pieces repeats) (Sign Line)
    (well_line (each.times == 1) each.choice each.times reported.0.small reported.0.few) tt (well_repeats repeats reported.1)

-- ---- joined neighbours can be printed

first_of_many : (n : ℕ) (c : Choice) → 1 ≤ n → AllByRecursion HasSmallNumber (replicate n c) → HasSmallNumber c
first_of_many zero c some small = absurd (omega (arith, some))
first_of_many (suc n) c some small = small.0

one_reported : (each : Repeat) → 1 ≤ each.times → each.times ≤ MOST_TIMES → AllByRecursion HasSmallNumber (replicate each.times each.choice) → IsReportedOf each
one_reported each some few small = record { small = first_of_many each.times each.choice some small; some = some; few = few }

pub all_reported : (repeats : List Repeat) → AreJoined repeats → AllByRecursion HasSmallNumber (spelled_choices repeats) → AllByRecursion IsReportedOf repeats
all_reported [] joined small = tt
all_reported (each ∷ []) joined small = (one_reported each joined.0 joined.1 (each-parts HasSmallNumber (replicate each.times each.choice) [] small).0, tt)
all_reported (each ∷ next ∷ repeats) joined small =
    let parts : AllByRecursion HasSmallNumber (replicate each.times each.choice) × AllByRecursion HasSmallNumber (spelled_choices (next ∷ repeats)) = each-parts HasSmallNumber (replicate each.times each.choice) (spelled_choices (next ∷ repeats)) small in
    (one_reported each joined.0 joined.1 parts.0, all_reported (next ∷ repeats) joined.3 parts.1)
