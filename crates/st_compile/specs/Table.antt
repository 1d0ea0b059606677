-- The kernel's own answers under each policy, computed beforehand.
use Rattle.std.specs.Prelude.{◌≡◌, ℕ, List, [], ◌∷◌, map, length, if◌then◌else◌, Option, Some, None, Vec}
use Rattle.std.specs.List.{All, position}
use Rattle.std.specs.Option.{option_or}
use Rattle.std.specs.Str.{bytes_eq}
use Rattle.std.specs.declared.alloc.Global.{Global}
use Rattle.st_calls.specs.declared.rule.FastAnswer.{FastAnswer}
use Rattle.st_calls.specs.Call.{every_rule}
use Rattle.st_filter.specs.Fast.{first_answer}
use Rattle.st_filter.specs.Formula.{FilterValue}
use Rattle.st_filter.specs.Policies.{filters_of}
use Rattle.st_filter.specs.declared.set.BinaryPolicy.{BinaryPolicy}

-- the answers under the policy of one binary, in the order of the rules
pub record BinaryAnswers : Type 0 where
  pub binary : List ℕ
  pub answers : List (Option FastAnswer)

-- the answers for each rule under these filters, in the order of the rules
abbrev pub first_answers : List FilterValue → List (Option FastAnswer)
first_answers filters = map (λ rule. first_answer (filters_of rule filters)) every_rule

-- the answers in the first row of a binary
abbrev pub binary_answers : List BinaryAnswers → List ℕ → Option (List (Option FastAnswer))
binary_answers [] binary = None
binary_answers (row ∷ rows) binary = if bytes_eq row.binary binary then Some row.answers else binary_answers rows binary

-- the number of the row of a binary, if there is one
abbrev pub answer_row : List BinaryAnswers → List ℕ → Option ℕ
answer_row rows binary = position (bytes_eq binary) (map (λ (row : BinaryAnswers). row.binary) rows)

-- the answers under the first policy of a binary
abbrev pub answers_of : List BinaryPolicy → List ℕ → Option (List (Option FastAnswer))
answers_of [] binary = None
answers_of (policy ∷ policies) binary = if bytes_eq policy.binary binary then Some (first_answers policy.filters) else answers_of policies binary

-- the new rows also have these answers for a binary, unless it had some
abbrev pub Gains : List BinaryAnswers → List ℕ → List (Option FastAnswer) → List BinaryAnswers → Type 0
Gains old binary answers new =
    (other : List ℕ) → binary_answers new other ≡ option_or (binary_answers old other) (if bytes_eq binary other then Some answers else None)

-- the rows have, for each binary, the answers under its policy
abbrev pub IsTableOf : List BinaryPolicy → List BinaryAnswers → Type 0
IsTableOf policies rows = (binary : List ℕ) → binary_answers rows binary ≡ answers_of policies binary

-- ---- the table as it is stored

-- an entry of the map: a binary and its answers
abbrev pub AnswersEntry : Type 0
AnswersEntry = Vec ℕ Global × Vec (Option FastAnswer) Global

-- the row that an entry of the map represents
abbrev pub answers_of_entry : AnswersEntry → BinaryAnswers
answers_of_entry e = record { binary = e.0.items; answers = e.1.items }

-- the rows that the map represents, in its order
abbrev pub represented_table : List AnswersEntry → List BinaryAnswers
represented_table entries = map answers_of_entry entries

-- each binary has an answer for each rule
abbrev pub AreTables : List BinaryAnswers → Type 0
AreTables rows = All (λ row. length row.answers ≡ length every_rule) rows
