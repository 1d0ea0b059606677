-- The kernel's own answers under the filters for each policy and rule: those in force, and then those appended since.
use Rattle.std.specs.Prelude.{◌≡◌, ◌&&◌, ℕ, List, [], ◌∷◌, ◌++◌, get_or, if◌then◌else◌, unwrap_or, Option, None, Some}
use Rattle.std.specs.Str.{bytes_eq}
use Rattle.st_calls.specs.Call.{index_of_rule}
use Rattle.st_calls.specs.Rules.{same_rule}
use Rattle.st_calls.specs.declared.rule.FastAnswer.{FastAnswer}
use Rattle.st_calls.specs.declared.rule.Rule.{Rule}
use Rattle.st_filter.specs.Fast.{first_answer}
use Rattle.st_filter.specs.Formula.{FilterValue}
use Rattle.st_compile.specs.Table.{BinaryAnswers, binary_answers}

-- all filters for each policy and rule, in order
abbrev pub AllFilters : Type 0
AllFilters = List ℕ → Rule → List FilterValue

-- all filters after one is appended for a policy and a rule
abbrev pub with_appended : AllFilters → List ℕ → Rule → FilterValue → AllFilters
with_appended filters policy rule f other_policy other =
    if bytes_eq policy other_policy && same_rule rule other then filters other_policy other ++ f ∷ [] else filters other_policy other

-- all filters after those of one policy are replaced
abbrev pub with_policy_filters : AllFilters → List ℕ → (Rule → List FilterValue) → AllFilters
with_policy_filters filters policy own other_policy rule = if bytes_eq policy other_policy then own rule else filters other_policy rule

-- the answer for a rule, if there is one
abbrev pub answer_at : List (Option FastAnswer) → Rule → Option FastAnswer
answer_at answers rule = get_or answers (index_of_rule rule) None

-- the answers of a binary; none if it has no row
abbrev pub answers_in : List BinaryAnswers → List ℕ → List (Option FastAnswer)
answers_in rows binary = unwrap_or (binary_answers rows binary) []

-- the answer for a binary and a rule, if there is one
abbrev pub answer_in : List BinaryAnswers → List ℕ → Rule → Option FastAnswer
answer_in rows binary rule = answer_at (answers_in rows binary) rule

-- the rows have, for each binary and rule, the answer by the first of its filters
abbrev pub AreAnswersUnder : AllFilters → List BinaryAnswers → Type 0
AreAnswersUnder filters rows = (binary : List ℕ) (rule : Rule) → answer_in rows binary rule ≡ first_answer (filters binary rule)

-- the answers of one binary are, for each rule, those by the first of these filters
abbrev pub AreAnswersBy : (Rule → List FilterValue) → List (Option FastAnswer) → Type 0
AreAnswersBy filters answers = (rule : Rule) → answer_at answers rule ≡ first_answer (filters rule)

-- the filters of each rule after one is appended for a rule
abbrev pub with_filter_for : (Rule → List FilterValue) → Rule → FilterValue → Rule → List FilterValue
with_filter_for filters rule f other = if same_rule rule other then filters other ++ f ∷ [] else filters other

-- each binary and rule has the same answer as before
abbrev pub KeepsAnswers : List BinaryAnswers → List BinaryAnswers → Type 0
KeepsAnswers old new = (binary : List ℕ) (rule : Rule) → answer_in new binary rule ≡ answer_in old binary rule

-- an answer that a binary and a rule have now; the others are as before
abbrev pub ChangesAnswer : List BinaryAnswers → List ℕ → Rule → FastAnswer → List BinaryAnswers → Type 0
ChangesAnswer old binary rule answer new =
    (other_binary : List ℕ) (other : Rule) → answer_in new other_binary other ≡ (if bytes_eq binary other_binary && same_rule rule other then Some answer else answer_in old other_binary other)
