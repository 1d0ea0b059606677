-- The kernel's own answers by the filters of a policy and then the session's, as these are passed over.
use Rattle.std.proofs.Common.{◌≡◌, ◌<◌, ◌≤◌, ◌+◌, ◌∙◌, ◌++◌, ℕ, suc, Bool, true, false, cond, List, [], ◌∷◌, length, take, get_or, Option, Some, ap, sym, arith}
use Rattle.std.proofs.lemmas.List.{append-nil, append_assoc, take_all}
use Rattle.std.specs.Prelude.{slice_get}
use Rattle.st_calls.specs.Rules.{same_rule}
use Rattle.st_calls.specs.declared.rule.FastAnswer.{FastAnswer}
use Rattle.st_calls.specs.declared.rule.Rule.{Rule}
use Rattle.st_compile.specs.Answers.{AreAnswersBy, with_filter_for}
use Rattle.st_filter.specs.Fast.{fast_answer, first_answer}
use Rattle.st_filter.specs.Formula.{FilterValue}
use Rattle.st_filter.specs.Policies.{filters_of}
use Rattle.st_law.specs.Sessions.{SessionFilter, session_filters}
use Rattle.st_learn.specs.Sessions.{places_of}
use Rattle.st_learn.proofs.Counting.{filters_next}
use Rattle.st_learn.proofs.Filters.{filters_at, filters_found, is_of_rule, with_kind}

module _ (fs : List FilterValue) (session : List SessionFilter) where
  -- the filters of a rule: a policy's, and then those at these indices of the session
  abbrev pub filters_up_to : List ℕ → Rule → List FilterValue
  filters_up_to items rule = filters_of rule fs ++ filters_at session (is_of_rule rule) items

  pub answers_begin : (items : List ℕ) (answers : List (Option FastAnswer)) → AreAnswersBy (λ rule. filters_of rule fs) answers → AreAnswersBy (filters_up_to (take 0 items)) answers
  answers_begin items answers by rule = by rule ∙ ap first_answer (sym (append-nil (filters_of rule fs)))

  more_by : (b : Bool) (rule : Rule) (front : List FilterValue) (kept : SessionFilter) → cond b ((filters_of rule fs ++ front) ++ kept.filter ∷ []) (filters_of rule fs ++ front) ≡ filters_of rule fs ++ (front ++ cond b (kept.filter ∷ []) [])
  more_by true rule front kept = append_assoc (filters_of rule fs) front (kept.filter ∷ [])
  more_by false rule front kept = ap (λ gs. filters_of rule fs ++ gs) (sym (append-nil front))

  -- one more index
  pub answers_next : (items : List ℕ) (n : ℕ) (kept : SessionFilter) (old new : List (Option FastAnswer)) (rule : Rule) (f : FilterValue) (answer : FastAnswer) → n < length items → slice_get session (get_or items n 0) ≡ Some kept → rule ≡ kept.rule → f ≡ kept.filter
      → answer ≡ fast_answer f → ((filters : Rule → List FilterValue) (g : FilterValue) → fast_answer g ≡ answer → AreAnswersBy filters old → AreAnswersBy (with_filter_for filters rule g) new)
      → AreAnswersBy (filters_up_to (take n items)) old → AreAnswersBy (filters_up_to (take (n + 1) items)) new
  answers_next items n kept old new rule f answer inside at rule_is is answer_is appended by other =
      let next : suc n ≡ n + 1 = omega arith in
      appended (filters_up_to (take n items)) kept.filter (ap fast_answer (sym is) ∙ sym answer_is) by other
      ∙ ap first_answer (
      (λ k. cond (same_rule (rule_is k) other) (filters_up_to (take n items) other ++ kept.filter ∷ []) (filters_up_to (take n items) other))
      ∙ more_by (same_rule kept.rule other) other (filters_at session (is_of_rule other) (take n items)) kept
      ∙ ap (λ gs. filters_of other fs ++ gs) ((λ k. filters_at session (is_of_rule other) (take n items) ++ with_kind (is_of_rule other) (sym at k) []) ∙ sym (filters_next session (is_of_rule other) items n inside))
      ∙ ap (λ m. filters_up_to (take m items) other) next)

  -- all indices of a policy
  pub answers_end : (binary : List ℕ) (items : List ℕ) (n : ℕ) (answers : List (Option FastAnswer)) → items ≡ places_of session binary → length items ≤ n → AreAnswersBy (filters_up_to (take n items)) answers
      → AreAnswersBy (λ rule. filters_of rule fs ++ session_filters session binary rule) answers
  answers_end binary items n answers are past by rule =
      by rule
      ∙ ap (λ ps. first_answer (filters_up_to ps rule)) (take_all n items past)
      ∙ ap (λ gs. first_answer (filters_of rule fs ++ gs)) (filters_found session binary rule items are)
