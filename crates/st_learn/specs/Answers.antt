-- What answers calls: the policies of the run judge held calls, and the kernel's own answers are by the filters in force and the session's.
use Rattle.std.specs.Prelude.{◌≡◌, ◌++◌, List}
use Rattle.st_compile.specs.Answers.{AllFilters, AreAnswersUnder, KeepsAnswers}
use Rattle.st_compile.specs.Table.{BinaryAnswers}
use Rattle.st_filter.specs.Policies.{PoliciesValue}
use Rattle.st_law.specs.Sessions.{session_filters}
use Rattle.st_law.specs.State.{State, read_at}
use Rattle.st_law.specs.declared.input.Input.{Input}

-- the policies of the run, and the kernel's own answers
pub record Answers : Type 0 where
  pub policies : PoliciesValue
  pub own : List BinaryAnswers

-- all filters for a policy and a rule: those in force, and then the session's
abbrev pub all_filters : Input → State → AllFilters
all_filters i st policy rule = read_at i st policy rule ++ session_filters st.session policy rule

-- held calls are judged by the policies of the input, and the kernel's own answers are those by the filters in force and the session's
pub record AreAnswersIn (i : Input) (st : State) (answers : Answers) : Type 0 where
  pub policies : answers.policies ≡ i.policies
  pub own : AreAnswersUnder (all_filters i st) answers.own

-- calls are answered as before
pub record KeepsAll (old new : Answers) : Type 0 where
  pub policies : new.policies ≡ old.policies
  pub own : KeepsAnswers old.own new.own
