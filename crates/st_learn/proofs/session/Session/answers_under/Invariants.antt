use Rattle.std.proofs.Common.{◌≡◌, ◌++◌, take}
use Rattle.st_compile.specs.Answers.{AreAnswersBy}
use Rattle.st_filter.specs.Policies.{filters_of}
use Rattle.st_learn.specs.Sessions.{places_of}
use Rattle.st_learn.proofs.Filters.{filters_at, is_of_rule}
use Rattle.st_learn.proofs.session.Session.answers_under.Given as goal

-- the answers are those by the policy's filters and then the session's so far
abbrev pub invariant-loop-place : goal.invariant-loop-place
invariant-loop-place l = record {
  items : l.place-items ≡ places_of l.self.filters l.block.binary;
  by : AreAnswersBy (λ rule. filters_of rule l.block.filters ++ filters_at l.self.filters (is_of_rule rule) (take l.place-index l.place-items)) l.answers;
}
