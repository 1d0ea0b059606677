use Rattle.std.proofs.Common.{◌≡◌, ◌≤◌, ℕ, List, take, length}
use Rattle.st_law.specs.Sessions.{session_filters}
use Rattle.st_learn.specs.Sessions.{places_of}
use Rattle.st_learn.proofs.Filters.{filters_at, is_of_rule}
use Rattle.st_learn.proofs.session.Session.count_at.Given as goal

-- no filter that was passed is of the rule
abbrev pub invariant-loop-left : goal.invariant-loop-left
invariant-loop-left l = record {
  within : l.left ≤ length l.places;
  counted : (policy : List ℕ) → l.places ≡ places_of l.self.filters policy → length (filters_at l.self.filters (is_of_rule l.rule) (take l.left l.places)) ≡ length (session_filters l.self.filters policy l.rule);
}

abbrev pub decreases-loop-left : goal.decreases-loop-left
decreases-loop-left l = l.left
