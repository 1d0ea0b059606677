use Rattle.std.proofs.Common.{◌≡◌, take}
use Rattle.std.specs.List.{fold}
use Rattle.st_filter.specs.Formula.{And, formula}
use Rattle.st_law.specs.Sessions.{test_of}
use Rattle.st_learn.proofs.learnt.with_tests.Given as goal

-- the tests so far are joined
abbrev pub invariant-loop-arg : goal.invariant-loop-arg
invariant-loop-arg l = formula l.expr ≡ fold (λ joined arg. And joined (test_of arg)) (formula l.initial.expr) (take l.arg-index l.rest)
