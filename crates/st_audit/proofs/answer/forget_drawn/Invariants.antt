use Rattle.std.proofs.Common.{◌≡◌, ℕ, take, fold}
use Rattle.st_audit.specs.FromHistory.{answer_after_change}
use Rattle.st_audit.specs.Ledger.{recorded_answer}
use Rattle.st_audit.proofs.answer.forget_drawn.Given as goal

-- the answers to the numbers that the changes so far draw are removed
abbrev pub invariant-loop-change : goal.invariant-loop-change
invariant-loop-change l = (n : ℕ) → recorded_answer l.answers n ≡ fold (answer_after_change n) (recorded_answer l.initial.answers n) (take l.change-index l.changes)
