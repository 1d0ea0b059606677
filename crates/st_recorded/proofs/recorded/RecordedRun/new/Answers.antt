use native.Mathlib.Omega.{arith}
use Rattle.std.proofs.Common.{◌≡◌, ◌∙◌, ap, length}
use Rattle.std.proofs.lemmas.Grind.{merely}
use Rattle.st_recorded.proofs.Posted.{tickets_at_first}
use Rattle.st_recorded.proofs.recorded.RecordedRun.new.Goals as goal

-- no ticket was posted
pub catch_up-requires-clause-count : goal.catch_up-requires-clause-count
catch_up-requires-clause-count g c =
    let none : length c.args.poster.tickets ≡ 0 = ap length c.requires.none in
    omega (arith, none)

pub invariant_of-result : goal.invariant_of-result
invariant_of-result g c = record {
  input = c.requires.input;
  noted = λ on. merely c.requires.noted;
  room = c.catch_up.ensures.room;
  tickets = tickets_at_first c.args.kernel c.args.poster.tickets c.catch_up.new.poster.tickets c.requires.none c.catch_up.ensures.posted;
  queue = c.catch_up.ensures.queue ∙ c.requires.queue;
}
