use Rattle.std.proofs.Common.{◌≡◌, ◌<◌, ℕ, true}
use Rattle.st_messages.specs.Circle.{is_among}
use Rattle.st_messages.specs.Messages.{seqs_in}
use Rattle.st_messages.proofs.CircleSearch.{at}
use Rattle.st_messages.proofs.circle.first_free.Given as goal

abbrev pub invariant-loop : goal.invariant-loop
invariant-loop l =
    (l.seq ≡ at 65535 l.last l.counter)
    × ((k : ℕ) → k < l.counter → is_among (seqs_in l.live.items l.kept) (at 65535 l.last k) ≡ true)
