use Rattle.std.proofs.Common.{◌≡◌, ◌≤◌, ◌-◌, min, get_or, arith}
use Rattle.std.specs.List.{All}
use Rattle.st_messages.specs.Circle.{distance}
use Rattle.st_messages.specs.declared.kept.KeptNumber.{KeptNumber}
use Rattle.st_messages.specs.declared.message.Message.{Message}
use Rattle.st_messages.specs.Messages.{seqs_in}
use Rattle.st_messages.proofs.CircleSearch.{at, first_is_free, nearest-all, nearest-le, not_nearer}
use Rattle.st_messages.proofs.Seqs.{length_seqs, neither_among}
use Rattle.st_messages.proofs.circle.search.Goals as goal

pub returns-clause-ahead : goal.returns-clause-ahead
returns-clause-ahead c =
    let live = c.args.live.now.items in
    let kept = c.args.kept.now in
    let seq = c.first_free-seq.result in
    let within : seq ≤ 65535 = omega (arith, c.first_free-seq.ensures, (first_is_free 65535 c.args.last (omega (arith, c.ranges.last.fits)) (seqs_in live kept) (omega (arith, length_seqs live kept, c.requires))).1) in
    let seq_live = λ (message : Message). message.seq in
    let seq_kept = λ (number : KeptNumber). number.seq in
    let fits : c.nearest.result ≤ 65535 = omega (arith, c.nearest.ensures, nearest-le seq_live 65535 seq live) in
    let live_all : All (λ (message : Message). c.nearest.result ≤ distance 65535 seq message.seq) live =
    λ i d inside. omega (arith, c.nearest.ensures, nearest-all seq_live 65535 seq live i d inside) in
    let kept_all : All (λ (number : KeptNumber). c.nearest-2.result ≤ distance 65535 seq number.seq) kept =
    λ i d inside. omega (arith, c.nearest-2.ensures, nearest-all seq_kept 65535 seq kept i d inside) in
    let near : c.saturating_sub.result ≡ min c.nearest.result c.nearest-2.result - 1 = omega (arith, c.saturating_sub.ensures, c.min-nearest.ensures) in
    record {
      some = omega (arith, near, fits);
      free = λ k below.
          neither_among live kept (at 65535 seq k)
          (λ i d inside. not_nearer 65535 seq k c.nearest.result (get_or live i d).seq within (omega (arith, below, near, fits)) (omega (arith, below, near)) (live_all i d inside))
          (λ i d inside. not_nearer 65535 seq k c.nearest-2.result (get_or kept i d).seq within (omega (arith, below, near, fits)) (omega (arith, below, near)) (kept_all i d inside));
    }
