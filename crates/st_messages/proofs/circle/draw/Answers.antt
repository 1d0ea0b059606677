use Rattle.std.proofs.Common.{suc, ◌≡◌, ◌∙◌, ◌-◌, ◌≤◌, arith, subst, sym}
use Rattle.st_messages.specs.Circle.{AreFreeAhead}
use Rattle.st_messages.specs.Messages.{seqs_in}
use Rattle.st_messages.proofs.CircleSearch.{ahead_rest, at_first, drawn_ahead}
use Rattle.st_messages.proofs.circle.draw.Goals as goal

ahead : (c : goal.After-number_after) → AreFreeAhead 65535 (seqs_in c.args.live.now.items c.args.kept.now) c.args.last (suc (c.args.ahead - 1))
ahead c =
    let same : c.args.ahead ≡ suc (c.args.ahead - 1) = omega (arith, c.if-ahead-eq0.false) in
    subst (AreFreeAhead 65535 (seqs_in c.args.live.now.items c.args.kept.now) c.args.last) same c.requires.ahead

within : (c : goal.After-number_after) → c.args.last ≤ 65535
within c = omega (arith, c.ranges.last.fits)

pub returns-else-ahead-eq0-clause-seq : goal.returns-else-ahead-eq0-clause-seq
returns-else-ahead-eq0-clause-seq c =
    let used = seqs_in c.args.live.now.items c.args.kept.now in
    c.number_after.ensures ∙ sym (at_first 65535 c.args.last (within c) (omega arith)) ∙ sym (drawn_ahead 65535 c.args.last (within c) used (c.args.ahead - 1) (ahead c))

pub returns-else-ahead-eq0-clause-ahead : goal.returns-else-ahead-eq0-clause-ahead
returns-else-ahead-eq0-clause-ahead c =
    let used = seqs_in c.args.live.now.items c.args.kept.now in
    subst (λ seq. AreFreeAhead 65535 used seq (c.args.ahead - 1)) (at_first 65535 c.args.last (within c) (omega arith) ∙ sym c.number_after.ensures)
    (ahead_rest 65535 c.args.last (within c) used (c.args.ahead - 1) (ahead c))
