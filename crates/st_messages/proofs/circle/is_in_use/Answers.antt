use Rattle.std.proofs.Common.{◌≡◌, ◌∙◌, ◌||◌, true, ap, sym}
use Rattle.std.proofs.lemmas.Bool.{or_left}
use Rattle.std.specs.List.{find}
use Rattle.std.specs.Prelude.{is_some}
use Rattle.st_messages.specs.Messages.{has_seq, keeps_seq}
use Rattle.st_messages.proofs.Seqs.{used_found}
use Rattle.st_messages.proofs.circle.is_in_use.Goals as goal

pub returns-then-is_some : goal.returns-then-is_some
returns-then-is_some c =
    let live = c.args.live.now.items in
    let kept = c.args.kept.now in
    let here : is_some (find (has_seq c.args.seq) live) ≡ true = ap is_some (sym c.message_with.ensures) ∙ sym c.is_some.ensures ∙ c.if-is_some.true in
    c.if-is_some.true ∙ sym (sym (used_found live kept c.args.seq) ∙ or_left (is_some (find (has_seq c.args.seq) live)) (is_some (find (keeps_seq c.args.seq) kept)) here)

pub returns-else-is_some : goal.returns-else-is_some
returns-else-is_some c =
    c.is_some-else-is_some.ensures ∙ ap is_some c.with.ensures
    ∙ ap (λ b. b || is_some (find (keeps_seq c.args.seq) c.args.kept.now)) (sym c.if-is_some.false ∙ c.is_some.ensures ∙ ap is_some c.message_with.ensures)
    ∙ used_found c.args.live.now.items c.args.kept.now c.args.seq
