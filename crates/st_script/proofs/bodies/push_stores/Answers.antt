use Rattle.std.proofs.Common.{◌+◌, ◌∙◌, ap}
use Rattle.st_statements.specs.Lines.{saturated}
use Rattle.st_script.proofs.PutTexts.{stores-more}
use Rattle.st_script.proofs.bodies.push_stores.Goals as goal

pub loop-i-preserved : goal.loop-i-preserved
loop-i-preserved c = stores-more c.args.first c.args.bytes.now c.loop-i.i c.saturated-place.result c.word_at.result c.args.body.now c.loop-i.body c.push.new.self c.loop-i.invariant (c.saturated-place.ensures ∙ ap (λ n. saturated (n + c.loop-i.i)) c.from.ensures) c.word_at.ensures c.in_ok-push.ensures.ok
