use Rattle.std.proofs.Common.{suc, ◌≡◌, ◌∙◌, add-one, ap, sym}
use Rattle.st_messages.specs.Messages.{HeldCalls, calls_after_post}
use Rattle.bench_parts.proofs.Posted.{counted, posted}
use Rattle.bench_parts.proofs.claims.waiting.Goals as goal

pub loop-tid-preserved : goal.loop-tid-preserved
loop-tid-preserved c =
    let old = c.loop-tid.messages in
    let tid = c.loop-tid.tid in
    let is : c.post.new.self ≡ calls_after_post old tid = c.in_ok-post.ensures.ok in (
      ap (λ (calls : HeldCalls). calls.workers) is ∙ c.loop-tid.invariant.0,
      ap (λ (calls : HeldCalls). calls.next) is ∙ ap suc (c.loop-tid.invariant.1 ∙ sym (add-one tid)),
      counted old c.post.new.self tid tid is c.loop-tid.invariant.2,
      posted old c.post.new.self tid c.loop-tid.invariant.3 is,
    )
