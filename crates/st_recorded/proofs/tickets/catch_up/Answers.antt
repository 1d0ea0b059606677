use native.Mathlib.Omega.{arith}
use Rattle.std.proofs.Common.{◌≡◌, ◌∙◌, ◌+◌, ℕ, Option, ap, length}
use Rattle.std.specs.Prelude.{unwrap_or}
use Rattle.st_messages.specs.Tickets.{PostedTickets}
use Rattle.st_kernel.specs.Kernel.{live_number}
use Rattle.st_recorded.specs.Tickets.{ticket_number}
use Rattle.st_recorded.proofs.Posted.{posted_one_more}
use Rattle.st_recorded.proofs.tickets.catch_up.Goals as goal

pub loop-poster-preserved : goal.loop-poster-preserved
loop-poster-preserved g c =
    let next : c.unwrap_or.result ≡ ticket_number c.args.kernel.now (length c.loop-poster.poster.tickets + 1) =
    c.unwrap_or.ensures ∙ ap (λ (o : Option ℕ). unwrap_or o 0) (c.seq-seq.ensures ∙ ap (λ (n : ℕ). live_number c.args.kernel.now (n + 1)) c.posted-in-loop-poster.ensures) in
    let more = posted_one_more c.args.kernel.now c.args.poster.now.tickets c.loop-poster.poster.tickets c.post.new.self.tickets c.unwrap_or.result c.loop-poster.invariant.3 c.loop-poster.invariant.4 next
    (ap (λ (p : PostedTickets). p.tickets) c.post.ensures) in
    let count = more.0 in
    let below = c.loop-poster-test.true in
    let posted = c.posted.ensures in
    let from = c.loop-poster.invariant.3 in (
      ap (λ (p : PostedTickets). p.capacity) c.post.ensures ∙ c.loop-poster.invariant.0,
      ap (λ (p : PostedTickets). p.queue) c.post.ensures ∙ c.loop-poster.invariant.1,
      omega (arith, count, below, posted),
      omega (arith, count, from),
      more.1,
    )
