-- What a worker did by a ticket, from what it did.
use Rattle.std.proofs.Common.{◌≡◌, ◌∙◌, ◌≢◌, ℕ, inl, inr, subst, sym}
use Rattle.st_calls.specs.declared.judged.Snapshot.{Snapshot}
use Rattle.st_messages.specs.declared.ticket.Ticket.{Ticket}
use Rattle.st_kernel.specs.declared.runners.Work.{Work}
use Rattle.st_kernel.specs.declared.runners.Work.TheVariants.{Idle, Judge, Went}
use Rattle.st_kernel.specs.Kernel.{IsLiveNumber}
use Rattle.st_recorded.specs.declared.run.TicketUse.TheVariants.{Claimed, Spent}
use Rattle.st_recorded.specs.Recorded.{IsTicketUsed, IsWorkRecorded, RecordedSoFar}

module _ (old : RecordedSoFar) (worker : ℕ) (ticket : Ticket) (live : IsLiveNumber old.so_far ticket.seq) (new : RecordedSoFar) (work : Work) (recorded : IsWorkRecorded old worker work new) where
  pub spent_when_idle : work ≡ Idle → IsTicketUsed old worker ticket Spent new
  spent_when_idle is = (live, subst (λ (w : Work). IsWorkRecorded old worker w new) is recorded)

  claimed_unless_idle : work ≢ Idle → IsTicketUsed old worker ticket Claimed new
  claimed_unless_idle other = by recorded where
    by : IsWorkRecorded old worker work new → IsTicketUsed old worker ticket Claimed new
    by (inl done) = (live, (work, other, done))
    by (inr (idle, stopped)) = absurd (other idle)

  judge_acts : (copies : Snapshot) → Judge copies ≢ Idle
  judge_acts copies e = cc

  went_acts : Went ≢ Idle
  went_acts e = cc

  pub claimed_when_ready : (copies : Snapshot) → work ≡ Judge copies → IsTicketUsed old worker ticket Claimed new
  claimed_when_ready copies is = claimed_unless_idle (λ idle. judge_acts copies (sym is ∙ idle))

  pub claimed_when_went : work ≡ Went → IsTicketUsed old worker ticket Claimed new
  claimed_when_went is = claimed_unless_idle (λ idle. went_acts (sym is ∙ idle))
