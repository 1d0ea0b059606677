use Rattle.std.proofs.Common.{refl, subst, sym, true≢false}
use Rattle.st_kernel.specs.Kernel.{IsLiveNumber}
use Rattle.st_recorded.specs.Recorded.{IsTicketUsed, RecordedSoFar}
use Rattle.st_recorded.specs.declared.run.TicketUse.{TicketUse}
use Rattle.st_recorded.proofs.TicketUses.{claimed_when_ready, claimed_when_went, spent_when_idle}
use Rattle.st_recorded.proofs.recorded.RecordedRun.use_ticket.Goals.{in-Idle, in-Judge, in-Went}
use Rattle.st_recorded.proofs.recorded.RecordedRun.use_ticket.Goals as goal

pub returns-clause-used : goal.returns-clause-used
returns-clause-used g c = elim c.match-work.branch [
  | in-Idle w ↦ subst (λ (used : TicketUse). IsTicketUsed c.args.self.now c.args.worker c.args.ticket used c.work.new.self) (sym w.result-is) (spent_when_idle c.args.self.now c.args.worker c.args.ticket (subst (λ (now : RecordedSoFar). IsLiveNumber now.so_far c.args.ticket.seq) c.self.view_is (c.if-not-live.ensures.0 refl)) c.work.new.self c.work.result c.work.ensures.work w.in-Idle.is)
  | in-Judge w ↦ subst (λ (used : TicketUse). IsTicketUsed c.args.self.now c.args.worker c.args.ticket used c.work.new.self) (sym w.result-is) (claimed_when_ready c.args.self.now c.args.worker c.args.ticket (subst (λ (now : RecordedSoFar). IsLiveNumber now.so_far c.args.ticket.seq) c.self.view_is (c.if-not-live.ensures.0 refl)) c.work.new.self c.work.result c.work.ensures.work w.in-Judge.field-0 w.in-Judge.is)
  | in-Went w ↦ subst (λ (used : TicketUse). IsTicketUsed c.args.self.now c.args.worker c.args.ticket used c.work.new.self) (sym w.result-is) (claimed_when_went c.args.self.now c.args.worker c.args.ticket (subst (λ (now : RecordedSoFar). IsLiveNumber now.so_far c.args.ticket.seq) c.self.view_is (c.if-not-live.ensures.0 refl)) c.work.new.self c.work.result c.work.ensures.work w.in-Went.is)
]

-- a number that isn't live isn't used
pub returns-then-not-live-clause-used : goal.returns-then-not-live-clause-used
returns-then-not-live-clause-used g c = (
  λ live. true≢false (sym (c.if-not-live.ensures.1 (subst (λ (now : RecordedSoFar). IsLiveNumber now.so_far c.args.ticket.seq) (sym c.self.view_is) live))),
  refl,
)

pub returns-clause-skipped : goal.returns-clause-skipped
returns-clause-skipped g c = λ dead. absurd (dead (subst (λ (now : RecordedSoFar). IsLiveNumber now.so_far c.args.ticket.seq) c.self.view_is (c.if-not-live.ensures.0 refl)))
