use Rattle.std.proofs.Common.{◌≡◌, ap, subst}
use Rattle.std.proofs.lemmas.Result.{on_ok_weaker}
use Rattle.std.specs.Prelude.{IfErr, Err}
use Rattle.st_replay.specs.declared.entries.ReplayFault.{ReplayFault}
use Rattle.st_replay.specs.Replays.{IsReplayFault}
use Rattle.st_replay.specs.Told.{IsLawfulSoFar, TraceSoFar, with_entry}
use Rattle.st_replay.proofs.Following.{trace_in}
use Rattle.st_replay.proofs.Replaying.{compared, lawful, refusal_is, taken}
use Rattle.st_replay.proofs.entries.Replay.entry.Goals as goal

pub returns-in-Err-clause-fault : goal.returns-in-Err-clause-fault
returns-in-Err-clause-fault c =
    subst (λ (t : TraceSoFar). IsReplayFault t c.args.entry.now c.refusal.result (trace_in c.advance.new.self)) c.self.view_is
    (refusal_is c.self.inside.kernel c.self.invariant c.args.entry.now c.choice_told-choice.result c.choice_told-choice.ensures c.in-Err.fault c.refusal.result c.refusal.ensures.enabled c.refusal.ensures.memory
    (λ is. c.in-Err.ensures.not_enabled (ap Err is)) c.advance.new.self c.in-Err.ensures.err)

pub returns-clause-ok : goal.returns-clause-ok
returns-clause-ok c =
    on_ok_weaker c.compare.result
    (λ same. subst (λ (t : TraceSoFar). trace_in c.advance.new.self ≡ with_entry t c.args.entry.now) c.self.view_is
    (taken c.self.inside.kernel c.self.invariant c.args.entry.now c.choice_told-choice.result c.choice_told-choice.ensures c.advance.new.added c.in_default.ensures.entry same c.advance.new.self c.in_default.ensures.ok))
    c.compare.ensures.ok

pub returns-clause-lawful : goal.returns-clause-lawful
returns-clause-lawful c =
    on_ok_weaker c.compare.result
    (λ same. subst (λ (t : TraceSoFar). IsLawfulSoFar (with_entry t c.args.entry.now)) c.self.view_is
    (lawful c.self.inside.kernel c.self.invariant c.args.entry.now c.choice_told-choice.result c.choice_told-choice.ensures c.advance.new.added c.in_default.ensures.entry same))
    c.compare.ensures.ok

pub returns-clause-fault : goal.returns-clause-fault
returns-clause-fault c =
    subst (λ (t : TraceSoFar). IfErr c.compare.result (λ (fault : ReplayFault). IsReplayFault t c.args.entry.now fault (trace_in c.advance.new.self))) c.self.view_is
    (compared c.self.inside.kernel c.self.invariant c.args.entry.now c.choice_told-choice.result c.choice_told-choice.ensures c.compare.result c.advance.new.added c.in_default.ensures.entry c.compare.ensures.differs c.compare.ensures.fault
    c.in_default.ensures.enabled c.advance.new.self c.in_default.ensures.ok)
