use Rattle.std.proofs.Common.{◌≡◌, ◌∙◌, Err, ap, subst, sym}
use Rattle.st_replay.specs.Told.{IsOnly, TraceSoFar, entry_moved, with_added}
use Rattle.st_replay.proofs.Following.{trace_in}
use Rattle.st_replay.proofs.Moves.{moved_added, moved_lawful, moved_on, only_moved, unmoved, unmoved_lawful, unmoved_on}
use Rattle.st_replay.proofs.entries.Replay.advance.Goals as goal
use Rattle.st_replay.proofs.entries.Replay.advance.Goals.{in-Ok, in-Err-NotEnabled, in-Err-NoMemory}

pub returns-clause-added : goal.returns-clause-added
returns-clause-added c = elim c.match-advance.branch [
  | in-Ok w ↦
      rw w.result-is (subst (λ (t : TraceSoFar). c.advance.new.added ≡ entry_moved t c.args.mover) c.self.view_is
      (moved_added c.self.inside.kernel c.self.invariant c.args.mover c.choice_of_mover-choice.result c.choice_of_mover-choice.ensures c.advance.new.added w.in-Ok.ensures.entry))
  | in-Err-NotEnabled w ↦
      rw w.result-is (subst (λ (t : TraceSoFar). c.advance.new.added ≡ entry_moved t c.args.mover) c.self.view_is
      (w.in-Err-NotEnabled.ensures.no_entry (ap Err w.in-Err-NotEnabled.field-0-is) ∙ sym (unmoved c.self.inside.kernel c.self.invariant c.args.mover c.choice_of_mover-choice.result c.choice_of_mover-choice.ensures (w.in-Err-NotEnabled.ensures.not_enabled (ap Err w.in-Err-NotEnabled.field-0-is)))))
  | in-Err-NoMemory w ↦ rw w.result-is tt
]

pub returns-clause-trace : goal.returns-clause-trace
returns-clause-trace c = elim c.match-advance.branch [
  | in-Ok w ↦
      rw w.result-is (subst (λ (t : TraceSoFar). trace_in c.advance.new.self ≡ with_added t (entry_moved t c.args.mover)) c.self.view_is
      (moved_on c.self.inside.kernel c.self.invariant c.args.mover c.choice_of_mover-choice.result c.choice_of_mover-choice.ensures w.in-Ok.ensures.enabled c.advance.new.self w.in-Ok.ensures.ok))
  | in-Err-NotEnabled w ↦
      rw w.result-is (subst (λ (t : TraceSoFar). trace_in c.advance.new.self ≡ with_added t (entry_moved t c.args.mover)) c.self.view_is
      (unmoved_on c.self.inside.kernel c.self.invariant c.args.mover c.choice_of_mover-choice.result c.choice_of_mover-choice.ensures (w.in-Err-NotEnabled.ensures.not_enabled (ap Err w.in-Err-NotEnabled.field-0-is)) c.advance.new.self w.in-Err-NotEnabled.ensures.err))
  | in-Err-NoMemory w ↦ rw w.result-is tt
]

pub returns-clause-lawful : goal.returns-clause-lawful
returns-clause-lawful c = elim c.match-advance.branch [
  | in-Ok w ↦
      rw w.result-is (moved_lawful c.self.inside.kernel c.self.invariant c.args.mover c.choice_of_mover-choice.result c.choice_of_mover-choice.ensures c.advance.new.self w.in-Ok.ensures.ok)
  | in-Err-NotEnabled w ↦
      rw w.result-is (unmoved_lawful c.self.inside.kernel c.self.invariant c.args.mover c.choice_of_mover-choice.result c.choice_of_mover-choice.ensures c.advance.new.self w.in-Err-NotEnabled.ensures.err)
  | in-Err-NoMemory w ↦ rw w.result-is tt
]

pub returns-clause-only : goal.returns-clause-only
returns-clause-only c =
    subst (λ (t : TraceSoFar). IsOnly t c.args.mover (entry_moved t c.args.mover)) c.self.view_is
    (only_moved c.self.inside.kernel c.self.invariant c.args.mover c.choice_of_mover-choice.result c.choice_of_mover-choice.ensures)

pub returns-clause-kept : goal.returns-clause-kept
returns-clause-kept c = elim c.match-advance.branch [
  | in-Ok w ↦ rw w.result-is tt
  | in-Err-NotEnabled w ↦ rw w.result-is tt
  | in-Err-NoMemory w ↦ rw w.result-is (w.in-Err-NoMemory.ensures.same_place (ap Err w.in-Err-NoMemory.field-0-is))
]
