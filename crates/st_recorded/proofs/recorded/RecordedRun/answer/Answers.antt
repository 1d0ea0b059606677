use Rattle.std.proofs.Common.{refl, subst, true≢false, Bool, true}
use Rattle.st_trace.specs.declared.entry.Choice.TheVariants.{Worker}
use Rattle.st_noted.specs.Steps.{IsAnswerTaken}
use Rattle.st_recorded.specs.Recorded.{RecordedSoFar}
use Rattle.st_recorded.proofs.Invariant.{few_posted, recorded_again, room_still}
use Rattle.st_recorded.proofs.recorded.RecordedRun.answer.Goals as goal

pub catch_up-requires-clause-room : goal.catch_up-requires-clause-room
catch_up-requires-clause-room g c = room_still g.N.RunName.input g.N.RunName.queue (g.R.Recorder.has_noted c.self.inside.recorder) (record { so_far = c.self.inside.kernel; stopped = c.self.inside.stopped }) c.self.inside.poster c.self.invariant (Worker c.args.worker) c.answer-made.new.kernel c.answer-made.ensures.step

pub catch_up-requires-clause-count : goal.catch_up-requires-clause-count
catch_up-requires-clause-count g c = few_posted g.N.RunName.input g.N.RunName.queue (g.R.Recorder.has_noted c.self.inside.recorder) (record { so_far = c.self.inside.kernel; stopped = c.self.inside.stopped }) c.self.inside.poster c.self.invariant (Worker c.args.worker) c.answer-made.new.kernel c.answer-made.ensures.step

pub invariant_of-self : goal.invariant_of-self
invariant_of-self g c = recorded_again g.N.RunName.input g.N.RunName.queue (g.R.Recorder.has_noted c.self.inside.recorder) (record { so_far = c.self.inside.kernel; stopped = c.self.inside.stopped }) c.self.inside.poster c.self.invariant (Worker c.args.worker) c.answer-made.new.kernel c.answer-made.ensures.step
    (record { so_far = c.answer-made.new.kernel; stopped = c.self.inside.stopped }) (g.R.Recorder.has_noted c.answer-made.new.recorder) c.catch_up.new.poster refl
    (λ on. (on, c.in-Ok.ensures.noted)) c.catch_up.ensures.room c.catch_up.ensures.queue c.catch_up.ensures.startable c.catch_up.ensures.posted

pub invariant_of-self-in-Err : goal.invariant_of-self-in-Err
invariant_of-self-in-Err g c = recorded_again g.N.RunName.input g.N.RunName.queue (g.R.Recorder.has_noted c.self.inside.recorder) (record { so_far = c.self.inside.kernel; stopped = c.self.inside.stopped }) c.self.inside.poster c.self.invariant (Worker c.args.worker) c.answer-made.new.kernel c.answer-made.ensures.step
    (record { so_far = c.answer-made.new.kernel; stopped = true }) (g.R.Recorder.has_noted c.answer-made.new.recorder) c.catch_up.new.poster refl
    (λ on. absurd (true≢false on)) c.catch_up.ensures.room c.catch_up.ensures.queue c.catch_up.ensures.startable c.catch_up.ensures.posted

pub returns-in-Ok-clause-taken : goal.returns-in-Ok-clause-taken
returns-in-Ok-clause-taken g c = subst (λ (now : RecordedSoFar). (taken : Bool) × IsAnswerTaken now.so_far c.args.worker c.args.judged.snapshot taken c.answer-made.new.kernel) c.self.view_is (c.in-Ok.field-0, c.in-Ok.ensures.taken)

pub returns-in-Err-clause-taken : goal.returns-in-Err-clause-taken
returns-in-Err-clause-taken g c = subst (λ (now : RecordedSoFar). (taken : Bool) × IsAnswerTaken now.so_far c.args.worker c.args.judged.snapshot taken c.answer-made.new.kernel) c.self.view_is (true, c.in-Err.ensures.unnoted)
