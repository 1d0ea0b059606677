use Rattle.std.proofs.Common.{◌∙◌}
use Rattle.std.proofs.lemmas.Result.{on_ok_weaker}
use Rattle.st_kernel.proofs.Plays.{noted_on}
use Rattle.st_noted.proofs.Recording.{entry_drawn}
use Rattle.st_noted.proofs.steps.note_last.Goals as goal

pub returns : goal.returns
returns g c =
    on_ok_weaker c.note.result
    (λ noted old choice on adds. (let own = entry_drawn old choice c.in-Some.entry (adds ∙ c.in-Some.is) in
    noted_on (g.R.Recorder.has_noted c.args.recorder.now) (g.R.Recorder.has_noted c.note.new.self) old choice own.0 c.in-Some.entry c.args.kernel.now c.input.result.now c.session.result.now.filters on c.input.ensures c.session.ensures.filters own.1 own.2 noted))
    c.note.ensures
