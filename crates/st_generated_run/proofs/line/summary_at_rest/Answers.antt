use Rattle.std.proofs.Common.{◌≡◌, ◌∙◌}
use Rattle.std.proofs.lemmas.Result.{IfOk-weaker}
use Rattle.std.specs.Prelude.{ℕ, List}
use Rattle.st_audit.specs.Summary.{summary_line, summary_text}
use Rattle.st_generated_run.specs.Generated.{rested_run}
use Rattle.st_generated_run.proofs.Rested.{summary_recorded}
use Rattle.st_generated_run.proofs.line.summary_at_rest.Goals as goal

pub returns : goal.returns
returns c =
    let old = c.args.kernel.now in
    let end = c.in_ok-rest.ensures in
    IfOk-weaker c.text.result (λ (line : List ℕ). line ≡ summary_line c.rest.new.recorder) (λ (line : List ℕ). line ≡ summary_text (rested_run old.input))
    (λ line is. is ∙ summary_recorded old c.rest.new.self c.new-recorder.result c.rest.new.recorder c.requires.none end.ok c.new-recorder.ensures end.noted)
    c.text.ensures
