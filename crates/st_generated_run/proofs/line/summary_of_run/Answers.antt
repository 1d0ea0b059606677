use Rattle.std.proofs.Common.{◌≡◌, ◌∙◌, ap, List}
use Rattle.std.proofs.lemmas.Result.{IfOk-weaker}
use Rattle.std.specs.Prelude.{ℕ}
use Rattle.st_law.specs.declared.input.Input.{Input}
use Rattle.st_audit.specs.Summary.{summary_text}
use Rattle.st_generated_run.specs.Generated.{rested_run}
use Rattle.st_generated_run.proofs.line.summary_of_run.Goals as goal

pub returns : goal.returns
returns c =
    IfOk-weaker c.summary_at_rest.result (λ (line : List ℕ). line ≡ summary_text (rested_run c.in_ok-kernel.kernel.input)) (λ (line : List ℕ). line ≡ summary_text (rested_run c.args.input.now))
    (λ line is. is ∙ ap (λ (i : Input). summary_text (rested_run i)) c.in_ok-kernel.ensures.input)
    c.summary_at_rest.ensures
