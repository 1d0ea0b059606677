-- A run at rest, and the summary that is recorded of it.
use Rattle.std.proofs.Common.{◌≡◌, ◌∙◌, List, [], ap, sym}
use Rattle.st_trace.specs.declared.entry.Choice.{Choice}
use Rattle.st_law.specs.Machine.{run}
use Rattle.st_law.specs.Numbers.{numbered}
use Rattle.st_kernel.specs.Kernel.{RunSoFar, drawn_of, rested, trace_of}
use Rattle.st_audit.specs.Summary.{summary_line, summary_of, summary_text}
use Rattle.st_audit.specs.declared.summary.Summary.{Summary}
use Rattle.st_audit.proofs.Counting.{numbered_summary}
use Rattle.st_generated_run.specs.Generated.{rested_run}

-- resting before the first choice gives the run of the input at rest
rested_from_start : (old : RunSoFar) → old.choices ≡ [] → drawn_of (rested old) ≡ rested_run old.input
rested_from_start old none = ap (λ (made : List Choice). drawn_of (rested (record { input = old.input; choices = made }))) none

-- what was recorded while the run rested is its summary
pub summary_recorded : (old new : RunSoFar) (before after : Summary) → old.choices ≡ [] → new ≡ rested old → before ≡ summary_of [] →
    (before ≡ summary_of (trace_of old) → after ≡ summary_of (trace_of new)) → summary_line after ≡ summary_text (rested_run old.input)
summary_recorded old new before after none rests empty noted =
    let unmade : before ≡ summary_of (trace_of old) = empty ∙ ap (λ (made : List Choice). summary_of (numbered old.input (run old.input made))) (sym none) in
    ap summary_line (noted unmade)
    ∙ ap (λ (so_far : RunSoFar). summary_text (trace_of so_far)) rests
    ∙ ap summary_line (numbered_summary old.input (drawn_of (rested old)))
    ∙ ap summary_text (rested_from_start old none)
