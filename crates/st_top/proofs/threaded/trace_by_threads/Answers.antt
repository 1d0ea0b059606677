use Rattle.std.proofs.Common.{subst}
use Rattle.st_command.specs.declared.given.Print.TheVariants as print
use Rattle.st_kernel.specs.Kernel.{trace_of}
use Rattle.st_law.specs.declared.input.Input.{Input}
use Rattle.st_report.specs.TraceText.{trace_text}
use Rattle.st_top.specs.RunEnds.{ThreadsShow}
use Rattle.st_top.proofs.ThreadedRuns.{merely_same}
use Rattle.st_top.proofs.threaded.trace_by_threads.Goals as goal

pub trace_made-requires-clause-noted : goal.trace_made-requires-clause-noted
trace_made-requires-clause-noted g c = merely_same c.in_ok-kernel.recorder (trace_text (trace_of c.in_ok-kernel.kernel)) c.in_ok-kernel.ensures.noted (λ noted. noted)

pub returns : goal.returns
returns g c emulation = subst (λ (i : Input). ThreadsShow print.Trace i emulation c.trace_made.result) c.in_ok-kernel.ensures.input (c.trace_made.ensures emulation)
