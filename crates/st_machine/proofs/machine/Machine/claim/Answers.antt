use Rattle.std.proofs.Common.{◌∙◌, sym}
use Rattle.st_trace.specs.declared.entry.Choice.TheVariants as choice
use Rattle.st_trace.specs.declared.entry.Entry.TheVariants as entry
use Rattle.st_decide.specs.Machine.{IsDrawnStep, Running}
use Rattle.st_steps.proofs.Served.{claimed, left_as, running_step, with_workers}
use Rattle.st_machine.proofs.Running.{running_of}
use Rattle.st_workers.proofs.Fewer.{fewer_same}
use Rattle.st_steps.proofs.EntryNumbers.{claimed_has}
use Rattle.st_workers.proofs.Numbered.{live_has_seq}
use Rattle.st_machine.proofs.machine.Machine.claim.Goals as goal

pub seq-seq-requires : goal.seq-seq-requires
seq-seq-requires c = live_has_seq c.claim.new.self.calls c.in_ok-drawing.drawing c.in_ok-drawing.ensures.live

abbrev old : goal.After-leave → Running
old c = running_of c.self.inside

step : (c : goal.After-leave) → IsDrawnStep (old c) (choice.Worker c.args.worker) (entry.Claimed c.args.worker c.in_ok-drawing.drawing) (with_workers (old c) c.claim.new.self)
step c = claimed (old c) c.args.worker c.claim.new.self c.in_ok-drawing.drawing c.in_ok-drawing.ensures.law c.in_ok-drawing.ensures.kept (fewer_same _ _ c.claim.ensures.numbers)

pub invariant_of-self-2 : goal.invariant_of-self-2
invariant_of-self-2 c = running_step (old c) (with_workers (old c) c.claim.new.self) (choice.Worker c.args.worker) (entry.Claimed c.args.worker c.in_ok-drawing.drawing) c.self.invariant (step c)

pub returns-clause-step : goal.returns-clause-step
returns-clause-step c = left_as (old c) _ _ c.self.view_is (choice.Worker c.args.worker) _ _ _ c.leave.ensures (step c)
    (claimed_has (old c).workers c.in_ok-drawing.drawing c.seq-seq.result (sym (c.claim.ensures.seqs c.in_ok-drawing.drawing) ∙ c.seq-seq.ensures.seq) c.args.worker)
