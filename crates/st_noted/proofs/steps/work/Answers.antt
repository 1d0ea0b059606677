use Rattle.std.proofs.Common.{◌∙◌, ap, refl, sym, subst, true≢false}
use Rattle.std.specs.Option.{option_map}
use Rattle.std.specs.Prelude.{is_some}
use Rattle.st_trace.specs.declared.entry.Choice.TheVariants.{Worker}
use Rattle.st_kernel.specs.Kernel.{numbered_next, state_in}
use Rattle.st_kernel.specs.Runners.{IsWork}
use Rattle.st_kernel.specs.declared.runners.Work.{Work}
use Rattle.st_kernel.specs.declared.runners.Work.TheVariants.{Idle, Judge, Went}
use Rattle.st_noted.proofs.Idle.{nobody_idle}
use Rattle.st_noted.proofs.Recording.{still_noted}
use Rattle.st_noted.proofs.Working.{work_done, work_step}
use Rattle.st_noted.proofs.steps.work.Goals as goal

-- a worker that moved has added an entry
pub note_last-requires : goal.note_last-requires
note_last-requires g c =
    let went : IsWork c.args.kernel.now c.args.worker Went c.args.added.now.entry c.work.new.added c.work.new.self = (subst (λ (w : Work). IsWork c.args.kernel.now c.args.worker w c.args.added.now.entry c.work.new.added c.work.new.self) c.in-Went.is c.in_ok-work.ensures.work) in
    ap is_some went.2

pub returns-in-Judge-clause-noted : goal.returns-in-Judge-clause-noted
returns-in-Judge-clause-noted g c = (let judge = (work_done c.args.kernel.now c.args.worker c.args.added.now.entry c.work.new.added c.work.new.self (Judge c.in-Judge.copies) (subst (λ (w : Work). IsWork c.args.kernel.now c.args.worker w c.args.added.now.entry c.work.new.added c.work.new.self) c.in-Judge.is c.in_ok-work.ensures.work)) in still_noted (g.R.Recorder.has_noted c.args.recorder.now) c.args.kernel.now c.work.new.self judge.2)

pub returns-in-Judge-clause-work : goal.returns-in-Judge-clause-work
returns-in-Judge-clause-work g c = (work_done c.args.kernel.now c.args.worker c.args.added.now.entry c.work.new.added c.work.new.self (Judge c.in-Judge.copies) (subst (λ (w : Work). IsWork c.args.kernel.now c.args.worker w c.args.added.now.entry c.work.new.added c.work.new.self) c.in-Judge.is c.in_ok-work.ensures.work))

pub returns-in-Judge-clause-step : goal.returns-in-Judge-clause-step
returns-in-Judge-clause-step g c = work_step c.args.kernel.now c.args.worker c.work.new.self (Judge c.in-Judge.copies) (work_done c.args.kernel.now c.args.worker c.args.added.now.entry c.work.new.added c.work.new.self (Judge c.in-Judge.copies) (subst (λ (w : Work). IsWork c.args.kernel.now c.args.worker w c.args.added.now.entry c.work.new.added c.work.new.self) c.in-Judge.is c.in_ok-work.ensures.work))

pub returns-in-Idle-clause-noted : goal.returns-in-Idle-clause-noted
returns-in-Idle-clause-noted g c = (let idle = (work_done c.args.kernel.now c.args.worker c.args.added.now.entry c.work.new.added c.work.new.self Idle (subst (λ (w : Work). IsWork c.args.kernel.now c.args.worker w c.args.added.now.entry c.work.new.added c.work.new.self) c.in-Idle.is c.in_ok-work.ensures.work)) in still_noted (g.R.Recorder.has_noted c.args.recorder.now) c.args.kernel.now c.work.new.self idle.1)

pub returns-in-Idle-clause-work : goal.returns-in-Idle-clause-work
returns-in-Idle-clause-work g c = (work_done c.args.kernel.now c.args.worker c.args.added.now.entry c.work.new.added c.work.new.self Idle (subst (λ (w : Work). IsWork c.args.kernel.now c.args.worker w c.args.added.now.entry c.work.new.added c.work.new.self) c.in-Idle.is c.in_ok-work.ensures.work))

pub returns-in-Idle-clause-step : goal.returns-in-Idle-clause-step
returns-in-Idle-clause-step g c = work_step c.args.kernel.now c.args.worker c.work.new.self Idle (work_done c.args.kernel.now c.args.worker c.args.added.now.entry c.work.new.added c.work.new.self Idle (subst (λ (w : Work). IsWork c.args.kernel.now c.args.worker w c.args.added.now.entry c.work.new.added c.work.new.self) c.in-Idle.is c.in_ok-work.ensures.work))

pub returns-clause-noted : goal.returns-clause-noted
returns-clause-noted g c =
    let went : IsWork c.args.kernel.now c.args.worker Went c.args.added.now.entry c.work.new.added c.work.new.self = (subst (λ (w : Work). IsWork c.args.kernel.now c.args.worker w c.args.added.now.entry c.work.new.added c.work.new.self) c.in-Went.is c.in_ok-work.ensures.work) in
    c.in_ok-note_last.ensures c.args.kernel.now (Worker c.args.worker) went.4 (ap (option_map (numbered_next c.args.kernel.now)) went.3 ∙ sym went.2)

pub returns-clause-work : goal.returns-clause-work
returns-clause-work g c = (work_done c.args.kernel.now c.args.worker c.args.added.now.entry c.work.new.added c.work.new.self Went (subst (λ (w : Work). IsWork c.args.kernel.now c.args.worker w c.args.added.now.entry c.work.new.added c.work.new.self) c.in-Went.is c.in_ok-work.ensures.work))

pub returns-clause-step : goal.returns-clause-step
returns-clause-step g c = work_step c.args.kernel.now c.args.worker c.work.new.self Went (work_done c.args.kernel.now c.args.worker c.args.added.now.entry c.work.new.added c.work.new.self Went (subst (λ (w : Work). IsWork c.args.kernel.now c.args.worker w c.args.added.now.entry c.work.new.added c.work.new.self) c.in-Went.is c.in_ok-work.ensures.work))

pub returns-in_err-note_last-clause-step : goal.returns-in_err-note_last-clause-step
returns-in_err-note_last-clause-step g c = work_step c.args.kernel.now c.args.worker c.work.new.self Went (work_done c.args.kernel.now c.args.worker c.args.added.now.entry c.work.new.added c.work.new.self Went (subst (λ (w : Work). IsWork c.args.kernel.now c.args.worker w c.args.added.now.entry c.work.new.added c.work.new.self) c.in-Went.is c.in_ok-work.ensures.work))

pub returns-then-not-has_worker-clause-work : goal.returns-then-not-has_worker-clause-work
returns-then-not-has_worker-clause-work g c = (
  nobody_idle c.args.kernel.now.input (state_in c.args.kernel.now) c.args.worker (λ there. true≢false (sym (c.if-not-has_worker.ensures.1 there))),
  refl,
)
