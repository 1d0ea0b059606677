use Rattle.std.proofs.Common.{◌≡◌, ◌∙◌, List, Option, Some, ap, refl, sym, subst}
use Rattle.st_calls.specs.declared.argument.ArgText.{ArgText}
use Rattle.st_calls.specs.declared.judged.Snapshot.{Snapshot}
use Rattle.st_exec_fs.specs.Open.{IsNoLink}
use Rattle.st_names.specs.Name.{Components}
use Rattle.st_law.specs.Machine.{permitted_entry}
use Rattle.st_workers.specs.Refinement.{drawn_copies}
use Rattle.st_system.specs.Fit.{first_name}
use Rattle.st_decide.specs.Machine.{Running}
use Rattle.st_decide.specs.NextSteps.{CanBeDone, IsFit, IsInProcess, IsPermittedStep}
use Rattle.st_decide.specs.Step.{step_entry}
use Rattle.st_decide.specs.declared.step.Step.{Step}
use Rattle.st_decide.specs.declared.step.Step.TheVariants as steps
use Rattle.st_decide.specs.declared.step.ReadyCall.{ReadyCall}
use Rattle.st_decide.proofs.Fits.{copies_fit}
use Rattle.st_decide.proofs.NextSteps.{permitted_is, shared_are}
use Rattle.st_decide.proofs.Running.{running_of}
use Rattle.st_decide.proofs.view.View.permitted_step.Goals as goal

pub returns-in-Some-clause-step : goal.returns-in-Some-clause-step
returns-in-Some-clause-step c =
    let m : Running = running_of c.self.inside in
    let copies : Snapshot = c.get-copies.result.now in
    let drawn : Snapshot = drawn_copies c.args.drawing copies in
    let sealed = shared_are m c.args.drawing (drawn_copies c.args.drawing c.snapshot-shared.result.now) drawn (ap (drawn_copies c.args.drawing) c.get-copies.ensures) c.snapshot-shared.ensures.law in
    let next : IsPermittedStep m c.args.caller.tid c.args.drawing c.args.ids c.deny.result = λ st is s s_is.
    permitted_is m st is c.args.caller.tid c.args.drawing c.args.ids drawn s c.as_slice.result.now c.in_ok-link.link m.input.options.aliasing sealed c.in_ok-link.ensures.link refl c.as_slice.ensures s_is
    ∙ ap (λ (o : Option Components). Some (permitted_entry m.input st c.args.caller.tid c.args.drawing drawn c.args.ids o)) c.in-Some.is
    ∙ ap (step_entry m.input st c.args.caller.tid) (sym c.deny.ensures) in
    subst (λ (k : Running). IsPermittedStep k c.args.caller.tid c.args.drawing c.args.ids c.deny.result) c.self.view_is next

pub returns-in_ok-share-in-None-clause-step : goal.returns-in_ok-share-in-None-clause-step
returns-in_ok-share-in-None-clause-step c =
    let m : Running = running_of c.self.inside in
    let copies : Snapshot = c.get-copies.result.now in
    let drawn : Snapshot = drawn_copies c.args.drawing copies in
    let sealed = shared_are m c.args.drawing (drawn_copies c.args.drawing c.snapshot-shared.result.now) drawn (ap (drawn_copies c.args.drawing) c.get-copies.ensures) c.snapshot-shared.ensures.law in
    let ready : List ArgText → Step = λ args. steps.Make (record { pid = c.args.caller.pid; drawing = Some c.args.drawing; call = copies.call; regs = copies.regs; args = args; ids = c.args.ids }) in
    let step : Step = ready copies.parts in
    let next : IsPermittedStep m c.args.caller.tid c.args.drawing c.args.ids step = λ st is s s_is.
    permitted_is m st is c.args.caller.tid c.args.drawing c.args.ids drawn s c.as_slice.result.now c.in_ok-link.link m.input.options.aliasing sealed c.in_ok-link.ensures.link refl c.as_slice.ensures s_is
    ∙ ap (λ (o : Option Components). Some (permitted_entry m.input st c.args.caller.tid c.args.drawing drawn c.args.ids o)) c.in-None.is in
    let held : copies.parts ≡ c.judged.result = ap (λ (s : Snapshot). s.parts) (c.get-copies.ensures ∙ sym c.in_ok-share-in-None.ensures) ∙ sym c.judged.ensures in
    subst (λ (args : List ArgText). IsPermittedStep c.args.self.now c.args.caller.tid c.args.drawing c.args.ids (ready args)) held
    (subst (λ (k : Running). IsPermittedStep k c.args.caller.tid c.args.drawing c.args.ids step) c.self.view_is next)

pub returns-in-Some-clause-can : goal.returns-in-Some-clause-can
returns-in-Some-clause-can c = subst (CanBeDone c.args.self.now.system c.args.caller.tid) (sym c.deny.ensures) tt

pub returns-in_ok-share-in-None-clause-can : goal.returns-in_ok-share-in-None-clause-can
returns-in_ok-share-in-None-clause-can c =
    let m : Running = running_of c.self.inside in
    let copies : Snapshot = c.get-copies.result.now in
    let drawn : Snapshot = drawn_copies c.args.drawing copies in
    let sealed = shared_are m c.args.drawing (drawn_copies c.args.drawing c.snapshot-shared.result.now) drawn (ap (drawn_copies c.args.drawing) c.get-copies.ensures) c.snapshot-shared.ensures.law in
    let ready : List ArgText → ReadyCall = λ args. record { pid = c.args.caller.pid; drawing = Some c.args.drawing; call = copies.call; regs = copies.regs; args = args; ids = c.args.ids } in
    let held : copies.parts ≡ c.judged.result = ap (λ (s : Snapshot). s.parts) (c.get-copies.ensures ∙ sym c.in_ok-share-in-None.ensures) ∙ sym c.judged.ensures in
    let fit : IsFit m.system c.args.caller.tid (ready copies.parts) = record {
      caller = subst (λ (k : Running). IsInProcess k.system c.args.caller.tid c.args.caller.pid) (sym c.self.view_is) c.requires.process;
      fit = copies_fit m c.self.invariant.state c.self.invariant.is c.args.drawing drawn (sealed m.input c.self.invariant.state c.self.invariant.is.workers);
      unlinked = λ follow. subst (λ (args : List ArgText). IsNoLink m.system.tree (first_name args)) c.as_slice.ensures (c.in_ok-link.ensures.unlinked c.in-None.is follow);
    } in
    subst (λ (args : List ArgText). IsFit c.args.self.now.system c.args.caller.tid (ready args)) held (subst (λ (k : Running). IsFit k.system c.args.caller.tid (ready copies.parts)) c.self.view_is fit)
