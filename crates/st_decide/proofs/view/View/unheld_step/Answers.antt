use Rattle.std.proofs.Common.{◌∙◌, List, ap, refl, sym, subst}
use Rattle.st_arguments.specs.Arguments.{arguments_progress}
use Rattle.st_calls.specs.declared.argument.ArgText.{ArgText}
use Rattle.st_exec_fs.specs.Open.{IsNoLink}
use Rattle.st_system.specs.Fit.{AreFit, first_name}
use Rattle.st_system.proofs.Fit.{step_fit}
use Rattle.st_decide.specs.Machine.{Running}
use Rattle.st_decide.specs.NextSteps.{CanBeDone}
use Rattle.st_decide.proofs.Running.{running_of}
use Rattle.st_decide.proofs.view.View.unheld_step.Goals as goal
use Rattle.st_decide.proofs.view.View.unheld_step.Goals.{in-None, in-Some}

pub returns-clause-can : goal.returns-clause-can
returns-clause-can c =
    let m : Running = running_of c.self.inside in
    let st = c.self.invariant.state in
    elim c.match-link.branch [
      | in-None w ↦ subst (CanBeDone c.args.self.now.system c.args.caller.tid) (sym w.result-is) (record {
        caller = c.requires.caller;
        fit = subst (λ (args : List ArgText). AreFit c.entered.inside.call args) (sym w.own.ensures)
            (step_fit m.input st c.args.caller.tid c.entered.inside.call c.entered.inside.regs c.in-Ready.args (c.in_ok-args.ensures m.input st c.self.invariant.is.system refl ∙ ap arguments_progress c.in-Ready.is));
        unlinked = λ follow. subst (λ (k : Running). IsNoLink k.system.tree (first_name w.own.result)) c.self.view_is
            (subst (λ (args : List ArgText). IsNoLink m.system.tree (first_name args)) (c.as_slice.ensures ∙ sym w.own.ensures) (c.in_ok-link.ensures.unlinked w.in-None.is follow));
      })
      | in-Some w ↦ subst (CanBeDone c.args.self.now.system c.args.caller.tid) (sym w.result-is) tt
    ]
