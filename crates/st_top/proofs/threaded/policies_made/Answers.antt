use Rattle.std.proofs.Common.{◌∙◌, List, ap, refl, reverse, subst, sym}
use Rattle.st_audit.specs.PolicyText.{policy_text}
use Rattle.st_command.specs.declared.given.Print.TheVariants as print
use Rattle.st_kernel.specs.Kernel.{trace_of}
use Rattle.st_law.specs.History.{looking_back}
use Rattle.st_law.specs.Numbers.{drawn}
use Rattle.st_law.specs.declared.input.Input.{Input}
use Rattle.st_learn.specs.SessionIn.{IsSessionIn}
use Rattle.st_trace.specs.declared.entry.Entry.{Entry}
use Rattle.st_top.proofs.Runs.{drawn_so}
use Rattle.st_top.proofs.ThreadedRuns.{threads_show}
use Rattle.st_top.proofs.threaded.policies_made.Goals as goal

pub returns : goal.returns
returns c =
    let made = c.args.kernel.now in
    let same = c.input.ensures in
    let following : IsSessionIn (looking_back c.input.result.now (reverse (drawn (trace_of made)))) c.session.result.now =
    subst (λ (i : Input). IsSessionIn (looking_back i (reverse (drawn (trace_of made)))) c.session.result.now) (sym same) c.session.ensures in
    threads_show print.Policy c.args.emulation made.input made c.in_ok-text.text c.in_ok-schedule.schedule (c.choices_of.ensures.whole c.requires.settled) refl c.in_ok-schedule.ensures.made
    (c.in_ok-text.ensures (drawn (trace_of made)) following ∙ ap (λ (i : Input). policy_text i (drawn (trace_of made)) c.args.emulation) same
    ∙ ap (λ (trace : List Entry). policy_text made.input trace c.args.emulation) (drawn_so made.input made refl c.requires.startable))
