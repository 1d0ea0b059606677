use Rattle.std.proofs.Common.{◌∙◌, List, ap, reverse, subst, sym}
use Rattle.st_command.specs.declared.given.Print.TheVariants as print
use Rattle.st_audit.specs.PolicyText.{policy_text}
use Rattle.st_law.specs.History.{looking_back}
use Rattle.st_law.specs.Numbers.{drawn}
use Rattle.st_law.specs.declared.input.Input.{Input}
use Rattle.st_learn.specs.SessionIn.{IsSessionIn}
use Rattle.st_kernel.specs.Kernel.{trace_of}
use Rattle.st_trace.specs.declared.entry.Entry.{Entry}
use Rattle.st_top.proofs.Runs.{drawn_so, shown}
use Rattle.st_top.proofs.run.policies_of.Goals as goal

pub returns : goal.returns
returns c =
    let new = c.play.new.self in
    let end = c.in_ok-play.ensures in
    let same = c.input.ensures in
    let following : IsSessionIn (looking_back c.input.result.now (reverse (drawn (trace_of new)))) c.session.result.now =
    subst (λ (i : Input). IsSessionIn (looking_back i (reverse (drawn (trace_of new)))) c.session.result.now) (sym same) c.session.ensures in
    shown print.Policy c.args.emulation c.args.schedule.now c.args.kernel.now c.requires.none new c.in_ok-policies_text.field-0 end.input end.ok
    (c.in_ok-policies_text.ensures (drawn (trace_of new)) following ∙ ap (λ (i : Input). policy_text i (drawn (trace_of new)) c.args.emulation) same
    ∙ ap (λ (trace : List Entry). policy_text new.input trace c.args.emulation) (drawn_so c.args.kernel.now.input new end.input c.requires.startable))
