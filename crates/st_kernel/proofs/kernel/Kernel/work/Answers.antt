use Rattle.std.proofs.Common.{◌≡◌, ◌∙◌, Some, true, false, refl, ap, sym, subst}
use Rattle.st_trace.specs.declared.entry.Choice.TheVariants.{Worker}
use Rattle.st_kernel.specs.Kernel.{IsChosen, kept_copies}
use Rattle.st_kernel.proofs.Working.{ready_enabled}
use Rattle.st_kernel.proofs.kernel.Kernel.work.Goals as goal

pub returns-in-Some-clause-work : goal.returns-in-Some-clause-work
returns-in-Some-clause-work c =
    let kept : kept_copies c.args.self.now c.args.worker ≡ Some c.in_ok-judged.judged = c.in-Some.ensures.some ∙ ap Some (sym c.in_ok-judged.ensures) in
    let enabled = ready_enabled c.args.self.now c.args.worker c.requires c.in_ok-judged.judged kept in
    (kept, enabled, refl, refl)

pub returns-then-branch-clause-work : goal.returns-then-branch-clause-work
returns-then-branch-clause-work c =
    let chosen : IsChosen c.args.self.now (Worker c.args.worker) true c.choose.new.added c.choose.new.self = subst (λ made. IsChosen c.args.self.now (Worker c.args.worker) made c.choose.new.added c.choose.new.self) c.if-branch.true c.in_ok-choose.ensures.chosen in
    (c.sealed.ensures.none c.in_default.is, chosen.0, chosen.1, chosen.2, chosen.3)

pub returns-else-branch-clause-work : goal.returns-else-branch-clause-work
returns-else-branch-clause-work c =
    let chosen : IsChosen c.args.self.now (Worker c.args.worker) false c.choose.new.added c.choose.new.self = subst (λ made. IsChosen c.args.self.now (Worker c.args.worker) made c.choose.new.added c.choose.new.self) c.if-branch.false c.in_ok-choose.ensures.chosen in
    (chosen.0, chosen.1, chosen.2)
