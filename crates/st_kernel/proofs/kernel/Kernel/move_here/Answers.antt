use Rattle.std.proofs.Common.{◌≡◌, ◌≤◌, ◌-◌, ◌∙◌, suc, true, false, None, refl, ap, set, sym, subst, arith}
use Rattle.st_law.specs.Machine.{thread_entry}
use Rattle.st_law.specs.State.{thread_count}
use Rattle.st_report.specs.ScheduleText.{spelled_choices}
use Rattle.st_kernel.specs.Kernel.{RunSoFar, IsChosen, IsTried, NoneMoves, state_in}
use Rattle.st_trace.specs.declared.entry.Choice.TheVariants.{Thread}
use Rattle.st_kernel.proofs.RunsSoFar.{course_from, course_marked}
use Rattle.st_kernel.proofs.kernel.Kernel.move_here.Goals as goal

pub invariant_of-self : goal.invariant_of-self
invariant_of-self c = (
  course_from c.self.inside.machine c.self.inside.made.items c.self.inside.first c.args.tid c.self.inside.asleep.items c.self.invariant.0 c.requires.from
      (subst (λ (so_far : RunSoFar). c.args.tid ≤ thread_count so_far.input) (sym c.self.view_is) c.requires.to) (subst (λ (so_far : RunSoFar). NoneMoves so_far c.args.tid) (sym c.self.view_is) c.requires.before),
  c.self.invariant.1,
)

pub invariant_of-self-2 : goal.invariant_of-self-2
invariant_of-self-2 c = (
  course_from c.self.inside.machine c.self.inside.made.items c.self.inside.first c.args.tid c.self.inside.asleep.items c.self.invariant.0 c.requires.from
      (subst (λ (so_far : RunSoFar). c.args.tid ≤ thread_count so_far.input) (sym c.self.view_is) c.requires.to) (subst (λ (so_far : RunSoFar). NoneMoves so_far c.args.tid) (sym c.self.view_is) c.requires.before),
  c.self.invariant.1,
)

pub returns-then-branch-clause-tried : goal.returns-then-branch-clause-tried
returns-then-branch-clause-tried c =
    let before : RunSoFar = record { input = c.self.inside.machine.input; choices = spelled_choices c.self.inside.made.items } in
    let chosen : IsChosen before (Thread c.args.tid) true c.choose.new.added c.choose.new.self = subst (λ moved. IsChosen before (Thread c.args.tid) moved c.choose.new.added c.choose.new.self) c.if-branch.true c.in_ok-choose.ensures.chosen in
    subst (λ (so_far : RunSoFar). IsTried so_far (Thread c.args.tid) true c.choose.new.added c.choose.new.self) c.self.view_is chosen

-- a thread that can't move is marked as asleep
pub invariant_of-self-3 : goal.invariant_of-self-3
invariant_of-self-3 c =
    let before : RunSoFar = record { input = c.self.inside.machine.input; choices = spelled_choices c.self.inside.made.items } in
    let chosen : IsChosen before (Thread c.args.tid) false c.choose.new.added c.choose.new.self = subst (λ moved. IsChosen before (Thread c.args.tid) moved c.choose.new.added c.choose.new.self) c.if-branch.false c.in_ok-choose.ensures.chosen in
    let same = c.self-2.view_is ∙ chosen.2 in
    let number : suc (c.args.tid - 1) ≡ c.args.tid = omega (arith, c.requires.from) in (
      course_marked c.self-2.inside.machine c.self-2.inside.made.items c.self-2.inside.first (c.args.tid - 1) c.self-2.inside.asleep.items (set c.self-2.inside.asleep.items (c.args.tid - 1) true) c.self-2.invariant.0 refl
          (subst (λ (so_far : RunSoFar). thread_entry so_far.input (state_in so_far) (suc (c.args.tid - 1)) ≡ None) (sym same)
          (ap (thread_entry before.input (state_in before)) number ∙ chosen.1)),
      c.self-2.invariant.1,
    )

pub returns-clause-tried : goal.returns-clause-tried
returns-clause-tried c =
    let before : RunSoFar = record { input = c.self.inside.machine.input; choices = spelled_choices c.self.inside.made.items } in
    let chosen : IsChosen before (Thread c.args.tid) false c.choose.new.added c.choose.new.self = subst (λ moved. IsChosen before (Thread c.args.tid) moved c.choose.new.added c.choose.new.self) c.if-branch.false c.in_ok-choose.ensures.chosen in (
      subst (λ (so_far : RunSoFar). thread_entry so_far.input (state_in so_far) c.args.tid ≡ None) c.self.view_is chosen.1,
      c.self-2.view_is ∙ chosen.2 ∙ c.self.view_is,
    )
