use Rattle.std.proofs.Common.{◌∙◌, Some, ap, sym, subst}
use Rattle.st_law.specs.Inputs.{IsStartable}
use Rattle.st_law.specs.Schedules.{line_played}
use Rattle.st_law.specs.declared.input.What.{What}
use Rattle.st_kernel.specs.Kernel.{RunSoFar, played_so_far}
use Rattle.st_kernel.proofs.Plays.{rest_stands}
use Rattle.st_kernel.proofs.kernel.Kernel.play_line.Goals as goal

pub returns-in_ok-rest-in-Rest-clause-ok : goal.returns-in_ok-rest-in-Rest-clause-ok
returns-in_ok-rest-in-Rest-clause-ok g c =
    let old = c.args.self.now in
    let over = c.in_ok-rest-in-Rest.ensures.ok in
    ap (λ (what : What). line_played what c.args.line.count old.input (played_so_far old)) c.in-Rest.is
    ∙ rest_stands old.input old.choices c.args.line.count (subst (λ (so_far : RunSoFar). IsStartable so_far.input) over c.in_ok-rest-in-Rest.ensures.played.startable)
    ∙ ap (λ (so_far : RunSoFar). Some (played_so_far so_far)) (sym over)
