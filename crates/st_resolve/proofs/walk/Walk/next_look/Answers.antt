use Rattle.std.proofs.Common.{◌∙◌, [], ap, sym, Some}
use Rattle.st_resolve.specs.Walk.{Walk, asked_name, walk_step, walk_from}
use Rattle.st_resolve.proofs.Walks.{asked}
use Rattle.st_resolve.proofs.walk.Walk.next_look.Goals as goal

pub returns-clause-look : goal.returns-clause-look
returns-clause-look c =
    let i = c.self.inside in
    let w : Walk = record { done = i.done; left = i.left; links = i.links; follow = i.follow; fault = i.fault } in
    ap Some c.in_ok-name.ensures
    ∙ asked w c.in-Some.part.now c.in-Some.ensures.first (λ errno e. c.requires errno (ap (λ (v : Walk). walk_step (walk_from v [])) (sym c.self.view_is) ∙ e))
    ∙ ap (λ (v : Walk). asked_name (walk_from v [])) c.self.view_is
